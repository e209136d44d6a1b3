-- The held places but one.
use Rattle.std.proofs.Common.{◌≡◌, ◌≢◌, ℕ, zero, suc, List, [], ◌∷◌, map, sym, refl, ap, ◌∙◌, subst, inl, inr, arith, eq-eqb, ne_eqb, if◌then◌else◌}
use mathlib.Core.Logic.{dite}
use mathlib.Core.Option.{some-injective, some-ne-none}
use native.Mathlib.Decide.{ℕ_discrete}
use Rattle.ownlock.specs.Rules.{IsPart}
use Rattle.ownlock.specs.Seats.{At, place_of, without}

part_self : (ps : List ℕ) → IsPart ps ps
part_self [] = tt
part_self (p ∷ ps) = inl (refl, part_self ps)

part_behind : (q : ℕ) (ps : List ℕ) → IsPart ps (q ∷ ps)
part_behind q [] = tt
part_behind q (p ∷ ps) = inr (part_self (p ∷ ps))

module _ {V : Type 0} where
  -- no two positions have one place
  abbrev pub Apart : List (ℕ × V) → Type 0
  Apart us = (a b : ℕ) (u w : ℕ × V) → At a u us → At b w us → u.0 ≡ w.0 → a ≡ b

  pub without_same : (p : ℕ) (x : ℕ × V) (xs : List (ℕ × V)) → x.0 ≡ p → without p (x ∷ xs) ≡ xs
  without_same p x xs e = ap (λ b. if b then xs else x ∷ without p xs) (eq-eqb x.0 p e)

  pub without_else : (p : ℕ) (x : ℕ × V) (xs : List (ℕ × V)) → x.0 ≢ p → without p (x ∷ xs) ≡ x ∷ without p xs
  without_else p x xs ne = ap (λ b. if b then xs else x ∷ without p xs) (ne_eqb x.0 p ne)

  pub apart_behind : (x : ℕ × V) (xs : List (ℕ × V)) → Apart (x ∷ xs) → Apart xs
  apart_behind x xs apart a b u w e f is = let h : suc a ≡ suc b = apart (suc a) (suc b) u w e f is in omega (arith, h)

  -- what is still held was held
  pub was_held : (p : ℕ) (us : List (ℕ × V)) (b : ℕ) (u : ℕ × V) → At b u (without p us) → (c : ℕ) × At c u us
  was_held p [] b u e = absurd (some-ne-none u (sym e))
  was_held p (x ∷ xs) b u e = dite (ℕ_discrete x.0 p)
      (λ same. (suc b, subst (λ l. At b u l) (without_same p x xs same) e))
      (λ ne. later (λ b e. was_held p xs b u e) b (subst (λ l. At b u l) (without_else p x xs ne) e))
    where
      later : ((b : ℕ) → At b u (without p xs) → (c : ℕ) × At c u xs) → (b : ℕ) → At b u (x ∷ without p xs) → (c : ℕ) × At c u (x ∷ xs)
      later more zero e = (0, e)
      later more (suc b) e = let t = more b e in (suc t.0, t.1)

  -- what is of another place is still held
  pub still_held : (p : ℕ) (us : List (ℕ × V)) (a : ℕ) (u : ℕ × V) → At a u us → u.0 ≢ p → (b : ℕ) × At b u (without p us)
  still_held p [] a u e ne = absurd (some-ne-none u (sym e))
  still_held p (x ∷ xs) a u e ne = dite (ℕ_discrete x.0 p)
      (λ same. here a same e)
      (λ other. let t = there (λ b f. still_held p xs b u f ne) a e in (t.0, subst (λ l. At t.0 u l) (sym (without_else p x xs other)) t.1))
    where
      here : (a : ℕ) → x.0 ≡ p → At a u (x ∷ xs) → (b : ℕ) × At b u (without p (x ∷ xs))
      here zero same e = absurd (ne (ap (λ (z : ℕ × V). z.0) (sym (some-injective x u e)) ∙ same))
      here (suc a) same e = (a, subst (λ l. At a u l) (sym (without_same p x xs same)) e)

      there : ((a : ℕ) → At a u xs → (b : ℕ) × At b u (without p xs)) → (a : ℕ) → At a u (x ∷ xs) → (b : ℕ) × At b u (x ∷ without p xs)
      there more zero e = (0, e)
      there more (suc a) e = let t = more a e in (suc t.0, t.1)

  -- the place itself is held no more
  pub not_held : (p : ℕ) (us : List (ℕ × V)) → Apart us → (b : ℕ) (u : ℕ × V) → At b u (without p us) → u.0 ≢ p
  not_held p [] apart b u e is = some-ne-none u (sym e)
  not_held p (x ∷ xs) apart b u e is = dite (ℕ_discrete x.0 p)
      (λ same. let no : 0 ≡ suc b = apart 0 (suc b) x u refl (subst (λ l. At b u l) (without_same p x xs same) e) (same ∙ sym is) in absurd (omega (arith, no)))
      (λ ne. later (λ b f. not_held p xs (apart_behind x xs apart) b u f is) b ne (subst (λ l. At b u l) (without_else p x xs ne) e))
    where
      later : ((b : ℕ) → At b u (without p xs) → ⊥) → (b : ℕ) → x.0 ≢ p → At b u (x ∷ without p xs) → ⊥
      later more zero ne e = ne (ap (λ (z : ℕ × V). z.0) (some-injective x u e) ∙ is)
      later more (suc b) ne e = more b e

  pub apart_without : (p : ℕ) (us : List (ℕ × V)) → Apart us → Apart (without p us)
  apart_without p [] apart = apart
  apart_without p (x ∷ xs) apart = dite (ℕ_discrete x.0 p)
      (λ same. subst (λ l. Apart l) (sym (without_same p x xs same)) (apart_behind x xs apart))
      (λ ne. subst (λ l. Apart l) (sym (without_else p x xs ne)) (both (apart_without p xs (apart_behind x xs apart))))
    where
      crossed : (b : ℕ) (w : ℕ × V) → At b w (without p xs) → x.0 ≢ w.0
      crossed b w f is = let t = was_held p xs b w f in let no : 0 ≡ suc t.0 = apart 0 (suc t.0) x w refl t.1 is in absurd (omega (arith, no))

      both : Apart (without p xs) → Apart (x ∷ without p xs)
      both more zero zero u w e f is = refl
      both more zero (suc b) u w e f is = absurd (crossed b w f (ap (λ (z : ℕ × V). z.0) (some-injective x u e) ∙ is))
      both more (suc a) zero u w e f is = absurd (crossed a u e (ap (λ (z : ℕ × V). z.0) (some-injective x w f) ∙ sym is))
      both more (suc a) (suc b) u w e f is = ap suc (more a b u w e f is)

  pub part_of : (p : ℕ) (us : List (ℕ × V)) → IsPart (map place_of (without p us)) (map place_of us)
  part_of p [] = tt
  part_of p (x ∷ xs) = dite (ℕ_discrete x.0 p)
      (λ same. subst (λ l. IsPart (map place_of l) (x.0 ∷ map place_of xs)) (sym (without_same p x xs same)) (part_behind x.0 (map place_of xs)))
      (λ ne. subst (λ l. IsPart (map place_of l) (x.0 ∷ map place_of xs)) (sym (without_else p x xs ne)) (inl (refl, part_of p xs)))
