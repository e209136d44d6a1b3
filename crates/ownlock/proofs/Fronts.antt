-- A held place becomes the first of those that are out: all before it are given back and taken again.
use Rattle.std.proofs.Common.{◌≡◌, ◌≢◌, ℕ, zero, suc, ◌<◌, List, [], ◌∷◌, map, length, set, sym, refl, ap, ◌∙◌, subst, arith, eq-eqb, ne_eqb, ◌==◌, if◌then◌else◌, Bool, true, false, Option, None}
use mathlib.Core.Logic.{dite}
use mathlib.Core.Option as kernel
use mathlib.Core.Option.{some-injective, some-ne-none}
use native.Mathlib.Decide.{ℕ_discrete}
use lib.ListN.{get_elem?}
use Rattle.atomic_table.specs.Table.{Act, keeps, takes, gives, chain, Valid, homes_after, carried_after}
use Rattle.atomic_table.proofs.Lists.{set_here, set_else}
use Rattle.ownlock.specs.Words.{slot_of}
use Rattle.ownlock.specs.Seats.{At, without}
use Rattle.ownlock.specs.Invariant.{emptied}
use Rattle.ownlock.proofs.Spread.{one_slot}
use Rattle.ownlock.proofs.Without.{Apart, apart_behind}

pub at_below : {A : Type 0} (l : List A) (i : ℕ) (a : A) → At i a l → i < length l
at_below [] i a e = absurd (some-ne-none a (sym e))
at_below (x ∷ xs) zero a e = omega arith
at_below (x ∷ xs) (suc i) a e = let h = at_below xs i a e in omega arith

same_items : {A : Type 0} (xs ys : List A) → ((i : ℕ) → get_elem? xs i ≡ get_elem? ys i) → xs ≡ ys
same_items [] [] h = refl
same_items [] (y ∷ ys) h = absurd (some-ne-none y (sym (h 0)))
same_items (x ∷ xs) [] h = absurd (some-ne-none x (h 0))
same_items (x ∷ xs) (y ∷ ys) h = let one = some-injective x y (h 0) in let more = same_items xs ys (λ i. h (suc i)) in λ i. one i ∷ more i

abbrev Homes : Type 0 → Type 0
Homes V = List (kernel.Option (Option V))

module _ {V : Type 0} where
  abbrev full : kernel.Option (Option V)
  full = kernel.some None

  abbrev again : ℕ → ℕ → Act (Option V)
  again u p = chain gives (chain (takes u None) (takes p None))

  abbrev pub bring : ℕ → List (ℕ × V) → Act (Option V)
  bring p [] = keeps
  bring p (u ∷ us) = if u.0 == p then keeps else chain gives (chain (bring p us) (again (slot_of u.0) (slot_of p)))

  abbrev pair : Homes V → List (ℕ × Option V) → Homes V × List (ℕ × Option V)
  pair hs c = (hs, c)

  -- the slots of these places are out
  abbrev pub AreOut : Homes V → List (ℕ × V) → Type 0
  AreOut hs held = (a : ℕ) (u : ℕ × V) → At a u held → At (slot_of u.0) kernel.none hs

  abbrev Brings : ℕ → Homes V → List (ℕ × Option V) → Act (Option V) → List (ℕ × V) → Type 0
  Brings p hs c act left = Valid hs c act × (homes_after hs c act ≡ hs) × (carried_after c act ≡ (slot_of p, None) ∷ map emptied left)

  -- given back and taken again, two slots are out as before
  out_again : (hs : Homes V) (u p : ℕ) → u ≢ p → At u kernel.none hs → At p kernel.none hs
      → At u full (set (set hs u full) p full) × At p full (set (set (set hs u full) p full) u kernel.none) × (set (set (set (set hs u full) p full) u kernel.none) p kernel.none ≡ hs)
  out_again hs u p ne at_u at_p = (u_home, p_home, same_items _ hs each)
    where
      one : Homes V
      one = set hs u full

      two : Homes V
      two = set one p full

      three : Homes V
      three = set two u kernel.none

      u_home : At u full two
      u_home = set_else one p u full ne ∙ set_here hs u full (at_below hs u kernel.none at_u)

      p_one : At p kernel.none one
      p_one = set_else hs u p full (λ e. ne (sym e)) ∙ at_p

      p_home : At p full three
      p_home = set_else two u p kernel.none (λ e. ne (sym e)) ∙ set_here one p full (at_below one p kernel.none p_one)

      each : (q : ℕ) → get_elem? (set three p kernel.none) q ≡ get_elem? hs q
      each q = dite (ℕ_discrete q p)
          (λ e. subst (λ z. get_elem? (set three p kernel.none) z ≡ get_elem? hs z) (sym e) (set_here three p kernel.none (at_below three p full p_home) ∙ sym at_p))
          (λ far. set_else three p q kernel.none far ∙ behind q far)
        where
          behind : (q : ℕ) → q ≢ p → get_elem? three q ≡ get_elem? hs q
          behind q far = dite (ℕ_discrete q u)
              (λ e. subst (λ z. get_elem? three z ≡ get_elem? hs z) (sym e) (set_here two u kernel.none (at_below two u full u_home) ∙ sym at_u))
              (λ away. set_else two u q kernel.none away ∙ (set_else one p q full far ∙ set_else hs u q full away))

  pub brings : (p : ℕ) (held : List (ℕ × V)) (a : ℕ) (x : V) → At a (p, x) held → Apart held → (hs : Homes V) → AreOut hs held → Brings p hs (map emptied held) (bring p held) (without p held)
  brings p [] a x at apart hs out = absurd (some-ne-none (p, x) (sym at))
  brings p (u ∷ us) a x at apart hs out = dite (ℕ_discrete u.0 p)
      (λ same. subst (λ (z : Act (Option V) × List (ℕ × V)). Brings p hs (map emptied (u ∷ us)) z.0 z.1) (sym (picked true (eq-eqb u.0 p same))) (tt, refl, λ i. (slot_of (same i), None) ∷ map emptied us))
      (λ ne. subst (λ (z : Act (Option V) × List (ℕ × V)). Brings p hs (map emptied (u ∷ us)) z.0 z.1) (sym (picked false (ne_eqb u.0 p ne))) (beyond (λ a at apart hs out. brings p us a x at apart hs out) ne a at))
    where
      first_act : Act (Option V)
      first_act = chain gives (chain (bring p us) (again (slot_of u.0) (slot_of p)))

      choice : Bool → Act (Option V) × List (ℕ × V)
      choice b = ((if b then keeps else first_act), (if b then us else u ∷ without p us))

      picked : (b : Bool) → (u.0 == p) ≡ b → choice (u.0 == p) ≡ choice b
      picked b e = ap choice e

      beyond : ((a : ℕ) → At a (p, x) us → Apart us → (hs : Homes V) → AreOut hs us → Brings p hs (map emptied us) (bring p us) (without p us)) → u.0 ≢ p → (a : ℕ) → At a (p, x) (u ∷ us) → Brings p hs (map emptied (u ∷ us)) first_act (u ∷ without p us)
      beyond more ne zero at = absurd (ne (ap (λ (z : ℕ × V). z.0) (some-injective u (p, x) at)))
      beyond more ne (suc a) at = (
        (tt, (t.0, subst (λ (z : Homes V × List (ℕ × Option V)). Valid z.0 z.1 (again (slot_of u.0) (slot_of p))) (sym mid) (tt, (o.0, o.1)))),
        ap (λ (z : Homes V × List (ℕ × Option V)). homes_after z.0 z.1 (again (slot_of u.0) (slot_of p))) mid ∙ o.2,
        ap (λ (z : Homes V × List (ℕ × Option V)). carried_after z.1 (again (slot_of u.0) (slot_of p))) mid,
      )
        where
          given : Homes V
          given = set hs (slot_of u.0) full

          away : (b : ℕ) (w : ℕ × V) → At b w us → w.0 ≢ u.0
          away b w e is = let no : suc b ≡ 0 = apart (suc b) 0 w u e refl is in absurd (omega (arith, no))

          t : Brings p given (map emptied us) (bring p us) (without p us)
          t = more a at (apart_behind u us apart) given (λ b w e. set_else hs (slot_of u.0) (slot_of w.0) full (λ f. away b w e (one_slot w.0 u.0 f)) ∙ out (suc b) w e)

          mid : pair (homes_after given (map emptied us) (bring p us)) (carried_after (map emptied us) (bring p us)) ≡ pair given ((slot_of p, None) ∷ map emptied (without p us))
          mid = λ i. (t.1 i, t.2 i)

          o : At (slot_of u.0) full (set given (slot_of p) full) × At (slot_of p) full (set (set given (slot_of p) full) (slot_of u.0) kernel.none) × (set (set (set given (slot_of p) full) (slot_of u.0) kernel.none) (slot_of p) kernel.none ≡ hs)
          o = out_again hs (slot_of u.0) (slot_of p) (λ e. ne (one_slot u.0 p e)) (out 0 u refl) (out (suc a) (p, x) at)
