-- A place that one session of a seat holds alone: its slot is the only one that is out.
use Rattle.std.proofs.Common.{◌≡◌, ℕ, zero, suc, List, [], ◌∷◌, ◌++◌, map, get_or, sym, refl, ap, ◌∙◌, Option, Some, None}
use mathlib.Core.Option.{some-injective, some-ne-none}
use Rattle.atomic_table.specs.Table.{rest}
use Rattle.ownlock.specs.declared.known.Known.{Known}
use Rattle.ownlock.specs.Words.{slot_of}
use Rattle.ownlock.specs.Seats.{Run, HoldsNone, without, putting, handed}
use Rattle.ownlock.specs.Invariant.{emptied, out_of}
use Rattle.ownlock.proofs.Keeps.{LockSeat}
use Rattle.ownlock.proofs.Seats.{none_out, none_joined}
use Rattle.ownlock.proofs.Without.{without_same}

module _ {P N V : Type 0} where
  -- the slot of the place is the only one that is out, and it is empty; then it has the value; then it is empty again
  pub only_out : (m : LockSeat P N V) (v : List (Known P N V)) (p slot : ℕ) → slot ≡ slot_of p
      → m ≡ (v, (slot_of p, None) ∷ []) → m.1 ≡ (slot, None) ∷ rest m.1
  only_out m v p slot is left = ap (λ v. v.1) left
      ∙ (ap (λ q. (q, None) ∷ []) (sym is) ∙ ap (λ v. (slot, None) ∷ rest v.1) (sym left))

  pub only_none : (m : LockSeat P N V) (v : List (Known P N V)) (p slot : ℕ) (found : Option V)
      → m ≡ (v, (slot_of p, None) ∷ []) → m.1 ≡ (slot, found) ∷ rest m.1 → found ≡ None
  only_none m v p slot found left is =
      ap (λ (l : List (ℕ × Option V)). (get_or l 0 (slot, found)).1) (sym is ∙ ap (λ v. v.1) left)

  pub only_in : (m n : LockSeat P N V) (v : List (Known P N V)) (p slot : ℕ) (y : V) → slot ≡ slot_of p
      → m ≡ (v, (slot_of p, None) ∷ []) → n ≡ (m.0, (slot, Some y) ∷ rest m.1) → n ≡ (v, (slot_of p, Some y) ∷ [])
  only_in m n v p slot y is left done = done
      ∙ (ap (λ q. (m.0, (q, Some y) ∷ rest m.1)) is ∙ ap (λ v. (v.0, (slot_of p, Some y) ∷ rest v.1)) left)

  pub only_full : (m : LockSeat P N V) (v : List (Known P N V)) (p slot : ℕ) (y : V) → slot ≡ slot_of p
      → m ≡ (v, (slot_of p, Some y) ∷ []) → m.1 ≡ (slot, Some y) ∷ rest m.1
  only_full m v p slot y is left = ap (λ v. v.1) left
      ∙ (ap (λ q. (q, Some y) ∷ []) (sym is) ∙ ap (λ v. (slot, Some y) ∷ rest v.1) (sym left))

  pub only_back : (m n : LockSeat P N V) (v : List (Known P N V)) (p slot : ℕ) (y : V) (found : Option V)
      → slot ≡ slot_of p → m ≡ (v, (slot_of p, Some y) ∷ []) → m.1 ≡ (slot, found) ∷ rest m.1
      → n ≡ (m.0, (slot, None) ∷ rest m.1)
      → (found ≡ Some y) × (n ≡ (v, (slot_of p, None) ∷ []))
  only_back m n v p slot y found is left top done = (
    ap (λ (l : List (ℕ × Option V)). (get_or l 0 (slot, found)).1) (sym top ∙ ap (λ v. v.1) left),
    done ∙ (ap (λ q. (m.0, (q, None) ∷ rest m.1)) is ∙ ap (λ v. (v.0, (slot_of p, None) ∷ rest v.1)) left),
  )

  -- what is out with a seat whose first session holds the place alone
  pub one_alone : (m : LockSeat P N V) (v : List (Known P N V)) (k z : Known P N V) (zs : List (Known P N V)) (p : ℕ)
      (x : V) → m.0 ≡ v → v ≡ k ∷ z ∷ zs → m.1 ≡ out_of m.0 → k.held ≡ (p, x) ∷ [] → HoldsNone (z ∷ zs)
      → m ≡ (k ∷ z ∷ zs, (slot_of p, None) ∷ [])
  one_alone m v k z zs p x same is out alone idle =
      let first : m.0 ≡ k ∷ z ∷ zs = same ∙ is in
      let second : m.1 ≡ (slot_of p, None) ∷ [] = out
      ∙ (ap out_of first
      ∙ (ap (λ l. map emptied l ++ out_of (z ∷ zs)) alone
      ∙ ap (λ l. (slot_of p, None) ∷ l) (none_out (z ∷ zs) idle))) in
      λ i. (first i, second i)

  -- and what is out once it has handed the place on
  pub out_handed : (k z : Known P N V) (zs : List (Known P N V)) (p : ℕ) (x y : V) (progress : P) (note : N)
      (run : Run P N V) → k.held ≡ (p, x) ∷ [] → HoldsNone (z ∷ zs)
      → out_of (handed k z zs p y progress note run) ≡ (slot_of p, None) ∷ []
  out_handed k z zs p x y progress note run alone idle =
      ap (λ l. map emptied ((p, y) ∷ l) ++ out_of (zs ++ putting k p y progress note run ∷ [])) (idle 0 z refl)
      ∙ ap (λ l. (slot_of p, None) ∷ l)
      (none_out (zs ++ putting k p y progress note run ∷ [])
      (none_joined zs (putting k p y progress note run ∷ []) (λ i q at. idle (suc i) q at) left_none))
    where
      left_none : HoldsNone (putting k p y progress note run ∷ [])
      left_none zero q at =
          ap (λ (z : Known P N V). z.held) (sym (some-injective (putting k p y progress note run) q at))
          ∙ (ap (without p) alone ∙ without_same p (p, x) [] refl)
      left_none (suc i) q at = absurd (some-ne-none q (sym at))
