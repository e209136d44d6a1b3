-- The sum's place and then the list's are taken.
use Rattle.std.proofs.Common.{◌≡◌, ℕ, List, [], ◌∷◌, sym, ap, ◌∙◌, subst}
use lib.ListN.{get_elem?}
use Rattle.ownlock.specs.declared.known.Known.{Known}
use Rattle.ownlock.specs.Seats.{At, without}
use Rattle.ownlock.specs.Knowledge.{Acquired}
use Rattle.example_sums.specs.declared.kinds.Progress.{Progress}
use Rattle.example_sums.specs.declared.kinds.Value.{Value}
use Rattle.example_sums.specs.Sums.{sum_rules, Accounts, AgreesWith, IsList, IsExtended, Follows, StartsWith}
use Rattle.example_sums.specs.Laws.{starts_on}
use Rattle.example_sums.proofs.Puts.{lists, follows}

abbrev K : Type 0
K = Known Progress ℕ Value

-- what k is by then, having taken w at the sum's place and x at the list's
pub record Both (k u : K) (w x : Value) : Type 0 where
  pub notes : List ℕ
  pub accounts : Accounts u.progress notes
  pub list : AgreesWith 0 u.progress notes x
  pub sum : AgreesWith 1 u.progress notes w
  pub held : u.held ≡ (0, x) ∷ (1, w) ∷ k.held
  pub session : u.session ≡ k.session
  pub note : u.note ≡ k.note
  pub start : StartsWith k.progress.items u.progress.items

pub both : (k t u : K) (w x : Value) → Acquired sum_rules 1 k t w → Acquired sum_rules 0 t u x → Both k u w x
both k t u w x one two = record {
  notes = two.3.0;
  accounts = subst (λ l. Accounts l two.3.0) (sym here) two.3.1.2;
  list = subst (λ l. AgreesWith 0 l two.3.0 x) (sym here) (two.3.1.3 0 (0, x) (ap (λ l. get_elem? l 0) held));
  sum = subst (λ l. AgreesWith 1 l two.3.0 w) (sym here) (two.3.1.3 1 (1, w) (ap (λ l. get_elem? l 1) held));
  held = held;
  session = ap (λ (z : K). z.session) two.1 ∙ ap (λ (z : K). z.session) one.1;
  note = ap (λ (z : K). z.note) two.1 ∙ ap (λ (z : K). z.note) one.1;
  start = subst (λ l. StartsWith k.progress.items l.items) (sym here) (starts_on k.progress.items t.progress.items two.0.items (subst (λ l. StartsWith k.progress.items l.items) (sym (ap (λ (z : K). z.progress) one.1)) one.2.0.0) two.2.0.0);
}
  where
    here : u.progress ≡ two.0
    here = ap (λ (z : K). z.progress) two.1

    held : u.held ≡ (0, x) ∷ (1, w) ∷ k.held
    held = ap (λ (z : K). z.held) two.1 ∙ ap (λ (z : K). (0, x) ∷ z.held) one.1

module _ (k u : K) (w x : Value) (b : Both k u w x) where
  pub list_at : At 0 (0, x) u.held
  list_at = ap (λ l. get_elem? l 0) b.held

  pub is_list : IsList x
  is_list = lists u.progress b.notes x b.list

  pub may_follow : (y : Value) (more : List ℕ) → IsExtended x y more → Follows y w
  may_follow y more goes = follows u.progress b.notes x y w more b.accounts b.list b.sum goes

  -- once the list is back, the sum is held
  pub sum_left : (q : ℕ) → q ≡ 0 → At 0 (1, w) (without q u.held)
  sum_left q e = ap (λ (z : ℕ × List (ℕ × Value)). get_elem? (without z.0 z.1) 0) (λ i. (e i, b.held i))

  pub nothing_left : (p q : ℕ) → p ≡ 0 → q ≡ 1 → k.held ≡ [] → without q (without p u.held) ≡ []
  nothing_left p q e f idle = ap (λ (z : ℕ × ℕ × List (ℕ × Value)). without z.1 (without z.0 z.2)) (λ i. (e i, f i, b.held i)) ∙ idle
