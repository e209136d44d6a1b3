-- The laws of the lists and sums, proved. They stand here, since an `impl` names its laws from specs.
use Rattle.std.specs.Prelude.{◌≡◌, ◌≢◌, ℕ, ◌+◌, ◌%◌, ◌^◌, ◌≤◌, zero, suc, List, [], ◌∷◌, ◌++◌, length, take, refl}
use Rattle.std.proofs.Common.{sym, ap, ◌∙◌, arith, set, length-append, append_assoc, append-nil}
use Rattle.std.proofs.Math.Nat.{le-max_left, max-le}
use mathlib.Core.Option as kernel
use mathlib.Core.Option.{some-injective, some-ne-none}
use lib.ListN.{get_elem?}
use Rattle.ownlock.specs.Rules.{Laws}
use Rattle.example_sums.specs.declared.kinds.Progress.{Progress}
use Rattle.example_sums.specs.declared.kinds.Value.{Value}
use Rattle.example_sums.specs.declared.kinds.Value.TheVariants.{List as TheList, Sum}
use Rattle.example_sums.specs.Sums.{total, StartsWith, AgreesWith, Moves, raised, sum_rules}

sum_set : (ns : List ℕ) (i n k : ℕ) → get_elem? ns i ≡ kernel.some n → total (set ns i (n + k)) ≡ total ns + k
sum_set [] i n k e = absurd (some-ne-none n (sym e))
sum_set (x ∷ xs) zero n k e = first x n k (total xs) (some-injective x n e)
  where
    first : (a b c s : ℕ) → a ≡ b → (b + c) + s ≡ (a + s) + c
    first a b c s h = omega (arith, h)
sum_set (x ∷ xs) (suc i) n k e = later x (total (set xs i (n + k))) (total xs) k (sum_set xs i n k e)
  where
    later : (a b s c : ℕ) → b ≡ s + c → a + b ≡ (a + s) + c
    later a b s c h = omega (arith, h)

pub take_front : (t : ℕ) (xs ys : List ℕ) → t ≤ length xs → take t (xs ++ ys) ≡ take t xs
take_front zero xs ys h = refl
take_front (suc t) [] ys h = absurd (omega arith)
take_front (suc t) (x ∷ xs) ys h = ap (λ l. x ∷ l) (take_front t xs ys (omega arith))

pub starts_on : (a b c : List ℕ) → StartsWith a b → StartsWith b c → StartsWith a c
starts_on a b c f g = (f.0 ++ g.0, g.1 ∙ (ap (λ l. l ++ g.0) f.1 ∙ append_assoc a f.0 g.0))

others_agree : (p q : ℕ) (l l' : Progress) (n n' : ℕ) (ns ns' : List ℕ) (y : Value) → q ≢ p → l.completed ≤ length l.items → Moves p l n l' n' → AgreesWith q l ns y → AgreesWith q l' ns' y
others_agree p q l l' n n' ns ns' (TheList x) ne low m a = let same = (m.4 (λ e. ne (a.0 ∙ sym e))).0 in (a.0, a.1 ∙ ap (λ (z : Progress). z.items) (sym same))
others_agree p q l l' n n' ns ns' (Sum x) ne low m a =
    let small = a.1 in let as_before = m.2 in
    (a.0, omega arith, a.2 ∙ ap (λ z. total z % 2 ^ 64) (sym (ap (take x.tail) m.1 ∙ take_front x.tail l.items m.0 (omega arith))))

raised_agrees : (p : ℕ) (x : Value) (l : Progress) (n : ℕ) (ns : List ℕ) → AgreesWith p l ns x → AgreesWith p (raised l n) ns x
raised_agrees p (TheList x) l n ns a = a
raised_agrees p (Sum x) l n ns a = let small = a.1 in (a.0, omega (arith, small, le-max_left l.completed n), a.2)

asked_agrees : (p : ℕ) (x : Value) (l : Progress) (ns ns' : List ℕ) → AgreesWith p l ns x → AgreesWith p l ns' x
asked_agrees p (TheList x) l ns ns' a = a
asked_agrees p (Sum x) l ns ns' a = a

pub sum_laws : Laws sum_rules
sum_laws = record {
  extends_self = λ l. (([], sym (append-nil l.items)), omega arith);
  extends_on = λ a b c f g. (starts_on a.items b.items c.items f.0 g.0, (let one = f.1 in let two = g.1 in omega arith));
  same_self = λ l. refl;
  same_on = λ a b c e f. e ∙ f;
  allows_none = λ _ _. tt;
  allows_part = λ _ _ _ _ _ _. tt;
  allows_on = λ _ _ _ _ _ _. tt;
  moves_extend = λ m. ((m.allowed.0, m.allowed.1), (let as_before = m.allowed.2 in omega arith));
  moves_same = λ m ne. ap (λ (z : Progress). z.items) (sym (m.allowed.4 ne).0);
  moves_completed = λ m. m.allowed.2;
  moves_account = λ m ns a.
      let count = ap (λ z. total (set ns m.session z)) m.allowed.3 ∙ sum_set ns m.session m.note (length m.allowed.0) a.own in
      let long = ap length m.allowed.1 ∙ length-append m.progress.items m.allowed.0 in let was = a.accounts.0 in let low = a.accounts.1 in let as_before = m.allowed.2 in
      (omega (arith, count, long, was), omega (arith, long, low, as_before));
  moves_others = λ m ns a q y ne b. others_agree m.place q m.progress m.new_progress m.note m.new_note ns (set ns m.session m.new_note) y ne a.accounts.1 m.allowed b;
  asks_account = λ c l n n' ns same here w.
      let count = ap (λ z. total (set ns c z)) (let e : n' ≡ n + 0 = omega (arith, same) in e) ∙ sum_set ns c n 0 here in let was = w.0 in
      (omega (arith, count, was), w.1);
  asks_agrees = λ p x c l n n' ns same here w a. asked_agrees p x l ns (set ns c n') a;
  raised_completed = λ l n. refl;
  raised_extends = λ l n. (([], sym (append-nil l.items)), le-max_left l.completed n);
  raised_same = λ l n. refl;
  raised_account = λ l n ns far w. (w.0, max-le w.1 far);
  raised_agrees = λ p x l n ns far w a. raised_agrees p x l n ns a;
  reaches_on = λ a b n g far. let long = ap length g.0.1 ∙ length-append a.items g.0.0 in omega (arith, long, far);
}
