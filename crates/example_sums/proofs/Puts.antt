-- Whoever holds the list may put it back with more behind it, and whoever holds the sum may put it back caught up.
use Rattle.std.proofs.Common.{◌≡◌, ℕ, ◌+◌, ◌-◌, ◌%◌, ◌^◌, ◌≤◌, List, [], ◌∷◌, ◌++◌, length, length-append, append-nil, append_assoc, take, set, sym, refl, ap, ◌∙◌, subst, arith, Result, Ok, Err, MatchResult}
use Rattle.std.proofs.Math.Nat.{le-max_right}
use Rattle.ownlock.specs.declared.known.Known.{Known}
use Rattle.ownlock.specs.Seats.{At}
use Rattle.ownlock.specs.Knowledge.{MayPut}
use Rattle.example_sums.specs.declared.kinds.Progress.{Progress}
use Rattle.example_sums.specs.declared.kinds.Value.{Value}
use Rattle.example_sums.specs.declared.kinds.Value.TheVariants.{List as TheList, Sum}
use Rattle.example_sums.specs.Sums.{sum_rules, total, raised, Accounts, AgreesWith, Moves, IsExtended, IsList, Follows, CaughtUp, IsTold, moved_progress, items_of, counted, StartsWith, IsAppended}
use Rattle.example_sums.specs.Laws.{take_front}

abbrev K : Type 0
K = Known Progress ℕ Value

take_all : (xs : List ℕ) → take (length xs) xs ≡ xs
take_all [] = refl
take_all (x ∷ xs) = ap (λ l. x ∷ l) (take_all xs)

-- what was appended, with memory or without
pub outcome : {E : Type 0} (r : Result (Unit {0}) E) (x y : Value) (item : ℕ) → MatchResult r (λ _. IsExtended x y (item ∷ [])) (λ _. IsExtended x y []) → (more : List ℕ) × IsExtended x y more × MatchResult r (λ _. more ≡ item ∷ []) (λ _. more ≡ [])
outcome (Ok u) x y item h = (item ∷ [], h, refl)
outcome (Err e) x y item h = ([], h, refl)

pub lists : (l : Progress) (ns : List ℕ) (x : Value) → AgreesWith 0 l ns x → IsList x
lists l ns (TheList x) a = tt
lists l ns (Sum x) a = a.0 refl

-- so long is the list then
pub grown_length : (l : Progress) (ns : List ℕ) (x y : Value) (more : List ℕ) → AgreesWith 0 l ns x → IsExtended x y more → length (items_of y) ≡ length l.items + length more
grown_length l ns (TheList x) (TheList y) more a g = ap length (g ∙ ap (λ z. z ++ more) a.1) ∙ length-append l.items more
grown_length l ns (TheList x) (Sum y) more a g = absurd g
grown_length l ns (Sum x) y more a g = absurd g

goes_on : (l : Progress) (ns ms : List ℕ) (more : List ℕ) (n m : ℕ) (x y : Value) → AgreesWith 0 l ns x → IsExtended x y more → m ≡ n + (length (items_of y) - length l.items) → Moves 0 l n (moved_progress y l) m × AgreesWith 0 (moved_progress y l) ms y
goes_on l ns ms more n m (TheList x) (TheList y) a g is =
    let long = grown_length l ns (TheList x) (TheList y) more a g in
    ((more, g ∙ ap (λ z. z ++ more) a.1, refl, omega (arith, is, long), (λ ne. absurd (ne refl))), (refl, refl))
goes_on l ns ms more n m (TheList x) (Sum y) a g is = absurd g
goes_on l ns ms more n m (Sum x) y a g is = absurd g

-- who holds the list may put it back
pub puts_list : (k : K) (a q : ℕ) (x y : Value) (more : List ℕ) (known : List K) → q ≡ 0 → At a (0, x) k.held → IsExtended x y more → known ≡ k ∷ [] → MayPut sum_rules (moved_progress y) (counted known y) k q y
puts_list k a q x y more known zero at goes sessions = subst (λ (z : ℕ × List K). MayPut sum_rules (moved_progress y) (counted z.1 y) k z.0 y) (λ i. (sym zero i, sym sessions i)) (
  x,
  a,
  at,
  λ progress notes may.
      goes_on progress notes (set notes k.session (counted (k ∷ []) y k.note)) more k.note (counted (k ∷ []) y k.note) x y (may.3 a (0, x) at) goes (ap (λ z. k.note + (length (items_of y) - length z)) (may.0.1 a (0, x) at refl)),
)

-- the note of who put the list back
pub counts : (k : K) (ns : List ℕ) (x y : Value) (more : List ℕ) (known : List K) → AgreesWith 0 k.progress ns x → IsExtended x y more → known ≡ k ∷ [] → counted known y k.note ≡ k.note + length more
counts k ns x y more known a goes sessions = let long = grown_length k.progress ns x y more a goes in ap (λ z. counted z y k.note) sessions ∙ omega (arith, long)

-- the value is the sum of completed numbers of that progress
abbrev pub IsSumOf : Progress → Value → Type 0
IsSumOf l (TheList x) = ⊥
IsSumOf l (Sum x) = (x.tail ≤ l.completed) × (x.tail ≤ length l.items) × (x.sum ≡ total (take x.tail l.items) % 2 ^ 64)

-- who holds the sum may put it back
pub puts_sum : (k : K) (a q : ℕ) (x y : Value) (known : List K) → known ≡ k ∷ [] → q ≡ 1 → At a (1, x) k.held → IsSumOf k.progress y → MayPut sum_rules (moved_progress y) (counted known y) k q y
puts_sum k a q x (TheList y) known is one at h = absurd h
puts_sum k a q x (Sum y) known is one at h = subst (λ z. MayPut sum_rules (moved_progress (Sum y)) (counted known (Sum y)) k z (Sum y)) (sym one) (
  x,
  a,
  at,
  λ progress notes may.
      let more = may.0.0.0.0 in
      let grown = may.0.0.0.1 in
      let up = may.0.0.1 in
      let small = h.0 in (
        ([], sym (append-nil progress.items), refl, omega arith, (λ _. (refl, omega arith))),
        ((λ e. absurd (omega (arith, e))), omega (arith, small, up), h.2 ∙ ap (λ z. total z % 2 ^ 64) (sym (ap (take y.tail) grown ∙ take_front y.tail k.progress.items more h.1))),
      ),
)

-- the sum of the whole list reaches as far as the list
pub reaches : (l : Progress) (y z : Value) (tail sum : ℕ) → CaughtUp y z → IsTold z tail sum → tail ≤ length (moved_progress y l).items
reaches l (TheList y) (Sum z) tail sum c t = let all = c.0 in let is = t.0 in omega (arith, all, is)
reaches l (TheList y) (TheList z) tail sum c t = absurd c
reaches l (Sum y) z tail sum c t = absurd c

-- once the completed tail is raised so far, the sum is one of completed numbers
pub sum_of_raised : (l before : Progress) (y z : Value) (tail sum : ℕ) → CaughtUp y z → IsTold z tail sum → StartsWith (moved_progress y l).items before.items → IsSumOf (raised before tail) z
sum_of_raised l before (TheList y) (Sum z) tail sum c t start =
    let all = c.0 in
    let is = t.0 in
    let long = ap length start.1 ∙ length-append y.items.items start.0 in (
      omega (arith, is, le-max_right before.completed tail),
      omega (arith, all, long),
      c.1 ∙ ap (λ xs. total xs % 2 ^ 64) (sym (ap (λ n. take n before.items) c.0 ∙ (ap (take (length y.items.items)) start.1 ∙ (take_front (length y.items.items) y.items.items start.0 (omega arith) ∙ take_all y.items.items)))),
    )
sum_of_raised l before (TheList y) (TheList z) tail sum c t start = absurd c
sum_of_raised l before (Sum y) z tail sum c t start = absurd c

-- a sum that agrees may follow the list, which may have grown
pub follows : (l : Progress) (ns : List ℕ) (x y w : Value) (more : List ℕ) → Accounts l ns → AgreesWith 0 l ns x → AgreesWith 1 l ns w → IsExtended x y more → Follows y w
follows l ns (TheList x) (TheList y) (Sum w) more accounts a b g =
    let long = grown_length l ns (TheList x) (TheList y) more a g in
    let items = g ∙ ap (λ z. z ++ more) a.1 in
    let small = b.1 in let low = accounts.1 in
    (omega (arith, small, low, long), b.2 ∙ ap (λ z. total z % 2 ^ 64) (sym (ap (take w.tail) items ∙ take_front w.tail l.items more (omega (arith, small, low)))))
follows l ns (TheList x) (TheList y) (TheList w) more accounts a b g = let no = b.0 in absurd (omega (arith, no))
follows l ns (TheList x) (Sum y) w more accounts a b g = absurd g
follows l ns (Sum x) y w more accounts a b g = absurd g

-- a sum counts nothing
pub counts_none : (l : Progress) (y : Value) (known : List K) (n : ℕ) → IsSumOf l y → counted known y n ≡ n
counts_none l (TheList y) known n h = absurd h
counts_none l (Sum y) known n h = omega arith

-- a sum moves no progress
pub sum_moves_nothing : (l : Progress) (y : Value) (progress : Progress) → IsSumOf l y → moved_progress y progress ≡ progress
sum_moves_nothing l (TheList y) progress h = absurd h
sum_moves_nothing l (Sum y) progress h = refl

-- what was appended stands behind what was known, whatever has come since, and the sum is the one up to it
pub stands_behind : (l p q : Progress) (ns : List ℕ) (x y z : Value) (more : List ℕ) (item : ℕ) (known : List ℕ) (tail sum : ℕ) → AgreesWith 0 l ns x → IsExtended x y more → CaughtUp y z → IsTold z tail sum
    → StartsWith known l.items → StartsWith (moved_progress y p).items q.items → tail ≤ q.completed → more ≡ item ∷ [] → IsAppended known item q sum
stands_behind l p q ns (TheList x) (TheList y) (Sum z) more item known tail sum a g c t start grown low is = (
  l.items,
  grown.0,
  start,
  grown.1 ∙ (ap (λ z. z ++ grown.0) items ∙ append_assoc l.items (item ∷ []) grown.0),
  (let all = c.0 in let told = t.0 in let long = ap length items ∙ length-append l.items (item ∷ []) in omega (arith, all, told, long, low)),
  t.1 ∙ (c.1 ∙ ap (λ z. total z % 2 ^ 64) items),
)
  where
    items : y.items.items ≡ l.items ++ item ∷ []
    items = g ∙ (ap (λ z. z ++ more) a.1 ∙ ap (λ z. l.items ++ z) is)
stands_behind l p q ns (TheList x) (TheList y) (TheList z) more item known tail sum a g c t start grown low is = absurd c
stands_behind l p q ns (TheList x) (Sum y) z more item known tail sum a g c t start grown low is = absurd g
stands_behind l p q ns (Sum x) y z more item known tail sum a g c t start grown low is = absurd g

-- with memory one item was appended, without it none
pub one_more : {E : Type 0} (r : Result (Unit {0}) E) (u : Unit {0}) (A : Type 0) (B : Type 0) → MatchResult r (λ _. A) (λ _. B) → r ≡ Ok u → A
one_more (Ok v) u A B h is = h
one_more (Err e) u A B h is = absurd (subst (λ (z : Result (Unit {0}) _). MatchResult z (λ _. ⊥) (λ _. Unit {0})) is tt)

pub none_more : {E : Type 0} (r : Result (Unit {0}) E) (e : E) (A : Type 0) (B : Type 0) → MatchResult r (λ _. A) (λ _. B) → r ≡ Err e → B
none_more (Ok u) e A B h is = absurd (subst (λ (z : Result (Unit {0}) _). MatchResult z (λ _. Unit {0}) (λ _. ⊥)) is tt)
none_more (Err f) e A B h is = h

-- what is completed stays so
pub raised_low : (before : Progress) (tail : ℕ) (after : Progress) → (raised before tail).completed ≤ after.completed → tail ≤ after.completed
raised_low before tail after up = omega (arith, up, le-max_right before.completed tail)
