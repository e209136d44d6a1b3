-- The answers of a session have their lines in the order of its calls.
use Rattle.std.proofs.Common.{◌≡◌, ◌∙◌, ⊎_elim, ℕ, zero, suc, ◌+◌, ◌-◌, ◌*◌, ◌<◌, ◌≤◌, List, [], ◌∷◌, ◌++◌, All, Option, map, length, take, drop, sym, ap, subst, arith, append-nil, not-suc-le-zero}
use Rattle.std.specs.Prelude.{filter, not}
use Rattle.std.proofs.lemmas.Bool.{cases_lt}
use Rattle.std.proofs.lemmas.List.{length-append, length-drop, length-map, take-append-le, drop-append-le, take_all, drop-map, take-map}
use lib.Seq.{drop-length}
use Rattle.std.proofs.lemmas.List.Elements.{All-nil, All-cons, All-head, All-tail, All-get_or, All-weaker, filter-append}
use Rattle.std.proofs.lemmas.List.Sorted.{IsNonDecreasingBy-push, IsNonDecreasingBy-short}
use Rattle.loader.specs.CatalogueView.{CatalogueView}
use Rattle.accounts.specs.declared.sessions.Progress.{Progress}
use Rattle.stress.specs.declared.lines.AnsweredCall.{AnsweredCall}
use Rattle.stress.specs.Calls.{Called}
use Rattle.stress.specs.Dealt.{dealt, dealt_from, share_of}
use Rattle.stress.specs.Lines.{Said, Updated, Seen, Ended, ToldCall, AreOrdered, AreSteady, is_ended, rank}
use Rattle.stress.specs.Shown.{calls_told, told_call, told_of}
use Rattle.stress.specs.Playing.{AreSteadyTo, IsBefore, IsBehind, IsUpTo}
use Rattle.stress.proofs.Dealt.{last_apart, one_map, dealt_map}

pub none_steady : AreSteady []
none_steady = IsNonDecreasingBy-short (λ (t : ToldCall). rank t.said) [] (omega arith)

pub up_to_on : (n m : ℕ) (said : Said) → n ≤ m → IsUpTo n said → IsUpTo m said
up_to_on n m (Updated index reply) le h = omega (arith, le, h)
up_to_on n m (Seen point reply) le h = omega (arith, le, h)
up_to_on n m Ended le h = tt

-- ---- one answer more

abbrev answers : List ToldCall → List ToldCall
answers told = filter (λ t. not (is_ended t.said)) told

abbrev Low : ℕ → ToldCall → Type 0
Low n t = rank t.said ≤ 2 * n

-- the ranks of answers up to n operations
one_bounded : (n : ℕ) (call : Called) (said : Said) (ts : List ToldCall) → IsUpTo n said → All (Low n) (answers ts) → All (Low n) (answers (record { call = call; said = said } ∷ ts))
one_bounded n call (Updated index reply) ts up rest = All-cons (Low n) (record { call = call; said = Updated index reply }) (answers ts) (let e : 2 * index + 1 ≤ 2 * n = omega (arith, up) in e) rest
one_bounded n call (Seen point reply) ts up rest = All-cons (Low n) (record { call = call; said = Seen point reply }) (answers ts) (let e : 2 * point ≤ 2 * n = omega (arith, up) in e) rest
one_bounded n call Ended ts up rest = rest

bounded : (n : ℕ) (told : List ToldCall) → All (λ t. IsUpTo n t.said) told → All (Low n) (answers told)
bounded n [] h = All-nil (Low n)
bounded n (t ∷ ts) h = one_bounded n t.call t.said ts (All-head (λ t. IsUpTo n t.said) t ts h) (bounded n ts (All-tail (λ t. IsUpTo n t.said) t ts h))

-- an answer whose line stands behind n operations
pushed : (n : ℕ) (told : List ToldCall) (t : ToldCall) → All (λ t. IsUpTo n t.said) told → AreSteady told → 2 * n ≤ rank t.said → AreOrdered (answers told ++ t ∷ [])
pushed n told t up steady low =
    IsNonDecreasingBy-push (λ (t : ToldCall). rank t.said) (answers told) t steady
    (λ d some. let one = All-get_or (Low n) (answers told) (length (answers told) - 1) d (omega (arith, some)) (bounded n told up) in omega (arith, one, low))

pub steady_more : (l : Progress CatalogueView) (told : List ToldCall) (t : ToldCall) → All (λ t. IsBefore l t.said) told → AreSteady told → IsBehind l t.said → AreSteady (told ++ t ∷ [])
steady_more l told t before steady behind = by t.call t.said behind
  where
    split : (t : ToldCall) → answers (told ++ t ∷ []) ≡ answers told ++ answers (t ∷ [])
    split t = filter-append (λ t. not (is_ended t.said)) told (t ∷ [])

    up : All (λ t. IsUpTo l.completed t.said) told
    up = All-weaker (λ t. IsBefore l t.said) (λ t. IsUpTo l.completed t.said) (λ t h. h.0) told before

    up_all : All (λ t. IsUpTo (length l.history) t.said) told
    up_all = All-weaker (λ t. IsBefore l t.said) (λ t. IsUpTo (length l.history) t.said) (λ t h. h.1) told before

    by : (call : Called) (said : Said) → IsBehind l said → AreSteady (told ++ record { call = call; said = said } ∷ [])
    by call (Updated index reply) h =
        let t : ToldCall = record { call = call; said = Updated index reply } in
        subst AreOrdered (sym (split t)) (pushed (length l.history) told t up_all steady (let e : 2 * length l.history ≤ 2 * index + 1 = omega (arith, h) in e))
    by call (Seen point reply) h =
        let t : ToldCall = record { call = call; said = Seen point reply } in
        subst AreOrdered (sym (split t)) (pushed l.completed told t up steady (let e : 2 * l.completed ≤ 2 * point = omega (arith, h) in e))
    by call Ended h =
        let t : ToldCall = record { call = call; said = Ended } in
        subst AreOrdered (sym (split t ∙ append-nil (answers told))) steady

-- ---- one session more

module _ {X : Type 0} (n : ℕ) (calls : List X) where
  abbrev offset : ℕ → ℕ
  offset k = length (dealt_from n 0 k calls)

  offset_next : (k : ℕ) → offset (suc k) ≡ offset k + length (dealt n k calls)
  offset_next k =
      ap length (last_apart n 0 k calls ∙ ap (λ j. dealt_from n 0 k calls ++ dealt n j calls) (let e : 0 + k ≡ k = omega arith in e))
      ∙ length-append (dealt_from n 0 k calls) (dealt n k calls)

  offset_below : (k m : ℕ) → k ≤ m → offset k ≤ offset m
  offset_below zero zero le = omega arith
  offset_below (suc k) zero le = absurd (not-suc-le-zero le)
  offset_below k (suc m) le =
      ⊎_elim (λ lt. let under = offset_below k m (omega (arith, lt)) in let next = offset_next m in omega (arith, under, next))
      (λ ge. let same : k ≡ suc m = omega (arith, le, ge) in let e = ap offset same in omega (arith, e)) (cases_lt k (suc m))

  module _ {Y : Type 0} (xs ys : List Y) (m : ℕ) (long : length xs ≡ offset m) where
    share_front : (k : ℕ) → k < m → share_of n k calls (xs ++ ys) ≡ share_of n k calls xs
    share_front k below =
        let l = length (dealt n k calls) in
        let next = offset_next k in
        let under = offset_below (suc k) m below in
        let rest = length-drop (offset k) xs in
        ap (take l) (drop-append-le (offset k) xs ys (omega (arith, long, next, under)))
        ∙ take-append-le l (drop (offset k) xs) ys (omega (arith, rest, long, next, under))

    share_last : length ys ≡ length (dealt n m calls) → share_of n m calls (xs ++ ys) ≡ ys
    share_last mine =
        let l = length (dealt n m calls) in
        ap (λ o. take l (drop o (xs ++ ys))) (sym long)
        ∙ ap (take l) (drop-append-le (length xs) xs ys (omega arith) ∙ ap (λ zs. zs ++ ys) (drop-length xs))
        ∙ take_all l ys (omega (arith, mine))

abbrev Steady : List AnsweredCall → Type 0
Steady told = AreSteady (map told_of told)

pub long_of : (told : List AnsweredCall) (calls : List (Option Called)) → calls_told told ≡ calls → length told ≡ length calls
long_of told calls is = sym (length-map told told_call) ∙ ap length is

module _ (n m : ℕ) (calls : List (Option Called)) where
  pub steady_to : (xs ys : List AnsweredCall) → length xs ≡ length (dealt_from n 0 m calls) → length ys ≡ length (dealt n m calls) → AreSteadyTo n m calls xs → Steady ys → AreSteadyTo n (suc m) calls (xs ++ ys)
  steady_to xs ys long mine old new k below =
      ⊎_elim (λ lt. subst Steady (sym (share_front n calls xs ys m long k lt)) (old k lt))
      (λ ge.
      let same : m ≡ k = omega (arith, below, ge) in
      subst (λ j. Steady (share_of n j calls (xs ++ ys))) same (subst Steady (sym (share_last n calls xs ys m long mine)) new))
      (cases_lt k m)

-- ---- the same of calls that are seen otherwise

module _ {X Y Z : Type 0} (f : X → Y) (g : X → Z) (n k : ℕ) (calls : List X) where
  same_part : length (dealt n k (map f calls)) ≡ length (dealt n k (map g calls))
  same_part = ap length (one_map f n k calls) ∙ length-map (dealt n k calls) f ∙ sym (ap length (one_map g n k calls) ∙ length-map (dealt n k calls) g)

  same_offset : length (dealt_from n 0 k (map f calls)) ≡ length (dealt_from n 0 k (map g calls))
  same_offset =
      ap length (dealt_map f n 0 k calls) ∙ length-map (dealt_from n 0 k calls) f ∙ sym (ap length (dealt_map g n 0 k calls) ∙ length-map (dealt_from n 0 k calls) g)

  pub share_map : {A B : Type 0} (p : A → B) (all : List A) → share_of n k (map f calls) (map p all) ≡ map p (share_of n k (map g calls) all)
  share_map p all =
      (λ i. take (same_part i) (drop (same_offset i) (map p all)))
      ∙ ap (take (length (dealt n k (map g calls)))) (drop-map p (length (dealt_from n 0 k (map g calls))) all)
      ∙ take-map p (length (dealt n k (map g calls))) (drop (length (dealt_from n 0 k (map g calls))) all)
