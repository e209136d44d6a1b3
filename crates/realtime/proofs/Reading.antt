-- What is read of a history.
use Rattle.std.proofs.Common.{◌≡◌, ◌≢◌, ℕ, ◌+◌, ◌-◌, ◌*◌, ◌^◌, if◌then◌else◌, ◌<◌, ◌≤◌, Bool, true, false, ◌||◌, eqb, List, [], ◌∷◌, ◌++◌, length, get_or, set, replicate, Option, Some, None, Ok, Err, refl, sym, ap, subst, ◌∙◌, arith, ⊎_elim}
use Rattle.std.specs.List.{slice_get, AllPairs}
use Rattle.std.specs.Option.{option_map_or}
use Rattle.std.proofs.lemmas.Bool.{ltb-true, leb-true, eqb-true, eqb-false, eq-eqb, ne_eqb, and_parts, or_parts, or_left, or_right, cases_eq, cases_lt, false_from_ne_true, not-true}
use Rattle.std.proofs.lemmas.Option.{slice_get_within}
use Rattle.std.proofs.lemmas.List.{length-set, get_or-set_other, get_or-replicate, length-replicate, length-append}
use Rattle.std.proofs.lemmas.Grind.{common_steps, get_or-set_at}
use Rattle.std.proofs.lemmas.List.Elements.{All-push, All-nil}
use Rattle.std.proofs.lemmas.List.Folds.{list_any-append, list_any_at}
use Rattle.std.proofs.Math.Bool.{or-false}
use Rattle.std.proofs.lemmas.List.Quantifiers.{all_pairs_push}
use Rattle.text.specs.Words.{number_of, number_within}
use Rattle.text.specs.Fields.{split_at_space}
use Rattle.text.proofs.Export.{steps}
use Rattle.realtime.specs.declared.histories.Timed.{Timed}
use Rattle.realtime.specs.declared.histories.TheConstants.{SESSIONS}
use Rattle.realtime.specs.declared.histories.Taken.{Taken}
use Rattle.realtime.specs.Histories.{is_used, fits, timed_line, call_behind, calls_behind}
use Rattle.realtime.specs.Laws.{ShareNone}
use Rattle.realtime.specs.Judging.{HasTaken, TakesCall, AreGood, calls_of}

-- a call began or was back at this number
abbrev pub uses : ℕ → Timed → Bool
uses x call = eqb call.begun x || eqb call.ended x

-- one more number is marked
mark : (used : List Bool) (p : ℕ → Bool) (i : ℕ) → ((x : ℕ) → x < length used → get_or used x false ≡ p x)
    → (x : ℕ) → x < length (set used i true) → get_or (set used i true) x false ≡ (p x || eqb i x)
mark used p i h x lt =
    let within : x < length used = omega (arith, length-set used i true, lt) in
    ⊎_elim
    (λ e. get_or-set_at used i x true false (sym e) (subst (λ k. k < length used) (sym e) within) ∙ sym (or_right (p x) (eqb i x) (eq-eqb i x e)))
    (λ n. get_or-set_other used i x true false (λ e. n (sym e)) ∙ h x within ∙ sym (ap (λ b. p x || b) (ne_eqb i x n) ∙ or-false (p x)))
    (cases_eq i x)

joined : (a b c : Bool) → ((a || b) || c) ≡ (a || ((b || c) || false))
joined true b c = refl
joined false true c = refl
joined false false true = refl
joined false false false = refl

-- both numbers of a call are marked
pub marked : (used : List Bool) (calls : List Timed) (call : Timed) → ((x : ℕ) → x < length used → get_or used x false ≡ is_used calls x)
    → (x : ℕ) → x < length (set (set used call.begun true) call.ended true) → get_or (set (set used call.begun true) call.ended true) x false ≡ is_used (calls ++ call ∷ []) x
marked used calls call h x lt =
    mark (set used call.begun true) (λ y. is_used calls y || eqb call.begun y) call.ended (mark used (is_used calls) call.begun h) x lt
    ∙ joined (is_used calls x) (eqb call.begun x) (eqb call.ended x) ∙ sym (list_any-append (uses x) calls (call ∷ []))

-- what a call is that fits behind others
pub record Fits (numbers : ℕ) (before : List Timed) (call : Timed) : Type 0 where
  pub backs : call.begun < call.ended
  pub below : call.ended < numbers
  pub begun : is_used before call.begun ≡ false
  pub ended : is_used before call.ended ≡ false

pub fits_so : (numbers : ℕ) (before : List Timed) (call : Timed) → fits numbers before call ≡ true → Fits numbers before call
fits_so numbers before call e =
    let first = and_parts _ _ e in
    let second = and_parts _ _ first.1 in
    let third = and_parts _ _ second.1 in
    record {
      backs = ltb-true _ _ first.0;
      below = ltb-true _ _ second.0;
      begun = not-true _ third.0;
      ended = not-true _ third.1;
    }

pub has_next : (ranks : List ℕ) (t n : Taken) (call : Timed) → HasTaken ranks t → (rank : ℕ) → slice_get ranks (length t.calls.items) ≡ Some rank → n.calls.items ≡ t.calls.items ++ call ∷ []
    → n.used.items ≡ set (set t.used.items call.begun true) call.ended true → HasTaken ranks n
has_next ranks t n call has rank at calls used =
    let more : length t.calls.items < length ranks = slice_get_within ranks (length t.calls.items) rank at in
    let same : length n.used.items ≡ length t.used.items = ap length used ∙ length-set (set t.used.items call.begun true) call.ended true ∙ length-set t.used.items call.begun true in
    record {
      numbers = same ∙ has.numbers;
      few = omega (arith, ap length calls, length-append t.calls.items (call ∷ []), more);
      used = λ x lt. rw (used, calls) (marked t.used.items t.calls.items call has.used x (subst (λ u. x < length u) used lt));
    }

-- nothing is taken yet
pub taken_none : (ranks : List ℕ) (t : Taken) → t.calls.items ≡ [] → t.used.items ≡ replicate (2 * length ranks) false → HasTaken ranks t
taken_none ranks t calls used = record {
  numbers = ap length used ∙ length-replicate (2 * length ranks) false;
  few = omega (arith, ap length calls);
  used = λ x lt. rw (calls, used) (get_or-replicate (2 * length ranks) x false false (subst (λ n. x < n) (ap length used ∙ length-replicate (2 * length ranks) false) lt));
}

pub behind_some : (ranks : List ℕ) (before : List Timed) (line : List ℕ) (rank : ℕ) (call : Timed) → slice_get ranks (length before) ≡ Some rank → timed_line rank line ≡ Some call
    → fits (2 * length ranks) before call ≡ true → call_behind ranks before line ≡ Some call
unfolding call_behind
behind_some ranks before line rank call at says fit = rw (at, says, fit) refl

module _ (ranks : List ℕ) (old new : Taken) where
  pub was_taken : (o : Option Timed) (told : Bool) → TakesCall ranks old new o told → told ≡ true
      → (call : Timed) × (o ≡ Some call) × (new.calls.items ≡ old.calls.items ++ call ∷ []) × HasTaken ranks new
  was_taken None told h e = absurd (let no = h.0 in cc)
  was_taken (Some call) told h e = (call, refl, h.1, h.2)

  pub was_bad : (o : Option Timed) (told : Bool) → TakesCall ranks old new o told → told ≡ false → (o ≡ None) × (new ≡ old)
  was_bad None told h e = (refl, h.1)
  was_bad (Some call) told h e = absurd (let yes = h.0 in cc)

-- ---- the lines

module _ (ranks : List ℕ) (before : List Timed) (lines : List (List ℕ)) (l : List ℕ) (rest : List (List ℕ)) (e : lines ≡ l ∷ rest) where
  pub goes_on : (call : Timed) → call_behind ranks before l ≡ Some call → calls_behind ranks before lines ≡ calls_behind ranks (before ++ call ∷ []) rest
  unfolding calls_behind
  goes_on call says = rw (e, says) refl

  pub bad_here : call_behind ranks before l ≡ None → calls_behind ranks before lines ≡ Err (length before + 1)
  unfolding calls_behind
  bad_here says = rw (e, says) refl

pub all_read : (ranks : List ℕ) (before : List Timed) (lines : List (List ℕ)) → lines ≡ [] → length before ≡ length ranks → calls_behind ranks before lines ≡ Ok before
unfolding calls_behind
all_read ranks before lines e all = rw (e, eq-eqb _ _ all) refl

pub lacking : (ranks : List ℕ) (before : List Timed) (lines : List (List ℕ)) → lines ≡ [] → length before ≢ length ranks → calls_behind ranks before lines ≡ Err (length before + 1)
unfolding calls_behind
lacking ranks before lines e all = rw (e, ne_eqb _ _ all) refl

-- ---- what a line says

where_some : (b : Bool) (m n : ℕ) → if b then Some m else None ≡ Some n → (b ≡ true) × (m ≡ n)
where_some true m n e = (refl, cc)
where_some false m n e = absurd cc

where_timed : (b : Bool) (m n : Timed) → if b then Some m else None ≡ Some n → (b ≡ true) × (m ≡ n)
where_timed true m n e = (refl, cc)
where_timed false m n e = absurd cc

within_bounds : (low high : ℕ) (text : List ℕ) (n : ℕ) → number_within low high text ≡ Some n → (low ≤ n) × (n ≤ high)
unfolding number_within
within_bounds low high text n e =
    let read = steps (number_of text) _ n e in
    let so = where_some _ read.0 n read.2 in
    let both = and_parts _ _ so.0 in
    let least : low ≤ read.0 = leb-true _ _ both.0 in
    let most : read.0 ≤ high = leb-true _ _ both.1 in
    (omega (arith, least, so.1), omega (arith, most, so.1))

some_same : (m n : Timed) → Some m ≡ Some n → m ≡ n
some_same m n e = cc

-- the call is on a line of a script, and is of one of the sessions
pub record IsRead (rank : ℕ) (call : Timed) : Type 0 where
  pub line : 0 < call.line
  pub session : call.session < 256
  pub rank_is : call.rank ≡ rank

pub line_is_read : (rank : ℕ) (text : List ℕ) (call : Timed) → timed_line rank text ≡ Some call → IsRead rank call
unfolding timed_line
line_is_read rank text call e =
    let first = steps (split_at_space text) _ call e in
    let second = steps (split_at_space first.0.1) _ call first.2 in
    let third = steps (split_at_space second.0.1) _ call second.2 in
    let session = steps (number_within 0 (SESSIONS - 1) first.0.0) _ call third.2 in
    let line = steps (number_within 1 (2 ^ 64 - 1) second.0.0) _ call session.2 in
    let begun = steps (number_of third.0.0) _ call line.2 in
    let ended = steps (number_of third.0.1) _ call begun.2 in
    let is : record { session = session.0; line = line.0; begun = begun.0; ended = ended.0; rank = rank } ≡ call = some_same _ call ended.2 in
    let low = within_bounds 1 (2 ^ 64 - 1) second.0.0 line.0 line.1 in
    let high = within_bounds 0 (SESSIONS - 1) first.0.0 session.0 session.1 in
    subst (IsRead rank) is (record { line = omega (arith, low.0); session = omega (arith, high.1); rank_is = refl })

pub record IsNext (ranks : List ℕ) (before : List Timed) (call : Timed) : Type 0 where
  pub rank : slice_get ranks (length before) ≡ Some call.rank
  pub line : 0 < call.line
  pub session : call.session < 256
  pub fit : Fits (2 * length ranks) before call

pub next_is : (ranks : List ℕ) (before : List Timed) (line : List ℕ) (call : Timed) → call_behind ranks before line ≡ Some call → IsNext ranks before call
unfolding call_behind
next_is ranks before line call e =
    let rank = steps (slice_get ranks (length before)) _ call e in
    let made = steps (timed_line rank.0 line) _ call rank.2 in
    let so = where_timed _ made.0 call made.2 in
    let read = subst (IsRead rank.0) so.1 (line_is_read rank.0 line made.0 made.1) in
    record {
      rank = rank.1 ∙ ap Some (sym read.rank_is);
      line = read.line;
      session = read.session;
      fit = fits_so (2 * length ranks) before call (subst (λ (t : Timed). fits (2 * length ranks) before t ≡ true) so.1 so.0);
    }

-- ---- what the calls are

module _ (numbers : ℕ) where
  pub good_nil : AreGood numbers []
  good_nil = record {
    backs = All-nil (λ call. call.begun < call.ended);
    below = All-nil (λ call. call.ended < numbers);
    lines = All-nil (λ call. 0 < call.line);
    sessions = All-nil (λ call. call.session < 256);
    apart = λ i j d lt within. absurd (omega arith);
  }

  unused : (before : List Timed) (x k : ℕ) (d : Timed) → is_used before x ≡ false → k < length before → (get_or before k d).begun ≢ x
  unused before x k d none lt e = absurd (let some = list_any_at (uses x) before k d lt (or_left _ _ (eq-eqb _ _ e)) in cc)

  pub good_push : (before : List Timed) (call : Timed) → AreGood numbers before → Fits numbers before call → 0 < call.line → call.session < 256 → AreGood numbers (before ++ call ∷ [])
  good_push before call good fit line session = record {
    backs = All-push (λ call. call.begun < call.ended) before call good.backs fit.backs;
    below = All-push (λ call. call.ended < numbers) before call good.below fit.below;
    lines = All-push (λ call. 0 < call.line) before call good.lines line;
    sessions = All-push (λ call. call.session < 256) before call good.sessions session;
    apart = all_pairs_push (λ a b. a.begun ≢ b.begun) before call good.apart (λ k d lt. unused before call.begun k d fit.begun lt);
  }

-- by what the length is, at the end of the lines
where_read : (b : Bool) (before calls : List Timed) (n : ℕ) → if b then Ok before else Err n ≡ Ok calls → (b ≡ true) × (before ≡ calls)
where_read true before calls n e = (refl, cc)
where_read false before calls n e = absurd cc

-- what the calls so far are, and that they have the first of the ranks
pub record AreSoFar (ranks : List ℕ) (before : List Timed) : Type 0 where
  pub good : AreGood (2 * length ranks) before
  pub once : AllPairs ShareNone before
  pub ranked : (k : ℕ) (d : Timed) → k < length before → slice_get ranks k ≡ Some (get_or before k d).rank

pub far_none : (ranks : List ℕ) → AreSoFar ranks []
far_none ranks = record {
  good = good_nil (2 * length ranks);
  once = λ i j d lt within. absurd (omega arith);
  ranked = λ k d lt. absurd (omega arith);
}

module _ (ranks : List ℕ) where
  shares_none : (before : List Timed) (call : Timed) → Fits (2 * length ranks) before call → (k : ℕ) (d : Timed) → k < length before → ShareNone (get_or before k d) call
  shares_none before call fit k d lt =
      let apart : (x : ℕ) → is_used before x ≡ false → uses x (get_or before k d) ≡ false =
      λ x none. false_from_ne_true _ (λ e. absurd (let some = list_any_at (uses x) before k d lt e in cc)) in
      let begun = or_parts _ _ (apart call.begun fit.begun) in
      let ended = or_parts _ _ (apart call.ended fit.ended) in
      (eqb-false _ _ begun.0, eqb-false _ _ ended.0, eqb-false _ _ begun.1, eqb-false _ _ ended.1)

  far_next : (before : List Timed) (call : Timed) → AreSoFar ranks before → IsNext ranks before call → AreSoFar ranks (before ++ call ∷ [])
  far_next before call far next = record {
    good = good_push (2 * length ranks) before call far.good next.fit next.line next.session;
    once = all_pairs_push ShareNone before call far.once (shares_none before call next.fit);
    ranked = λ k d lt. ⊎_elim
        (λ old. far.ranked k d old ∙ ap (λ (t : Timed). Some t.rank) (sym (let kept : get_or (before ++ call ∷ []) k d ≡ get_or before k d = grind (arith, common_steps) in kept)))
        (λ here. let same : k ≡ length before = omega (arith, lt, length-append before (call ∷ []), here) in
        ap (slice_get ranks) same ∙ next.rank ∙ ap (λ (t : Timed). Some t.rank) (sym (let last : get_or (before ++ call ∷ []) k d ≡ call = grind (arith, common_steps) in last)))
        (cases_lt k (length before));
  }

  -- all lines were good, and there is one for each call
  pub far_all : (lines : List (List ℕ)) (before calls : List Timed) → AreSoFar ranks before → calls_behind ranks before lines ≡ Ok calls → AreSoFar ranks calls × (length calls ≡ length ranks)
  unfolding calls_behind
  far_all [] before calls far e =
      let so = where_read _ before calls (length before + 1) e in
      (subst (AreSoFar ranks) so.1 far, sym (ap length so.1) ∙ eqb-true _ _ so.0)
  far_all (l ∷ ls) before calls far e = by (far_all ls) (call_behind ranks before l) refl e
    where
      by : ((more all : List Timed) → AreSoFar ranks more → calls_behind ranks more ls ≡ Ok all → AreSoFar ranks all × (length all ≡ length ranks)) → (o : Option Timed) → call_behind ranks before l ≡ o → option_map_or (λ call. calls_behind ranks (before ++ call ∷ []) ls) o (Err (length before + 1)) ≡ Ok calls
          → AreSoFar ranks calls × (length calls ≡ length ranks)
      by rest None is ends = absurd cc
      by rest (Some call) is ends = rest (before ++ call ∷ []) calls (far_next before call far (next_is ranks before l call is)) ends

  pub good_calls : (lines : List (List ℕ)) (calls : List Timed) → calls_of ranks lines ≡ Ok calls → AreGood (2 * length calls) calls
  good_calls lines calls e = let far = far_all lines [] calls (far_none ranks) e in subst (λ n. AreGood (2 * n) calls) (sym far.1) far.0.good
