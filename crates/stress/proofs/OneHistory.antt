-- What the sessions were told, in the histories that they know, and in one that has grown from all of these.
use Rattle.std.proofs.Common.{eq-eqb, ne_eqb, eqb, ◌≡◌, ◌∙◌, ◌⊎◌, inl, inr, ⊎_elim, ℕ, zero, suc, ◌+◌, ◌≤◌, ◌<◌, Bool, false, cond, slice_index_or, List, [], ◌∷◌, ◌++◌, map, length, All, refl, sym, ap, subst, arith}
use mathlib.Core.Option.{some-injective}
use native.Mathlib.Decide.{ℕ_discrete}
use native.Mathlib.Nat.{not-suc-le-zero, le_of_suc-le-suc}
use Rattle.std.proofs.lemmas.List.{map_push, map-append}
use Rattle.std.specs.Prelude.{Result, Ok, Err, IfOk, Vec}
use Rattle.std.specs.Result.{result_ok}
use Rattle.std.specs.List.Sorted.{IsPermutation}
use Rattle.std.proofs.lemmas.List.Elements.{All-nil, All-append, All-push, All-weaker}
use Rattle.std.proofs.lemmas.List.Sums.{sum_by-append, sum_by_push}
use Rattle.std.proofs.lemmas.List.Sorted.{All-permutation, sum_by-IsPermutation}
use Rattle.ownlock.specs.Seats.{At, ShelfId}
use Rattle.loader.specs.CatalogueView.{CatalogueView}
use Rattle.loader.specs.StoreState.{StoreState}
use Rattle.oplog.specs.declared.configuration.Sizes.{Sizes}
use Rattle.oplog.specs.Operations.{Operation}
use Rattle.oplog.specs.declared.records.Record.{Record}
use Rattle.replica.specs.StoreMeaning.{store_meaning}
use Rattle.accounts.specs.declared.sessions.Progress.{Progress}
use Rattle.accounts.specs.declared.sessions.AnsweredUpdate.{AnsweredUpdate}
use Rattle.accounts.specs.declared.sessions.SessionNote.{SessionNote}
use Rattle.accounts.specs.Accounts.{Extends, IsWellFormed}
use Rattle.accounts.specs.Told.{Tells, ReadTells, note_ended, note_with}
use Rattle.accounts.proofs.Export.{at_below, at_front, at_joined, at_none, at_there, grown_long, read_on, reply_on}
use Rattle.combiner.specs.declared.slots.Reply.TheVariants.{Placed, Ended}
use Rattle.readpath.specs.declared.reading.ReadAnswer.{ReadAnswer}
use Rattle.store.specs.declared.answers.Answer.{Answer}
use Rattle.store.specs.Opening.{AreOf, ClosedView, IsClosed, last_state}
use Rattle.store.proofs.Export.{all_of_at, is_read, last_place}
use Rattle.replica.specs.declared.refusals.StoreRefused.{StoreRefused}
use Rattle.store_steps.specs.Views.{SessionView, request_of}
use Rattle.store.specs.Sessions.{StoreView, TellsUpdate, fresh_session, fresh_sessions}
use Rattle.stress.specs.declared.lines.AnsweredCall.{AnsweredCall}
use Rattle.stress.specs.declared.watching.Noted.{Noted}
use Rattle.stress.specs.declared.lines.Said.{Said}
use Rattle.stress.specs.declared.lines.Said.TheVariants as told
use Rattle.stress.specs.Lines as lines
use Rattle.stress.specs.Lines.{ToldCall, AreSteady}
use Rattle.stress.specs.OneHistory.{Asks, Holds, IsOfOneHistory, is_at}
use Rattle.stress.specs.Playing.{IsSo, lines_at}
use Rattle.stress.specs.Playing.{IsSoIn, AreNew, AreShown, HasAnswered, IsBefore, IsNew, IsTold, IsNoted, IsAsked, AreToldIn, AreTold, AreNumbered, EndsIn, update_said}
use Rattle.running.specs.RunAnswer.{state_of}
use Rattle.stress.specs.Shown.{called, said_of, told_of}
use Rattle.stress.proofs.Numbered.{is_numbered, one_index}
use Rattle.stress.proofs.Steady.{none_steady, up_to_on, steady_more}

-- ---- in a history that has grown

module _ (a b : Progress CatalogueView) (grown : Extends a b) where
  at_on : (i : ℕ) (r : Record) → At i r a.history → At i r b.history
  at_on i r at = subst (At i r) (sym grown.history.1) (at_front a.history grown.history.0 i r at)

  within : (n : ℕ) → n ≤ length a.history → n ≤ length b.history
  within n low = let long = grown_long store_meaning a b grown in omega (arith, low, long)

  holds_on : (op : Operation) (said : lines.Said) → Holds a.catalogue a.config.limit a.history op said → Holds b.catalogue b.config.limit b.history op said
  holds_on op (lines.Updated i reply) h =
      let below = at_below a.history i h.0.0 h.0.1 in
      ((h.0.0, at_on i h.0.0 h.0.1, h.0.2), sym (reply_on store_meaning a b i op grown (omega (arith, below))) ∙ h.1)
  holds_on op (lines.Seen point reply) h = (within point h.0, sym (read_on store_meaning a b point op grown h.0) ∙ h.1)
  holds_on op lines.Ended h = subst (λ config. config.limit ≤ length b.history) grown.config (within a.config.limit h)

  pub so_on : (t : ToldCall) → IsSoIn a t → IsSoIn b t
  so_on t h = (h.0, h.1, holds_on h.0 t.said h.2)

  before_on : (said : lines.Said) → IsBefore a said → IsBefore b said
  before_on said h = (up_to_on a.completed b.completed said grown.completed h.0, up_to_on (length a.history) (length b.history) said (grown_long store_meaning a b grown) h.1)

  pub shown_on : (s : SessionView) (said : List ToldCall) → AreShown a s said → AreShown b s said
  shown_on s said h q u at = let one = h q u at in (at_on u.index _ one.0, one.1)

-- ---- one call more

-- how many lines of index i a told call is
abbrev counted : ℕ → ToldCall → ℕ
counted i t = cond (is_at i t.said) 1 0

-- no line has an index but that of an update that the session was answered
abbrev OnlyIts : SessionView → List ToldCall → Type 0
OnlyIts s lines = (i : ℕ) → (lines_at i lines ≡ 0) ⊎ HasAnswered i s

module _ (old new : SessionView) (t : AnsweredCall) (asked : IsAsked old new t) (before : List ToldCall) (shown : AreShown old.progress old before) (only : OnlyIts old before) where
  abbrev now : List ToldCall
  now = before ++ told_of t ∷ []

  -- the record of an update that was answered before
  kept : (q : ℕ) (u : AnsweredUpdate) → At q u old.note.answered → At u.index (record { author = new.session; seq = q; op = u.op }) new.progress.history
  kept q u at =
      subst (λ a. At u.index (record { author = a; seq = q; op = u.op }) new.progress.history) (sym asked.session) (at_on old.progress new.progress asked.grown u.index _ (shown q u at).0)

  no_line : (i : ℕ) → is_at i (said_of t.said) ≡ false → lines_at i now ≡ lines_at i before
  no_line i none =
      let more : lines_at i now ≡ lines_at i before + counted i (told_of t) = sum_by_push (counted i) before (told_of t) in
      let not : counted i (told_of t) ≡ 0 = ap (λ (b : Bool). cond b 1 0) none in
      omega (arith, more, not)

  nothing_noted : new.note.answered ≡ old.note.answered → ((i : ℕ) → is_at i (said_of t.said) ≡ false) → AreShown new.progress new now × OnlyIts new now
  nothing_noted same none = (
    λ q u at. let was = subst (At q u) same at in (kept q u was, no_line u.index (none u.index) ∙ (shown q u was).1),
    λ i. ⊎_elim (λ no. inl (no_line i (none i) ∙ no)) (λ h. inr (h.0, h.1, subst (At h.0 h.1) (sym same) h.2, h.3)) (only i),
  )

  module _ (a : Answer) (is : t.said ≡ told.Updated a) (noted : IsNoted old new (told.Updated a)) where
    abbrev one : AnsweredUpdate
    one = record { index = a.index; op = noted.0; reply = a.reply }

    its_line : (i : ℕ) → is_at i (said_of t.said) ≡ eqb a.index i
    its_line i = ap (λ said. is_at i (said_of said)) is

    -- no update that was answered before has this index
    new_index : (q : ℕ) (u : AnsweredUpdate) → At q u old.note.answered → u.index ≡ a.index → ⊥
    new_index q u at same =
        let there = subst (λ i. At i (record { author = new.session; seq = q; op = u.op }) new.progress.history) same (kept q u at) in
        let both = some-injective (record { author = new.session; seq = q; op = u.op }) (record { author = old.session; seq = length old.note.answered; op = noted.0 }) (sym there ∙ noted.2) in
        let number : q ≡ length old.note.answered = ap (λ (r : Record). r.seq) both in
        let below = at_below old.note.answered q u at in
        omega (arith, number, below)

    none_before : lines_at a.index before ≡ 0
    none_before = ⊎_elim (λ no. no) (λ h. absurd (new_index h.0 h.1 h.2 h.3)) (only a.index)

    now_one : lines_at a.index now ≡ 1
    now_one =
        let more : lines_at a.index now ≡ lines_at a.index before + counted a.index (told_of t) = sum_by_push (counted a.index) before (told_of t) in
        let yes_one : counted a.index (told_of t) ≡ 1 = ap (λ (b : Bool). cond b 1 0) (its_line a.index ∙ eq-eqb a.index a.index refl) in
        let none : lines_at a.index before ≡ 0 = none_before in
        omega (arith, more, yes_one, none)

    elsewhere : (i : ℕ) → (a.index ≡ i → ⊥) → lines_at i now ≡ lines_at i before
    elsewhere i not = no_line i (its_line i ∙ ne_eqb a.index i not)

    shown_one : AreShown new.progress new now
    shown_one q u at =
        ⊎_elim (λ front. (kept q u front, elsewhere u.index (λ same. new_index q u front (sym same)) ∙ (shown q u front).1)) (λ behind. last behind.0 behind.1 behind.2)
        (at_joined old.note.answered (one ∷ []) q u (subst (At q u) noted.1 at))
      where
        last : (j : ℕ) → q ≡ length old.note.answered + j → At j u (one ∷ []) → At u.index (record { author = new.session; seq = q; op = u.op }) new.progress.history × (lines_at u.index now ≡ 1)
        last zero e first =
            let same : one ≡ u = some-injective one u first in
            let number : length old.note.answered ≡ q = omega (arith, e) in
            subst (λ (v : AnsweredUpdate). At v.index (record { author = new.session; seq = q; op = v.op }) new.progress.history × (lines_at v.index now ≡ 1)) same (
              subst (λ (p : ℕ × ℕ). At a.index (record { author = p.0; seq = p.1; op = noted.0 }) new.progress.history) (λ i. (sym asked.session i, number i)) noted.2,
              now_one,
            )
        last (suc j) e first = absurd (at_none j u first)

    only_one : OnlyIts new now
    only_one i = by (ℕ_discrete a.index i)
      where
        by : Dec (a.index ≡ i) → (lines_at i now ≡ 0) ⊎ HasAnswered i new
        by (yes same) = inr (length old.note.answered, one, subst (At (length old.note.answered) one) (sym noted.1) (last_place old.note.answered one), same)
        by (no not) =
            ⊎_elim (λ none. inl (elsewhere i not ∙ none))
            (λ h. inr (h.0, h.1, subst (At h.0 h.1) (sym noted.1) (at_front old.note.answered (one ∷ []) h.0 h.1 h.2), h.3)) (only i)

  shown_now : AreShown new.progress new now × OnlyIts new now
  shown_now = by t.said refl
    where
      by : (said : Said) → t.said ≡ said → AreShown new.progress new now × OnlyIts new now
      by (told.Updated a) is = let noted = subst (IsNoted old new) is asked.noted in (shown_one a is noted, only_one a is noted)
      by (told.Seen a) is = nothing_noted (subst (IsNoted old new) is asked.noted) (λ i. ap (λ said. is_at i (said_of said)) is)
      by told.Ended is = nothing_noted (subst (IsNoted old new) is asked.noted) (λ i. ap (λ said. is_at i (said_of said)) is)

pub asked_more : (old new : SessionView) (said : List AnsweredCall) (t : AnsweredCall) → IsTold old said → IsAsked old new t → IsTold new (said ++ t ∷ [])
asked_more old new said t known asked =
    let before = map told_of said in
    let pushed = sym (map_push told_of said t) in
    let rest = shown_now old new t asked before known.shown known.only in
    record {
      so = subst (All (IsSoIn new.progress)) pushed (
          All-push (IsSoIn new.progress) before (told_of t) (All-weaker (IsSoIn old.progress) (IsSoIn new.progress) (so_on old.progress new.progress asked.grown) before known.so) asked.so
          );
      before = subst (All (λ t. IsBefore new.progress t.said)) pushed (
          All-push (λ t. IsBefore new.progress t.said) before (told_of t)
          (All-weaker (λ t. IsBefore old.progress t.said) (λ t. IsBefore new.progress t.said) (λ x. before_on old.progress new.progress asked.grown x.said) before known.before) asked.before
          );
      steady = subst AreSteady pushed (steady_more old.progress before (told_of t) known.before known.steady asked.behind);
      shown = subst (AreShown new.progress new) pushed rest.0;
      only = subst (OnlyIts new) pushed rest.1;
    }

pub none_told : (s : SessionView) → s.note.answered ≡ [] → IsTold s []
none_told s none = record { so = All-nil (IsSoIn s.progress); before = All-nil (λ t. IsBefore s.progress t.said); steady = none_steady; shown = λ q u at. absurd (at_none q u (subst (At q u) none at)); only = λ i. inl refl }

-- ---- what one call is told

module _ (old new : SessionView) (t : AnsweredCall) (op : Operation) (asks : Asks (called t.call.now) op) (same : new.session ≡ old.session) (grown : Extends old.progress new.progress)
    (well : IsWellFormed store_meaning new.progress) where
  pub updated : (a : Answer) → Tells store_meaning new.progress old.session (length old.note.answered) (request_of old.progress op) (Placed a.index a.reply) × (new.note ≡ note_with old.note a.index op a.reply)
      → IsAsked old new (record t { said = told.Updated a })
  updated a h = record {
    session = same;
    grown = grown;
    so = (op, asks, ((record { author = old.session; seq = length old.note.answered; op = op }, h.0.1.1, refl), h.0.1.2));
    behind = h.0.0;
    before = (h.0.1.0, at_below new.progress.history a.index _ h.0.1.1);
    noted = (op, ap (λ (n : SessionNote). n.answered) h.1, h.0.1.1);
  }

  pub seen : (a : ReadAnswer) → ReadTells store_meaning new.progress old.progress.completed op a.point a.reply → new.note.answered ≡ old.note.answered → IsAsked old new (record t { said = told.Seen a })
  seen a h noted = record {
    session = same;
    grown = grown;
    so = (op, asks, ((let low = h.1 in let done = well.completed in omega (arith, low, done)), h.2));
    behind = h.0;
    before = (h.1, (let low = h.1 in let done = well.completed in omega (arith, low, done)));
    noted = noted;
  }

  pub ended : Tells store_meaning new.progress old.session (length old.note.answered) (request_of old.progress op) Ended × (new.note ≡ note_ended old.note op) → IsAsked old new (record t { said = told.Ended })
  ended h = record {
    session = same;
    grown = grown;
    so = (op, asks, (let all = h.0.0 in let done = well.completed in omega (arith, all, done)));
    behind = tt;
    before = (tt, tt);
    noted = ap (λ (n : SessionNote). n.answered) h.1;
  }

  -- an update or an install that was not refused early
  pub told_update : (r : Result Answer StoreRefused) → TellsUpdate old new op r → IsAsked old new (record t { said = update_said r })
  told_update (Ok a) h = updated a h
  told_update (Err e) h = ended (h.1, h.2)

-- whatever is noted of it
pub noted_too : (old new : SessionView) (t : AnsweredCall) (noted : Noted) → IsAsked old new t → IsAsked old new (record t { noted = noted })
noted_too old new t noted h = record { session = h.session; grown = h.grown; so = h.so; behind = h.behind; before = h.before; noted = h.noted }

-- ---- all sessions together

-- a session that a store was opened with was answered nothing
pub noted_none : (shelf : ShelfId) (config : Sizes) (c : CatalogueView) (a n : ℕ) (xs : List SessionView) → xs ≡ fresh_sessions shelf config c a n → (k : ℕ) (s : SessionView) → At k s xs → s.note.answered ≡ []
noted_none shelf config c a n xs is k s at = of n a k (subst (At k s) is at)
  where
    of : (n a k : ℕ) → At k s (fresh_sessions shelf config c a n) → s.note.answered ≡ []
    of zero a k at = absurd (at_none k s at)
    of (suc n) a zero at = ap (λ (z : SessionView). z.note.answered) (sym (some-injective (fresh_session shelf config c a) s at))
    of (suc n) a (suc k) at = of n (suc a) k at

-- and its number is its index
pub numbered_fresh : (shelf : ShelfId) (config : Sizes) (c : CatalogueView) (n : ℕ) (xs : List SessionView) → xs ≡ fresh_sessions shelf config c 0 n → AreNumbered xs
numbered_fresh shelf config c n xs is k d below =
    subst (λ ys. (slice_index_or ys k d).session ≡ k) (sym is) (of n 0 k (subst (λ ys. k < length ys) is below) ∙ (let e : 0 + k ≡ k = omega arith in e))
  where
    of : (n a k : ℕ) → k < length (fresh_sessions shelf config c a n) → (slice_index_or (fresh_sessions shelf config c a n) k d).session ≡ a + k
    of zero a k below = absurd (not-suc-le-zero below)
    of (suc n) a zero below = omega arith
    of (suc n) a (suc k) below = let rest = of n (suc a) k (le_of_suc-le-suc below) in omega (arith, rest)

pub none_of_none : AreTold [] []
none_of_none l each = record { so = All-nil (IsSoIn l); shown = λ k s at. absurd (at_none k s at); only = λ i. inl refl }

module _ (sessions : List SessionView) (s : SessionView) (said more : List AnsweredCall) (known : AreTold sessions said) (new : IsTold s more) (l : Progress CatalogueView)
    (each : (k : ℕ) (z : SessionView) → At k z (sessions ++ s ∷ []) → Extends z.progress l × (z.session ≡ k)) where
  abbrev before : List ToldCall
  before = map told_of said

  abbrev behind : List ToldCall
  behind = map told_of more

  ends : Extends s.progress l × (s.session ≡ length sessions)
  ends = each (length sessions) s (last_place sessions s)

  first : AreToldIn l sessions said
  first = known l (λ k z at. each k z (at_front sessions (s ∷ []) k z at))

  own : AreShown l s behind
  own = shown_on s.progress l ends.0 s behind new.shown

  -- no session before was answered an update at the index of one of this session
  apart : (k : ℕ) (z : SessionView) → At k z sessions → (i : ℕ) → HasAnswered i z → HasAnswered i s → ⊥
  apart k z at i his mine =
      let there = (first.shown k z at his.0 his.1 his.2).0 in
      let here = (own mine.0 mine.1 mine.2).0 in
      let same : mine.1.index ≡ his.1.index = mine.3 ∙ sym his.3 in
      let r : Record = record { author = z.session; seq = his.0; op = his.1.op } in
      let o : Record = record { author = s.session; seq = mine.0; op = mine.1.op } in
      let both = some-injective r o (sym there ∙ subst (λ j. At j o l.history) same here) in
      let author : z.session ≡ s.session = ap (λ (v : Record). v.author) both in
      let number : z.session ≡ k = (each k z (at_front sessions (s ∷ []) k z at)).1 in
      let last : s.session ≡ length sessions = ends.1 in
      let below = at_below sessions k z at in
      omega (arith, author, number, last, below)

  all_lines : (i n m : ℕ) → lines_at i before ≡ n → lines_at i behind ≡ m → lines_at i (before ++ behind) ≡ n + m
  all_lines i n m front back = sum_by-append (counted i) before behind ∙ (λ j. front j + back j)

  shown_front : (k : ℕ) (z : SessionView) → At k z sessions → AreShown l z (before ++ behind)
  shown_front k z at q u there =
      let one = first.shown k z at q u there in
      (one.0, all_lines u.index 1 0 one.1 (⊎_elim (λ none. none) (λ mine. absurd (apart k z at u.index (q, u, there, refl) mine)) (new.only u.index)))

  shown_last : AreShown l s (before ++ behind)
  shown_last q u there =
      let one = own q u there in
      (one.0, all_lines u.index 0 1 (⊎_elim (λ none. none) (λ h. absurd (apart h.0 h.1 h.2 u.index h.3 (q, u, there, refl))) (first.only u.index)) one.1)

  shown_all : (k : ℕ) (z : SessionView) → At k z (sessions ++ s ∷ []) → AreShown l z (before ++ behind)
  shown_all k z at = ⊎_elim (λ front. shown_front k z front) (λ back. last back.0 back.2) (at_joined sessions (s ∷ []) k z at)
    where
      last : (j : ℕ) → At j z (s ∷ []) → AreShown l z (before ++ behind)
      last zero at = subst (λ v. AreShown l v (before ++ behind)) (some-injective s z at) shown_last
      last (suc j) at = absurd (at_none j z at)

  abbrev OnlyTheirs : List ToldCall → Type 0
  OnlyTheirs lines = (i : ℕ) → (lines_at i lines ≡ 0) ⊎ ((k : ℕ) × (z : SessionView) × At k z (sessions ++ s ∷ []) × HasAnswered i z)

  only_all : OnlyTheirs (before ++ behind)
  only_all i =
      ⊎_elim
      (λ none. ⊎_elim (λ no_more. inl (all_lines i 0 0 none no_more)) (λ mine. inr (length sessions, s, last_place sessions s, mine)) (new.only i))
      (λ h. inr (h.0, h.1, at_front sessions (s ∷ []) h.0 h.1 h.2, h.3))
      (first.only i)

  all_told : AreToldIn l (sessions ++ s ∷ []) (said ++ more)
  all_told =
      let both = sym (map-append told_of said more) in
      record {
        so = subst (All (IsSoIn l)) both (All-append (IsSoIn l) before behind first.so (All-weaker (IsSoIn s.progress) (IsSoIn l) (so_on s.progress l ends.0) behind new.so));
        shown = λ k z at. subst (AreShown l z) both (shown_all k z at);
        only = subst OnlyTheirs both only_all;
      }

pub told_more : (sessions : List SessionView) (s : SessionView) (said more : List AnsweredCall) → AreTold sessions said → IsTold s more → AreTold (sessions ++ s ∷ []) (said ++ more)
told_more sessions s said more known new l each = all_told sessions s said more known new l each

-- ---- the history that is left

module _ (store : StoreView) (sessions : List SessionView) (closed : ClosedView) (is : IsClosed store sessions closed) (said : List AnsweredCall) (known : AreTold sessions said)
    (numbers : AreNumbered sessions) where
  abbrev l : Progress CatalogueView
  l = is.progress

  all : AreToldIn l sessions said
  all = known l (λ k s at. (is.grown k s at, ap (λ (z : SessionView). z.session) (sym (is_read sessions k s at)) ∙ numbers k s (at_below sessions k s at)))

  shown_at : (i : ℕ) (r : Record) → At i r l.history → lines_at i (map told_of said) ≡ 1
  shown_at i r at =
      let author = is.authors i r at in
      let s = author.1 in
      let own = is.records author.0 s author.2 in
      let one = is_numbered s.session 0 s.note.answered l.history own i r at author.3 in
      let shown = all.shown author.0 s author.2 one.0 one.1 one.2 in
      let number : r.seq ≡ one.0 = ap (λ (z : Record). z.seq) one.3 ∙ (let e : 0 + one.0 ≡ one.0 = omega arith in e) in
      subst (λ j. lines_at j (map told_of said) ≡ 1) (sym (one_index s.session 0 s.note.answered l.history own i one.1.index r _ at shown.0 author.3 refl number)) shown.1

  abbrev of_one : IsOfOneHistory l.catalogue l.config.limit (map told_of said)
  of_one = record {
    history = l.history;
    within = is.well_formed.limit;
    so = all.so;
    shown = λ i below. let r = at_there l.history i below in shown_at i r.0 r.1;
  }

  -- and the state after it is what the store ends in
  pub ends_in : EndsIn store.catalogue store.config.limit (last_state closed) said
  ends_in =
      subst (λ (p : Sizes × CatalogueView). EndsIn p.1 p.0.limit (last_state closed) said) (λ i. (is.of.0 i, is.of.1 i))
      (of_one, subst (λ c. last_state closed ≡ state_of c l.history) (sym is.of.1) is.last)

module _ {V E : Type 0} (items : V → List AnsweredCall) where
  pub left_in : (c : CatalogueView) (config : Sizes) (state : StoreState) (store : StoreView) (sessions : List SessionView) → store.config ≡ config → store.catalogue ≡ c
      → (closed : ClosedView) × IsClosed store sessions closed × (state ≡ last_state closed)
      → AreNumbered sessions → (all : Result V E) → IfOk all (λ v. AreTold sessions (items v)) → IfOk all (λ v. EndsIn c config.limit state (items v))
  left_in c config state store sessions sizes same closed numbers (Err e) known = tt
  left_in c config state store sessions sizes same closed numbers (Ok v) known =
      subst (λ (s : StoreState). EndsIn c config.limit s (items v)) (sym closed.2) (
      subst (λ (p : Sizes × CatalogueView). EndsIn p.1 p.0.limit (last_state closed.0) (items v)) (λ i. (sizes i, same i))
      (ends_in store sessions closed.0 closed.1 (items v) known numbers)
      )

-- in another order
pub in_order : (c : CatalogueView) (limit : ℕ) (state : StoreState) (xs ys : List ToldCall) → IsPermutation xs ys → (h : IsOfOneHistory c limit xs) → state ≡ state_of c h.history
    → (of_one : IsOfOneHistory c limit ys) × (state ≡ state_of c of_one.history)
in_order c limit state xs ys same h ends = (
  record {
    history = h.history;
    within = h.within;
    so = All-permutation (IsSo c limit h.history) xs ys same h.so;
    shown = λ i below. sum_by-IsPermutation (counted i) xs ys same ∙ h.shown i below;
  },
  ends,
)

-- where a store was opened, and memory is left, its sessions are new
pub new_sessions : {X E F : Type 0} (n : ℕ) (opened : Result (StoreView × Vec SessionView X) E) (result : Result (StoreView × Vec SessionView X) F) → result_ok result ≡ result_ok opened
    → IfOk opened (λ t. t.1.items ≡ fresh_sessions t.0.id t.0.config t.0.catalogue 0 n) → IfOk opened (λ t. length t.1.items ≡ n) → IfOk opened (λ t. AreOf t.0 t.1.items)
    → IfOk result (λ t. AreNew t.0 n t.1.items)
new_sessions n opened (Err f) same fresh count each = tt
new_sessions n (Err e) (Ok t) same fresh count each = absurd (let never : ⊥ = cc in never)
new_sessions n (Ok u) (Ok t) same fresh count each =
    let sessions = u.1.items in
    let one : u ≡ t = cc in
    subst (λ z. AreNew z.0 n z.1.items) one
    (count, all_of_at (IsNew u.0) sessions (λ k s at. (each k s at, noted_none _ _ _ 0 _ sessions fresh k s at)), numbered_fresh _ _ _ _ sessions fresh)
