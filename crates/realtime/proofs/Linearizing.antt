-- What is answered `good` is linearizable.
use Rattle.std.proofs.Common.{◌≡◌, ◌≢◌, ⊎_elim, ℕ, suc, ◌<◌, Bool, true, false, cond, eqb, leb, List, [], ◌∷◌, map, length, Option, Some, None, Result, Ok, Err, refl, sym, ap, subst, ◌∙◌, arith, Contains}
use Rattle.std.specs.Prelude.{slice_get, option_map, if◌then◌else◌, count_by}
use Rattle.std.specs.List.{cons_option, filter}
use Rattle.std.proofs.lemmas.List.Sums.{length-filter}
use Rattle.std.proofs.lemmas.Bool.{cases_order, leb-true}
use Rattle.std.proofs.lemmas.Option.{none-some, same_Some, slice_get-map, get_or_from_slice_get, slice_get_within}
use Rattle.std.proofs.lemmas.List.{length-map}
use Rattle.text.specs.Lines.{lines_of}
use Rattle.loader.specs.CatalogueView.{CatalogueView, IsCatalogue, with_places, opened_on, sizes_for}
use Rattle.loader.specs.Loading.{Outcome}
use Rattle.loader.specs.declared.installed.TheConstants.{MAX_SPARE}
use Rattle.verifier.specs.declared.refusal.Mode.TheVariants.{Update}
use Rattle.oplog.specs.declared.records.Record.{Record}
use Rattle.oplog.specs.declared.configuration.Sizes.{Sizes}
use Rattle.oplog.specs.History.{History}
use Rattle.combiner.specs.declared.slots.Reply.TheVariants as replies
use Rattle.replica.specs.StoreMeaning.{AreUpdates, is_operation}
use Rattle.schedule.specs.Trace.{Answer, Updated, ReadBack}
use Rattle.dumps.specs.Loading.{Outcome as StateOutcome, loaded_state}
use Rattle.engine.specs.declared.replies.Verdict.{Verdict}
use Rattle.engine.specs.declared.replies.Verdict.TheVariants as verdicts
use Rattle.engine.specs.Answer.{Answer as Written}
use Rattle.engine.specs.Opening.{opening_of, places_within}
use Rattle.engine.specs.StateAnswer.{on_text, opened_by}
use Rattle.engine.proofs.Export.{on_loaded, are_limits}
use Rattle.engine.specs.Reading.{TextsRead, loaded_by, limits_of}
use Rattle.running.proofs.Export.{loaded_is_catalogue, opened_is_catalogue}
use Rattle.replaying.specs.ReplayAnswer.{transcript_answer, nothing_replayed, replayed_on, replay_answer}
use Rattle.realtime.specs.Judging.{calls_of}
use Rattle.realtime.specs.declared.histories.Timed.{Timed}
use Rattle.realtime.specs.RealTime.{AreInTurn, InRealTime}
use Rattle.realtime.specs.Ranks.{is_update, rank_of, ranks_of}
use Rattle.realtime.specs.TimedAnswer.{history_answer, timed_answer, where_good}
use Rattle.realtime.specs.Laws.{AreCalls}
use Rattle.realtime.specs.Linearizable.{TranscriptCall, calls_told, if_placed, operations_of, IsLimitOf, IsLinearizable, AreLinearizable}
use Rattle.realtime.proofs.Counting.{lines_are_calls}
use Rattle.realtime.proofs.InOtherWords.{good_is_real}
use Rattle.realtime.proofs.Agreeing.{standing_told, Good, good_lines}
use Rattle.realtime.proofs.OneList.{op_of, Made, made, Has, at_made, no_places, Fitting, all_calls}
use Rattle.realtime.proofs.Events.{trace, traced, is_trace, backs, apart}
use Rattle.realtime.proofs.Explaining.{Timing, explained}

-- ---- what is answered

-- where the whole is good: the transcript, the lines of the history, and its calls
pub record Judged (answer : Written) (r : Result (List Timed) ℕ) : Type 0 where
  pub good : answer.verdict ≡ verdicts.Good
  pub calls : List Timed
  pub read : r ≡ Ok calls
  pub turns : AreInTurn calls
  pub real : InRealTime calls

judged : (answer : Written) (r : Result (List Timed) ℕ) → (where_good answer.verdict answer (history_answer answer r)).verdict ≡ verdicts.Good → Judged answer r
judged answer r e = by answer.verdict refl e
  where
    by_lines : (r : Result (List Timed) ℕ) → answer.verdict ≡ verdicts.Good → (history_answer answer r).verdict ≡ verdicts.Good → Judged answer r
    by_lines (Ok calls) is f = let real = (good_is_real answer calls is).0 f in record { good = is; calls = calls; read = refl; turns = real.0; real = real.1 }
    by_lines (Err n) is f = absurd cc

    by : (v : Verdict) → answer.verdict ≡ v → (where_good v answer (history_answer answer r)).verdict ≡ verdicts.Good → Judged answer r
    by verdicts.Good is f = by_lines r is f
    by verdicts.Refused is f = absurd cc
    by verdicts.Differs is f = absurd cc

-- the catalogue on which a good transcript was replayed
pub record OpenedOn (c : CatalogueView) (state transcript : List ℕ) : Type 0 where
  pub on : CatalogueView
  pub opened : opened_by c state ≡ Ok on
  pub whole : IsCatalogue on
  pub good : (transcript_answer on 1 nothing_replayed (lines_of transcript)).verdict ≡ verdicts.Good

is_opened : (c : CatalogueView) (state transcript : List ℕ) → IsCatalogue c → (replayed_on transcript (opened_by c state)).verdict ≡ verdicts.Good → OpenedOn c state transcript
is_opened c state transcript is e = by_empty (eqb (length state) 0) refl
  where
    by_state : (o : StateOutcome) → loaded_state (sizes_for c) state ≡ o → opened_by c state ≡ on_loaded c o → OpenedOn c state transcript
    by_state (Ok s) read at =
        let opens : on_text c state ≡ on_loaded c (Ok s) = ap (on_loaded c) read in
        record { on = opened_on c s; opened = at; whole = opened_is_catalogue c (opened_on c s) state is opens; good = subst (λ r. (replayed_on transcript r).verdict ≡ verdicts.Good) at e }
    by_state (Err refusal) read at = absurd (let bad = subst (λ r. (replayed_on transcript r).verdict ≡ verdicts.Good) at e in cc)

    by_empty : (b : Bool) → eqb (length state) 0 ≡ b → OpenedOn c state transcript
    by_empty true is_so =
        let at : opened_by c state ≡ Ok c = ap (λ b. cond b (Ok c) (on_text c state)) is_so in
        record { on = c; opened = at; whole = is; good = subst (λ r. (replayed_on transcript r).verdict ≡ verdicts.Good) at e }
    by_empty false is_so =
        by_state (loaded_state (sizes_for c) state) refl (ap (λ b. cond b (Ok c) (on_text c state)) is_so)

-- ---- counting

filtered : (told : List TranscriptCall) → length (filter is_update (map (λ a. standing_told a.answer) told)) ≡ length (operations_of told)
filtered [] = refl
filtered (a ∷ rest) = by a.answer (filtered rest)
  where
    by : (answer : Answer) → length (filter is_update (map (λ a. standing_told a.answer) rest)) ≡ length (operations_of rest)
        → length (filter is_update (standing_told answer ∷ map (λ a. standing_told a.answer) rest)) ≡ length (cons_option (if_placed a.op answer) (operations_of rest))
    by (Updated (replies.Placed i reply)) e = ap suc e
    by (Updated replies.Ended) e = e
    by (ReadBack answer) e = e

updates_told : (told : List TranscriptCall) → count_by is_update (map (λ a. standing_told a.answer) told) ≡ length (operations_of told)
updates_told told = sym (length-filter is_update (map (λ a. standing_told a.answer) told)) ∙ filtered told

-- the same operations are updates
same_updates : (c : CatalogueView) (g h : History) → map op_of g ≡ map op_of h → AreUpdates c g → AreUpdates c h
same_updates c g h same are k r at =
    let there : option_map op_of (slice_get g k) ≡ Some r.op = sym (slice_get-map op_of g k) ∙ ap (λ ops. slice_get ops k) same ∙ slice_get-map op_of h k ∙ ap (option_map op_of) at in
    by (slice_get g k) refl there
  where
    by : (o : Option Record) → slice_get g k ≡ o → option_map op_of o ≡ Some r.op → is_operation Update c r.op ≡ true
    by None is e = absurd cc
    by (Some q) is e = subst (λ op. is_operation Update c op ≡ true) (same_Some q.op r.op e) (are k q is)

-- ---- the calls of the lines

module _ (c : CatalogueView) (transcript history : List (List ℕ)) (good : Good c [] transcript) (calls : List Timed) (read : calls_of (ranks_of transcript) history ≡ Ok calls)
    (turns : AreInTurn calls) (real : InRealTime calls) where
  abbrev told : List TranscriptCall
  told = calls_told c transcript

  are : AreCalls (ranks_of transcript) calls
  are = lines_are_calls (ranks_of transcript) history calls read

  abbrev zs : List Made
  zs = made told calls

  -- the ranks by what is told
  abbrev told_rank : TranscriptCall → ℕ
  told_rank a = rank_of (length (operations_of told)) (standing_told a.answer)

  ranks_told : map (λ (call : Timed). call.rank) calls ≡ map told_rank told
  ranks_told = are.ranked ∙ ap (λ s. map (rank_of (count_by is_update s)) s) good.standings
      ∙ ap (λ n. map (rank_of n) (map (λ (a : TranscriptCall). standing_told a.answer) told)) (updates_told told) ∙ of_all told
    where
      of_all : (rest : List TranscriptCall) → map (rank_of (length (operations_of told))) (map (λ (a : TranscriptCall). standing_told a.answer) rest) ≡ map told_rank rest
      of_all [] = refl
      of_all (a ∷ rest) = ap (λ xs. told_rank a ∷ xs) (of_all rest)

  even : length told ≡ length calls
  even = sym (length-map told told_rank) ∙ ap length (sym ranks_told) ∙ length-map calls (λ (call : Timed). call.rank)

  long : length (ranks_of transcript) ≡ length calls
  long = ap length (sym are.ranked) ∙ length-map calls (λ (call : Timed). call.rank)

  fit : Fitting c zs (operations_of told) good.last
  fit = all_calls c told calls [] [] [] [] good.last even (no_places c) refl good.reply

  count : length fit.list ≡ length (operations_of told)
  count = sym (length-map fit.list op_of) ∙ ap length fit.own

  element : (z : Made) → Has zs z → Contains calls z.call
  element z has = let at = (at_made told calls has.0 z has.1).1 in (has.0, slice_get_within calls has.0 z.call at, get_or_from_slice_get calls has.0 z.call z.call at)

  apart_at : (j k : ℕ) (a b : Made) → slice_get zs j ≡ Some a → slice_get zs k ≡ Some b → j < k
      → (a.call.begun ≢ b.call.begun) × (a.call.begun ≢ b.call.ended) × (a.call.ended ≢ b.call.begun) × (a.call.ended ≢ b.call.ended)
  apart_at j k a b f g lt = apart (ranks_of transcript) told calls are even long j k a b f g lt

  one_of : (j k : ℕ) (a b : Made) → slice_get zs j ≡ Some a → slice_get zs k ≡ Some b → j ≡ k → a ≡ b
  one_of j k a b f g same = same_Some a b (sym f ∙ ap (slice_get zs) same ∙ g)

  back : (z : Made) → Has zs z → z.call.begun < z.call.ended
  back z has = (backs (ranks_of transcript) told calls are even long z has).0

  timing : Timing zs (length fit.list)
  timing = record {
    back = back;
    same = λ a b f g e. ⊎_elim (one_of f.0 g.0 a b f.1 g.1)
        (λ w. absurd (⊎_elim (λ lt. (apart_at f.0 g.0 a b f.1 g.1 lt).0 e) (λ lt. (apart_at g.0 f.0 b a g.1 f.1 lt).0 (sym e)) w)) (cases_order f.0 g.0);
    apart = λ a b f g e. ⊎_elim (λ same. let is = ap (λ (w : Made). w.call.ended) (one_of f.0 g.0 a b f.1 g.1 same) in let l = back a f in omega (arith, e, is, l))
        (λ w. ⊎_elim (λ lt. (apart_at f.0 g.0 a b f.1 g.1 lt).1 e) (λ lt. (apart_at g.0 f.0 b a g.1 f.1 lt).2 (sym e)) w) (cases_order f.0 g.0);
    turns = λ a b f g session lt. (turns a.call b.call (element a f) (element b g) session lt).0;
    real = λ a b f g lt. real a.call b.call (element a f) (element b g) lt;
    ranked = λ z has.
        let at = at_made told calls has.0 z has.1 in
        let own : slice_get (map (λ (call : Timed). call.rank) calls) has.0 ≡ Some z.call.rank = slice_get-map (λ (call : Timed). call.rank) calls has.0 ∙ ap (option_map (λ (call : Timed). call.rank)) at.1 in
        let so : slice_get (map told_rank told) has.0 ≡ Some (told_rank z.told) = slice_get-map told_rank told has.0 ∙ ap (option_map told_rank) at.0 in
        same_Some z.call.rank (told_rank z.told) (sym own ∙ ap (λ xs. slice_get xs has.0) ranks_told ∙ so) ∙ ap (λ n. rank_of n (standing_told z.told.answer)) (sym count);
  }

  pub linearizable : (config : Sizes) → IsLimitOf told config.limit → IsLinearizable (record { config = config; catalogue = c }) transcript history
  linearizable config limit = record {
    calls = calls;
    read = read;
    trace = trace (ranks_of transcript) told calls are even long;
    is_trace = is_trace (ranks_of transcript) told calls are even long;
    list = fit.list;
    positions = fit.positions;
    own = fit.own;
    explains = explained (record { config = config; catalogue = c }) fit.list fit.positions zs (trace (ranks_of transcript) told calls are even long) fit.places
        (traced (ranks_of transcript) told calls are even long) timing (same_updates c good.last fit.list fit.same good.updates)
        (λ z has e. limit has.0 z.told (at_made told calls has.0 z has.1).0 e ∙ sym count);
  }

-- ---- all that was read

module _ (spare : ℕ) (t : TextsRead) (judged_so : Judged (replay_answer spare (Some t)) (calls_of (ranks_of (lines_of t.file)) (lines_of t.history))) where
  opens : (c : CatalogueView) → loaded_by t ≡ Ok c → IsCatalogue (with_places c spare) → OpenedOn (with_places c spare) t.state t.file → AreLinearizable spare t
  opens c is whole o = record {
    manifest = c;
    is_loaded = is;
    catalogue = o.on;
    is_opened = o.opened;
    linearizable = linearizable o.on (lines_of t.file) (lines_of t.history) (good_lines o.on o.whole 1 nothing_replayed (lines_of t.file) (λ k r e. absurd (none-some r e)) o.good)
        judged_so.calls judged_so.read judged_so.turns judged_so.real;
  }

  by_places : (c : CatalogueView) → loaded_by t ≡ Ok c → (b : Bool) → leb spare MAX_SPARE ≡ b
      → (replayed_on t.file (opening_of (if b then Some spare else None) (Ok c) t.state)).verdict ≡ verdicts.Good → AreLinearizable spare t
  by_places c is true few e = let whole = loaded_is_catalogue (limits_of t.sizes) t.manifest t.files c spare (are_limits t.sizes) is (omega (arith, leb-true _ _ few)) in opens c is whole (is_opened (with_places c spare) t.state t.file whole e)
  by_places c is false many e = absurd cc

  by_manifest : (o : Outcome) → loaded_by t ≡ o → (replayed_on t.file (opening_of (places_within spare) o t.state)).verdict ≡ verdicts.Good → AreLinearizable spare t
  by_manifest (Ok c) is e = by_places c is (leb spare MAX_SPARE) refl e
  by_manifest (Err refusal) is e = absurd cc

pub good_is_linearizable : (spare : ℕ) (t : TextsRead) → (timed_answer spare (Some t)).verdict ≡ verdicts.Good → AreLinearizable spare t
good_is_linearizable spare t e =
    let j = judged (replay_answer spare (Some t)) (calls_of (ranks_of (lines_of t.file)) (lines_of t.history)) e in
    by_manifest spare t j (loaded_by t) refl j.good
