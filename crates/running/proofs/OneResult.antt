-- What the law of a run says allows one result only: each relation in it is that of a function.
use Rattle.std.proofs.Common.{◌≡◌, ◌≢◌, inl, inr, ℕ, ◌-◌, ◌^◌, min, Bool, true, false, eqb, List, [], ◌∷◌, ◌++◌, length, codes, Option, Some, None, Result, Ok, Err, refl, sym, ap, ap₂, ◌∙◌, append-nil, arith}
use Rattle.std.specs.Prelude.{option_and_then, option_map, if◌then◌else◌}
use Rattle.std.specs.Option.{option_map_or}
use Rattle.encoding.specs.declared.faults.EncodeRefusal.{EncodeRefusal}
use Rattle.encoding.specs.Encoded.{encoded_text}
use Rattle.text.specs.Lines.{lines_of, next_line}
use Rattle.loader.specs.StoreState.{StoreState}
use Rattle.loader.specs.CatalogueView.{CatalogueView, IsCatalogue, opened_on, opening_state, sizes_for}
use Rattle.loader.proofs.Export.{number_behind, numbered}
use Rattle.dumps.specs.declared.refusals.DumpRefusal.{DumpRefusal}
use Rattle.dumps.specs.Dumping.{dump}
use Rattle.dumps.specs.Loading.{after_lines, loaded_state}
use Rattle.oplog.specs.declared.configuration.TheConstants.{MAX_LIMIT}
use Rattle.oplog.specs.History.{History}
use Rattle.scripts.specs.Script.{line_meaning}
use Rattle.engine.specs.declared.parted.Destination.{Destination}
use Rattle.engine.specs.declared.parted.Destination.TheVariants as destinations
use Rattle.engine.specs.declared.parted.Parted.{Parted}
use Rattle.engine.specs.declared.performing.Performed.{Performed}
use Rattle.engine.specs.declared.replies.Status.{Status}
use Rattle.engine.specs.declared.replies.Status.TheVariants as statuses
use Rattle.engine.specs.declared.replies.Verdict.TheVariants as verdicts
use Rattle.engine.specs.Answer.{Answer, not_text}
use Rattle.engine.specs.Opening.{opening_of_long, with_places_for}
use Rattle.engine.specs.Parted.{PartedAnswer, sent_to, whole}
use Rattle.engine.specs.declared.reading.MapSizes.{MapSizes}
use Rattle.engine.specs.Reading.{Given, first_stranger, limits_of, long_of}
use Rattle.engine.specs.Status.{status_of}
use Rattle.engine.specs.StateAnswer.{refusal_text}
use Rattle.engine.specs.Written.{AreTexts, IsWritten, loads}
use Rattle.engine.proofs.Export.{are_limits, on_loaded}
use Rattle.running.specs.declared.single_node.TheConstants.{RUN_PLACES}
use Rattle.running.specs.CalledRun.{refused_on}
use Rattle.running.specs.KeptRun.{KeptRun, lines_left, script_kept, with_dump}
use Rattle.running.specs.RunAnswer.{bad_line, behind, line_turn, lines_answer, state_of, taken}
use Rattle.running.specs.RunLaw.{AreCallsDone, AreOne, BeginsOn, CallsAreUnique, IsGoodRun, IsGoodText, IsHandedBack, IsRefusedCalls, IsRefusedRun, IsRefusedText, IsUnrun, IsWhole, RunIsUnique, dump_after, handed_back, with_signs}
use Rattle.running.proofs.OneTurn.{reaches, unequal}
use Rattle.running.proofs.RunsOfLines.{loaded_is_catalogue, opened_is_catalogue, placed_for}
use Rattle.running.proofs.RunWrites.{good_answer, signed_kept}
use Rattle.running.proofs.CutRuns.{no_updates}

-- ---- what a run begins on

empty_is_new : (sizes : MapSizes) (c : CatalogueView) (refusal : DumpRefusal) → loaded_state (sizes_for (with_places_for sizes c RUN_PLACES)) [] ≡ Err refusal → ⊥
unfolding loaded_state after_lines
empty_is_new sizes c refusal e = cc

module _ (g : Given) where
  abbrev opens_as : Result CatalogueView Answer
  opens_as = opening_of_long (Some RUN_PLACES) (long_of g.sizes) (loads g) g.state

  abbrev by_length : CatalogueView → Bool → Result CatalogueView Answer
  by_length loaded empty = if empty then Ok (with_places_for g.sizes loaded RUN_PLACES) else on_loaded (with_places_for g.sizes loaded RUN_PLACES) (loaded_state (sizes_for (with_places_for g.sizes loaded RUN_PLACES)) g.state)

  some_length : g.state ≢ [] → eqb (length g.state) 0 ≡ false
  some_length some = by g.state some
    where
      by : (text : List ℕ) → text ≢ [] → eqb (length text) 0 ≡ false
      by [] some = absurd (some refl)
      by (x ∷ xs) some = unequal _ _ (λ e. absurd (omega (arith, e)))

  is_placed : (loaded : CatalogueView) → loads g ≡ Ok loaded → IsCatalogue (with_places_for g.sizes loaded RUN_PLACES)
  is_placed loaded is = placed_for g.sizes loaded RUN_PLACES (loaded_is_catalogue (limits_of g.sizes) g.manifest _ loaded RUN_PLACES (are_limits g.sizes) is (omega arith))

  begins : (c : CatalogueView) → BeginsOn g c → IsCatalogue c × (opens_as ≡ Ok c)
  begins _ (BeginsOn.new loaded is empty) =
      (is_placed loaded is, ap (λ o. opening_of_long (Some RUN_PLACES) (long_of g.sizes) o g.state) is ∙ ap (by_length loaded) (ap (λ (x : List ℕ). eqb (length x) 0) empty))
  begins _ (BeginsOn.given loaded state is some said) =
      let opened : on_loaded (with_places_for g.sizes loaded RUN_PLACES) (loaded_state (sizes_for (with_places_for g.sizes loaded RUN_PLACES)) g.state) ≡ Ok (opened_on (with_places_for g.sizes loaded RUN_PLACES) state) = ap (on_loaded (with_places_for g.sizes loaded RUN_PLACES)) said in (
        opened_is_catalogue (with_places_for g.sizes loaded RUN_PLACES) (opened_on (with_places_for g.sizes loaded RUN_PLACES) state) g.state (is_placed loaded is) opened,
        ap (λ o. opening_of_long (Some RUN_PLACES) (long_of g.sizes) o g.state) is ∙ ap (by_length loaded) (some_length some) ∙ opened,
      )

  -- ---- what a script comes to

  abbrev bad : List ℕ → Answer
  bad text = record { text = text; verdict = verdicts.Refused }

  -- unless a text is not UTF-8
  abbrev unless_strange : {A : Type 0} → A → A → A
  unless_strange strange text = option_map_or (λ s. strange) (first_stranger g) text

  is_text : {A : Type 0} (strange text : A) → AreTexts g → unless_strange strange text ≡ text
  is_text strange text none = ap (λ o. option_map_or (λ s. strange) o text) none

  is_strange : {A : Type 0} (strange text : A) (s : List ℕ × List ℕ) → first_stranger g ≡ Some s → unless_strange strange text ≡ strange
  is_strange strange text s is = ap (λ o. option_map_or (λ s. strange) o text) is

  -- no line is run
  data Stops (text : List ℕ) : Type 0 where
    strange : (s : List ℕ × List ℕ) → first_stranger g ≡ Some s → text ≡ codes "not UTF-8\n" → Stops text
    barred : AreTexts g → opens_as ≡ Err (bad text) → Stops text

  state_refused : (loaded : CatalogueView) (refusal : DumpRefusal) → AreTexts g → loads g ≡ Ok loaded → loaded_state (sizes_for (with_places_for g.sizes loaded RUN_PLACES)) g.state ≡ Err refusal → Stops (refusal_text refusal)
  state_refused loaded refusal texts is said =
      let some : g.state ≢ [] = λ empty. empty_is_new g.sizes loaded refusal (ap (loaded_state (sizes_for (with_places_for g.sizes loaded RUN_PLACES))) (sym empty) ∙ said) in
      Stops.barred texts (ap (λ o. opening_of_long (Some RUN_PLACES) (long_of g.sizes) o g.state) is ∙ ap (by_length loaded) (some_length some) ∙ ap (on_loaded (with_places_for g.sizes loaded RUN_PLACES)) said)

  stops : (text : List ℕ) → IsUnrun g text → Stops text
  stops _ (IsUnrun.not_text text (s, is, same)) = Stops.strange s is same
  stops _ (IsUnrun.manifest text (texts, refusal, is, same)) =
      Stops.barred texts (ap (λ o. opening_of_long (Some RUN_PLACES) (long_of g.sizes) o g.state) is ∙ ap (λ x. Err (bad x)) (sym same))
  stops _ (IsUnrun.state loaded refusal texts is said) = state_refused loaded refusal texts is said

  module _ (script : List ℕ) where
    abbrev kept : KeptRun
    kept = unless_strange (record { answer = not_text; state = None }) (script_kept script opens_as)

    kept_on : (c : CatalogueView) → AreTexts g → opens_as ≡ Ok c → kept ≡ script_kept script (Ok c)
    kept_on c texts opened = is_text (record { answer = not_text; state = None }) (script_kept script opens_as) texts ∙ ap (script_kept script) opened

    good_run : (text : List ℕ) (left : StoreState) → IsGoodRun g script text left → kept ≡ record { answer = good_answer text; state = Some left }
    unfolding lines_answer lines_left
    good_run text left (texts, c, on, run) =
        let b = begins c on in
        let reach = reaches c b.0 [] 0 (opening_state c) (lines_of script) text left run [] 1 (no_updates c) refl refl in
        let same : lines_of script ≡ lines_of script ++ [] = sym (append-nil (lines_of script)) in
        let answer : lines_answer MAX_LIMIT c 1 [] (lines_of script) ≡ good_answer text =
        ap (lines_answer MAX_LIMIT c 1 []) same ∙ reach.answer ∙ ap good_answer (append-nil text) in
        let leaves : option_map (state_of c) (lines_left MAX_LIMIT c [] (lines_of script)) ≡ Some left =
        ap (λ x. option_map (state_of c) (lines_left MAX_LIMIT c [] x)) same ∙ ap (option_map (state_of c)) reach.leaves ∙ ap Some reach.state in
        kept_on c texts b.1 ∙ ap₂ (λ a s. record { answer = a; state = s }) answer leaves

    unrun : (text : List ℕ) → Stops text → kept ≡ record { answer = bad text; state = None }
    unrun text (Stops.strange s is same) =
        is_strange (record { answer = not_text; state = None }) (script_kept script opens_as) s is ∙ ap (λ x. record { answer = bad x; state = None }) (sym same)
    unrun text (Stops.barred texts opened) =
        is_text (record { answer = not_text; state = None }) (script_kept script opens_as) texts ∙ ap (script_kept script) opened

    bad_turn : (c : CatalogueView) (h : History) (line : List ℕ) → line_meaning line ≡ None → line_turn MAX_LIMIT c h line ≡ None
    unfolding line_turn
    bad_turn c h line none = ap (option_map (taken MAX_LIMIT c h)) none

    bad_run : (text : List ℕ) → IsRefusedRun g script text → kept ≡ record { answer = bad text; state = None }
    unfolding lines_answer lines_left
    bad_run _ (IsRefusedRun.unrun text is) = unrun text (stops text is)
    bad_run _ (IsRefusedRun.bad c before after line text left texts on split run none) =
        let b = begins c on in
        let reach = reaches c b.0 (line ∷ after) 0 (opening_state c) before text left run [] 1 (no_updates c) refl refl in
        let stopped = bad_turn c reach.last line none in
        let at : number_behind 1 before ≡ next_line (length before) = numbered 1 before (omega arith) ∙ ap (λ n. min n (2 ^ 32 - 1)) (omega arith) in
        let answer : lines_answer MAX_LIMIT c 1 [] (lines_of script) ≡ behind text (bad_line (next_line (length before))) =
        ap (lines_answer MAX_LIMIT c 1 []) split ∙ reach.answer
        ∙ ap (λ o. behind text (option_map_or (λ turn. behind turn.text (lines_answer MAX_LIMIT c (next_line (number_behind 1 before)) turn.history after)) o (bad_line (number_behind 1 before)))) stopped
        ∙ ap (λ n. behind text (bad_line n)) at in
        let leaves : option_map (state_of c) (lines_left MAX_LIMIT c [] (lines_of script)) ≡ None =
        ap (λ x. option_map (state_of c) (lines_left MAX_LIMIT c [] x)) split ∙ ap (option_map (state_of c)) reach.leaves
        ∙ ap (λ o. option_map (state_of c) (option_and_then (λ turn. lines_left MAX_LIMIT c turn.history after) o)) stopped in
        kept_on c texts b.1 ∙ ap₂ (λ a s. record { answer = a; state = s }) answer leaves

-- ---- what is written, and what is handed back

-- a result is what an answer says
pub record IsResult (p : PartedAnswer) (text : List ℕ) (status : Status) (handed : Option (List ℕ)) : Type 0 where
  pub text_is : text ≡ p.answer.text
  pub status_is : status ≡ status_of p.answer.verdict
  pub handed_is : handed ≡ p.elsewhere

by_one : (p : PartedAnswer) (text other : List ℕ) (done again : Performed Parted) → IsResult p text done.status (handed_back done) → IsResult p other again.status (handed_back again) → AreOne text other done again
by_one p text other done again a b = (a.text_is ∙ sym b.text_is, a.status_is ∙ sym b.status_is, a.handed_is ∙ sym b.handed_is)

module _ (is_signed : Bool) (to : Destination) (g : Given) (script : List ℕ) where
  abbrev parted : PartedAnswer
  parted = with_dump to (signed_kept is_signed (kept g script))

  signs : (signed : Bool) (a : Answer) (s : Option StoreState) → signed_kept signed (record { answer = a; state = s }) ≡ record { answer = record { text = with_signs signed a.text; verdict = a.verdict }; state = s }
  signs true a s = refl
  signs false a s = refl

  parted_good : (lines : List ℕ) (left : StoreState) → IsGoodRun g script lines left → parted ≡ sent_to to (good_answer (with_signs is_signed lines)) (dump left)
  parted_good lines left is =
      ap (λ k. with_dump to (signed_kept is_signed k)) (good_run g script lines left is) ∙ ap (with_dump to) (signs is_signed (good_answer lines) (Some left))

  parted_bad : (lines : List ℕ) → IsRefusedRun g script lines → parted ≡ whole (bad g (with_signs is_signed lines))
  parted_bad lines is =
      ap (λ k. with_dump to (signed_kept is_signed k)) (bad_run g script lines is) ∙ ap (with_dump to) (signs is_signed (bad g lines) None)

sent_text : (to : Destination) (text : List ℕ) (left : StoreState) → (sent_to to (good_answer text) (dump left)).answer ≡ good_answer (text ++ dump_after to left)
sent_text destinations.Nowhere text left = ap good_answer (sym (append-nil text))
sent_text destinations.Writer text left = refl
sent_text destinations.Elsewhere text left = ap good_answer (sym (append-nil text))

module _ (is_signed : Bool) (g : Given) (script : List ℕ) where
  good_handed : (to : Destination) (handed : Option (List ℕ)) (lines : List ℕ) (left : StoreState) → IsGoodRun g script lines left → IsHandedBack g script to statuses.Good handed → handed ≡ (parted is_signed to g script).elsewhere
  good_handed destinations.Nowhere handed lines left is none = none ∙ sym (ap (λ (p : PartedAnswer). p.elsewhere) (parted_good is_signed destinations.Nowhere g script lines left is))
  good_handed destinations.Writer handed lines left is none = none ∙ sym (ap (λ (p : PartedAnswer). p.elsewhere) (parted_good is_signed destinations.Writer g script lines left is))
  good_handed destinations.Elsewhere handed lines left is (others, state, run, same) =
      same ∙ sym (ap (λ (p : PartedAnswer). p.elsewhere) (parted_good is_signed destinations.Elsewhere g script others state run))

  none_handed : (to : Destination) (handed : Option (List ℕ)) → IsHandedBack g script to statuses.Refused handed → handed ≡ None
  none_handed destinations.Nowhere handed none = none
  none_handed destinations.Writer handed none = none
  none_handed destinations.Elsewhere handed none = none

  good_result : (to : Destination) (text : List ℕ) (handed : Option (List ℕ)) → IsGoodText is_signed to g script text → IsHandedBack g script to statuses.Good handed → IsResult (parted is_signed to g script) text statuses.Good handed
  good_result to text handed (lines, left, is, same) back =
      let answer : (parted is_signed to g script).answer ≡ good_answer (with_signs is_signed lines ++ dump_after to left) =
      ap (λ (p : PartedAnswer). p.answer) (parted_good is_signed to g script lines left is) ∙ sent_text to (with_signs is_signed lines) left in
      record {
        text_is = same ∙ sym (ap (λ (a : Answer). a.text) answer);
        status_is = sym (ap (λ (a : Answer). status_of a.verdict) answer);
        handed_is = good_handed to handed lines left is back;
      }

  bad_result : (to : Destination) (text : List ℕ) (handed : Option (List ℕ)) → IsRefusedText is_signed to g script text → IsHandedBack g script to statuses.Refused handed → IsResult (parted is_signed to g script) text statuses.Refused handed
  bad_result to text handed (lines, is, same) back =
      let answer = parted_bad is_signed to g script lines is in
      record {
        text_is = same ∙ sym (ap (λ (p : PartedAnswer). p.answer.text) answer);
        status_is = sym (ap (λ (p : PartedAnswer). status_of p.answer.verdict) answer);
        handed_is = none_handed to handed back ∙ sym (ap (λ (p : PartedAnswer). p.elsewhere) answer);
      }

  result : (to : Destination) (text : List ℕ) (status : Status) (handed : Option (List ℕ)) → IsWritten (IsGoodText is_signed to g script) (IsRefusedText is_signed to g script) text status → IsHandedBack g script to status handed
      → IsWhole status → IsResult (parted is_signed to g script) text status handed
  result to text statuses.Good handed wrote back all = good_result to text handed wrote back
  result to text statuses.Refused handed wrote back all = bad_result to text handed wrote back
  result to text statuses.NoMemory handed wrote back (inl never) = cc
  result to text statuses.NoMemory handed wrote back (inr never) = cc
  result to text statuses.CannotRead handed wrote back (inl never) = cc
  result to text statuses.CannotRead handed wrote back (inr never) = cc
  result to text statuses.CannotWrite handed wrote back (inl never) = cc
  result to text statuses.CannotWrite handed wrote back (inr never) = cc
  result to text statuses.Differs handed wrote back all = absurd wrote

pub run_is_unique : RunIsUnique
run_is_unique is_signed to g script text other done again (wrote, back) (wrote_other, back_other) all all_other =
    by_one (parted is_signed to g script) text other done again (result is_signed g script to text done.status (handed_back done) wrote back all)
    (result is_signed g script to other again.status (handed_back again) wrote_other back_other all_other)

-- ---- calls

module _ (g : Given) (refusal : EncodeRefusal) where
  abbrev refused_as : PartedAnswer
  refused_as = whole (unless_strange g not_text (refused_on refusal (opens_as g)))

  calls_text : (text : List ℕ) → IsRefusedCalls g refusal text → refused_as ≡ whole (bad g text)
  calls_text text (inl unrun) = by (stops g text unrun)
    where
      by : Stops g text → refused_as ≡ whole (bad g text)
      by (Stops.strange s is same) = ap whole (is_strange g not_text (refused_on refusal (opens_as g)) s is ∙ ap (bad g) (sym same))
      by (Stops.barred texts opened) = ap whole (is_text g not_text (refused_on refusal (opens_as g)) texts ∙ ap (refused_on refusal) opened)
  calls_text text (inr (texts, c, on, same)) =
      ap whole (is_text g not_text (refused_on refusal (opens_as g)) texts ∙ ap (refused_on refusal) (begins g c on).1 ∙ ap (bad g) (sym same))

  refused_result : (text : List ℕ) (handed : Option (List ℕ)) → IsRefusedCalls g refusal text → handed ≡ None → IsResult refused_as text statuses.Refused handed
  refused_result text handed is none =
      let p = calls_text text is in
      record {
        text_is = sym (ap (λ (x : PartedAnswer). x.answer.text) p);
        status_is = sym (ap (λ (x : PartedAnswer). status_of x.answer.verdict) p);
        handed_is = none ∙ sym (ap (λ (x : PartedAnswer). x.elsewhere) p);
      }

  calls_result : (text : List ℕ) (status : Status) (handed : Option (List ℕ)) → IsWritten (λ _. ⊥) (IsRefusedCalls g refusal) text status → handed ≡ None → IsWhole status → IsResult refused_as text status handed
  calls_result text statuses.Good handed wrote none all = absurd wrote
  calls_result text statuses.Refused handed wrote none all = refused_result text handed wrote none
  calls_result text statuses.NoMemory handed wrote none (inl never) = cc
  calls_result text statuses.NoMemory handed wrote none (inr never) = cc
  calls_result text statuses.CannotRead handed wrote none (inl never) = cc
  calls_result text statuses.CannotRead handed wrote none (inr never) = cc
  calls_result text statuses.CannotWrite handed wrote none (inl never) = cc
  calls_result text statuses.CannotWrite handed wrote none (inr never) = cc
  calls_result text statuses.Differs handed wrote none all = absurd wrote

module _ (is_signed : Bool) (to : Destination) (g : Given) (text other : List ℕ) (done again : Performed Parted) where
  by_script : (r : Result (List ℕ) EncodeRefusal) → AreCallsDone is_signed to g r text done → AreCallsDone is_signed to g r other again → IsWhole done.status → IsWhole again.status → AreOne text other done again
  by_script (Ok script) d e all all_other = run_is_unique is_signed to g script text other done again d e all all_other
  by_script (Err refusal) d e all all_other =
      by_one (refused_as g refusal) text other done again (calls_result g refusal text done.status (handed_back done) d.0 d.1 all)
      (calls_result g refusal other again.status (handed_back again) e.0 e.1 all_other)

pub calls_are_unique : CallsAreUnique
calls_are_unique is_signed to g text other done again = by_script is_signed to g text other done again (encoded_text g.file)
