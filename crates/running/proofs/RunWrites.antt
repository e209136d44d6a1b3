-- What `run` writes, from the bytes that it reads to its lines, and the state that it leaves.
use Rattle.std.proofs.Common.{◌≡◌, ◌⊎◌, inl, inr, ℕ, ◌+◌, ◌-◌, ◌^◌, min, Bool, true, false, eqb, List, [], ◌∷◌, ◌++◌, length, codes, Option, Some, None, Result, Ok, Err, refl, sym, ap, ap₂, subst, ◌∙◌, append_assoc, append-nil, arith}
use Rattle.std.specs.Prelude.{option_map, option_and_then, if◌then◌else◌}
use Rattle.std.specs.List.{flat_map}
use Rattle.std.specs.Option.{option_map_or}
use Rattle.std.specs.Str.{is_utf8}
use Rattle.std.proofs.lemmas.Bool.{eqb-true, false≢true}
use Rattle.std.proofs.lemmas.List.{length-append, nil_from_length}
use Rattle.encoding.specs.declared.faults.EncodeRefusal.{EncodeRefusal}
use Rattle.encoding.specs.Encoded.{encoded_text}
use Rattle.encoding.specs.Faults.{refusal_line}
use Rattle.verifier.specs.declared.refusal.Mode.TheVariants.{Update, Read}
use Rattle.text.specs.Lines.{lines_of, next_line}
use Rattle.loader.specs.StoreState.{StoreState}
use Rattle.loader.specs.CatalogueView.{CatalogueView, IsCatalogue, opened_on, sizes_for}
use Rattle.loader.specs.Loading.{Outcome as Loads}
use Rattle.loader.proofs.Export.{number_behind, numbered}
use Rattle.dumps.specs.Dumping.{dump}
use Rattle.dumps.specs.Loading.{Outcome, loaded_state}
use Rattle.oplog.specs.Calls.{Call as TheCall, NewProgram}
use Rattle.oplog.specs.Operations.{Operation}
use Rattle.oplog.specs.declared.configuration.TheConstants.{MAX_LIMIT}
use Rattle.oplog.specs.declared.records.Op.TheVariants.{Run, Install as AnInstall}
use Rattle.oplog.specs.History.{History}
use Rattle.replica.specs.StoreMeaning.{AreUpdates}
use Rattle.replica.proofs.Export.{are_tested, have_effects}
use Rattle.scripts.specs.Script.{ProgramCall, Meaning, Comment, Call, InvokeAt, ReadAt, Install, line_meaning}
use Rattle.engine.specs.declared.parted.Destination.{Destination}
use Rattle.engine.specs.declared.parted.Destination.TheVariants as destinations
use Rattle.engine.specs.declared.parted.Parted.{Parted}
use Rattle.engine.specs.declared.performing.Performed.{Performed}
use Rattle.engine.specs.declared.replies.Status.{Status}
use Rattle.engine.specs.declared.replies.Status.TheVariants as statuses
use Rattle.engine.specs.declared.replies.Verdict.TheVariants as verdicts
use Rattle.engine.specs.Answer.{Answer, not_text}
use Rattle.engine.specs.Engine.{Performs}
use Rattle.engine.specs.Opening.{opening_of_long, with_places_for}
use Rattle.engine.specs.Parted.{PartedAnswer, parted_of, sent_to, whole}
use Rattle.engine.specs.Reading.{Given, first_stranger, limits_of, long_of, read}
use Rattle.engine.specs.Status.{status_of}
use Rattle.engine.specs.StateAnswer.{refusal_text}
use Rattle.engine.specs.Written.{AreTexts, IsWritten, loads}
use Rattle.engine.proofs.Export.{Fits, are_limits, found, on_loaded, performed, unless_strange, written}
use Rattle.running.specs.declared.single_node.TheConstants.{RUN_PLACES}
use Rattle.running.specs.CalledRun.{called_run, calls_refused, refused_on, script_run}
use Rattle.running.specs.KeptRun.{KeptRun, dumped_run, lines_left, script_kept, with_dump}
use Rattle.running.specs.RunAnswer.{Turn, behind, bad_line, line_turn, lines_answer, refused_text, read_text, state_of, taken, update_text, with_operation}
use Rattle.running.specs.RunLaw.{AreCallsDone, CallsWrite, IsDone, IsRefusedCalls, AreRun, AsksByName, BeginsOn, IsGoodRun, IsGoodText, IsHandedBack, IsRefusedRun, IsRefusedText, IsTurn, IsUnrun, RunWrites, handed_back, with_signs}
use Rattle.running.specs.RunLines.{CallRuns, CallTurn, IsInstallTurn, IsReadTurn, IsRefusedTurn, IsUpdateTurn, IsWhySaid, LineTurn, MeaningTurn}
use Rattle.running.specs.Signed.{reply_in, signed_line, signed_text}
use Rattle.running.proofs.RunsOfLines.{left_behind, line_turns_are_runs, loaded_is_catalogue, opened_is_catalogue, placed_for}
use Rattle.running.proofs.CutRuns.{no_updates}

-- ---- one line

module _ (c : CatalogueView) (is_whole : IsCatalogue c) (h : History) (updates : AreUpdates c h) (line : List ℕ) (turn : Turn) where
  abbrev Is : Type 0
  Is = IsTurn c (length h) (state_of c h) line turn.text (length turn.history) (state_of c turn.history)

  moved : (text : List ℕ) (n : ℕ) (s : StoreState) → turn.text ≡ text → length turn.history ≡ n → state_of c turn.history ≡ s → IsTurn c (length h) (state_of c h) line text n s → Is
  moved text n s wrote count left is =
      subst (λ x. IsTurn c (length h) (state_of c h) line turn.text (length turn.history) x) (sym left)
      (subst (λ x. IsTurn c (length h) (state_of c h) line turn.text x s) (sym count) (subst (λ x. IsTurn c (length h) (state_of c h) line x n s) (sym wrote) is))

  stays : (text : List ℕ) → turn.text ≡ text → turn.history ≡ h → IsTurn c (length h) (state_of c h) line text (length h) (state_of c h) → Is
  stays text wrote same is = moved text (length h) (state_of c h) wrote (ap length same) (ap (state_of c) same) is

  stops : (said : Meaning) → line_meaning line ≡ Some said → IsRefusedTurn (IsWhySaid MAX_LIMIT c (length h) said) h turn → Is
  stops said says r = stays (refused_text r.why) r.text r.same (IsTurn.refused said r.why says r.is)

  reads : (call : TheCall) → AsksByName c line Read call ⊎ (line_meaning line ≡ Some (ReadAt call)) → IsReadTurn c h call turn → Is
  reads call says r = stays (read_text (length h) r.done.reply r.done.steps) r.text r.same (IsTurn.read call r.done (says, r.asked) r.does)

  grown : (op : Operation) → turn.history ≡ with_operation h op → length turn.history ≡ length h + 1
  grown op next = ap length next ∙ length-append h (record { author = 0; seq = length h; op = op } ∷ [])

  updates_maps : (call : TheCall) → AsksByName c line Update call ⊎ (line_meaning line ≡ Some (InvokeAt call)) → IsUpdateTurn MAX_LIMIT c h call turn → Is
  updates_maps call says u =
      let e = (have_effects c is_whole h updates).updates (length h) call ((are_tested Update c (Run call)).1 u.asked) in
      let at : state_of c turn.history ≡ record (state_of c h) { maps = e.0.maps } = ap (state_of c) u.next ∙ left_behind c is_whole h updates (Run call) _ e.2 in
      let maps : e.0.maps ≡ u.done.maps = sym (ap (λ (s : StoreState). s.maps) at) ∙ u.left in
      moved (update_text (length h) u.done.reply u.done.steps) (length h + 1) (record (state_of c h) { maps = u.done.maps }) u.text (grown (Run call) u.next)
      (at ∙ ap (λ m. record (state_of c h) { maps = m }) maps) (IsTurn.update call u.done u.room (says, u.asked) u.does)

  installs : (new : NewProgram) → line_meaning line ≡ Some (Install new) → IsInstallTurn MAX_LIMIT c h new turn → Is
  installs new says i = moved _ (length h + 1) _ i.text (grown (AnInstall new) i.next) i.left (IsTurn.install new i.program i.room says i.asked i.read)

  called : (call : ProgramCall) → line_meaning line ≡ Some (Call call) → CallTurn MAX_LIMIT c h call turn → Is
  called call says (inl r) = stops (Call call) says r
  called call says (inr (k, number, inl (u, runs))) =
      let r : CallRuns c h (record { program = k; argument = call.argument }) Update u.done = runs in
      updates_maps (record { program = k; argument = call.argument }) (inl (record { name = call.name; program = r.program; says = says; number = number; named = r.named; mode_is = r.mode_is })) u
  called call says (inr (k, number, inr (t, runs))) =
      let r : CallRuns c h (record { program = k; argument = call.argument }) Read t.done = runs in
      reads (record { program = k; argument = call.argument }) (inl (record { name = call.name; program = r.program; says = says; number = number; named = r.named; mode_is = r.mode_is })) t

  by_meaning : (m : Meaning) → line_meaning line ≡ Some m → MeaningTurn MAX_LIMIT c h turn m → Is
  by_meaning Comment says (text, same) = stays [] text same (IsTurn.comment says)
  by_meaning (Call call) says does = called call says does
  by_meaning (InvokeAt call) says (inl r) = stops (InvokeAt call) says r
  by_meaning (InvokeAt call) says (inr u) = updates_maps call (inr says) u
  by_meaning (ReadAt call) says (inl r) = stops (ReadAt call) says r
  by_meaning (ReadAt call) says (inr r) = reads call (inr says) r
  by_meaning (Install new) says (inl r) = stops (Install new) says r
  by_meaning (Install new) says (inr i) = installs new says i

  is_turn : LineTurn MAX_LIMIT c h line turn → Is
  is_turn (m, says, does) = by_meaning m says does

-- ---- the lines

abbrev pub good_answer : List ℕ → Answer
good_answer text = record { text = text; verdict = verdicts.Good }

module _ (c : CatalogueView) (is_whole : IsCatalogue c) where
  -- what lines from number n on came to: all are good, or one is bad
  abbrev AllGood : History → List (List ℕ) → Answer → Option History → Type 0
  AllGood h ls a left = (text : List ℕ) × (g : History) × (a ≡ good_answer text) × (left ≡ Some g) × AreRun c (length h) (state_of c h) ls text (state_of c g)

  abbrev OneBad : ℕ → History → List (List ℕ) → Answer → Option History → Type 0
  OneBad n h ls a left =
      (before : List (List ℕ))
      × (line : List ℕ)
      × (after : List (List ℕ))
      × (text : List ℕ)
      × (s : StoreState)
      × (a ≡ behind text (bad_line (number_behind n before)))
      × (left ≡ None)
      × (ls ≡ before ++ line ∷ after)
      × AreRun c (length h) (state_of c h) before text s
      × (line_meaning line ≡ None)

  abbrev Ends : ℕ → History → List (List ℕ) → Answer → Option History → Type 0
  Ends n h ls a left = AllGood h ls a left ⊎ OneBad n h ls a left

  module _ (n : ℕ) (h : History) (updates : AreUpdates c h) (l : List ℕ) (ls : List (List ℕ))
      (more : (g : History) → AreUpdates c g → Ends (next_line n) g ls (lines_answer MAX_LIMIT c (next_line n) g ls) (lines_left MAX_LIMIT c g ls)) where
    abbrev next : Turn → Answer
    next turn = behind turn.text (lines_answer MAX_LIMIT c (next_line n) turn.history ls)

    abbrev left_on : Turn → Option History
    left_on turn = lines_left MAX_LIMIT c turn.history ls

    one_more : (turn : Turn) → IsTurn c (length h) (state_of c h) l turn.text (length turn.history) (state_of c turn.history)
        → Ends (next_line n) turn.history ls (lines_answer MAX_LIMIT c (next_line n) turn.history ls) (left_on turn) → Ends n h (l ∷ ls) (next turn) (left_on turn)
    one_more turn is (inl (text, g, wrote, left, run)) = inl (turn.text ++ text, g, ap (behind turn.text) wrote, left, AreRun.line _ _ _ _ _ l ls turn.text text is run)
    one_more turn is (inr (before, line, after, text, s, wrote, left, split, run, bad)) =
        inr (
          l ∷ before,
          line,
          after,
          turn.text ++ text,
          s,
          ap (behind turn.text) wrote ∙ sym (ap (λ x. record { text = x; verdict = verdicts.Refused }) (append_assoc turn.text text (bad_line (number_behind (next_line n) before)).text)),
          left,
          ap (λ xs. l ∷ xs) split,
          AreRun.line _ _ _ _ _ l before turn.text text is run,
          bad,
        )

    by_turn : (o : Option Turn) → line_turn MAX_LIMIT c h l ≡ o → Ends n h (l ∷ ls) (option_map_or next o (bad_line n)) (option_and_then left_on o)
    unfolding line_turn
    by_turn None e = inr ([], l, ls, [], state_of c h, refl, refl, refl, AreRun.none _ _, unmapped (taken MAX_LIMIT c h) (line_meaning l) e)
      where
        unmapped : {A B : Type 0} (f : A → B) (o : Option A) → option_map f o ≡ None → o ≡ None
        unmapped f None e = refl
        unmapped f (Some x) e = absurd cc
    by_turn (Some turn) e =
        let t = line_turns_are_runs MAX_LIMIT c h l turn is_whole updates e in
        one_more turn (is_turn c is_whole h updates l turn t.0) (more turn.history t.1)

  lines_end : (ls : List (List ℕ)) (n : ℕ) (h : History) → AreUpdates c h → Ends n h ls (lines_answer MAX_LIMIT c n h ls) (lines_left MAX_LIMIT c h ls)
  unfolding lines_answer lines_left
  lines_end [] n h updates = inl ([], h, refl, refl, AreRun.none _ _)
  lines_end (l ∷ ls) n h updates = by_turn n h updates l ls (λ g u. lines_end ls (next_line n) g u) (line_turn MAX_LIMIT c h l) refl

-- ---- what is answered, and the state that is left

module _ (g : Given) (script : List ℕ) where
  abbrev RunsGood : KeptRun → Type 0
  RunsGood k = (text : List ℕ) × (left : StoreState) × IsGoodRun g script text left × (k ≡ record { answer = good_answer text; state = Some left })

  abbrev RunsBad : KeptRun → Type 0
  RunsBad k = (text : List ℕ) × IsRefusedRun g script text × (k ≡ record { answer = record { text = text; verdict = verdicts.Refused }; state = None })

  abbrev RunIs : KeptRun → Type 0
  RunIs k = RunsGood k ⊎ RunsBad k

  on_lines : (c : CatalogueView) → AreTexts g → IsCatalogue c → BeginsOn g c → RunIs (script_kept script (Ok c))
  on_lines c texts is_whole begins = by_end (lines_end c is_whole (lines_of script) 1 [] (no_updates c))
    where
      by_end : {a : Answer} {left : Option History} → Ends c is_whole 1 [] (lines_of script) a left → RunIs (record { answer = a; state = option_map (state_of c) left })
      by_end (inl (text, h, wrote, left, run)) = inl (text, state_of c h, (texts, c, begins, run), ap₂ (λ a s. record { answer = a; state = s }) wrote (ap (option_map (state_of c)) left))
      by_end (inr (before, line, after, text, s, wrote, left, split, run, bad)) =
          let at : number_behind 1 before ≡ next_line (length before) = numbered 1 before (omega arith) ∙ ap (λ n. min n (2 ^ 32 - 1)) (omega arith) in
          inr (
            _,
            IsRefusedRun.bad c before after line text s texts begins split run bad,
            ap₂ (λ a s. record { answer = a; state = s }) (wrote ∙ ap (λ n. behind text (bad_line n)) at) (ap (option_map (state_of c)) left),
          )

-- what is answered to calls that are refused
abbrev RefusesCalls : Given → EncodeRefusal → PartedAnswer → Type 0
RefusesCalls g refusal p = (text : List ℕ) × IsRefusedCalls g refusal text × (p ≡ whole (record { text = text; verdict = verdicts.Refused }))

-- ---- what a run begins on, or what is answered in its place

module _ (g : Given) (texts : AreTexts g) where
  abbrev OpeningIs : Result CatalogueView Answer → Type 0
  OpeningIs (Ok c) = IsCatalogue c × BeginsOn g c
  OpeningIs (Err a) = (text : List ℕ) × IsUnrun g text × (a ≡ record { text = text; verdict = verdicts.Refused })

  module _ (loaded : CatalogueView) (is : loads g ≡ Ok loaded) where
    abbrev placed : CatalogueView
    placed = with_places_for g.sizes loaded RUN_PLACES

    is_placed : IsCatalogue placed
    is_placed = placed_for g.sizes loaded RUN_PLACES (loaded_is_catalogue (limits_of g.sizes) g.manifest _ loaded RUN_PLACES (are_limits g.sizes) is (omega arith))

    by_state : (o : Outcome) → (g.state ≡ [] → ⊥) → loaded_state (sizes_for (with_places_for g.sizes loaded RUN_PLACES)) g.state ≡ o → OpeningIs (on_loaded placed o)
    by_state (Ok s) some said = (opened_is_catalogue placed (opened_on placed s) g.state is_placed (ap (on_loaded placed) said), BeginsOn.given loaded s is some said)
    by_state (Err e) some said = (refusal_text e, IsUnrun.state loaded e texts is said, refl)

    by_length : (b : Bool) → eqb (length g.state) 0 ≡ b → OpeningIs (if b then Ok placed else on_loaded placed (loaded_state (sizes_for (with_places_for g.sizes loaded RUN_PLACES)) g.state))
    by_length true empty = (is_placed, BeginsOn.new loaded is (nil_from_length g.state (eqb-true _ _ empty)))
    by_length false some = by_state _ (λ empty. false≢true (sym some ∙ ap (λ (x : List ℕ). eqb (length x) 0) empty)) refl

  by_load : (o : Loads) → loads g ≡ o → OpeningIs (opening_of_long (Some RUN_PLACES) (long_of g.sizes) o g.state)
  by_load (Ok loaded) is = by_length loaded is (eqb (length g.state) 0) refl
  by_load (Err e) is = (_, IsUnrun.manifest _ (texts, e, is, refl), refl)

  by_opening : (script : List ℕ) (r : Result CatalogueView Answer) → OpeningIs r → RunIs g script (script_kept script r)
  by_opening script (Ok c) (is_whole, begins) = on_lines g script c texts is_whole begins
  by_opening script (Err a) (text, unrun, same) = inr (text, IsRefusedRun.unrun text unrun, ap (λ x. record { answer = x; state = None }) same)

  pub runs_as : (script : List ℕ) → RunIs g script (script_kept script (opening_of_long (Some RUN_PLACES) (long_of g.sizes) (loads g) g.state))
  runs_as script = by_opening script _ (by_load (loads g) refl)

  by_calls : (refusal : EncodeRefusal) (r : Result CatalogueView Answer) → OpeningIs r → RefusesCalls g refusal (whole (refused_on refusal r))
  by_calls refusal (Ok c) (is_whole, begins) = (refusal_line refusal, inr (texts, c, begins, refl), refl)
  by_calls refusal (Err a) (text, unrun, same) = (text, inl unrun, ap whole same)

  pub refuses_as : (refusal : EncodeRefusal) → RefusesCalls g refusal (calls_refused refusal (found g))
  refuses_as refusal = by_calls refusal _ (by_load (loads g) refl)

-- ---- what is written of it, and what goes elsewhere

abbrev pub signed_kept : Bool → KeptRun → KeptRun
signed_kept is_signed k = if is_signed then record k { answer = record k.answer { text = signed_text k.answer.text } } else k

good_not_refused : statuses.Refused ≡ statuses.Good → ⊥
good_not_refused never = cc

module _ (is_signed : Bool) (to : Destination) (g : Given) (script : List ℕ) where
  abbrev PartsGood : PartedAnswer → Type 0
  PartsGood p = (text : List ℕ) × (left : StoreState) × IsGoodRun g script text left × (p ≡ sent_to to (good_answer (with_signs is_signed text)) (dump left))

  abbrev PartsBad : PartedAnswer → Type 0
  PartsBad p = (text : List ℕ) × IsRefusedRun g script text × (p ≡ whole (record { text = with_signs is_signed text; verdict = verdicts.Refused }))

  abbrev PartIs : PartedAnswer → Type 0
  PartIs p = PartsGood p ⊎ PartsBad p

  fits : (p : PartedAnswer) → PartIs p → Fits (IsGoodText is_signed to g script) (IsRefusedText is_signed to g script) p.answer
  fits p (inl (text, left, is, same)) = subst (λ x. Fits (IsGoodText is_signed to g script) (IsRefusedText is_signed to g script) x.answer) (sym same) (inl (fits_good to))
    where
      fits_good : (d : Destination)
          → ((sent_to d (good_answer (with_signs is_signed text)) (dump left)).answer.verdict ≡ verdicts.Good) × IsGoodText is_signed d g script (sent_to d (good_answer (with_signs is_signed text)) (dump left)).answer.text
      fits_good destinations.Nowhere = (refl, (text, left, is, sym (append-nil (with_signs is_signed text))))
      fits_good destinations.Writer = (refl, (text, left, is, refl))
      fits_good destinations.Elsewhere = (refl, (text, left, is, sym (append-nil (with_signs is_signed text))))
  fits p (inr (text, is, same)) = subst (λ x. Fits (IsGoodText is_signed to g script) (IsRefusedText is_signed to g script) x.answer) (sym same) (inr (refl, (text, is, refl)))

of_run : (is_signed : Bool) (to : Destination) (g : Given) (script : List ℕ) (k : KeptRun) → RunIs g script k → PartIs is_signed to g script (with_dump to (signed_kept is_signed k))
of_run true to g script k (inl (text, left, is, same)) = inl (text, left, is, ap (λ x. with_dump to (signed_kept true x)) same)
of_run false to g script k (inl (text, left, is, same)) = inl (text, left, is, ap (λ x. with_dump to (signed_kept false x)) same)
of_run true to g script k (inr (text, is, same)) = inr (text, is, ap (λ x. with_dump to (signed_kept true x)) same)
of_run false to g script k (inr (text, is, same)) = inr (text, is, ap (λ x. with_dump to (signed_kept false x)) same)

-- the line of what is not UTF-8 tells no reply
by_text : (b : Bool) → (if b then flat_map signed_line (lines_of (codes "not UTF-8\n")) else codes "not UTF-8\n") ≡ codes "not UTF-8\n"
unfolding reply_in
by_text true = refl
by_text false = refl

no_sign : (is_signed : Bool) → with_signs is_signed (codes "not UTF-8\n") ≡ codes "not UTF-8\n"
unfolding signed_text
no_sign true = by_text (is_utf8 (codes "not UTF-8\n"))
no_sign false = refl

module _ (is_signed : Bool) (to : Destination) (g : Given) where
  strange_part : (script : List ℕ) (stranger : List ℕ × List ℕ) → first_stranger g ≡ Some stranger → PartIs is_signed to g script (whole not_text)
  strange_part script s is =
      inr (_, IsRefusedRun.unrun _ (IsUnrun.not_text (codes "not UTF-8\n") (s, is, refl)), ap (λ text. whole (record { text = text; verdict = verdicts.Refused })) (sym (no_sign is_signed)))

  by_stranger : (o : Option (List ℕ × List ℕ)) → first_stranger g ≡ o → PartIs is_signed to g g.file (dumped_run is_signed to (unless_strange o (found g)))
  by_stranger None none = of_run is_signed to g g.file _ (runs_as g none g.file)
  by_stranger (Some s) is = strange_part g.file s is

  pub part_of : PartIs is_signed to g g.file (dumped_run is_signed to (read g))
  part_of = by_stranger (first_stranger g) refl

  -- by what the calls are as a script
  abbrev CallsPart : Result (List ℕ) EncodeRefusal → PartedAnswer → Type 0
  CallsPart (Ok script) p = PartIs is_signed to g script p
  CallsPart (Err refusal) p = RefusesCalls g refusal p

  strange_calls : (r : Result (List ℕ) EncodeRefusal) (stranger : List ℕ × List ℕ) → first_stranger g ≡ Some stranger → CallsPart r (whole not_text)
  strange_calls (Ok script) s is = strange_part script s is
  strange_calls (Err refusal) s is = (_, inl (IsUnrun.not_text (codes "not UTF-8\n") (s, is, refl)), refl)

  text_calls : (r : Result (List ℕ) EncodeRefusal) → AreTexts g → CallsPart r (script_run is_signed to (found g) r)
  text_calls (Ok script) none = of_run is_signed to g script _ (runs_as g none script)
  text_calls (Err refusal) none = refuses_as g none refusal

  calls_by_stranger : (o : Option (List ℕ × List ℕ)) → first_stranger g ≡ o → CallsPart (encoded_text g.file) (called_run is_signed to (unless_strange o (found g)))
  calls_by_stranger None none = text_calls (encoded_text g.file) none
  calls_by_stranger (Some s) is = strange_calls (encoded_text g.file) s is

  pub calls_part : CallsPart (encoded_text g.file) (called_run is_signed to (read g))
  calls_part = calls_by_stranger (first_stranger g) refl

-- ---- what is handed back

module _ (g : Given) (script : List ℕ) where
  none_back : (to : Destination) (status : Status) → (status ≡ statuses.Good → ⊥) → IsHandedBack g script to status None
  none_back destinations.Nowhere status other = refl
  none_back destinations.Writer status other = refl
  none_back destinations.Elsewhere statuses.Good other = absurd (other refl)
  none_back destinations.Elsewhere statuses.Refused other = refl
  none_back destinations.Elsewhere statuses.NoMemory other = refl
  none_back destinations.Elsewhere statuses.CannotRead other = refl
  none_back destinations.Elsewhere statuses.CannotWrite other = refl
  none_back destinations.Elsewhere statuses.Differs other = refl

  module _ (is_signed : Bool) (status : Status) where
    good_back : (to : Destination) (text : List ℕ) (left : StoreState) → IsGoodRun g script text left → status ≡ statuses.Good
        → IsHandedBack g script to status (sent_to to (good_answer (with_signs is_signed text)) (dump left)).elsewhere
    good_back destinations.Nowhere text left is ended = refl
    good_back destinations.Writer text left is ended = refl
    good_back destinations.Elsewhere text left is ended = subst (λ s. IsHandedBack g script destinations.Elsewhere s (Some (dump left))) (sym ended) (text, left, is, refl)

    sent_verdict : (to : Destination) (text more : List ℕ) → (sent_to to (good_answer text) more).answer.verdict ≡ verdicts.Good
    sent_verdict destinations.Nowhere text more = refl
    sent_verdict destinations.Writer text more = refl
    sent_verdict destinations.Elsewhere text more = refl

    part_back : (to : Destination) (p : PartedAnswer) → PartIs is_signed to g script p → status ≡ status_of p.answer.verdict → IsHandedBack g script to status p.elsewhere
    part_back to p (inl (text, left, is, same)) ended =
        subst (λ x. IsHandedBack g script to status x.elsewhere) (sym same)
        (good_back to text left is (ended ∙ ap (λ (x : PartedAnswer). status_of x.answer.verdict) same ∙ ap status_of (sent_verdict to (with_signs is_signed text) (dump left))))
    part_back to p (inr (text, is, same)) ended =
        let refused : status ≡ statuses.Refused = ended ∙ ap (λ (x : PartedAnswer). status_of x.answer.verdict) same in
        subst (λ x. IsHandedBack g script to status x.elsewhere) (sym same) (none_back to status (λ good. good_not_refused (sym refused ∙ good)))

  module _ (is_signed : Bool) (to : Destination) (Is : Parted → Type 0) (parts : (p : Parted) → Is p → PartIs is_signed to g script (parted_of p)) (old new : Option (List ℕ)) where
    broken_off : (status : Status) → Performs (λ p. (parted_of p).answer) Is old new (record { status = status; made = None }) → status ≡ statuses.Good → ⊥
    broken_off statuses.Good never good = never
    broken_off statuses.Refused never good = never
    broken_off statuses.Differs never good = never
    broken_off statuses.NoMemory wrote good = cc
    broken_off statuses.CannotRead kept good = cc
    broken_off statuses.CannotWrite wrote good = cc

    by_made : (status : Status) (made : Option Parted) → Performs (λ p. (parted_of p).answer) Is old new (record { status = status; made = made })
        → IsHandedBack g script to status (handed_back (record { status = status; made = made }))
    by_made status None did = none_back to status (broken_off status did)
    by_made status (Some p) did = part_back is_signed status to (parted_of p) (parts p did.0) did.1

-- ---- the laws

module _ (is_signed : Bool) (to : Destination) (g : Given) (Is : Parted → Type 0) (old new : List ℕ) (done : Performed Parted) (did : Performs (λ (p : Parted). (parted_of p).answer) Is (Some old) (Some new) done) where
  abbrev what : Parted → Answer
  what p = (parted_of p).answer

  by_script : (script : List ℕ) → ((p : Parted) → Is p → PartIs is_signed to g script (parted_of p)) → (text : List ℕ) × (new ≡ old ++ text) × IsDone is_signed to g script text done
  by_script script parts =
      let reports = performed what Is (Some old) (Some new) done.status done.made did in
      let wrote =
      written (IsGoodText is_signed to g script) (IsRefusedText is_signed to g script) what Is (λ p is. fits is_signed to g script (parted_of p) (parts p is)) old new done.status reports in
      (wrote.0, wrote.1, (wrote.2, by_made g script is_signed to Is parts (Some old) (Some new) done.status done.made did))

  module _ (refusal : EncodeRefusal) (refuses : (p : Parted) → Is p → RefusesCalls g refusal (parted_of p)) where
    refusal_fits : (p : PartedAnswer) → RefusesCalls g refusal p → Fits (λ _. ⊥) (IsRefusedCalls g refusal) p.answer
    refusal_fits p (text, is, same) = subst (λ x. Fits (λ _. ⊥) (IsRefusedCalls g refusal) x.answer) (sym same) (inr (refl, is))

    nothing_back : (made : Option Parted) → Performs what Is (Some old) (Some new) (record { status = done.status; made = made }) → handed_back (record { status = done.status; made = made }) ≡ None
    nothing_back None wrote = refl
    nothing_back (Some p) wrote = ap (λ (x : PartedAnswer). x.elsewhere) (refuses p wrote.0).2

    by_refusal : (text : List ℕ) × (new ≡ old ++ text) × IsWritten (λ _. ⊥) (IsRefusedCalls g refusal) text done.status × (handed_back done ≡ None)
    by_refusal =
        let reports = performed what Is (Some old) (Some new) done.status done.made did in
        let wrote = written (λ _. ⊥) (IsRefusedCalls g refusal) what Is (λ p is. refusal_fits (parted_of p) (refuses p is)) old new done.status reports in
        (wrote.0, wrote.1, wrote.2, nothing_back done.made did)

pub run_writes : RunWrites
run_writes is_signed to g old new done did =
    by_script is_signed to g (λ p. parted_of p ≡ dumped_run is_signed to (read g)) old new done did g.file (λ p is. subst (PartIs is_signed to g g.file) (sym is) (part_of is_signed to g))

module _ (is_signed : Bool) (to : Destination) (g : Given) (old new : List ℕ) (done : Performed Parted) where
  abbrev Made : Parted → Type 0
  Made p = parted_of p ≡ called_run is_signed to (read g)

  by_script_or : Performs (λ (p : Parted). (parted_of p).answer) Made (Some old) (Some new) done → (r : Result (List ℕ) EncodeRefusal) → ((p : Parted) → Made p → CallsPart is_signed to g r (parted_of p))
      → (text : List ℕ) × (new ≡ old ++ text) × AreCallsDone is_signed to g r text done
  by_script_or did (Ok script) parts = by_script is_signed to g Made old new done did script parts
  by_script_or did (Err refusal) refuses = let d = by_refusal is_signed to g Made old new done did refusal refuses in (d.0, d.1, (d.2, d.3))

pub calls_write : CallsWrite
calls_write is_signed to g old new done did =
    by_script_or is_signed to g old new done did (encoded_text g.file) (λ p is. subst (CallsPart is_signed to g (encoded_text g.file)) (sym is) (calls_part is_signed to g))
