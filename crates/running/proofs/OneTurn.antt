-- What the law of a run says of lines allows one turn of each only: each relation in it is that of a function.
use Rattle.std.proofs.Common.{◌≡◌, ◌≢◌, inl, inr, ℕ, ◌+◌, ◌<◌, ◌≤◌, Bool, true, false, cond, eqb, List, [], ◌∷◌, ◌++◌, length, Option, Some, None, Ok, refl, sym, ap, subst, ◌∙◌, append_assoc, arith}
use Rattle.std.specs.Prelude.{◌&&◌, nat_lt, nat_le, option_and_then, option_map, if◌then◌else◌}
use Rattle.std.specs.Option.{option_map_or}
use Rattle.std.proofs.lemmas.Bool.{lt-ltb, eq-eqb, le-ltb, le-leb, lt-leb}
use Rattle.std.proofs.lemmas.Bool.Decides.{nat_tests}
use Rattle.std.proofs.lemmas.List.{length-append}
use Rattle.std.proofs.lemmas.Option.{same_Some}
use Rattle.verifier.specs.declared.refusal.Mode.{Mode}
use Rattle.verifier.specs.declared.refusal.Mode.TheVariants.{Update, Read}
use Rattle.verifier.specs.Accepted.{Checked}
use Rattle.machine.specs.Effects.{Effect as RunEffect, effect, effect_of}
use Rattle.machine.proofs.Export.{are_runs}
use Rattle.text.specs.Lines.{next_line}
use Rattle.loader.specs.StoreState.{StoreState}
use Rattle.loader.specs.CatalogueView.{CatalogueView, IsCatalogue}
use Rattle.loader.specs.Installed.{installed_program, most_argument}
use Rattle.loader.proofs.Export.{number_behind}
use Rattle.oplog.specs.Calls.{Call as TheCall, NewProgram}
use Rattle.oplog.specs.Operations.{Operation}
use Rattle.oplog.specs.declared.configuration.TheConstants.{MAX_LIMIT}
use Rattle.oplog.specs.declared.records.Op.TheVariants.{Run, Install as AnInstall}
use Rattle.oplog.specs.History.{Effect, History, effect_at, read_at}
use Rattle.replica.specs.StoreMeaning.{AreUpdates, IsCall, IsInstallable, as_read, as_update, no_program, placed, placed_read, program_at, program_in, run_in, run_of, store_meaning}
use Rattle.replica.specs.HistoryLaws.{HasNone, IsEffectOf}
use Rattle.replica.specs.Refusals.{early_refusal, install_refusal, mode_refusal, offered_refusal, place_refusal, program_refusal, reading_refusal}
use Rattle.replica.specs.declared.refusals.StoreRefused.{StoreRefused}
use Rattle.replica.specs.declared.refusals.StoreRefused.TheVariants.{UnknownProgram, ArgumentLength, WrongMode, Ended, TooLarge, NotDecoded, NotAccepted}
use Rattle.replica.proofs.Export.{are_tested, offered_below, have_effects}
use Rattle.scripts.specs.Script.{ProgramCall, Meaning, Comment, Call, InvokeAt, ReadAt, Install, line_meaning}
use Rattle.running.specs.KeptRun.{lines_left}
use Rattle.running.specs.RunAnswer.{Turn, asked, bad_line, behind, called, install_text, installed, line_turn, lines_answer, numbered as numbered_turn, performed, read_text, refused, state_of, submitted, taken, update_text, with_operation}
use Rattle.running.specs.RunLaw.{AreRun, Asks, AsksByName, IsTurn}
use Rattle.running.specs.RunLines.{HasOtherLength, IsWhy, IsWhyInstall, IsWhyNamed, IsWhySaid}
use Rattle.running.proofs.RunsOfLines.{left_behind, line_turns_are_runs}
use Rattle.running.proofs.Turns.{install_told, performed_by, update_told}

-- ---- tests of numbers

pub unequal : (a b : ℕ) → a ≢ b → eqb a b ≡ false
unequal a b other = grind (arith, nat_tests)

-- ---- what a call does is what the function says

module _ (mode : Mode) (c : CatalogueView) (call : TheCall) (s : StoreState) where
  none_runs : (o : Option Checked) → program_in c s call.program ≡ o → HasNone mode c call s → run_in mode call.argument s.maps o ≡ Some (effect_of 0 no_program s.maps)
  none_runs None at none = refl
  none_runs (Some p) at none = ap (λ b. if b then effect p.program s.maps call.argument else Some (effect_of 0 no_program s.maps)) (none p at)

  runs_to : (e : RunEffect) → IsEffectOf mode c call s e → run_of mode c call s ≡ Some e
  runs_to e (inl (run, same)) =
      ap (run_in mode call.argument s.maps) run.named
      ∙ ap (λ b. if b then effect run.program.program s.maps call.argument else Some (effect_of 0 no_program s.maps)) run.suitable
      ∙ (are_runs run.program.program s.maps call.argument run.done).1 run.run ∙ ap Some (sym same)
  runs_to e (inr (none, same)) = none_runs (program_in c s call.program) refl none ∙ ap Some (sym same)

-- ---- a call by a number is refused as the relation says

wrong : (asked mode : Mode) → mode ≢ asked → mode_refusal asked mode ≡ Some WrongMode
wrong Update Update other = absurd (other refl)
wrong Read Read other = absurd (other refl)
wrong Update Read other = refl
wrong Read Update other = refl

pub own_mode : (mode : Mode) → mode_refusal mode mode ≡ None
own_mode Update = refl
own_mode Read = refl

module _ (c : CatalogueView) (mode : Mode) (call : TheCall) where
  abbrev early : Option StoreRefused
  early = early_refusal c mode call.program call.argument

  abbrev behind_programs : Option StoreRefused
  behind_programs = if nat_lt call.program (length c.programs + c.places) then place_refusal c call.argument else Some UnknownProgram

  of_program : (p : Checked) → program_at c call.program ≡ Some p → early ≡ program_refusal mode call.argument (Some p)
  of_program p named =
      ap (λ b. if b then offered_refusal c mode call.program call.argument else behind_programs) (lt-ltb _ _ (offered_below c call.program p named))
      ∙ ap (program_refusal mode call.argument) named

  of_place : length c.programs ≤ call.program → early ≡ behind_programs
  of_place beyond = ap (λ b. if b then offered_refusal c mode call.program call.argument else behind_programs) (le-ltb _ _ beyond)

  is_beyond : length c.programs + c.places ≤ call.program → early ≡ Some UnknownProgram
  is_beyond beyond =
      of_place (omega (arith, beyond)) ∙ ap (λ b. if b then place_refusal c call.argument else Some UnknownProgram) (le-ltb _ _ beyond)

  is_long : HasOtherLength c call → early ≡ Some ArgumentLength
  is_long (inl (p, named, other)) = of_program p named ∙ ap (λ b. if b then mode_refusal mode p.mode else Some ArgumentLength) (unequal _ _ other)
  is_long (inr (beyond, within, long)) =
      of_place beyond ∙ ap (λ b. if b then place_refusal c call.argument else Some UnknownProgram) (lt-ltb _ _ within)
      ∙ ap (λ b. if b then None else Some ArgumentLength) (lt-leb _ _ long)

  is_wrong : (p : Checked) → program_at c call.program ≡ Some p → length call.argument ≡ p.arg_len → p.mode ≢ mode → early ≡ Some WrongMode
  is_wrong p named fits other =
      of_program p named ∙ ap (λ b. if b then mode_refusal mode p.mode else Some ArgumentLength) (eq-eqb _ _ fits) ∙ wrong mode p.mode other

  goes_on : IsCall mode c call → early ≡ None
  goes_on (inl is) =
      of_program is.program is.named ∙ ap (λ b. if b then mode_refusal mode is.program.mode else Some ArgumentLength) (eq-eqb _ _ is.length_is)
      ∙ ap (mode_refusal mode) is.mode_is ∙ own_mode mode
  goes_on (inr is) =
      of_place is.behind ∙ ap (λ b. if b then place_refusal c call.argument else Some UnknownProgram) (lt-ltb _ _ is.within)
      ∙ ap (λ b. if b then None else Some ArgumentLength) (le-leb _ _ is.short)

  -- of a program the argument has its length
  fits : (p : Checked) → program_at c call.program ≡ Some p → IsCall mode c call → length call.argument ≡ p.arg_len
  fits p named (inl is) = subst (λ (q : Checked). length call.argument ≡ q.arg_len) (same_Some is.program p (sym is.named ∙ named)) is.length_is
  fits p named (inr is) =
      let low = offered_below c call.program p named in
      let high = is.behind in
      absurd (omega (arith, low, high))

-- ---- the turn of a line

module _ (limit : ℕ) (c : CatalogueView) (is_whole : IsCatalogue c) (h : History) (updates : AreUpdates c h) where
  full : (line : ℕ → Effect StoreState → List ℕ) (op : Operation) → limit ≤ length h → submitted limit line c h op ≡ refused h Ended
  full line op most =
      ap (λ b. cond b (record { text = option_map_or (line (length h)) (effect_at store_meaning c h (length h) op) []; history = with_operation h op }) (refused h Ended)) (le-ltb _ _ most)

  goes_in : (line : ℕ → Effect StoreState → List ℕ) (op : Operation) (e : Effect StoreState) → length h < limit → effect_at store_meaning c h (length h) op ≡ Some e
      → submitted limit line c h op ≡ record { text = line (length h) e; history = with_operation h op }
  goes_in line op e room does =
      ap (λ b. cond b (record { text = option_map_or (line (length h)) (effect_at store_meaning c h (length h) op) []; history = with_operation h op }) (refused h Ended)) (lt-ltb _ _ room)
      ∙ ap (λ o. record { text = option_map_or (line (length h)) o []; history = with_operation h op }) does

  -- ---- refusals

  asked_refuses : (mode : Mode) (call : TheCall) (why : StoreRefused) → early_refusal c mode call.program call.argument ≡ Some why → asked limit c h mode call ≡ refused h why
  asked_refuses mode call why e = ap (λ o. option_map_or (refused h) o (performed limit c h (Run call) mode)) e

  asked_performs : (mode : Mode) (call : TheCall) → IsCall mode c call → asked limit c h mode call ≡ performed limit c h (Run call) mode
  asked_performs mode call is = ap (λ o. option_map_or (refused h) o (performed limit c h (Run call) mode)) (goes_on c mode call is)

  ended : (mode : Mode) (call : TheCall) → mode ≡ Update → IsCall Update c call → limit ≤ length h → asked limit c h mode call ≡ refused h Ended
  ended mode call m is most =
      ap (λ (x : Mode). asked limit c h x call) m ∙ asked_performs Update call is ∙ full (λ index e. update_text index e.reply e.steps) (Run call) most

  why_asked : (mode : Mode) (call : TheCall) (why : StoreRefused) → IsWhy limit c (length h) mode call why → asked limit c h mode call ≡ refused h why
  why_asked mode call UnknownProgram is = asked_refuses mode call UnknownProgram (is_beyond c mode call is)
  why_asked mode call ArgumentLength is = asked_refuses mode call ArgumentLength (is_long c mode call is)
  why_asked mode call WrongMode (p, named, same, other) = asked_refuses mode call WrongMode (is_wrong c mode call p named same other)
  why_asked mode call Ended (m, is, most) = ended mode call m is most
  why_asked mode call TooLarge is = absurd is
  why_asked mode call (NotDecoded e) is = absurd is
  why_asked mode call (NotAccepted e) is = absurd is

  module _ (call : TheCall) (p : Checked) (named : program_at c call.program ≡ Some p) where
    of_length : (b : Bool) → eqb (length call.argument) p.arg_len ≡ b → performed_by limit c h call (program_at c call.program) ≡ cond b (performed limit c h (Run call) p.mode) (refused h ArgumentLength)
    of_length b e = ap (performed_by limit c h call) named ∙ ap (λ x. cond x (performed limit c h (Run call) p.mode) (refused h ArgumentLength)) e

    why_short : (why : StoreRefused) → IsWhy limit c (length h) p.mode call why → performed_by limit c h call (program_at c call.program) ≡ refused h why
    why_short UnknownProgram beyond = let low = offered_below c call.program p named in absurd (omega (arith, low, beyond))
    why_short ArgumentLength (inl (q, at, other)) =
        let same : q ≡ p = same_Some q p (sym at ∙ named) in
        of_length false (unequal _ _ (λ equal. other (equal ∙ ap (λ (x : Checked). x.arg_len) (sym same))))
    why_short ArgumentLength (inr (beyond, within, long)) = let low = offered_below c call.program p named in absurd (omega (arith, low, beyond))
    why_short WrongMode (q, at, same, other) = absurd (other (ap (λ (x : Checked). x.mode) (same_Some q p (sym at ∙ named))))
    why_short Ended (m, is, most) =
        of_length true (eq-eqb _ _ (fits c Update call p named is)) ∙ ap (performed limit c h (Run call)) m ∙ full (λ index e. update_text index e.reply e.steps) (Run call) most
    why_short TooLarge is = absurd is
    why_short (NotDecoded e) is = absurd is
    why_short (NotAccepted e) is = absurd is

  why_named : (call : ProgramCall) (why : StoreRefused) → IsWhyNamed limit c (length h) call why → called limit c h call ≡ refused h why
  unfolding called
  why_named call why (inl (none, same)) =
      ap (λ o. option_map_or (numbered_turn limit c h call.argument) o (refused h UnknownProgram)) none ∙ ap (refused h) (sym same)
  why_named call why (inr (k, p, number, named, is)) =
      ap (λ o. option_map_or (numbered_turn limit c h call.argument) o (refused h UnknownProgram)) number
      ∙ why_short (record { program = k; argument = call.argument }) p named why is

  install_refuses : (new : NewProgram) (why : StoreRefused) → install_refusal c.shapes c.long new ≡ Some why → installed limit c h new ≡ refused h why
  install_refuses new why e = ap (λ o. option_map_or (refused h) o (submitted limit install_told c h (AnInstall new))) e

  install_goes : (new : NewProgram) (p : Checked) → IsInstallable c new → installed_program c.shapes new.mode new.arg_len new.bytes ≡ Ok p
      → installed limit c h new ≡ submitted limit install_told c h (AnInstall new)
  install_goes new p is read =
      ap (λ o. option_map_or (refused h) o (submitted limit install_told c h (AnInstall new)))
      (ap (λ b. if b && nat_le new.arg_len (most_argument c.long) then reading_refusal (installed_program c.shapes new.mode new.arg_len new.bytes) else Some TooLarge) (le-leb _ _ is.few)
      ∙ ap (λ b. if b then reading_refusal (installed_program c.shapes new.mode new.arg_len new.bytes) else Some TooLarge) (le-leb _ _ is.argument) ∙ ap reading_refusal read)

  why_install : (new : NewProgram) (why : StoreRefused) → IsWhyInstall limit c (length h) new why → installed limit c h new ≡ refused h why
  why_install new UnknownProgram e = install_refuses new UnknownProgram e
  why_install new ArgumentLength e = install_refuses new ArgumentLength e
  why_install new WrongMode e = install_refuses new WrongMode e
  why_install new Ended (is, most) =
      let found = (have_effects c is_whole h updates).installs (length h) new ((are_tested Update c (AnInstall new)).1 is) in
      install_goes new found.0 is found.1 ∙ full install_told (AnInstall new) most
  why_install new TooLarge e = install_refuses new TooLarge e
  why_install new (NotDecoded why) e = install_refuses new (NotDecoded why) e
  why_install new (NotAccepted why) e = install_refuses new (NotAccepted why) e

  refuses : (said : Meaning) (why : StoreRefused) → IsWhySaid limit c (length h) said why → taken limit c h said ≡ refused h why
  refuses Comment why is = absurd is
  refuses (Call call) why is = why_named call why is
  refuses (InvokeAt call) why is = why_asked Update call why is
  refuses (ReadAt call) why is = why_asked Read call why is
  refuses (Install new) why is = why_install new why is

  -- ---- what is performed

  module _ (line : List ℕ) where
    named_performs : (mode : Mode) (call : TheCall) (by : AsksByName c line mode call) → IsCall mode c call
        → called limit c h (record { name = by.name; argument = call.argument }) ≡ performed limit c h (Run call) mode
    unfolding called
    named_performs mode call by is =
        ap (λ o. option_map_or (numbered_turn limit c h call.argument) o (refused h UnknownProgram)) by.number
        ∙ of_length call by.program by.named true (eq-eqb _ _ (fits c mode call by.program by.named is)) ∙ ap (performed limit c h (Run call)) by.mode_is

    performs : (mode : Mode) (call : TheCall) → Asks c line mode call → (m : Meaning) × (line_meaning line ≡ Some m) × (taken limit c h m ≡ performed limit c h (Run call) mode)
    performs mode call (inl by, is) = (Call (record { name = by.name; argument = call.argument }), by.says, named_performs mode call by is)
    performs Update call (inr says, is) = (InvokeAt call, says, asked_performs Update call is)
    performs Read call (inr says, is) = (ReadAt call, says, asked_performs Read call is)

-- ---- a line has the turn that the relation says

module _ (c : CatalogueView) (is_whole : IsCatalogue c) (h : History) (updates : AreUpdates c h) (line : List ℕ) where
  pub record TurnIs (text : List ℕ) (m : ℕ) (t : StoreState) : Type 0 where
    pub turn : Turn
    pub is : line_turn MAX_LIMIT c h line ≡ Some turn
    pub wrote : turn.text ≡ text
    pub count : length turn.history ≡ m
    pub left : state_of c turn.history ≡ t

  by_said : (said : Meaning) (turn : Turn) (text : List ℕ) (m : ℕ) (t : StoreState) → line_meaning line ≡ Some said → taken MAX_LIMIT c h said ≡ turn → turn.text ≡ text → length turn.history ≡ m → state_of c turn.history ≡ t → TurnIs text m t
  unfolding line_turn
  by_said said turn text m t says same wrote count left =
      record { turn = turn; is = ap (option_map (taken MAX_LIMIT c h)) says ∙ ap Some same; wrote = wrote; count = count; left = left }

  one_more : (op : Operation) → length (with_operation h op) ≡ length h + 1
  one_more op = length-append h (record { author = 0; seq = length h; op = op } ∷ [])

  turn_is : (text : List ℕ) (m : ℕ) (t : StoreState) → IsTurn c (length h) (state_of c h) line text m t → TurnIs text m t
  turn_is _ _ _ (IsTurn.comment says) = by_said Comment (record { text = []; history = h }) _ _ _ says refl refl refl refl
  turn_is _ _ _ (IsTurn.refused said why says is) = by_said said (refused h why) _ _ _ says (refuses MAX_LIMIT c is_whole h updates said why is) refl refl refl
  turn_is _ _ _ (IsTurn.read call done asks does) =
      let p = performs MAX_LIMIT c is_whole h updates line Read call asks in
      let reads : read_at store_meaning c h (length h) (Run call) ≡ Some (as_read done) = ap (option_map as_read) (runs_to Read c call (state_of c h) done does) in
      by_said p.0 (record { text = read_text (length h) done.reply done.steps; history = h }) _ _ _ p.1
      (p.2 ∙ ap (λ o. record { text = option_map_or (λ e. read_text (length h) e.reply e.steps) o []; history = h }) reads) refl refl refl
  turn_is _ _ _ (IsTurn.update call done room asks does) =
      let p = performs MAX_LIMIT c is_whole h updates line Update call asks in
      let e : Effect StoreState = as_update (state_of c h) done in
      let goes : effect_at store_meaning c h (length h) (Run call) ≡ Some e = ap (option_map (as_update (state_of c h))) (runs_to Update c call (state_of c h) done does) in
      by_said p.0 (record { text = update_text (length h) done.reply done.steps; history = with_operation h (Run call) }) _ _ _ p.1
      (p.2 ∙ goes_in MAX_LIMIT c is_whole h updates update_told (Run call) e room goes) refl (one_more (Run call)) (left_behind c is_whole h updates (Run call) e goes)
  turn_is _ _ _ (IsTurn.install asked program room says is read) =
      let e : Effect StoreState = placed c (state_of c h) program in
      let goes : effect_at store_meaning c h (length h) (AnInstall asked) ≡ Some e = ap (placed_read c (state_of c h)) read in
      by_said (Install asked) (record { text = install_text (length h) e.reply; history = with_operation h (AnInstall asked) }) _ _ _ says
      (install_goes MAX_LIMIT c is_whole h updates asked program is read ∙ goes_in MAX_LIMIT c is_whole h updates install_told (AnInstall asked) e room goes)
      refl (one_more (AnInstall asked)) (left_behind c is_whole h updates (AnInstall asked) e goes)

  -- and leaves updates alone
  keeps : (text : List ℕ) (m : ℕ) (t : StoreState) (is : TurnIs text m t) → AreUpdates c is.turn.history
  keeps text m t is = (line_turns_are_runs MAX_LIMIT c h line is.turn is_whole updates is.is).1

-- ---- lines have the turns that the relation says, before any others

module _ (c : CatalogueView) (is_whole : IsCatalogue c) where
  pub record Reach (h : History) (k : ℕ) (lines others : List (List ℕ)) (text : List ℕ) (left : StoreState) : Type 0 where
    pub last : History
    pub state : state_of c last ≡ left
    pub answer : lines_answer MAX_LIMIT c k h (lines ++ others) ≡ behind text (lines_answer MAX_LIMIT c (number_behind k lines) last others)
    pub leaves : lines_left MAX_LIMIT c h (lines ++ others) ≡ lines_left MAX_LIMIT c last others

  module _ (others : List (List ℕ)) where
    first_line : (h : History) (k : ℕ) (first : List ℕ) (lines : List (List ℕ)) (turn : Turn) (text more : List ℕ) (left : StoreState) → line_turn MAX_LIMIT c h first ≡ Some turn → turn.text ≡ text
        → Reach turn.history (next_line k) lines others more left → Reach h k (first ∷ lines) others (text ++ more) left
    unfolding lines_answer lines_left
    first_line h k first lines turn text more left is wrote rest = record {
      last = rest.last;
      state = rest.state;
      answer = ap (λ o. option_map_or (λ turn. behind turn.text (lines_answer MAX_LIMIT c (next_line k) turn.history (lines ++ others))) o (bad_line k)) is
          ∙ ap (behind turn.text) rest.answer
          ∙ ap (λ x. behind x (behind more (lines_answer MAX_LIMIT c (number_behind (next_line k) lines) rest.last others))) wrote
          ∙ sym (ap (λ x. record { text = x; verdict = (lines_answer MAX_LIMIT c (number_behind (next_line k) lines) rest.last others).verdict })
          (append_assoc text more (lines_answer MAX_LIMIT c (number_behind (next_line k) lines) rest.last others).text));
      leaves = ap (λ o. option_and_then (λ turn. lines_left MAX_LIMIT c turn.history (lines ++ others)) o) is ∙ rest.leaves;
    }

    pub reaches : (n : ℕ) (s : StoreState) (lines : List (List ℕ)) (text : List ℕ) (left : StoreState) → AreRun c n s lines text left
        → (h : History) (k : ℕ) → AreUpdates c h → length h ≡ n → state_of c h ≡ s → Reach h k lines others text left
    reaches n s _ _ _ (AreRun.none _ _) h k updates count here = record { last = h; state = here; answer = refl; leaves = refl }
    reaches n s _ _ _ (AreRun.line _ m _ t left first lines text more is rest) h k updates count here =
        let begins : IsTurn c (length h) (state_of c h) first text m t =
        subst (λ x. IsTurn c (length h) x first text m t) (sym here) (subst (λ x. IsTurn c x s first text m t) (sym count) is) in
        let turn = turn_is c is_whole h updates first text m t begins in
        first_line h k first lines turn.turn text more left turn.is turn.wrote
        (reaches m t lines more left rest turn.turn.history (next_line k) (keeps c is_whole h updates first text m t turn) turn.count turn.left)
