-- Each line that a run writes for a call is a run of its program.
use Rattle.std.proofs.Common.{◌≡◌, ◌≢◌, ◌⊎◌, inl, inr, ℕ, zero, suc, ◌+◌, ◌<◌, ◌≤◌, Bool, true, false, ◌&&◌, cond, eqb, leb, ltb, List, [], ◌∷◌, ◌++◌, length, Option, Some, None, Result, Ok, Err, refl, sym, ap, subst, ◌∙◌, arith}
use Rattle.std.specs.Prelude.{◌-◌, option_map, slice_get, if◌then◌else◌, bytes_eq, codes, nat_lt}
use Rattle.std.specs.List.{position_from}
use Rattle.std.specs.Option.{option_map_or, option_or}
use Rattle.std.proofs.lemmas.Bool.{ltb-true, ltb-false, lt-ltb, leb-false, eqb-true, eq-eqb, false≢true}
use Rattle.std.proofs.lemmas.Option.{same_Some, cond_some}
use Rattle.hex.specs.Hex.{decode_of}
use Rattle.hex.proofs.HexLemmas.{decode_of-ok}
use Rattle.maps.specs.Maps.{AreBytes}
use Rattle.machine.specs.Effects.{Effect as RunEffect}
use Rattle.loader.specs.StoreState.{StoreState, IsState}
use Rattle.insn.proofs.Export.{are_bytes}
use Rattle.verifier.specs.declared.refusal.Mode.{Mode}
use Rattle.verifier.specs.declared.refusal.Mode.TheVariants.{Update, Read}
use Rattle.verifier.specs.Accepted.{Checked}
use Rattle.text.specs.Lines.{lines_of, next_line}
use Rattle.text.specs.Fields.{split_at_space}
use Rattle.text.specs.Words.{is_name, number_of}
use Rattle.text.specs.Digits.{good, field_bytes}
use Rattle.text.proofs.Export.{IsSilent, by_kind_from, steps, good_from}
use Rattle.loader.specs.Installed.{installed_program, most_argument, most_bytes}
use Rattle.loader.specs.declared.installed.InstallRefusal.{InstallRefusal}
use Rattle.loader.specs.declared.installed.InstallRefusal.TheVariants.{Decode, Verify}
use Rattle.loader.specs.CatalogueView.{CatalogueView, Entry, IsCatalogue, number_named, opened_on, opening_state, sizes_for, with_places}
use Rattle.loader.specs.declared.installed.TheConstants.{MOST_LONG, MOST_SPARE}
use Rattle.loader.specs.Grammar.{mode_of}
use Rattle.loader.specs.ProgramFiles.{Files}
use Rattle.maps.specs.declared.shapes.MapLimits.{MapLimits}
use Rattle.maps.specs.Shapes.{AreLimits}
use Rattle.loader.specs.Loading.{nothing_yet, loaded_within}
use Rattle.loader.proofs.Export.{ok_from, passes_stay, is_catalogue, nothing_partial}
use Rattle.dumps.specs.Loading.{Outcome, loaded_state}
use Rattle.dumps.proofs.Export.{loaded_is_state}
use Rattle.oplog.specs.declared.records.Record.{Record}
use Rattle.oplog.specs.Calls.{Call as TheCall, NewProgram}
use Rattle.oplog.specs.Operations.{Operation}
use Rattle.oplog.specs.declared.records.Op.TheVariants.{Run, Install as AnInstall}
use Rattle.oplog.specs.History.{Effect, ReadEffect, History, left_by, after, state_after, effect_at, read_at}
use Rattle.replica.specs.StoreMeaning.{program_at, program_in, is_operation, AreUpdates, store_meaning}
use Rattle.replica.specs.HistoryLaws.{IsEffectOf}
use Rattle.replica.specs.Refusals.{mode_refusal, program_refusal, offered_refusal, place_refusal, early_refusal, reading_refusal, install_refusal}
use Rattle.replica.specs.declared.refusals.StoreRefused.{StoreRefused}
use Rattle.replica.specs.declared.refusals.StoreRefused.TheVariants.{UnknownProgram, ArgumentLength, WrongMode, Ended, TooLarge, NotDecoded, NotAccepted}
use Rattle.replica.proofs.Export.{is_asked, may_install, are_tested, tests_offered, suits_so, offered_below, have_effects}
use Rattle.engine.specs.declared.reading.MapSizes.{MapSizes}
use Rattle.engine.specs.declared.reading.MapSizes.TheVariants.{Standard, Large}
use Rattle.engine.specs.Answer.{Answer}
use Rattle.engine.specs.Opening.{with_places_for}
use Rattle.engine.specs.Reading.{long_of}
use Rattle.scripts.specs.Script.{ProgramCall, Meaning, Comment, Call, InvokeAt, ReadAt, Install, named_call, numbered_call, program_fields, new_program, word_meaning, call_meaning, line_meaning}
use Rattle.running.specs.RunAnswer.{Turn, refused, with_operation, read_text, submitted, performed, numbered, called, taken, line_turn, behind, bad_line, lines_answer}
use Rattle.running.specs.RunLines.{CallRuns, IsUpdateTurn, IsReadTurn, IsInstallTurn, IsRefusedTurn, IsWhy, IsWhyNamed, IsWhyInstall, MeaningTurn, LineTurn, ScriptRuns, LineTurnsAreRuns, RunLinesAreRuns, LoadedIsCatalogue, OpenedIsCatalogue}
use Rattle.engine.proofs.Export.{on_loaded}
use Rattle.running.proofs.Turns.{after_append, install_told, performed_by, update_told, whole}
use Rattle.encoding.proofs.Export.{mapped}

-- ---- the bytes of a call

decoded_bytes : (field bytes : List ℕ) → good (decode_of field) ≡ Some bytes → AreBytes bytes
decoded_bytes field bytes e = are_bytes bytes (decode_of-ok field bytes (good_from (decode_of field) bytes e)).3

pub field_are_bytes : (field bytes : List ℕ) → field_bytes field ≡ Some bytes → AreBytes bytes
unfolding field_bytes
field_are_bytes field bytes e = by_tests _ _ e
  where
    by_tests : (none empty : Bool) → cond none (Some []) (cond empty None (good (decode_of field))) ≡ Some bytes → AreBytes bytes
    by_tests true empty e = subst AreBytes (let same : [] ≡ bytes = cc in same) tt
    by_tests false true e = absurd cc
    by_tests false false e = decoded_bytes field bytes e

named_bytes : (name digits : List ℕ) (call : ProgramCall) → named_call name digits ≡ Some call → AreBytes call.argument
unfolding named_call
named_bytes name digits call e =
    let argument = steps (field_bytes digits) _ call e in
    let last = cond_some (is_name name) (record { name = name; argument = argument.0 }) call argument.2 in
    subst (λ (x : ProgramCall). AreBytes x.argument) last.1 (field_are_bytes digits argument.0 argument.1)

numbered_bytes : (text : List ℕ) (call : TheCall) → numbered_call text ≡ Some call → AreBytes call.argument
unfolding numbered_call
numbered_bytes text call e =
    let field = steps (split_at_space text) _ call e in
    let program = steps (number_of field.0.0) _ call field.2 in
    let argument = steps (field_bytes field.0.1) _ call program.2 in
    subst (λ (x : TheCall). AreBytes x.argument) (same_Some _ call argument.2) (field_are_bytes field.0.1 argument.0 argument.1)

program_bytes : (text : List ℕ) (new : NewProgram) → new_program text ≡ Some new → AreBytes new.bytes
unfolding new_program program_fields
program_bytes text new e =
    let first = steps (split_at_space text) _ new e in
    let second = steps (split_at_space first.0.1) _ new first.2 in
    let mode = steps (mode_of first.0.0) _ new second.2 in
    let length = steps (number_of second.0.0) _ new mode.2 in
    let bytes = steps (field_bytes second.0.1) _ new length.2 in
    subst (λ (x : NewProgram). AreBytes x.bytes) (same_Some _ new bytes.2) (field_are_bytes second.0.1 bytes.0 bytes.1)

-- the argument of a call and the instructions of a program are bytes
abbrev HasBytes : Meaning → Type 0
HasBytes Comment = Unit {0}
HasBytes (Call call) = AreBytes call.argument
HasBytes (InvokeAt call) = AreBytes call.argument
HasBytes (ReadAt call) = AreBytes call.argument
HasBytes (Install new) = AreBytes new.bytes

word_bytes : (word rest : List ℕ) (m : Meaning) → word_meaning word rest ≡ Some m → HasBytes m
word_bytes word rest m e = by_word (bytes_eq word (codes "invoke")) (bytes_eq word (codes "read")) (bytes_eq word (codes "install")) e
  where
    by_word : (invoke read install : Bool)
        → (if invoke then option_map InvokeAt (numbered_call rest) else if read then option_map ReadAt (numbered_call rest) else if install then option_map Install (new_program rest) else None) ≡ Some m
        → HasBytes m
    by_word true read install e = let x = mapped InvokeAt (numbered_call rest) m e in subst HasBytes x.2 (numbered_bytes rest x.0 x.1)
    by_word false true install e = let x = mapped ReadAt (numbered_call rest) m e in subst HasBytes x.2 (numbered_bytes rest x.0 x.1)
    by_word false false true e = let x = mapped Install (new_program rest) m e in subst HasBytes x.2 (program_bytes rest x.0 x.1)
    by_word false false false e = absurd cc

call_bytes : (line : List ℕ) (m : Meaning) → call_meaning line ≡ Some m → HasBytes m
unfolding call_meaning
call_bytes line m e =
    let field = steps (split_at_space line) _ m e in
    by_name field.0.0 field.0.1 (named_call field.0.0 field.0.1) refl field.2
  where
    by_name : (word rest : List ℕ) (o : Option ProgramCall) → named_call word rest ≡ o → option_or (option_map Call o) (word_meaning word rest) ≡ Some m → HasBytes m
    by_name word rest (Some call) is e = subst HasBytes (same_Some (Call call) m e) (named_bytes word rest call is)
    by_name word rest None is e = word_bytes word rest m e

line_bytes : (line : List ℕ) (m : Meaning) → line_meaning line ≡ Some m → HasBytes m
unfolding line_meaning
line_bytes line m e = by_kind (by_kind_from Comment (call_meaning line) line m e).1
  where
    by_kind : (IsSilent line × (Comment ≡ m)) ⊎ (call_meaning line ≡ Some m) → HasBytes m
    by_kind (inl silent) = subst HasBytes silent.1 tt
    by_kind (inr words) = call_bytes line m words

-- ---- one more update

pushed : (c : CatalogueView) (h : History) (r : Record) → AreUpdates c h → is_operation Update c r.op ≡ true → AreUpdates c (h ++ r ∷ [])
pushed c [] r updates is zero s e = subst (λ x. is_operation Update c x.op ≡ true) (let same : Some r ≡ Some s = e in (let inner : r ≡ s = cc in inner)) is
pushed c [] r updates is (suc k) s e = absurd cc
pushed c (x ∷ h) r updates is zero s e = updates 0 s e
pushed c (x ∷ h) r updates is (suc k) s e = pushed c h r (λ i t f. updates (suc i) t f) is k s e

-- ---- refusals

read_no_update : Read ≡ Update → ⊥
read_no_update e = cc

update_no_read : Update ≡ Read → ⊥
update_no_read e = cc

other_mode : (asked mode : Mode) (why : StoreRefused) → mode_refusal asked mode ≡ Some why → (why ≡ WrongMode) × (mode ≢ asked)
other_mode Update Update why e = absurd cc
other_mode Read Read why e = absurd cc
other_mode Update Read why e = (let same : WrongMode ≡ why = cc in sym same, read_no_update)
other_mode Read Update why e = (let same : WrongMode ≡ why = cc in sym same, update_no_read)

-- a number below that of the programs is one of a program
none_below : (c : CatalogueView) (k : ℕ) → k < length c.programs → program_at c k ≡ None → ⊥
none_below c k below none = by c.programs k below none
  where
    by : (es : List Entry) (k : ℕ) → k < length es → option_map (λ (e : Entry). e.checked) (slice_get es k) ≡ None → ⊥
    by [] k below none = absurd (omega (arith, below))
    by (e ∷ es) zero below none = cc
    by (e ∷ es) (suc k) below none = by es k (omega (arith, below)) none

-- a name's number is one of a program
named_at : (name : List ℕ) (es : List Entry) (i k : ℕ) → position_from (λ (e : Entry). bytes_eq e.name name) i es ≡ Some k → (j : ℕ) × (e : Entry) × (k ≡ i + j) × (slice_get es j ≡ Some e)
named_at name [] i k found = absurd cc
named_at name (e ∷ es) i k found = by (bytes_eq e.name name) found (named_at name es (i + 1) k)
  where
    by : (b : Bool) → cond b (Some i) (position_from (λ (e : Entry). bytes_eq e.name name) (i + 1) es) ≡ Some k
        → (position_from (λ (e : Entry). bytes_eq e.name name) (i + 1) es ≡ Some k → (j : ℕ) × (d : Entry) × (k ≡ i + 1 + j) × (slice_get es j ≡ Some d))
        → (j : ℕ) × (d : Entry) × (k ≡ i + j) × (slice_get (e ∷ es) j ≡ Some d)
    by true f behind = let same : i ≡ k = cc in (0, e, omega (arith, same), refl)
    by false f behind = let rest = behind f in (suc rest.0, rest.1, omega (arith, rest.2), rest.3)

offered_at : (c : CatalogueView) (name : List ℕ) (k : ℕ) → number_named c.programs name ≡ Some k → program_at c k ≡ None → ⊥
offered_at c name k found none =
    let at = named_at name c.programs 0 k found in
    let here : k ≡ at.0 = omega (arith, at.2) in
    let some : option_map (λ (e : Entry). e.checked) (slice_get c.programs k) ≡ Some at.1.checked = ap (λ i. option_map (λ (e : Entry). e.checked) (slice_get c.programs i)) here ∙ ap (option_map (λ (e : Entry). e.checked)) at.3 in
    cc (sym none ∙ some)

-- no program to be installed is refused since the history has ended
install_goes_on : (small : Bool) (r : Result Checked InstallRefusal) → (if small then reading_refusal r else Some TooLarge) ≡ Some Ended → ⊥
install_goes_on true (Ok p) e = cc
install_goes_on true (Err (Decode why)) e = cc
install_goes_on true (Err (Verify why)) e = cc
install_goes_on false r e = cc

-- ---- operations that are performed

module _ (c : CatalogueView) (is_whole : IsCatalogue c) (h : History) (updates : AreUpdates c h) where
  abbrev here : StoreState
  here = state_after store_meaning c h (length h)

  -- the history that an update leaves has updates alone
  pub grown : (op : Operation) → is_operation Update c op ≡ true → AreUpdates c (with_operation h op)
  grown op is = pushed c h (record { author = 0; seq = length h; op = op }) updates is

  pub left_behind : (op : Operation) (e : Effect StoreState) → effect_at store_meaning c h (length h) op ≡ Some e → state_after store_meaning c (with_operation h op) (length (with_operation h op)) ≡ e.left
  left_behind op e is =
      let r : Record = record { author = 0; seq = length h; op = op } in
      whole c (with_operation h op) ∙ after_append store_meaning c (opening_state c) h (r ∷ []) ∙ ap (λ (s : StoreState). after store_meaning c s (r ∷ [])) (sym (whole c h))
      ∙ ap (λ (o : Option (Effect StoreState)). left_by o here) is

  abbrev read_told : ℕ → ReadEffect → List ℕ
  read_told point e = read_text point e.reply e.steps

  abbrev update_of : (call : TheCall) → Turn
  update_of call = record { text = option_map_or (update_told (length h)) (effect_at store_meaning c h (length h) (Run call)) []; history = with_operation h (Run call) }

  abbrev read_of_call : (call : TheCall) → Turn
  read_of_call call = record { text = option_map_or (read_told (length h)) (read_at store_meaning c h (length h) (Run call)) []; history = h }

  abbrev install_of : (new : NewProgram) → Turn
  install_of new = record { text = option_map_or (install_told (length h)) (effect_at store_meaning c h (length h) (AnInstall new)) []; history = with_operation h (AnInstall new) }

  read_turn : (call : TheCall) → is_operation Read c (Run call) ≡ true → IsReadTurn c h call (read_of_call call)
  read_turn call is =
      let u = (have_effects c is_whole h updates).reads (length h) call is in
      record { asked = (are_tested Read c (Run call)).0 is; done = u.0; does = u.1; text = ap (λ e. option_map_or (read_told (length h)) e []) u.2; same = refl; left = u.3 }

  stops : (Why : StoreRefused → Type 0) (why : StoreRefused) → Why why → IsRefusedTurn Why h (refused h why)
  stops Why why is = record { why = why; is = is; text = refl; same = refl }

  -- of so many records at most
  module _ (limit : ℕ) where
    update_turn : (call : TheCall) → is_operation Update c (Run call) ≡ true → length h < limit → IsUpdateTurn limit c h call (update_of call)
    update_turn call is room =
        let u = (have_effects c is_whole h updates).updates (length h) call is in
        record { asked = (are_tested Update c (Run call)).0 is; done = u.0; does = u.1; room = room; text = ap (λ e. option_map_or (update_told (length h)) e []) u.2; next = refl; left = ap (λ (s : StoreState). s.maps) (left_behind (Run call) _ u.2) }

    install_turn : (new : NewProgram) → is_operation Update c (AnInstall new) ≡ true → length h < limit → IsInstallTurn limit c h new (install_of new)
    install_turn new is room =
        let u = (have_effects c is_whole h updates).installs (length h) new is in
        record { asked = (are_tested Update c (AnInstall new)).0 is; program = u.0; read = u.1; room = room; text = ap (λ e. option_map_or (install_told (length h)) e []) u.2; next = refl; left = left_behind (AnInstall new) _ u.2 }

    -- ---- why a call is refused

    module _ (mode : Mode) (call : TheCall) (why : StoreRefused) where
      abbrev Why : Type 0
      Why = IsWhy limit c (length h) mode call why

      short_or : (p : Checked) → program_at c call.program ≡ Some p → (b : Bool) → eqb (length call.argument) p.arg_len ≡ b → (if b then mode_refusal mode p.mode else Some ArgumentLength) ≡ Some why → Why
      short_or p named true fits e =
          let other = other_mode mode p.mode why e in
          subst (IsWhy limit c (length h) mode call) (sym other.0) (p, named, eqb-true _ _ fits, other.1)
      short_or p named false fits e =
          let same : ArgumentLength ≡ why = cc in
          subst (IsWhy limit c (length h) mode call) same (inl (p, named, λ equal. false≢true (sym fits ∙ eq-eqb _ _ equal)))

      why_program : (o : Option Checked) → program_at c call.program ≡ o → call.program < length c.programs → program_refusal mode call.argument o ≡ Some why → Why
      why_program None named below e = absurd (none_below c call.program below named)
      why_program (Some p) named below e = short_or p named (eqb (length call.argument) p.arg_len) refl e

      why_long : (b : Bool) → leb (length call.argument) (most_argument c.long) ≡ b → length c.programs ≤ call.program → call.program < length c.programs + c.places → (if b then None else Some ArgumentLength) ≡ Some why → Why
      why_long true short behind within e = absurd cc
      why_long false short behind within e =
          let same : ArgumentLength ≡ why = cc in
          subst (IsWhy limit c (length h) mode call) same (inr (behind, within, leb-false _ _ short))

      why_place : (b : Bool) → ltb call.program (length c.programs + c.places) ≡ b → length c.programs ≤ call.program → (if b then place_refusal c call.argument else Some UnknownProgram) ≡ Some why → Why
      why_place true within behind e = why_long (leb (length call.argument) (most_argument c.long)) refl behind (ltb-true _ _ within) e
      why_place false within behind e = let same : UnknownProgram ≡ why = cc in subst (IsWhy limit c (length h) mode call) same (ltb-false _ _ within)

      why_number : (b : Bool) → ltb call.program (length c.programs) ≡ b
          → (if b then offered_refusal c mode call.program call.argument else if nat_lt call.program (length c.programs + c.places) then place_refusal c call.argument else Some UnknownProgram) ≡ Some why → Why
      why_number true below e = why_program (program_at c call.program) refl (ltb-true _ _ below) e
      why_number false below e = why_place (ltb call.program (length c.programs + c.places)) refl (ltb-false _ _ below) e

      why_early : early_refusal c mode call.program call.argument ≡ Some why → Why
      why_early e = why_number (ltb call.program (length c.programs)) refl e

    why_install : (new : NewProgram) (why : StoreRefused) → install_refusal c.shapes c.long new ≡ Some why → IsWhyInstall limit c (length h) new why
    why_install new UnknownProgram e = e
    why_install new ArgumentLength e = e
    why_install new WrongMode e = e
    why_install new Ended e = absurd (install_goes_on (leb (length new.bytes) (most_bytes c.long) && leb new.arg_len (most_argument c.long)) (installed_program c.shapes new.mode new.arg_len new.bytes) e)
    why_install new TooLarge e = e
    why_install new (NotDecoded why) e = e
    why_install new (NotAccepted why) e = e

    -- ---- by the refusal, or the room that is left

    -- a turn of a line that says this, and updates alone behind it
    abbrev Goes : Meaning → Turn → Type 0
    Goes m turn = MeaningTurn limit c h turn m × AreUpdates c turn.history

    invoke_goes : (call : TheCall) → AreBytes call.argument → (o : Option StoreRefused) → early_refusal c Update call.program call.argument ≡ o
        → Goes (InvokeAt call) (option_map_or (refused h) o (performed limit c h (Run call) Update))
    invoke_goes call bytes (Some why) e = (inl (stops (IsWhy limit c (length h) Update call) why (why_early Update call why e)), updates)
    invoke_goes call bytes None e = by_room (ltb (length h) limit) refl
      where
        is : is_operation Update c (Run call) ≡ true
        is = is_asked Update c call.program call.argument e bytes

        by_room : (b : Bool) → ltb (length h) limit ≡ b → Goes (InvokeAt call) (cond b (update_of call) (refused h Ended))
        by_room true room = (inr (update_turn call is (ltb-true _ _ room)), grown (Run call) is)
        by_room false room = (inl (stops (IsWhy limit c (length h) Update call) Ended (refl, (are_tested Update c (Run call)).0 is, ltb-false _ _ room)), updates)

    read_goes : (call : TheCall) → AreBytes call.argument → (o : Option StoreRefused) → early_refusal c Read call.program call.argument ≡ o
        → Goes (ReadAt call) (option_map_or (refused h) o (performed limit c h (Run call) Read))
    read_goes call bytes (Some why) e = (inl (stops (IsWhy limit c (length h) Read call) why (why_early Read call why e)), updates)
    read_goes call bytes None e = (inr (read_turn call (is_asked Read c call.program call.argument e bytes)), updates)

    install_goes : (new : NewProgram) → AreBytes new.bytes → (o : Option StoreRefused) → install_refusal c.shapes c.long new ≡ o
        → Goes (Install new) (option_map_or (refused h) o (submitted limit install_told c h (AnInstall new)))
    install_goes new bytes (Some why) e = (inl (stops (IsWhyInstall limit c (length h) new) why (why_install new why e)), updates)
    install_goes new bytes None e = by_room (ltb (length h) limit) refl
      where
        is : is_operation Update c (AnInstall new) ≡ true
        is = may_install c new e bytes

        by_room : (b : Bool) → ltb (length h) limit ≡ b → Goes (Install new) (cond b (install_of new) (refused h Ended))
        by_room true room = (inr (install_turn new is (ltb-true _ _ room)), grown (AnInstall new) is)
        by_room false room = (inl (stops (IsWhyInstall limit c (length h) new) Ended ((are_tested Update c (AnInstall new)).0 is, ltb-false _ _ room)), updates)

    -- ---- a call by its program's name

    module _ (call : ProgramCall) (bytes : AreBytes call.argument) (k : ℕ) (numbered_so : number_named c.programs call.name ≡ Some k) where
      abbrev one : TheCall
      one = record { program = k; argument = call.argument }

      module _ (program : Checked) (named : program_at c k ≡ Some program) (fits : length call.argument ≡ program.arg_len) where
        is_of : (mode : Mode) → program.mode ≡ mode → is_operation mode c (Run one) ≡ true
        is_of mode m = tests_offered mode c one (record { program = program; named = named; mode_is = m; length_is = fits; bytes = bytes })

        -- the program is that of its number in each state, and what the call does is its run
        named_in : (s : StoreState) → program_in c s k ≡ Some program
        named_in s = ap (λ b. if b then program_at c k else slice_get s.programs (k - length c.programs)) (lt-ltb k (length c.programs) (offered_below c k program named)) ∙ named

        same_program : (s : StoreState) (other : Checked) → program_in c s k ≡ Some other → program ≡ other
        same_program s other e = same_Some program other (sym (named_in s) ∙ e)

        its_run : (mode : Mode) (e : RunEffect) → program.mode ≡ mode → IsEffectOf mode c one here e → CallRuns c h one mode e
        its_run mode e m (inl run) =
            let same = same_program here run.0.program run.0.named in
            let r : CallRuns c h one mode run.0.done = record { program = run.0.program; named = named ∙ ap Some same; mode_is = subst (λ p. p.mode ≡ mode) same m; run = run.0.run } in
            subst (CallRuns c h one mode) (sym run.1) r
        its_run mode e m (inr none) = absurd (false≢true (sym (none.0 program (named_in here)) ∙ suits_so mode call.argument program m fits))

        by_mode : (mode : Mode) → program.mode ≡ mode → Goes (Call call) (performed limit c h (Run one) mode)
        by_mode Read m = let r = read_turn one (is_of Read m) in (inr (k, numbered_so, inr (r, its_run Read r.done m r.does)), updates)
        by_mode Update m = by_room (ltb (length h) limit) refl
          where
            by_room : (b : Bool) → ltb (length h) limit ≡ b → Goes (Call call) (cond b (update_of one) (refused h Ended))
            by_room true room = let u = update_turn one (is_of Update m) (ltb-true _ _ room) in (inr (k, numbered_so, inl (u, its_run Update u.done m u.does)), grown (Run one) (is_of Update m))
            by_room false room = (inl (stops (IsWhyNamed limit c (length h) call) Ended (inr (k, program, numbered_so, named, (m, (are_tested Update c (Run one)).0 (is_of Update m), ltb-false _ _ room)))), updates)

      by_program : (o : Option Checked) → program_at c k ≡ o → Goes (Call call) (performed_by limit c h one o)
      by_program None e = absurd (offered_at c call.name k numbered_so e)
      by_program (Some program) e = by_length (eqb (length call.argument) program.arg_len) refl
        where
          by_length : (b : Bool) → eqb (length call.argument) program.arg_len ≡ b → Goes (Call call) (cond b (performed limit c h (Run one) program.mode) (refused h ArgumentLength))
          by_length true fits = by_mode program e (eqb-true _ _ fits) program.mode refl
          by_length false fits = (inl (stops (IsWhyNamed limit c (length h) call) ArgumentLength (inr (k, program, numbered_so, e, inl (program, e, λ same. false≢true (sym fits ∙ eq-eqb _ _ same))))), updates)

    by_number : (call : ProgramCall) → AreBytes call.argument → (o : Option ℕ) → number_named c.programs call.name ≡ o → Goes (Call call) (option_map_or (numbered limit c h call.argument) o (refused h UnknownProgram))
    by_number call bytes None e = (inl (stops (IsWhyNamed limit c (length h) call) UnknownProgram (inl (e, refl))), updates)
    by_number call bytes (Some k) e = by_program call bytes k e (program_at c k) refl

    pub goes : (m : Meaning) → HasBytes m → Goes m (taken limit c h m)
    unfolding called
    goes Comment bytes = ((refl, refl), updates)
    goes (Call call) bytes = by_number call bytes (number_named c.programs call.name) refl
    goes (InvokeAt call) bytes = invoke_goes call bytes (early_refusal c Update call.program call.argument) refl
    goes (ReadAt call) bytes = read_goes call bytes (early_refusal c Read call.program call.argument) refl
    goes (Install new) bytes = install_goes new bytes (install_refusal c.shapes c.long new) refl

-- ---- the lines

module _ (limit : ℕ) (c : CatalogueView) (is_whole : IsCatalogue c) (l : List ℕ) (ls : List (List ℕ)) (n : ℕ) (h : History) (updates : AreUpdates c h)
    (more : (g : History) → AreUpdates c g → ScriptRuns limit c (next_line n) g ls (lines_answer limit c (next_line n) g ls)) where
  abbrev next : Turn → Answer
  next turn = behind turn.text (lines_answer limit c (next_line n) turn.history ls)

  line_runs : (o : Option Meaning) → line_meaning l ≡ o
      → ((line_meaning l ≡ None) × (option_map_or next (option_map (taken limit c h) o) (bad_line n) ≡ bad_line n))
      ⊎ ((turn : Turn) × (rest : Answer) × LineTurn limit c h l turn × ScriptRuns limit c (next_line n) turn.history ls rest × (option_map_or next (option_map (taken limit c h) o) (bad_line n) ≡ behind turn.text rest))
  line_runs None e = inl (e, refl)
  line_runs (Some m) e =
      let g = goes c is_whole h updates limit m (line_bytes l m e) in
      inr (taken limit c h m, lines_answer limit c (next_line n) (taken limit c h m).history ls, (m, e, g.0), more (taken limit c h m).history g.1, refl)

pub lines_run : (limit : ℕ) (c : CatalogueView) → IsCatalogue c → (ls : List (List ℕ)) (n : ℕ) (h : History) → AreUpdates c h → ScriptRuns limit c n h ls (lines_answer limit c n h ls)
unfolding lines_answer line_turn
lines_run limit c is_whole [] n h updates = refl
lines_run limit c is_whole (l ∷ ls) n h updates = line_runs limit c is_whole l ls n h updates (λ g u. lines_run limit c is_whole ls (next_line n) g u) (line_meaning l) refl

-- ---- the laws

loaded_catalogue : (l : MapLimits) (text : List ℕ) (files : Files) (c : CatalogueView) → AreLimits l → loaded_within l text files ≡ Ok c → IsCatalogue c
unfolding loaded_within
loaded_catalogue l text files c ok e =
    let p = ok_from l files (lines_of text) 1 nothing_yet c e in
    is_catalogue l c (passes_stay l files (lines_of text) nothing_yet c (nothing_partial l ok) p.0) p.1

-- a catalogue with so many places is one
placed_catalogue : (c : CatalogueView) (places : ℕ) → IsCatalogue c → places ≤ MOST_SPARE → IsCatalogue (with_places c places)
placed_catalogue c places is few = record { shapes = is.shapes; accepted = is.accepted; checked = is.checked; distinct = is.distinct; few = is.few; few_places = few; few_bytes = omega arith; opening = tt }

few_long : (sizes : MapSizes) → long_of sizes ≤ MOST_LONG
few_long Standard = omega arith
few_long Large = omega arith

-- also with places for programs as long as these sizes allow
pub placed_for : (sizes : MapSizes) (c : CatalogueView) (places : ℕ) → IsCatalogue (with_places c places) → IsCatalogue (with_places_for sizes c places)
placed_for sizes c places is =
    record { shapes = is.shapes; accepted = is.accepted; checked = is.checked; distinct = is.distinct; few = is.few; few_places = is.few_places; few_bytes = few_long sizes; opening = tt }

pub line_turns_are_runs : LineTurnsAreRuns
unfolding line_turn
line_turns_are_runs limit c h line turn is updates e =
    let m = mapped (taken limit c h) (line_meaning line) turn e in
    let g = goes c is h updates limit m.0 (line_bytes line m.0 m.1) in
    subst (λ (t : Turn). LineTurn limit c h line t × AreUpdates c t.history) m.2 ((m.0, m.1, g.0), g.1)

pub run_lines_are_runs : RunLinesAreRuns
run_lines_are_runs limit c n h ls is updates = lines_run limit c is ls n h updates

pub loaded_is_catalogue : LoadedIsCatalogue
loaded_is_catalogue l manifest files c places ok e few = placed_catalogue c places (loaded_catalogue l manifest files c ok e) few

pub opened_is_catalogue : OpenedIsCatalogue
opened_is_catalogue c on state is e = by (loaded_state (sizes_for c) state) refl e
  where
    opened : (s : StoreState) → IsState (sizes_for c) s → IsCatalogue (opened_on c s)
    opened s has = record {
      shapes = is.shapes;
      accepted = is.accepted;
      checked = is.checked;
      distinct = is.distinct;
      few = is.few;
      few_places = is.few_places;
      few_bytes = is.few_bytes;
      opening = record { maps = has.maps; places = refl; long = refl; programs = has.programs };
    }

    by : (o : Outcome) → loaded_state (sizes_for c) state ≡ o → on_loaded c o ≡ Ok on → IsCatalogue on
    by (Err refusal) read h = absurd cc
    by (Ok s) read h =
        let same : opened_on c s ≡ on = cc in
        subst IsCatalogue same (opened s (loaded_is_state (sizes_for c) is.shapes is.few_bytes state s is.few_places read))
