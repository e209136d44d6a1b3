-- Each line that a replay finds to agree is what its operation does there.
use Rattle.std.proofs.Common.{◌≡◌, inl, inr, ℕ, Bool, true, false, eqb, ltb, List, [], ◌∷◌, length, Option, Some, None, refl, sym, ap, subst, ◌∙◌}
use Rattle.std.specs.Prelude.{option_map, if◌then◌else◌}
use Rattle.std.specs.Option.{option_map_or}
use Rattle.std.proofs.lemmas.Bool.{and_parts, eqb-true, ltb-true}
use Rattle.std.proofs.lemmas.Option.{same_Some}
use Rattle.maps.specs.Maps.{AreBytes}
use Rattle.verifier.specs.declared.refusal.Mode.{Mode}
use Rattle.verifier.specs.declared.refusal.Mode.TheVariants.{Update, Read}
use Rattle.text.specs.Lines.{next_line}
use Rattle.text.proofs.Export.{steps}
use Rattle.loader.specs.CatalogueView.{CatalogueView, IsCatalogue}
use Rattle.loader.specs.StoreState.{StoreState}
use Rattle.oplog.specs.declared.configuration.TheConstants.{MAX_LIMIT}
use Rattle.oplog.specs.Calls.{Call, NewProgram}
use Rattle.oplog.specs.Operations.{Operation}
use Rattle.oplog.specs.declared.records.Op.TheVariants.{Run, Install}
use Rattle.oplog.specs.History.{Effect, ReadEffect, History, reply_at, read_reply_at}
use Rattle.replica.specs.StoreMeaning.{AreUpdates, is_operation, store_meaning}
use Rattle.replica.specs.Refusals.{early_refusal, install_refusal}
use Rattle.replica.specs.declared.refusals.StoreRefused.{StoreRefused}
use Rattle.replica.proofs.Export.{is_asked, may_install, are_tested, have_effects}
use Rattle.scripts.specs.Script.{KeyedCall}
use Rattle.scripts.specs.Transcript.{TranscriptMeaning, Comment, Answered, Installed, Ended, EndedInstall, transcript_line_meaning}
use Rattle.running.specs.RunAnswer.{state_of, with_operation}
use Rattle.replaying.specs.ReplayAnswer.{Replayed, LineOutcome, Bad, Differs, Agrees, number_told, unless_barred, operation_of, install_of, update_agrees, read_agrees, with_update, next_count, compared, told, line_outcome, by_outcome, transcript_answer}
use Rattle.scripts.specs.LineSpelling.{SpellsTold}
use Rattle.replaying.specs.ReplayLines.{Does, AgreesUpdate, AgreesRead, IsCallOf, AgreesTold, LineAgrees, Replays, AgreeingLinesAreRuns, ReplaysAreRuns}
use Rattle.running.proofs.Export.{field_are_bytes, grown, left_behind}
use Rattle.scripts.proofs.Export.{spelled}

-- ---- the bytes of a call

-- the argument of a call and the instructions of a program are bytes
abbrev HasBytes : TranscriptMeaning → Type 0
HasBytes Comment = Unit {0}
HasBytes (Answered mode call a) = AreBytes call.argument
HasBytes (Installed new a) = AreBytes new.bytes
HasBytes (Ended call) = AreBytes call.argument
HasBytes (EndedInstall new) = AreBytes new.bytes

spelled_bytes : (line : List ℕ) (m : TranscriptMeaning) → SpellsTold m line → HasBytes m
spelled_bytes line Comment h = tt
spelled_bytes line (Answered mode call a) h = field_are_bytes h.0.0 call.argument h.0.3
spelled_bytes line (Installed new a) h = field_are_bytes h.0.0 new.bytes h.0.3
spelled_bytes line (Ended call) h = field_are_bytes h.0 call.argument h.3
spelled_bytes line (EndedInstall new) h = field_are_bytes h.0 new.bytes h.3

-- ---- the operation of a line

unbarred : (op other : Operation) (o : Option StoreRefused) → unless_barred op o ≡ Some other → (o ≡ None) × (op ≡ other)
unbarred op other None e = (refl, same_Some op other e)
unbarred op other (Some why) e = absurd cc

-- the call that a line names, which is one
abbrev Names : CatalogueView → Mode → KeyedCall → Operation → Type 0
Names c mode keyed op = (call : Call) × IsCallOf c keyed call × (Run call ≡ op) × (is_operation mode c (Run call) ≡ true)

named : (c : CatalogueView) (mode : Mode) (keyed : KeyedCall) (op : Operation) → AreBytes keyed.argument → operation_of c mode keyed ≡ Some op → Names c mode keyed op
named c mode keyed op bytes e =
    let k = steps (number_told c keyed.key) _ op e in
    let call : Call = record { program = k.0; argument = keyed.argument } in
    let free = unbarred (Run call) op (early_refusal c mode k.0 keyed.argument) k.2 in
    (call, (k.1, refl), free.1, is_asked mode c k.0 keyed.argument free.0 bytes)

installable : (c : CatalogueView) (new : NewProgram) (op : Operation) → AreBytes new.bytes → install_of c new ≡ Some op → (Install new ≡ op) × (is_operation Update c (Install new) ≡ true)
installable c new op bytes e =
    let free = unbarred (Install new) op (install_refusal c.shapes c.long new) e in
    (free.1, may_install c new free.0 bytes)

pub has_operation : (f : Operation → LineOutcome) (o : Option Operation) (next : Replayed) → option_map_or f o Bad ≡ Agrees next → (op : Operation) × (o ≡ Some op) × (f op ≡ Agrees next)
has_operation f None next e = absurd cc
has_operation f (Some op) next e = (op, refl, e)

pub is_told : (reply : ℕ) (o : Option ℕ) → option_map_or (λ r. eqb r reply) o false ≡ true → o ≡ Some reply
is_told reply None e = absurd cc
is_told reply (Some r) e = ap Some (eqb-true r reply e)

pub if_agrees : (b : Bool) (to next : Replayed) → (if b then Agrees to else Differs) ≡ Agrees next → (b ≡ true) × (to ≡ next)
if_agrees true to next e = (refl, cc)
if_agrees false to next e = absurd cc

-- ---- what it does

module _ (c : CatalogueView) (is_whole : IsCatalogue c) (at : Replayed) (updates : AreUpdates c at.history) where
  abbrev h : History
  h = at.history

  does : (op : Operation) (reply : ℕ) → is_operation Update c op ≡ true → reply_at store_meaning c h (length h) op ≡ Some reply → Does c h op reply (state_of c (with_operation h op))
  does (Run call) reply is e =
      let u = (have_effects c is_whole h updates).updates (length h) call is in
      let same : Some u.0.reply ≡ Some reply = sym (ap (option_map (λ (d : Effect StoreState). d.reply)) u.2) ∙ e in
      (u.0, u.1, sym (same_Some u.0.reply reply same), ap (λ (s : StoreState). s.maps) (left_behind c is_whole h updates (Run call) _ u.2))
  does (Install new) reply is e =
      let u = (have_effects c is_whole h updates).installs (length h) new is in
      let same = sym (ap (option_map (λ (d : Effect StoreState). d.reply)) u.2) ∙ e in
      (u.0, u.1, sym (same_Some _ reply same), left_behind c is_whole h updates (Install new) _ u.2)

  -- an update that agrees, and the history then
  update_is : (op : Operation) (index reply : ℕ) (next : Replayed) → is_operation Update c op ≡ true → compared c at Update index reply op ≡ Agrees next
      → AgreesUpdate c at op index reply next × AreUpdates c next.history
  update_is op index reply next is e =
      let agrees = if_agrees (update_agrees c h op index reply) (with_update at op) next e in
      let place = and_parts (eqb index (length h)) _ agrees.0 in
      let room = and_parts (ltb (length h) MAX_LIMIT) _ place.1 in
      let here : AgreesUpdate c at op index reply (with_update at op) = record {
        asked = (are_tested Update c op).0 is;
        place = eqb-true _ _ place.0;
        room = ltb-true _ _ room.0;
        next_is = refl;
        does = does op reply is (is_told reply (reply_at store_meaning c h (length h) op) room.1);
      } in
      subst (λ (n : Replayed). AgreesUpdate c at op index reply n × AreUpdates c n.history) agrees.1 (here, grown c is_whole h updates op is)

  read_is : (call : Call) (point reply : ℕ) (next : Replayed) → is_operation Read c (Run call) ≡ true → compared c at Read point reply (Run call) ≡ Agrees next
      → AgreesRead c at call point reply next × AreUpdates c next.history
  read_is call point reply next is e =
      let to : Replayed = record at { reads = next_count at.reads } in
      let agrees = if_agrees (read_agrees c h (Run call) point reply) to next e in
      let place = and_parts (eqb point (length h)) _ agrees.0 in
      let u = (have_effects c is_whole h updates).reads (length h) call is in
      let told = is_told reply (read_reply_at store_meaning c h (length h) (Run call)) place.1 in
      let same : Some u.0.reply ≡ Some reply = sym (ap (option_map (λ (d : ReadEffect). d.reply)) u.2) ∙ told in
      let here : AgreesRead c at call point reply to = record {
        asked = (are_tested Read c (Run call)).0 is;
        place = eqb-true _ _ place.0;
        next_is = refl;
        done = u.0;
        does = u.1;
        reply_is = sym (same_Some u.0.reply reply same);
        left = u.3;
      } in
      subst (λ (n : Replayed). AgreesRead c at call point reply n × AreUpdates c n.history) agrees.1 (here, updates)

  inner : (to next : Replayed) → Agrees to ≡ Agrees next → to ≡ next
  inner to next e = cc

  told_is : (m : TranscriptMeaning) (next : Replayed) → HasBytes m → told c at (Some m) ≡ Agrees next → AgreesTold c at m next × AreUpdates c next.history
  told_is Comment next bytes e = let same = inner at next e in (sym same, subst (λ (n : Replayed). AreUpdates c n.history) same updates)
  told_is (Answered Update keyed a) next bytes e =
      let op = has_operation (compared c at Update a.index a.reply) (operation_of c Update keyed) next e in
      let n = named c Update keyed op.0 bytes op.1 in
      let d = update_is (Run n.0) a.index a.reply next n.3 (ap (compared c at Update a.index a.reply) n.2 ∙ op.2) in
      ((n.0, n.1, d.0), d.1)
  told_is (Answered Read keyed a) next bytes e =
      let op = has_operation (compared c at Read a.index a.reply) (operation_of c Read keyed) next e in
      let n = named c Read keyed op.0 bytes op.1 in
      let d = read_is n.0 a.index a.reply next n.3 (ap (compared c at Read a.index a.reply) n.2 ∙ op.2) in
      ((n.0, n.1, d.0), d.1)
  told_is (Installed new a) next bytes e =
      let op = has_operation (compared c at Update a.index a.reply) (install_of c new) next e in
      let n = installable c new op.0 bytes op.1 in
      update_is (Install new) a.index a.reply next n.1 (ap (compared c at Update a.index a.reply) n.0 ∙ op.2)
  told_is (Ended keyed) next bytes e =
      let op = has_operation (λ (op : Operation). Agrees (record at { ended = next_count at.ended })) (operation_of c Update keyed) next e in
      let n = named c Update keyed op.0 bytes op.1 in
      let same = inner (record at { ended = next_count at.ended }) next op.2 in
      ((n.0, n.1, ((are_tested Update c (Run n.0)).0 n.3, sym same)), subst (λ (n : Replayed). AreUpdates c n.history) same updates)
  told_is (EndedInstall new) next bytes e =
      let op = has_operation (λ (op : Operation). Agrees (record at { ended = next_count at.ended })) (install_of c new) next e in
      let n = installable c new op.0 bytes op.1 in
      let same = inner (record at { ended = next_count at.ended }) next op.2 in
      (((are_tested Update c (Install new)).0 n.1, sym same), subst (λ (n : Replayed). AreUpdates c n.history) same updates)

  line_is : (line : List ℕ) (next : Replayed) → line_outcome c at line ≡ Agrees next → LineAgrees c at line next × AreUpdates c next.history
  unfolding line_outcome
  line_is line next e = by (transcript_line_meaning line) refl e
    where
      by : (o : Option TranscriptMeaning) → transcript_line_meaning line ≡ o → told c at o ≡ Agrees next → LineAgrees c at line next × AreUpdates c next.history
      by None is f = absurd cc
      by (Some m) is f = let d = told_is m next (spelled_bytes line m (spelled line m is).1) f in ((m, is, d.0), d.1)

-- ---- the lines

module _ (c : CatalogueView) (is_whole : IsCatalogue c) (n : ℕ) (at : Replayed) (updates : AreUpdates c at.history) (l : List ℕ) (ls : List (List ℕ))
    (more : (next : Replayed) → AreUpdates c next.history → Replays c (next_line n) next ls (transcript_answer c (next_line n) next ls)) where
  line_replays : (o : LineOutcome) → line_outcome c at l ≡ o → Replays c n at (l ∷ ls) (by_outcome n (λ next. transcript_answer c (next_line n) next ls) o)
  line_replays Bad e = inl (e, refl)
  line_replays Differs e = inr (inl (e, refl))
  line_replays (Agrees next) e = let d = line_is c is_whole at updates l next e in inr (inr (next, d.0, more next d.1))

replay : (c : CatalogueView) → IsCatalogue c → (n : ℕ) (at : Replayed) (ls : List (List ℕ)) → AreUpdates c at.history → Replays c n at ls (transcript_answer c n at ls)
unfolding transcript_answer
replay c is n at [] updates = refl
replay c is n at (l ∷ ls) updates = line_replays c is n at updates l ls (λ next u. replay c is (next_line n) next ls u) (line_outcome c at l) refl

pub agreeing_lines_are_runs : AgreeingLinesAreRuns
agreeing_lines_are_runs c at next line is updates e = line_is c is at updates line next e

pub replays_are_runs : ReplaysAreRuns
replays_are_runs c n at ls is updates = replay c is n at ls updates
