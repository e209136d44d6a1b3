-- What the lines of a good transcript tell, one after the other.
use Rattle.std.proofs.Common.{◌≡◌, ◌⊎◌, inl, inr, ℕ, eqb, ltb, List, [], ◌∷◌, map, length, Option, Some, None, refl, sym, ap, subst, ◌∙◌}
use Rattle.std.specs.Prelude.{option_map, option_and_then}
use Rattle.std.specs.List.{cons_option}
use Rattle.std.specs.Option.{option_map_or}
use Rattle.std.proofs.lemmas.Bool.{and_parts, eqb-true}
use Rattle.verifier.specs.declared.refusal.Mode.{Mode}
use Rattle.verifier.specs.declared.refusal.Mode.TheVariants.{Update, Read}
use Rattle.text.specs.Lines.{next_line}
use Rattle.loader.specs.CatalogueView.{CatalogueView, IsCatalogue}
use Rattle.oplog.specs.declared.configuration.TheConstants.{MAX_LIMIT}
use Rattle.oplog.specs.Operations.{Operation}
use Rattle.oplog.specs.History.{History, reply_at, read_reply_at}
use Rattle.combiner.specs.declared.slots.Reply.TheVariants as replies
use Rattle.replica.specs.StoreMeaning.{AreUpdates, store_meaning}
use Rattle.schedule.specs.Trace.{Answer, Updated, ReadBack}
use Rattle.scripts.specs.Script.{KeyedCall}
use Rattle.scripts.specs.Transcript.{TranscriptMeaning, Comment, Answered, Installed, Ended, EndedInstall, transcript_line_meaning}
use Rattle.engine.specs.declared.replies.Verdict.TheVariants as verdicts
use Rattle.running.specs.RunAnswer.{with_operation}
use Rattle.replaying.specs.ReplayAnswer.{Replayed, LineOutcome, Bad, Differs, Agrees, operation_of, install_of, update_agrees, read_agrees, with_update, next_count, compared, told, line_outcome, by_outcome, transcript_answer}
use Rattle.replaying.proofs.Export.{agreeing_lines_are_runs, has_operation, is_told, if_agrees}
use Rattle.realtime.specs.declared.ranks.Standing.{Standing}
use Rattle.realtime.specs.declared.ranks.Standing.TheVariants as stands
use Rattle.realtime.specs.Judging.{standings_of}
use Rattle.realtime.specs.Ranks.{standing_of}
use Rattle.realtime.specs.Linearizable.{TranscriptCall, told_by, calls_told}
use Rattle.realtime.proofs.Standings.{line_standing}

-- what a line tells, if it is a call
abbrev line_told : CatalogueView → List ℕ → Option TranscriptCall
line_told c line = option_and_then (told_by c) (transcript_line_meaning line)

abbrev call_told : Mode → Answer → Operation → TranscriptCall
call_told mode answer op = record { mode = mode; op = op; answer = answer }

-- an update is answered its index and its reply, a read its point and its reply
abbrev answer_told : Mode → (place reply : ℕ) → Answer
answer_told Update index reply = Updated (replies.Placed index reply)
answer_told Read point reply = ReadBack (record { point = point; reply = reply })

-- where a call stands that is answered so
abbrev pub standing_told : Answer → Standing
standing_told (Updated (replies.Placed index reply)) = stands.At Update index
standing_told (Updated replies.Ended) = stands.Ended
standing_told (ReadBack answer) = stands.At Read answer.point

-- behind a history a call is answered so, and leaves this one
abbrev pub Replies : CatalogueView → History → Mode → Operation → Answer → History → Type 0
Replies c h mode op (Updated (replies.Placed index reply)) next =
    (mode ≡ Update) × (index ≡ length h) × (reply_at store_meaning c h (length h) op ≡ Some reply) × (next ≡ with_operation h op)
Replies c h mode op (Updated replies.Ended) next = (mode ≡ Update) × (next ≡ h)
Replies c h mode op (ReadBack answer) next =
    (mode ≡ Read) × (answer.point ≡ length h) × (read_reply_at store_meaning c h (length h) op ≡ Some answer.reply) × (next ≡ h)

-- so are these calls, one after the other
abbrev pub AllReply : CatalogueView → History → List TranscriptCall → History → Type 0
AllReply c h [] last = last ≡ h
AllReply c h (a ∷ rest) last = (next : History) × Replies c h a.mode a.op a.answer next × AllReply c next rest last

-- ---- one line

inner : (to next : Replayed) → Agrees to ≡ Agrees next → to ≡ next
inner to next e = cc

stands_told : (mode : Mode) (place reply : ℕ) → stands.At mode place ≡ standing_told (answer_told mode place reply)
stands_told Update place reply = refl
stands_told Read place reply = refl

module _ (c : CatalogueView) (at : Replayed) where
  compared_replies : (mode : Mode) (place reply : ℕ) (op : Operation) (next : Replayed) → compared c at mode place reply op ≡ Agrees next
      → Replies c at.history mode op (answer_told mode place reply) next.history
  compared_replies Update place reply op next e =
      let agrees = if_agrees (update_agrees c at.history op place reply) (with_update at op) next e in
      let parts = and_parts (eqb place (length at.history)) _ agrees.0 in
      let room = and_parts (ltb (length at.history) MAX_LIMIT) _ parts.1 in
      (refl, eqb-true _ _ parts.0, is_told reply (reply_at store_meaning c at.history (length at.history) op) room.1, ap (λ (r : Replayed). r.history) (sym agrees.1))
  compared_replies Read place reply op next e =
      let agrees = if_agrees (read_agrees c at.history op place reply) (record at { reads = next_count at.reads }) next e in
      let parts = and_parts (eqb place (length at.history)) _ agrees.0 in
      (refl, eqb-true _ _ parts.0, is_told reply (read_reply_at store_meaning c at.history (length at.history) op) parts.1, ap (λ (r : Replayed). r.history) (sym agrees.1))

  -- what a line tells that agrees, if it is a call, and where that stands
  abbrev Tells : Option TranscriptCall → Option Standing → Replayed → Type 0
  Tells a s next =
      ((a ≡ None) × (s ≡ None) × (next.history ≡ at.history))
      ⊎ ((t : TranscriptCall) × (a ≡ Some t) × (s ≡ Some (standing_told t.answer)) × Replies c at.history t.mode t.op t.answer next.history)

  ended_tells : (o : Option Operation) (next : Replayed) → option_map_or (λ op. Agrees (record at { ended = next_count at.ended })) o Bad ≡ Agrees next
      → Tells (option_map (call_told Update (Updated replies.Ended)) o) (Some stands.Ended) next
  ended_tells o next e =
      let op = has_operation (λ (op : Operation). Agrees (record at { ended = next_count at.ended })) o next e in
      inr (
        call_told Update (Updated replies.Ended) op.0,
        ap (option_map (call_told Update (Updated replies.Ended))) op.1,
        refl,
        (refl, ap (λ (r : Replayed). r.history) (sym (inner (record at { ended = next_count at.ended }) next op.2))),
      )

  answered_tells : (mode : Mode) (call : KeyedCall) (place reply : ℕ) (next : Replayed) → option_map_or (compared c at mode place reply) (operation_of c mode call) Bad ≡ Agrees next
      → Tells (option_map (call_told mode (answer_told mode place reply)) (operation_of c mode call)) (Some (stands.At mode place)) next
  answered_tells mode call place reply next e =
      let op = has_operation (compared c at mode place reply) (operation_of c mode call) next e in
      inr (
        call_told mode (answer_told mode place reply) op.0,
        ap (option_map (call_told mode (answer_told mode place reply))) op.1,
        ap Some (stands_told mode place reply),
        compared_replies mode place reply op.0 next op.2,
      )

  meaning_tells : (m : TranscriptMeaning) (next : Replayed) → told c at (Some m) ≡ Agrees next → Tells (told_by c m) (standing_of m) next
  meaning_tells Comment next e = inl (refl, refl, ap (λ (r : Replayed). r.history) (sym (inner at next e)))
  meaning_tells (Answered Update call a) next e = answered_tells Update call a.index a.reply next e
  meaning_tells (Answered Read call a) next e = answered_tells Read call a.index a.reply next e
  meaning_tells (Installed new a) next e =
      let op = has_operation (compared c at Update a.index a.reply) (install_of c new) next e in
      inr (
        call_told Update (answer_told Update a.index a.reply) op.0,
        ap (option_map (call_told Update (answer_told Update a.index a.reply))) op.1,
        refl,
        compared_replies Update a.index a.reply op.0 next op.2,
      )
  meaning_tells (Ended call) next e = ended_tells (operation_of c Update call) next e
  meaning_tells (EndedInstall new) next e = ended_tells (install_of c new) next e

  line_tells : (line : List ℕ) (next : Replayed) → line_outcome c at line ≡ Agrees next → Tells (line_told c line) (line_standing line) next
  unfolding line_outcome
  line_tells line next e = by (transcript_line_meaning line) e
    where
      by : (o : Option TranscriptMeaning) → told c at o ≡ Agrees next → Tells (option_and_then (told_by c) o) (option_and_then standing_of o) next
      by None f = absurd cc
      by (Some m) f = meaning_tells m next f

-- ---- the lines

-- the calls of these lines are answered so behind a history, leave updates, and stand where they are told
pub record Good (c : CatalogueView) (h : History) (lines : List (List ℕ)) : Type 0 where
  pub last : History
  pub reply : AllReply c h (calls_told c lines) last
  pub updates : AreUpdates c last
  pub standings : standings_of lines ≡ map (λ a. standing_told a.answer) (calls_told c lines)

module _ (c : CatalogueView) (at : Replayed) (l : List ℕ) (ls : List (List ℕ)) (next : Replayed) (rest : Good c next.history ls) where
  one_more : Tells c at (line_told c l) (line_standing l) next → Good c at.history (l ∷ ls)
  one_more (inl skip) = record {
    last = rest.last;
    reply = subst (λ o. AllReply c at.history (cons_option o (calls_told c ls)) rest.last) (sym skip.0) (subst (λ h. AllReply c h (calls_told c ls) rest.last) skip.2 rest.reply);
    updates = rest.updates;
    standings = ap (λ o. cons_option o (standings_of ls)) skip.1 ∙ rest.standings ∙ ap (λ o. map (λ (a : TranscriptCall). standing_told a.answer) (cons_option o (calls_told c ls))) (sym skip.0);
  }
  one_more (inr (t, is, stood, replies_so)) = record {
    last = rest.last;
    reply = subst (λ o. AllReply c at.history (cons_option o (calls_told c ls)) rest.last) (sym is) (next.history, replies_so, rest.reply);
    updates = rest.updates;
    standings = ap (λ o. cons_option o (standings_of ls)) stood ∙ ap (λ s. standing_told t.answer ∷ s) rest.standings
        ∙ ap (λ o. map (λ (a : TranscriptCall). standing_told a.answer) (cons_option o (calls_told c ls))) (sym is);
  }

module _ (c : CatalogueView) (is_whole : IsCatalogue c) (n : ℕ) (at : Replayed) (updates : AreUpdates c at.history) (l : List ℕ) (ls : List (List ℕ))
    (more : (next : Replayed) → AreUpdates c next.history → (transcript_answer c (next_line n) next ls).verdict ≡ verdicts.Good → Good c next.history ls) where
  line_good : (o : LineOutcome) → line_outcome c at l ≡ o → (by_outcome n (λ next. transcript_answer c (next_line n) next ls) o).verdict ≡ verdicts.Good → Good c at.history (l ∷ ls)
  line_good Bad is e = absurd cc
  line_good Differs is e = absurd cc
  line_good (Agrees next) is e =
      let kept = agreeing_lines_are_runs c at next l is_whole updates is in
      one_more c at l ls next (more next kept.1 e) (line_tells c at l next is)

pub good_lines : (c : CatalogueView) → IsCatalogue c → (n : ℕ) (at : Replayed) (ls : List (List ℕ)) → AreUpdates c at.history
    → (transcript_answer c n at ls).verdict ≡ verdicts.Good → Good c at.history ls
unfolding transcript_answer
good_lines c is n at [] updates e = record { last = at.history; reply = refl; updates = updates; standings = refl }
good_lines c is n at (l ∷ ls) updates e = line_good c is n at updates l ls (λ next u f. good_lines c is (next_line n) next ls u f) (line_outcome c at l) refl e
