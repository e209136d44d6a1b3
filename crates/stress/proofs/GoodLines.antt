-- The lines of calls that agree are read as they were told, and agree.
use Rattle.std.proofs.Common.{◌≡◌, ◌∙◌, ℕ, suc, ◌+◌, ◌-◌, ◌^◌, ◌≤◌, true, eqb, ltb, List, [], ◌∷◌, ◌++◌, map, length, decimal, Some, None, refl, sym, ap, subst, append_assoc, arith}
use Rattle.std.specs.Prelude.{min}
use Rattle.std.specs.Option.{option_map_or}
use Rattle.std.specs.List.{All}
use Rattle.std.specs.Str.{IsUtf8}
use Rattle.std.proofs.lemmas.Bool.{and_parts, eqb-true, ltb-true}
use Rattle.std.proofs.lemmas.List.{length-append}
use Rattle.std.proofs.lemmas.List.Elements.{All-nil, All-cons, All-head, All-tail}
use Rattle.std.proofs.lemmas.Option.{same_Some}
use Rattle.std.proofs.lemmas.Str.{IsUtf8-append, IsUtf8-from_ascii}
use Rattle.std.proofs.lemmas.Str.Ascii.{IsAscii-nil, IsAscii-cons}
use Rattle.verifier.specs.declared.refusal.Mode.{Mode}
use Rattle.verifier.specs.declared.refusal.Mode.TheVariants.{Update, Read}
use Rattle.text.specs.Digits.{field_bytes}
use Rattle.text.specs.Lines.{lines_of, next_line}
use Rattle.text.proofs.Export.{lines_of-cut}
use Rattle.loader.specs.CatalogueView.{CatalogueView, IsCatalogue}
use Rattle.oplog.specs.declared.configuration.TheConstants.{MAX_LIMIT}
use Rattle.oplog.specs.declared.records.Op.TheVariants as operations
use Rattle.oplog.specs.Operations.{Operation}
use Rattle.oplog.specs.History.{reply_at, read_reply_at}
use Rattle.replica.specs.StoreMeaning.{AreUpdates, is_operation, store_meaning}
use Rattle.running.proofs.Export.{grown}
use Rattle.replaying.specs.ReplayAnswer.{Replayed, Agrees, Bad, by_outcome, compared, ended_outcome, good_answer, good_text, line_outcome, next_count, read_agrees, told, transcript_answer, unless_barred, update_agrees, with_update}
use Rattle.engine.specs.Answer.{Answer}
use Rattle.engine.specs.declared.replies.Verdict.TheVariants as verdicts
use Rattle.stress.specs.declared.calls.Asked.{Asked}
use Rattle.stress.specs.declared.calls.Asked.TheVariants as asks
use Rattle.stress.specs.Calls.{Called, asked_refusal, operation_on, told_as}
use Rattle.stress.specs.Lines.{Said, Updated, Seen, Ended, ToldCall, call_text, said_text, suits, transcript_text, update_letter}
use Rattle.stress.specs.Replayed.{Agree, told_outcome}
use Rattle.stress.specs.Lines.{is_ended}
use Rattle.stress.specs.Timed.{how_many, is_updated, is_seen}
use Rattle.stress.proofs.Fit.{IsFit}
use Rattle.stress.proofs.Printed.{ArePrinted, is_utf8_line, no_feed}
use Rattle.stress.proofs.ReadBack.{AreSmall, FitLines, asked_bytes, asked_operation, call_is, line_of, program_of, read_back, told_meaning}
use Rattle.stress.proofs.Replies.{HasBytes, read_small, update_small}
use Rattle.replaying.proofs.Export.{if_agrees, is_told}

-- ---- what a line does

-- as far as 64 bits go
abbrev pub counted : ℕ → ℕ
counted n = min n (2 ^ 64 - 1)

inner : (to next : Replayed) → Agrees to ≡ Agrees next → to ≡ next
inner to next e = cc

an_update : (mode : Mode) (index reply : ℕ) → suits mode (Updated index reply) ≡ true → mode ≡ Update
an_update Update index reply e = refl
an_update Read index reply e = absurd cc

-- one more line was replayed, of which this was told
abbrev Grows : Replayed → Said → Replayed → Type 0
Grows at (Updated index reply) next = (length next.history ≡ suc (length at.history)) × (next.reads ≡ at.reads) × (next.ended ≡ at.ended)
Grows at (Seen point reply) next = (length next.history ≡ length at.history) × (next.reads ≡ next_count at.reads) × (next.ended ≡ at.ended)
Grows at Ended next = (length next.history ≡ length at.history) × (next.reads ≡ at.reads) × (next.ended ≡ next_count at.ended)

module _ (c : CatalogueView) (whole : IsCatalogue c) (lines : FitLines c) where
  -- a history of updates, as long as a replay allows
  abbrev Known : Replayed → Type 0
  Known at = AreUpdates c at.history × (length at.history ≤ MAX_LIMIT)

  abbrev Steps : Replayed → Said → Replayed → Type 0
  Steps at said next = AreSmall said × Known next × Grows at said next

  module _ (at : Replayed) (known : Known at) where
    update_steps : (op : Operation) (index reply : ℕ) (next : Replayed) → HasBytes op → is_operation Update c op ≡ true → compared c at Update index reply op ≡ Agrees next → Steps at (Updated index reply) next
    update_steps op index reply next are is e =
        let agrees = if_agrees (update_agrees c at.history op index reply) (with_update at op) next e in
        let place = and_parts (eqb index (length at.history)) _ agrees.0 in
        let room = and_parts (ltb (length at.history) MAX_LIMIT) _ place.1 in
        let answer = is_told reply (reply_at store_meaning c at.history (length at.history) op) room.1 in
        let low = ltb-true (length at.history) MAX_LIMIT room.0 in
        let here = eqb-true index (length at.history) place.0 in
        let limit : MAX_LIMIT ≡ 1000000 = refl in
        let small = update_small c whole at.history known.0 (length at.history) op reply are is answer in
        let long = length-append at.history (record { author = 0; seq = length at.history; op = op } ∷ []) in
        subst (Steps at (Updated index reply)) agrees.1
        ((omega (arith, here, low, limit), small), (grown c whole at.history known.0 op is, omega (arith, long, low)), (omega (arith, long), refl, refl))

    read_steps : (k : ℕ) (bytes : List ℕ) (point reply : ℕ) (next : Replayed) → HasBytes (operation_on (asks.Run Read k) bytes) → is_operation Read c (operation_on (asks.Run Read k) bytes) ≡ true
        → compared c at Read point reply (operation_on (asks.Run Read k) bytes) ≡ Agrees next → Steps at (Seen point reply) next
    read_steps k bytes point reply next are is e =
        let op = operation_on (asks.Run Read k) bytes in
        let agrees = if_agrees (read_agrees c at.history op point reply) (record at { reads = next_count at.reads }) next e in
        let place = and_parts (eqb point (length at.history)) _ agrees.0 in
        let answer = is_told reply (read_reply_at store_meaning c at.history (length at.history) op) place.1 in
        let here = eqb-true point (length at.history) place.0 in
        let low = known.1 in
        let limit : MAX_LIMIT ≡ 1000000 = refl in
        let small = read_small c whole at.history known.0 (length at.history) (record { program = k; argument = bytes }) reply are is answer in
        subst (Steps at (Seen point reply)) agrees.1 ((omega (arith, here, low, limit), small), known, (refl, refl, refl))

    steps : (asked : Asked) (bytes : List ℕ) (said : Said) (next : Replayed) → HasBytes (operation_on asked bytes) → is_operation (told_as asked) c (operation_on asked bytes) ≡ true → suits (told_as asked) said ≡ true
        → told_outcome c at (operation_on asked bytes) said ≡ Agrees next → Steps at said next
    steps asked bytes (Updated index reply) next are is fit e =
        update_steps (operation_on asked bytes) index reply next are (subst (λ m. is_operation m c (operation_on asked bytes) ≡ true) (an_update (told_as asked) index reply fit) is) e
    steps asked bytes Ended next are is fit e =
        subst (Steps at Ended) (inner (record at { ended = next_count at.ended }) next e) (tt, known, (refl, refl, refl))
    steps (asks.Run Update k) bytes (Seen point reply) next are is fit e = absurd cc
    steps (asks.Run Read k) bytes (Seen point reply) next are is fit e = read_steps k bytes point reply next are is e
    steps (asks.Install mode arg_len) bytes (Seen point reply) next are is fit e = absurd cc

    -- ---- what its line says is found to be what was told

    found : (asked : Asked) (bytes : List ℕ) (said : Said) → asked_refusal c asked bytes ≡ None → suits (told_as asked) said ≡ true → told c at (Some (told_meaning c asked bytes said)) ≡ told_outcome c at (operation_on asked bytes) said
    found (asks.Run Update k) bytes (Updated index reply) free fit = ap (λ o. option_map_or (compared c at Update index reply) o Bad) (call_is c whole lines Update k bytes free)
    found (asks.Run Update k) bytes (Seen point reply) free fit = absurd cc
    found (asks.Run Update k) bytes Ended free fit = ap (ended_outcome at) (call_is c whole lines Update k bytes free)
    found (asks.Run Read k) bytes (Updated index reply) free fit = absurd cc
    found (asks.Run Read k) bytes (Seen point reply) free fit = ap (λ o. option_map_or (compared c at Read point reply) o Bad) (call_is c whole lines Read k bytes free)
    found (asks.Run Read k) bytes Ended free fit = absurd cc
    found (asks.Install mode arg_len) bytes (Updated index reply) free fit =
        ap (λ o. option_map_or (compared c at Update index reply) (unless_barred (operations.Install (program_of mode arg_len bytes)) o) Bad) free
    found (asks.Install mode arg_len) bytes (Seen point reply) free fit = absurd cc
    found (asks.Install mode arg_len) bytes Ended free fit = ap (λ o. ended_outcome at (unless_barred (operations.Install (program_of mode arg_len bytes)) o)) free

    -- the line is printed bytes and agrees, and this was replayed then
    abbrev Goes : Asked → List ℕ → Said → Replayed → Type 0
    Goes asked digits said next = ArePrinted (line_of c asked digits said) × (line_outcome c at (line_of c asked digits said) ≡ Agrees next) × Known next × Grows at said next

    goes : (asked : Asked) (digits bytes : List ℕ) (said : Said) (next : Replayed) → field_bytes digits ≡ Some bytes → asked_refusal c asked bytes ≡ None → suits (told_as asked) said ≡ true
        → told_outcome c at (operation_on asked bytes) said ≡ Agrees next → Goes asked digits said next
    unfolding line_outcome
    goes asked digits bytes said next hex free fit e =
        let are = asked_bytes c whole lines asked digits bytes hex in
        let is = asked_operation c whole lines asked bytes free are in
        let after = steps asked bytes said next are is fit e in
        let line = read_back c whole lines asked digits bytes said hex free after.0 fit in
        (line.0, ap (told c at) line.1 ∙ found asked bytes said free fit ∙ e, after.1, after.2)

  -- ---- all lines

  abbrev line_told : ToldCall → List ℕ
  line_told t = line_of c t.call.asked t.call.digits t.said

  -- the call is not refused, and what was told suits it
  abbrev pub Fits : ToldCall → Type 0
  Fits t = IsFit c t.call × (suits (told_as t.call.asked) t.said ≡ true)

  -- the answer behind what was replayed, where all these agree
  abbrev answer_from : Replayed → List ToldCall → Answer
  answer_from at ts = record {
    text = good_text (length at.history + how_many is_updated ts) (counted (at.reads + how_many is_seen ts)) (counted (at.ended + how_many is_ended ts));
    verdict = verdicts.Good;
  }

  shift : (m n : ℕ) → suc m + n ≡ m + suc n
  shift m n = omega arith

  saturates : (m n : ℕ) → counted (next_count m + n) ≡ counted (m + suc n)
  saturates m n = omega arith

  module _ (at next : Replayed) (call : Called) (ts : List ToldCall) where
    abbrev one : Said → ToldCall
    one said = record { call = call; said = said }

    updates_counted : (said : Said) → Grows at said next → length next.history + how_many is_updated ts ≡ length at.history + how_many is_updated (one said ∷ ts)
    updates_counted (Updated index reply) g = ap (λ n. n + how_many is_updated ts) g.0 ∙ shift (length at.history) (how_many is_updated ts)
    updates_counted (Seen point reply) g = ap (λ n. n + how_many is_updated ts) g.0
    updates_counted Ended g = ap (λ n. n + how_many is_updated ts) g.0

    reads_counted : (said : Said) → Grows at said next → counted (next.reads + how_many is_seen ts) ≡ counted (at.reads + how_many is_seen (one said ∷ ts))
    reads_counted (Updated index reply) g = ap (λ n. counted (n + how_many is_seen ts)) g.1
    reads_counted (Seen point reply) g = ap (λ n. counted (n + how_many is_seen ts)) g.1 ∙ saturates at.reads (how_many is_seen ts)
    reads_counted Ended g = ap (λ n. counted (n + how_many is_seen ts)) g.1

    ended_counted : (said : Said) → Grows at said next → counted (next.ended + how_many is_ended ts) ≡ counted (at.ended + how_many is_ended (one said ∷ ts))
    ended_counted (Updated index reply) g = ap (λ n. counted (n + how_many is_ended ts)) g.2
    ended_counted (Seen point reply) g = ap (λ n. counted (n + how_many is_ended ts)) g.2
    ended_counted Ended g = ap (λ n. counted (n + how_many is_ended ts)) g.2 ∙ saturates at.ended (how_many is_ended ts)

    counts : (said : Said) → Grows at said next → answer_from next ts ≡ answer_from at (one said ∷ ts)
    counts said g = λ i. record { text = good_text (updates_counted said g i) (reads_counted said g i) (ended_counted said g i); verdict = verdicts.Good }

  -- no count is past 64 bits
  abbrev Bounded : Replayed → Type 0
  Bounded at = (at.reads ≤ 2 ^ 64 - 1) × (at.ended ≤ 2 ^ 64 - 1)

  bounded : (at next : Replayed) (said : Said) → Grows at said next → Bounded at → Bounded next
  bounded at next (Updated index reply) g b = let reads = g.1 in let ended = g.2 in let first = b.0 in let second = b.1 in (omega (arith, reads, first), omega (arith, ended, second))
  bounded at next (Seen point reply) g b = let reads = g.1 in let ended = g.2 in let second = b.1 in (omega (arith, reads), omega (arith, ended, second))
  bounded at next Ended g b = let reads = g.1 in let ended = g.2 in let first = b.0 in (omega (arith, reads, first), omega (arith, ended))

  none_left : (at : Replayed) → Bounded at → good_answer at ≡ answer_from at []
  none_left at b =
      let first = b.0 in
      let second = b.1 in
      let updates : length at.history ≡ length at.history + 0 = omega arith in
      let reads : at.reads ≡ counted (at.reads + 0) = omega (arith, first) in
      let ended : at.ended ≡ counted (at.ended + 0) = omega (arith, second) in
      λ i. record { text = good_text (updates i) (reads i) (ended i); verdict = verdicts.Good }

  -- the lines are printed, and all agree
  abbrev AllGo : ℕ → Replayed → List ToldCall → Type 0
  AllGo n at ts = All (λ t. ArePrinted (line_told t)) ts × (transcript_answer c n at (map line_told ts) ≡ answer_from at ts)

  pub all_go : (n : ℕ) (at : Replayed) (ts : List ToldCall) → Known at → Bounded at → All Fits ts → Agree c at ts → AllGo n at ts
  unfolding transcript_answer
  all_go n at [] known b fit agree = (All-nil (λ t. ArePrinted (line_told t)), none_left at b)
  all_go n at (t ∷ ts) known b fit agree =
      let next = agree.1 in
      let bytes = agree.2.0 in
      let first = All-head Fits t ts fit in
      let free : asked_refusal c t.call.asked bytes ≡ None = subst (λ x. asked_refusal c t.call.asked x ≡ None) (same_Some first.0.bytes bytes (sym first.0.spelled ∙ agree.2.1)) first.0.free in
      let outcome : told_outcome c at (operation_on t.call.asked bytes) t.said ≡ Agrees next = ap (λ op. told_outcome c at op t.said) (sym agree.2.2) ∙ agree.3 in
      let line = goes at known t.call.asked t.call.digits bytes t.said next agree.2.1 free first.1 outcome in
      let rest = all_go (next_line n) next ts line.2 (bounded at next t.said line.3 b) (All-tail Fits t ts fit) agree.4 in (
        All-cons (λ t. ArePrinted (line_told t)) t ts line.0 rest.0,
        ap (by_outcome n (λ x. transcript_answer c (next_line n) x (map line_told ts))) line.1 ∙ rest.1 ∙ counts at next t.call ts t.said line.3,
      )

  -- ---- the text

  answered_ends : (letter : List ℕ) (index reply : ℕ) (call : List ℕ)
      → letter ++ (decimal index ++ 32 ∷ (call ++ 32 ∷ (decimal reply ++ 10 ∷ []))) ≡ (letter ++ (decimal index ++ 32 ∷ (call ++ 32 ∷ decimal reply))) ++ 10 ∷ []
  answered_ends letter index reply call =
      let back : call ++ 32 ∷ (decimal reply ++ 10 ∷ []) ≡ (call ++ 32 ∷ decimal reply) ++ 10 ∷ [] = sym (append_assoc call (32 ∷ decimal reply) (10 ∷ [])) in
      ap (λ t. letter ++ (decimal index ++ 32 ∷ t)) back
      ∙ ap (λ t. letter ++ t) (sym (append_assoc (decimal index) (32 ∷ (call ++ 32 ∷ decimal reply)) (10 ∷ [])))
      ∙ sym (append_assoc letter (decimal index ++ 32 ∷ (call ++ 32 ∷ decimal reply)) (10 ∷ []))

  said_ends : (call : Called) (said : Said) → said_text c call said ≡ line_of c call.asked call.digits said ++ 10 ∷ []
  said_ends call (Updated index reply) = answered_ends (update_letter call.asked) index reply (call_text c call)
  said_ends call (Seen point reply) = answered_ends (114 ∷ 32 ∷ []) point reply (call_text c call)
  said_ends call Ended = refl

  -- the text of all lines is these lines, and UTF-8
  abbrev IsText : List ToldCall → Type 0
  IsText ts = (lines_of (transcript_text c ts) ≡ map line_told ts) × IsUtf8 (transcript_text c ts)

  pub is_text_of : (ts : List ToldCall) → All (λ t. ArePrinted (line_told t)) ts → IsText ts
  is_text_of [] printed = (refl, IsUtf8-from_ascii [] IsAscii-nil)
  is_text_of (t ∷ ts) printed =
      let first = All-head (λ t. ArePrinted (line_told t)) t ts printed in
      let rest = is_text_of ts (All-tail (λ t. ArePrinted (line_told t)) t ts printed) in
      let cut : transcript_text c (t ∷ ts) ≡ line_told t ++ 10 ∷ transcript_text c ts = ap (λ l. l ++ transcript_text c ts) (said_ends t.call t.said) ∙ append_assoc (line_told t) (10 ∷ []) (transcript_text c ts) in
      let feed : IsUtf8 (10 ∷ []) = IsUtf8-from_ascii (10 ∷ []) (IsAscii-cons 10 [] (omega arith) IsAscii-nil) in (
        ap lines_of cut ∙ lines_of-cut (line_told t) (transcript_text c ts) (no_feed (line_told t) first) ∙ ap (λ ls. line_told t ∷ ls) rest.0,
        subst IsUtf8 (sym cut) (IsUtf8-append (line_told t) (10 ∷ transcript_text c ts) (is_utf8_line (line_told t) first) (IsUtf8-append (10 ∷ []) (transcript_text c ts) feed rest.1)),
      )
