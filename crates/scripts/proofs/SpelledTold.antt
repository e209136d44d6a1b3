-- A line of a transcript says what it spells.
use Rattle.std.proofs.Common.{◌≡◌, ◌⊎◌, inl, inr, ℕ, ◌≤◌, true, false, eqb, List, [], ◌∷◌, ◌++◌, length, codes, decimal, Option, Some, None, refl, sym, ap, subst, ◌∙◌}
use Rattle.std.specs.Prelude.{option_map}
use Rattle.std.specs.Option.{option_or}
use Rattle.std.proofs.lemmas.Option.{same_Some}
use Rattle.verifier.specs.declared.refusal.Mode.{Mode}
use Rattle.verifier.specs.declared.refusal.Mode.TheVariants.{Update, Read}
use Rattle.text.specs.declared.lines.TheConstants.{LINE_BYTES}
use Rattle.text.specs.Fields.{has_no_space, split_at_space}
use Rattle.text.specs.Words.{number_of}
use Rattle.text.proofs.Export.{IsSilent, by_kind_from, by_words, by_hash, by_empty, steps, split_from, split_to}
use Rattle.loader.specs.Spelling.{mode_word}
use Rattle.oplog.specs.Calls.{NewProgram}
use Rattle.scripts.specs.Script.{KeyedCall, keyed_call, program_fields, new_program}
use Rattle.scripts.specs.Transcript.{TranscriptMeaning, Comment, Answered, Installed, Ended, EndedInstall, answered_call, answered_install, ended_call, transcript_words, transcript_meaning, transcript_line_meaning}
use Rattle.scripts.specs.declared.transcripts.ToldReply.{ToldReply}
use Rattle.scripts.specs.LineSpelling.{IsNumber, IsKey, SpellsBytes, SpellsTold, EachToldIsItsSpelling, key_text, mode_letter}
use Rattle.loader.proofs.Export.{no_space_in_mode, no_space_in_number}
use Rattle.scripts.proofs.Fields.{bytes_plain, key_plain, keyed_from, keyed_to, new_from, new_to, number_from, number_to, program_from, program_to, two_no_bytes}
use Rattle.scripts.proofs.SpelledScripts.{by_word}
use Rattle.encoding.proofs.Export.{mapped}

-- ---- read

-- PLACE NAME HEX REPLY
abbrev IsAnswered : List ℕ → KeyedCall × ToldReply → Type 0
IsAnswered t a =
    (digits : List ℕ) × (t ≡ decimal a.1.index ++ 32 ∷ (key_text a.0.key ++ 32 ∷ (digits ++ 32 ∷ decimal a.1.reply))) × IsKey a.0.key × SpellsBytes a.0.argument digits
    × IsNumber a.1.index × IsNumber a.1.reply

answered_from : (t : List ℕ) (a : KeyedCall × ToldReply) → answered_call t ≡ Some a → IsAnswered t a
unfolding answered_call
answered_from t a e =
    let first = steps (split_at_space t) _ a e in
    let second = steps (split_at_space first.0.1) _ a first.2 in
    let third = steps (split_at_space second.0.1) _ a second.2 in
    let index = steps (number_of first.0.0) _ a third.2 in
    let call = steps (keyed_call second.0.0 third.0.0) _ a index.2 in
    let reply = steps (number_of third.0.1) _ a call.2 in
    let p = number_from first.0.0 index.0 index.1 in
    let k = keyed_from second.0.0 third.0.0 call.0 call.1 in
    let r = number_from third.0.1 reply.0 reply.1 in
    let last : second.0.1 ≡ third.0.0 ++ 32 ∷ decimal reply.0 = split_from second.0.1 third.0 third.1 ∙ ap (λ w. third.0.0 ++ 32 ∷ w) r.0 in
    let rest : first.0.1 ≡ key_text call.0.key ++ 32 ∷ (third.0.0 ++ 32 ∷ decimal reply.0) = split_from first.0.1 second.0 second.1 ∙ (λ i. k.0 i ++ 32 ∷ last i) in
    subst (λ (x : KeyedCall × ToldReply). IsAnswered t x) (same_Some (call.0, record { index = index.0; reply = reply.0 }) a reply.2)
    (third.0.0, split_from t first.0 first.1 ∙ (λ i. p.0 i ++ 32 ∷ rest i), k.1, k.2, p.1, r.1)

-- PLACE MODE ARGLEN HEX REPLY
abbrev IsInstalled : List ℕ → NewProgram × ToldReply → Type 0
IsInstalled t a =
    (digits : List ℕ) × (t ≡ decimal a.1.index ++ 32 ∷ (mode_word a.0.mode ++ 32 ∷ (decimal a.0.arg_len ++ 32 ∷ (digits ++ 32 ∷ decimal a.1.reply))))
    × IsNumber a.0.arg_len × SpellsBytes a.0.bytes digits × IsNumber a.1.index × IsNumber a.1.reply

installed_from : (t : List ℕ) (a : NewProgram × ToldReply) → answered_install t ≡ Some a → IsInstalled t a
unfolding answered_install
installed_from t a e =
    let first = steps (split_at_space t) _ a e in
    let second = steps (split_at_space first.0.1) _ a first.2 in
    let third = steps (split_at_space second.0.1) _ a second.2 in
    let fourth = steps (split_at_space third.0.1) _ a third.2 in
    let index = steps (number_of first.0.0) _ a fourth.2 in
    let program = steps (program_fields second.0.0 third.0.0 fourth.0.0) _ a index.2 in
    let reply = steps (number_of fourth.0.1) _ a program.2 in
    let p = number_from first.0.0 index.0 index.1 in
    let n = program_from second.0.0 third.0.0 fourth.0.0 program.0 program.1 in
    let r = number_from fourth.0.1 reply.0 reply.1 in
    let last : third.0.1 ≡ fourth.0.0 ++ 32 ∷ decimal reply.0 = split_from third.0.1 fourth.0 fourth.1 ∙ ap (λ w. fourth.0.0 ++ 32 ∷ w) r.0 in
    let behind : second.0.1 ≡ decimal program.0.arg_len ++ 32 ∷ (fourth.0.0 ++ 32 ∷ decimal reply.0) = split_from second.0.1 third.0 third.1 ∙ (λ i. n.1 i ++ 32 ∷ last i) in
    let rest : first.0.1 ≡ mode_word program.0.mode ++ 32 ∷ (decimal program.0.arg_len ++ 32 ∷ (fourth.0.0 ++ 32 ∷ decimal reply.0)) = split_from first.0.1 second.0 second.1 ∙ (λ i. n.0 i ++ 32 ∷ behind i) in
    subst (λ (x : NewProgram × ToldReply). IsInstalled t x) (same_Some (program.0, record { index = index.0; reply = reply.0 }) a reply.2)
    (fourth.0.0, split_from t first.0 first.1 ∙ (λ i. p.0 i ++ 32 ∷ rest i), n.2, n.3, p.1, r.1)

-- NAME HEX
abbrev IsEnded : List ℕ → KeyedCall → Type 0
IsEnded t call = (digits : List ℕ) × (t ≡ key_text call.key ++ 32 ∷ digits) × IsKey call.key × SpellsBytes call.argument digits

ended_from : (t : List ℕ) (call : KeyedCall) → ended_call t ≡ Some call → IsEnded t call
unfolding ended_call
ended_from t call e =
    let field = steps (split_at_space t) _ call e in
    let k = keyed_from field.0.0 field.0.1 call field.2 in
    (field.0.1, split_from t field.0 field.1 ∙ ap (λ w. w ++ 32 ∷ field.0.1) k.0, k.1, k.2)

-- ---- by the letter

abbrev answered_as : Mode → KeyedCall × ToldReply → TranscriptMeaning
answered_as mode a = Answered mode a.0 a.1

abbrev installed_as : NewProgram × ToldReply → TranscriptMeaning
installed_as a = Installed a.0 a.1

told_answered : (mode : Mode) (letter rest : List ℕ) (m : TranscriptMeaning) → (letter ≡ mode_letter mode) × (option_map (answered_as mode) (answered_call rest) ≡ Some m) → SpellsTold m (letter ++ 32 ∷ rest)
told_answered mode letter rest m h =
    let x = mapped (answered_as mode) (answered_call rest) m h.1 in
    let a = answered_from rest x.0 x.1 in
    subst (λ said. SpellsTold said (letter ++ 32 ∷ rest)) x.2 ((a.0, (λ i. h.0 i ++ 32 ∷ a.1 i), a.2, a.3), a.4, a.5)

told_installed : (letter rest : List ℕ) (m : TranscriptMeaning) → (letter ≡ codes "i") × (option_map installed_as (answered_install rest) ≡ Some m) → SpellsTold m (letter ++ 32 ∷ rest)
told_installed letter rest m h =
    let x = mapped installed_as (answered_install rest) m h.1 in
    let a = installed_from rest x.0 x.1 in
    subst (λ said. SpellsTold said (letter ++ 32 ∷ rest)) x.2 ((a.0, (λ i. h.0 i ++ 32 ∷ a.1 i), a.2, a.3), a.4, a.5)

-- behind `e`
abbrev ended_told : List ℕ → Option TranscriptMeaning
ended_told rest = option_or (option_map Ended (ended_call rest)) (option_map EndedInstall (new_program rest))

told_ended : (letter rest : List ℕ) (m : TranscriptMeaning) → (letter ≡ codes "e") × (ended_told rest ≡ Some m) → SpellsTold m (letter ++ 32 ∷ rest)
told_ended letter rest m h = by (ended_call rest) refl h.1
  where
    by : (o : Option KeyedCall) → ended_call rest ≡ o → option_or (option_map Ended o) (option_map EndedInstall (new_program rest)) ≡ Some m → SpellsTold m (letter ++ 32 ∷ rest)
    by (Some call) is e =
        let k = ended_from rest call is in
        subst (λ said. SpellsTold said (letter ++ 32 ∷ rest)) (same_Some (Ended call) m e) (k.0, (λ i. h.0 i ++ 32 ∷ k.1 i), k.2, k.3)
    by None is e =
        let x = mapped EndedInstall (new_program rest) m e in
        let new = new_from rest x.0 x.1 in
        subst (λ said. SpellsTold said (letter ++ 32 ∷ rest)) x.2 (new.0, (λ i. h.0 i ++ 32 ∷ new.1 i), new.2, new.3)

told_from : (letter rest : List ℕ) (m : TranscriptMeaning) → transcript_words letter rest ≡ Some m → SpellsTold m (letter ++ 32 ∷ rest)
told_from letter rest m e =
    elim (by_word letter (codes "u") _ _ m e) [
      | inl h ↦ told_answered Update letter rest m h
      | inr e ↦ elim (by_word letter (codes "r") _ _ m e) [
        | inl h ↦ told_answered Read letter rest m h
        | inr e ↦ elim (by_word letter (codes "i") _ _ m e) [
          | inl h ↦ told_installed letter rest m h
          | inr e ↦ elim (by_word letter (codes "e") _ _ m e) [
            | inl h ↦ told_ended letter rest m h
            | inr none ↦ absurd cc
          ]
        ]
      ]
    ]

words_from : (line : List ℕ) (m : TranscriptMeaning) → transcript_meaning line ≡ Some m → SpellsTold m line
unfolding transcript_meaning
words_from line m e =
    let letter = steps (split_at_space line) _ m e in
    subst (λ l. SpellsTold m l) (sym (split_from line letter.0 letter.1)) (told_from letter.0.0 letter.0.1 m letter.2)

pub spelled : (line : List ℕ) (m : TranscriptMeaning) → transcript_line_meaning line ≡ Some m → (length line ≤ LINE_BYTES) × SpellsTold m line
unfolding transcript_line_meaning
spelled line m e = let read = by_kind_from Comment (transcript_meaning line) line m e in (read.0, by read.1)
  where
    by : (IsSilent line × (Comment ≡ m)) ⊎ (transcript_meaning line ≡ Some m) → SpellsTold m line
    by (inl silent) = subst (λ said. SpellsTold said line) silent.1 silent.0
    by (inr words) = words_from line m words

-- ---- spelled

of_words : (c : ℕ) (cs : List ℕ) (m : TranscriptMeaning) → length (c ∷ cs) ≤ LINE_BYTES → eqb c 35 ≡ false → transcript_meaning (c ∷ cs) ≡ Some m → transcript_line_meaning (c ∷ cs) ≡ Some m
unfolding transcript_line_meaning
of_words c cs m le other e = by_words Comment (transcript_meaning (c ∷ cs)) c cs le other ∙ e

comment_to : (cs : List ℕ) → length (35 ∷ cs) ≤ LINE_BYTES → transcript_line_meaning (35 ∷ cs) ≡ Some Comment
unfolding transcript_line_meaning
comment_to cs le = by_hash Comment (transcript_meaning (35 ∷ cs)) cs le

empty_to : transcript_line_meaning [] ≡ Some Comment
unfolding transcript_line_meaning
empty_to = by_empty Comment (transcript_meaning [])

word_to : (word rest : List ℕ) (m : TranscriptMeaning) → has_no_space word ≡ true → transcript_words word rest ≡ Some m → transcript_meaning (word ++ 32 ∷ rest) ≡ Some m
unfolding transcript_meaning
word_to word rest m plain e = rw (split_to word rest plain) e

said : (c : ℕ) (rest line : List ℕ) (m : TranscriptMeaning) → line ≡ c ∷ 32 ∷ rest → length line ≤ LINE_BYTES → has_no_space (c ∷ []) ≡ true → eqb c 35 ≡ false → transcript_words (c ∷ []) rest ≡ Some m → transcript_line_meaning line ≡ Some m
said c rest line m whole le plain other e =
    subst (λ l. length l ≤ LINE_BYTES → transcript_line_meaning l ≡ Some m) (sym whole) (λ s. of_words c (32 ∷ rest) m s other (word_to (c ∷ []) rest m plain e)) le

answered_to : (call : KeyedCall) (told : ToldReply) (digits : List ℕ) → IsKey call.key → SpellsBytes call.argument digits → IsNumber told.index → IsNumber told.reply
    → answered_call (decimal told.index ++ 32 ∷ (key_text call.key ++ 32 ∷ (digits ++ 32 ∷ decimal told.reply))) ≡ Some (call, told)
unfolding answered_call
answered_to call told digits key bytes p r =
    rw (
      split_to (decimal told.index) (key_text call.key ++ 32 ∷ (digits ++ 32 ∷ decimal told.reply)) (no_space_in_number told.index p),
      split_to (key_text call.key) (digits ++ 32 ∷ decimal told.reply) (key_plain call.key key),
      split_to digits (decimal told.reply) (bytes_plain digits call.argument bytes),
      number_to told.index p,
      keyed_to call digits key bytes,
      number_to told.reply r,
    ) refl

installed_to : (new : NewProgram) (told : ToldReply) (digits : List ℕ) → IsNumber new.arg_len → SpellsBytes new.bytes digits → IsNumber told.index → IsNumber told.reply
    → answered_install (decimal told.index ++ 32 ∷ (mode_word new.mode ++ 32 ∷ (decimal new.arg_len ++ 32 ∷ (digits ++ 32 ∷ decimal told.reply)))) ≡ Some (new, told)
unfolding answered_install
installed_to new told digits len bytes p r =
    rw (
      split_to (decimal told.index) (mode_word new.mode ++ 32 ∷ (decimal new.arg_len ++ 32 ∷ (digits ++ 32 ∷ decimal told.reply))) (no_space_in_number told.index p),
      split_to (mode_word new.mode) (decimal new.arg_len ++ 32 ∷ (digits ++ 32 ∷ decimal told.reply)) (no_space_in_mode new.mode),
      split_to (decimal new.arg_len) (digits ++ 32 ∷ decimal told.reply) (no_space_in_number new.arg_len len),
      split_to digits (decimal told.reply) (bytes_plain digits new.bytes bytes),
      number_to told.index p,
      program_to new digits len bytes,
      number_to told.reply r,
    ) refl

ended_to : (call : KeyedCall) (digits : List ℕ) → IsKey call.key → SpellsBytes call.argument digits → ended_told (key_text call.key ++ 32 ∷ digits) ≡ Some (Ended call)
unfolding ended_call
ended_to call digits key bytes = rw (split_to (key_text call.key) digits (key_plain call.key key), keyed_to call digits key bytes) refl

-- an install is no call: two fields are no digits
no_call : (word a b : List ℕ) → has_no_space word ≡ true → ended_call (word ++ 32 ∷ (a ++ 32 ∷ b)) ≡ None
unfolding ended_call keyed_call
no_call word a b plain = rw (split_to word (a ++ 32 ∷ b) plain, two_no_bytes a b) refl

ended_install_to : (new : NewProgram) (digits : List ℕ) → IsNumber new.arg_len → SpellsBytes new.bytes digits → ended_told (mode_word new.mode ++ 32 ∷ (decimal new.arg_len ++ 32 ∷ digits)) ≡ Some (EndedInstall new)
ended_install_to new digits len bytes = rw (no_call (mode_word new.mode) (decimal new.arg_len) digits (no_space_in_mode new.mode), new_to new digits len bytes) refl

answered_line : (mode : Mode) (rest : List ℕ) (m : TranscriptMeaning) (line : List ℕ) → option_map (answered_as mode) (answered_call rest) ≡ Some m → line ≡ mode_letter mode ++ 32 ∷ rest → length line ≤ LINE_BYTES → transcript_line_meaning line ≡ Some m
answered_line Update rest m line e whole le = said _ rest line m whole le refl refl e
answered_line Read rest m line e whole le = said _ rest line m whole le refl refl e

pub respelled : (line : List ℕ) (m : TranscriptMeaning) → length line ≤ LINE_BYTES → SpellsTold m line → transcript_line_meaning line ≡ Some m
respelled line Comment le (inl empty) = subst (λ l. transcript_line_meaning l ≡ Some Comment) (sym empty) empty_to
respelled line Comment le (inr (rest, whole)) = subst (λ l. length l ≤ LINE_BYTES → transcript_line_meaning l ≡ Some Comment) (sym whole) (comment_to rest) le
respelled line (Answered mode call told) le h =
    answered_line mode _ (Answered mode call told) line (ap (option_map (answered_as mode)) (answered_to call told h.0.0 h.0.2 h.0.3 h.1 h.2)) h.0.1 le
respelled line (Installed new told) le h =
    said _ _ line (Installed new told) h.0.1 le refl refl (ap (option_map installed_as) (installed_to new told h.0.0 h.0.2 h.0.3 h.1 h.2))
respelled line (Ended call) le h = said _ _ line (Ended call) h.1 le refl refl (ended_to call h.0 h.2 h.3)
respelled line (EndedInstall new) le h = said _ _ line (EndedInstall new) h.1 le refl refl (ended_install_to new h.0 h.2 h.3)

pub each_told : EachToldIsItsSpelling
each_told line m = (spelled line m, λ h. respelled line m h.0 h.1)
