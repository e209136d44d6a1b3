-- The line of a call that was told is read as what was told.
use Rattle.std.proofs.Common.{◌≡◌, ◌∙◌, inl, inr, ℕ, zero, suc, ◌^◌, ◌<◌, ◌≤◌, true, List, [], ◌∷◌, ◌++◌, length, codes, decimal, slice_get, Option, Some, None, refl, ap, append_assoc, arith}
use Rattle.std.specs.Prelude.{option_and_then, if◌then◌else◌}
use Rattle.std.specs.Option.{option_map, option_map_or}
use Rattle.std.proofs.lemmas.Option.{none-some, same_Some}
use Rattle.verifier.specs.Accepted.{Checked}
use Rattle.std.proofs.lemmas.Bool.{le-ltb}
use Rattle.std.proofs.lemmas.List.{length-append}
use Rattle.verifier.specs.declared.refusal.Mode.{Mode}
use Rattle.verifier.specs.declared.refusal.Mode.TheVariants.{Update, Read}
use Rattle.text.specs.Digits.{field_bytes}
use Rattle.text.specs.Words.{is_name}
use Rattle.loader.specs.CatalogueView.{CatalogueView, IsCatalogue, Entry}
use Rattle.loader.specs.Spelling.{mode_word}
use Rattle.oplog.specs.Calls.{NewProgram}
use Rattle.oplog.specs.declared.records.Op.TheVariants as operations
use Rattle.replica.specs.StoreMeaning.{IsCall, is_operation}
use Rattle.replica.specs.Refusals.{early_refusal}
use Rattle.replica.proofs.Export.{is_asked, may_install, are_tested, offered_below}
use Rattle.running.proofs.Export.{field_are_bytes}
use Rattle.scripts.specs.Script.{ProgramKey, Named, Numbered, KeyedCall}
use Rattle.scripts.specs.LineSpelling.{IsKey, IsNumber, SpellsTold, key_text}
use Rattle.scripts.specs.Transcript as meanings
use Rattle.scripts.specs.Transcript.{TranscriptMeaning, Answered, Installed, EndedInstall, transcript_line_meaning}
use Rattle.scripts.proofs.Export.{respelled}
use Rattle.replaying.specs.ReplayAnswer.{number_told, unless_barred, operation_of}
use Rattle.stress.specs.declared.calls.Asked.{Asked}
use Rattle.stress.specs.declared.calls.Asked.TheVariants as asks
use Rattle.stress.specs.Calls.{asked_refusal, operation_on, told_as}
use Rattle.stress.specs.Lines.{Said, Updated, Seen, Ended, asked_text, suits, update_letter}
use Rattle.stress.proofs.Printed.{ArePrinted, both_printed, spaced_printed, hex_is, mode_printed, name_printed, name_short, number_printed}
use Rattle.stress.proofs.Programs.{number_is}
use Rattle.stress.proofs.Replies.{HasBytes}
use Rattle.dumps.proofs.Export.{digits_few, word_few}

-- ---- programs by their names or numbers

abbrev key_told : ℕ → Option Entry → ProgramKey
key_told k None = Numbered k
key_told k (Some program) = Named program.name

abbrev pub key_at : CatalogueView → ℕ → ProgramKey
key_at c k = key_told k (slice_get c.programs k)

abbrev name_or : ℕ → Option Entry → List ℕ
name_or k o = option_map_or (λ program. program.name) o (decimal k)

same_key : (k : ℕ) (o : Option Entry) → name_or k o ≡ key_text (key_told k o)
same_key k None = refl
same_key k (Some program) = refl

past_all : (es : List Entry) (k : ℕ) → slice_get es k ≡ None → length es ≤ k
past_all [] k e = omega arith
past_all (x ∷ es) zero e = absurd cc
past_all (x ∷ es) (suc k) e = let past = past_all es k e in omega (arith, past)

-- each program of the catalogue has a name, and each argument room in a line
abbrev pub FitLines : CatalogueView → Type 0
FitLines c = ((k : ℕ) (e : Entry) → slice_get c.programs k ≡ Some e → (is_name e.name ≡ true) × (e.checked.arg_len ≤ 192)) × (c.long ≤ 192)

-- ---- a line, and what it says

abbrev number_of_asked : Asked → ℕ
number_of_asked (asks.Run mode k) = k
number_of_asked (asks.Install mode arg_len) = arg_len

-- a line without its line feed
abbrev pub line_of : CatalogueView → Asked → List ℕ → Said → List ℕ
line_of c asked digits (Updated index reply) = update_letter asked ++ (decimal index ++ (codes " " ++ ((asked_text c asked ++ (codes " " ++ digits)) ++ (codes " " ++ decimal reply))))
line_of c asked digits (Seen point reply) = codes "r " ++ (decimal point ++ (codes " " ++ ((asked_text c asked ++ (codes " " ++ digits)) ++ (codes " " ++ decimal reply))))
line_of c asked digits Ended = codes "e " ++ (asked_text c asked ++ (codes " " ++ digits))

-- place and reply are numbers of 64 bits
abbrev pub AreSmall : Said → Type 0
AreSmall (Updated index reply) = IsNumber index × IsNumber reply
AreSmall (Seen point reply) = IsNumber point × IsNumber reply
AreSmall Ended = Unit {0}

abbrev pub keyed : CatalogueView → ℕ → List ℕ → KeyedCall
keyed c k bytes = record { key = key_at c k; argument = bytes }

abbrev pub program_of : Mode → ℕ → List ℕ → NewProgram
program_of mode arg_len bytes = record { mode = mode; arg_len = arg_len; bytes = bytes }

-- what was told of a call, as a line of a transcript means it; an install is told nothing of a point
abbrev pub told_meaning : CatalogueView → Asked → List ℕ → Said → TranscriptMeaning
told_meaning c (asks.Run mode k) bytes (Updated index reply) = Answered Update (keyed c k bytes) (record { index = index; reply = reply })
told_meaning c (asks.Run mode k) bytes (Seen point reply) = Answered Read (keyed c k bytes) (record { index = point; reply = reply })
told_meaning c (asks.Run mode k) bytes Ended = meanings.Ended (keyed c k bytes)
told_meaning c (asks.Install mode arg_len) bytes (Updated index reply) = Installed (program_of mode arg_len bytes) (record { index = index; reply = reply })
told_meaning c (asks.Install mode arg_len) bytes (Seen point reply) = meanings.Comment
told_meaning c (asks.Install mode arg_len) bytes Ended = EndedInstall (program_of mode arg_len bytes)

module _ (c : CatalogueView) (whole : IsCatalogue c) (lines : FitLines c) where
  told_number : (k : ℕ) → number_told c (key_at c k) ≡ Some k
  told_number k = by (slice_get c.programs k) refl
    where
      by : (o : Option Entry) → slice_get c.programs k ≡ o → number_told c (key_told k o) ≡ Some k
      by None is = ap (λ b. if b then None else Some k) (le-ltb k (length c.programs) (past_all c.programs k is))
      by (Some e) is = number_is c.programs k e whole.distinct is

  -- ---- what a session may ask for is an operation, and small

  pub asked_operation : (asked : Asked) (bytes : List ℕ) → asked_refusal c asked bytes ≡ None → HasBytes (operation_on asked bytes) → is_operation (told_as asked) c (operation_on asked bytes) ≡ true
  asked_operation (asks.Run mode k) bytes free are = is_asked mode c k bytes free are
  asked_operation (asks.Install mode arg_len) bytes free are = may_install c (record { mode = mode; arg_len = arg_len; bytes = bytes }) free are

  pub asked_bytes : (asked : Asked) (digits bytes : List ℕ) → field_bytes digits ≡ Some bytes → HasBytes (operation_on asked bytes)
  asked_bytes (asks.Run mode k) digits bytes hex = field_are_bytes digits bytes hex
  asked_bytes (asks.Install mode arg_len) digits bytes hex = field_are_bytes digits bytes hex

  -- a number below 2^64, and few bytes
  abbrev IsFew : ℕ → List ℕ → Type 0
  IsFew n bytes = (n < 2 ^ 64) × (length bytes ≤ 192)

  short_named : (k : ℕ) (o : Option Entry) (p : Checked) → slice_get c.programs k ≡ o → option_map (λ (e : Entry). e.checked) o ≡ Some p → p.arg_len ≤ 192
  short_named k None p at is = absurd (none-some p is)
  short_named k (Some e) p at is =
      let short = (lines.0 k e at).1 in
      let same : e.checked.arg_len ≡ p.arg_len = ap (λ (q : Checked). q.arg_len) (same_Some e.checked p is) in
      omega (arith, short, same)

  few_of_call : (mode : Mode) (k : ℕ) (bytes : List ℕ) → IsCall mode c (record { program = k; argument = bytes }) → IsFew k bytes
  few_of_call mode k bytes (inl h) =
      let below = offered_below c k h.program h.named in
      let few : length c.programs ≤ 256 = whole.few in
      let long = h.length_is in
      let short : h.program.arg_len ≤ 192 = short_named k (slice_get c.programs k) h.program refl h.named in
      (omega (arith, below, few), omega (arith, long, short))
  few_of_call mode k bytes (inr h) =
      let below = h.within in
      let few : length c.programs ≤ 256 = whole.few in
      let places : c.places ≤ 4096 = whole.few_places in
      let short : length bytes ≤ 192 = (let few_bytes = h.short in let long = lines.1 in omega (arith, few_bytes, long)) in
      (omega (arith, below, few, places), omega (arith, short))

  few_asked : (asked : Asked) (bytes : List ℕ) → is_operation (told_as asked) c (operation_on asked bytes) ≡ true → IsFew (number_of_asked asked) bytes
  few_asked (asks.Run mode k) bytes is = few_of_call mode k bytes ((are_tested mode c (operations.Run (record { program = k; argument = bytes }))).0 is)
  few_asked (asks.Install mode arg_len) bytes is =
      let h = (are_tested Update c (operations.Install (record { mode = mode; arg_len = arg_len; bytes = bytes }))).0 is in
      let few = h.few in
      let short = h.argument in
      let long = lines.1 in
      (omega (arith, short, long), omega (arith, few, long))

  -- ---- the texts

  -- printed, and short
  abbrev IsField : ℕ → List ℕ → Type 0
  IsField n t = ArePrinted t × (length t ≤ n)

  name_field : (k : ℕ) → k < 2 ^ 64 → IsField 32 (name_or k (slice_get c.programs k))
  name_field k small = by (slice_get c.programs k) refl
    where
      by : (o : Option Entry) → slice_get c.programs k ≡ o → IsField 32 (name_or k o)
      by None is = let short = digits_few k small in (number_printed k small, omega (arith, short))
      by (Some e) is = let name = (lines.0 k e is).0 in (name_printed e.name name, name_short e.name name)

  asked_field : (asked : Asked) → number_of_asked asked < 2 ^ 64 → IsField 32 (asked_text c asked)
  asked_field (asks.Run mode k) small = name_field k small
  asked_field (asks.Install mode arg_len) small =
      let word = word_few mode in
      let number = digits_few arg_len small in
      let both = length-append (mode_word mode) (32 ∷ decimal arg_len) in
      (spaced_printed (mode_word mode) (decimal arg_len) (mode_printed mode) (number_printed arg_len small), omega (arith, word, number, both))

  call_field : (asked : Asked) (digits bytes : List ℕ) → field_bytes digits ≡ Some bytes → IsFew (number_of_asked asked) bytes → IsField 418 (asked_text c asked ++ 32 ∷ digits)
  call_field asked digits bytes hex few =
      let first = asked_field asked few.0 in
      let last = hex_is digits bytes hex in
      let short = first.1 in
      let long = last.1 in
      let bound = few.1 in
      let both = length-append (asked_text c asked) (32 ∷ digits) in
      (spaced_printed (asked_text c asked) digits first.0 last.0, omega (arith, short, long, bound, both))

  -- PLACE, a call and REPLY behind two bytes
  answered_field : (a b index reply : ℕ) (call : List ℕ) → IsNumber index → IsNumber reply → IsField 418 call → ArePrinted (a ∷ b ∷ []) → IsField 512 ((a ∷ b ∷ []) ++ (decimal index ++ 32 ∷ (call ++ 32 ∷ decimal reply)))
  answered_field a b index reply call small little field letter =
      let place = digits_few index small in
      let last = digits_few reply little in
      let inner = field.1 in
      let back = length-append call (32 ∷ decimal reply) in
      let whole_line = length-append (decimal index) (32 ∷ (call ++ 32 ∷ decimal reply)) in (
        both_printed (a ∷ b ∷ []) (decimal index ++ 32 ∷ (call ++ 32 ∷ decimal reply)) letter
            (spaced_printed (decimal index) (call ++ 32 ∷ decimal reply) (number_printed index small) (spaced_printed call (decimal reply) field.0 (number_printed reply little))),
        omega (arith, place, last, inner, back, whole_line),
      )

  line_field : (asked : Asked) (digits : List ℕ) (said : Said) → AreSmall said → IsField 418 (asked_text c asked ++ 32 ∷ digits) → IsField 512 (line_of c asked digits said)
  line_field (asks.Run mode k) digits (Updated index reply) small field = answered_field 117 32 index reply (asked_text c (asks.Run mode k) ++ 32 ∷ digits) small.0 small.1 field refl
  line_field (asks.Install mode arg_len) digits (Updated index reply) small field = answered_field 105 32 index reply (asked_text c (asks.Install mode arg_len) ++ 32 ∷ digits) small.0 small.1 field refl
  line_field asked digits (Seen point reply) small field = answered_field 114 32 point reply (asked_text c asked ++ 32 ∷ digits) small.0 small.1 field refl
  line_field asked digits Ended small field = let inner = field.1 in (both_printed (101 ∷ 32 ∷ []) (asked_text c asked ++ 32 ∷ digits) refl field.0, omega (arith, inner))

  -- ---- what it says

  is_key : (k : ℕ) → k < 2 ^ 64 → IsKey (key_at c k)
  is_key k small = by (slice_get c.programs k) refl
    where
      by : (o : Option Entry) → slice_get c.programs k ≡ o → IsKey (key_told k o)
      by None is = small
      by (Some e) is = (lines.0 k e is).0

  -- NAME and HEX before what follows
  key_first : (k : ℕ) (digits rest : List ℕ) → (name_or k (slice_get c.programs k) ++ 32 ∷ digits) ++ 32 ∷ rest ≡ key_text (key_at c k) ++ 32 ∷ (digits ++ 32 ∷ rest)
  key_first k digits rest =
      append_assoc (name_or k (slice_get c.programs k)) (32 ∷ digits) (32 ∷ rest)
      ∙ ap (λ name. name ++ 32 ∷ (digits ++ 32 ∷ rest)) (same_key k (slice_get c.programs k))

  -- MODE, ARGLEN and HEX
  mode_first : (mode : Mode) (arg_len : ℕ) (rest : List ℕ) → (mode_word mode ++ 32 ∷ decimal arg_len) ++ 32 ∷ rest ≡ mode_word mode ++ 32 ∷ (decimal arg_len ++ 32 ∷ rest)
  mode_first mode arg_len rest = append_assoc (mode_word mode) (32 ∷ decimal arg_len) (32 ∷ rest)

  spells : (asked : Asked) (digits bytes : List ℕ) (said : Said) → field_bytes digits ≡ Some bytes → number_of_asked asked < 2 ^ 64 → AreSmall said → suits (told_as asked) said ≡ true
      → SpellsTold (told_meaning c asked bytes said) (line_of c asked digits said)
  spells (asks.Run Update k) digits bytes (Updated index reply) hex small told fit =
      ((digits, ap (λ t. 117 ∷ 32 ∷ (decimal index ++ 32 ∷ t)) (key_first k digits (decimal reply)), is_key k small, hex), told.0, told.1)
  spells (asks.Run Update k) digits bytes (Seen point reply) hex small told fit = absurd cc
  spells (asks.Run Update k) digits bytes Ended hex small told fit =
      (digits, ap (λ name. 101 ∷ 32 ∷ (name ++ 32 ∷ digits)) (same_key k (slice_get c.programs k)), is_key k small, hex)
  spells (asks.Run Read k) digits bytes (Updated index reply) hex small told fit = absurd cc
  spells (asks.Run Read k) digits bytes (Seen point reply) hex small told fit =
      ((digits, ap (λ t. 114 ∷ 32 ∷ (decimal point ++ 32 ∷ t)) (key_first k digits (decimal reply)), is_key k small, hex), told.0, told.1)
  spells (asks.Run Read k) digits bytes Ended hex small told fit = absurd cc
  spells (asks.Install mode arg_len) digits bytes (Updated index reply) hex small told fit = (
    (
      digits,
      ap (λ t. 105 ∷ 32 ∷ (decimal index ++ 32 ∷ t))
          (append_assoc (mode_word mode ++ 32 ∷ decimal arg_len) (32 ∷ digits) (32 ∷ decimal reply) ∙ mode_first mode arg_len (digits ++ 32 ∷ decimal reply)),
      small,
      hex,
    ),
    told.0,
    told.1,
  )
  spells (asks.Install mode arg_len) digits bytes (Seen point reply) hex small told fit = absurd cc
  spells (asks.Install mode arg_len) digits bytes Ended hex small told fit = (digits, ap (λ t. 101 ∷ 32 ∷ t) (mode_first mode arg_len digits), small, hex)

  -- the line is printed bytes, and read as what was told
  abbrev pub IsReadBack : Asked → List ℕ → List ℕ → Said → Type 0
  IsReadBack asked digits bytes said = ArePrinted (line_of c asked digits said) × (transcript_line_meaning (line_of c asked digits said) ≡ Some (told_meaning c asked bytes said))

  pub read_back : (asked : Asked) (digits bytes : List ℕ) (said : Said) → field_bytes digits ≡ Some bytes → asked_refusal c asked bytes ≡ None → AreSmall said → suits (told_as asked) said ≡ true → IsReadBack asked digits bytes said
  read_back asked digits bytes said hex free small fit =
      let few = few_asked asked bytes (asked_operation asked bytes free (asked_bytes asked digits bytes hex)) in
      let field = line_field asked digits said small (call_field asked digits bytes hex few) in
      (field.0, respelled (line_of c asked digits said) (told_meaning c asked bytes said) field.1 (spells asked digits bytes said hex few.0 small fit))

  -- ---- the operation that it names

  pub call_is : (mode : Mode) (k : ℕ) (bytes : List ℕ) → early_refusal c mode k bytes ≡ None → operation_of c mode (keyed c k bytes) ≡ Some (operations.Run (record { program = k; argument = bytes }))
  call_is mode k bytes free =
      ap (option_and_then (λ n. unless_barred (operations.Run (record { program = n; argument = bytes })) (early_refusal c mode n bytes))) (told_number k)
      ∙ ap (unless_barred (operations.Run (record { program = k; argument = bytes }))) free
