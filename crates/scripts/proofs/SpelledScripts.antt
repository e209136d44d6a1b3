-- A line of a script says what it spells.
use Rattle.std.proofs.Common.{◌≡◌, ◌⊎◌, inl, inr, ℕ, ◌≤◌, Bool, true, false, eqb, List, [], ◌∷◌, ◌++◌, length, codes, bytes_eq, decimal, Option, Some, None, refl, sym, ap, subst, ◌∙◌, arith}
use Rattle.std.specs.Prelude.{option_map, if◌then◌else◌}
use Rattle.std.specs.Option.{option_or}
use Rattle.std.specs.List.{list_all}
use Rattle.std.proofs.lemmas.Bool.{and_parts, false≢true}
use Rattle.std.proofs.lemmas.Bool.Decides.{nat_tests}
use Rattle.std.proofs.lemmas.Option.{same_Some, cond_some}
use Rattle.text.specs.declared.lines.TheConstants.{LINE_BYTES}
use Rattle.text.specs.Fields.{has_no_space, split_at_space}
use Rattle.text.specs.Words.{is_lower, is_name_byte, is_name, number_of}
use Rattle.text.specs.Digits.{field_bytes}
use Rattle.text.proofs.Export.{IsSilent, by_kind_from, by_words, by_hash, by_empty, steps, split_from, split_to}
use Rattle.loader.specs.Spelling.{mode_word}
use Rattle.loader.proofs.Export.{word_is, no_space_in_name, no_space_in_number}
use Rattle.oplog.specs.Calls.{Call as NumberedCall}
use Rattle.scripts.specs.Script.{ProgramCall, Meaning, Comment, Call, InvokeAt, ReadAt, Install, named_call, numbered_call, new_program, word_meaning, call_meaning, line_meaning}
use Rattle.scripts.specs.LineSpelling.{IsNumber, SpellsBytes, Spells, EachLineIsItsSpelling}
use Rattle.scripts.proofs.Fields.{new_from, new_to, number_from, number_to, two_no_bytes}
use Rattle.encoding.proofs.Export.{mapped}

-- ---- by words

-- what is said where a word is this, or else
pub by_word : {M : Type 0} (word w : List ℕ) (x y : Option M) (m : M) → (if bytes_eq word w then x else y) ≡ Some m → ((word ≡ w) × (x ≡ Some m)) ⊎ (y ≡ Some m)
by_word {M} word w x y m e = by (bytes_eq word w) e (word_is word w)
  where
    by : (b : Bool) → (if b then x else y) ≡ Some m → (b ≡ true → word ≡ w) → ((word ≡ w) × (x ≡ Some m)) ⊎ (y ≡ Some m)
    by true e is = inl (is refl, e)
    by false e is = inr e

-- ---- read

named_from : (name digits : List ℕ) (call : ProgramCall) → named_call name digits ≡ Some call → (name ≡ call.name) × (is_name call.name ≡ true) × SpellsBytes call.argument digits
unfolding named_call
named_from name digits call e =
    let argument = steps (field_bytes digits) _ call e in
    let last = cond_some (is_name name) (record { name = name; argument = argument.0 }) call argument.2 in
    subst (λ (c : ProgramCall). (name ≡ c.name) × (is_name c.name ≡ true) × SpellsBytes c.argument digits) last.1 (refl, last.0, argument.1)

numbered_from : (t : List ℕ) (call : NumberedCall) → numbered_call t ≡ Some call
    → (digits : List ℕ) × (t ≡ decimal call.program ++ 32 ∷ digits) × IsNumber call.program × SpellsBytes call.argument digits
unfolding numbered_call
numbered_from t call e =
    let field = steps (split_at_space t) _ call e in
    let program = steps (number_of field.0.0) _ call field.2 in
    let argument = steps (field_bytes field.0.1) _ call program.2 in
    let number = number_from field.0.0 program.0 program.1 in
    subst (λ (c : NumberedCall). (digits : List ℕ) × (t ≡ decimal c.program ++ 32 ∷ digits) × IsNumber c.program × SpellsBytes c.argument digits) (same_Some _ call argument.2)
    (field.0.1, split_from t field.0 field.1 ∙ ap (λ w. w ++ 32 ∷ field.0.1) number.0, number.1, argument.1)

word_from : (word rest : List ℕ) (m : Meaning) → word_meaning word rest ≡ Some m → Spells m (word ++ 32 ∷ rest)
word_from word rest m e =
    elim (by_word word (codes "invoke") _ _ m e) [
      | inl h ↦
          let x = mapped InvokeAt (numbered_call rest) m h.1 in
          let read = numbered_from rest x.0 x.1 in
          subst (λ said. Spells said (word ++ 32 ∷ rest)) x.2 (read.0, (λ i. h.0 i ++ 32 ∷ read.1 i), read.2, read.3)
      | inr e2 ↦
          elim (by_word word (codes "read") _ _ m e2) [
            | inl h ↦
                let x = mapped ReadAt (numbered_call rest) m h.1 in
                let read = numbered_from rest x.0 x.1 in
                subst (λ said. Spells said (word ++ 32 ∷ rest)) x.2 (read.0, (λ i. h.0 i ++ 32 ∷ read.1 i), read.2, read.3)
            | inr e3 ↦
                elim (by_word word (codes "install") _ _ m e3) [
                  | inl h ↦
                      let x = mapped Install (new_program rest) m h.1 in
                      let read = new_from rest x.0 x.1 in
                      subst (λ said. Spells said (word ++ 32 ∷ rest)) x.2 (read.0, (λ i. h.0 i ++ 32 ∷ read.1 i), read.2, read.3)
                  | inr none ↦ absurd cc
                ]
          ]
    ]

call_from : (line : List ℕ) (m : Meaning) → call_meaning line ≡ Some m → Spells m line
unfolding call_meaning
call_from line m e =
    let field = steps (split_at_space line) _ m e in
    by field.0.0 field.0.1 (named_call field.0.0 field.0.1) refl field.2 (split_from line field.0 field.1)
  where
    by : (word rest : List ℕ) (o : Option ProgramCall) → named_call word rest ≡ o → option_or (option_map Call o) (word_meaning word rest) ≡ Some m → line ≡ word ++ 32 ∷ rest → Spells m line
    by word rest (Some call) is f whole =
        let read = named_from word rest call is in
        subst (λ said. Spells said line) (same_Some (Call call) m f) (rest, whole ∙ ap (λ w. w ++ 32 ∷ rest) read.0, read.1, read.2)
    by word rest None is f whole = subst (λ l. Spells m l) (sym whole) (word_from word rest m f)

pub spelled : (line : List ℕ) (m : Meaning) → line_meaning line ≡ Some m → (length line ≤ LINE_BYTES) × Spells m line
unfolding line_meaning
spelled line m e = let read = by_kind_from Comment (call_meaning line) line m e in (read.0, by read.1)
  where
    by : (IsSilent line × (Comment ≡ m)) ⊎ (call_meaning line ≡ Some m) → Spells m line
    by (inl silent) = subst (λ said. Spells said line) silent.1 silent.0
    by (inr words) = call_from line m words

-- ---- spelled

-- a name begins with a letter
name_starts : (t : List ℕ) → is_name t ≡ true → (c : ℕ) × (cs : List ℕ) × (t ≡ c ∷ cs) × (eqb c 35 ≡ false)
unfolding is_name
name_starts [] h = absurd (false≢true h)
name_starts (c ∷ cs) h =
    let front = and_parts _ (list_all is_name_byte (c ∷ cs)) h in
    let letter = and_parts _ (is_lower c) front.0 in
    (c, cs, refl, no_hash c letter.1)
  where
    no_hash : (c : ℕ) → is_lower c ≡ true → eqb c 35 ≡ false
    no_hash c h = grind (arith, nat_tests)

of_words : (c : ℕ) (cs : List ℕ) (m : Meaning) → length (c ∷ cs) ≤ LINE_BYTES → eqb c 35 ≡ false → call_meaning (c ∷ cs) ≡ Some m → line_meaning (c ∷ cs) ≡ Some m
unfolding line_meaning
of_words c cs m le other e = by_words Comment (call_meaning (c ∷ cs)) c cs le other ∙ e

comment_to : (cs : List ℕ) → length (35 ∷ cs) ≤ LINE_BYTES → line_meaning (35 ∷ cs) ≡ Some Comment
unfolding line_meaning
comment_to cs le = by_hash Comment (call_meaning (35 ∷ cs)) cs le

empty_to : line_meaning [] ≡ Some Comment
unfolding line_meaning
empty_to = by_empty Comment (call_meaning [])

call_to : (call : ProgramCall) (digits : List ℕ) → is_name call.name ≡ true → SpellsBytes call.argument digits → call_meaning (call.name ++ 32 ∷ digits) ≡ Some (Call call)
unfolding call_meaning named_call
call_to call digits name bytes = rw (split_to call.name digits (no_space_in_name call.name name), bytes, name) refl

word_to : (word rest : List ℕ) (m : Meaning) → has_no_space word ≡ true → field_bytes rest ≡ None → word_meaning word rest ≡ Some m → call_meaning (word ++ 32 ∷ rest) ≡ Some m
unfolding call_meaning named_call
word_to word rest m plain none e = rw (split_to word rest plain, none) e

numbered_to : (call : NumberedCall) (digits : List ℕ) → IsNumber call.program → SpellsBytes call.argument digits → numbered_call (decimal call.program ++ 32 ∷ digits) ≡ Some call
unfolding numbered_call
numbered_to call digits lt bytes = rw (split_to (decimal call.program) digits (no_space_in_number call.program lt), number_to call.program lt, bytes) refl

named_line : (call : ProgramCall) (digits line : List ℕ) → line ≡ call.name ++ 32 ∷ digits → is_name call.name ≡ true → SpellsBytes call.argument digits → length line ≤ LINE_BYTES → line_meaning line ≡ Some (Call call)
named_line call digits line whole name bytes le =
    let first = name_starts call.name name in
    let same : line ≡ first.0 ∷ (first.1 ++ 32 ∷ digits) = whole ∙ ap (λ w. w ++ 32 ∷ digits) first.2 in
    let said : call_meaning (first.0 ∷ (first.1 ++ 32 ∷ digits)) ≡ Some (Call call) = ap call_meaning (sym (ap (λ w. w ++ 32 ∷ digits) first.2)) ∙ call_to call digits name bytes in
    ap line_meaning same ∙ of_words first.0 (first.1 ++ 32 ∷ digits) (Call call) (subst (λ l. length l ≤ LINE_BYTES) same le) first.3 said

pub respelled : (line : List ℕ) (m : Meaning) → length line ≤ LINE_BYTES → Spells m line → line_meaning line ≡ Some m
respelled line Comment le (inl empty) = subst (λ l. line_meaning l ≡ Some Comment) (sym empty) empty_to
respelled line Comment le (inr (rest, whole)) = subst (λ l. length l ≤ LINE_BYTES → line_meaning l ≡ Some Comment) (sym whole) (comment_to rest) le
respelled line (Call call) le h = named_line call h.0 line h.1 h.2 h.3 le
respelled line (InvokeAt call) le h =
    let said = word_to (codes "invoke") (decimal call.program ++ 32 ∷ h.0) (InvokeAt call) refl (two_no_bytes (decimal call.program) h.0) (ap (option_map InvokeAt) (numbered_to call h.0 h.2 h.3)) in
    subst (λ l. length l ≤ LINE_BYTES → line_meaning l ≡ Some (InvokeAt call)) (sym h.1) (λ s. of_words _ _ _ s refl said) le
respelled line (ReadAt call) le h =
    let said = word_to (codes "read") (decimal call.program ++ 32 ∷ h.0) (ReadAt call) refl (two_no_bytes (decimal call.program) h.0) (ap (option_map ReadAt) (numbered_to call h.0 h.2 h.3)) in
    subst (λ l. length l ≤ LINE_BYTES → line_meaning l ≡ Some (ReadAt call)) (sym h.1) (λ s. of_words _ _ _ s refl said) le
respelled line (Install new) le h =
    let said = word_to (codes "install") (mode_word new.mode ++ 32 ∷ (decimal new.arg_len ++ 32 ∷ h.0)) (Install new) refl (two_no_bytes (mode_word new.mode) (decimal new.arg_len ++ 32 ∷ h.0)) (ap (option_map Install) (new_to new h.0 h.2 h.3)) in
    subst (λ l. length l ≤ LINE_BYTES → line_meaning l ≡ Some (Install new)) (sym h.1) (λ s. of_words _ _ _ s refl said) le

pub each_line : EachLineIsItsSpelling
each_line line m = (spelled line m, λ h. respelled line m h.0 h.1)
