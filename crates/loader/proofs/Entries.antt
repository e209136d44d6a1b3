-- What a line's program is, by the function and by the relation.
use Rattle.std.proofs.Common.{◌≡◌, ◌≤◌, ℕ, List, [], ◌∷◌, map, Option, Some, None, Result, Ok, Err, refl, sym, ap, ap₂, subst, ◌∙◌}
use Rattle.std.specs.List.{AllZip}
use Rattle.text.specs.Digits.{spaced_bytes}
use Rattle.text.proofs.Export.{spaced_are_bytes}
use Rattle.insn.specs.declared.instruction.Form.{Form}
use Rattle.insn.specs.declared.decoding.DecodeRefusal.{DecodeRefusal}
use Rattle.insn.specs.Decoded.{decoded}
use Rattle.insn.specs.Refusal.{AreBytes, Decodes}
use Rattle.insn.proofs.Export.{are_bytes as as_bytes, read_is_spelled, spelled_is_read}
use Rattle.maps.specs.declared.shapes.Shape.{Shape}
use Rattle.maps.specs.Shapes.{AreShapesSupported}
use Rattle.verifier.specs.declared.refusal.Mode.{Mode}
use Rattle.verifier.specs.declared.refusal.Refused.{Refused}
use Rattle.maps.specs.declared.shapes.TheConstants.{MOST_ARG_LEN}
use Rattle.verifier.specs.Signature.{signature}
use Rattle.verifier.specs.Typing.{IsTypable}
use Rattle.verifier.specs.Verdict.{verdict}
use Rattle.verifier.specs.Accepted.{Checked, checked, IsAccepted}
use Rattle.verifier.proofs.Export.{accepted_iff}
use Rattle.loader.specs.declared.refusals.LoadFault.{LoadFault}
use Rattle.loader.specs.Grammar.{ProgramLine}
use Rattle.loader.specs.CatalogueView.{Entry}
use Rattle.loader.specs.ProgramFiles.{◌>>=◌, Files, file_named, or_bad_line, or_bad_hex, or_decode, bytes_of_hex, instructions_of, unless_refused, checked_program, entry_for}
use Rattle.loader.specs.Offers.{IsEntryFor}

-- a step that succeeds comes of two that do
pub steps : {A B : Type 0} (r : Result A LoadFault) (f : A → Result B LoadFault) (b : B) → (r >>= f) ≡ Ok b → (a : A) × (r ≡ Ok a) × (f a ≡ Ok b)
steps (Ok a) f b e = (a, refl, e)
steps (Err why) f b e = absurd cc

found : (o : Option (List ℕ)) (text : List ℕ) → or_bad_line o ≡ Ok text → o ≡ Some text
found None text e = absurd cc
found (Some t) text e = cc

hex_read : (o : Option (List ℕ)) (bytes : List ℕ) → or_bad_hex o ≡ Ok bytes → o ≡ Some bytes
hex_read (Some b) bytes e = cc
hex_read None bytes e = absurd cc

program_read : (r : Result (List Form) DecodeRefusal) (p : List Form) → or_decode r ≡ Ok p → r ≡ Ok p
program_read (Ok a) p e = cc
program_read (Err why) p e = absurd cc

accepted : (c d : Checked) (o : Option Refused) → unless_refused c o ≡ Ok d → (c ≡ d) × (o ≡ None)
accepted c d None e = (cc, refl)
accepted c d (Some why) e = absurd cc

inside : (x y : Entry) (r : Result Entry LoadFault) → r ≡ Ok x → r ≡ Ok y → x ≡ y
inside x y r e f = cc

bytes_from : (text bytes : List ℕ) → bytes_of_hex text ≡ Ok bytes → spaced_bytes text ≡ Some bytes
unfolding bytes_of_hex
bytes_from text bytes e = hex_read (spaced_bytes text) bytes e

are_bytes : (text bytes : List ℕ) → spaced_bytes text ≡ Some bytes → AreBytes bytes
are_bytes text bytes e = as_bytes bytes (spaced_are_bytes text bytes e)

spelled_from : (bytes : List ℕ) (p : List Form) → AreBytes bytes → instructions_of bytes ≡ Ok p → Decodes bytes p
unfolding instructions_of
spelled_from bytes p are e = read_is_spelled bytes p are (program_read (decoded bytes) p e)

-- the program of a text, read and accepted
pub record IsChecked (shapes : List Shape) (arg_len : ℕ) (mode : Mode) (text : List ℕ) (c : Checked) : Type 0 where
  pub bytes : List ℕ
  pub digits : spaced_bytes text ≡ Some bytes
  pub spelled : Decodes bytes c.program
  pub checked_for : c ≡ checked c.program shapes arg_len mode
  pub typable : IsTypable c.program (signature shapes arg_len mode)

checked_from : (shapes : List Shape) (n : ℕ) (mode : Mode) (text : List ℕ) (c : Checked) → checked_program shapes n mode text ≡ Ok c → IsChecked shapes n mode text c
unfolding checked_program
checked_from shapes n mode text c e =
    let bytes = steps (bytes_of_hex text) _ c e in
    let program = steps (instructions_of bytes.0) _ c bytes.2 in
    let last = accepted (checked program.0 shapes n mode) c (verdict program.0 (signature shapes n mode)) program.2 in
    let digits = bytes_from text bytes.0 bytes.1 in
    let spelled = spelled_from bytes.0 program.0 (are_bytes text bytes.0 digits) program.1 in
    let same : program.0 ≡ c.program = ap (λ x. x.program) last.0 in
    record {
      bytes = bytes.0;
      digits = digits;
      spelled = subst (Decodes bytes.0) same spelled;
      checked_for = sym last.0 ∙ ap (λ x. checked x shapes n mode) same;
      typable = subst (λ x. IsTypable x (signature shapes n mode)) same ((accepted_iff program.0 (signature shapes n mode) spelled.each).0 last.1);
    }

checked_to : (shapes : List Shape) (n : ℕ) (mode : Mode) (text : List ℕ) (c : Checked) → IsChecked shapes n mode text c → checked_program shapes n mode text ≡ Ok c
unfolding checked_program bytes_of_hex instructions_of
checked_to shapes n mode text c k =
    let read : decoded k.bytes ≡ Ok c.program = spelled_is_read k.bytes c.program k.spelled in
    let none : verdict c.program (signature shapes n mode) ≡ None = (accepted_iff c.program (signature shapes n mode) k.spelled.each).1 k.typable in
    rw (k.digits, read, none) (ap Ok (sym k.checked_for))

pub entry_from : (fs : Files) (shapes : List Shape) (line : ProgramLine) (e : Entry) → entry_for fs shapes line ≡ Ok e → IsEntryFor fs shapes line e
unfolding entry_for
entry_from fs shapes line e h =
    let first = steps (or_bad_line (file_named fs line.file)) _ e h in
    let second = steps (checked_program shapes line.arg_len line.mode first.0) _ e first.2 in
    let same : record { name = line.name; checked = second.0 } ≡ e = inside _ e _ refl second.2 in
    let c = checked_from shapes line.arg_len line.mode first.0 second.0 second.1 in
    let program : second.0 ≡ e.checked = ap (λ x. x.checked) same in
    record {
      name = sym (ap (λ x. x.name) same);
      bytes = c.bytes;
      file = record { text = first.0; file = found (file_named fs line.file) first.0 first.1; digits = c.digits };
      spelled = subst (λ x. Decodes c.bytes x.program) program c.spelled;
      checked_for = subst (λ x. x ≡ checked x.program shapes line.arg_len line.mode) program c.checked_for;
      typable = subst (λ x. IsTypable x.program (signature shapes line.arg_len line.mode)) program c.typable;
    }

pub entry_to : (fs : Files) (shapes : List Shape) (line : ProgramLine) (e : Entry) → IsEntryFor fs shapes line e → entry_for fs shapes line ≡ Ok e
unfolding entry_for
entry_to fs shapes line e k =
    let c : IsChecked shapes line.arg_len line.mode k.file.text e.checked = record { bytes = k.bytes; digits = k.file.digits; spelled = k.spelled; checked_for = k.checked_for; typable = k.typable } in
    rw (k.file.file, checked_to shapes line.arg_len line.mode k.file.text e.checked c) (ap (λ n. Ok (record { name = n; checked = e.checked })) (sym k.name))

pub entries_from : (fs : Files) (shapes : List Shape) (lines : List ProgramLine) (es : List Entry) → map (entry_for fs shapes) lines ≡ map Ok es → AllZip (IsEntryFor fs shapes) lines es
entries_from fs shapes [] [] h = tt
entries_from fs shapes [] (e ∷ es) h = absurd cc
entries_from fs shapes (l ∷ ls) [] h = absurd cc
entries_from fs shapes (l ∷ ls) (e ∷ es) h =
    let first : entry_for fs shapes l ≡ Ok e = cc in
    let rest : map (entry_for fs shapes) ls ≡ map Ok es = cc in
    (entry_from fs shapes l e first, entries_from fs shapes ls es rest)

pub entries_to : (fs : Files) (shapes : List Shape) (lines : List ProgramLine) (es : List Entry) → AllZip (IsEntryFor fs shapes) lines es → map (entry_for fs shapes) lines ≡ map Ok es
entries_to fs shapes [] [] h = refl
entries_to fs shapes [] (e ∷ es) h = absurd h
entries_to fs shapes (l ∷ ls) [] h = absurd h
entries_to fs shapes (l ∷ ls) (e ∷ es) h = ap₂ ◌∷◌ (entry_to fs shapes l e h.0) (entries_to fs shapes ls es h.1)

-- what is an entry for good maps and an argument within its limit was accepted
pub entry_accepted : (fs : Files) (shapes : List Shape) (line : ProgramLine) (e : Entry) → AreShapesSupported shapes → line.arg_len ≤ MOST_ARG_LEN → IsEntryFor fs shapes line e → IsAccepted e.checked
entry_accepted fs shapes line e good fits k =
    subst IsAccepted (sym k.checked_for)
    (record { typable = k.typable; instructions = k.spelled.each; shapes = good; argument = fits })
