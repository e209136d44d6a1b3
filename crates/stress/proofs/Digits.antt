-- The digits of a line: they spell the bytes of its call.
use Rattle.std.proofs.Common.{◌≡◌, ◌≤◌, ◌||◌, ◌==◌, ℕ, Bool, true, false, List, length, Option, Some, None, refl, sym, ap, subst, slice_index, nat_lt, bytes_eq, codes, []}
use Rattle.std.specs.Prelude.{option_map, if◌then◌else◌}
use Rattle.std.specs.Option.{option_and_then, option_map_or, option_or}
use Rattle.std.proofs.lemmas.Bool.{ltb-false}
use Rattle.verifier.specs.declared.refusal.Mode.{Mode}
use Rattle.text.specs.declared.lines.TheConstants.{LINE_BYTES}
use Rattle.text.specs.declared.lines.LineKind.TheVariants as kinds
use Rattle.text.specs.Lines.{kind_of, by_kind}
use Rattle.text.specs.Fields.{split_at_space}
use Rattle.text.specs.Words.{is_name, number_of}
use Rattle.text.specs.Digits.{field_bytes}
use Rattle.loader.specs.Grammar.{mode_of}
use Rattle.oplog.specs.Calls.{Call as NumberedCall, NewProgram}
use Rattle.scripts.specs.Script.{ProgramCall, Meaning, Comment, Call, InvokeAt, ReadAt, Install, named_call, numbered_call, program_fields, new_program, word_meaning, call_meaning, line_meaning}
use Rattle.stress.specs.Calls.{behind_field}

-- these digits spell these bytes
abbrev pub Spell : List ℕ → List ℕ → Type 0
Spell digits bytes = field_bytes digits ≡ Some bytes

abbrev Fields : Type 0
Fields = List ℕ × List ℕ

abbrev behind : Option Fields → List ℕ
behind o = option_map_or (λ fields. fields.1) o []

named_hex : (name digits : List ℕ) (call : ProgramCall) → named_call name digits ≡ Some call → Spell digits call.argument
unfolding named_call
named_hex name digits call e = by (field_bytes digits) (is_name name) e
  where
    by : (o : Option (List ℕ)) (b : Bool) → option_and_then (λ argument. if b then Some (record { name = name; argument = argument }) else None) o ≡ Some call → o ≡ Some call.argument
    by None b e = absurd cc
    by (Some x) false e = absurd cc
    by (Some x) true e = let same : record { name = name; argument = x } ≡ call = cc in ap (λ (z : ProgramCall). Some z.argument) same

numbered_hex : (text : List ℕ) (call : NumberedCall) → numbered_call text ≡ Some call → Spell (behind_field text) call.argument
unfolding numbered_call
numbered_hex text call e = by (split_at_space text) e
  where
    made : (k : Option ℕ) (o : Option (List ℕ)) → option_and_then (λ program. option_and_then (λ argument. Some (record { program = program; argument = argument })) o) k ≡ Some call → o ≡ Some call.argument
    made None o e = absurd cc
    made (Some k) None e = absurd cc
    made (Some k) (Some x) e = let same : record { program = k; argument = x } ≡ call = cc in ap (λ (z : NumberedCall). Some z.argument) same

    by : (o : Option Fields) → option_and_then (λ f. option_and_then (λ program. option_and_then (λ argument. Some (record { program = program; argument = argument })) (field_bytes f.1)) (number_of f.0)) o ≡ Some call
        → Spell (behind o) call.argument
    by None e = absurd cc
    by (Some f) e = made (number_of f.0) (field_bytes f.1) e

fields_hex : (word length digits : List ℕ) (new : NewProgram) → program_fields word length digits ≡ Some new → Spell digits new.bytes
unfolding program_fields
fields_hex word length digits new e = by (mode_of word) (number_of length) (field_bytes digits) e
  where
    by : (m : Option Mode) (n : Option ℕ) (o : Option (List ℕ)) → option_and_then (λ mode. option_and_then (λ arg_len. option_and_then (λ bytes. Some (record { mode = mode; arg_len = arg_len; bytes = bytes })) o) n) m ≡ Some new → o ≡ Some new.bytes
    by None n o e = absurd cc
    by (Some m) None o e = absurd cc
    by (Some m) (Some n) None e = absurd cc
    by (Some m) (Some n) (Some x) e = let same : record { mode = m; arg_len = n; bytes = x } ≡ new = cc in ap (λ (z : NewProgram). Some z.bytes) same

program_hex : (text : List ℕ) (new : NewProgram) → new_program text ≡ Some new → Spell (behind_field (behind_field text)) new.bytes
unfolding new_program
program_hex text new e = by (split_at_space text) e
  where
    second : (word : List ℕ) (o : Option Fields) → option_and_then (λ g. program_fields word g.0 g.1) o ≡ Some new → Spell (behind o) new.bytes
    second word None e = absurd cc
    second word (Some g) e = fields_hex word g.0 g.1 new e

    by : (o : Option Fields) → option_and_then (λ f. option_and_then (λ g. program_fields f.0 g.0 g.1) (split_at_space f.1)) o ≡ Some new → Spell (behind_field (behind o)) new.bytes
    by None e = absurd cc
    by (Some f) e = second f.0 (split_at_space f.1) e

-- ---- by the words of a line

-- what a first word and the rest mean, by what each of the three would
abbrev by_word : (invoke read install : Bool) → Option NumberedCall → Option NewProgram → Option Meaning
by_word invoke read install n p = if invoke then option_map InvokeAt n else if read then option_map ReadAt n else if install then option_map Install p else None

no_call : (a b c : Bool) (n : Option NumberedCall) (p : Option NewProgram) (call : ProgramCall) → by_word a b c n p ≡ Some (Call call) → ⊥
no_call true b c None p call e = cc
no_call true b c (Some n) p call e = cc
no_call false true c None p call e = cc
no_call false true c (Some n) p call e = cc
no_call false false true n None call e = cc
no_call false false true n (Some p) call e = cc
no_call false false false n p call e = cc

its_invoke : (a b c : Bool) (n : Option NumberedCall) (p : Option NewProgram) (call : NumberedCall) → by_word a b c n p ≡ Some (InvokeAt call) → n ≡ Some call
its_invoke true b c None p call e = absurd cc
its_invoke true b c (Some n) p call e = let same : n ≡ call = cc in ap Some same
its_invoke false true c None p call e = absurd cc
its_invoke false true c (Some n) p call e = absurd cc
its_invoke false false true n None call e = absurd cc
its_invoke false false true n (Some p) call e = absurd cc
its_invoke false false false n p call e = absurd cc

its_read : (a b c : Bool) (n : Option NumberedCall) (p : Option NewProgram) (call : NumberedCall) → by_word a b c n p ≡ Some (ReadAt call) → n ≡ Some call
its_read true b c None p call e = absurd cc
its_read true b c (Some n) p call e = absurd cc
its_read false true c None p call e = absurd cc
its_read false true c (Some n) p call e = let same : n ≡ call = cc in ap Some same
its_read false false true n None call e = absurd cc
its_read false false true n (Some p) call e = absurd cc
its_read false false false n p call e = absurd cc

its_install : (a b c : Bool) (n : Option NumberedCall) (p : Option NewProgram) (new : NewProgram) → by_word a b c n p ≡ Some (Install new) → p ≡ Some new
its_install true b c None p new e = absurd cc
its_install true b c (Some n) p new e = absurd cc
its_install false true c None p new e = absurd cc
its_install false true c (Some n) p new e = absurd cc
its_install false false true n None new e = absurd cc
its_install false false true n (Some p) new e = let same : p ≡ new = cc in ap Some same
its_install false false false n p new e = absurd cc

-- what the fields of a line mean
abbrev fields_meaning : Fields → Option Meaning
fields_meaning f = option_or (option_map Call (named_call f.0 f.1)) (word_meaning f.0 f.1)

module _ (P : List ℕ → Type 0) (m : Meaning) (told : (f : Fields) → fields_meaning f ≡ Some m → P f.1) where
  in_fields : (line : List ℕ) → call_meaning line ≡ Some m → P (behind_field line)
  unfolding call_meaning
  in_fields line e = by (split_at_space line) e
    where
      by : (o : Option Fields) → option_and_then fields_meaning o ≡ Some m → P (behind o)
      by None e = absurd cc
      by (Some f) e = told f e

  -- a line that says something is short
  in_line : (line : List ℕ) → (m ≡ Comment → ⊥) → line_meaning line ≡ Some m → (length line ≤ LINE_BYTES) × P (behind_field line)
  unfolding line_meaning kind_of
  in_line line some e = by (nat_lt LINE_BYTES (length line)) refl (length line == 0 || slice_index line 0 == 35) e
    where
      by : (long : Bool) → nat_lt LINE_BYTES (length line) ≡ long → (quiet : Bool)
          → by_kind Comment (call_meaning line) (if long then kinds.TooLong else if quiet then kinds.Comment else kinds.Words) ≡ Some m → (length line ≤ LINE_BYTES) × P (behind_field line)
      by true is quiet e = absurd cc
      by false is true e = absurd (some (let same : Comment ≡ m = cc in sym same))
      by false is false e = (ltb-false LINE_BYTES (length line) is, in_fields line e)

no_name : (f : Fields) (m : Meaning) → ((call : ProgramCall) → m ≡ Call call → ⊥) → fields_meaning f ≡ Some m → word_meaning f.0 f.1 ≡ Some m
no_name f m not e = by (named_call f.0 f.1) e
  where
    by : (o : Option ProgramCall) → option_or (option_map Call o) (word_meaning f.0 f.1) ≡ Some m → word_meaning f.0 f.1 ≡ Some m
    by None e = e
    by (Some call) e = absurd (not call (let same : Call call ≡ m = cc in sym same))

pub call_hex : (line : List ℕ) (call : ProgramCall) → line_meaning line ≡ Some (Call call) → (length line ≤ LINE_BYTES) × Spell (behind_field line) call.argument
call_hex line call e = in_line (λ d. Spell d call.argument) (Call call) told line (λ same. cc) e
  where
    told : (f : Fields) → fields_meaning f ≡ Some (Call call) → Spell f.1 call.argument
    told f e = by (named_call f.0 f.1) refl e
      where
        by : (o : Option ProgramCall) → named_call f.0 f.1 ≡ o → option_or (option_map Call o) (word_meaning f.0 f.1) ≡ Some (Call call) → Spell f.1 call.argument
        by None is e = absurd (no_call (bytes_eq f.0 (codes "invoke")) (bytes_eq f.0 (codes "read")) (bytes_eq f.0 (codes "install")) (numbered_call f.1) (new_program f.1) call e)
        by (Some x) is e = let same : x ≡ call = cc in named_hex f.0 f.1 call (subst (λ z. named_call f.0 f.1 ≡ Some z) same is)

pub invoke_hex : (line : List ℕ) (call : NumberedCall) → line_meaning line ≡ Some (InvokeAt call) → (length line ≤ LINE_BYTES) × Spell (behind_field (behind_field line)) call.argument
invoke_hex line call e =
    in_line (λ d. Spell (behind_field d) call.argument) (InvokeAt call)
    (λ f e. numbered_hex f.1 call (its_invoke (bytes_eq f.0 (codes "invoke")) (bytes_eq f.0 (codes "read")) (bytes_eq f.0 (codes "install")) (numbered_call f.1) (new_program f.1) call (no_name f (InvokeAt call) (λ x same. cc) e)))
    line (λ same. cc) e

pub read_hex : (line : List ℕ) (call : NumberedCall) → line_meaning line ≡ Some (ReadAt call) → (length line ≤ LINE_BYTES) × Spell (behind_field (behind_field line)) call.argument
read_hex line call e =
    in_line (λ d. Spell (behind_field d) call.argument) (ReadAt call)
    (λ f e. numbered_hex f.1 call (its_read (bytes_eq f.0 (codes "invoke")) (bytes_eq f.0 (codes "read")) (bytes_eq f.0 (codes "install")) (numbered_call f.1) (new_program f.1) call (no_name f (ReadAt call) (λ x same. cc) e)))
    line (λ same. cc) e

pub install_hex : (line : List ℕ) (new : NewProgram) → line_meaning line ≡ Some (Install new) → (length line ≤ LINE_BYTES) × Spell (behind_field (behind_field (behind_field line))) new.bytes
install_hex line new e =
    in_line (λ d. Spell (behind_field (behind_field d)) new.bytes) (Install new)
    (λ f e. program_hex f.1 new (its_install (bytes_eq f.0 (codes "invoke")) (bytes_eq f.0 (codes "read")) (bytes_eq f.0 (codes "install")) (numbered_call f.1) (new_program f.1) new (no_name f (Install new) (λ x same. cc) e)))
    line (λ same. cc) e
