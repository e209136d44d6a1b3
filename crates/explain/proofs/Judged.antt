-- What is told of the program of a line, and of its file.
use Rattle.std.proofs.Common.{◌≡◌, ℕ, ◌<◌, Bool, true, false, ◌||◌, List, [], ◌∷◌, ◌++◌, length, Option, Some, None, Result, Ok, Err, refl, sym, ap, subst, ◌∙◌, append_assoc}
use Rattle.std.specs.Prelude.{not, nat_lt, ◌≤◌, codes, is_some}
use Rattle.std.specs.List.{concat}
use Rattle.std.proofs.lemmas.Bool.{ltb-true, le-leb, lt-leb}
use Rattle.std.proofs.lemmas.List.{append-nil}
use Rattle.text.specs.Digits.{spaced_bytes}
use Rattle.insn.specs.declared.instruction.Form.{Form}
use Rattle.insn.specs.declared.decoding.DecodeRefusal.{DecodeRefusal}
use Rattle.insn.specs.Decoded.{decoded}
use Rattle.maps.specs.declared.shapes.Shape.{Shape}
use Rattle.maps.specs.declared.shapes.MapLimits.{MapLimits}
use Rattle.maps.specs.Shapes.{AreShapesSupported}
use Rattle.loader.specs.declared.refusals.LoadFault.{LoadFault}
use Rattle.loader.specs.declared.refusals.LoadFault.TheVariants.{BadLine, BadHex, Decode, TooMany}
use Rattle.loader.specs.Grammar.{ProgramLine}
use Rattle.loader.specs.ProgramFiles.{Files, file_named, bytes_of_hex, instructions_of}
use Rattle.loader.proofs.Export.{shapes_are_ok}
use Rattle.explain.specs.Explanation.{IsWithin}
use Rattle.explain.specs.Listing.{TellsOf}
use Rattle.explain.specs.Manifest.{Above, has_map, has_name, is_full, line_fault, named_words, not_judged, program_in, program_of_text, refused_by, slot_fault, IsJudged, TellsIfAsked, TellsOfFile, TellsOfRead, TellsOfProgram, TellsWhereMap}
use Rattle.explain.specs.Told.{BeginsWith, BeginsIf, Adds}

-- ---- what a file spells

pub no_digits : (text : List ℕ) → spaced_bytes text ≡ None → program_of_text text ≡ Err BadHex
unfolding bytes_of_hex
no_digits text is = rw is refl

pub digits : (text bytes : List ℕ) → spaced_bytes text ≡ Some bytes → program_of_text text ≡ instructions_of bytes
unfolding bytes_of_hex
digits text bytes is = rw is refl

pub no_program : (bytes : List ℕ) (e : DecodeRefusal) → decoded bytes ≡ Err e → instructions_of bytes ≡ Err (Decode e)
unfolding instructions_of
no_program bytes e is = rw is refl

pub a_program : (bytes : List ℕ) (p : List Form) → decoded bytes ≡ Ok p → instructions_of bytes ≡ Ok p
unfolding instructions_of
a_program bytes p is = rw is refl

pub no_file : (files : Files) (name : List ℕ) → file_named files name ≡ None → program_in files name ≡ Err BadLine
no_file files name is = rw is refl

pub a_file : (files : Files) (name text : List ℕ) → file_named files name ≡ Some text
    → program_in files name ≡ program_of_text text
a_file files name text is = rw is refl

-- ---- what is told of it

module _ (n : ℕ) (a : Above) (p : ProgramLine) (old new : List ℕ) where
  -- what is read is this
  pub read_is : (read other : Result (List Form) LoadFault) → read ≡ other → Adds (TellsOfRead n a p other) old new
      → Adds (TellsOfRead n a p read) old new
  read_is read other is told = subst (λ r. Adds (TellsOfRead n a p r) old new) (sym is) told

  pub not_judged_is : (bad : ℕ) (program : List Form) → a.bad_map ≡ Some bad → new ≡ old ++ not_judged n p bad
      → Adds (IsJudged a.bad_map a.shapes n p program) old new
  not_judged_is bad program is put = subst (λ o. Adds (IsJudged o a.shapes n p program) old new) (sym is) (not_judged n p bad, put, refl)

  pub judged_is : (told : List ℕ) (program : List Form) → a.bad_map ≡ None
      → new ≡ old ++ concat (codes "\n" ∷ told ∷ []) → TellsOf n p a.shapes program told
      → Adds (IsJudged a.bad_map a.shapes n p program) old new
  judged_is told program is put tells =
      subst (λ o. Adds (IsJudged o a.shapes n p program) old new) (sym is)
      (codes "\n" ++ told, put ∙ ap (λ t. old ++ (codes "\n" ++ t)) (append-nil told), (told, refl, tells))

  -- the program's file is refused
  pub bad_file : (told : List ℕ) → new ≡ old ++ (refused_by n 2 ++ (named_words p ++ told))
      → Adds (TellsOfRead n a p (Err BadHex)) old new
  bad_file told put = (refused_by n 2 ++ (named_words p ++ told), put, (told, sym (append_assoc (refused_by n 2) (named_words p) told)))

  pub refused_file : (e : DecodeRefusal) (told : List ℕ) → BeginsWith (slot_fault e) told
      → new ≡ old ++ (refused_by n 3 ++ (named_words p ++ told)) → Adds (TellsOfRead n a p (Err (Decode e))) old new
  refused_file e told begins put = (
    refused_by n 3 ++ (named_words p ++ told),
    put,
    (
      begins.0,
      ap (λ t. refused_by n 3 ++ (named_words p ++ t)) begins.1
          ∙ ap (λ t. refused_by n 3 ++ t) (sym (append_assoc (named_words p) (slot_fault e) begins.0))
          ∙ sym (append_assoc (refused_by n 3) (named_words p ++ slot_fault e) begins.0),
    ),
  )

  -- where a map stands above
  pub where_map : (files : Files) → has_map a ≡ true → Adds (TellsOfFile files n a p) old new
      → Adds (TellsWhereMap (has_map a) files n a p) old new
  where_map files has told = subst (λ b. Adds (TellsWhereMap b files n a p) old new) (sym has) told

  -- where it is asked for
  pub if_asked : (files : Files) (asked : Bool) → asked ≡ true → Adds (TellsOfProgram files n a p) old new
      → Adds (TellsIfAsked asked files n a p) old new
  if_asked files asked is told = subst (λ b. Adds (TellsIfAsked b files n a p) old new) (sym is) told

  -- the program's place, number and file
  pub all_told : (files : Files) (now after : List ℕ)
      → Adds (BeginsIf (not (has_map a) || has_name a p.name) (line_fault n BadLine)) old now
      → Adds (BeginsIf (is_full a) (line_fault n TooMany)) now after
      → Adds (TellsWhereMap (has_map a) files n a p) after new → Adds (TellsOfProgram files n a p) old new
  all_told files now after x y z = (
    x.0 ++ (y.0 ++ z.0),
    z.1 ∙ ap (λ t. t ++ z.0) (y.1 ∙ ap (λ t. t ++ y.0) x.1) ∙ append_assoc (old ++ x.0) y.0 z.0 ∙ append_assoc old x.0 (y.0 ++ z.0),
    record { misplaced = x.0; beyond = y.0; own = z.0; place = x.2; number = y.2; file = z.2; whole = refl },
  )

-- ---- how many programs stand above

pub full : (a : Above) → 256 ≤ length a.names → is_full a ≡ true
full a many = le-leb _ _ many

pub not_full : (a : Above) → length a.names < 256 → is_full a ≡ false
not_full a few = lt-leb _ _ few

-- ---- that it can be judged

or_false : (b : Bool) → (b || false) ≡ true → b ≡ true
or_false true e = refl
or_false false e = absurd cc

some_map : (ss : List Shape) (bad : Option ℕ) → bad ≡ None → (nat_lt 0 (length ss) || is_some bad) ≡ true
    → 0 < length ss
some_map ss bad none has =
    let only : (nat_lt 0 (length ss) || false) ≡ true = subst (λ o. (nat_lt 0 (length ss) || is_some o) ≡ true) none has in
    ltb-true 0 (length ss) (or_false _ only)

pub maps_are_ok : (l : MapLimits) (a : Above) → IsWithin l a → has_map a ≡ true → a.bad_map ≡ None
    → AreShapesSupported a.shapes
maps_are_ok l a within has none = shapes_are_ok l a.shapes within.limits_are (some_map a.shapes a.bad_map none has) within.each within.few
