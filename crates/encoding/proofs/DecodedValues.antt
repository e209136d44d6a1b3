-- The values of an entry, and the argument that they make.
use Rattle.std.proofs.Common.{◌≡◌, ℕ, ◌+◌, ◌<◌, ◌≤◌, cond, ltb, List, [], ◌∷◌, ◌++◌, length, take, drop, Option, Some, None, Ok, refl, sym, ap, ◌∙◌, subst, append-nil, append_assoc, length-append, arith}
use Rattle.std.specs.Prelude.{option_map}
use Rattle.std.proofs.lemmas.Bool.{ltb-false, le-ltb, lt-ltb}
use Rattle.std.proofs.lemmas.List.{length-take-le, take-append-drop}
use Rattle.hex.specs.Hex.{IsBytes}
use Rattle.text.specs.Fields.{cut_at}
use Rattle.text.proofs.Export.{unless}
use Rattle.encoding.specs.declared.arguments.TheConstants.{ARGUMENT_BYTES}
use Rattle.encoding.specs.declared.kinds.Kind.{Kind}
use Rattle.encoding.specs.declared.kinds.Kind.TheVariants as kinds
use Rattle.encoding.specs.declared.layouts.Part.{Part}
use Rattle.encoding.specs.Decoded.{field_text, part_kind, part_size, value_text, values_of}
use Rattle.encoding.specs.DecodeLaws.{AreValuesOf, ValuesAreEncoded, ValuesAreOfTheirBytes}
use Rattle.encoding.specs.Encoded.{◌>>=◌, added, argument_from, parts_of, value_of}
use Rattle.encoding.specs.Values.{kind_name}
use Rattle.encoding.proofs.ArgumentBytes.{are_from, are_taken, are_to}
use Rattle.encoding.proofs.PartValues.{is_value, named, part_spelled}

-- ---- the values of parts

pub mapped : {A B : Type 0} (f : A → B) (o : Option A) (b : B) → option_map f o ≡ Some b → (a : A) × (o ≡ Some a) × (f a ≡ b)
mapped f None b h = absurd cc
mapped f (Some a) b h = (a, refl, cc)

-- the values of the first part and of those behind it
record Cut (p : Part) (ps : List Part) (bytes : List ℕ) (values : List (List ℕ)) : Type 0 where
  rest : List (List ℕ)
  room : part_size p ≤ length bytes
  behind : values_of ps (drop (part_size p) bytes) ≡ Some rest
  is : value_text p (take (part_size p) bytes) ∷ rest ≡ values

cut : (p : Part) (ps : List Part) (bytes : List ℕ) (values : List (List ℕ)) → values_of (p ∷ ps) bytes ≡ Some values → Cut p ps bytes values
unfolding values_of
cut p ps bytes values h =
    let parts = unless (ltb (length bytes) (part_size p)) _ values h in
    let more = mapped (λ vs. value_text p (take (part_size p) bytes) ∷ vs) (values_of ps (drop (part_size p) bytes)) values parts.1 in
    record { rest = more.0; room = ltb-false (length bytes) (part_size p) parts.0; behind = more.1; is = more.2 }

none_left : (bytes : List ℕ) (values : List (List ℕ)) → values_of [] bytes ≡ Some values → (bytes ≡ []) × (values ≡ [])
unfolding values_of
none_left [] values h = let same : [] ≡ values = cc in (refl, sym same)
none_left (b ∷ bytes) values h = absurd cc

first_bytes : (n : ℕ) (bytes : List ℕ) → IsBytes bytes → IsBytes (take n bytes)
first_bytes n bytes h = are_to (take n bytes) (are_taken n bytes (are_from bytes h)).0

bytes_behind : (n : ℕ) (bytes : List ℕ) → IsBytes bytes → IsBytes (drop n bytes)
bytes_behind n bytes h = are_to (drop n bytes) (are_taken n bytes (are_from bytes h)).1

pub values_are_of_their_bytes : ValuesAreOfTheirBytes
values_are_of_their_bytes [] bytes values h e =
    let none = none_left bytes values e in
    subst (λ vs. AreValuesOf bytes vs) (sym none.1) (record { cuts = []; each = tt; joined = sym none.0 })
values_are_of_their_bytes (p ∷ ps) bytes values h e =
    let c = cut p ps bytes values e in
    let n = part_size p in
    let rest = values_are_of_their_bytes ps (drop n bytes) c.rest (bytes_behind n bytes h) c.behind in
    subst (λ vs. AreValuesOf bytes vs) c.is (record {
      cuts = take n bytes ∷ rest.cuts;
      each = (is_value p (take n bytes) (length-take-le n bytes c.room) (first_bytes n bytes h), rest.each);
      joined = ap (λ t. take n bytes ++ t) rest.joined ∙ take-append-drop n bytes;
    })

-- ---- the argument that they make

cut_by : {A : Type 0} (n m : ℕ) (x : A) → n < m → cond (ltb n m) (Some x) None ≡ Some x
cut_by n m x lt = ap (λ b. cond b (Some x) None) (lt-ltb n m lt)

name_cut : (k : Kind) (field : List ℕ) → cut_at 58 (kind_name k ++ 58 ∷ field) ≡ Some (kind_name k, field)
name_cut kinds.U8 field = cut_by {A = List ℕ × List ℕ} 2 (length (kind_name kinds.U8 ++ 58 ∷ field)) (kind_name kinds.U8, field) (omega arith)
name_cut kinds.U16 field = cut_by {A = List ℕ × List ℕ} 3 (length (kind_name kinds.U16 ++ 58 ∷ field)) (kind_name kinds.U16, field) (omega arith)
name_cut kinds.U32 field = cut_by {A = List ℕ × List ℕ} 3 (length (kind_name kinds.U32 ++ 58 ∷ field)) (kind_name kinds.U32, field) (omega arith)
name_cut kinds.U64 field = cut_by {A = List ℕ × List ℕ} 3 (length (kind_name kinds.U64 ++ 58 ∷ field)) (kind_name kinds.U64, field) (omega arith)
name_cut kinds.S8 field = cut_by {A = List ℕ × List ℕ} 2 (length (kind_name kinds.S8 ++ 58 ∷ field)) (kind_name kinds.S8, field) (omega arith)
name_cut kinds.S16 field = cut_by {A = List ℕ × List ℕ} 3 (length (kind_name kinds.S16 ++ 58 ∷ field)) (kind_name kinds.S16, field) (omega arith)
name_cut kinds.S32 field = cut_by {A = List ℕ × List ℕ} 3 (length (kind_name kinds.S32 ++ 58 ∷ field)) (kind_name kinds.S32, field) (omega arith)
name_cut kinds.S64 field = cut_by {A = List ℕ × List ℕ} 3 (length (kind_name kinds.S64 ++ 58 ∷ field)) (kind_name kinds.S64, field) (omega arith)
name_cut kinds.Str field = cut_by {A = List ℕ × List ℕ} 3 (length (kind_name kinds.Str ++ 58 ∷ field)) (kind_name kinds.Str, field) (omega arith)
name_cut kinds.Hex field = cut_by {A = List ℕ × List ℕ} 3 (length (kind_name kinds.Hex ++ 58 ∷ field)) (kind_name kinds.Hex, field) (omega arith)

value_read : (column : ℕ) (p : Part) (bs : List ℕ) → length bs ≡ part_size p → IsBytes bs → value_of column (value_text p bs) ≡ Ok bs
unfolding value_of parts_of
value_read column p bs long h = rw (name_cut (part_kind p) (field_text p bs), named (part_kind p), part_spelled p bs long h) refl

one_added : (column : ℕ) (so_far : List ℕ) (p : Part) (bs : List ℕ) → length bs ≡ part_size p → IsBytes bs → length so_far + length bs ≤ ARGUMENT_BYTES
    → added column so_far (value_text p bs) ≡ Ok (so_far ++ bs)
unfolding added
one_added column so_far p bs long h few = rw (value_read column p bs long h, le-ltb ARGUMENT_BYTES (length so_far + length bs) few) refl

all_added : (column : ℕ) (so_far : List ℕ) (ps : List Part) (bytes : List ℕ) (values : List (List ℕ)) → IsBytes bytes
    → length so_far + length bytes ≤ ARGUMENT_BYTES → values_of ps bytes ≡ Some values → argument_from column so_far values ≡ Ok (so_far ++ bytes)
unfolding argument_from
all_added column so_far [] bytes values h few e =
    let none = none_left bytes values e in
    rw (none.1, none.0) (ap Ok (sym (append-nil so_far)))
all_added column so_far (p ∷ ps) bytes values h few e =
    let c = cut p ps bytes values e in
    let n = part_size p in
    let first = take n bytes in
    let rest = drop n bytes in
    let whole : first ++ rest ≡ bytes = take-append-drop n bytes in
    let long : length first ≡ n = length-take-le n bytes c.room in
    let sum : length first + length rest ≡ length bytes = sym (length-append first rest) ∙ ap length whole in
    let room : length so_far + length first ≤ ARGUMENT_BYTES = omega (arith, few, sum) in
    let joined : length (so_far ++ first) ≡ length so_far + length first = length-append so_far first in
    let more : length (so_far ++ first) + length rest ≤ ARGUMENT_BYTES = omega (arith, few, sum, joined) in
    let word = value_text p first in
    let one = one_added column so_far p first long (first_bytes n bytes h) room in
    let later = all_added (column + length word + 1) (so_far ++ first) ps rest c.rest (bytes_behind n bytes h) more c.behind in
    subst (λ vs. argument_from column so_far vs ≡ Ok (so_far ++ bytes)) c.is
    (ap (λ r. r >>= (λ m. argument_from (column + length word + 1) m c.rest)) one ∙ later
    ∙ ap Ok (append_assoc so_far first rest ∙ ap (λ t. so_far ++ t) whole))

pub values_are_encoded : ValuesAreEncoded
values_are_encoded column parts bytes values h few e = all_added column [] parts bytes values h (omega (arith, few)) e
