-- A line of the script is the call of its line of the text.
use Rattle.std.proofs.Common.{append_assoc, append-nil, ◌≡◌, inl, inr, ℕ, ◌+◌, ◌-◌, ◌*◌, ◌<◌, ◌≤◌, Bool, true, false, not, cond, eqb, ltb, leb, ◌&&◌, List, [], ◌∷◌, ◌++◌, length, get_or, codes, bytes_eq, Option, Some, None, Result, Ok, Err, refl, sym, ap, ap₂, ◌∙◌, subst, arith, length-append}
use Rattle.std.specs.List.{AllZip, concat, list_all, position_or_len, before_first, after_first}
use Rattle.std.proofs.lemmas.Slice.Eq.{bytes_eq-Decides}
use Rattle.std.proofs.lemmas.Bool.{and_parts, and_from, eqb-true, ne_eqb, ltb-true, le-ltb, ltb-false, leb-true}
use Rattle.std.proofs.lemmas.Bool.Decides.{nat_tests}
use Rattle.std.proofs.lemmas.List.Sums.{split_at_first, passes_at_first}
use Rattle.std.proofs.lemmas.Option.{cond_some}
use Rattle.hex.specs.Hex.{IsBytes, decode_of, encode_lower, lower_digits}
use Rattle.hex.proofs.HexLemmas.{decode_of-encode_lower, length-encode_with}
use Rattle.text.specs.declared.lines.TheConstants.{LINE_BYTES}
use Rattle.text.specs.declared.lines.LineKind.TheVariants as line_kinds
use Rattle.text.specs.declared.words.TheConstants.{NAME_BYTES}
use Rattle.text.specs.Digits.{field_bytes, good}
use Rattle.text.specs.Fields.{cut_at, split_at_space, has_no_space}
use Rattle.text.specs.Lines.{kind_of}
use Rattle.text.specs.Words.{is_name, is_name_byte, is_lower}
use Rattle.text.proofs.Export.{split_from, split_to}
use Rattle.encoding.specs.declared.arguments.TheConstants.{ARGUMENT_BYTES}
use Rattle.encoding.specs.declared.faults.LineFault.{LineFault}
use Rattle.encoding.specs.declared.faults.Wanted.TheVariants as wanted
use Rattle.encoding.specs.Calls.{IsValue, IsNameAndValues, CallsWith, IsCallLine}
use Rattle.encoding.specs.Encoded.{◌>>=◌, or_fault, parts_of, value_of, added, argument_from, digits_of, script_line, named_line, cut_line, call_line}
use Rattle.encoding.specs.Faults.{fault}
use Rattle.encoding.specs.Values.{kind_named, spelled}
use Rattle.encoding.specs.Words.{words_of}

-- ---- steps

bound : {A B : Type 0} (r : Result A LineFault) (f : A → Result B LineFault) (b : B) → (r >>= f) ≡ Ok b → (a : A) × (r ≡ Ok a) × (f a ≡ Ok b)
bound (Ok a) f b h = (a, refl, h)
bound (Err e) f b h = absurd cc

there : {A : Type 0} (why : LineFault) (o : Option A) (a : A) → or_fault why o ≡ Ok a → o ≡ Some a
there why (Some x) a h = let same : x ≡ a = cc in ap Some same
there why None a h = absurd cc

where_room : {A : Type 0} (t : Bool) (why : LineFault) (x a : A) → cond t (Err why) (Ok x) ≡ Ok a → (t ≡ false) × (x ≡ a)
where_room true why x a h = absurd cc
where_room false why x a h = (refl, cc)

where_name : {A : Type 0} (t : Bool) (why : LineFault) (r : Result A LineFault) (a : A) → cond t r (Err why) ≡ Ok a → (t ≡ true) × (r ≡ Ok a)
where_name true why r a h = (refl, h)
where_name false why r a h = absurd cc

-- a text cut at its first colon
colon_from : (t : List ℕ) (x : List ℕ × List ℕ) → cut_at 58 t ≡ Some x → t ≡ x.0 ++ 58 ∷ x.1
colon_from t x e =
    let parts = cond_some (ltb (position_or_len (λ b. eqb b 58) t) (length t)) (before_first (λ b. eqb b 58) t, after_first (λ b. eqb b 58) t) x e in
    let lt : position_or_len (λ b. eqb b 58) t < length t = ltb-true _ _ parts.0 in
    let at : get_or t (position_or_len (λ b. eqb b 58) t) 0 ≡ 58 = eqb-true _ _ (passes_at_first (λ b. eqb b 58) t 0 lt) in
    let whole : t ≡ before_first (λ b. eqb b 58) t ++ 58 ∷ after_first (λ b. eqb b 58) t = split_at_first (λ b. eqb b 58) t 0 lt ∙ ap (λ b. before_first (λ b. eqb b 58) t ++ b ∷ after_first (λ b. eqb b 58) t) at in
    whole ∙ ap₂ (λ u v. u ++ 58 ∷ v) (ap (λ y. y.0) parts.1) (ap (λ y. y.1) parts.1)

-- ---- values

is_value : (column : ℕ) (word bytes : List ℕ) → value_of column word ≡ Ok bytes → IsValue word bytes
unfolding value_of parts_of
is_value column word bytes h =
    let parts = bound (parts_of column word) _ bytes h in
    let cut = bound (or_fault (fault column wanted.Kind) (cut_at 58 word)) _ parts.0 parts.1 in
    let kind = bound (or_fault (fault column wanted.Kind) (kind_named cut.0.0)) _ parts.0 cut.2 in
    let same : (kind.0, cut.0.1) ≡ parts.0 = cc in
    let spells : or_fault (fault (column + (length word - length parts.0.1)) (wanted.Value parts.0.0)) (spelled parts.0.0 parts.0.1) ≡ Ok bytes = parts.2 in
    record {
      kind = kind.0;
      name = cut.0.0;
      field = cut.0.1;
      split = colon_from word cut.0 (there (fault column wanted.Kind) (cut_at 58 word) cut.0 cut.1);
      named = there (fault column wanted.Kind) (kind_named cut.0.0) kind.0 kind.1;
      value = ap (λ p. spelled p.0 p.1) same ∙ there _ (spelled parts.0.0 parts.0.1) bytes spells;
    }

record Argument (words : List (List ℕ)) (so_far argument : List ℕ) : Type 0 where
  parts : List (List ℕ)
  each : AllZip IsValue words parts
  joined : argument ≡ so_far ++ concat parts
  few : length so_far ≤ ARGUMENT_BYTES → length argument ≤ ARGUMENT_BYTES

arguments : (column : ℕ) (so_far : List ℕ) (words : List (List ℕ)) (argument : List ℕ) → argument_from column so_far words ≡ Ok argument → Argument words so_far argument
unfolding argument_from added
arguments column so_far [] argument h =
    let same : so_far ≡ argument = cc in
    record { parts = []; each = tt; joined = sym same ∙ sym (append-nil so_far); few = λ le. subst (λ x. length x ≤ ARGUMENT_BYTES) same le }
arguments column so_far (word ∷ words) argument h =
    let more = bound (added column so_far word) _ argument h in
    let bytes = bound (value_of column word) _ more.0 more.1 in
    let put = where_room (ltb ARGUMENT_BYTES (length so_far + length bytes.0)) (fault column wanted.Room) (so_far ++ bytes.0) more.0 bytes.2 in
    let rest = arguments (column + length word + 1) more.0 words argument more.2 in
    let room : length so_far + length bytes.0 ≤ ARGUMENT_BYTES = ltb-false _ _ put.0 in
    record {
      parts = bytes.0 ∷ rest.parts;
      each = (is_value column word bytes.0 bytes.1, rest.each);
      joined = rest.joined ∙ ap (λ u. u ++ concat rest.parts) (sym put.1) ∙ append_assoc so_far bytes.0 (concat rest.parts);
      few = λ le. rest.few (subst (λ x. length x ≤ ARGUMENT_BYTES) put.1 (let n = length-append so_far bytes.0 in omega (arith, n, room)));
    }

-- ---- a line

record Named (name : List ℕ) (values : List (List ℕ)) (script : List ℕ) : Type 0 where
  good_name : is_name name ≡ true
  argument : List ℕ
  is_argument : Argument values [] argument
  is_line : script ≡ script_line name argument

named : (name : List ℕ) (values : List (List ℕ)) (script : List ℕ) → named_line name values ≡ Ok script → Named name values script
unfolding named_line
named name values script h =
    let good = where_name (is_name name) (fault 1 wanted.Name) (argument_from (length name + 2) [] values >>= (λ argument. Ok (script_line name argument))) script h in
    let argument = bound (argument_from (length name + 2) [] values) (λ argument. Ok (script_line name argument)) script good.1 in
    let line : script_line name argument.0 ≡ script = cc in
    record { good_name = good.0; argument = argument.0; is_argument = arguments (length name + 2) [] values argument.0 argument.1; is_line = sym line }

calls_with : (line name : List ℕ) (values : List (List ℕ)) (script : List ℕ) → IsNameAndValues line name values → Named name values script
    → (name : List ℕ) × (argument : List ℕ) × CallsWith line name argument × (script ≡ script_line name argument)
calls_with line name values script fields n = (
  name,
  n.argument,
  record {
    good_name = n.good_name;
    values = values;
    fields = fields;
    parts = n.is_argument.parts;
    each = n.is_argument.each;
    joined = n.is_argument.joined;
    few = n.is_argument.few (omega arith);
  },
  n.is_line,
)

-- the call of a line
abbrev pub Written : List ℕ → List ℕ → Type 0
Written line script = (name : List ℕ) × (argument : List ℕ) × CallsWith line name argument × (script ≡ script_line name argument)

pub calls_are_written : (line script : List ℕ) → call_line line ≡ Ok script → Written line script
unfolding call_line
calls_are_written line script h = by (split_at_space line) refl h
  where
    by : (o : Option (List ℕ × List ℕ)) → split_at_space line ≡ o → cut_line line o ≡ Ok script → Written line script
    by None cut h = calls_with line line [] script (inl (refl, refl)) (named line [] script h)
    by (Some parts) cut h = calls_with line parts.0 (words_of parts.1) script (inr (parts.1, split_from line parts cut, refl)) (named parts.0 (words_of parts.1) script h)

-- ---- and how it is read

no_space : (name : List ℕ) → list_all is_name_byte name ≡ true → has_no_space name ≡ true
no_space [] h = refl
no_space (c ∷ cs) h =
    let parts = and_parts (is_name_byte c) (list_all is_name_byte cs) h in
    and_from (not (eqb c 32)) (has_no_space cs) (other c parts.0) (no_space cs parts.1)
  where
    other : (c : ℕ) → is_name_byte c ≡ true → not (eqb c 32) ≡ true
    other c h = grind (arith, nat_tests)

pub record NameParts (name : List ℕ) : Type 0 where
  pub some : 0 < length name
  pub short : length name ≤ NAME_BYTES
  pub first : is_lower (get_or name 0 0) ≡ true
  pub each : list_all is_name_byte name ≡ true

pub name_parts : (name : List ℕ) → is_name name ≡ true → NameParts name
unfolding is_name
name_parts name h =
    let a = and_parts (ltb 0 (length name) && leb (length name) NAME_BYTES && is_lower (get_or name 0 0)) (list_all is_name_byte name) h in
    let b = and_parts (ltb 0 (length name) && leb (length name) NAME_BYTES) (is_lower (get_or name 0 0)) a.0 in
    let c = and_parts (ltb 0 (length name)) (leb (length name) NAME_BYTES) b.0 in
    record { some = ltb-true 0 (length name) c.0; short = leb-true (length name) NAME_BYTES c.1; first = b.1; each = a.1 }

digits_length : (argument : List ℕ) → length argument ≤ ARGUMENT_BYTES → length (digits_of argument) ≤ 128
digits_length [] le = omega arith
digits_length (b ∷ bs) le = let n = length-encode_with lower_digits (b ∷ bs) in omega arith

digits_read : (argument : List ℕ) → IsBytes argument → field_bytes (digits_of argument) ≡ Some argument
unfolding field_bytes
digits_read [] are = refl
digits_read (b ∷ bs) are =
    let long : length (encode_lower (b ∷ bs)) ≡ 2 * length (b ∷ bs) = length-encode_with lower_digits (b ∷ bs) in
    let read : good (decode_of (encode_lower (b ∷ bs))) ≡ Some (b ∷ bs) = ap good (decode_of-encode_lower (b ∷ bs) are) in
    by (encode_lower (b ∷ bs)) (bytes_eq (encode_lower (b ∷ bs)) (codes "-")) (bytes_eq-Decides (encode_lower (b ∷ bs)) (codes "-")).0 (ne_eqb (length (encode_lower (b ∷ bs))) 0 (λ e. omega (arith, long, e))) (λ e. omega (arith, long, ap length e)) read
  where
    by : (field : List ℕ) (dash : Bool) → (dash ≡ true → field ≡ codes "-") → eqb (length field) 0 ≡ false → (field ≡ codes "-" → ⊥) → good (decode_of field) ≡ Some (b ∷ bs)
        → cond dash (Some []) (cond (eqb (length field) 0) None (good (decode_of field))) ≡ Some (b ∷ bs)
    by field true is some other read = absurd (other (is refl))
    by field false is some other read = rw some read

words_line : (c : ℕ) (cs : List ℕ) → length (c ∷ cs) ≤ LINE_BYTES → eqb c 35 ≡ false → kind_of (c ∷ cs) ≡ line_kinds.Words
unfolding kind_of
words_line c cs le other =
    let short : ltb LINE_BYTES (length (c ∷ cs)) ≡ false = le-ltb LINE_BYTES (length (c ∷ cs)) le in
    let some : eqb (length (c ∷ cs)) 0 ≡ false = ne_eqb _ _ (λ e. absurd (omega (arith, e))) in
    rw (short, some, other) refl

pub calls_are_read : (name argument : List ℕ) → is_name name ≡ true → IsBytes argument → length argument ≤ ARGUMENT_BYTES → IsCallLine (script_line name argument) name argument
calls_are_read name argument good are few =
    let parts = name_parts name good in
    record {
      kind = by name parts.some parts.short parts.first;
      digits = digits_of argument;
      fields = split_to name (digits_of argument) (no_space name parts.each);
      argument_is = digits_read argument are;
    }
  where
    not_hash : (c : ℕ) → is_lower c ≡ true → eqb c 35 ≡ false
    not_hash c h = grind (arith, nat_tests)

    by : (name : List ℕ) → 0 < length name → length name ≤ NAME_BYTES → is_lower (get_or name 0 0) ≡ true → kind_of (script_line name argument) ≡ line_kinds.Words
    by [] some short first = absurd (omega arith)
    by (c ∷ cs) some short first =
        words_line c (cs ++ 32 ∷ digits_of argument) (let n = length-append cs (32 ∷ digits_of argument) in let d = digits_length argument few in omega arith) (not_hash c first)
