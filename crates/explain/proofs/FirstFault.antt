-- The refusal of the loader stands in what is told of a manifest.
use Rattle.std.proofs.Common.{◌≡◌, ℕ, ◌≤◌, Bool, true, false, cond, eqb, leb, ltb, ◌||◌, List, [], ◌∷◌, ◌++◌, length, Option, Some, None, Result, Ok, Err, refl, sym, ap, subst, ◌∙◌, append_assoc, arith}
use Rattle.std.specs.Prelude.{not, codes, is_some, bytes_eq, is_err, MatchOption, MatchResult}
use Rattle.std.specs.List.{list_any}
use Rattle.std.proofs.lemmas.Bool.{le-leb, lt-leb, ltb-false, ltb-true, ne_eqb}
use Rattle.std.proofs.lemmas.Option.{same_Some}
use Rattle.std.proofs.lemmas.List.{length-map, map-append}
use Rattle.text.specs.Digits.{spaced_bytes}
use Rattle.text.specs.Lines.{lines_of, next_line}
use Rattle.insn.specs.declared.instruction.Form.{Form}
use Rattle.insn.specs.declared.decoding.DecodeRefusal.{DecodeRefusal}
use Rattle.insn.specs.Decoded.{decoded}
use Rattle.maps.specs.declared.shapes.Shape.{Shape}
use Rattle.verifier.specs.declared.refusal.Refused.{Refused}
use Rattle.verifier.specs.Signature.{signature}
use Rattle.verifier.specs.Accepted.{Checked}
use Rattle.verifier.specs.Verdict.{verdict}
use Rattle.maps.specs.declared.shapes.MapLimits.{MapLimits}
use Rattle.loader.specs.declared.refusals.LoadFault.{LoadFault}
use Rattle.loader.specs.declared.refusals.LoadFault.TheVariants.{BadLine, BadHex, Decode, Verify, TooMany}
use Rattle.loader.specs.declared.refusals.LoadRefusal.{LoadRefusal}
use Rattle.loader.specs.Grammar.{ProgramLine, Meaning, Comment, Map, Program, line_meaning}
use Rattle.loader.specs.CatalogueView.{Entry, CatalogueView, names_of}
use Rattle.loader.specs.ProgramFiles.{◌>>=◌, Files, file_named, or_bad_line, or_bad_hex, or_decode, bytes_of_hex, instructions_of, unless_refused, checked_program, entry_for}
use Rattle.loader.specs.Loading.{are_few, is_taken, with_map, with_entry, with_program, after_meaning, after_line, after_lines, either, loaded_within}
use Rattle.loader.proofs.Export.{entry_from, after_map, after_program}
use Rattle.explain.specs.Listing.{head_text, kinds_refusal, refusal_text, IsReason}
use Rattle.explain.specs.Manifest.{Above, nothing_above, has_map, has_name, is_full, is_misplaced, map_fault, with_line, with_shape, refused_by, line_fault, named_words, slot_fault, IsJudged, TellsOfRead, TellsOfFile, TellsWhereMap, TellsOfProgram, TellsOfLine, TellsOfLines, TellsOfAll}
use Rattle.explain.specs.Told.{BeginsWith, BeginsIf}
use Rattle.explain.specs.FirstFault.{HasRead, HasRefusal, RulesAreShared, TellsRefusal, TellsVerdict}
use Rattle.explain.proofs.Judged.{full}
use Rattle.explain.proofs.Lines.{reason_begins}
use Rattle.explain.proofs.MapLines.{taken}

-- ---- texts

begins_sooner : (xs ys text : List ℕ) → BeginsWith (xs ++ ys) text → BeginsWith xs text
begins_sooner xs ys text b = (ys ++ b.0, b.1 ∙ append_assoc xs ys b.0)

begins_in : (words x y text : List ℕ) → text ≡ x ++ y → BeginsWith words x → BeginsWith words text
begins_in words x y text is b = (b.0 ++ y, is ∙ ap (λ t. t ++ y) b.1 ∙ append_assoc words b.0 y)

at_once : (n : ℕ) (why : LoadFault) (text : List ℕ) → TellsRefusal n why text → HasRefusal n why text
at_once n why text tells = ([], text, refl, tells)

behind : (n : ℕ) (why : LoadFault) (front rest text : List ℕ) → text ≡ front ++ rest → HasRefusal n why rest
    → HasRefusal n why text
behind n why front rest text is h = (front ++ h.0, h.1, is ∙ ap (λ t. front ++ t) h.2 ∙ sym (append_assoc front h.0 h.1), h.3)

bad_line_told : (n : ℕ) (text : List ℕ) → BeginsWith (line_fault n BadLine) text → TellsRefusal n BadLine text
bad_line_told n text b = begins_sooner (refused_by n 1) (codes "\n") text b

too_many_told : (n : ℕ) (text : List ℕ) → BeginsWith (line_fault n TooMany) text → TellsRefusal n TooMany text
too_many_told n text b = begins_sooner (refused_by n 5) (codes "\n") text b

-- what tells of it tells of it also with more behind
longer : (n : ℕ) (why : LoadFault) (text rest : List ℕ) → TellsRefusal n why text → TellsRefusal n why (text ++ rest)
longer n BadLine text rest tells = begins_in (refused_by n 1) text rest _ refl tells
longer n BadHex text rest tells = begins_in (refused_by n 2) text rest _ refl tells
longer n (Decode e) text rest tells = begins_in (refused_by n 3) text rest _ refl tells
longer n TooMany text rest tells = begins_in (refused_by n 5) text rest _ refl tells
longer n (Verify e) text rest tells =
    let head = head_text n tells.program in
    let words = refusal_text e in
    record {
      program = tells.program;
      listing = tells.listing;
      more = tells.more ++ rest;
      whole =
          ap (λ t. t ++ rest) tells.whole
          ∙ append_assoc (codes "\n") (head ++ (tells.listing ++ (words ++ tells.more))) rest
          ∙ ap (λ t. codes "\n" ++ t)
          (append_assoc head (tells.listing ++ (words ++ tells.more)) rest
          ∙ ap (λ t. head ++ t) (append_assoc tells.listing (words ++ tells.more) rest ∙ ap (λ t. tells.listing ++ t) (append_assoc words tells.more rest)));
    }

abbrev failed : (A : Type 0) {B : Type 0} → B → Result A B
failed A x = Err x

err_is : {A B : Type 0} (x y : B) → failed A x ≡ Err y → x ≡ y
err_is x y is = cc

-- ---- what explain and the loader keep of the lines above

-- explain and the loader keep the same maps and names, and no map is bad
record Alike (a : Above) (c : CatalogueView) : Type 0 where
  read : HasRead c a
  good : a.bad_map ≡ None

module _ (a : Above) (c : CatalogueView) (k : HasRead c a) where
  same_count : length c.programs ≡ length a.names
  same_count = sym (length-map c.programs (λ e. e.name)) ∙ ap length k.names

  same_name : (name : List ℕ) → is_taken c.programs name ≡ has_name a name
  same_name name = ap (λ ns. list_any (λ m. bytes_eq m name) ns) k.names

  abbrev MapIs : Result CatalogueView LoadFault → Option LoadFault → Type 0
  MapIs r o = MatchResult r (λ _. o ≡ None) (λ why. o ≡ Some why)

  by_tests : (b f : Bool) (w : CatalogueView)
      → MapIs (cond b (Err BadLine) (cond f (Ok w) (Err TooMany))) (cond b (Some BadLine) (cond f None (Some TooMany)))
  by_tests true f w = refl
  by_tests false true w = refl
  by_tests false false w = refl

  -- the loader finds the same fault in a map
  same_map : (limits : MapLimits) (s : Shape) → MapIs (with_map limits c s) (map_fault limits a s)
  unfolding with_map
  same_map limits s =
      let after : CatalogueView = record c { shapes = c.shapes ++ s ∷ [] } in
      subst (λ m. MapIs (with_map limits c s) (cond (ltb 0 m) (Some BadLine) (cond (are_few limits (a.shapes ++ s ∷ [])) None (Some TooMany)))) same_count
      (subst (λ ss. MapIs (with_map limits c s) (cond (ltb 0 (length c.programs)) (Some BadLine) (cond (are_few limits (ss ++ s ∷ [])) None (Some TooMany)))) k.shapes
      (by_tests (ltb 0 (length c.programs)) (are_few limits (c.shapes ++ s ∷ [])) after))

  by_count : (n : ℕ) (w : CatalogueView) → is_err (cond {A = Result CatalogueView LoadFault} (ltb n 256) (Ok w) (Err TooMany)) ≡ leb 256 n
  by_count n w = by (ltb n 256) refl
    where
      by : (b : Bool) → ltb n 256 ≡ b → is_err (cond {A = Result CatalogueView LoadFault} b (Ok w) (Err TooMany)) ≡ leb 256 n
      by true few = sym (lt-leb _ _ (ltb-true _ _ few))
      by false many = sym (le-leb _ _ (ltb-false _ _ many))

  -- and takes one more program unless it is one too many
  same_room : (entry : Entry) → is_err (with_entry c entry) ≡ is_full a
  unfolding with_entry
  same_room entry = by_count (length c.programs) (record c { programs = c.programs ++ entry ∷ [] }) ∙ ap (λ n. leb 256 n) same_count

pub rules_are_shared : RulesAreShared
rules_are_shared limits a c k = record { map = same_map a c k limits; name = same_name a c k; room = same_room a c k }

module _ (a : Above) (c : CatalogueView) (k : Alike a c) where
  none_is : (ss : List Shape) → not (ltb 0 (length ss) || false) ≡ eqb (length ss) 0
  none_is [] = refl
  none_is (s ∷ ss) =
      let some : ltb 0 (length (s ∷ ss)) ≡ true = le-leb 1 _ (omega arith) in
      let other : eqb (length (s ∷ ss)) 0 ≡ false = ne_eqb _ _ (λ e. absurd (omega (arith, e))) in
      rw (some, other) refl

  no_map_is : not (has_map a) ≡ eqb (length c.shapes) 0
  no_map_is = ap (λ o. not (ltb 0 (length a.shapes) || is_some o)) k.good ∙ ap (λ ss. not (ltb 0 (length ss) || false)) (sym k.read.shapes) ∙ none_is c.shapes

  same_place : (name : List ℕ) → is_misplaced a name ≡ (eqb (length c.shapes) 0 || is_taken c.programs name)
  same_place name = ap (λ b. b || has_name a name) no_map_is ∙ ap (λ b. eqb (length c.shapes) 0 || b) (sym (same_name a c k.read name))

-- ---- a map

-- what is told of a map that has a fault
fault_told : (n : ℕ) (why : LoadFault) (text : List ℕ) (b f : Bool)
    → cond b (Some BadLine) (cond f None (Some TooMany)) ≡ Some why → BeginsIf true (line_fault n why) text
    → TellsRefusal n why text
fault_told n why text true f is told = subst (λ w. BeginsIf true (line_fault n w) text → TellsRefusal n w text) (same_Some _ _ is) (bad_line_told n text) told
fault_told n why text false true is told = absurd cc
fault_told n why text false false is told = subst (λ w. BeginsIf true (line_fault n w) text → TellsRefusal n w text) (same_Some _ _ is) (too_many_told n text) told

map_refused : (limits : MapLimits) (a : Above) (c : CatalogueView) (s : Shape) (n : ℕ) (why : LoadFault) (text : List ℕ) → Alike a c → with_map limits c s ≡ Err why
    → MatchOption (map_fault limits a s) (text ≡ []) (λ w. BeginsIf true (line_fault n w) text)
    → TellsRefusal n why text
map_refused limits a c s n why text k is told =
    let fault : map_fault limits a s ≡ Some why = subst (λ r. MatchResult r (λ _. map_fault limits a s ≡ None) (λ w. map_fault limits a s ≡ Some w)) is (same_map a c k.read limits s) in
    fault_told n why text (ltb 0 (length a.names)) (are_few limits (a.shapes ++ s ∷ [])) fault (subst (λ o. MatchOption o (text ≡ []) (λ w. BeginsIf true (line_fault n w) text)) fault told)

map_kept : (limits : MapLimits) (a : Above) (c w : CatalogueView) (s : Shape) (n : ℕ) → Alike a c
    → with_map limits c s ≡ Ok w → Alike (with_shape n a s (map_fault limits a s)) w
map_kept limits a c w s n k is =
    let after = after_map limits c s w is in
    let none : length a.names ≡ 0 = sym (same_count a c k.read) ∙ ap length after.0 in
    let few : are_few limits (a.shapes ++ s ∷ []) ≡ true = ap (λ ss. are_few limits (ss ++ s ∷ [])) (sym k.read.shapes) ∙ after.1 in
    subst (λ r. Alike (with_shape n a s r) w) (sym (taken limits a s none few))
    (record {
      read = record { shapes = ap (λ x. x.shapes) (sym after.2) ∙ ap (λ ss. ss ++ s ∷ []) k.read.shapes; names = ap (λ x. names_of x.programs) (sym after.2) ∙ k.read.names };
      good = k.good;
    })

-- ---- a program

program_kept : (files : Files) (a : Above) (c w : CatalogueView) (p : ProgramLine) → Alike a c → with_program files c p ≡ Ok w → Alike (record a { names = a.names ++ p.name ∷ [] }) w
program_kept files a c w p k is =
    let after = after_program files c p w is in
    let entry = entry_from files c.shapes p after.entry after.read in
    let names =
    ap (λ x. names_of x.programs) (sym after.same) ∙ map-append (λ e. e.name) c.programs (after.entry ∷ []) ∙ ap (λ ns. ns ++ after.entry.name ∷ []) k.read.names
    ∙ ap (λ m. a.names ++ m ∷ []) entry.name in
    record { read = record { shapes = ap (λ x. x.shapes) (sym after.same) ∙ k.read.shapes; names = names }; good = k.good }

module _ (n : ℕ) (a : Above) (p : ProgramLine) (own : List ℕ) (good : a.bad_map ≡ None) (f : Checked → Entry) (w : LoadFault) where
  by_verdict : (v : Option Refused) (ch : Checked) (program : List Form)
      → verdict program (signature a.shapes p.arg_len p.mode) ≡ v → (unless_refused ch v >>= λ x. Ok (f x)) ≡ Err w
      → IsJudged None a.shapes n p program own → TellsRefusal n w own
  by_verdict None ch program was is told = absurd cc
  by_verdict (Some e) ch program was is told =
      let tells = told.2.2 in
      let reason : BeginsWith (refusal_text e) tells.reason = reason_begins _ e tells.reason (subst (λ v. IsReason (kinds_refusal program (signature a.shapes p.arg_len p.mode)) v tells.reason) was tells.refuses) in
      let verdict_told : TellsVerdict n e own =
      record {
        program = p;
        listing = tells.listing;
        more = reason.0;
        whole = told.1 ∙ ap (λ t. codes "\n" ++ t) (told.2.1 ∙ ap (λ t. head_text n p ++ t) (tells.whole ∙ ap (λ t. tells.listing ++ t) reason.1));
      } in
      subst (λ x. TellsRefusal n x own) (err_is (Verify e) w is) verdict_told

  by_decoded : (d : Result (List Form) DecodeRefusal)
      → ((or_decode d >>= λ program. unless_refused (record { program = program; shapes = a.shapes; arg_len = p.arg_len; mode = p.mode }) (verdict program (signature a.shapes p.arg_len p.mode))) >>= λ x. Ok (f x)) ≡ Err w
      → TellsOfRead n a p (or_decode d) own → TellsRefusal n w own
  by_decoded (Err e) is told = subst (λ x. TellsRefusal n x own) (err_is (Decode e) w is) (begins_sooner (refused_by n 3) (named_words p ++ slot_fault e) own told)
  by_decoded (Ok program) is told = by_verdict _ _ program refl is (subst (λ o. IsJudged o a.shapes n p program own) good told)

  by_hex : (h : Option (List ℕ))
      → ((or_bad_hex h >>= λ bytes. or_decode (decoded bytes) >>= λ program. unless_refused (record { program = program; shapes = a.shapes; arg_len = p.arg_len; mode = p.mode }) (verdict program (signature a.shapes p.arg_len p.mode))) >>= λ x. Ok (f x)) ≡ Err w
      → TellsOfRead n a p (or_bad_hex h >>= λ bytes. or_decode (decoded bytes)) own → TellsRefusal n w own
  by_hex None is told = subst (λ x. TellsRefusal n x own) (err_is BadHex w is) (begins_sooner (refused_by n 2) (named_words p) own told)
  by_hex (Some bytes) is told = by_decoded (decoded bytes) is told

abbrev entry_of : ProgramLine → Checked → Result Entry LoadFault
entry_of p x = Ok (record { name = p.name; checked = x })

entry_refused : (files : Files) (n : ℕ) (a : Above) (p : ProgramLine) (own : List ℕ) (w : LoadFault)
    → a.bad_map ≡ None → entry_for files a.shapes p ≡ Err w → TellsOfFile files n a p own → TellsRefusal n w own
unfolding entry_for checked_program bytes_of_hex instructions_of
entry_refused files n a p own w good is told = by_file (file_named files p.file) is told
  where
    by_file : (o : Option (List ℕ))
        → (or_bad_line o >>= λ text. checked_program a.shapes p.arg_len p.mode text >>= entry_of p) ≡ Err w
        → TellsOfRead n a p (or_bad_line o >>= λ text. or_bad_hex (spaced_bytes text) >>= λ bytes. or_decode (decoded bytes)) own → TellsRefusal n w own
    by_file None is told = subst (λ x. TellsRefusal n x own) (err_is BadLine w is) (begins_sooner (refused_by n 1) (codes "\n") own told)
    by_file (Some text) is told = by_hex n a p own good (λ x. record { name = p.name; checked = x }) w (spaced_bytes text) is told

has_map_where : (b t : Bool) → (not b || t) ≡ false → b ≡ true
has_map_where true t is = refl
has_map_where false t is = absurd cc

module _ (files : Files) (n : ℕ) (a : Above) (c : CatalogueView) (p : ProgramLine) (why : LoadFault) (text : List ℕ) (k : Alike a c) (told : TellsOfProgram files n a p text) where
  by_number : (b : Bool) (x : CatalogueView) → ltb (length c.programs) 256 ≡ b
      → cond b (Ok x) (Err TooMany) ≡ Err why → HasRefusal n why text
  by_number true x was is = absurd cc
  by_number false x was is =
      let names = same_count a c k.read in
      let many : 256 ≤ length a.names = omega (arith, ltb-false _ _ was, names) in
      let begins : BeginsWith (line_fault n TooMany) told.beyond = subst (λ b. BeginsIf b (line_fault n TooMany) told.beyond) (full a many) told.number in
      subst (λ w. HasRefusal n w text) (err_is _ _ is)
      (behind n TooMany told.misplaced (told.beyond ++ told.own) text told.whole
      (at_once n TooMany _ (begins_in (refused_by n 5) told.beyond told.own _ refl (begins_sooner (refused_by n 5) (codes "\n") told.beyond begins))))

  by_entry : (r : Result Entry LoadFault) → entry_for files c.shapes p ≡ r → has_map a ≡ true
      → (r >>= with_entry c) ≡ Err why → HasRefusal n why text
  unfolding with_entry
  by_entry (Err w) was has is =
      let own : TellsOfFile files n a p told.own = subst (λ b. TellsWhereMap b files n a p told.own) has told.file in
      let here = entry_refused files n a p told.own w k.good (subst (λ ss. entry_for files ss p ≡ Err w) k.read.shapes was) own in
      subst (λ x. HasRefusal n x text) (err_is w why is) (behind n w told.misplaced (told.beyond ++ told.own) text told.whole (behind n w told.beyond told.own _ refl (at_once n w told.own here)))
  by_entry (Ok entry) was has is = by_number _ _ refl is

  by_place : (b : Bool) → is_misplaced a p.name ≡ b
      → cond b (Err BadLine) (entry_for files c.shapes p >>= with_entry c) ≡ Err why → HasRefusal n why text
  by_place true was is =
      let begins : BeginsWith (line_fault n BadLine) told.misplaced = subst (λ b. BeginsIf b (line_fault n BadLine) told.misplaced) was told.place in
      subst (λ w. HasRefusal n w text) (err_is _ _ is)
      (at_once n BadLine text (begins_in (refused_by n 1) told.misplaced (told.beyond ++ told.own) text told.whole (begins_sooner (refused_by n 1) (codes "\n") told.misplaced begins)))
  by_place false was is = by_entry _ refl (has_map_where (has_map a) _ was) is

  program_refused : with_program files c p ≡ Err why → HasRefusal n why text
  unfolding with_program
  program_refused is = by_place _ (same_place a c k p.name) is

-- ---- line by line

line_refused : (limits : MapLimits) (files : Files) (n : ℕ) (a : Above) (c : CatalogueView) (m : Option Meaning) (why : LoadFault) (text : List ℕ) → Alike a c → after_meaning limits files c m ≡ Err why → TellsOfLine limits files None n a m text
    → HasRefusal n why text
line_refused limits files n a c None why text k is told = subst (λ w. HasRefusal n w text) (err_is BadLine why is) (at_once n BadLine text (bad_line_told n text told))
line_refused limits files n a c (Some Comment) why text k is told = absurd cc
line_refused limits files n a c (Some (Map s)) why text k is told = at_once n why text (map_refused limits a c s n why text k is told)
line_refused limits files n a c (Some (Program p)) why text k is told = program_refused files n a c p why text k told is

abbrev passed : CatalogueView → Result CatalogueView LoadFault
passed x = Ok x

ok_is : (x y : CatalogueView) → passed x ≡ Ok y → x ≡ y
ok_is x y is = cc

line_kept : (limits : MapLimits) (files : Files) (n : ℕ) (l : List ℕ) (a : Above) (c w : CatalogueView) (m : Option Meaning) → Alike a c → after_meaning limits files c m ≡ Ok w → Alike (with_line limits n l m a) w
line_kept limits files n l a c w None k is = absurd cc
line_kept limits files n l a c w (Some Comment) k is = subst (Alike a) (ok_is c w is) k
line_kept limits files n l a c w (Some (Map s)) k is = map_kept limits a c w s n k is
line_kept limits files n l a c w (Some (Program p)) k is = program_kept files a c w p k is

end_by : (b : Bool) (c : CatalogueView) (n : ℕ) (e : LoadRefusal) (text : List ℕ) → cond b (Err (record { line = n; why = BadLine })) (Ok c) ≡ Err e → BeginsIf b (line_fault n BadLine) text → HasRefusal e.line e.why text
end_by true c n e text is told = subst (λ x. HasRefusal x.line x.why text) (err_is (record { line = n; why = BadLine }) e is) (at_once n BadLine text (bad_line_told n text told))
end_by false c n e text is told = absurd cc

walk : (limits : MapLimits) (files : Files) (n : ℕ) (a : Above) (c : CatalogueView) (ls : List (List ℕ)) (text : List ℕ) (e : LoadRefusal) → Alike a c → after_lines limits files n c ls ≡ Err e → TellsOfLines limits files None n a ls text
    → HasRefusal e.line e.why text
unfolding after_lines after_line
walk limits files n a c [] text e k is told = end_by (eqb (length c.shapes) 0) c n e text is (subst (λ b. BeginsIf b (line_fault n BadLine) text) (no_map_is a c k) told)
walk limits files n a c (l ∷ ls) text e k is told =
    by_result (after_meaning limits files c (line_meaning limits l)) refl is (λ w kept rest. walk limits files (next_line n) (with_line limits n l (line_meaning limits l) a) w ls told.1 e kept rest told.4)
  where
    by_result : (r : Result CatalogueView LoadFault) → after_meaning limits files c (line_meaning limits l) ≡ r → either (λ why. Err (record { line = n; why = why })) (λ after. after_lines limits files (next_line n) after ls) r ≡ Err e
        → ((w : CatalogueView) → Alike (with_line limits n l (line_meaning limits l) a) w → after_lines limits files (next_line n) w ls ≡ Err e → HasRefusal e.line e.why told.1) → HasRefusal e.line e.why text
    by_result (Err why) was is more =
        let here = line_refused limits files n a c (line_meaning limits l) why told.0 k was told.3 in
        subst (λ x. HasRefusal x.line x.why text) (err_is (record { line = n; why = why }) e is)
        (here.0, here.1 ++ told.1, told.2 ∙ ap (λ t. t ++ told.1) here.2 ∙ append_assoc here.0 here.1 told.1, longer n why here.1 told.1 here.3)
    by_result (Ok w) was is more = behind e.line e.why told.0 told.1 text told.2 (more w (line_kept limits files n l a c w (line_meaning limits l) k was) is)

pub refusal_is_told : (limits : MapLimits) (files : Files) (manifest text : List ℕ) (e : LoadRefusal)
    → loaded_within limits manifest files ≡ Err e → TellsOfAll limits files None manifest text
    → HasRefusal e.line e.why text
unfolding loaded_within
refusal_is_told limits files manifest text e is told = walk limits files 1 nothing_above _ (lines_of manifest) text e (record { read = record { shapes = refl; names = refl }; good = refl }) is told
