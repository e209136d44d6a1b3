-- What is good by some limits is good by wider ones.
use Rattle.std.proofs.Common.{◌≡◌, ℕ, true, leb, List, [], ◌∷◌, length, map, Some, refl, arith, sum_by}
use Rattle.std.proofs.lemmas.Bool.{le-leb, leb-true, and_parts}
use Rattle.maps.specs.declared.shapes.MapLimits.{MapLimits}
use Rattle.maps.specs.declared.shapes.Shape.{Shape}
use Rattle.maps.specs.declared.shapes.Shape.TheVariants.{Array, Hash}
use Rattle.maps.specs.declared.shapes.TheConstants.{MAX_MAPS}
use Rattle.maps.specs.Shapes.{room_of, AreLimits}
use Rattle.text.specs.Lines.{lines_of}
use Rattle.loader.specs.Grammar.{Meaning, Comment, Map, Program, line_meaning}
use Rattle.loader.specs.CatalogueView.{CatalogueView}
use Rattle.loader.specs.Loading.{are_few}
use Rattle.loader.specs.ProgramFiles.{Files}
use Rattle.loader.specs.Offers.{Offers}
use Rattle.loader.specs.Spelling.{Spells, SpellsMap}
use Rattle.loader.specs.Wider.{NoNarrower, WiderLimitsKeepWhatIsGood}
use Rattle.loader.proofs.Spelled.{spelled}
use Rattle.loader.proofs.Respelled.{respelled}
use Rattle.loader.proofs.Outcomes.{loaded_is_offered}

module _ (l w : MapLimits) (is : AreLimits l) (are : AreLimits w) (wider : NoNarrower l w) where
  spells_map : (s : Shape) (line : List ℕ) → SpellsMap l s line → SpellsMap w s line
  spells_map (Array value entries) line h =
      let v = wider.value in
      let e = wider.entries in
      (h.0, (h.1.0, omega (arith, h.1.1, v)), (h.2.0, omega (arith, h.2.1, e)))
  spells_map (Hash key value entries) line h =
      let k = wider.key in
      let v = wider.value in
      let e = wider.entries in
      (h.0, (h.1.0, omega (arith, h.1.1, k)), (h.2.0, omega (arith, h.2.1, v)), (h.3.0, omega (arith, h.3.1, e)))

  spells : (m : Meaning) (line : List ℕ) → Spells l m line → Spells w m line
  spells Comment line h = h
  spells (Map shape) line h = spells_map shape line h
  spells (Program p) line h = let a = wider.argument in (h.0, h.1, omega (arith, h.2, a), h.3)

  line_means : (line : List ℕ) (m : Meaning) → line_meaning l line ≡ Some m → line_meaning w line ≡ Some m
  line_means line m e = let s = spelled l line m e in respelled w line m are s.0 (spells m line s.1)

  lines_mean : (lines : List (List ℕ)) (ms : List Meaning) → map (line_meaning l) lines ≡ map Some ms → map (line_meaning w) lines ≡ map Some ms
  lines_mean [] [] e = refl
  lines_mean [] (m ∷ ms) e = absurd cc
  lines_mean (x ∷ lines) [] e = absurd cc
  lines_mean (x ∷ lines) (m ∷ ms) e =
      let first : line_meaning l x ≡ Some m = cc in
      let rest : map (line_meaning l) lines ≡ map Some ms = cc in
      rw (line_means x m first, lines_mean lines ms rest) refl

  few : (shapes : List Shape) → are_few l shapes ≡ true → are_few w shapes ≡ true
  few shapes h =
      let both = and_parts (leb (length shapes) MAX_MAPS) (leb (sum_by room_of shapes) l.bytes) h in
      let bytes = wider.bytes in
      let room = leb-true _ _ both.1 in
      rw (both.0, le-leb (sum_by room_of shapes) w.bytes (omega (arith, room, bytes))) refl

  offers : (files : Files) (lines : List (List ℕ)) (c : CatalogueView) → Offers l files lines c → Offers w files lines c
  offers files lines c o = record {
    meanings = o.meanings;
    each = lines_mean lines o.meanings o.each;
    programs = o.programs;
    in_order = o.in_order;
    checked = o.checked;
    some_map = o.some_map;
    few_maps = few c.shapes o.few_maps;
    distinct = o.distinct;
    few_programs = o.few_programs;
    no_places = o.no_places;
    no_long = o.no_long;
    no_opening = o.no_opening;
  }

pub wider_limits_keep_what_is_good : WiderLimitsKeepWhatIsGood
wider_limits_keep_what_is_good l w text files c is are wider e =
    let o = (loaded_is_offered l text files c is).0 e in
    (loaded_is_offered w text files c are).1 (offers l w is are wider files (lines_of text) c o.0, o.1)
