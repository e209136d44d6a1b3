use Rattle.std.proofs.Common.{◌++◌, sym, subst, ap, ◌∙◌, arith, flat_map}
use Rattle.std.proofs.lemmas.List.{length-map}
use Rattle.maps.specs.Shapes.{AreShapesSupported}
use Rattle.maps.proofs.Export.{stored_are}
use Rattle.dumps.specs.declared.pieces.Next.{Next}
use Rattle.dumps.specs.Written.{program_line_text}
use Rattle.dumps.specs.Pieces.{left_text, rows_of}
use Rattle.dumps.proofs.Remaining.{parts_text}
use Rattle.dumps.proofs.pieces.whole.Goals as goal

pub sorted_tables-requires : goal.sorted_tables-requires
sorted_tables-requires c = record { shapes = subst AreShapesSupported (c.requires.programs ∙ sym (stored_are c.args.maps.now)) c.places-places.ensures.whole.shapes }

pub returns : goal.returns
returns c =
    let maps = c.args.maps.now in
    let tables = rows_of c.in_ok-tables.tables.items in
    let lines = c.put_programs.new.out.items in
    let many = c.in_ok-tables.ensures.0 in
    let zero = ap (λ (n : Next). n.byte) c.first.ensures in
    let rows = length-map c.in_ok-tables.tables.items (λ t. t.items) in (
      (subst AreShapesSupported (c.requires.programs ∙ sym (stored_are maps)) c.places-places.ensures.whole.shapes, omega (arith, many, rows), omega (arith, zero)),
      ap (left_text maps tables lines) c.first.ensures
          ∙ parts_text maps tables lines c.args.programs.now c.in_ok-tables.ensures
          (c.in_ok-put_programs.ensures ∙ ap (λ o. o ++ flat_map program_line_text c.args.programs.now.programs) c.new-lines.ensures.items),
    )
