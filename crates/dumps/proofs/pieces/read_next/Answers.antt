use Rattle.std.proofs.Common.{◌∙◌, ap, arith, drop, take}
use Rattle.dumps.specs.Pieces.{left_in, left_text, row_text, rows_of}
use Rattle.dumps.proofs.Remaining.{later_same, row_read}
use Rattle.dumps.proofs.pieces.read_next.Goals as goal

pub loop-room-preserved : goal.loop-room-preserved
loop-room-preserved c =
    let maps = c.args.maps.now in
    let tables = rows_of c.args.tables.now.items in
    let lines = c.args.lines.now in
    let old = c.loop-room.next in
    let new = c.next_row.new.next in
    let row = c.in-Some.row in
    let within = c.put_place-at.ensures.within.1 in
    let long = c.put_place-at.auto.room in
    let byte = c.in-Some.ensures.byte in
    let before = c.loop-room.invariant.1 in (
      omega (arith, within, long),
      omega (arith, byte, before),
      row_read (left_text maps tables lines c.args.next.now) (take c.loop-room.at c.loop-room.room) (take c.put_place-at.result c.put_place-at.new.room) (row_text maps row.map row.place)
          (left_in maps tables old.map old.row) (left_in maps tables new.map new.row) (drop old.byte lines) (drop new.byte lines) c.loop-room.invariant.2 (c.in-Some.ensures.row maps)
          c.put_place-at.ensures.put (ap (λ n. drop n lines) byte),
      c.put_place-at.ensures.rest ∙ later_same c.loop-room.at c.put_place-at.result c.loop-room.room c.args.room.now c.put_place-at.ensures.within.0 c.loop-room.invariant.3,
    )

pub returns-in-None-clause-rest : goal.returns-in-None-clause-rest
returns-in-None-clause-rest c =
    c.put_part.ensures.rest
    ∙ later_same c.loop-room.at c.put_part.result c.loop-room.room c.args.room.now c.put_part.ensures.bound.0 c.loop-room.invariant.3
