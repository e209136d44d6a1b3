use Rattle.std.proofs.Common.{arith}
use Rattle.insn.proofs.Export.{are_bytes}
use Rattle.dumps.proofs.Kept.{put_keeps}
use Rattle.dumps.proofs.loading.put_entry.Goals as goal

pub returns-clause-each : goal.returns-clause-each
returns-clause-each c =
    put_keeps c.args.maps.now c.update.new.self c.args.m c.args.key.now c.args.value.now c.requires.each c.requires.map c.requires.key c.requires.value c.requires.room
    (are_bytes c.args.key.now (λ i. omega (arith, c.type_inv.key i))) (are_bytes c.args.value.now (λ i. omega (arith, c.type_inv.value i))) c.update.ensures.updated
