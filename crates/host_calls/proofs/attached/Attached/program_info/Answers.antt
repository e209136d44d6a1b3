use Rattle.std.proofs.Common.{rules, ◌≡◌}
use Rattle.host_calls.specs.CallResults.{HasGrown}
use Rattle.host_calls.proofs.attached.Attached.program_info.Goals as goal
use Rattle.host_calls.proofs.attached.Attached.program_info.Goals.{in-Err, in-Ok-None, in-Ok-Some, then-info, else-info}

pub returns-clause-tells : goal.returns-clause-tells
returns-clause-tells c =
    let old = c.args.self.now.session in
    let new = c.match-try_program_info.self-inside.session in
    elim c.match-try_program_info.branch [
      | in-Err w ↦ search rules
      | in-Ok-None w ↦ search rules
      | in-Ok-Some w ↦
          let grown : HasGrown old new = record { grown = search rules; well_formed = search rules; gone = search rules } in
          let note : new.note ≡ old.note = search rules in
          elim w.if-info.branch [
            | then-info w' ↦ search (rules, grown, note)
            | else-info w' ↦ search (rules, grown, note)
          ]
    ]
