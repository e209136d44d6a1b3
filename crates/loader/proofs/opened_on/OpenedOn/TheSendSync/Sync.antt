-- `OpenedOn` owns nothing, so any thread may share it.
use denote.Param.Send.{IsSync, part_keyless}
use Rattle.loader.specs.contracts.opened_on.OpenedOn.{the_row}
use Rattle.loader.proofs.opened_on.OpenedOn.TheSendSync.Send.{send}

pub sync : IsSync the_row
sync = record { shared = λ d b o κ q. part_keyless the_row send q d b o }
