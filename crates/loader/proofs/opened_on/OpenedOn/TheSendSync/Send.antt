-- `OpenedOn` owns nothing, so it may go to any thread.
use denote.Param.Send.{IsSend}
use Rattle.loader.specs.contracts.opened_on.OpenedOn.{the_row}

pub send : IsSend the_row
send = record { owned = λ d vs. ((λ vss. (tt, tt)), tt); leaving = λ k f vs. tt }
