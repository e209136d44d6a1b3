use Rattle.std.proofs.Common.{subst}
use Rattle.std.proofs.lemmas.List.Elements.{All-push, All-same}
use Rattle.store.specs.Sessions.{IsOf, StoreView}
use Rattle.host_calls.specs.Seating.{IsSeatOf}
use Rattle.host_calls.proofs.closing.push_session.Goals as goal

pub returns-clause-own : goal.returns-clause-own
returns-clause-own c = λ store seat all.
    let ours = subst (IsSeatOf store) c.in-Some.is seat in
    let own = subst (λ (s : StoreView). IsOf s c.into_session-session.result) ours c.into_session-session.ensures.own in
    All-same (IsOf store) _ _ c.push_reserved.ensures.items (All-push (IsOf store) _ _ all own)
