use Rattle.std.proofs.Common.{subst, rules}
use Rattle.std.specs.Prelude.{IfSome}
use Rattle.std.proofs.lemmas.List.Elements.{All-pop, All-push}
use Rattle.store.specs.Sessions.{IsOf}
use Rattle.example_store.proofs.threads.read_once.Goals as goal

pub read-seen-requires : goal.read-seen-requires
read-seen-requires g c =
    let taken = All-pop (IsOf c.args.store.now) c.args.sessions.now.items c.pop.new.self.items c.pop.result c.pop.ensures.items c.requires.own in
    record { own = subst (λ r. IfSome r (IsOf c.args.store.now)) c.in-Some.is taken.1 }

pub returns : goal.returns
returns g c =
    let taken = All-pop (IsOf c.args.store.now) c.args.sessions.now.items c.pop.new.self.items c.pop.result c.pop.ensures.items c.requires.own in
    record {
      own = rw c.push_reserved.ensures.items (All-push (IsOf c.args.store.now) c.pop.new.self.items c.read-seen.new.self taken.0 c.read-seen.ensures.session.own);
      count = search rules;
    }
