-- The run that a session knows goes on, by each thing that it does.
use Rattle.std.proofs.Common.{List}
use Rattle.ownlock.specs.declared.known.ShelfStep.{ShelfStep}
use Rattle.ownlock.proofs.Export.{continues_on, continues_self}
use Rattle.oplog.specs.Operations.{Operation}
use Rattle.combiner.specs.declared.slots.Reply.{Reply}
use Rattle.store_steps.specs.Doing.{Did, Part}
use Rattle.store_steps.specs.declared.deeds.Deed.{Deed}
use Rattle.store_steps.specs.declared.deeds.Deed.TheVariants.{Busy, Collected, Went}
use Rattle.store_steps.specs.Pipelines.{Stays, Visit, Visits}
use Rattle.store_steps.specs.Polling.{BeginsBy, DeedsGo}
use Rattle.store_steps.specs.Shelving.{store_opening}
use Rattle.store_steps.specs.Standing.{SessionKnown}
use Rattle.store_steps.specs.Updating.{Answers, Begins, ClaimsIt, Combines, DeedBy, DeedGoes, Deeds, Gives, Looks, Rests, Rounds, Then, Tries, UpdatesBy, Waits}
use Rattle.store_laws.specs.Gone.{GoneOn}

pub gone_self : (k : SessionKnown) → GoneOn k k
gone_self k = (continues_self k.run, λ opening own. own)

pub gone_then : (a b c : SessionKnown) → GoneOn a b → GoneOn b c → GoneOn a c
gone_then a b c x y = (continues_on a.run b.run c.run x.0 y.0, λ opening own. y.1 opening (x.1 opening own))

pub gone_did : {k after : SessionKnown} {steps : List (ShelfStep Part)} → Did k after steps → GoneOn k after
gone_did d = (d.goes_on, λ opening own. d.ends (store_opening opening) own)

rounds_go : (k m : SessionKnown) → Rounds k m → GoneOn k m
rounds_go k m (Begins j) = gone_self k
rounds_go k m (Waits j i after batch rounds turn) = gone_then k i m (rounds_go k i rounds) (gone_did turn.at.did)
rounds_go k m (Combines j i claiming after batch answered rounds turn combine) =
    gone_then k claiming m (gone_then k i claiming (rounds_go k i rounds) (gone_did turn.at.did)) (gone_did combine.did)

pub update_goes : (k after : SessionKnown) (op : Operation) (reply : Reply) → UpdatesBy k after op reply
    → GoneOn k after
update_goes k after op reply u =
    let waited = u.completes.waited in
    gone_then k waited after (gone_then k u.asked waited (gone_did u.posts.at.did) (rounds_go u.asked waited u.completes.rounds)) (gone_did u.completes.collects.at.did)

pub visits_go : (k m : SessionKnown) → Visits k m → GoneOn k m
visits_go k m (Stays j) = gone_self k
visits_go k m (Visit j i after slot x visits at) = gone_then k i m (visits_go k i visits) (gone_did at.did)

deed_goes : (k after : SessionKnown) → DeedBy k after → GoneOn k after
deed_goes k after (Tries steps still did same) = gone_did did
deed_goes k after (Looks batch alone turn same) = gone_did turn.at.did
deed_goes k after (ClaimsIt batch alone turn notes) = gone_did turn.at.did
deed_goes k after (Answers node batch kept noted answers ready) = gone_did answers.did
deed_goes k after (Gives node batch kept ready hands none) = gone_did hands.did

pub deeds_go : (k after : SessionKnown) → Deeds k after → GoneOn k after
deeds_go k after (Rests j) = gone_self k
deeds_go k after (Then j m i deeds deed) = gone_then k m after (deeds_go k m deeds) (deed_goes m after deed)

-- by deeds of which the last one ended so
pub done_goes : (k after : SessionKnown) (deed : Deed) → DeedsGo k after deed → GoneOn k after
done_goes k after Busy goes = deeds_go k after goes
done_goes k after Went goes = deeds_go k after goes
done_goes k after (Collected reply) goes = gone_then k goes.0 after (deeds_go k goes.0 goes.1) (gone_did goes.2.1.at.did)

pub one_goes : (k after : SessionKnown) (deed : Deed) → DeedGoes k after deed → GoneOn k after
one_goes k after Busy goes = deed_goes k after goes
one_goes k after Went goes = deed_goes k after goes
one_goes k after (Collected reply) goes = gone_did goes.1.at.did

-- by a post, and deeds behind it
pub begin_goes : (k after : SessionKnown) (op : Operation) → BeginsBy k after op → GoneOn k after
begin_goes k after op b = gone_then k b.0 after (gone_did b.1.at.did) (deeds_go b.0 after b.2)
