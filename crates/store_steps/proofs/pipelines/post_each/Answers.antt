use Rattle.std.proofs.Common.{length, sym, ap, refl, ◌∙◌}
use Rattle.std.proofs.lemmas.List.{length-map}
use Rattle.store_steps.specs.Pipelines.{spot_of}
use Rattle.store_steps.proofs.AskingEach.{are_members, looked_then, may_ask_then}
use Rattle.store_steps.proofs.Handing.{not_looked}
use Rattle.store_steps.proofs.pipelines.post_each.Goals as goal

pub loop-init : goal.loop-init
loop-init g c =
    record { spots = refl; looks = λ j k known. (k, known, not_looked k) }

pub try_post_each-requires : goal.try_post_each-requires
try_post_each-requires g c =
    let same = c.loop.invariant.spots in
    record {
      may = record {
        members = are_members c.args.shared c.args.members.now c.loop.members same c.requires.may.members;
        some = c.requires.may.some;
        count = sym (length-map c.loop.members spot_of) ∙ (ap length same ∙ (length-map c.args.members.now spot_of ∙ c.requires.may.count));
        idle = may_ask_then c.args.shared c.args.members.now c.loop.members same c.loop.invariant.looks c.requires.may.idle;
        calls = c.requires.may.calls;
      };
    }

pub returns-in-Ok-clause-same : goal.returns-in-Ok-clause-same
returns-in-Ok-clause-same g c =
    c.try_post_each.ensures.same ∙ c.loop.invariant.spots

pub returns-in-Ok-clause-posted : goal.returns-in-Ok-clause-posted
returns-in-Ok-clause-posted g c =
    record { mid = c.loop.members; spots = c.loop.invariant.spots; looks = c.loop.invariant.looks; posts = c.in-Ok.ensures.posted }

pub loop-preserved : goal.loop-preserved
loop-preserved g c =
    record {
      spots = c.try_post_each.ensures.same ∙ c.loop.invariant.spots;
      looks = λ j k known. let a = c.loop.invariant.looks j k known in let b = c.in-Err.ensures.stays j a.0 a.1 in (b.0, b.1, looked_then k a.0 b.0 a.2 b.2);
    }
