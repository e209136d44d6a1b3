use Rattle.std.proofs.Common.{rules, refl}
use Rattle.store.proofs.polled_pipeline.Listed.begin_first.Goals as goal

pub returns-in_default-clause-looked : goal.returns-in_default-clause-looked
returns-in_default-clause-looked c =
    record { now = c.try_begin_each.new.members; sets = record { long = search rules; is = refl; same = c.try_begin_each.ensures.same }; looks = c.in_default.ensures.stays.0; idle = c.in_default.ensures.stays.1 }

pub returns-clause-begun : goal.returns-clause-begun
returns-clause-begun c =
    record { now = c.try_begin_each.new.members; sets = record { long = search rules; is = refl; same = c.try_begin_each.ensures.same }; out = c.in-Some.ensures.out; begins = c.in-Some.ensures.begun; held = c.in-Some.ensures.held }
