use Rattle.std.proofs.Common.{◌≡◌, [], ◌∷◌, ◌++◌, List, length, take, slice_set, Option, None, refl, ap, ◌∙◌, arith}
use Rattle.oplog.specs.History.{History}
use Rattle.oplog.specs.declared.records.Record.{Record}
use Rattle.combiner.specs.Desks.{BatchView}
use Rattle.combiner.specs.declared.slots.Reply.{Reply}
use Rattle.combiner.proofs.batches.Batch.set_only.Goals as goal

first_set : (answers : List (Option Reply)) → length answers ≡ 16 → take 1 (slice_set answers 0 None) ≡ None ∷ []
first_set [] long = absurd (omega (arith, long))
first_set (x ∷ xs) long = refl

pub returns : goal.returns
returns c =
    let s = c.self in
    let none = ap (λ (b : BatchView). b.records) (s.view_is ∙ c.clear.ensures.empty) in
    let pushed = ap (λ z. z.records) c.push.ensures.pushed ∙ ap (λ (rs : History). rs ++ record { author = c.new.inside.author; op = c.new.inside.op.now; seq = c.new.inside.seq } ∷ []) none in
    record {
      only = λ j. record {
        records = (pushed ∙ ap (λ (r : Record). r ∷ []) c.new.view_is) j;
        answers = first_set s.inside.answers s.invariant.2 j;
      };
    }
