use Rattle.std.proofs.Common.{◌≡◌, ℕ, ◌<◌, length}
use Rattle.std.specs.Prelude.{slice_get}
use Rattle.node.specs.Answering.{answers_from}
use Rattle.node.proofs.answering.answer_batch.Given as goal

abbrev pub invariant-loop-k : goal.invariant-loop-k
invariant-loop-k l = record {
  records : l.batch.records ≡ l.initial.batch.records;
  answers : length l.batch.answers ≡ length l.initial.batch.records;
  set : (j : ℕ) → j < l.k → slice_get l.batch.answers j ≡ slice_get (answers_from l.initial.replies.first l.initial.replies.outcomes l.initial.batch.records) j;
}
