use Rattle.std.proofs.Common.{◌∙◌, map, ap, subst, rules}
use Rattle.std.proofs.lemmas.List.Sorted.{IsNonDecreasingBy-from_sort_by_key}
use Rattle.stress.specs.Lines.{rank, transcript_text}
use Rattle.stress.specs.Timed.{AreCounted}
use Rattle.stress.specs.Shown.{said_of, told_of, timed_of}
use Rattle.stress.specs.Playing.{history_if}
use Rattle.std.proofs.lemmas.Fn.{always_returns_same}
use Rattle.stress.proofs.Told.{ordered, still}
use Rattle.stress.proofs.lines.write_told.Goals as goal

pub returns : goal.returns
returns c =
    let sorted = c.sort_by_key.new.self.items in
    let up = IsNonDecreasingBy-from_sort_by_key (λ t. rank (said_of t.said)) _ c.in_ok-sort_by_key.ensures.sorted (λ a r q k. search rules) in
    record {
      lines = sorted;
      same = c.in_ok-sort_by_key.ensures.permutation;
      ordered = ordered sorted up;
      stable = still c.args.told.items sorted (c.in_ok-sort_by_key.ensures.stable (λ t. rank (said_of t.said)) (always_returns_same _ _ _ (λ a r q k. search rules)));
      transcript = c.in_ok-transcript_text.ensures ∙ ap (λ xs. transcript_text c.args.catalogue.now (map told_of xs)) c.deref.ensures.value;
      history = c.in_ok-history_if.ensures ∙ ap (λ xs. history_if c.args.timed (map timed_of xs)) c.deref-2.ensures.value;
      counts = subst (λ xs. AreCounted (map told_of xs) c.counted.result) c.deref-3.ensures.value c.counted.ensures;
    }
