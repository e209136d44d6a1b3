use Rattle.std.proofs.Common.{◌≡◌, drop, map}
use Rattle.std.specs.Prelude.{bytes_eq}
use Rattle.std.specs.List.{list_any}
use Rattle.explain.proofs.files.manifest.Explanation.line_of.Given as goal

abbrev pub invariant-loop-other : goal.invariant-loop-other
invariant-loop-other l =
    list_any (λ n. bytes_eq n l.name) (map (λ n. n.0.now) (drop l.other-index l.self.names.items)) ≡ list_any (λ n. bytes_eq n l.name) (map (λ n. n.0.now) l.self.names.items)
