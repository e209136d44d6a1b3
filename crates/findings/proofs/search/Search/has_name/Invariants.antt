use Rattle.std.proofs.Common.{◌≡◌, drop, map}
use Rattle.std.specs.Prelude.{bytes_eq}
use Rattle.std.specs.List.{list_any}
use Rattle.findings.proofs.search.Search.has_name.Given as goal

abbrev pub invariant-loop-other : goal.invariant-loop-other
invariant-loop-other l =
    list_any (λ n. bytes_eq n l.name) (map (λ n. n.now) (drop l.other-index l.self.names.items)) ≡ list_any (λ n. bytes_eq n l.name) (map (λ n. n.now) l.self.names.items)
