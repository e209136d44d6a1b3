use Rattle.std.proofs.Common.{ap, ap₂, ◌∙◌, nat_cmp, take}
use Rattle.std.specs.Cmp.Lexicographic.{slice_cmp}
use Rattle.dumps.proofs.KeyOrder.{read_is}
use Rattle.dumps.proofs.sorting.by_key.Goals as goal

pub returns : goal.returns
returns c =
    let maps = c.args.maps.now in
    let first = ap (λ n. take n c.read_key.new.room) c.unwrap_or-n.ensures ∙ read_is maps c.args.m c.args.a c.read_key.result c.read_key.new.room c.read_key.ensures.there c.read_key.ensures.key in
    let second = ap (λ n. take n c.read_key-2.new.room) c.unwrap_or-k.ensures ∙ read_is maps c.args.m c.args.b c.read_key-2.result c.read_key-2.new.room c.read_key-2.ensures.there c.read_key-2.ensures.key in
    c.cmp.ensures ∙ ap₂ (slice_cmp nat_cmp) first second
