use Rattle.std.proofs.Common.{◌≡◌, ◌∙◌, take, ap, rules}
use Rattle.byteorder.proofs.Bytes.{take-bytes_low_first}
use Rattle.encoding.proofs.numbers.first_bytes.Goals as goal

pub returns : goal.returns
returns c =
    let items : c.try_extend_from_slice.new.self.items ≡ take c.args.size c.to_le_bytes.result = search rules in
    items ∙ ap (take c.args.size) c.to_le_bytes.ensures ∙ take-bytes_low_first 0 8 c.args.size c.args.bits c.requires
