use Rattle.std.proofs.Common.{◌≡◌, ℕ, ◌<◌, None, length, get_or, refl, sym, ap, ◌∙◌, arith}
use Rattle.std.specs.Prelude.{map}
use Rattle.std.specs.List.{range_with_len}
use Rattle.std.proofs.lemmas.List.{get_or-map}
use Rattle.std.proofs.lemmas.List.FromFn.{get_or-map-range_with_len}
use Rattle.opcodes.specs.declared.TheConstants.{LETTERS}
use Rattle.opcodes.specs.Table.{uses_of, uses_by}
use Rattle.opcodes.proofs.uses_of.Goals as goal

-- opcode by opcode, both are the same
same : map uses_by LETTERS.now ≡ map uses_of (range_with_len 0 256)
same = refl

count : length LETTERS.now ≡ 256
count = refl

read : (o : ℕ) → o < 256 → uses_by (get_or LETTERS.now o 0) ≡ uses_of o
read o h =
    let there : o < length LETTERS.now = omega (arith, count) in
    sym (get_or-map uses_by LETTERS.now o 0 None there) ∙ ap (λ us. get_or us o None) same ∙ get_or-map-range_with_len uses_of 0 256 o o None h (omega arith)

pub returns : goal.returns
returns c = c.uses_by.ensures ∙ ap (λ o. uses_by (get_or LETTERS.now o 0)) c.from.ensures ∙ read c.args.opcode (omega arith)
