use Rattle.std.proofs.Common.{◌≡◌, true, string_bytes, subst}
use Rattle.std.proofs.lemmas.Str.{is_utf8-from_IsUtf8, IsUtf8-had}
use Rattle.std.specs.Str.{is_utf8}
use Rattle.engine.proofs.reading.read_given.Goals as goal

pub returns-in-None-clause-text : goal.returns-in-None-clause-text
returns-in-None-clause-text g c =
    let empty = c.new.ensures.bytes in
    let text : is_utf8 (string_bytes c.new.result) ≡ true = is_utf8-from_IsUtf8 _ (IsUtf8-had _ c.new.result.ok) in
    rw c.in-None.is (empty, subst (λ b. is_utf8 b ≡ true) empty text)
