-- The text with signed numbers, from its lines.
use Rattle.std.proofs.Common.{◌≡◌, ℕ, true, false, List, Result, Vec, refl}
use Rattle.std.specs.Prelude.{IfOk}
use Rattle.std.specs.List.{flat_map}
use Rattle.text.specs.Lines.{lines_of}
use Rattle.std.specs.Str.{is_utf8}
use Rattle.running.specs.Signed.{signed_line, signed_text}

pub of_text : {X E : Type 0} (r : Result (Vec ℕ X) E) (bytes : List ℕ) → is_utf8 bytes ≡ true → IfOk r (λ v. v.items ≡ flat_map signed_line (lines_of bytes)) → IfOk r (λ v. v.items ≡ signed_text bytes)
unfolding signed_text
of_text r bytes text made = rw text made

pub stays : (bytes : List ℕ) → is_utf8 bytes ≡ false → signed_text bytes ≡ bytes
unfolding signed_text
stays bytes text = rw text refl
