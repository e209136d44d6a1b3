-- What was read is text, or not, where it is known what there was to read.
use Rattle.std.proofs.Common.{◌≡◌, ℕ, true, false, List, Option, Some, None, Ok, String, string_bytes, subst, ◌∙◌}
use Rattle.std.specs.Prelude.{IfSome}
use Rattle.std.specs.Str.{IsUtf8, is_utf8}
use Rattle.std.proofs.lemmas.Str.{IsUtf8-from_is_utf8}
use Rattle.std.proofs.lemmas.Bool.{false_from_ne_true}
use Rattle.engine.specs.declared.reading.Stranger.{Stranger}
use Rattle.engine.specs.Reading.{strange_text}
use Rattle.engine.specs.Unread.{IsStrange, TextIs}

pub text_found : {Y : Type 0} (name : List ℕ) (o : Option (List ℕ)) (s : String Y) (bs : List ℕ) → IfSome o (λ b. bs ≡ b) → string_bytes s ≡ bs → is_utf8 bs ≡ true → IfSome o (TextIs name (Ok s))
text_found name None s bs known same text = tt
text_found name (Some b) s bs known same text = (same ∙ known, subst (λ x. is_utf8 x ≡ true) known text)

pub no_text : (name : List ℕ) (o : Option (List ℕ)) (bs : List ℕ) (s : Stranger) → IfSome o (λ b. bs ≡ b) → is_utf8 bs ≡ false → strange_text s ≡ (name, bs) → IfSome o (λ b. IsStrange name b s)
no_text name None bs s known text same = tt
no_text name (Some b) bs s known text same = subst (λ x. IsStrange name x s) known (text, same)

pub not_text_from_err : (bs : List ℕ) → (IsUtf8 bs → ⊥) → is_utf8 bs ≡ false
not_text_from_err bs h = false_from_ne_true (is_utf8 bs) (λ e. h (IsUtf8-from_is_utf8 bs e))
