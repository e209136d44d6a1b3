-- A number of a helper is that helper's alone.
use Rattle.std.proofs.Common.{◌≡◌, Bool, true, false, cond, Some, None, refl, ap, ◌∙◌, pos}
use Rattle.std.specs.Prelude.{ℤ, negsuc, ◌==◌}
use Rattle.std.proofs.lemmas.Bool.Decides.{Decides-eqb}
use Rattle.helpers.specs.declared.numbers.Helper.{Helper}
use Rattle.helpers.specs.declared.numbers.Helper.TheVariants.{Lookup, Update, Delete}
use Rattle.helpers.specs.Numbers.{helper_number, helper_of}

pub only_number : (id : ℤ) (h : Helper) → helper_of id ≡ Some h → id ≡ pos (helper_number h)
only_number (pos n) h is = by (n == 1) refl (n == 2) refl (n == 3) refl is
  where
    named : (k : Helper) → n == helper_number k ≡ true → Some k ≡ Some h → pos n ≡ pos (helper_number h)
    named k e same = let it : k ≡ h = cc in ap pos ((Decides-eqb n (helper_number k)).0 e ∙ ap helper_number it)

    by : (a : Bool) → n == 1 ≡ a → (b : Bool) → n == 2 ≡ b → (c : Bool) → n == 3 ≡ c → cond a (Some Lookup) (cond b (Some Update) (cond c (Some Delete) None)) ≡ Some h → pos n ≡ pos (helper_number h)
    by true one b two c three e = named Lookup one e
    by false one true two c three e = named Update two e
    by false one false two true three e = named Delete three e
    by false one false two false three e = absurd cc
only_number (negsuc n) h is = absurd cc
