use Rattle.std.proofs.Common.{◌≡◌, ◌⊎◌, true, arith, Some, subst, sym, ◌∙◌}
use Rattle.std.specs.Prelude.{◌↔◌, ◌*◌, ◌%◌, ◌^◌, Option, ℕ, bit_or}
use Rattle.std.proofs.lemmas.Bool.Decides.{nat_tests}
use Rattle.named_maps.specs.Naming.{IsIn, is_low, map_named}
use Rattle.named_maps.proofs.Named.{set_bit}
use Rattle.named_maps.proofs.naming.with_named.Goals as goal

pub returns-in-Some : goal.returns-in-Some
returns-in-Some c m =
    let is : map_named c.args.form ≡ Some c.in-Some.m = sym c.map_named.ensures ∙ c.in-Some.is in
    subst (λ (o : Option ℕ). IsIn (bit_or c.args.maps (1 * 2 ^ c.in-Some.m % 65536)) m ↔ (IsIn c.args.maps m ⊎ is_low m o ≡ true)) (sym is)
    (set_bit c.args.maps c.in-Some.m (grind (arith, nat_tests)) m)
