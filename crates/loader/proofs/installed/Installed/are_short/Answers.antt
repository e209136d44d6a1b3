use Rattle.std.proofs.Common.{◌≡◌, true, List, take, sym, ap, ◌∙◌, subst}
use Rattle.std.specs.Prelude.{◌↔◌}
use Rattle.std.specs.List.{All}
use Rattle.verifier.specs.Accepted.{AcceptedView, Checked}
use Rattle.loader.specs.Installed.{InstalledView, IsShort, all_checked, are_short}
use Rattle.loader.proofs.Installing.{short_iff}
use Rattle.loader.proofs.installed.Installed.are_short.Goals as goal

pub returns : goal.returns
returns c =
    let long = c.args.long in
    let first : List AcceptedView = take c.self.inside.count c.self.inside.rooms.items in
    let said : c.are_short.result ≡ are_short long first = c.are_short.ensures ∙ ap (λ rooms. are_short long (take c.self.inside.count rooms)) c.deref.ensures.value in
    let here : (c.are_short.result ≡ true) ↔ All (IsShort long) (all_checked first) = subst (λ b. (b ≡ true) ↔ All (IsShort long) (all_checked first)) (sym said) (short_iff long first) in
    record { short = subst (λ (programs : List Checked). (c.are_short.result ≡ true) ↔ All (IsShort long) programs) (ap (λ (v : InstalledView). v.programs) c.self.view_is) here }
