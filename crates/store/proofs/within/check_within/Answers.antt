use Rattle.std.proofs.Common.{rules, ◌≡◌, ◌≤◌, sym, ap, ◌∙◌, subst, arith}
use Rattle.std.specs.Prelude.{length, IsOk, Option, Result}
use Rattle.std.proofs.lemmas.Bool.Decides.{nat_tests}
use Rattle.std.proofs.lemmas.Option.{same_Some}
use Rattle.verifier.specs.Accepted.{Checked, checked_in}
use Rattle.loader.specs.Installed.{InstalledView, after_install, installed_program, most_argument, most_bytes, no_programs}
use Rattle.loader.specs.declared.installed.InstallRefusal.{InstallRefusal}
use Rattle.replica.specs.Refusals.{IsRefusedAs}
use Rattle.replica.specs.declared.refusals.StoreRefused.{StoreRefused}
use Rattle.store.specs.Within.{outside_refusal, program_within}
use Rattle.store.proofs.Confines.{filled, refused_within}
use Rattle.store.proofs.within.check_within.Goals as goal

pub returns-clause-refusal : goal.returns-clause-refusal
returns-clause-refusal c =
    let old = c.args.room.now in
    let w = c.args.wanted in
    let few : length w.bytes.now ≤ most_bytes old.long = search (rules, arith, nat_tests) in
    let short : w.arg_len ≤ most_argument old.long = search (rules, arith, nat_tests) in
    let read : Result Checked InstallRefusal = installed_program old.shapes w.mode w.arg_len w.bytes.now in
    let cleared = c.clear.ensures.none in
    let ok : IsOk read = subst (λ (v : InstalledView). IsOk (installed_program v.shapes w.mode w.arg_len w.bytes.now)) cleared c.in_default.ensures.reading in
    let room : c.install.new.self ≡ after_install read (no_programs old.shapes old.places old.long) =
    subst (λ (v : InstalledView). c.install.new.self ≡ after_install (installed_program v.shapes w.mode w.arg_len w.bytes.now) v) cleared c.install.ensures.programs in
    let f = filled old.shapes old.places old.long read c.install.new.self ok room in
    let is : checked_in c.in-Some.program.now ≡ f.program = same_Some (checked_in c.in-Some.program.now) f.program (c.in-Some.ensures.program ∙ f.first) in
    let refused = refused_within old.shapes old.long w.maps (program_within w) few short f.program f.was_read in
    subst (λ (o : Option StoreRefused). IsRefusedAs o c.check_maps.result) (sym (refused ∙ ap (λ (p : Checked). outside_refusal w.maps p.program) (sym is))) c.check_maps.ensures.refusal
