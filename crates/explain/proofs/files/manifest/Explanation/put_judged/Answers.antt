use Rattle.std.proofs.Common.{◌≡◌, None, [], ◌∷◌, ◌++◌}
use Rattle.std.specs.Prelude.{codes, decimal}
use Rattle.explain.specs.declared.programs.Subject.{Subject}
use Rattle.explain.specs.Listing.{CanBeJudged}
use Rattle.explain.specs.Explanation.{above_of}
use Rattle.loader.specs.LineShown.{program_of}
use Rattle.explain.proofs.Pieces.{both, on_ok}
use Rattle.explain.proofs.Judged.{judged_is, not_judged_is, maps_are_ok}
use Rattle.explain.proofs.files.manifest.Explanation.put_judged.Goals as goal

pub returns-in-Some : goal.returns-in-Some
returns-in-Some c =
    let s = c.args.self.now in
    let p = program_of c.args.line in
    let a = codes "\nline " ∷ decimal s.line ∷ codes ": " ∷ [] in
    let b = p.name ∷ codes " isn't judged, since the map of line " ∷ [] in
    let end = decimal c.in-Some.map ∷ codes " is bad\n" ∷ [] in
    let second = both a b _ _ _ (rw c.format.ensures.text at c.in_ok-put_all.ensures) c.in_ok-put_all-2.ensures in
    on_ok c.put_all-in-Some-2.result
    (λ put. not_judged_is s.line (above_of s) p _ _ c.in-Some.map c.args.program.now c.in-Some.is (both (a ++ b) end _ _ _ second (rw c.format-in-Some.ensures.text at put))) c.put_all-in-Some-2.ensures

pub returns : goal.returns
returns c =
    let s = c.args.self.now in
    let p = program_of c.args.line in
    let none : s.bad_map ≡ None = c.in_default.is in
    let ok = maps_are_ok s.limits (above_of s) c.requires.within c.requires.map none in
    let subject : Subject =
    record { name = c.args.line.name; line = s.line; file = c.args.line.file; mode = c.args.line.mode; arg_len = c.from.result; shapes = c.deref.result; program = c.args.program } in
    let can : CanBeJudged subject = record { shapes = rw c.deref.ensures.value ok; argument = rw c.from.ensures c.requires.argument; few = c.requires.few } in
    let tells = rw (c.from.ensures, c.deref.ensures.value) at (c.in_ok-told.ensures.told can) in
    on_ok c.put_all-2.result (λ put. judged_is s.line (above_of s) p _ _ _ c.args.program.now none (rw c.as_str.ensures.value at put) tells) c.put_all-2.ensures
