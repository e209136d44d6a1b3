use Rattle.std.proofs.Common.{refl, ap, map, ◌∷◌, [], ◌∙◌}
use Rattle.std.proofs.lemmas.List.{map-append}
use Rattle.loader.specs.LineShown.{program_of}
use Rattle.findings.proofs.Lines.{program_line}
use Rattle.findings.proofs.search.Search.take_program.Goals as goal

pub returns : goal.returns
returns c = λ line.
    let s = c.args.self.now in
    let p = program_of c.args.program in
    let names = ap (λ items. map (λ n. n.now) items) c.in_ok-push.ensures.items ∙ map-append (λ n. n.now) s.names.items (c.args.program.name ∷ []) in
    program_line s _ p line _ _ c.requires.within c.in_ok-add_asked.ensures (ap (λ ns. record { shapes = s.shapes.items; bad_map = s.bad_map; names = ns }) names) refl refl refl
