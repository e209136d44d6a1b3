use Rattle.std.proofs.Common.{rules, ◌∙◌}
use Rattle.std.proofs.lemmas.Map.Text.{btree_map_updates_str}
use Rattle.asm.specs.Labels.{marks_of}
use Rattle.asm.proofs.LabelLemmas.{new_mark}
use Rattle.asm.proofs.labels.Labels.note.Goals as goal

pub returns-in_ok-insert : goal.returns-in_ok-insert
returns-in_ok-insert c = λ q.
    btree_map_updates_str c.args.name.now c.args.self.now.marks c.insert.new.self _ c.in_ok-insert.ensures.updates q
    ∙ new_mark (marks_of c.args.self.now) c.args.name.now c.args.mark q (search rules)
