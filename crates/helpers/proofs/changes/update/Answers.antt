use Rattle.std.proofs.Common.{◌≡◌, ◌<◌, true, ◌∙◌, arith}
use Rattle.std.proofs.lemmas.Bool.{not-false}
use Rattle.maps.specs.MapSets.{write_value}
use Rattle.helpers.specs.Helpers.{exist, noexist}
use Rattle.helpers.proofs.MapChanges.{put_written, insert_done, others_written}
use Rattle.helpers.proofs.changes.update.Goals as goal
use Rattle.helpers.proofs.changes.update.Goals.{else-flags-eq-NOEXIST-via-then-flags-eq-NOEXIST+else-not-inserted, else-flags-eq-NOEXIST-via-else-flags-eq-NOEXIST}

pub returns-clause-answers : goal.returns-clause-answers
returns-clause-answers c =
    let before = c.args.maps.now in let m = c.args.m in let key = c.args.key.now in
    let value = c.args.value.now in let r = c.in-Some.inserted in let h = c.in-Some.ensures in
    let after = c.insert.new.self in let w = c.copy_from_slice.new.self in
    let low : c.args.flags < exist = let a = c.if-flags-gt-EXIST.false in let b = c.if-flags-eq-EXIST.false in omega (arith, a, b) in
    let first : c.args.flags ≡ noexist → r.is_new ≡ true = elim c.else-flags-eq-NOEXIST.branch [
      | else-flags-eq-NOEXIST-via-then-flags-eq-NOEXIST+else-not-inserted w ↦ λ _. not-false r.is_new w.if-not-inserted.false
      | else-flags-eq-NOEXIST-via-else-flags-eq-NOEXIST w ↦ λ e. absurd (w.if-flags-eq-NOEXIST.false e)
    ] in
    insert_done before (write_value after r.entry w) m key value c.args.flags r.is_new c.requires.map h.found h.room low first
    (put_written before after m key value w r.entry c.requires.map h.written c.copy_from_slice.ensures.after c.requires.value)

pub returns-clause-others : goal.returns-clause-others
returns-clause-others c =
    λ n ne. others_written c.insert.new.self c.in-Some.inserted.entry c.copy_from_slice.new.self c.args.m n c.in-Some.ensures.entry.0 ne ∙ c.insert.ensures.others n ne
