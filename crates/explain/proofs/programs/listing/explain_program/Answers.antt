use Rattle.std.proofs.Common.{◌≡◌, ◌<◌, ◌++◌, ap, subst, sym, ◌∙◌}
use Rattle.insn.specs.declared.instruction.TheConstants.{MAX_SLOTS}
use Rattle.insn.specs.Layout.{size}
use Rattle.explain.specs.Listing.{line_of, head_text, verdict_on}
use Rattle.explain.specs.Study.{IsStudy}
use Rattle.explain.proofs.Lines.{explained, explained_long, kinds_are, listed_behind, none_of, some_is_none, some_of}
use Rattle.explain.proofs.programs.listing.explain_program.Goals as goal

pub put_lines-requires : goal.put_lines-requires
put_lines-requires c = some_of IsStudy _ c.in-Some.study c.in-Some.is c.in_ok-study.ensures.known

pub returns : goal.returns
returns c =
    let s = c.args.subject in
    let study = c.in-Some.study in
    let same = some_of (λ x. x.subject ≡ s) _ study c.in-Some.is c.in_ok-study.ensures.same in
    let refused = some_of (λ x. x.known.refused ≡ verdict_on s) _ study c.in-Some.is c.in_ok-study.ensures.refused in
    let known = some_of IsStudy _ study c.in-Some.is c.in_ok-study.ensures.known in
    let head = c.in_ok-put_head.ensures ∙ ap (λ t. t ++ head_text s.line (line_of s)) c.new-out.ensures.bytes in
    let k = study.known.kinds in
    let v = study.known.refused in
    record {
      told = λ can.
          explained s study.subject k v _ _ _ same (kinds_are study s same known can.few) refused head
          (listed_behind study.subject.program.now k v _ _ _ _ c.new-lines.ensures.bytes (rw c.as_str.ensures.value at c.in_ok-push_str.ensures.bytes) c.in_ok-put_lines.ensures.listed) c.in_ok-put_refusal.ensures can.few;
      long = λ fits many.
          explained_long s k v _ _ _ _ (none_of study s same known many) refused head
          (c.as_str.ensures.value ∙ c.in_ok-put_lines.ensures.long (subst (λ z. MAX_SLOTS < size z.program.now) (sym same) many) ∙ c.new-lines.ensures.bytes)
          c.in_ok-push_str.ensures.bytes c.in_ok-put_refusal.ensures;
      nothing = λ no. absurd (some_is_none study _ c.in-Some.is (c.in_ok-study.ensures.none no));
    }
