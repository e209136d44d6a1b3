use Rattle.std.proofs.Common.{sym, ◌∙◌}
use Rattle.explain.proofs.Lines.{ends, is_line}
use Rattle.explain.proofs.Pieces.{on_ok}
use Rattle.explain.proofs.programs.listing.put_line.Goals as goal

pub without_end-words-requires : goal.without_end-words-requires
without_end-words-requires c =
    let e = ends c.args.insn.now in
    (e.0, c.as_str.ensures.value ∙ c.in_ok-line.ensures ∙ e.1)

pub returns : goal.returns
returns c =
    let words = sym c.in_ok-line.ensures ∙ sym c.as_str.ensures.value ∙ c.without_end-words.ensures in
    on_ok c.put_all.result
    (λ put. is_line c.args.slot c.args.insn.now c.without_end-words.result.now c.args.told.now _ _ words (rw (c.margin.ensures, c.format.ensures.text, c.as_str-told.ensures.value, c.in_ok-aside.ensures) at put)) c.put_all.ensures
