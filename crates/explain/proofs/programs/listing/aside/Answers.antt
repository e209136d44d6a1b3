use Rattle.std.proofs.Common.{sym, ◌∙◌}
use Rattle.explain.proofs.Lines.{aside_is}
use Rattle.explain.proofs.programs.listing.aside.Goals as goal

pub returns : goal.returns
returns c =
    aside_is c.args.columns c.saturating_sub.result c.args.told.now _ _ _ _ (sym c.is_empty.ensures ∙ c.if-is_empty.false) c.saturating_sub.ensures c.new-out.ensures.bytes c.in_ok-push_str.ensures.bytes
    c.in_ok-put_blanks.ensures c.in_ok-push_str-2.ensures.bytes
