-- The lemmas that other crates may cite.
pub use Rattle.asm.proofs.Parts.{list_all-append}
pub use Rattle.asm.proofs.RoundTrip.{bare_line, cut_feedless, decimal_feedless, line_feedless}
