-- The lemmas that other crates may cite.
pub use Rattle.encoding.proofs.DecodedValues.{mapped}
pub use Rattle.encoding.proofs.WrittenLines.{is_feedless, line_feedless, line_or_call, line_text, lines_are_written, lines_feedless, no_feed, split_behind}
