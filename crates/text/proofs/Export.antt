-- The lemmas that other crates may cite.
pub use Rattle.text.proofs.ByteCuts.{cut_none, cut_some, first_is}
pub use Rattle.text.proofs.Cuts.{if_true, split_from, split_to, steps, unless}
pub use Rattle.text.proofs.DigitTexts.{all_digits, digits_are_text}
pub use Rattle.text.proofs.FirstLines.{HasNoFeed, lines_of-cut}
pub use Rattle.text.proofs.LineReadings.{IsSilent, by_empty, by_hash, by_kind_from, by_words}
pub use Rattle.text.proofs.Numbers.{own}
pub use Rattle.text.proofs.Numerals.{numerals_are_decimals}
pub use Rattle.text.proofs.SpacedBytes.{good_from, spaced_are_bytes}
