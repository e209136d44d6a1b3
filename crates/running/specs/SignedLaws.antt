-- What `run --signed` finds in a line of `run`.
use Rattle.std.specs.Prelude.{◌≡◌, ℕ, ◌^◌, ◌<◌, List, ◌++◌, codes, Some}
use Rattle.running.specs.RunAnswer.{update_text, read_text, install_text}
use Rattle.running.specs.Signed.{reply_in}

-- what stands before the line feed tells this reply
abbrev pub Tells : List ℕ → ℕ → Type 0
Tells text reply = (line : List ℕ) → text ≡ line ++ codes "\n" → reply_in line ≡ Some reply

-- the line of an update, of a read and of an install tells its reply
pub record RepliesAreTold : Type 0 where
  pub update : (index reply steps : ℕ) → index < 2 ^ 64 → reply < 2 ^ 64 → Tells (update_text index reply steps) reply
  pub read : (point reply steps : ℕ) → point < 2 ^ 64 → reply < 2 ^ 64 → Tells (read_text point reply steps) reply
  pub install : (index reply : ℕ) → index < 2 ^ 64 → reply < 2 ^ 64 → Tells (install_text index reply) reply
