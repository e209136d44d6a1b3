-- What holds at each answer to a call that copies records.
use Rattle.std.specs.Prelude.{ℕ}
use Rattle.oplog.specs.declared.answers.CopyAnswer.{CopyAnswer}
use Rattle.oplog.specs.declared.answers.CopyAnswer.TheVariants.{Copied, Below}

-- P holds if the answer is `Copied`
abbrev pub IfCopied : CopyAnswer → Type 0 → Type 0
IfCopied Copied P = P
IfCopied (Below base) P = Unit {0}

-- P holds of the base, if the answer is `Below`
abbrev pub IfBelow : CopyAnswer → (ℕ → Type 0) → Type 0
IfBelow Copied P = Unit {0}
IfBelow (Below base) P = P base
