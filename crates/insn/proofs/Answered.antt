-- What an answer of `decode` says, by the function `decoded`.
use Rattle.std.proofs.Common.{◌≡◌, ℕ, List, refl, sym, ◌∙◌}
use Rattle.std.specs.Prelude.{Result, Ok, Err, Vec, IfOk, IfErr, MatchResult}
use Rattle.std.specs.Global.{Global}
use Rattle.insn.specs.declared.instruction.Form.{Form}
use Rattle.insn.specs.declared.decoding.DecodeRefusal.{DecodeRefusal}
use Rattle.insn.specs.declared.decoding.DecodeError.{DecodeError}
use Rattle.insn.specs.declared.decoding.DecodeError.TheVariants.{NoMemory, Refused}
use Rattle.insn.specs.Refusal.{AreBytes, Decodes, IsOnly, IsFirst}
use Rattle.insn.specs.Decoded.{decoded, DecodeFails}
use Rattle.insn.proofs.Laws.{read_is_spelled, spelled_is_read, read_is_refused}

abbrev pub Answer : Type 0
Answer = Result (Vec Form Global) DecodeError

abbrev pub ReadsAs : Answer → Result (List Form) DecodeRefusal → Type 0
ReadsAs r read = MatchResult r (λ v. read ≡ Ok v.items) (λ e. DecodeFails e read)

pub found_by : (bytes : List ℕ) (r : Answer) → AreBytes bytes → ReadsAs r (decoded bytes) → IfOk r (λ v. Decodes bytes v.items)
found_by bytes (Ok v) h reads = read_is_spelled bytes v.items h reads
found_by bytes (Err e) h reads = tt

pub only_this : (bytes : List ℕ) (r : Answer) → ReadsAs r (decoded bytes) → (p : List Form) → Decodes bytes p → IsOnly r p
only_this bytes (Ok v) reads p d = let same = sym reads ∙ spelled_is_read bytes p d in cc
only_this bytes (Err NoMemory) reads p d = refl
only_this bytes (Err (Refused e)) reads p d = let same = sym reads ∙ spelled_is_read bytes p d in cc

pub first_refusal : (bytes : List ℕ) (r : Answer) → AreBytes bytes → ReadsAs r (decoded bytes) → IfErr r (IsFirst bytes)
first_refusal bytes (Ok v) h reads = tt
first_refusal bytes (Err NoMemory) h reads = tt
first_refusal bytes (Err (Refused e)) h reads = read_is_refused bytes e h reads
