-- The verdict on a program, computed: the refusal that names the first rule that is broken, or none.
use Rattle.std.specs.Prelude.{◌≡◌, ℕ, zero, suc, List, Option, Some, None, Result, MatchResult}
use Rattle.std.specs.Option.{option_map}
use Rattle.insn.specs.declared.instruction.Form.{Form}
use Rattle.insn.specs.Layout.{size, instruction_at}
use Rattle.regkind.specs.Frames.{Frame}
use Rattle.flow.specs.declared.rules.Broken.{Broken}
use Rattle.flow.specs.Faults.{structure_fault}
use Rattle.verifier.specs.declared.refusal.VerifyFault.{VerifyFault}
use Rattle.verifier.specs.declared.refusal.Refused.{Refused}
use Rattle.verifier.specs.declared.refusal.VerifyError.{VerifyError}
use Rattle.verifier.specs.Signature.{Signature}
use Rattle.verifier.specs.Rules.{first_broken}
use Rattle.verifier.specs.Typing.{structure_reason, IfRefused}
use Rattle.verifier.specs.Joined.{joined_frame}

-- the refusal of a rule at a slot
abbrev pub refused : ℕ → VerifyFault → Refused
refused slot why = record { slot = slot; why = why }

-- the refusal of what stands at slot s, on the frame before it
abbrev pub refusal_of : Signature → Option Form → Option Frame → ℕ → Option Refused
refusal_of l (Some i) (Some f) s = option_map (refused s) (first_broken l i f)
refusal_of l o f s = None

-- the first of two refusals
abbrev pub or_else : Option Refused → Option Refused → Option Refused
or_else (Some e) other = Some e
or_else None other = other

-- the refusal at the lowest of the slots below n, under the joined frames
unfoldable pub lowest_refusal : List Form → Signature → ℕ → Option Refused
lowest_refusal p l zero = None
lowest_refusal p l (suc s) = or_else (lowest_refusal p l s) (refusal_of l (instruction_at p s) (joined_frame p s) s)

-- structure is decided for the whole program first
abbrev pub after_structure : Option Broken → Option Refused → Option Refused
after_structure (Some f) other = Some (refused f.slot (structure_reason f.rule))
after_structure None other = other

-- the verdict on a program
unfoldable pub verdict : List Form → Signature → Option Refused
verdict p l = after_structure (structure_fault p) (lowest_refusal p l (size p))

-- ---- answers

-- what is answered is this verdict: the refusal, or that there is none
abbrev pub IsVerdict : {A : Type 0} → Option Refused → Result A Refused → Type 0
IsVerdict computed answer = MatchResult answer (λ _. computed ≡ None) (λ e. computed ≡ Some e)

-- so it is, unless there is no memory left
abbrev pub IsVerdictOrNoMemory : {A : Type 0} → Option Refused → Result A VerifyError → Type 0
IsVerdictOrNoMemory computed answer = MatchResult answer (λ _. computed ≡ None) (IfRefused (λ e. computed ≡ Some e))
