use Rattle.std.proofs.Common.{◌≡◌, ℕ, Bool, true, false, [], ◌∷◌, Option, Some, None, refl, sym, ap, ◌∙◌, inl, inr, arith, subst}
use Rattle.std.specs.Prelude.{pos, ◌==◌, ◌⊎◌, IsSome}
use Rattle.std.proofs.lemmas.Bool.Decides.{nat_tests}
use Rattle.insn.specs.declared.instruction.Fields.{Fields}
use Rattle.insn.specs.declared.instruction.Form.{Form}
use Rattle.insn.specs.declared.instruction.Form.TheVariants.{Imm64}
use Rattle.opcodes.specs.declared.Uses.{Uses}
use Rattle.insn.specs.Encoding.{slot, low_imm}
use Rattle.opcodes.specs.Table.{uses_of}
use Rattle.insn.specs.Opcodes.{IsOpcodeOf}
use Rattle.insn.proofs.Rows.{own_fault, is_clean}
use Rattle.insn.proofs.Opcodes.{narrow_opcode}
use Rattle.insn.proofs.Spelled.{Narrow, Wide, spelled}
use Rattle.insn.proofs.uses.opcodes_are_those_of_instructions.Goals as goal

instruction_of : (o : ℕ) → IsSome (uses_of o) → (i : Form) × IsOpcodeOf o i
instruction_of o some = by (uses_of o) refl (o == 0x18) refl some
  where
    by : (u : Option Uses) → uses_of o ≡ u → (b : Bool) → (o == 0x18) ≡ b → IsSome (uses_of o) → (i : Form) × IsOpcodeOf o i
    by None h b w some = let no = subst IsSome h some in cc
    by (Some u) h false w some =
        let r = narrow_opcode o u h w in
        (r.2.form, record { encoded = r.2.encoded; first = r.0; rest = []; spelled = r.2.spelled; opcode_is = r.1 })
    by (Some u) h true w some =
        let wide : 0x18 ≡ o = grind (arith, nat_tests) in
        (Imm64 0 0, record { encoded = (omega arith, omega arith); first = slot 0x18 0 0 (pos 0) (low_imm 0); rest = slot 0 0 0 (pos 0) (low_imm 0) ∷ []; spelled = refl; opcode_is = wide })

is_known : (f : Fields) (o : ℕ) → own_fault f ≡ None → f.opcode ≡ o → IsSome (uses_of o)
is_known f o e same = let c = is_clean f e in subst IsSome (sym c.known ∙ ap uses_of same) refl

has_uses : (o : ℕ) (i : Form) → IsOpcodeOf o i → IsSome (uses_of o)
has_uses o i x = by (spelled i x.encoded)
  where
    by : Narrow i ⊎ Wide i → IsSome (uses_of o)
    by (inl n) = let e : x.first ∷ x.rest ≡ n.fields ∷ [] = sym x.spelled ∙ n.spelled in let same : n.fields ≡ x.first = cc in is_known n.fields o n.clean (ap (λ f. f.opcode) same ∙ x.opcode_is)
    by (inr w) = let e : x.first ∷ x.rest ≡ w.first ∷ w.second ∷ [] = sym x.spelled ∙ w.spelled in let same : w.first ≡ x.first = cc in is_known w.first o w.clean (ap (λ f. f.opcode) same ∙ x.opcode_is)

pub returns : goal.returns
returns c = λ o. (instruction_of o, λ x. has_uses o x.0 x.1)
