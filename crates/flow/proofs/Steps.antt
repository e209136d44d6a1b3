-- What one instruction adds to the pass over a program.
use Rattle.std.proofs.Common.{◌≡◌, ℕ, ◌+◌, Bool, true, false, cond, not, [], ◌∷◌, Option, Some, None, refl, sym, ap, ◌∙◌, arith}
use Rattle.std.specs.Prelude.{◌&&◌, nat_eq, find, ℤ, pos, negsuc, ◌≤ℤ◌, nat_abs}
use Rattle.std.proofs.lemmas.Bool.{or_right, eq-eqb}
use Rattle.std.proofs.lemmas.Int.{ints}
use Rattle.std.specs.Option.{option_or}
use Rattle.std.proofs.lemmas.List.Folds.{find-append}
use Rattle.insn.specs.declared.instruction.Form.{Form}
use Rattle.insn.specs.Layout.{slot_count, falls_through}
use Rattle.insn.specs.declared.instruction.Edge.TheVariants.{Fall}
use Rattle.flow.specs.declared.rules.StructureRule.{StructureRule}
use Rattle.flow.specs.declared.rules.StructureRule.TheVariants.{RunsOffTheEnd, Unreachable}
use Rattle.flow.specs.Faults.{leads_to, jump_is, is_slot, jump_target, is_broken, rules_of_jumps, first_rule}
use Rattle.flow.proofs.Jumps.{edge_tested}

pub fall_leads : (i : Form) (s : ℕ) → falls_through i ≡ true → leads_to (Some i) s (s + slot_count i) ≡ true
fall_leads i s h = edge_tested i s (s + slot_count i) Fall (h, refl)

pub jump_leads : (i : Form) (s t : ℕ) → jump_is (is_slot t) (jump_target i s) ≡ true → leads_to (Some i) s t ≡ true
jump_leads i s t h = or_right _ _ h

-- a target that isn't below 0 is a slot
pub own_slot : (o : Option ℤ) (z w : ℤ) → o ≡ Some z → w ≡ z → pos 0 ≤ℤ w → jump_is (is_slot (nat_abs w)) o ≡ true
own_slot o z (negsuc k) e same h = absurd (omega (arith, ints, h))
own_slot o z (pos t) e same h = ap (jump_is (is_slot t)) e ∙ ap (is_slot t) (sym same) ∙ eq-eqb t t refl

-- ---- the first rule that an instruction breaks

module _ (n : ℕ) (halves : ℕ → Bool) (reached : Bool) (i : Form) (s : ℕ) where
  abbrev pub jump_rule : Option StructureRule
  jump_rule = find (is_broken n halves reached i s) rules_of_jumps

  abbrev pub other_rule : Option StructureRule
  other_rule = cond (falls_through i && nat_eq (s + slot_count i) n) (Some RunsOffTheEnd) (cond (not reached) (Some Unreachable) None)

  by_parts : first_rule n halves reached i s ≡ option_or jump_rule other_rule
  unfolding first_rule
  by_parts = find-append (is_broken n halves reached i s) rules_of_jumps (RunsOffTheEnd ∷ Unreachable ∷ [])

  pub jump_breaks : (v : StructureRule) → Some v ≡ jump_rule → Some v ≡ first_rule n halves reached i s
  jump_breaks v h = ap (λ o. option_or o other_rule) h ∙ sym by_parts

  jump_passes : None ≡ jump_rule → other_rule ≡ first_rule n halves reached i s
  jump_passes h = ap (λ o. option_or o other_rule) h ∙ sym by_parts

  pub end_breaks : None ≡ jump_rule → (falls_through i && nat_eq (s + slot_count i) n) ≡ true → Some RunsOffTheEnd ≡ first_rule n halves reached i s
  end_breaks h ends = ap (λ b. cond b (Some RunsOffTheEnd) (cond (not reached) (Some Unreachable) None)) (sym ends) ∙ jump_passes h

  pub end_passes : None ≡ jump_rule → (falls_through i && nat_eq (s + slot_count i) n) ≡ false → cond (not reached) (Some Unreachable) None ≡ first_rule n halves reached i s
  end_passes h ends = ap (λ b. cond b (Some RunsOffTheEnd) (cond (not reached) (Some Unreachable) None)) (sym ends) ∙ jump_passes h
