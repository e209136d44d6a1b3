-- One visit, in the code's terms.
use Rattle.std.proofs.Common.{◌≡◌, ℕ, ◌<◌, length, get_or, Option, Some, None, refl, sym, ap, ◌∙◌, inl, inr, subst}
use Rattle.std.specs.Prelude.{slice_get, ◌↔◌}
use Rattle.std.proofs.lemmas.Option.{slice_get_read}
use Rattle.std.proofs.Math.ListN.{length-set}
use Rattle.insn.specs.declared.instruction.Form.{Form}
use Rattle.insn.specs.declared.instruction.Edge.{Edge}
use Rattle.regkind.specs.Frames.{Frame}
use Rattle.verifier.specs.Pass.{Table, IsForward, FlowsInto, Follows}

pub read_here : (xs : Table) (s : ℕ) (x : Option Frame) (f : Frame) → s < length xs → x ≡ get_or xs s x → x ≡ Some f → slice_get xs s ≡ Some (Some f)
read_here xs s x f lt e is = slice_get_read xs (length xs) s x refl lt e ∙ ap Some is

pub same_length : (i : Form) (s : ℕ) (e : Edge) (f : Frame) (old new : Table) → Follows i s e f old new → length new ≡ length old
same_length i s e f old new (inl h) = ap length h.2.written ∙ simp length-set refl
same_length i s e f old new (inr h) = ap length h.1

-- a target that was found, and one that wasn't
pub goes : (i : Form) (s : ℕ) (e : Edge) (f : Frame) (old new : Table) (n : ℕ) (o : Option ℕ) (t : ℕ) → n ≡ length old → ((u : ℕ) → (o ≡ Some u) ↔ IsForward i s e u n) → o ≡ Some t → FlowsInto old new t f → Follows i s e f old new
goes i s e f old new n o t long law is flows = inl (t, subst (IsForward i s e t) long ((law t).0 is), flows)

pub goes_not : (i : Form) (s : ℕ) (e : Edge) (f : Frame) (old : Table) (n : ℕ) (o : Option ℕ) → n ≡ length old → ((u : ℕ) → (o ≡ Some u) ↔ IsForward i s e u n) → o ≡ None → Follows i s e f old old
goes_not i s e f old n o long law is = inr (λ t h. let some = (law t).1 (subst (IsForward i s e t) (sym long) h) in cc, refl)
