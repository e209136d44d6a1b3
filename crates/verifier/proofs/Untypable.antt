-- Where a rule is broken under the joined frames, no frames at all are a typing.
use Rattle.std.proofs.Common.{◌≡◌, ℕ, zero, suc, ◌<◌, ◌≤◌, List, Some, None, sym, arith, subst}
use Rattle.std.specs.List.{AllByRecursion}
use Rattle.std.proofs.lemmas.Option.{same_Some}
use Rattle.insn.specs.declared.instruction.Form.{Form}
use Rattle.insn.specs.Encoding.{HasEncoding}
use Rattle.regkind.specs.Frames.{Frame, Covers, entry_frame}
use Rattle.regkind.proofs.Export.{covers_trans}
use Rattle.flow.specs.Structure.{StandsAt}
use Rattle.verifier.specs.declared.refusal.VerifyFault.{VerifyFault}
use Rattle.verifier.specs.Signature.{Signature}
use Rattle.verifier.specs.Rules.{first_broken}
use Rattle.verifier.specs.FrameAfter.{frame_after}
use Rattle.verifier.specs.Typing.{Frames, IsTyping, IsTypable, ComesTo, IsKnownAt, FirstBrokenKind}
use Rattle.verifier.proofs.Monotone.{check_mono, after_mono}
use Rattle.verifier.proofs.Slots.{each_standing}

module _ (p : List Form) (l : Signature) (all : AllByRecursion HasEncoding p) (F : Frames) (types : IsTyping p l F) (J : Frames) (last : ℕ) (joined : (i : Form) (t : ℕ) → StandsAt p i t → t ≤ last → IsKnownAt p (λ s. Some (J s)) t) where
  -- any typing says at most what the joined frames say
  pub covered : (n t : ℕ) (x : Form) → StandsAt p x t → t < n → t ≤ last → Covers (F t) (J t)
  covered zero t x here lt le = absurd (omega arith)
  covered (suc n) t x here lt le = (joined x t here le).no_less (F t) (comes (λ i s stands below. covered n s i stands (omega arith) (omega arith)))
    where
      comes : ((i : Form) (s : ℕ) → StandsAt p i s → s < t → Covers (F s) (J s)) → (g : Frame) → ComesTo p (λ s. Some (J s)) t g → Covers (F t) g
      comes lower g (ComesTo.entry z) = subst (λ x. Covers (F x) entry_frame) (sym z) types.entry
      comes lower g (ComesTo.along i s e f leads below is) =
          subst (λ y. Covers (F t) (frame_after i y e)) (same_Some (J s) f is)
          (covers_trans _ _ _ (types.edges i s t e leads)
          (after_mono l i (F s) (J s) e (each_standing HasEncoding p all i s leads.0) (types.frames s) (joined i s leads.0 (omega arith)).frame (lower i s leads.0 below) (types.each i s leads.0)))

  pub unbroken : (i : Form) → StandsAt p i last → first_broken l i (J last) ≡ None
  unbroken i stands =
      check_mono l i (F last) (J last) (each_standing HasEncoding p all i last stands) (types.frames last) (joined i last stands (omega arith)).frame (covered (suc last) last i stands (omega arith) (omega arith)) (types.each i last stands)

pub untypable : (p : List Form) (l : Signature) (s : ℕ) (why : VerifyFault) → AllByRecursion HasEncoding p → FirstBrokenKind p l s why → IsTypable p l → ⊥
untypable p l s why all broken typed =
    let none = unbroken p l all typed.1.0 typed.1.1 broken.frames s broken.joined broken.instruction broken.stands in
    let some = broken.broken in
    cc
