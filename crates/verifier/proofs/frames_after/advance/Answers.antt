use Rattle.std.proofs.Common.{◌≡◌, ℕ, ℤ, false, None, subst, of_z, to_z}
use Rattle.std.specs.Prelude.{◌||◌, not}
use Rattle.std.specs.Int.{w16}
use Rattle.std.proofs.lemmas.Int.{to_z-of_z}
use Rattle.std.proofs.lemmas.Bool.{not-false}
use Rattle.insn.specs.declared.instruction.Form.{Form}
use Rattle.insn.specs.declared.instruction.Form.TheVariants.{Store}
use Rattle.insn.specs.declared.instruction.Size.{Size}
use Rattle.insn.specs.declared.instruction.Source.{Source}
use Rattle.insn.specs.Encoding.{HasEncoding}
use Rattle.insn.specs.Sizes.{byte_count}
use Rattle.regkind.specs.declared.frames.Kind.{Kind}
use Rattle.regkind.specs.declared.frames.Kind.TheVariants.{Stack}
use Rattle.regkind.specs.Frames.{Frame, kind}
use Rattle.verifier.specs.Signature.{Signature}
use Rattle.verifier.specs.Regions.{is_within, StaysInStack}
use Rattle.verifier.specs.Rules.{first_broken}
use Rattle.verifier.proofs.Broken.{or_parts, unbroken_rules}
use Rattle.verifier.proofs.frames_after.advance.Goals as goal

stays : (l : Signature) (k : Kind) (d : ℤ) (n : ℕ) → not (is_within l k d n) || false ≡ false → StaysInStack k d n
stays l (Stack o) d n e = not-false _ (or_parts _ _ e).0
stays l k d n e = tt

-- a store that breaks no rule and goes into the stack stays there
store_stays : (l : Signature) (f : Frame) (size : Size) (dst : ℕ) (off : ℤ) (src : Source) → first_broken l (Store size dst off src) f ≡ None → StaysInStack (kind f dst) off (byte_count size)
store_stays l f size dst off src e = stays l (kind f dst) off (byte_count size) (unbroken_rules l (Store size dst off src) f e).1.1.1.1.0

pub after_store-requires-clause-within : goal.after_store-requires-clause-within
after_store-requires-clause-within c =
    let i = Store c.in-Store.size c.in-Store.dst c.in-Store.off c.in-Store.src in
    let encoded : HasEncoding i = subst HasEncoding c.in-Store.is c.requires.instruction in
    let read : to_z w16 (of_z w16 c.in-Store.off) ≡ c.in-Store.off = to_z-of_z w16 c.in-Store.off encoded.2 in
    let unbroken = subst (λ (j : Form). first_broken c.args.l.now j c.args.f.now ≡ None) c.in-Store.is c.requires.unbroken in
    rw (read, c.kind-base.ensures.kind, c.bytes-in-Store.ensures.count) (store_stays c.args.l.now c.args.f.now c.in-Store.size c.in-Store.dst c.in-Store.off c.in-Store.src unbroken)
