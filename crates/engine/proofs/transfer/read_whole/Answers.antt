use Rattle.std.proofs.Common.{◌≡◌, ℕ, ◌++◌, List, [], Option, Some, None, take, sym, ap, ◌∙◌, append_assoc, arith, rules, tests}
use Rattle.std.specs.Prelude.{IfSome}
use Rattle.std.specs.Io.KnownBytes.{Consumes, IsAtEnd}
use Rattle.std.proofs.lemmas.List.{append-nil}
use Rattle.engine.proofs.transfer.read_whole.Goals as goal

consumes_more : (old now new : Option (List ℕ)) (a b all : List ℕ) → Consumes old now a → Consumes now new b → all ≡ a ++ b → Consumes old new all
consumes_more None now new a b all p q e = tt
consumes_more (Some x) None new a b all p q e = absurd p
consumes_more (Some x) (Some y) None a b all p q e = absurd q
consumes_more (Some x) (Some y) (Some z) a b all p q e = p ∙ ap (λ t. a ++ t) q ∙ sym (append_assoc a b z) ∙ ap (λ t. t ++ z) (sym e)

consumed_all : (old now new : Option (List ℕ)) (a b : List ℕ) → Consumes old now a → Consumes now new b → b ≡ [] → IsAtEnd new → IfSome old (λ x. a ≡ x)
consumed_all None now new a b p q e f = tt
consumed_all (Some x) None new a b p q e f = absurd p
consumed_all (Some x) (Some y) None a b p q e f = absurd q
consumed_all (Some x) (Some y) (Some z) a b p q e f = sym (p ∙ ap (λ t. a ++ t) (q ∙ ap (λ t. t ++ z) e ∙ f) ∙ append-nil a)

pub returns-then-n-eq0 : goal.returns-then-n-eq0
returns-then-n-eq0 g c =
    consumed_all (g.R.Read.remaining c.args.reader.now) (g.R.Read.remaining c.loop.reader) (g.R.Read.remaining c.read.new.self) c.loop.bytes.items (take c.in-Ok.n c.read.new.buf) c.loop.invariant
    c.in-Ok.ensures.bytes.0 (ap (λ k. take k c.read.new.buf) c.if-n-eq0.true) (c.in-Ok.ensures.bytes.1 c.if-n-eq0.true (omega arith))

pub loop-preserved : goal.loop-preserved
loop-preserved g c =
    let wrote : c.extend_from_slice.new.self.items ≡ c.loop.bytes.items ++ take c.in-Ok.n c.read.new.buf = search (tests, rules) in
    consumes_more (g.R.Read.remaining c.args.reader.now) (g.R.Read.remaining c.loop.reader) (g.R.Read.remaining c.read.new.self) c.loop.bytes.items (take c.in-Ok.n c.read.new.buf) _ c.loop.invariant
    c.in-Ok.ensures.bytes.0 wrote
