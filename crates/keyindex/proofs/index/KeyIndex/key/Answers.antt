use Rattle.std.proofs.Common.{◌≡◌, ◌≢◌, ℕ, zero, suc, ◌+◌, ◌*◌, ◌-◌, ◌<◌, List, length, Some, take, drop, refl, sym, ap, ◌∙◌, arith}
use Rattle.std.proofs.lemmas.List.{get_or_read}
use Rattle.keyindex.specs.Indexes.{at, key_of, standing}
use Rattle.keyindex.proofs.Found.{key_is}
use Rattle.keyindex.proofs.index.KeyIndex.key.Goals as goal

-- the bytes of a node in use, as the code takes them
stands : (size n depth : ℕ) (keys block : List ℕ) → depth ≢ 0 → block ≡ keys → Some (take (n * size + size - n * size) (drop (n * size) block)) ≡ standing depth (key_of size keys n)
stands size n zero keys block used e = absurd (used refl)
stands size n (suc d) keys block used e =
    let len : n * size + size - n * size ≡ size = omega arith in
    ap (λ x. Some (take (n * size + size - n * size) (drop (n * size) x))) e ∙ (ap (λ w. Some (take w (drop (n * size) keys))) len ∙ ap Some (sym (key_is size keys n)))

pub returns-clause-key : goal.returns-clause-key
returns-clause-key c =
    let s = c.args.self.now in
    let n = c.args.place + 1 in
    let within : n < length s.depths.items = let free = s.room.free_len in let low = c.requires.place in omega (arith, free, low) in
    let depth : c.index.result.now ≡ at s.depths.items n = get_or_read s.depths.items n c.index.result.now within c.index.ensures 0 in
    stands s.size n (at s.depths.items n) s.keys.items c.deref.result.now (λ z. c.if-index-eq0.false (depth ∙ z)) c.deref.ensures.value
