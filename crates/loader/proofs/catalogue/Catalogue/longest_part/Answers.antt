use Rattle.std.proofs.Common.{◌≡◌, ℕ, suc, ◌+◌, max, List, [], ◌∷◌, ◌++◌, take, sym, ap, ◌∙◌, arith, rules}
use Rattle.std.proofs.Math.Seq.{take-suc}
use Rattle.std.proofs.lemmas.List.{take_all}
use Rattle.loader.specs.CatalogueView.{CatalogueView, Entry, longest_of}
use Rattle.loader.proofs.catalogue.Catalogue.longest_part.Goals as goal

longest_onto : (xs : List Entry) (e : Entry) → longest_of (xs ++ e ∷ []) ≡ max (longest_of xs) e.checked.arg_len
longest_onto [] e = omega arith
longest_onto (x ∷ xs) e = let rest = longest_onto xs e in omega (arith, rest)

pub loop-named-preserved : goal.loop-named-preserved
loop-named-preserved c =
    let all : List Entry = c.deref-named-items.result.now in
    let i : ℕ = c.loop-named.named-index in
    let e : Entry = c.named-item.result in
    let next : suc i ≡ i + 1 = omega arith in
    let more : longest_of (take (i + 1) all) ≡ max (longest_of (take i all)) e.checked.arg_len =
    ap (λ k. longest_of (take k all)) (sym next) ∙ ap longest_of (take-suc all i e c.loop-named-test.true) ∙ ap (λ x. longest_of (take i all ++ x ∷ [])) (sym c.named-item.is) ∙ longest_onto (take i all) e in
    let so_far = c.loop-named.invariant.so_far in
    let most = c.loop-named.invariant.most in
    let here : c.arg_len.result ≡ e.checked.arg_len = c.arg_len.ensures.length ∙ ap (λ p. p.arg_len) c.program.ensures in
    let limit = c.arg_len.ensures.limit in
    let given = c.arg_len.ensures.length in
    let greater : c.max-longest.result ≡ max c.loop-named.longest c.arg_len.result = search rules in
    record { so_far = omega (arith, more, so_far, here, greater); most = omega (arith, most, greater, limit, given) }

pub returns-clause-longest : goal.returns-clause-longest
returns-clause-longest c =
    let programs = c.loop-named.invariant.so_far ∙ ap longest_of (take_all c.loop-named.named-index c.deref-named-items.result.now c.loop-named-test.false) ∙ ap longest_of c.deref-named-items.ensures.value ∙ ap (λ v. longest_of v.programs) c.self.view_is in
    let long = ap (λ (v : CatalogueView). v.long) c.self.view_is in
    omega (arith, programs, long, c.max.ensures)
