-- The line of one program after another, with the maps that it names.
use Rattle.std.proofs.Common.{◌≡◌, ℕ, zero, suc, ◌+◌, List, [], ◌∷◌, ◌++◌, slice_get, take, Option, Some, None, refl, sym, ap, ◌∙◌, subst, option_map, append_assoc, append-nil, arith}
use Rattle.verifier.specs.Accepted.{Checked}
use Rattle.loader.specs.CatalogueView.{Entry}
use Rattle.console.specs.MapsAnswer.{AddsLineAt, AreMapsLines, field_of, fields_below}

-- what is there, or else this
abbrev or : {X : Type 0} → Option X → X → X
or None x = x
or (Some y) x = y

-- an entry is its name and its program
pub named_entry : (o : Option Entry) (name : List ℕ) (checked : Checked) → Some name ≡ option_map (λ e. e.name) o → Some checked ≡ option_map (λ e. e.checked) o → o ≡ Some (record { name = name; checked = checked })
named_entry None name checked same is = absurd cc
named_entry (Some e) name checked same is = λ i. Some (record { name = ap (λ o. or o name) (sym same) i; checked = ap (λ o. or o checked) (sym is) i })

-- the number of one map more
pub map_more : (maps k : ℕ) (start before after : List ℕ) → before ≡ start ++ fields_below k maps
    → after ≡ before ++ field_of maps k → after ≡ start ++ fields_below (k + 1) maps
map_more maps k start before after is one =
    let count : suc k ≡ k + 1 = omega arith in
    one ∙ ap (λ t. t ++ field_of maps k) is ∙ append_assoc start (fields_below k maps) (field_of maps k) ∙ ap (λ n. start ++ fields_below n maps) count

-- behind a line stands one more, if there is one
behind : (line rest before after : List ℕ) (o : Option Entry) → before ≡ line ++ rest → AddsLineAt o before after
    → (more : List ℕ) × AddsLineAt o rest more × (after ≡ line ++ more)
behind line rest before after None is same = (rest, refl, same ∙ is)
behind line rest before after (Some e) is (l, lines, put) = (rest ++ l, (l, lines, refl), put ∙ ap (λ t. t ++ l) is ∙ append_assoc line rest l)

more : (es : List Entry) (k : ℕ) (before after : List ℕ) → AreMapsLines (take k es) before
    → AddsLineAt (slice_get es k) before after → AreMapsLines (take (suc k) es) after
more [] zero before after so_far same = same ∙ so_far
more [] (suc k) before after so_far same = same ∙ so_far
more (e ∷ es) zero before after so_far (l, is, put) = (l, [], is, refl, put ∙ (ap (λ t. t ++ l) so_far ∙ sym (append-nil l)))
more (e ∷ es) (suc k) before after (line, rest, is, lines, cut) one =
    let b = behind line rest before after (slice_get es k) cut one in
    (line, b.0, is, more es k rest b.0 lines b.1, b.2)

-- the lines of one program more
pub lines_more : (es : List Entry) (k : ℕ) (before after : List ℕ) → AreMapsLines (take k es) before
    → AddsLineAt (slice_get es k) before after → AreMapsLines (take (k + 1) es) after
lines_more es k before after so_far one =
    let count : suc k ≡ k + 1 = omega arith in
    subst (λ n. AreMapsLines (take n es) after) count (more es k before after so_far one)
