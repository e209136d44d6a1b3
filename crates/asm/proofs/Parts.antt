-- Tokens that are plain: their bytes end no part of a line.
use Rattle.std.proofs.Common.{◌≡◌, ℕ, ◌<◌, Bool, true, false, not, cond, ◌&&◌, ltb, eqb, List, [], ◌∷◌, ◌++◌, length, take, drop, Result, Ok, refl, ap, ◌∙◌, arith}
use Rattle.std.specs.List.{list_all, position_or_len}
use Rattle.std.proofs.lemmas.Bool.Decides.{nat_tests}
use Rattle.std.proofs.lemmas.Bool.{and_parts, not-true}
use Rattle.asm.specs.declared.tokens.Stop.{Stop}
use Rattle.asm.specs.declared.tokens.Stop.TheVariants.{LineFeed, Semicolon, Visible, TokenEnd, Colon}
use Rattle.asm.specs.declared.refusals.AsmFault.{AsmFault}
use Rattle.asm.specs.Tokens.{◌>>=◌, Parts, stops, before, rest_from, operand_of, next_operand_of, operands_of, third_operand, parts}
use Rattle.asm.specs.Text.{operand_text}

-- none of white space, `,`, `:` and `;`
abbrev pub is_plain : ℕ → Bool
is_plain c = ltb 32 c && (not (eqb c 44) && (not (eqb c 58) && not (eqb c 59)))

-- a token: some plain bytes
pub record IsToken (t : List ℕ) : Type 0 where
  pub some : 0 < length t
  pub plain : list_all is_plain t ≡ true

abbrev pub passes : Stop → List ℕ → Type 0
passes stop xs = list_all (λ c. not (stops stop c)) xs ≡ true

-- a rest is empty, or begins where a part ends
abbrev pub ends : Stop → List ℕ → Bool
ends stop [] = true
ends stop (c ∷ cs) = stops stop c

pub list_all-append : (p : ℕ → Bool) (xs ys : List ℕ) → list_all p xs ≡ true → list_all p ys ≡ true → list_all p (xs ++ ys) ≡ true
list_all-append p [] ys h k = k
list_all-append p (x ∷ xs) ys h k = let both = and_parts (p x) (list_all p xs) h in rw both.0 (list_all-append p xs ys both.1 k)

pub list_all-weaken : (p q : ℕ → Bool) → ((c : ℕ) → p c ≡ true → q c ≡ true) → (xs : List ℕ) → list_all p xs ≡ true → list_all q xs ≡ true
list_all-weaken p q f [] h = refl
list_all-weaken p q f (x ∷ xs) h = let both = and_parts (p x) (list_all p xs) h in rw (f x both.0) (list_all-weaken p q f xs both.1)

length-before : (stop : Stop) (xs ys : List ℕ) → passes stop xs → ends stop ys ≡ true → position_or_len (stops stop) (xs ++ ys) ≡ length xs
length-before stop [] [] h e = refl
length-before stop [] (y ∷ ys) h e = rw e refl
length-before stop (x ∷ xs) ys h e =
    let both = and_parts (not (stops stop x)) (list_all (λ c. not (stops stop c)) xs) h in
    let here : stops stop x ≡ false = not-true (stops stop x) both.0 in
    rw (here, length-before stop xs ys both.1 e) (omega arith)

pub take-append : (xs ys : List ℕ) → take (length xs) (xs ++ ys) ≡ xs
take-append [] ys = refl
take-append (x ∷ xs) ys = ap (λ zs. x ∷ zs) (take-append xs ys)

drop-append : (xs ys : List ℕ) → drop (length xs) (xs ++ ys) ≡ ys
drop-append [] ys = refl
drop-append (x ∷ xs) ys = drop-append xs ys

-- a text is cut where its first part ends
pub before-cut : (stop : Stop) (xs ys : List ℕ) → passes stop xs → ends stop ys ≡ true → before stop (xs ++ ys) ≡ xs
unfolding before
before-cut stop xs ys h e = rw (length-before stop xs ys h e) (take-append xs ys)

pub rest-cut : (stop : Stop) (xs ys : List ℕ) → passes stop xs → ends stop ys ≡ true → rest_from stop (xs ++ ys) ≡ ys
unfolding rest_from
rest-cut stop xs ys h e = rw (length-before stop xs ys h e) (drop-append xs ys)

-- plain bytes end no part
plain_passes : (c : ℕ) → is_plain c ≡ true → (not (stops LineFeed c) ≡ true) × (not (stops Semicolon c) ≡ true) × (not (stops TokenEnd c) ≡ true) × (not (stops Colon c) ≡ true) × (stops Visible c ≡ true)
plain_passes c h = (grind (arith, nat_tests), grind (arith, nat_tests), grind (arith, nat_tests), grind (arith, nat_tests), grind (arith, nat_tests))

pub no_feed : (t : List ℕ) → list_all is_plain t ≡ true → passes LineFeed t
no_feed = list_all-weaken is_plain (λ c. not (stops LineFeed c)) (λ c h. (plain_passes c h).0)

pub no_semicolon : (t : List ℕ) → list_all is_plain t ≡ true → passes Semicolon t
no_semicolon = list_all-weaken is_plain (λ c. not (stops Semicolon c)) (λ c h. (plain_passes c h).1)

pub no_end : (t : List ℕ) → list_all is_plain t ≡ true → passes TokenEnd t
no_end = list_all-weaken is_plain (λ c. not (stops TokenEnd c)) (λ c h. (plain_passes c h).2)

pub no_colon : (t : List ℕ) → list_all is_plain t ≡ true → passes Colon t
no_colon = list_all-weaken is_plain (λ c. not (stops Colon c)) (λ c h. (plain_passes c h).3)

-- a token is visible
pub is_visible : (t rest : List ℕ) → IsToken t → ends Visible (t ++ rest) ≡ true
is_visible [] rest h = absurd (omega (arith, h.some))
is_visible (c ∷ cs) rest h = (plain_passes c (and_parts (is_plain c) (list_all is_plain cs) h.plain).0).4

-- ---- operands

pub operand-token : (t rest : List ℕ) → IsToken t → ends TokenEnd rest ≡ true → operand_of (32 ∷ (t ++ rest)) ≡ (t, rest)
operand-token t rest h e =
    let visible : rest_from Visible (32 ∷ (t ++ rest)) ≡ t ++ rest = rest-cut Visible (32 ∷ []) (t ++ rest) refl (is_visible t rest h) in
    rw (visible, before-cut TokenEnd t rest (no_end t h.plain) e, rest-cut TokenEnd t rest (no_end t h.plain) e) refl

pub next_operand-token : (t rest : List ℕ) → IsToken t → ends TokenEnd rest ≡ true → next_operand_of (44 ∷ 32 ∷ (t ++ rest)) ≡ Ok (t, rest)
unfolding next_operand_of
next_operand-token t rest h e =
    let visible : rest_from Visible (44 ∷ 32 ∷ (t ++ rest)) ≡ 44 ∷ 32 ∷ (t ++ rest) = rest-cut Visible [] (44 ∷ 32 ∷ (t ++ rest)) refl refl in
    rw visible (ap Ok (operand-token t rest h e))

pub no_operand : operands_of 0 (operand_text []) ≡ Ok (parts [] [] [] [])
unfolding operands_of
no_operand = refl

pub one_operand : (a : List ℕ) → IsToken a → operands_of 1 (operand_text (a ∷ [])) ≡ Ok (parts a [] [] [])
unfolding operands_of
one_operand a h = ap (λ x. Ok (parts x.0 [] [] x.1)) (operand-token a [] h refl)

-- the operands behind the first
behind_first : ℕ → List ℕ × List ℕ → Result Parts AsmFault
behind_first count first = next_operand_of first.1 >>= (λ second. cond (eqb count 2) (Ok (parts first.0 second.0 [] second.1)) (third_operand first.0 second))

pub two_operands : (a b : List ℕ) → IsToken a → IsToken b → operands_of 2 (operand_text (a ∷ b ∷ [])) ≡ Ok (parts a b [] [])
unfolding operands_of behind_first
two_operands a b h k =
    ap (behind_first 2) (operand-token a (44 ∷ 32 ∷ (b ++ [])) h refl)
    ∙ ap (λ r. r >>= (λ second. Ok (parts a second.0 [] second.1))) (next_operand-token b [] k refl)

pub three_operands : (a b d : List ℕ) → IsToken a → IsToken b → IsToken d → operands_of 3 (operand_text (a ∷ b ∷ d ∷ [])) ≡ Ok (parts a b d [])
unfolding operands_of behind_first third_operand
three_operands a b d h k l =
    ap (behind_first 3) (operand-token a (44 ∷ 32 ∷ (b ++ (44 ∷ 32 ∷ (d ++ [])))) h refl)
    ∙ ap (λ r. r >>= (λ second. third_operand a second)) (next_operand-token b (44 ∷ 32 ∷ (d ++ [])) k refl)
    ∙ ap (λ r. r >>= (λ third. Ok (parts a b third.0 third.1))) (next_operand-token d [] l refl)
