-- The parts of a line: tokens, and operands between commas.
use Rattle.std.specs.Prelude.{ℕ, Bool, not, ◌||◌, ◌==◌, List, [], ◌∷◌, ◌++◌, take, drop, slice_index, Result, Ok, Err, if◌then◌else◌}
use Rattle.std.specs.Borrow.{Bor}
use Rattle.std.specs.List.{position_or_len}
use Rattle.asm.specs.declared.refusals.AsmFault.{AsmFault}
use Rattle.asm.specs.declared.refusals.AsmFault.TheVariants.{BadOperand}
use Rattle.asm.specs.declared.tokens.Stop.{Stop}
use Rattle.asm.specs.declared.tokens.Stop.TheVariants.{LineFeed, Semicolon, Visible, TokenEnd, Colon, Sign}
use Rattle.asm.specs.declared.tokens.Operands.{Operands}

-- ---- steps that may fail

infixl 10 ◌>>=◌
abbrev pub ◌>>=◌ : {A B E : Type 0} → Result A E → (A → Result B E) → Result B E
Ok x >>= f = f x
Err e >>= f = Err e

-- the answer, its value seen by view
abbrev pub result_map : {A B E : Type 0} → (A → B) → Result A E → Result B E
result_map view (Ok x) = Ok (view x)
result_map view (Err e) = Err e

-- ---- tokens

-- space, tab and carriage return
abbrev pub is_blank : ℕ → Bool
is_blank c = c == 32 || c == 9 || c == 13

-- what ends a part of a text
abbrev pub stops : Stop → ℕ → Bool
stops LineFeed c = c == 10
stops Semicolon c = c == 59
stops Visible c = not (is_blank c)
stops TokenEnd c = is_blank c || c == 44
stops Colon c = c == 58
stops Sign c = c == 43 || c == 45

-- what stands before the first byte that stops
unfoldable pub before : Stop → List ℕ → List ℕ
before stop text = take (position_or_len (stops stop) text) text

-- what stands from that byte on
unfoldable pub rest_from : Stop → List ℕ → List ℕ
rest_from stop text = drop (position_or_len (stops stop) text) text

abbrev pub pair_of : Bor (List ℕ) × Bor (List ℕ) → List ℕ × List ℕ
pair_of p = (p.0.now, p.1.now)

-- the token behind white space, which ends at white space or a comma, and what stands behind it
abbrev pub operand_of : List ℕ → List ℕ × List ℕ
operand_of text = (before TokenEnd (rest_from Visible text), rest_from TokenEnd (rest_from Visible text))

-- the token behind a comma, and what stands behind it
unfoldable pub next_operand_of : List ℕ → Result (List ℕ × List ℕ) AsmFault
next_operand_of text =
    if slice_index (rest_from Visible text) 0 == 44 then Ok (operand_of (drop 1 (rest_from Visible text))) else Err BadOperand

-- the operands of an instruction, empty where it has fewer, and what stands behind them
pub record Parts : Type 0 where
  pub first : List ℕ
  pub second : List ℕ
  pub third : List ℕ
  pub rest : List ℕ

abbrev pub parts : List ℕ → List ℕ → List ℕ → List ℕ → Parts
parts first second third rest = record { first = first; second = second; third = third; rest = rest }

abbrev pub parts_of : Operands → Parts
parts_of o = parts o.first.now o.second.now o.third.now o.rest.now

-- the third operand behind these two
unfoldable pub third_operand : List ℕ → List ℕ × List ℕ → Result Parts AsmFault
third_operand first second = do
  third ← next_operand_of second.1
  Ok (parts first second.0 third.0 third.1)

-- so many operands, at most 3, of the text behind a word
unfoldable pub operands_of : ℕ → List ℕ → Result Parts AsmFault
operands_of count text =
    if count == 0 then Ok (parts [] [] [] text)
    else if count == 1 then Ok (parts (operand_of text).0 [] [] (operand_of text).1)
    else (next_operand_of (operand_of text).1
    >>= (λ second. if count == 2 then Ok (parts (operand_of text).0 second.0 [] second.1) else third_operand (operand_of text).0 second))

-- ---- the tokens of a line

-- a token, if it has a byte, before others
abbrev pub closed : List ℕ → List (List ℕ) → List (List ℕ)
closed [] tokens = tokens
closed (c ∷ cs) tokens = (c ∷ cs) ∷ tokens

-- the tokens of a text behind the beginning of one: white space and commas end a token, and a comma is a token
abbrev pub tokens_behind : List ℕ → List ℕ → List (List ℕ)
tokens_behind token [] = closed token []
tokens_behind token (c ∷ cs) =
    if is_blank c then closed token (tokens_behind [] cs)
    else if c == 44 then closed token ((44 ∷ []) ∷ tokens_behind [] cs)
    else tokens_behind (token ++ c ∷ []) cs

-- the tokens of a line up to its comment
abbrev pub tokens_of : List ℕ → List (List ℕ)
tokens_of line = tokens_behind [] (before Semicolon line)
