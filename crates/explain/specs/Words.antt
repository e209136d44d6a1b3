-- The words for what is known of a register and of the stack.
use Rattle.std.specs.Prelude.{ℕ, zero, suc, ◌-◌, ◌*◌, ◌==◌, List, [], ◌∷◌, codes, decimal, ℤ, pos, negsuc, if◌then◌else◌}
use Rattle.std.specs.List.{concat}
use Rattle.regkind.specs.declared.frames.Kind.{Kind}
use Rattle.regkind.specs.declared.frames.Kind.TheVariants.{Unreadable, Scalar, Stack, Arg, Map, Value, ValueOrNull}
use Rattle.explain.specs.declared.programs.Byte.{Byte}
use Rattle.explain.specs.declared.programs.Byte.TheVariants as bytes

-- how far a pointer points after or before a place, if it isn't to the place itself
abbrev pub offset_words : ℤ → List ℕ
offset_words (pos zero) = []
offset_words (pos (suc n)) = concat (codes " +" ∷ decimal (suc n) ∷ [])
offset_words (negsuc n) = concat (codes " -" ∷ decimal (suc n) ∷ [])

-- a pointer into the stack, so far from its end
abbrev pub stack_words : ℤ → List ℕ
stack_words (pos zero) = codes "stack end"
stack_words by = concat (codes "stack" ∷ offset_words by ∷ [])

-- what a register has
abbrev pub kind_words : Kind → List ℕ
kind_words Unreadable = codes "unreadable"
kind_words Scalar = codes "a number"
kind_words (Stack by) = stack_words by
kind_words (Arg by) = concat (codes "argument" ∷ offset_words by ∷ [])
kind_words (Map map) = concat (codes "map " ∷ decimal map ∷ [])
kind_words (Value map by) = concat (codes "value of map " ∷ decimal map ∷ offset_words by ∷ [])
kind_words (ValueOrNull map) = concat (codes "value of map " ∷ decimal map ∷ codes ", or null" ∷ [])

-- the words that say that register r has a kind
abbrev pub register_words : ℕ → Kind → List ℕ
register_words r kind = concat (codes "; r" ∷ decimal r ∷ codes " = " ∷ kind_words kind ∷ [])

-- the words that say that cell c of the stack has a kind; places in the stack are counted down from its end
abbrev pub pointer_words : ℕ → Kind → List ℕ
pointer_words c kind = concat (codes "; stack -" ∷ decimal (512 - 8 * c) ∷ codes " holds " ∷ kind_words kind ∷ [])

-- what a byte of the stack is
abbrev pub byte_words : Byte → List ℕ
byte_words bytes.Number = codes "written"
byte_words bytes.Unwritten = codes "unwritten"
byte_words bytes.Pointer = codes "a pointer"

-- the words that say that the bytes from the first of these two to the last are so, counted from the stack's lower end
abbrev pub row_words : Byte → ℕ → ℕ → List ℕ
row_words known first last =
    if first == last then concat (codes "; stack -" ∷ decimal (512 - first) ∷ codes " " ∷ byte_words known ∷ [])
    else concat (codes "; stack -" ∷ decimal (512 - first) ∷ codes " to -" ∷ decimal (512 - last) ∷ codes " " ∷ byte_words known ∷ [])
