-- The table of words: each row is spelled as its word, and each word is in a row.
use Rattle.std.proofs.Common.{◌≡◌, ◌↔◌, subst, ℕ, Bool, true, false, ◌⊎◌, inl, inr, List, [], ◌∷◌, ◌++◌, codes, refl, sym, ap, ◌∙◌, Option, Some, cond, lit<, lit≤}
use Rattle.std.specs.Fmt.{decimal}
use Rattle.std.specs.List.{AllByRecursion}
use Rattle.std.specs.Str.{bytes_eq}
use Rattle.std.proofs.lemmas.Fmt.{decimal_digit, decimal_step}
use Rattle.std.proofs.lemmas.Slice.Eq.{bytes_eq-Decides}
use Rattle.insn.specs.declared.instruction.Operation.TheVariants.{Add, Sub, Mul, Div, Or, And, Lsh, Rsh, Mod, Xor, Mov, Arsh, Sdiv, Smod}
use Rattle.insn.specs.declared.instruction.Condition.TheVariants.{Jeq, Jgt, Jge, Jset, Jne, Jsgt, Jsge, Jlt, Jle, Jslt, Jsle}
use Rattle.insn.specs.declared.instruction.Order.TheVariants.{Little, Big, Always}
use Rattle.insn.specs.declared.instruction.Size.TheVariants.{Word, Half, Byte, Double}
use Rattle.asm.specs.declared.words.Mnemonic.{Mnemonic}
use Rattle.asm.specs.declared.words.Mnemonic.TheVariants.{Alu, Neg, MovSx, Swap, Load, StoreImm, StoreReg, Imm64, MapRef, Ja, Branch, Call, Exit}
use Rattle.asm.specs.declared.words.TheConstants.{WORDS}
use Rattle.asm.specs.Words.{word_of, meaning_in, meaning_of, order_word, HasWord, IsSpelled, IsSaid}

sixteen : decimal 16 ≡ codes "16"
sixteen = decimal_step 16 (lit≤ tt) (lit< tt) ∙ ap (λ ds. ds ++ (54 ∷ [])) (decimal_digit 1 (lit< tt))

thirty_two : decimal 32 ≡ codes "32"
thirty_two = decimal_step 32 (lit≤ tt) (lit< tt) ∙ ap (λ ds. ds ++ (50 ∷ [])) (decimal_digit 3 (lit< tt))

sixty_four : decimal 64 ≡ codes "64"
sixty_four = decimal_step 64 (lit≤ tt) (lit< tt) ∙ ap (λ ds. ds ++ (52 ∷ [])) (decimal_digit 6 (lit< tt))

pub rows_are_spelled : AllByRecursion (IsSpelled (λ text. text.now)) WORDS
rows_are_spelled = (refl, (refl, (refl, (refl, (refl, (refl, (refl, (refl, (refl, (refl, (refl, (refl, (refl, (refl, (refl, (refl, (refl, (refl, (refl, (refl, (refl, (refl, (refl, (refl, (refl, (refl, (refl, (refl, (refl, (refl, (refl, (refl, (ap (λ ds. codes "le" ++ ds) (sym sixteen), (ap (λ ds. codes "le" ++ ds) (sym thirty_two), (ap (λ ds. codes "le" ++ ds) (sym sixty_four), (ap (λ ds. codes "be" ++ ds) (sym sixteen), (ap (λ ds. codes "be" ++ ds) (sym thirty_two), (ap (λ ds. codes "be" ++ ds) (sym sixty_four), (ap (λ ds. codes "swap" ++ ds) (sym sixteen), (ap (λ ds. codes "swap" ++ ds) (sym thirty_two), (ap (λ ds. codes "swap" ++ ds) (sym sixty_four), (refl, (refl, (refl, (refl, (refl, (refl, (refl, (refl, (refl, (refl, (refl, (refl, (refl, (refl, (refl, (refl, (refl, (refl, (refl, (refl, (refl, (refl, (refl, (refl, (refl, (refl, (refl, (refl, (refl, (refl, (refl, (refl, (refl, (refl, (refl, (refl, (refl, (refl, (refl, (refl, (refl, (refl, (refl, tt))))))))))))))))))))))))))))))))))))))))))))))))))))))))))))))))))))))))))))))))))))

pub rows_have_words : AllByRecursion (λ row. HasWord row.1) WORDS
rows_have_words = (tt, (tt, (tt, (tt, (tt, (tt, (tt, (tt, (tt, (tt, (tt, (tt, (tt, (tt, (tt, (tt, (tt, (tt, (tt, (tt, (tt, (tt, (tt, (tt, (tt, (tt, (tt, (tt, (tt, (tt, (tt, (tt, (inl (inl refl), (inl (inr refl), (inr refl, (inl (inl refl), (inl (inr refl), (inr refl, (inl (inl refl), (inl (inr refl), (inr refl, (tt, (tt, (tt, (tt, (tt, (tt, (tt, (tt, (tt, (tt, (tt, (tt, (tt, (tt, (tt, (tt, (tt, (tt, (tt, (tt, (tt, (tt, (tt, (tt, (tt, (tt, (tt, (tt, (tt, (tt, (tt, (tt, (tt, (tt, (tt, (tt, (tt, (tt, (tt, (tt, (tt, (tt, (tt, tt))))))))))))))))))))))))))))))))))))))))))))))))))))))))))))))))))))))))))))))))))))

swaps : (order : _) (bits : ℕ) (text : List ℕ) → decimal bits ≡ text → meaning_of (order_word order ++ text) ≡ Some (Swap order bits) → meaning_of (word_of (Swap order bits)) ≡ Some (Swap order bits)
swaps order bits text spelled found = ap (λ ds. meaning_of (order_word order ++ ds)) spelled ∙ found

-- the word of what has one is read as that
pub word_is_read : (m : Mnemonic) → HasWord m → meaning_of (word_of m) ≡ Some m
unfolding meaning_of
word_is_read (Alu true Add) h = refl
word_is_read (Alu true Sub) h = refl
word_is_read (Alu true Mul) h = refl
word_is_read (Alu true Div) h = refl
word_is_read (Alu true Or) h = refl
word_is_read (Alu true And) h = refl
word_is_read (Alu true Lsh) h = refl
word_is_read (Alu true Rsh) h = refl
word_is_read (Alu true Mod) h = refl
word_is_read (Alu true Xor) h = refl
word_is_read (Alu true Mov) h = refl
word_is_read (Alu true Arsh) h = refl
word_is_read (Alu true Sdiv) h = refl
word_is_read (Alu true Smod) h = refl
word_is_read (Neg true) h = refl
word_is_read (MovSx true) h = refl
word_is_read (Alu false Add) h = refl
word_is_read (Alu false Sub) h = refl
word_is_read (Alu false Mul) h = refl
word_is_read (Alu false Div) h = refl
word_is_read (Alu false Or) h = refl
word_is_read (Alu false And) h = refl
word_is_read (Alu false Lsh) h = refl
word_is_read (Alu false Rsh) h = refl
word_is_read (Alu false Mod) h = refl
word_is_read (Alu false Xor) h = refl
word_is_read (Alu false Mov) h = refl
word_is_read (Alu false Arsh) h = refl
word_is_read (Alu false Sdiv) h = refl
word_is_read (Alu false Smod) h = refl
word_is_read (Neg false) h = refl
word_is_read (MovSx false) h = refl
word_is_read (Swap Little bits) (inl (inl e)) = rw e (swaps Little 16 (codes "16") sixteen refl)
word_is_read (Swap Little bits) (inl (inr e)) = rw e (swaps Little 32 (codes "32") thirty_two refl)
word_is_read (Swap Little bits) (inr e) = rw e (swaps Little 64 (codes "64") sixty_four refl)
word_is_read (Swap Big bits) (inl (inl e)) = rw e (swaps Big 16 (codes "16") sixteen refl)
word_is_read (Swap Big bits) (inl (inr e)) = rw e (swaps Big 32 (codes "32") thirty_two refl)
word_is_read (Swap Big bits) (inr e) = rw e (swaps Big 64 (codes "64") sixty_four refl)
word_is_read (Swap Always bits) (inl (inl e)) = rw e (swaps Always 16 (codes "16") sixteen refl)
word_is_read (Swap Always bits) (inl (inr e)) = rw e (swaps Always 32 (codes "32") thirty_two refl)
word_is_read (Swap Always bits) (inr e) = rw e (swaps Always 64 (codes "64") sixty_four refl)
word_is_read (Load Byte false) h = refl
word_is_read (Load Half false) h = refl
word_is_read (Load Word false) h = refl
word_is_read (Load Double false) h = refl
word_is_read (Load Byte true) h = refl
word_is_read (Load Half true) h = refl
word_is_read (Load Word true) h = refl
word_is_read (Load Double true) h = absurd h
word_is_read (StoreImm Byte) h = refl
word_is_read (StoreImm Half) h = refl
word_is_read (StoreImm Word) h = refl
word_is_read (StoreImm Double) h = refl
word_is_read (StoreReg Byte) h = refl
word_is_read (StoreReg Half) h = refl
word_is_read (StoreReg Word) h = refl
word_is_read (StoreReg Double) h = refl
word_is_read Imm64 h = refl
word_is_read MapRef h = refl
word_is_read (Ja true) h = refl
word_is_read (Ja false) h = refl
word_is_read (Branch true Jeq) h = refl
word_is_read (Branch true Jgt) h = refl
word_is_read (Branch true Jge) h = refl
word_is_read (Branch true Jset) h = refl
word_is_read (Branch true Jne) h = refl
word_is_read (Branch true Jsgt) h = refl
word_is_read (Branch true Jsge) h = refl
word_is_read (Branch true Jlt) h = refl
word_is_read (Branch true Jle) h = refl
word_is_read (Branch true Jslt) h = refl
word_is_read (Branch true Jsle) h = refl
word_is_read (Branch false Jeq) h = refl
word_is_read (Branch false Jgt) h = refl
word_is_read (Branch false Jge) h = refl
word_is_read (Branch false Jset) h = refl
word_is_read (Branch false Jne) h = refl
word_is_read (Branch false Jsgt) h = refl
word_is_read (Branch false Jsge) h = refl
word_is_read (Branch false Jlt) h = refl
word_is_read (Branch false Jle) h = refl
word_is_read (Branch false Jslt) h = refl
word_is_read (Branch false Jsle) h = refl
word_is_read Call h = refl
word_is_read Exit h = refl

said_by : (b : Bool) (x : Mnemonic) (rest : Option Mnemonic) (m : Mnemonic) → cond b (Some x) rest ≡ Some m → (x ≡ m) ⊎ (rest ≡ Some m)
said_by true x rest m e = inl (cc)
said_by false x rest m e = inr e

said : {R : Type 0} (spelled : R → List ℕ) (rows : List (R × Mnemonic)) (word : List ℕ) (m : Mnemonic) → meaning_in spelled rows word ≡ Some m → IsSaid rows m
said spelled [] word m e = absurd cc
said spelled (row ∷ rows) word m e =
    elim (said_by (bytes_eq (spelled row.0) word) row.1 (meaning_in spelled rows word) m e) [ inl same ↦ inl same | inr later ↦ inr (said spelled rows word m later) ]

pub each_is_said : (m : Mnemonic) → HasWord m → IsSaid WORDS m
unfolding meaning_of
each_is_said m h = said (λ text. text.now) WORDS (word_of m) m (word_is_read m h)

-- ---- what the rows say, together

-- a row of this word has its meaning, and that of the rows behind it holds of the others
row_means : (b : Bool) (x m : Mnemonic) (rest : Option Mnemonic) (P : Type 0) → cond b (Some x) rest ≡ Some m → (b ≡ true → x ≡ m → P) → (rest ≡ Some m → P) → P
row_means true x m rest P e here behind = here refl cc
row_means false x m rest P e here behind = behind e

-- a word that means this by some row is the word for it
meant_by : {R : Type 0} (spelled : R → List ℕ) (rows : List (R × Mnemonic)) (word : List ℕ) (m : Mnemonic)
    → AllByRecursion (IsSpelled spelled) rows → AllByRecursion (λ row. HasWord row.1) rows → meaning_in spelled rows word ≡ Some m → HasWord m × (word ≡ word_of m)
meant_by spelled [] word m is has e = absurd cc
meant_by spelled (row ∷ rows) word m is has e =
    row_means (bytes_eq (spelled row.0) word) row.1 m (meaning_in spelled rows word) (HasWord m × (word ≡ word_of m)) e
    (λ same means. (subst HasWord means has.0, sym ((bytes_eq-Decides (spelled row.0) word).0 same) ∙ (is.0 ∙ ap word_of means)))
    (λ later. meant_by spelled rows word m is.1 has.1 later)

-- a word means this exactly where it is the word for it
pub words_are_spelled : (word : List ℕ) (m : Mnemonic) → (meaning_of word ≡ Some m) ↔ (HasWord m × (word ≡ word_of m))
unfolding meaning_of
words_are_spelled word m = (meant_by (λ text. text.now) WORDS word m rows_are_spelled rows_have_words, λ h. ap meaning_of h.1 ∙ word_is_read m h.0)
