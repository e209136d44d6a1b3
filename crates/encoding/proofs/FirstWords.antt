-- The words of a text, byte by byte.
use Rattle.std.proofs.Common.{◌≡◌, ℕ, ◌+◌, ◌<◌, ◌≤◌, Bool, true, false, cond, List, [], ◌∷◌, ◌++◌, length, get_or, take, drop, refl, sym, ap, ◌∙◌, append-nil, append_assoc}
use Rattle.std.specs.List.{onto_first}
use Rattle.std.proofs.lemmas.List.{at_drop_more, take_more, take_all, drop_all}
use Rattle.encoding.specs.Words.{is_open, ends_word, words_from, words_of}

-- these bytes before the first word
abbrev pub before_first : List ℕ → List (List ℕ) → List (List ℕ)
before_first p [] = p ∷ []
before_first p (word ∷ words) = (p ++ word) ∷ words

-- the words of a text, of which so many bytes were seen
abbrev pub AreSeen : List ℕ → ℕ → Bool → Type 0
AreSeen text i quoted = words_of text ≡ before_first (take i text) (words_from quoted (drop i text))

onto_before : (c : ℕ) (p : List ℕ) (words : List (List ℕ)) → before_first p (onto_first c words) ≡ before_first (p ++ c ∷ []) words
onto_before c p [] = refl
onto_before c p (word ∷ words) = ap (λ w. w ∷ words) (sym (append_assoc p (c ∷ []) word))

pub none_seen : (text : List ℕ) → AreSeen text 0 false
none_seen [] = refl
none_seen (c ∷ cs) = by_space (ends_word false c)
  where
    by_onto : (words : List (List ℕ)) → onto_first c words ≡ before_first [] (onto_first c words)
    by_onto [] = refl
    by_onto (word ∷ words) = refl

    by_space : (b : Bool) → cond b ([] ∷ words_from false cs) (onto_first c (words_from (is_open false c) cs)) ≡ before_first [] (cond b ([] ∷ words_from false cs) (onto_first c (words_from (is_open false c) cs)))
    by_space true = refl
    by_space false = by_onto (words_from (is_open false c) cs)

pub one_more : (text : List ℕ) (i : ℕ) (quoted : Bool) → i < length text → ends_word quoted (get_or text i 0) ≡ false → AreSeen text i quoted → AreSeen text (i + 1) (is_open quoted (get_or text i 0))
one_more text i quoted lt on seen =
    let c = get_or text i 0 in
    let rest : words_from quoted (drop i text) ≡ onto_first c (words_from (is_open quoted c) (drop (i + 1) text)) = at_drop_more (words_from quoted) text i 0 lt ∙ rw on refl in
    let front : take i text ++ c ∷ [] ≡ take (i + 1) text = sym (take_more text i 0 lt) in
    seen ∙ ap (before_first (take i text)) rest ∙ onto_before c (take i text) (words_from (is_open quoted c) (drop (i + 1) text))
    ∙ ap (λ p. before_first p (words_from (is_open quoted c) (drop (i + 1) text))) front

pub ended : (text : List ℕ) (i : ℕ) (quoted : Bool) → i < length text → ends_word quoted (get_or text i 0) ≡ true → AreSeen text i quoted → words_of text ≡ take i text ∷ words_of (drop (i + 1) text)
ended text i quoted lt on seen =
    let rest : words_from quoted (drop i text) ≡ [] ∷ words_of (drop (i + 1) text) = at_drop_more (words_from quoted) text i 0 lt ∙ rw on refl in
    seen ∙ ap (before_first (take i text)) rest ∙ ap (λ p. p ∷ words_of (drop (i + 1) text)) (append-nil (take i text))

pub all_seen : (text : List ℕ) (i : ℕ) (quoted : Bool) → length text ≤ i → AreSeen text i quoted → words_of text ≡ text ∷ []
all_seen text i quoted le seen =
    let rest : drop i text ≡ [] = drop_all i text le in
    seen ∙ ap (λ r. before_first (take i text) (words_from quoted r)) rest ∙ ap (λ p. p ∷ []) (append-nil (take i text) ∙ take_all i text le)
