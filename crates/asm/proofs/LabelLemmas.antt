-- Labels, one line on.
use Rattle.std.proofs.Common.{◌≡◌, ℕ, Bool, true, false, cond, List, [], ◌∷◌, Option, Some, None, refl, sym, ◌∙◌, subst}
use Rattle.std.specs.Option.{option_or}
use Rattle.std.specs.Map.{update}
use Rattle.std.specs.Str.{bytes_eq}
use Rattle.std.proofs.lemmas.Slice.Eq.{bytes_eq-Decides}
use Rattle.text.specs.Lines.{next_line}
use Rattle.asm.specs.declared.labels.Mark.{Mark}
use Rattle.asm.specs.Labels.{Marks, Held, marks_from, mark, mark_here, line_of, slots_behind, noted}

pub or_none : (o : Option Mark) → option_or o None ≡ o
or_none None = refl
or_none (Some m) = refl

or_assoc : (a b c : Option Mark) → option_or (option_or a b) c ≡ option_or a (option_or b c)
or_assoc None b c = refl
or_assoc (Some m) b c = refl

-- a label that stood nowhere stands here
pub new_mark : (f : Marks) (name : List ℕ) (m : Mark) (q : List ℕ) → f name ≡ None → update bytes_eq f name (Some m) q ≡ noted (f q) name m q
new_mark f name m q absent = by (bytes_eq name q) ((bytes_eq-Decides name q).0)
  where
    by : (b : Bool) → (b ≡ true → name ≡ q) → cond b (Some m) (f q) ≡ option_or (f q) (cond b (Some m) None)
    by true same = let e : f q ≡ None = subst (λ n. f n ≡ None) (same refl) absent in rw e refl
    by false same = sym (or_none (f q))

-- one line on
pub one_line : (f g : Marks) (n number after slot behind : ℕ) (all : List (List ℕ)) (line : List ℕ) (lines : List (List ℕ)) (held : Held) (total : Marks)
    → all ≡ line ∷ lines → number ≡ n → after ≡ next_line n → held ≡ line_of line
    → ((q : List ℕ) → g q ≡ option_or (f q) (mark_here held (mark slot number) q)) → slots_behind held slot ≡ behind
    → ((q : List ℕ) → option_or (f q) (marks_from n slot all q) ≡ total q) → (q : List ℕ) → option_or (g q) (marks_from after behind lines q) ≡ total q
unfolding marks_from
one_line f g n number after slot behind all line lines held total cut same next is seen e so_far q =
    rw (seen q, ← e, next, same, is) (or_assoc (f q) (mark_here (line_of line) (mark slot n) q) _ ∙ subst (λ ls. option_or (f q) (marks_from n slot ls q) ≡ total q) cut (so_far q))

pub no_line : (f : Marks) (n slot : ℕ) (all : List (List ℕ)) (total : Marks) → all ≡ [] → ((q : List ℕ) → option_or (f q) (marks_from n slot all q) ≡ total q) → (q : List ℕ) → f q ≡ total q
unfolding marks_from
no_line f n slot all total none so_far q = sym (or_none (f q)) ∙ subst (λ ls. option_or (f q) (marks_from n slot ls q) ≡ total q) none (so_far q)
