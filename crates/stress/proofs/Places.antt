-- Lines in the order of their ranks stand where they say.
use Rattle.std.proofs.Common.{◌≡◌, ⊎_elim, inl, inr, ◌⊎◌, ℕ, suc, ◌+◌, ◌*◌, ◌<◌, ◌≤◌, Bool, true, false, cond, eqb, List, [], ◌∷◌, get_or, refl, sym, ap, subst, ◌∙◌, arith}
use Rattle.std.specs.List.{All}
use Rattle.std.proofs.lemmas.Bool.{cases_lt, eq-eqb, ne_eqb, false≢true}
use Rattle.std.proofs.lemmas.List.Sums.{sum_by-cons}
use Rattle.std.proofs.lemmas.List.Elements.{All-head, All-tail, All-nil, All-cons}
use Rattle.stress.specs.Lines.{Said, Updated, Seen, Ended, ToldCall, AreOrdered, rank}
use Rattle.stress.specs.OneHistory.{is_at}
use Rattle.stress.specs.Playing.{lines_at}

-- a line stands where it says, where u updates stand before it
abbrev pub Stands : ℕ → Said → Type 0
Stands u (Updated index reply) = index ≡ u
Stands u (Seen point reply) = point ≡ u
Stands u Ended = Unit {0}

abbrev pub next_place : ℕ → Said → ℕ
next_place u (Updated index reply) = suc u
next_place u (Seen point reply) = u
next_place u Ended = u

abbrev pub StandFrom : ℕ → List ToldCall → Type 0
StandFrom u [] = Unit {0}
StandFrom u (t ∷ ts) = Stands u t.said × StandFrom (next_place u t.said) ts

-- ---- the rest stands behind the first

abbrev Behind : ToldCall → List ToldCall → Type 0
Behind t ts = All (λ s. rank t.said ≤ rank s.said) ts

behind_first : (t : ToldCall) (ts : List ToldCall) → AreOrdered (t ∷ ts) → Behind t ts
behind_first t ts up k d below = up 0 (suc k) d (omega arith) (omega (arith, below))

ordered_rest : (t : ToldCall) (ts : List ToldCall) → AreOrdered (t ∷ ts) → AreOrdered ts
ordered_rest t ts up i j d low below = up (suc i) (suc j) d (omega (arith, low)) (omega (arith, below))

-- ---- how many lines have an index

count_more : (i : ℕ) (t : ToldCall) (ts : List ToldCall) → lines_at i (t ∷ ts) ≡ cond (is_at i t.said) 1 0 + lines_at i ts
count_more i t ts = sum_by-cons (λ (s : ToldCall). cond (is_at i s.said) 1 0) t ts

not_at : (u : ℕ) (said : Said) → 2 * u + 1 < rank said → is_at u said ≡ false
not_at u (Updated i reply) high = ne_eqb i u (λ same. omega (arith, high, same))
not_at u (Seen point reply) high = refl
not_at u Ended high = refl

-- no line above the rank of an index has it
none_high : (u : ℕ) (ts : List ToldCall) → All (λ s. 2 * u + 1 < rank s.said) ts → lines_at u ts ≡ 0
none_high u [] high = refl
none_high u (t ∷ ts) high =
    let first = not_at u t.said (All-head (λ s. 2 * u + 1 < rank s.said) t ts high) in
    let rest = none_high u ts (All-tail (λ s. 2 * u + 1 < rank s.said) t ts high) in
    let both : lines_at u (t ∷ ts) ≡ 0 + lines_at u ts = count_more u t ts ∙ ap (λ b. cond b 1 0 + lines_at u ts) first in
    omega (arith, both, rest)

-- where no line has an index, none has it
none_from_zero : (u : ℕ) (ts : List ToldCall) → lines_at u ts ≡ 0 → All (λ s. is_at u s.said ≡ false) ts
none_from_zero u [] e = All-nil (λ s. is_at u s.said ≡ false)
none_from_zero u (t ∷ ts) e = by (is_at u t.said) refl (none_from_zero u ts)
  where
    by : (b : Bool) → is_at u t.said ≡ b → (lines_at u ts ≡ 0 → All (λ s. is_at u s.said ≡ false) ts) → All (λ s. is_at u s.said ≡ false) (t ∷ ts)
    by true is rest = let one : 1 + lines_at u ts ≡ 0 = ap (λ b. cond b 1 0 + lines_at u ts) (sym is) ∙ sym (count_more u t ts) ∙ e in absurd (omega (arith, one))
    by false is rest = let none : 0 + lines_at u ts ≡ 0 = ap (λ b. cond b 1 0 + lines_at u ts) (sym is) ∙ sym (count_more u t ts) ∙ e in All-cons (λ s. is_at u s.said ≡ false) t ts is (rest (let zero_left : lines_at u ts ≡ 0 = omega (arith, none) in zero_left))

-- ---- each line stands where it says

-- from u updates on, and within n of them
abbrev pub Within : ℕ → ℕ → Said → Type 0
Within u n (Updated index reply) = (u ≤ index) × (index < n)
Within u n (Seen point reply) = (u ≤ point) × (point ≤ n)
Within u n Ended = Unit {0}

abbrev OneEach : ℕ → ℕ → List ToldCall → Type 0
OneEach u n told = (i : ℕ) → u ≤ i → i < n → lines_at i told ≡ 1

-- one update more
within_more : (u n : ℕ) (said : Said) → 2 * u + 1 ≤ rank said → is_at u said ≡ false → Within u n said → Within (suc u) n said
within_more u n (Updated index reply) high other h = by (cases_lt u index)
  where
    by : (u < index) ⊎ (index ≤ u) → (suc u ≤ index) × (index < n)
    by (inl above) = (omega (arith, above), h.1)
    by (inr low) = absurd (false≢true (sym other ∙ eq-eqb index u (let same : index ≡ u = omega (arith, low, h.0) in same)))
within_more u n (Seen point reply) high other h = (omega (arith, high), h.1)
within_more u n Ended high other h = tt

all_more : (u n : ℕ) (ts : List ToldCall) → All (λ s. 2 * u + 1 ≤ rank s.said) ts → All (λ s. is_at u s.said ≡ false) ts → All (λ s. Within u n s.said) ts → All (λ s. Within (suc u) n s.said) ts
all_more u n ts high other h k d below = within_more u n (get_or ts k d).said (high k d below) (other k d below) (h k d below)

-- where an index is missing before the first line, the ranks are too high for its line
no_gap : (u n : ℕ) (t : ToldCall) (ts : List ToldCall) → Behind t ts → OneEach u n (t ∷ ts) → u < n → 2 * u + 1 < rank t.said → ⊥
no_gap u n t ts behind one below high =
    let ranks : All (λ s. 2 * u + 1 < rank s.said) (t ∷ ts) = All-cons (λ s. 2 * u + 1 < rank s.said) t ts high (λ k d inside. let low = behind k d inside in omega (arith, high, low)) in
    let both : 0 ≡ 1 = sym (none_high u (t ∷ ts) ranks) ∙ one u (omega arith) below in
    absurd (omega (arith, both))

pub in_places : (u n : ℕ) (told : List ToldCall) → AreOrdered told → All (λ t. Within u n t.said) told → OneEach u n told → StandFrom u told
in_places u n [] up within one = tt
in_places u n (t ∷ ts) up within one = by t.said refl (λ v. in_places v n ts (ordered_rest t ts up))
  where
    behind : Behind t ts
    behind = behind_first t ts up

    first : Within u n t.said
    first = All-head (λ t. Within u n t.said) t ts within

    rest : All (λ t. Within u n t.said) ts
    rest = All-tail (λ t. Within u n t.said) t ts within

    ranked : (said : Said) → t.said ≡ said → All (λ s. rank said ≤ rank s.said) ts
    ranked said is = subst (λ x. All (λ s. rank x ≤ rank s.said) ts) is behind

    by : (said : Said) → t.said ≡ said → ((v : ℕ) → All (λ t. Within v n t.said) ts → OneEach v n ts → StandFrom v ts) → Stands u t.said × StandFrom (next_place u t.said) ts
    by Ended is more = subst (λ said. Stands u said × StandFrom (next_place u said) ts) (sym is) (tt, more u rest (λ i low below. let e : 0 + lines_at i ts ≡ 1 = sym (ap (λ said. cond (is_at i said) 1 0 + lines_at i ts) is) ∙ sym (count_more i t ts) ∙ one i low below in omega (arith, e)))
    by (Seen point reply) is more =
        let here : (u ≤ point) × (point ≤ n) = subst (Within u n) is first in
        let at : point ≡ u = ⊎_elim (λ above. absurd (no_gap u n t ts behind one (omega (arith, above, here.1)) (subst (λ said. 2 * u + 1 < rank said) (sym is) (omega (arith, above)))))
        (λ low. omega (arith, low, here.0)) (cases_lt u point) in
        subst (λ said. Stands u said × StandFrom (next_place u said) ts) (sym is) (at, more u rest (λ i low below. let e : 0 + lines_at i ts ≡ 1 = sym (ap (λ said. cond (is_at i said) 1 0 + lines_at i ts) is) ∙ sym (count_more i t ts) ∙ one i low below in omega (arith, e)))
    by (Updated index reply) is more =
        let here : (u ≤ index) × (index < n) = subst (Within u n) is first in
        let at : index ≡ u = ⊎_elim (λ above. absurd (no_gap u n t ts behind one (omega (arith, above, here.1)) (subst (λ said. 2 * u + 1 < rank said) (sym is) (omega (arith, above)))))
        (λ low. omega (arith, low, here.0)) (cases_lt u index) in
        let high : All (λ s. 2 * u + 1 ≤ rank s.said) ts = λ k d inside. let low = ranked (Updated index reply) is k d inside in omega (arith, low, at) in
        let counted : (i : ℕ) → lines_at i (t ∷ ts) ≡ cond (eqb index i) 1 0 + lines_at i ts = λ i. count_more i t ts ∙ ap (λ said. cond (is_at i said) 1 0 + lines_at i ts) is in
        let alone : 1 + lines_at u ts ≡ 1 = sym (ap (λ b. cond b 1 0 + lines_at u ts) (eq-eqb index u at)) ∙ sym (counted u) ∙ one u (omega arith) (omega (arith, here.1, at)) in
        let none = none_from_zero u ts (let zero_left : lines_at u ts ≡ 0 = omega (arith, alone) in zero_left) in
        let each : OneEach (suc u) n ts = λ i low below. let e : 0 + lines_at i ts ≡ 1 = sym (ap (λ b. cond b 1 0 + lines_at i ts) (ne_eqb index i (λ same. omega (arith, same, at, low)))) ∙ sym (counted i) ∙ one i (omega (arith, low)) below in omega (arith, e) in
        subst (λ said. Stands u said × StandFrom (next_place u said) ts) (sym is) (at, more (suc u) (all_more u n ts high none rest) each)
