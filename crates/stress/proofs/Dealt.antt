-- Calls that go to sessions in turn: each goes to one.
use Rattle.std.proofs.Common.{◌≡◌, ◌∙◌, ℕ, zero, suc, ◌+◌, ◌-◌, ◌<◌, ◌++◌, List, [], ◌∷◌, refl, sym, ap, subst, arith, append_assoc, append-nil, not-suc-le-zero}
use Rattle.std.specs.Prelude.{drop, map}
use Rattle.std.specs.List.Sorted.{IsPermutation}
use Rattle.std.proofs.lemmas.List.Sorted.{IsPermutation-refl, IsPermutation-trans, IsPermutation-cons, IsPermutation-append_comm}
use Rattle.std.proofs.lemmas.List.{map-append}
use Rattle.stress.specs.Dealt.{dealt, dealt_from, dealt_to}

module _ {X : Type 0} (n : ℕ) where
  -- one call less: each later session's turn comes one call sooner
  sooner : (k m : ℕ) (c : X) (cs : List X) → dealt_from n (suc k) m (c ∷ cs) ≡ dealt_from n k m cs
  sooner k zero c cs = refl
  sooner k (suc m) c cs = ap (λ rest. dealt n k cs ++ rest) (sooner (suc k) m c cs)

  -- the last of them apart
  pub last_apart : (k m : ℕ) (cs : List X) → dealt_from n k (suc m) cs ≡ dealt_from n k m cs ++ dealt n (k + m) cs
  last_apart k zero cs = append-nil (dealt n k cs) ∙ ap (λ j. dealt n j cs) (let e : k ≡ k + 0 = omega arith in e)
  last_apart k (suc m) cs =
      ap (λ rest. dealt n k cs ++ rest) (last_apart (suc k) m cs)
      ∙ sym (append_assoc (dealt n k cs) (dealt_from n (suc k) m cs) (dealt n (suc k + m) cs))
      ∙ ap (λ j. dealt_from n k (suc m) cs ++ dealt n j cs) (let e : suc k + m ≡ k + suc m = omega arith in e)

  none_left : (k m : ℕ) (cs : List X) → cs ≡ [] → dealt_from n k m cs ≡ []
  none_left k zero cs e = refl
  none_left k (suc m) cs e = rw e (none_left (suc k) m [] refl)

-- all calls, session by session
pub each_once : {X : Type 0} (n : ℕ) (cs : List X) → 0 < n → IsPermutation cs (dealt_to n cs)
each_once zero cs some = absurd (not-suc-le-zero some)
each_once (suc p) [] some = subst (IsPermutation []) (sym (none_left (suc p) 0 (suc p) [] refl)) (IsPermutation-refl [])
each_once (suc p) (c ∷ cs) some =
    let n = suc p in
    let before = dealt_from n 0 p cs in
    let mine = dealt n (n - 1) cs in
    let all : IsPermutation cs (before ++ mine) = subst (IsPermutation cs) (last_apart n 0 p cs ∙ ap (λ j. before ++ dealt n j cs) (let e : 0 + p ≡ n - 1 = omega arith in e)) (each_once n cs some) in
    subst (λ rest. IsPermutation (c ∷ cs) ((c ∷ mine) ++ rest)) (sym (sooner n 0 p c cs))
    (IsPermutation-cons c cs (mine ++ before) (IsPermutation-trans cs (before ++ mine) (mine ++ before) all (IsPermutation-append_comm before mine)))

-- ---- one session, call by call

pub skipped : {X : Type 0} (n skip : ℕ) (cs : List X) → dealt n skip cs ≡ dealt n 0 (drop skip cs)
skipped n zero cs = refl
skipped n (suc skip) [] = refl
skipped n (suc skip) (c ∷ cs) = skipped n skip cs

-- behind the first call the next is n calls later
pub next : {X : Type 0} (n : ℕ) (c : X) (cs : List X) → dealt n 0 (c ∷ cs) ≡ c ∷ dealt n 0 (drop (n - 1) cs)
next n c cs = ap (λ rest. c ∷ rest) (skipped n (n - 1) cs)

-- the calls seen otherwise
pub one_map : {X Y : Type 0} (f : X → Y) (n skip : ℕ) (cs : List X) → dealt n skip (map f cs) ≡ map f (dealt n skip cs)
one_map f n skip [] = refl
one_map f n zero (c ∷ cs) = ap (λ rest. f c ∷ rest) (one_map f n (n - 1) cs)
one_map f n (suc skip) (c ∷ cs) = one_map f n skip cs

pub dealt_map : {X Y : Type 0} (f : X → Y) (n k count : ℕ) (cs : List X) → dealt_from n k count (map f cs) ≡ map f (dealt_from n k count cs)
dealt_map f n k zero cs = refl
dealt_map f n k (suc count) cs = (λ i. one_map f n k cs i ++ dealt_map f n (suc k) count cs i) ∙ sym (map-append f (dealt n k cs) (dealt_from n (suc k) count cs))
