-- The lists of steps.
use Rattle.std.proofs.Common.{◌≡◌, ◌≢◌, ℕ, zero, suc, ◌+◌, ◌<◌, List, [], ◌∷◌, ◌++◌, refl, sym, ap, ◌∙◌, arith, append_assoc}
use Rattle.std.specs.List.{AllByRecursion}
use Rattle.std.proofs.lemmas.List.{append-nil}
use Rattle.maps.proofs.Export.{joined}
use Rattle.schedule.specs.declared.steps.Step.{Step}
use Rattle.schedule.specs.declared.steps.Step.TheVariants.{Claim, Append, Replay, Finish, Reply, Collect, ReadAnswer, Reclaim, Rebase}
use Rattle.schedule.specs.Steps.{node_of}
use Rattle.settlement.specs.Settling.{handing_out, settling, settling_all}
use Rattle.settlement.specs.Others.{AreOfOthers}

-- ---- one more

handing_next : (n s count : ℕ) → handing_out n s (suc count) ≡ handing_out n s count ++ Collect n (s + count) ∷ ReadAnswer n (s + count) ∷ []
handing_next n s zero = let i : s ≡ s + 0 = omega arith in ap (λ k. Collect n k ∷ ReadAnswer n k ∷ []) i
handing_next n s (suc count) =
    let i : suc s + count ≡ s + suc count = omega arith in
    ap (λ steps. Collect n s ∷ ReadAnswer n s ∷ steps) (handing_next n (suc s) count ∙ ap (λ k. handing_out n (suc s) count ++ Collect n k ∷ ReadAnswer n k ∷ []) i)

-- the list of a node with one slot more
pub settling_next : (n slots : ℕ) → settling n (slots + 1) ≡ (settling n slots ++ Collect n slots ∷ []) ++ ReadAnswer n slots ∷ []
settling_next n slots =
    let more : slots + 1 ≡ suc slots = omega arith in
    let i : 0 + slots ≡ slots = omega arith in
    let whole : settling n (suc slots) ≡ settling n slots ++ Collect n slots ∷ ReadAnswer n slots ∷ [] =
    ap (λ steps. Replay n ∷ Rebase n ∷ Replay n ∷ Finish n ∷ Reply n ∷ Reclaim n ∷ Append n ∷ Replay n ∷ Finish n ∷ Reply n ∷ Claim n ∷ Append n ∷ Replay n ∷ Finish n ∷ Reply n ∷ steps)
    (handing_next n 0 slots ∙ ap (λ k. handing_out n 0 slots ++ Collect n k ∷ ReadAnswer n k ∷ []) i) in
    ap (settling n) more ∙ (whole ∙ sym (append_assoc (settling n slots) (Collect n slots ∷ []) (ReadAnswer n slots ∷ [])))

all_next : (n count slots : ℕ) → settling_all n (suc count) slots ≡ settling_all n count slots ++ settling (n + count) slots
all_next n zero slots = let i : n ≡ n + 0 = omega arith in append-nil (settling n slots) ∙ ap (λ k. settling k slots) i
all_next n (suc count) slots =
    let i : suc n + count ≡ n + suc count = omega arith in
    ap (λ steps. settling n slots ++ steps) (all_next (suc n) count slots ∙ ap (λ k. settling_all (suc n) count slots ++ settling k slots) i)
    ∙ sym (append_assoc (settling n slots) (settling_all (suc n) count slots) (settling (n + suc count) slots))

-- the lists of one node more
pub settling_all_next : (count slots : ℕ) → settling_all 0 (count + 1) slots ≡ settling_all 0 count slots ++ settling count slots
settling_all_next count slots =
    let more : count + 1 ≡ suc count = omega arith in
    let i : 0 + count ≡ count = omega arith in
    ap (λ k. settling_all 0 k slots) more ∙ (all_next 0 count slots ∙ ap (λ k. settling_all 0 count slots ++ settling k slots) i)

-- ---- whose steps they are

-- the steps are the node's
abbrev pub AreOwn : ℕ → List Step → Type 0
AreOwn n steps = AllByRecursion (λ step. node_of step ≡ n) steps

handing_own : (n s count : ℕ) → AreOwn n (handing_out n s count)
handing_own n s zero = tt
handing_own n s (suc count) = (refl, (refl, handing_own n (suc s) count))

pub settling_own : (n slots : ℕ) → AreOwn n (settling n slots)
settling_own n slots = (refl, (refl, (refl, (refl, (refl, (refl, (refl, (refl, (refl, (refl, (refl, (refl, (refl, (refl, (refl, handing_own n 0 slots)))))))))))))))

others_own : (k n : ℕ) → k ≢ n → (steps : List Step) → AreOwn n steps → AreOfOthers k steps
others_own k n ne [] are = tt
others_own k n ne (step ∷ steps) (is, are) = ((λ e. ne (sym e ∙ is)), others_own k n ne steps are)

-- the lists of nodes behind a node
pub all_of_others : (k n count slots : ℕ) → k < n → AreOfOthers k (settling_all n count slots)
all_of_others k n zero slots lt = tt
all_of_others k n (suc count) slots lt =
    joined (λ step. node_of step ≢ k) (settling n slots) (settling_all (suc n) count slots) (others_own k n (λ e. absurd (omega arith)) (settling n slots) (settling_own n slots))
    (all_of_others k (suc n) count slots (omega arith))
