-- The function that reads a program from slots, and the relations that it answers.
use Rattle.std.proofs.Common.{◌≡◌, ℕ, ◌+◌, ◌<◌, ◌≤◌, false, List, [], ◌∷◌, ◌++◌, length, drop, Some, refl, sym, ap, ◌∙◌, inl, inr, arith, subst, append_assoc, length-append, length-drop}
use Rattle.std.specs.Prelude.{Result, Ok, Err, ◌⊎◌}
use Rattle.std.specs.List.{AllByRecursion}
use Rattle.std.proofs.lemmas.List.{append-nil, drop-drop}
use Rattle.std.proofs.Math.Seq.{drop-append_seam, drop-length}
use Rattle.insn.specs.declared.instruction.Fields.{Fields}
use Rattle.insn.specs.declared.instruction.Form.{Form}
use Rattle.insn.specs.declared.decoding.DecodeFault.{DecodeFault}
use Rattle.insn.specs.declared.decoding.DecodeRefusal.{DecodeRefusal}
use Rattle.insn.specs.Encoding.{slots, program_slots, HasEncoding}
use Rattle.insn.specs.Layout.{slot_count, slot_contents, layout, size}
use Rattle.insn.specs.Refusal.{is_wide, first_fault, FaultAt}
use Rattle.insn.specs.Decoded.{front, with_first, in_order, program_from}
use Rattle.insn.proofs.Slots.{FieldsFit, count_is, all_drop}
use Rattle.insn.proofs.Spelled.{Narrow, Wide, spelled}
use Rattle.insn.proofs.Fronts.{Begins, front_of, front_begins, front_fails}

abbrev pub Answer : Type 0
Answer = Result (List Form) DecodeRefusal

-- ---- one instruction

narrow_step : (i : Form) (n : Narrow i) (rest : List Fields) (at : ℕ) → front (slots i ++ rest) ≡ Ok i → program_from at false (slots i ++ rest) ≡ with_first i (program_from (at + slot_count i) false rest)
unfolding program_from
narrow_step i n rest at h =
    let e : front (n.fields ∷ rest) ≡ Ok i = ap (λ x. front (x ++ rest)) (sym n.spelled) ∙ h in
    ap (λ x. program_from at false (x ++ rest)) n.spelled
    ∙ ap (λ r. in_order at r (program_from (at + 1) (is_wide n.fields) rest)) e
    ∙ ap (λ b. with_first i (program_from (at + 1) b rest)) n.narrow
    ∙ ap (λ k. with_first i (program_from (at + k) false rest)) (sym n.count)

wide_step : (i : Form) (w : Wide i) (rest : List Fields) (at : ℕ) → front (slots i ++ rest) ≡ Ok i → program_from at false (slots i ++ rest) ≡ with_first i (program_from (at + slot_count i) false rest)
unfolding program_from
wide_step i w rest at h =
    let e : front (w.first ∷ w.second ∷ rest) ≡ Ok i = ap (λ x. front (x ++ rest)) (sym w.spelled) ∙ h in
    let count : at + 1 + 1 ≡ at + slot_count i = omega (arith, w.count) in
    ap (λ x. program_from at false (x ++ rest)) w.spelled
    ∙ ap (λ r. in_order at r (program_from (at + 1) (is_wide w.first) (w.second ∷ rest))) e
    ∙ ap (λ b. with_first i (program_from (at + 1) b (w.second ∷ rest))) w.wide
    ∙ ap (λ k. with_first i (program_from k false rest)) count

pub step : (i : Form) (rest : List Fields) (at : ℕ) → HasEncoding i → program_from at false (slots i ++ rest) ≡ with_first i (program_from (at + slot_count i) false rest)
step i rest at h = by (spelled i h)
  where
    by : Narrow i ⊎ Wide i → program_from at false (slots i ++ rest) ≡ with_first i (program_from (at + slot_count i) false rest)
    by (inl n) = narrow_step i n rest at (front_of i rest h)
    by (inr w) = wide_step i w rest at (front_of i rest h)

-- ---- several instructions

abbrev pub with_all : List Form → Answer → Answer
with_all [] r = r
with_all (i ∷ p) r = with_first i (with_all p r)

pub all_ok : (p q : List Form) → with_all p (Ok q) ≡ Ok (p ++ q)
all_ok [] q = refl
all_ok (i ∷ p) q = ap (with_first i) (all_ok p q)

pub all_err : (p : List Form) (e : DecodeRefusal) → with_all p (Err e) ≡ Err e
all_err [] e = refl
all_err (i ∷ p) e = ap (with_first i) (all_err p e)

pub all_push : (p : List Form) (i : Form) (r : Answer) → with_all p (with_first i r) ≡ with_all (p ++ i ∷ []) r
all_push [] i r = refl
all_push (j ∷ p) i r = ap (with_first j) (all_push p i r)

pub size_more : (i : Form) (p : List Form) → size (i ∷ p) ≡ slot_count i + size p
size_more i p = length-append (slot_contents i) (layout p)

pub steps : (p : List Form) (rest : List Fields) (at : ℕ) → AllByRecursion HasEncoding p → program_from at false (program_slots p ++ rest) ≡ with_all p (program_from (at + size p) false rest)
steps [] rest at h = let e : at ≡ at + 0 = omega arith in ap (λ k. program_from k false rest) e
steps (i ∷ p) rest at h =
    let e : at + slot_count i + size p ≡ at + size (i ∷ p) = omega (arith, size_more i p) in
    ap (program_from at false) (append_assoc (slots i) (program_slots p) rest)
    ∙ step i (program_slots p ++ rest) at h.0
    ∙ ap (with_first i) (steps p rest (at + slot_count i) h.1 ∙ ap (λ k. with_all p (program_from k false rest)) e)

pub reads_program : (p : List Form) → AllByRecursion HasEncoding p → program_from 0 false (program_slots p) ≡ Ok p
unfolding program_from
reads_program p h =
    ap (program_from 0 false) (sym (append-nil (program_slots p))) ∙ steps p [] 0 h ∙ all_ok p [] ∙ ap Ok (append-nil p)

-- slots that begin with no instruction are refused there
refused_here : (all : List Fields) (at : ℕ) (why : DecodeFault) → first_fault all ≡ Some why → program_from at false all ≡ Err (record { slot = at; why = why })
unfolding program_from
refused_here [] at why e = cc
refused_here (f ∷ rest) at why e = rw e refl

pub refuses_fault : (all : List Fields) (e : DecodeRefusal) → FaultAt all e.slot e.why → program_from 0 false all ≡ Err e
refuses_fault all e fault =
    ap (program_from 0 false) fault.joined
    ∙ steps fault.before fault.rest 0 fault.each
    ∙ ap (with_all fault.before) (refused_here fault.rest (0 + size fault.before) e.why fault.first)
    ∙ all_err fault.before _
    ∙ (λ i. Err (record { slot = (place ∙ sym fault.place) i; why = e.why }))
  where
    place : 0 + size fault.before ≡ size fault.before
    place = omega arith

-- ---- what an answer says

-- `FaultAt`, but counted from a slot on
pub record FaultFrom (all : List Fields) (at : ℕ) (e : DecodeRefusal) : Type 0 where
  pub before : List Form
  pub each : AllByRecursion HasEncoding before
  pub rest : List Fields
  pub joined : all ≡ program_slots before ++ rest
  pub place : e.slot ≡ at + size before
  pub first : first_fault rest ≡ Some e.why

abbrev pub Explained : ℕ → List Fields → Answer → Type 0
Explained at all (Ok p) = AllByRecursion HasEncoding p × (all ≡ program_slots p)
Explained at all (Err e) = FaultFrom all at e

extended : (i : Form) (at : ℕ) (all rest : List Fields) (r : Answer) → HasEncoding i → all ≡ slots i ++ rest → Explained (at + slot_count i) rest r → Explained at all (with_first i r)
extended i at all rest (Ok p) h s x = ((h, x.0), s ∙ ap (λ y. slots i ++ y) x.1)
extended i at all rest (Err e) h s x = record {
  before = i ∷ x.before;
  each = (h, x.each);
  rest = x.rest;
  joined = s ∙ ap (λ y. slots i ++ y) x.joined ∙ sym (append_assoc (slots i) (program_slots x.before) x.rest);
  place = omega (arith, x.place, size_more i x.before);
  first = x.first;
}

-- what is left behind the first of these slots, and behind the second
abbrev Behind : ℕ → List Fields → Type 0
Behind at rest = Explained at rest (program_from at false rest)

abbrev BehindTwo : ℕ → List Fields → Type 0
BehindTwo at rest = (g : Fields) (behind : List Fields) → rest ≡ g ∷ behind → Behind (at + 1) behind

stepped : (at : ℕ) (all : List Fields) (i : Form) (b : Begins all i) → Behind (at + slot_count i) b.rest → Explained at all (program_from at false all)
stepped at all i b x =
    subst (Explained at all) (sym (ap (program_from at false) b.joined ∙ step i b.rest at b.encoded)) (extended i at all b.rest (program_from (at + slot_count i) false b.rest) b.encoded b.joined x)

shorter : (at : ℕ) (f : Fields) (rest : List Fields) (i : Form) (b : Begins (f ∷ rest) i) → Behind (at + 1) rest → BehindTwo (at + 1) rest → Behind (at + slot_count i) b.rest
shorter at f rest i b x y = by (spelled i b.encoded)
  where
    by : Narrow i ⊎ Wide i → Behind (at + slot_count i) b.rest
    by (inl n) =
        let e : f ∷ rest ≡ n.fields ∷ b.rest = b.joined ∙ ap (λ z. z ++ b.rest) n.spelled in
        let same : rest ≡ b.rest = cc in
        let count : at + 1 ≡ at + slot_count i = omega (arith, n.count) in
        subst (λ z. Behind (at + slot_count i) z) same (subst (λ k. Behind k rest) count x)
    by (inr w) =
        let e : f ∷ rest ≡ w.first ∷ w.second ∷ b.rest = b.joined ∙ ap (λ z. z ++ b.rest) w.spelled in
        let same : rest ≡ w.second ∷ b.rest = cc in
        let count : at + 1 + 1 ≡ at + slot_count i = omega (arith, w.count) in
        subst (λ k. Behind k b.rest) count (y w.second b.rest same)

explained_first : (at : ℕ) (f : Fields) (rest : List Fields) → AllByRecursion FieldsFit (f ∷ rest) → Behind (at + 1) rest → BehindTwo (at + 1) rest → Behind at (f ∷ rest)
explained_first at f rest fit x y = by (front (f ∷ rest)) refl
  where
    by : (r : Result Form DecodeFault) → front (f ∷ rest) ≡ r → Behind at (f ∷ rest)
    by (Err why) e =
        let broken = front_fails f rest why fit.0 e in
        subst (Explained at (f ∷ rest)) (sym (refused_here (f ∷ rest) at why broken)) (record { before = []; each = tt; rest = f ∷ rest; joined = refl; place = omega arith; first = broken })
    by (Ok i) e = let b = front_begins f rest i fit e in stepped at (f ∷ rest) i b (shorter at f rest i b x y)

-- there is no slot left
explained_end : (at : ℕ) → Behind at []
unfolding program_from
explained_end at = (tt, refl)

pub explained : (at : ℕ) (all : List Fields) → AllByRecursion FieldsFit all → Explained at all (program_from at false all)
explained at [] h = explained_end at
explained at (f ∷ []) h = explained_first at f [] h (explained_end (at + 1)) (λ g behind e. cc)
explained at (f ∷ g ∷ rest) h =
    explained_first at f (g ∷ rest) h (explained (at + 1) (g ∷ rest) h.1)
    (λ k behind e. let same : rest ≡ behind = cc in subst (Behind (at + 1 + 1)) same (explained (at + 1 + 1) rest h.1.1))

-- ---- the next instruction of a loop

pub record GoesOn (all : List Fields) (at : ℕ) (i : Form) : Type 0 where
  pub read : program_from at false (drop at all) ≡ with_first i (program_from (at + slot_count i) false (drop (at + slot_count i) all))
  pub within : at + slot_count i ≤ length all

pub goes_on : (all : List Fields) (at : ℕ) (i : Form) → AllByRecursion FieldsFit all → at < length all → front (drop at all) ≡ Ok i → GoesOn all at i
goes_on all at i fit lt e = by (drop at all) refl
  where
    by : (there : List Fields) → drop at all ≡ there → GoesOn all at i
    by [] s = absurd (omega (arith, ap length s, length-drop at all))
    by (f ∷ rest) s =
        let b = front_begins f rest i (subst (AllByRecursion FieldsFit) s (all_drop FieldsFit at all fit)) (ap front (sym s) ∙ e) in
        let joined : drop at all ≡ slots i ++ b.rest = s ∙ b.joined in
        let behind : drop (at + slot_count i) all ≡ b.rest = sym (drop-drop (slot_count i) at all) ∙ ap (drop (slot_count i)) joined ∙ ap (λ k. drop k (slots i ++ b.rest)) (sym (count_is i)) ∙ drop-append_seam (slots i) b.rest in
        record {
          read = ap (program_from at false) joined ∙ step i b.rest at b.encoded ∙ ap (λ x. with_first i (program_from (at + slot_count i) false x)) (sym behind);
          within = omega (arith, ap length joined, length-append (slots i) b.rest, count_is i, length-drop at all);
        }

pub stops : (all : List Fields) (at : ℕ) (why : DecodeFault) → AllByRecursion FieldsFit all → at < length all → front (drop at all) ≡ Err why → program_from at false (drop at all) ≡ Err (record { slot = at; why = why })
stops all at why fit lt e = by (drop at all) refl
  where
    by : (there : List Fields) → drop at all ≡ there → program_from at false (drop at all) ≡ Err (record { slot = at; why = why })
    by [] s = absurd (omega (arith, ap length s, length-drop at all))
    by (f ∷ rest) s =
        let here = (subst (AllByRecursion FieldsFit) s (all_drop FieldsFit at all fit)).0 in
        refused_here (drop at all) at why (ap first_fault s ∙ front_fails f rest why here (ap front (sym s) ∙ e))

pub read_more : (p q : List Form) (i : Form) (all : List Fields) (at n : ℕ) (whole : Answer) → whole ≡ with_all p (program_from at false (drop at all)) → GoesOn all at i → q ≡ p ++ i ∷ [] → n ≡ slot_count i → whole ≡ with_all q (program_from (at + n) false (drop (at + n) all))
read_more p q i all at n whole h more e width =
    h
    ∙ ap (with_all p) more.read
    ∙ all_push p i (program_from (at + slot_count i) false (drop (at + slot_count i) all))
    ∙ ap (λ x. with_all x (program_from (at + slot_count i) false (drop (at + slot_count i) all))) (sym e)
    ∙ ap (λ k. with_all q (program_from (at + k) false (drop (at + k) all))) (sym width)

pub read_all : (p : List Form) (all : List Fields) (at : ℕ) (whole : Answer) → whole ≡ with_all p (program_from at false (drop at all)) → at ≡ length all → whole ≡ Ok p
unfolding program_from
read_all p all at whole h e =
    h
    ∙ ap (λ k. with_all p (program_from at false (drop k all))) e
    ∙ ap (λ x. with_all p (program_from at false x)) (drop-length all)
    ∙ all_ok p []
    ∙ ap Ok (append-nil p)
