-- The computed verdict is none exactly for the typable programs, and else the refusal that is to be named.
use Rattle.std.proofs.Common.{◌≡◌, ℕ, zero, suc, ◌<◌, ◌≤◌, List, Option, Some, None, refl, sym, ap, ◌∙◌, inl, inr, ⊎_elim, arith, subst}
use Rattle.std.specs.Prelude.{◌↔◌}
use Rattle.std.specs.Option.{option_map}
use Rattle.std.specs.List.{AllByRecursion}
use Rattle.std.proofs.lemmas.Bool.{cases_lt, cases_eq}
use Rattle.insn.specs.declared.instruction.Form.{Form}
use Rattle.insn.specs.Encoding.{HasEncoding}
use Rattle.insn.specs.Layout.{size, instruction_at}
use Rattle.insn.proofs.Export.{first_of}
use Rattle.regkind.specs.Frames.{Frame, Covers, IsFrame, entry_frame}
use Rattle.regkind.proofs.Export.{covers_antisymmetric, IsFrame-entry}
use Rattle.flow.specs.Structure.{IsStructured, StandsAt}
use Rattle.flow.specs.declared.rules.Broken.{Broken}
use Rattle.flow.specs.Faults.{structure_fault}
use Rattle.flow.proofs.Export.{leads_on, target_stands, structured_from_fault, broken_from_fault, broken_is_not_structured, only_one_broken, no_fault_iff, fault_iff, stands_within}
use Rattle.verifier.specs.declared.refusal.VerifyFault.{VerifyFault}
use Rattle.verifier.specs.declared.refusal.Refused.{Refused}
use Rattle.verifier.specs.Signature.{Signature}
use Rattle.verifier.specs.Rules.{first_broken}
use Rattle.verifier.specs.Typing.{Frames, IsTyping, IsTypable, ComesTo, IsKnownAt, FirstBrokenKind, Refuses, RefusedByStructure, RefusedByKinds, structure_reason}
use Rattle.verifier.specs.Joined.{joined_frame}
use Rattle.verifier.specs.Verdict.{refused, refusal_of, or_else, lowest_refusal, after_structure, verdict}
use Rattle.verifier.proofs.Joins.{same_form, Below, joined_at, has_joined, is_join, joins, comes_same, ComesIn, or_entry_frame}
use Rattle.verifier.proofs.Untypable.{untypable}

-- ---- the lowest refusal

none_below : (p : List Form) (l : Signature) (n s : ℕ) → lowest_refusal p l n ≡ None → s < n → refusal_of l (instruction_at p s) (joined_frame p s) s ≡ None
unfolding lowest_refusal
none_below p l zero s e lt = absurd (omega arith)
none_below p l (suc k) s e lt =
    let parts = both_none (lowest_refusal p l k) (refusal_of l (instruction_at p k) (joined_frame p k) k) e in
    ⊎_elim
    (λ eq. subst (λ x. refusal_of l (instruction_at p x) (joined_frame p x) x ≡ None) (sym eq) parts.1)
    (λ ne. none_below p l k s parts.0 (omega arith))
    (cases_eq s k)
  where
    both_none : (a b : Option Refused) → or_else a b ≡ None → (a ≡ None) × (b ≡ None)
    both_none None b e = (refl, e)
    both_none (Some x) b e = cc

-- one is found, and none before it
record Lowest (p : List Form) (l : Signature) (e : Refused) : Type 0 where
  here : refusal_of l (instruction_at p e.slot) (joined_frame p e.slot) e.slot ≡ Some e
  before : lowest_refusal p l e.slot ≡ None

slot_of : (l : Signature) (o : Option Form) (f : Option Frame) (s : ℕ) (e : Refused) → refusal_of l o f s ≡ Some e → e.slot ≡ s
slot_of l None f s e h = cc
slot_of l (Some i) None s e h = cc
slot_of l (Some i) (Some f) s e h = by (first_broken l i f) h
  where
    by : (o : Option VerifyFault) → option_map (refused s) o ≡ Some e → e.slot ≡ s
    by None h = cc
    by (Some v) h = let same : refused s v ≡ e = cc in ap (λ x. x.slot) (sym same)

found_lowest : (p : List Form) (l : Signature) (n : ℕ) (e : Refused) → lowest_refusal p l n ≡ Some e → Lowest p l e
unfolding lowest_refusal
found_lowest p l zero e h = cc
found_lowest p l (suc k) e h = by (lowest_refusal p l k) refl h (λ x. found_lowest p l k e x)
  where
    by : (o : Option Refused) → lowest_refusal p l k ≡ o → or_else o (refusal_of l (instruction_at p k) (joined_frame p k) k) ≡ Some e → (lowest_refusal p l k ≡ Some e → Lowest p l e) → Lowest p l e
    by (Some x) eq h rest = rest (eq ∙ h)
    by None eq h rest =
        let same : e.slot ≡ k = slot_of l (instruction_at p k) (joined_frame p k) k e h in
        record { here = subst (λ x. refusal_of l (instruction_at p x) (joined_frame p x) x ≡ Some e) (sym same) h; before = ap (lowest_refusal p l) same ∙ eq }

-- ---- structured programs

fine_at : (l : Signature) (i : Form) (o : Option Form) (f : Option Frame) (g : Frame) (s : ℕ) → o ≡ Some i → f ≡ Some g → refusal_of l o f s ≡ None → first_broken l i g ≡ None
fine_at l i o f g s eo ef h = by (first_broken l i g) (sym (ap (λ x. refusal_of l x f s) eo ∙ ap (λ x. refusal_of l (Some i) x s) ef) ∙ h)
  where
    by : (v : Option VerifyFault) → option_map (refused s) v ≡ None → v ≡ None
    by None h = refl
    by (Some v) h = cc

module _ (p : List Form) (l : Signature) (structured : IsStructured p) where
  fine : (n : ℕ) → lowest_refusal p l n ≡ None → (i : Form) (s : ℕ) → StandsAt p i s → s < n → first_broken l i (joined_at p s) ≡ None
  fine n e i s stands lt = fine_at l i (instruction_at p s) (joined_frame p s) (joined_at p s) s stands (has_joined p structured i s stands).0 (none_below p l n s e lt)

  all_frames : (s : ℕ) (o : Option Frame) → joined_frame p s ≡ o → IsFrame (or_entry_frame o)
  all_frames s None e = IsFrame-entry
  all_frames s (Some f) e = (subst (ComesIn p (joined_at p) (Below s) s) e (joins p structured (suc s) s (omega arith))).frame

  first_entry : Covers (joined_at p 0) entry_frame
  first_entry = ⊎_elim
      (λ z. let some = structured.size_good.some in absurd (omega arith))
      (λ h. (is_join p structured h.0 0 h.1).no_more entry_frame (ComesTo.entry refl))
      (first_of p)

  pub typed_by_joins : lowest_refusal p l (size p) ≡ None → IsTyping p l (joined_at p)
  typed_by_joins e = record {
    frames = λ s. all_frames s (joined_frame p s) refl;
    entry = first_entry;
    each = λ i s stands. fine (size p) e i s stands (stands_within p i s stands);
    edges = λ i s t d leads.
        let there = target_stands p i s t d structured leads.0 leads.1 in
        (is_join p structured there.0 t there.1).no_more _ (ComesTo.along i s d (joined_at p s) leads (leads_on p i s t d structured leads.0 leads.1) refl);
  }

  pub typing : lowest_refusal p l (size p) ≡ None → IsTypable p l
  typing e = (structured, (joined_at p, typed_by_joins e))

  pub refusal : (e : Refused) → lowest_refusal p l (size p) ≡ Some e → RefusedByKinds p l e
  refusal e h = let low = found_lowest p l (size p) e h in by (instruction_at p e.slot) refl low.here low.before
    where
      by : (o : Option Form) → instruction_at p e.slot ≡ o → refusal_of l (instruction_at p e.slot) (joined_frame p e.slot) e.slot ≡ Some e → lowest_refusal p l e.slot ≡ None → RefusedByKinds p l e
      by None eq here before = let h = sym (ap (λ o. refusal_of l o (joined_frame p e.slot) e.slot) eq) ∙ here in cc
      by (Some i) eq here before =
          let h = sym (ap (λ o. refusal_of l o (joined_frame p e.slot) e.slot) eq) ∙ here in
          let g = sym (ap (λ f. refusal_of l (Some i) f e.slot) (has_joined p structured i e.slot eq).0) ∙ h in (
            structured,
            record {
              frames = joined_at p;
              joined = λ x t st le. is_join p structured x t st;
              before = λ x t st lt. fine e.slot before x t st lt;
              instruction = i;
              stands = eq;
              broken = why (first_broken l i (joined_at p e.slot)) refl g;
            },
          )
        where
          why : (o : Option VerifyFault) → first_broken l i (joined_at p e.slot) ≡ o → option_map (refused e.slot) o ≡ Some e → first_broken l i (joined_at p e.slot) ≡ Some e.why
          why None eq h = cc
          why (Some v) eq h = let same : refused e.slot v ≡ e = cc in eq ∙ ap (λ x. Some x.why) same

-- ---- what the verdict says

pub accepts : (p : List Form) (l : Signature) → verdict p l ≡ None → IsTypable p l
unfolding verdict
accepts p l h = by (structure_fault p) refl h
  where
    by : (o : Option Broken) → structure_fault p ≡ o → after_structure o (lowest_refusal p l (size p)) ≡ None → IsTypable p l
    by None e h = typing p l (structured_from_fault p e) h
    by (Some f) e h = cc

pub refuses : (p : List Form) (l : Signature) (e : Refused) → verdict p l ≡ Some e → Refuses p l e
unfolding verdict
refuses p l e h = by (structure_fault p) refl h
  where
    by : (o : Option Broken) → structure_fault p ≡ o → after_structure o (lowest_refusal p l (size p)) ≡ Some e → Refuses p l e
    by None eq h = inr (refusal p l (structured_from_fault p eq) e h)
    by (Some f) eq h =
        let same : refused f.slot (structure_reason f.rule) ≡ e = cc in
        inl (subst (RefusedByStructure p) same (f.rule, broken_from_fault p f eq, refl))

-- ---- it is the only one

-- a refused program has no typing
pub never_both : (p : List Form) (l : Signature) (e : Refused) → AllByRecursion HasEncoding p → Refuses p l e → IsTypable p l → ⊥
never_both p l e all (inl h) typable = broken_is_not_structured p e.slot h.0 h.1 typable.0
never_both p l e all (inr h) typable = untypable p l e.slot e.why all h.1 typable

-- joined frames are the same, however they are had
abbrev AreJoined : List Form → ℕ → Frames → Type 0
AreJoined p last J = (i : Form) (t : ℕ) → StandsAt p i t → t ≤ last → IsKnownAt p (λ s. Some (J s)) t

module _ (p : List Form) (last : ℕ) (J K : Frames) (first : AreJoined p last J) (second : AreJoined p last K) where
  pub same_joins : (n t : ℕ) (x : Form) → StandsAt p x t → t < n → t ≤ last → J t ≡ K t
  same_joins zero t x here lt le = absurd (omega arith)
  same_joins (suc n) t x here lt le =
      let j = first x t here le in
      let k = second x t here le in
      let lower : (i : Form) (s : ℕ) → StandsAt p i s → s < t → Some (J s) ≡ Some (K s) = λ i s stands below. ap Some (same_joins n s i stands (omega arith) (omega arith)) in
      covers_antisymmetric (J t) (K t) j.frame k.frame
      (k.no_less (J t) (λ g h. j.no_more g (comes_same p (λ s. Some (K s)) (λ s. Some (J s)) t (λ i s stands below. sym (lower i s stands below)) g h)))
      (j.no_less (K t) (λ g h. k.no_more g (comes_same p (λ s. Some (J s)) (λ s. Some (K s)) t lower g h)))

lower : (p : List Form) (l : Signature) (s t : ℕ) (v w : VerifyFault) → FirstBrokenKind p l s v → FirstBrokenKind p l t w → s < t → ⊥
lower p l s t v w a b lt =
    let same = same_joins p s a.frames b.frames (λ i u st le. a.joined i u st le) (λ i u st le. b.joined i u st (omega arith)) (suc s) s a.instruction a.stands (omega arith) (omega arith) in
    let none = b.before a.instruction s a.stands lt in
    let some = sym (ap (first_broken l a.instruction) same) ∙ a.broken in
    cc

same_why : (p : List Form) (l : Signature) (s t : ℕ) (v w : VerifyFault) → FirstBrokenKind p l s v → FirstBrokenKind p l t w → s ≡ t → v ≡ w
same_why p l s t v w a b e =
    let same = same_joins p s a.frames b.frames (λ i u st le. a.joined i u st le) (λ i u st le. b.joined i u st (omega arith)) (suc s) s a.instruction a.stands (omega arith) (omega arith) in
    let form = same_form p a.instruction b.instruction s t a.stands b.stands e in
    let one : first_broken l b.instruction (b.frames t) ≡ Some v =
    sym (ap (λ i. first_broken l i (b.frames t)) form) ∙ sym (ap (λ u. first_broken l a.instruction (b.frames u)) e) ∙ sym (ap (first_broken l a.instruction) same) ∙ a.broken in
    let two = b.broken in
    cc

same_refused : (a b : Refused) → a.slot ≡ b.slot → a.why ≡ b.why → a ≡ b
same_refused a b e h = ap (λ x. refused x a.why) e ∙ ap (refused b.slot) h

same_kinds : (p : List Form) (l : Signature) (a b : Refused) → RefusedByKinds p l a → RefusedByKinds p l b → a ≡ b
same_kinds p l a b h k = ⊎_elim
    (λ (lt : a.slot < b.slot). absurd (lower p l a.slot b.slot a.why b.why h.1 k.1 lt))
    (λ (ge : b.slot ≤ a.slot). ⊎_elim
    (λ (lt : b.slot < a.slot). absurd (lower p l b.slot a.slot b.why a.why k.1 h.1 lt))
    (λ (le : a.slot ≤ b.slot). let e : a.slot ≡ b.slot = omega arith in same_refused a b e (same_why p l a.slot b.slot a.why b.why h.1 k.1 e))
    (cases_lt b.slot a.slot))
    (cases_lt a.slot b.slot)

pub one_refusal : (p : List Form) (l : Signature) (a b : Refused) → Refuses p l a → Refuses p l b → a ≡ b
one_refusal p l a b (inl h) (inl k) = let same = only_one_broken p a.slot b.slot h.0 k.0 h.1 k.1 in same_refused a b same.0 (h.2 ∙ ap structure_reason same.1 ∙ sym k.2)
one_refusal p l a b (inl h) (inr k) = absurd (broken_is_not_structured p a.slot h.0 h.1 k.0)
one_refusal p l a b (inr h) (inl k) = absurd (broken_is_not_structured p b.slot k.0 k.1 h.0)
one_refusal p l a b (inr h) (inr k) = same_kinds p l a b h k

-- ---- the laws

pub accepted_iff : (p : List Form) (l : Signature) → AllByRecursion HasEncoding p → (verdict p l ≡ None) ↔ IsTypable p l
accepted_iff p l all = (accepts p l, λ typable. by (verdict p l) refl typable)
  where
    by : (o : Option Refused) → verdict p l ≡ o → IsTypable p l → verdict p l ≡ None
    by None e typable = e
    by (Some e) eq typable = absurd (never_both p l e all (refuses p l e eq) typable)

pub refused_iff : (p : List Form) (l : Signature) (e : Refused) → AllByRecursion HasEncoding p → (verdict p l ≡ Some e) ↔ Refuses p l e
refused_iff p l e all = (refuses p l e, λ h. by (verdict p l) refl h)
  where
    by : (o : Option Refused) → verdict p l ≡ o → Refuses p l e → verdict p l ≡ Some e
    by None eq h = absurd (never_both p l e all h (accepts p l eq))
    by (Some x) eq h = eq ∙ ap Some (one_refusal p l x e (refuses p l x eq) h)

-- ---- the verdict, by what the code finds

pub by_structure : (p : List Form) (l : Signature) (e : Refused) → RefusedByStructure p e → verdict p l ≡ Some e
unfolding verdict
by_structure p l e h =
    let found = (fault_iff p e.slot h.0).1 h.1 in
    ap (λ o. after_structure o (lowest_refusal p l (size p))) found ∙ ap (λ v. Some (refused e.slot v)) (sym h.2)

-- of a structured program it is the refusal by kinds
pub verdict_of_kinds : (p : List Form) (l : Signature) → IsStructured p → verdict p l ≡ lowest_refusal p l (size p)
unfolding verdict
verdict_of_kinds p l structured = ap (λ o. after_structure o (lowest_refusal p l (size p))) ((no_fault_iff p).1 structured)

pub never_typable : (p : List Form) (l : Signature) (e : Refused) → IsStructured p → AllByRecursion HasEncoding p → lowest_refusal p l (size p) ≡ Some e → IsTypable p l → ⊥
never_typable p l e structured all low typable = never_both p l e all (inr (refusal p l structured e low)) typable
