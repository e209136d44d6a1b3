-- The joined frames of any program are what all that comes in at each slot has in common, and no others are; and of an accepted program they
-- are the typing that says most.
use Rattle.std.proofs.Common.{◌≡◌, ℕ, zero, suc, ◌<◌, ◌≤◌, Bool, true, false, cond, List, Option, Some, None, refl, sym, ap, ◌∙◌, inl, inr, ⊎_elim, arith, subst}
use Rattle.std.specs.Prelude.{◌↔◌, IsSome, pos, replicate, unwrap_or}
use Rattle.std.specs.List.{AllByRecursion}
use Rattle.std.proofs.lemmas.Bool.{cases_lt}
use Rattle.insn.specs.declared.instruction.Form.{Form}
use Rattle.insn.specs.Encoding.{HasEncoding}
use Rattle.insn.specs.Layout.{size, instruction_at}
use Rattle.insn.proofs.Export.{first_of}
use Rattle.insn.specs.declared.instruction.Edge.{Edge}
use Rattle.insn.specs.declared.instruction.Edge.TheVariants.{Fall, Jump}
use Rattle.regkind.specs.declared.frames.Kind.{Kind}
use Rattle.regkind.specs.declared.frames.Kind.TheVariants.{Scalar, Stack}
use Rattle.regkind.specs.declared.frames.Cell.TheVariants.{Marks}
use Rattle.regkind.specs.Frames.{Frame, Covers, IsFrame, entry_frame, blank_frame}
use Rattle.regkind.proofs.Export.{covers_refl, covers_antisymmetric, IsFrame-entry, IsFrame-blank}
use Rattle.flow.specs.Structure.{IsStructured, StandsAt, Reached}
use Rattle.flow.specs.Structure as flow
use Rattle.flow.proofs.Export.{target_stands}
use Rattle.verifier.specs.Signature.{Signature}
use Rattle.verifier.specs.Rules.{first_broken}
use Rattle.verifier.specs.FrameAfter.{frame_after}
use Rattle.verifier.specs.Typing.{Frames, IsTyping, Leads, ComesTo, IsJoinOf, IsKnownAt}
use Rattle.verifier.specs.Joined.{in_common, entry_at, joined_frame, leads}
use Rattle.verifier.specs.Known.{known_before, IsBestTyping}
use Rattle.verifier.specs.Verdict.{verdict, lowest_refusal}
use Rattle.verifier.proofs.Joins.{With, ComesIn, along, along_edge, out_of, out_of_both, out_of_neither, coming_in, coming_next, leads_is, resaid, joined_at, or_entry_frame, has_joined, is_join, comes_same}
use Rattle.verifier.proofs.Sweep.{IsFine, joined_here, joined_fine}
use Rattle.verifier.proofs.Untypable.{covered}
use Rattle.verifier.proofs.VerdictLaws.{accepts, typed_by_joins, verdict_of_kinds}

-- ---- what comes in

-- an edge of a lower slot at which something is known
abbrev Seen : List Form → ℕ → ℕ → Edge → Type 0
Seen p n s e = (s < n) × IsSome (joined_frame p s)

module _ (p : List Form) (t : ℕ) where
  -- an instruction at slot s, of which something is known
  one_more : (s : ℕ) (i : Form) (f : Frame) (o : Option Frame) → StandsAt p i s → joined_frame p s ≡ Some f → ComesIn p (joined_at p) (Seen p s) t o → ComesIn p (joined_at p) (Seen p (suc s)) t (out_of (joined_frame p) s (Some i) t o)
  one_more s i f o stands is c =
      let at : joined_at p s ≡ f = ap or_entry_frame is in
      let known : joined_frame p s ≡ Some (joined_at p s) = is ∙ ap Some (sym at) in
      let there : IsSome (joined_frame p s) = subst IsSome (sym is) refl in
      let frame : IsFrame (joined_at p s) = subst IsFrame (sym at) (subst IsFine is (joined_fine p s)) in
      let one = along_edge p (joined_at p) (Seen p s) t i s stands frame Fall o c in
      let two = along_edge p (joined_at p) (With (Seen p s) s Fall) t i s stands frame Jump (along Fall i s (joined_at p s) t o) one in
      let done = resaid p (joined_at p) (With (With (Seen p s) s Fall) s Jump) (Seen p (suc s)) t (along Jump i s (joined_at p s) t (along Fall i s (joined_at p s) t o)) (λ x u d h seen. to u d seen) (λ x u d h seen. from there u d seen) two in
      subst (ComesIn p (joined_at p) (Seen p (suc s)) t) (sym (out_of_both (joined_frame p) s t i (joined_at p s) o known)) done
    where
      to : (u : ℕ) (d : Edge) → Seen p (suc s) u d → With (With (Seen p s) s Fall) s Jump u d
      to u d seen = ⊎_elim (λ (lt : u < s). inl (inl (lt, seen.1))) (λ (ge : s ≤ u). at_edge d (let lt = seen.0 in omega arith)) (cases_lt u s)
        where
          at_edge : (d : Edge) → u ≡ s → With (With (Seen p s) s Fall) s Jump u d
          at_edge Fall e = inl (inr (e, refl))
          at_edge Jump e = inr (e, refl)

      from : IsSome (joined_frame p s) → (u : ℕ) (d : Edge) → With (With (Seen p s) s Fall) s Jump u d → Seen p (suc s) u d
      from there u d (inl (inl h)) = (let lt = h.0 in omega arith, h.1)
      from there u d (inl (inr h)) = (let e = h.0 in omega arith, subst (λ x. IsSome (joined_frame p x)) (sym h.0) there)
      from there u d (inr h) = (let e = h.0 in omega arith, subst (λ x. IsSome (joined_frame p x)) (sym h.0) there)

  -- all lower slots
  comes_below : (n : ℕ) → ComesIn p (joined_at p) (Seen p n) t (coming_in p (joined_frame p) n t)
  comes_below zero = first t
    where
      first : (u : ℕ) → ComesIn p (joined_at p) (Seen p 0) u (coming_in p (joined_frame p) 0 u)
      first zero = record { frame = IsFrame-entry; entry = λ z. covers_refl entry_frame; edges = λ i s d h seen. let lt = seen.0 in absurd (omega arith); greatest = λ a h k. h refl }
      first (suc u) = (λ z. absurd (omega arith), λ i s d h seen. let lt = seen.0 in absurd (omega arith))
  comes_below (suc s) = subst (ComesIn p (joined_at p) (Seen p (suc s)) t) (sym (coming_next p (joined_frame p) s t)) (by (instruction_at p s) (joined_frame p s) refl refl (comes_below s))
    where
      before : Option Frame
      before = coming_in p (joined_frame p) s t

      -- no edge of slot s counts
      as_before : ((i : Form) → StandsAt p i s → IsSome (joined_frame p s) → ⊥) → ComesIn p (joined_at p) (Seen p s) t before → ComesIn p (joined_at p) (Seen p (suc s)) t before
      as_before none c = resaid p (joined_at p) (Seen p s) (Seen p (suc s)) t before from (λ i u d h seen. (let lt = seen.0 in omega arith, seen.1)) c
        where
          from : (i : Form) (u : ℕ) (d : Edge) → Leads p i u d t → Seen p (suc s) u d → Seen p s u d
          from i u d h seen = ⊎_elim
              (λ (lt : u < s). (lt, seen.1))
              (λ (ge : s ≤ u). let e : u ≡ s = (let lt = seen.0 in omega arith) in absurd (none i (subst (StandsAt p i) e h.0) (subst (λ x. IsSome (joined_frame p x)) e seen.1)))
              (cases_lt u s)

      by : (x : Option Form) (g : Option Frame) → instruction_at p s ≡ x → joined_frame p s ≡ g → ComesIn p (joined_at p) (Seen p s) t before → ComesIn p (joined_at p) (Seen p (suc s)) t (out_of (joined_frame p) s (instruction_at p s) t before)
      by None g ex eg c = subst (λ x. ComesIn p (joined_at p) (Seen p (suc s)) t (out_of (joined_frame p) s x t before)) (sym ex) (as_before (λ i stands there. cc) c)
      by (Some i) None ex eg c = subst (ComesIn p (joined_at p) (Seen p (suc s)) t) (sym (out_of_neither (joined_frame p) s t (instruction_at p s) before eg)) (as_before (λ x stands there. absurd_some (subst IsSome eg there)) c)
        where
          absurd_some : IsSome {T = Frame} None → ⊥
          absurd_some h = cc
      by (Some i) (Some f) ex eg c = subst (λ x. ComesIn p (joined_at p) (Seen p (suc s)) t (out_of (joined_frame p) s x t before)) (sym ex) (one_more s i f before ex eg c)

  comes : ComesIn p (joined_at p) (Seen p t) t (joined_frame p t)
  comes = subst (ComesIn p (joined_at p) (Seen p t) t) (sym (joined_here p t)) (comes_below t)

-- ---- what is known is the join

is_known : (o : Option Frame) → IsSome o → o ≡ Some (or_entry_frame o)
is_known None h = cc
is_known (Some f) h = refl

known_of : (o : Option Frame) (f : Frame) → o ≡ Some f → IsSome o
known_of o f e = subst IsSome (sym e) refl

pub joined_is_known : (p : List Form) (t : ℕ) → IsKnownAt p (joined_frame p) t
joined_is_known p t = by (joined_frame p t) (comes p t)
  where
    by : (o : Option Frame) → ComesIn p (joined_at p) (Seen p t) t o → IsJoinOf (ComesTo p (joined_frame p) t) o
    by None c = none
      where
        none : (g : Frame) → ComesTo p (joined_frame p) t g → ⊥
        none g (ComesTo.entry z) = c.0 z
        none g (ComesTo.along i s e f leads lt is) = c.1 i s e leads (lt, known_of (joined_frame p s) f is)
    by (Some f) c = record { frame = c.frame; no_more = no_more; no_less = λ a h. c.greatest a (λ z. h entry_frame (ComesTo.entry z)) (λ i s e leads seen. h _ (ComesTo.along i s e (joined_at p s) leads seen.0 (is_known (joined_frame p s) seen.1))) }
      where
        no_more : (g : Frame) → ComesTo p (joined_frame p) t g → Covers f g
        no_more g (ComesTo.entry z) = c.entry z
        no_more g (ComesTo.along i s e h leads lt is) = subst (λ x. Covers f (frame_after i x e)) (ap or_entry_frame is) (c.edges i s e leads (lt, known_of (joined_frame p s) h is))

-- ---- and nothing else is

-- no frame says all that any frame says
not_everything : (f : Frame) → ((a : Frame) → Covers a f) → ⊥
not_everything f all =
    let one = (all (all_of Scalar)).kinds 0 (omega arith) in
    let two = (all (all_of (Stack (pos 0)))).kinds 0 (omega arith) in
    ⊎_elim (λ h. cc) (λ h. ⊎_elim (λ k. cc) (λ k. cc) two) one
  where
    all_of : Kind → Frame
    all_of k = record { kinds = replicate 11 k; cells = replicate 64 (Marks 0) }

same_join : (some other : Frame → Type 0) (a b : Option Frame) → ((g : Frame) → some g → other g) → ((g : Frame) → other g → some g) → IsJoinOf some a → IsJoinOf other b → a ≡ b
same_join some other None None to from j k = refl
same_join some other None (Some f) to from j k = absurd (not_everything f (λ a. k.no_less a (λ g h. absurd (j g (from g h)))))
same_join some other (Some f) None to from j k = absurd (not_everything f (λ a. j.no_less a (λ g h. absurd (k g (to g h)))))
same_join some other (Some f) (Some g) to from j k = ap Some (covers_antisymmetric f g j.frame k.frame (k.no_less f (λ x h. j.no_more x (from x h))) (j.no_less g (λ x h. k.no_more x (to x h))))

known_here : (p : List Form) (known : ℕ → Option Frame) (t : ℕ) → IsKnownAt p known t → ((s : ℕ) → s < t → known s ≡ joined_frame p s) → known t ≡ joined_frame p t
known_here p known t here same =
    same_join (ComesTo p known t) (ComesTo p (joined_frame p) t) (known t) (joined_frame p t) (comes_same p known (joined_frame p) t (λ i s stands below. same s below))
    (comes_same p (joined_frame p) known t (λ i s stands below. sym (same s below)))
    here
    (joined_is_known p t)

pub known_is_joined : (p : List Form) (known : ℕ → Option Frame) (n : ℕ) → ((t : ℕ) → t < n → IsKnownAt p known t) → (t : ℕ) → t < n → known t ≡ joined_frame p t
known_is_joined p known zero each t lt = absurd (omega arith)
known_is_joined p known (suc n) each t lt =
    let lower = known_is_joined p known n (λ u below. each u (omega arith)) in
    ⊎_elim (λ (below : t < n). lower t below) (λ (ge : n ≤ t). known_here p known t (each t lt) (λ s below. lower s (omega arith))) (cases_lt t n)

-- ---- where something is known

known_if_reached : (p : List Form) (t : ℕ) → Reached p t → IsSome (joined_frame p t)
known_if_reached p t flow.Reached.first = by (joined_frame p 0) (comes p 0)
  where
    by : (o : Option Frame) → ComesIn p (joined_at p) (Seen p 0) 0 o → IsSome o
    by None c = absurd (c.0 refl)
    by (Some f) c = refl
known_if_reached p t (flow.Reached.next {s = s} {i = i} e r stands leads lt) = by (joined_frame p t) (comes p t) (known_if_reached p s r)
  where
    by : (o : Option Frame) → ComesIn p (joined_at p) (Seen p t) t o → IsSome (joined_frame p s) → IsSome o
    by None c there = absurd (c.1 i s e (stands, leads) (lt, there))
    by (Some f) c there = refl

module _ (p : List Form) (t : ℕ) (lower : (s : ℕ) → s < t → IsSome (joined_frame p s) → Reached p s) where
  -- along one edge
  by_edge : (d : Edge) (i : Form) (s : ℕ) (f : Frame) (o : Option Frame) → StandsAt p i s → s < t → IsSome (joined_frame p s) → (IsSome o → Reached p t) → IsSome (along d i s f t o) → Reached p t
  by_edge d i s f o stands lt there rest h = by (leads i s d t) refl h
    where
      by : (b : Bool) → leads i s d t ≡ b → IsSome (cond b (in_common o (Some (frame_after i f d))) o) → Reached p t
      by true e h = flow.Reached.next d (lower s lt there) stands (leads_is i s d t e) lt
      by false e h = rest h

  reached_below : (n : ℕ) → n ≤ t → IsSome (coming_in p (joined_frame p) n t) → Reached p t
  reached_below zero le h = first t h
    where
      first : (u : ℕ) → IsSome (entry_at u) → Reached p u
      first zero h = flow.Reached.first
      first (suc u) h = cc
  reached_below (suc s) le h = by (instruction_at p s) (joined_frame p s) refl refl (subst IsSome (coming_next p (joined_frame p) s t) h) (reached_below s (omega arith))
    where
      before : Option Frame
      before = coming_in p (joined_frame p) s t

      by : (x : Option Form) (g : Option Frame) → instruction_at p s ≡ x → joined_frame p s ≡ g → IsSome (out_of (joined_frame p) s (instruction_at p s) t before) → (IsSome before → Reached p t) → Reached p t
      by None g ex eg k rest = rest (subst (λ x. IsSome (out_of (joined_frame p) s x t before)) ex k)
      by (Some i) None ex eg k rest = rest (subst IsSome (out_of_neither (joined_frame p) s t (instruction_at p s) before eg) k)
      by (Some i) (Some f) ex eg k rest =
          let there : IsSome (joined_frame p s) = known_of (joined_frame p s) f eg in
          let both = subst IsSome (ap (λ x. out_of (joined_frame p) s x t before) ex ∙ out_of_both (joined_frame p) s t i f before eg) k in
          by_edge Jump i s f (along Fall i s f t before) ex (omega arith) there (by_edge Fall i s f before ex (omega arith) there rest) both

reached_up_to : (p : List Form) (n t : ℕ) → t < n → IsSome (joined_frame p t) → Reached p t
reached_up_to p zero t lt h = absurd (omega arith)
reached_up_to p (suc n) t lt h = reached_below p t (λ s below there. reached_up_to p n s (omega arith) there) t (omega arith) (subst IsSome (joined_here p t) h)

pub known_where_reached : (p : List Form) (t : ℕ) → IsSome (joined_frame p t) ↔ Reached p t
known_where_reached p t = (reached_up_to p (suc t) t (omega arith), known_if_reached p t)

-- ---- of an accepted program

-- where an instruction stands, these are the joined frames, and elsewhere frames of any kind
record Agrees (p : List Form) (F : Frames) : Type 0 where
  frames : (s : ℕ) → IsFrame (F s)
  each : (i : Form) (s : ℕ) → StandsAt p i s → F s ≡ joined_at p s

module _ (p : List Form) (l : Signature) (structured : IsStructured p) (F : Frames) (agrees : Agrees p F) where
  typed_as : IsTyping p l (joined_at p) → IsTyping p l F
  typed_as typed = record {
    frames = agrees.frames;
    entry = ⊎_elim
        (λ z. let some = structured.size_good.some in absurd (omega arith))
        (λ there. subst (λ g. Covers g entry_frame) (sym (agrees.each there.0 0 there.1)) typed.entry)
        (first_of p);
    each = λ i s stands. ap (first_broken l i) (agrees.each i s stands) ∙ typed.each i s stands;
    edges = λ i s t d leads.
        let to = target_stands p i s t d structured leads.0 leads.1 in
        subst (λ g. Covers g (frame_after i (F s) d)) (sym (agrees.each to.0 t to.1))
        (subst (λ g. Covers (joined_at p t) (frame_after i g d)) (sym (agrees.each i s leads.0)) (typed.edges i s t d leads));
  }

known_frame : (o : Option Frame) → IsFine o → IsFrame (unwrap_or o blank_frame)
known_frame None fine = IsFrame-blank
known_frame (Some f) fine = fine

agree : (p : List Form) → IsStructured p → Agrees p (known_before p)
agree p structured = record {
  frames = λ s. known_frame (joined_frame p s) (joined_fine p s);
  each = λ i s stands. ap (λ o. unwrap_or o blank_frame) (has_joined p structured i s stands).0;
}

pub joined_is_best : (p : List Form) (l : Signature) → AllByRecursion HasEncoding p → verdict p l ≡ None → IsBestTyping p l
joined_is_best p l all accepted =
    let structured = (accepts p l accepted).0 in
    let unbroken : lowest_refusal p l (size p) ≡ None = sym (verdict_of_kinds p l structured) ∙ accepted in
    let agrees = agree p structured in
    record {
      each = λ i t stands. known_of (joined_frame p t) (joined_at p t) (has_joined p structured i t stands).0;
      typing = typed_as p l structured (known_before p) agrees (typed_by_joins p l structured unbroken);
      best = λ F types i t stands.
          subst (Covers (F t)) (sym (agrees.each i t stands))
          (covered p l all F types (joined_at p) t (λ x s here le. is_join p structured x s here) (suc t) t i stands (omega arith) (omega arith));
    }
