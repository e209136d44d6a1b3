-- The joined frames, as they are computed, are what comes in at each slot.
use Rattle.std.proofs.Common.{◌≡◌, ◌≢◌, ℕ, zero, suc, ◌+◌, ◌<◌, Bool, true, false, cond, List, [], ◌∷◌, ◌++◌, length, map, Option, Some, None, refl, sym, ap, ◌∙◌, inl, inr, ⊎_elim, arith, subst, length-append}
use Rattle.std.specs.Prelude.{pos, option_and_then, fold, filter, flat_map, ◌==◌, ◌⊎◌}
use Rattle.std.specs.List.{range_with_len}
use Rattle.std.specs.Option.{option_map}
use Rattle.std.proofs.lemmas.List.{map-append, append-nil}
use Rattle.std.proofs.lemmas.List.Elements.{filter-append}
use Rattle.std.proofs.lemmas.Grind.{fold-append, flat_map-append}
use Rattle.std.proofs.lemmas.Option.{same_Some}
use Rattle.std.proofs.lemmas.Bool.{false≢true, and_parts, and_from, cases_lt, cases_eq, eqb-true, eq-eqb}
use Rattle.insn.specs.declared.instruction.Form.{Form}
use Rattle.insn.specs.Layout.{LeadsTo, slot_count, instruction_at, falls_through}
use Rattle.insn.specs.declared.instruction.Edge.{Edge}
use Rattle.insn.specs.declared.instruction.Edge.TheVariants.{Fall, Jump}
use Rattle.regkind.specs.Frames.{Frame, Covers, IsFrame, entry_frame}
use Rattle.regkind.proofs.Export.{covers_refl, covers_trans, IsFrame-entry}
use Rattle.flow.specs.Structure.{IsStructured, StandsAt, Reached}
use Rattle.flow.specs.Structure as flow
use Rattle.flow.specs.Faults.{is_slot}
use Rattle.flow.specs.declared.rules.StructureRule.TheVariants.{Unreachable}
use Rattle.flow.proofs.Export.{jump_found, jump_tested, slot_is}
use Rattle.verifier.specs.FrameAfter.{frame_after}
use Rattle.verifier.specs.Typing.{Frames, Leads, ComesTo, IsKnownAt}
use Rattle.verifier.specs.Joined.{common, in_common, Leaving, leaving, edges_of, leads, leads_to, frame_in, frame_along, entry_at, joined_frames, joined_frame}
use Rattle.verifier.proofs.Monotone.{after_frame}
use Rattle.verifier.proofs.Lists.{get_left, get_last}
use Rattle.verifier.proofs.Common.{common_frame, common_covers}

-- ---- edges

-- the edges of the instructions below slot n
abbrev pub Below : ℕ → ℕ → Edge → Type 0
Below n s e = s < n

-- one edge more
abbrev pub With : (ℕ → Edge → Type 0) → ℕ → Edge → ℕ → Edge → Type 0
With Seen at d s e = Seen s e ⊎ ((s ≡ at) × (e ≡ d))

-- at a slot stands one instruction
pub same_form : (p : List Form) (x i : Form) (s t : ℕ) → StandsAt p x s → StandsAt p i t → s ≡ t → x ≡ i
same_form p x i s t hx hi e = let moved = subst (λ y. StandsAt p x y) e hx in cc

-- an edge of an instruction goes to one slot
pub one_target : (i : Form) (s t u : ℕ) (e : Edge) → LeadsTo i s e (pos t) → LeadsTo i s e (pos u) → t ≡ u
one_target i s t u Fall h k = let a = h.1 in let b = k.1 in cc
one_target i s t u Jump h k = let same : h.0 ≡ k.0 = let a = h.1 in let b = k.1 in cc in let a = h.2 in let b = k.2 in cc

pub leads_is : (i : Form) (s : ℕ) (e : Edge) (t : ℕ) → leads i s e t ≡ true → LeadsTo i s e (pos t)
leads_is i s Fall t h = let b = and_parts (falls_through i) ((s + slot_count i) == t) h in (b.0, ap pos (sym (eqb-true (s + slot_count i) t b.1)))
leads_is i s Jump t h = let f = jump_found (is_slot t) i s h in subst (LeadsTo i s Jump) (slot_is t f.0 f.2) f.1

slot_self : (t : ℕ) → is_slot t (pos t) ≡ true
slot_self t = eq-eqb t t refl

pub is_leads : (i : Form) (s : ℕ) (e : Edge) (t : ℕ) → LeadsTo i s e (pos t) → leads i s e t ≡ true
is_leads i s Fall t h = let same : t ≡ s + slot_count i = let a = h.1 in cc in and_from (falls_through i) ((s + slot_count i) == t) h.0 (eq-eqb (s + slot_count i) t (sym same))
is_leads i s Jump t h = jump_tested (is_slot t) i s (pos t) h (slot_self t)

-- what came in before, and the frame along this edge, if it leads to slot t
abbrev pub along : Edge → Form → ℕ → Frame → ℕ → Option Frame → Option Frame
along e i s f t before = cond (leads i s e t) (in_common before (Some (frame_after i f e))) before

-- the frames along the edges of what stands at slot s, and what came in before
abbrev pub out_of : (ℕ → Option Frame) → ℕ → Option Form → ℕ → Option Frame → Option Frame
out_of G s o t before = fold in_common before (map (frame_along G) (filter (leads_to t) (edges_of s o)))

-- an edge of a list of edges
one_edge : (G : ℕ → Option Frame) (t : ℕ) (o : Option Frame) (x : Leaving) (xs : List Leaving) → fold in_common o (map (frame_along G) (filter (leads_to t) (x ∷ xs))) ≡ fold in_common (cond (leads_to t x) (in_common o (frame_along G x)) o) (map (frame_along G) (filter (leads_to t) xs))
one_edge G t o x xs = by (leads_to t x) refl
  where
    by : (b : Bool) → leads_to t x ≡ b → fold in_common o (map (frame_along G) (cond (leads_to t x) (x ∷ filter (leads_to t) xs) (filter (leads_to t) xs))) ≡ fold in_common (cond (leads_to t x) (in_common o (frame_along G x)) o) (map (frame_along G) (filter (leads_to t) xs))
    by true e = rw e refl
    by false e = rw e refl

-- both edges of an instruction
-- the frames along both edges, of that before the instruction
abbrev along_both : Form → ℕ → ℕ → Option Frame → Option Frame → Option Frame
along_both i s t o g =
    cond (leads i s Jump t) (in_common (cond (leads i s Fall t) (in_common o (option_map (λ x. frame_after i x Fall) g)) o) (option_map (λ x. frame_after i x Jump) g)) (cond (leads i s Fall t) (in_common o (option_map (λ x. frame_after i x Fall) g)) o)

out_of_is : (G : ℕ → Option Frame) (s t : ℕ) (i : Form) (o : Option Frame) → out_of G s (Some i) t o ≡ along_both i s t o (G s)
out_of_is G s t i o =
    one_edge G t o (leaving s i Fall) (leaving s i Jump ∷ [])
    ∙ one_edge G t (cond (leads i s Fall t) (in_common o (frame_along G (leaving s i Fall))) o) (leaving s i Jump) []

pub out_of_both : (G : ℕ → Option Frame) (s t : ℕ) (i : Form) (f : Frame) (o : Option Frame) → G s ≡ Some f → out_of G s (Some i) t o ≡ along Jump i s f t (along Fall i s f t o)
out_of_both G s t i f o e = out_of_is G s t i o ∙ ap (along_both i s t o) e

-- nothing comes of an instruction that nothing leads to
pub out_of_neither : (G : ℕ → Option Frame) (s t : ℕ) (x : Option Form) (o : Option Frame) → G s ≡ None → out_of G s x t o ≡ o
out_of_neither G s t None o e = refl
out_of_neither G s t (Some i) o e = out_of_is G s t i o ∙ ap (along_both i s t o) e ∙ by (leads i s Fall t) (leads i s Jump t)
  where
    none : (o : Option Frame) → in_common o None ≡ o
    none None = refl
    none (Some f) = refl

    by : (a b : Bool) → cond b (in_common (cond a (in_common o None) o) None) (cond a (in_common o None) o) ≡ o
    by true true = none (in_common o None) ∙ none o
    by true false = none o
    by false true = none o
    by false false = refl

-- `out_of` takes the frame of its slot alone
pub out_of_same : (G H : ℕ → Option Frame) (s t : ℕ) (x : Option Form) (o : Option Frame) → G s ≡ H s → out_of G s x t o ≡ out_of H s x t o
out_of_same G H s t None o e = refl
out_of_same G H s t (Some i) o e = out_of_is G s t i o ∙ ap (along_both i s t o) e ∙ sym (out_of_is H s t i o)

-- what comes in at slot t, of the entry and from the slots below n
abbrev pub edges_below : List Form → ℕ → List Leaving
edges_below p n = flat_map (λ s. edges_of s (instruction_at p s)) (range_with_len 0 n)

abbrev pub coming_in : List Form → (ℕ → Option Frame) → ℕ → ℕ → Option Frame
coming_in p G n t = fold in_common (entry_at t) (map (frame_along G) (filter (leads_to t) (edges_below p n)))

next_number : (a n : ℕ) → range_with_len a (suc n) ≡ range_with_len a n ++ (a + n) ∷ []
next_number a zero = let e : a ≡ a + 0 = omega arith in ap (λ m. m ∷ []) e
next_number a (suc n) = let e : a + 1 + n ≡ a + suc n = omega arith in ap (λ ns. a ∷ ns) (next_number (a + 1) n ∙ ap (λ m. range_with_len (a + 1) n ++ m ∷ []) e)

next_edges : (p : List Form) (s : ℕ) → edges_below p (suc s) ≡ edges_below p s ++ edges_of s (instruction_at p s)
next_edges p s =
    ap (flat_map (λ u. edges_of u (instruction_at p u))) (next_number 0 s ∙ ap (λ n. range_with_len 0 s ++ n ∷ []) (let e : 0 + s ≡ s = omega arith in e))
    ∙ flat_map-append (λ u. edges_of u (instruction_at p u)) (range_with_len 0 s) (s ∷ [])
    ∙ ap (λ es. edges_below p s ++ es) (append-nil (edges_of s (instruction_at p s)))

pub coming_next : (p : List Form) (G : ℕ → Option Frame) (s t : ℕ) → coming_in p G (suc s) t ≡ out_of G s (instruction_at p s) t (coming_in p G s t)
coming_next p G s t =
    ap (λ es. fold in_common (entry_at t) (map (frame_along G) (filter (leads_to t) es))) (next_edges p s)
    ∙ ap (λ es. fold in_common (entry_at t) (map (frame_along G) es)) (filter-append (leads_to t) (edges_below p s) (edges_of s (instruction_at p s)))
    ∙ ap (fold in_common (entry_at t)) (map-append (frame_along G) (filter (leads_to t) (edges_below p s)) (filter (leads_to t) (edges_of s (instruction_at p s))))
    ∙ fold-append in_common (entry_at t) (map (frame_along G) (filter (leads_to t) (edges_below p s))) (map (frame_along G) (filter (leads_to t) (edges_of s (instruction_at p s))))

-- ---- what comes in at a slot along the edges seen so far

pub record Says (p : List Form) (J : Frames) (Seen : ℕ → Edge → Type 0) (t : ℕ) (f : Frame) : Type 0 where
  pub frame : IsFrame f
  pub entry : t ≡ 0 → Covers f entry_frame
  pub edges : (i : Form) (s : ℕ) (e : Edge) → Leads p i s e t → Seen s e → Covers f (frame_after i (J s) e)
  pub greatest : (a : Frame) → (t ≡ 0 → Covers a entry_frame) → ((i : Form) (s : ℕ) (e : Edge) → Leads p i s e t → Seen s e → Covers a (frame_after i (J s) e)) → Covers a f

abbrev pub ComesIn : List Form → Frames → (ℕ → Edge → Type 0) → ℕ → Option Frame → Type 0
ComesIn p J Seen t (Some f) = Says p J Seen t f
ComesIn p J Seen t None = (t ≢ 0) × ((i : Form) (s : ℕ) (e : Edge) → Leads p i s e t → Seen s e → ⊥)

pub resaid : (p : List Form) (J : Frames) (Seen Seen' : ℕ → Edge → Type 0) (t : ℕ) (o : Option Frame) → ((i : Form) (s : ℕ) (e : Edge) → Leads p i s e t → Seen' s e → Seen s e) → ((i : Form) (s : ℕ) (e : Edge) → Leads p i s e t → Seen s e → Seen' s e) → ComesIn p J Seen t o → ComesIn p J Seen' t o
resaid p J Seen Seen' t None from to c = (c.0, λ i s e h seen. c.1 i s e h (from i s e h seen))
resaid p J Seen Seen' t (Some f) from to c = record {
  frame = c.frame;
  entry = c.entry;
  edges = λ i s e h seen. c.edges i s e h (from i s e h seen);
  greatest = λ a h0 h1. c.greatest a h0 (λ i s e h seen. h1 i s e h (to i s e h seen));
}

module _ (p : List Form) (J : Frames) (Seen : ℕ → Edge → Type 0) (t : ℕ) (i : Form) (s : ℕ) (stands : StandsAt p i s) (frame : IsFrame (J s)) (d : Edge) where
  -- an edge of this instruction
  this : (a : Frame) (x : Form) (u : ℕ) (e : Edge) → Leads p x u e t → (u ≡ s) × (e ≡ d) → Covers a (frame_after i (J s) d) → Covers a (frame_after x (J u) e)
  this a x u e h new c =
      let form : i ≡ x = sym (same_form p x i u s h.0 stands new.0) in
      subst (λ e'. Covers a (frame_after x (J u) e')) (sym new.1)
      (subst (λ u'. Covers a (frame_after x (J u') d)) (sym new.0) (subst (λ y. Covers a (frame_after y (J s) d)) form c))

  -- the edge leads to slot t
  goes_in : (o : Option Frame) → LeadsTo i s d (pos t) → ComesIn p J Seen t o → ComesIn p J (With Seen s d) t (in_common o (Some (frame_after i (J s) d)))
  goes_in None leads c = record {
    frame = after_frame i (J s) d frame;
    entry = λ z. absurd (c.0 z);
    edges = edges;
    greatest = λ a h0 h1. h1 i s d (stands, leads) (inr (refl, refl));
  }
    where
      edges : (x : Form) (u : ℕ) (e : Edge) → Leads p x u e t → With Seen s d u e → Covers (frame_after i (J s) d) (frame_after x (J u) e)
      edges x u e h (inl seen) = absurd (c.1 x u e h seen)
      edges x u e h (inr new) = this (frame_after i (J s) d) x u e h new (covers_refl (frame_after i (J s) d))
  goes_in (Some g) leads c = record {
    frame = common_frame g (frame_after i (J s) d) c.frame after;
    entry = λ z. covers_trans _ _ _ both.0 (c.entry z);
    edges = edges;
    greatest = λ a h0 h1. (common_covers g (frame_after i (J s) d) a c.frame after).1 (c.greatest a h0 (λ x u e h seen. h1 x u e h (inl seen)), h1 i s d (stands, leads) (inr (refl, refl)));
  }
    where
      after : IsFrame (frame_after i (J s) d)
      after = after_frame i (J s) d frame

      both : Covers (common g (frame_after i (J s) d)) g × Covers (common g (frame_after i (J s) d)) (frame_after i (J s) d)
      both = (common_covers g (frame_after i (J s) d) (common g (frame_after i (J s) d)) c.frame after).0 (covers_refl (common g (frame_after i (J s) d)))

      edges : (x : Form) (u : ℕ) (e : Edge) → Leads p x u e t → With Seen s d u e → Covers (common g (frame_after i (J s) d)) (frame_after x (J u) e)
      edges x u e h (inl seen) = covers_trans _ _ _ both.0 (c.edges x u e h seen)
      edges x u e h (inr new) = this (common g (frame_after i (J s) d)) x u e h new both.1

  goes_past : (o : Option Frame) → (LeadsTo i s d (pos t) → ⊥) → ComesIn p J Seen t o → ComesIn p J (With Seen s d) t o
  goes_past o none c = resaid p J Seen (With Seen s d) t o from (λ x u e h seen. inl seen) c
    where
      from : (x : Form) (u : ℕ) (e : Edge) → Leads p x u e t → With Seen s d u e → Seen u e
      from x u e h (inl seen) = seen
      from x u e h (inr new) =
          let form = same_form p x i u s h.0 stands new.0 in
          absurd (none (subst (λ y. LeadsTo y s d (pos t)) form (subst (λ u'. LeadsTo x u' d (pos t)) new.0 (subst (λ e'. LeadsTo x u e' (pos t)) new.1 h.1))))

  pub along_edge : (o : Option Frame) → ComesIn p J Seen t o → ComesIn p J (With Seen s d) t (along d i s (J s) t o)
  along_edge o c = by (leads i s d t) refl
    where
      by : (b : Bool) → leads i s d t ≡ b → ComesIn p J (With Seen s d) t (along d i s (J s) t o)
      by true e = subst (λ b. ComesIn p J (With Seen s d) t (cond b (in_common o (Some (frame_after i (J s) d))) o)) (sym e) (goes_in o (leads_is i s d t e) c)
      by false e = subst (λ b. ComesIn p J (With Seen s d) t (cond b (in_common o (Some (frame_after i (J s) d))) o)) (sym e) (goes_past o (λ h. false≢true (sym e ∙ is_leads i s d t h)) c)

-- ---- all lower slots

two_edges : (s : ℕ) (u : ℕ) (e : Edge) → u < suc s → With (With (Below s) s Fall) s Jump u e
two_edges s u e lt = ⊎_elim (λ below. inl (inl below)) (λ ge. at_edge e (omega arith)) (cases_lt u s)
  where
    at_edge : (e : Edge) → u ≡ s → With (With (Below s) s Fall) s Jump u e
    at_edge Fall eq = inl (inr (eq, refl))
    at_edge Jump eq = inr (eq, refl)

edges_two : (s : ℕ) (u : ℕ) (e : Edge) → With (With (Below s) s Fall) s Jump u e → u < suc s
edges_two s u e (inl (inl h)) = omega arith
edges_two s u e (inl (inr h)) = omega (arith, h.0)
edges_two s u e (inr h) = omega (arith, h.0)

-- the slot s is given its frame, if an instruction stands there
abbrev Given : List Form → Frames → (ℕ → Option Frame) → ℕ → Type 0
Given p J G s = (i : Form) → StandsAt p i s → (G s ≡ Some (J s)) × IsFrame (J s)

module _ (p : List Form) (J : Frames) (G : ℕ → Option Frame) (t : ℕ) where
  next_slot : (s : ℕ) (o : Option Frame) → Given p J G s → ComesIn p J (Below s) t o → ComesIn p J (Below (suc s)) t (out_of G s (instruction_at p s) t o)
  next_slot s o given c = by (instruction_at p s) refl
    where
      by : (x : Option Form) → instruction_at p s ≡ x → ComesIn p J (Below (suc s)) t (out_of G s (instruction_at p s) t o)
      by None e = subst (λ x. ComesIn p J (Below (suc s)) t (out_of G s x t o)) (sym e) (resaid p J (Below s) (Below (suc s)) t o from (λ x u d h lt. omega arith) c)
        where
          from : (x : Form) (u : ℕ) (d : Edge) → Leads p x u d t → u < suc s → u < s
          from x u d h lt = ⊎_elim (λ below. below) (λ ge. let eq : u ≡ s = omega arith in let st = subst (λ y. StandsAt p x y) eq h.0 in absurd (let b : ⊥ = cc in b)) (cases_lt u s)
      by (Some i) e =
          let g = given i e in
          let one = along_edge p J (Below s) t i s e g.1 Fall o c in
          let two = along_edge p J (With (Below s) s Fall) t i s e g.1 Jump (along Fall i s (J s) t o) one in
          let done = resaid p J (With (With (Below s) s Fall) s Jump) (Below (suc s)) t (along Jump i s (J s) t (along Fall i s (J s) t o)) (λ x u d h lt. two_edges s u d lt) (λ x u d h seen. edges_two s u d seen) two in
          subst (λ x. ComesIn p J (Below (suc s)) t (out_of G s x t o)) (sym e) (subst (ComesIn p J (Below (suc s)) t) (sym (out_of_both G s t i (J s) o g.0)) done)

  pub comes_from : (n : ℕ) → ((s : ℕ) → s < n → Given p J G s) → ComesIn p J (Below n) t (coming_in p G n t)
  comes_from zero given = first t
    where
      first : (u : ℕ) → ComesIn p J (Below 0) u (coming_in p G 0 u)
      first zero = record { frame = IsFrame-entry; entry = λ z. covers_refl entry_frame; edges = λ i s d h lt. absurd (omega arith); greatest = λ a h k. h refl }
      first (suc u) = (λ z. absurd (omega arith), λ i s d h lt. absurd (omega arith))
  comes_from (suc s) given = subst (ComesIn p J (Below (suc s)) t) (sym (coming_next p G s t)) (next_slot s (coming_in p G s t) (given s (omega arith)) (comes_from s (λ u lt. given u (omega arith))))

-- ---- the list of frames

how_many : (p : List Form) (n : ℕ) → length (joined_frames p n) ≡ n
unfolding joined_frames
how_many p zero = refl
how_many p (suc t) = omega (arith, length-append (joined_frames p t) (coming_in p (frame_in (joined_frames p t)) t t ∷ []), how_many p t)

pub stays : (p : List Form) (n s : ℕ) → s < n → frame_in (joined_frames p n) s ≡ joined_frame p s
unfolding joined_frames
stays p zero s lt = absurd (omega arith)
stays p (suc t) s lt = ⊎_elim
    (λ e. ap (λ n. frame_in (joined_frames p (suc n)) s) (sym e))
    (λ ne. ap (option_and_then (λ o. o)) (get_left (joined_frames p t) _ s (omega (arith, how_many p t))) ∙ stays p t s (omega arith))
    (cases_eq s t)

pub here : (p : List Form) (t : ℕ) → joined_frame p t ≡ coming_in p (frame_in (joined_frames p t)) t t
unfolding joined_frames
here p t = ap (option_and_then (λ o. o)) (get_last (joined_frames p t) _ t (sym (how_many p t)))

-- ---- structured programs

abbrev pub or_entry_frame : Option Frame → Frame
or_entry_frame (Some f) = f
or_entry_frame None = entry_frame

abbrev pub joined_at : List Form → ℕ → Frame
joined_at p t = or_entry_frame (joined_frame p t)

module _ (p : List Form) (structured : IsStructured p) where
  -- an instruction that stands somewhere is reached, so something comes in there
  comes : (t : ℕ) (i : Form) → StandsAt p i t → ComesIn p (joined_at p) (Below t) t None → ⊥
  comes t i stands c = structured.each i t tt stands Unreachable (λ r. unreached t r refl)
    where
      unreached : (u : ℕ) → Reached p u → u ≡ t → ⊥
      unreached u flow.Reached.first e = c.0 (sym e)
      unreached u (flow.Reached.next {s = s} {i = x} d r st leads lt) e = c.1 x s d (st, subst (λ y. LeadsTo x s d (pos y)) e leads) (omega arith)

  given_by : (t : ℕ) → ComesIn p (joined_at p) (Below t) t (joined_frame p t) → (i : Form) → StandsAt p i t → (joined_frame p t ≡ Some (joined_at p t)) × IsFrame (joined_at p t)
  given_by t c i stands = by (joined_frame p t) refl c
    where
      by : (o : Option Frame) → joined_frame p t ≡ o → ComesIn p (joined_at p) (Below t) t (joined_frame p t) → (joined_frame p t ≡ Some (joined_at p t)) × IsFrame (joined_at p t)
      by None e c = absurd (comes t i stands (subst (ComesIn p (joined_at p) (Below t) t) e c))
      by (Some f) e c =
          let is : joined_at p t ≡ f = ap or_entry_frame e in
          (e ∙ ap Some (sym is), subst IsFrame (sym is) (subst (ComesIn p (joined_at p) (Below t) t) e c).frame)

  pub joins : (n t : ℕ) → t < n → ComesIn p (joined_at p) (Below t) t (joined_frame p t)
  joins zero t lt = absurd (omega arith)
  joins (suc n) t lt =
      subst (ComesIn p (joined_at p) (Below t) t) (sym (here p t))
      (comes_from p (joined_at p) (frame_in (joined_frames p t)) t t (λ s below i stands.
      let g = given_by s (joins n s (omega arith)) i stands in
      (stays p t s below ∙ g.0, g.1)))

  pub has_joined : (i : Form) (t : ℕ) → StandsAt p i t → (joined_frame p t ≡ Some (joined_at p t)) × IsFrame (joined_at p t)
  has_joined i t stands = given_by t (joins (suc t) t (omega arith)) i stands

  pub is_join : (i : Form) (t : ℕ) → StandsAt p i t → IsKnownAt p (λ s. Some (joined_at p s)) t
  is_join i t stands = record {
    frame = says.frame;
    no_more = no_more;
    no_less = λ a h. says.greatest a (λ z. h entry_frame (ComesTo.entry z)) (λ x s e leads lt. h _ (ComesTo.along x s e (joined_at p s) leads lt refl));
  }
    where
      says : Says p (joined_at p) (Below t) t (joined_at p t)
      says = subst (ComesIn p (joined_at p) (Below t) t) (has_joined i t stands).0 (joins (suc t) t (omega arith))

      no_more : (g : Frame) → ComesTo p (λ s. Some (joined_at p s)) t g → Covers (joined_at p t) g
      no_more g (ComesTo.entry z) = says.entry z
      no_more g (ComesTo.along x s e f leads lt is) = subst (λ y. Covers (joined_at p t) (frame_after x y e)) (same_Some (joined_at p s) f is) (says.edges x s e leads lt)

-- what comes in is the same where the instructions of the lower slots know the same
pub comes_same : (p : List Form) (J K : ℕ → Option Frame) (t : ℕ) → ((i : Form) (s : ℕ) → StandsAt p i s → s < t → J s ≡ K s) → (g : Frame) → ComesTo p J t g → ComesTo p K t g
comes_same p J K t same g (ComesTo.entry z) = ComesTo.entry z
comes_same p J K t same g (ComesTo.along i s e f leads lt is) = ComesTo.along i s e f leads lt (sym (same i s leads.0 lt) ∙ is)
