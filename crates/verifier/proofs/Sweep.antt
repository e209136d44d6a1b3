-- The pass over the instructions of a program, whatever its structure: at each slot behind stands its joined frame, and at each slot ahead what
-- the entry and the edges so far have in common.
use Rattle.std.proofs.Common.{◌≡◌, ℕ, zero, suc, ◌+◌, ◌<◌, ◌≤◌, Bool, true, false, cond, List, ◌∷◌, length, Option, Some, None, refl, sym, ap, ◌∙◌, inl, inr, ⊎_elim, arith, subst}
use Rattle.std.specs.Prelude.{pos, slice_get, slice_set, replicate}
use Rattle.std.specs.Option.{option_map}
use Rattle.std.proofs.lemmas.Bool.{cases_lt, cases_eq}
use Rattle.std.proofs.lemmas.List.{length-replicate}
use Rattle.std.proofs.Math.ListN.{length-set}
use Rattle.insn.specs.declared.instruction.Form.{Form}
use Rattle.insn.specs.Layout.{LeadsTo, size, slot_count, instruction_at}
use Rattle.insn.specs.declared.instruction.Edge.{Edge}
use Rattle.insn.specs.declared.instruction.Edge.TheVariants.{Fall, Jump}
use Rattle.regkind.specs.Frames.{Frame, Covers, IsFrame, entry_frame}
use Rattle.regkind.proofs.Export.{covers_refl, covers_antisymmetric, IsFrame-entry}
use Rattle.flow.specs.Structure.{StandsAt}
use Rattle.verifier.specs.declared.refusal.VerifyFault.{VerifyFault}
use Rattle.verifier.specs.declared.refusal.Refused.{Refused}
use Rattle.verifier.specs.Signature.{Signature}
use Rattle.verifier.specs.Rules.{first_broken}
use Rattle.verifier.specs.FrameAfter.{frame_after}
use Rattle.verifier.specs.Joined.{common, in_common, leads, entry_at, joined_frame}
use Rattle.verifier.specs.Verdict.{refused, refusal_of, lowest_refusal, or_else}
use Rattle.verifier.specs.Pass.{Table, IsForward, Meets, FlowsInto, Follows, VisitsFine, Visits}
use Rattle.verifier.proofs.Monotone.{after_frame}
use Rattle.verifier.proofs.Lists.{get_copy}
use Rattle.verifier.proofs.Common.{common_frame, common_covers}
use Rattle.verifier.proofs.Slots.{Widths}
use Rattle.verifier.proofs.Steps.{same_length}
use Rattle.verifier.proofs.Joins.{one_target, leads_is, is_leads, along, out_of, out_of_both, out_of_neither, out_of_same, coming_in, coming_next, here, stays}
use Rattle.maps.proofs.Export.{get_set_other, get_set_same}
use Rattle.flow.proofs.Export.{stands_within}

-- ---- frames that may be missing

abbrev pub IsFine : Option Frame → Type 0
IsFine None = Unit {0}
IsFine (Some f) = IsFrame f

common_fine : (a b : Option Frame) → IsFine a → IsFine b → IsFine (in_common a b)
common_fine None b h k = k
common_fine (Some a) None h k = h
common_fine (Some a) (Some b) h k = common_frame a b h k

-- frames that the same frames cover are one
same_covers : (x y : Frame) → IsFrame x → IsFrame y → ((c : Frame) → Covers c x → Covers c y) → ((c : Frame) → Covers c y → Covers c x) → x ≡ y
same_covers x y fx fy to from = covers_antisymmetric x y fx fy (to x (covers_refl x)) (from y (covers_refl y))

swapped : (o : Option Frame) (x y : Frame) → IsFine o → IsFrame x → IsFrame y → in_common (in_common o (Some x)) (Some y) ≡ in_common (in_common o (Some y)) (Some x)
swapped None x y fo fx fy = ap Some (same_covers (common x y) (common y x) (common_frame x y fx fy) (common_frame y x fy fx) (turned x y fx fy) (turned y x fy fx))
  where
    turned : (a b : Frame) → IsFrame a → IsFrame b → (c : Frame) → Covers c (common a b) → Covers c (common b a)
    turned a b fa fb c h = let both = (common_covers a b c fa fb).0 h in (common_covers b a c fb fa).1 (both.1, both.0)
swapped (Some g) x y fo fx fy = ap Some (same_covers (common (common g x) y) (common (common g y) x) (common_frame (common g x) y (common_frame g x fo fx) fy) (common_frame (common g y) x (common_frame g y fo fy) fx) (turned x y fx fy) (turned y x fy fx))
  where
    turned : (a b : Frame) → IsFrame a → IsFrame b → (c : Frame) → Covers c (common (common g a) b) → Covers c (common (common g b) a)
    turned a b fa fb c h =
        let outer = (common_covers (common g a) b c (common_frame g a fo fa) fb).0 h in
        let inner = (common_covers g a c fo fa).0 outer.0 in
        (common_covers (common g b) a c (common_frame g b fo fb) fa).1 ((common_covers g b c fo fb).1 (inner.0, outer.1), inner.1)

along_fine : (d : Edge) (i : Form) (s : ℕ) (f : Frame) (t : ℕ) (o : Option Frame) → IsFrame f → IsFine o → IsFine (along d i s f t o)
along_fine d i s f t o frame h = by (leads i s d t)
  where
    by : (b : Bool) → IsFine (cond b (in_common o (Some (frame_after i f d))) o)
    by true = common_fine o (Some (frame_after i f d)) h (after_frame i f d frame)
    by false = h

along_swapped : (i : Form) (s : ℕ) (f : Frame) (t : ℕ) (o : Option Frame) → IsFrame f → IsFine o → along Fall i s f t (along Jump i s f t o) ≡ along Jump i s f t (along Fall i s f t o)
along_swapped i s f t o frame h = by (leads i s Fall t) (leads i s Jump t)
  where
    by : (a b : Bool) → cond a (in_common (cond b (in_common o (Some (frame_after i f Jump))) o) (Some (frame_after i f Fall))) (cond b (in_common o (Some (frame_after i f Jump))) o) ≡ cond b (in_common (cond a (in_common o (Some (frame_after i f Fall))) o) (Some (frame_after i f Jump))) (cond a (in_common o (Some (frame_after i f Fall))) o)
    by true true = swapped o (frame_after i f Jump) (frame_after i f Fall) h (after_frame i f Jump frame) (after_frame i f Fall frame)
    by true false = refl
    by false true = refl
    by false false = refl

-- ---- the joined frames

coming_same : (p : List Form) (G H : ℕ → Option Frame) (t n : ℕ) → ((s : ℕ) → s < n → G s ≡ H s) → coming_in p G n t ≡ coming_in p H n t
coming_same p G H t zero same = refl
coming_same p G H t (suc n) same =
    coming_next p G n t
    ∙ out_of_same G H n t (instruction_at p n) (coming_in p G n t) (same n (omega arith))
    ∙ ap (out_of H n (instruction_at p n) t) (coming_same p G H t n (λ s lt. same s (omega arith)))
    ∙ sym (coming_next p H n t)

-- the joined frame is what has come in from all lower slots
pub joined_here : (p : List Form) (t : ℕ) → joined_frame p t ≡ coming_in p (joined_frame p) t t
joined_here p t = here p t ∙ coming_same p _ (joined_frame p) t t (λ s lt. stays p t s lt)

module _ (p : List Form) (G : ℕ → Option Frame) (t : ℕ) where
  out_fine : (s : ℕ) (x : Option Form) (o : Option Frame) → IsFine (G s) → IsFine o → IsFine (out_of G s x t o)
  out_fine s None o fg fo = fo
  out_fine s (Some i) o fg fo = by (G s) refl
    where
      by : (g : Option Frame) → G s ≡ g → IsFine (out_of G s (Some i) t o)
      by None e = subst IsFine (sym (out_of_neither G s t (Some i) o e)) fo
      by (Some f) e =
          let frame : IsFrame f = subst IsFine e fg in
          subst IsFine (sym (out_of_both G s t i f o e)) (along_fine Jump i s f t (along Fall i s f t o) frame (along_fine Fall i s f t o frame fo))

  pub coming_fine : (n : ℕ) → ((s : ℕ) → s < n → IsFine (G s)) → IsFine (coming_in p G n t)
  coming_fine zero each = first t
    where
      first : (u : ℕ) → IsFine (entry_at u)
      first zero = IsFrame-entry
      first (suc u) = tt
  coming_fine (suc s) each = subst IsFine (sym (coming_next p G s t)) (out_fine s (instruction_at p s) (coming_in p G s t) (each s (omega arith)) (coming_fine s (λ u lt. each u (omega arith))))

joined_below_fine : (p : List Form) (n t : ℕ) → t < n → IsFine (joined_frame p t)
joined_below_fine p zero t lt = absurd (omega arith)
joined_below_fine p (suc n) t lt = subst IsFine (sym (joined_here p t)) (coming_fine p (joined_frame p) t t (λ s below. joined_below_fine p n s (omega arith)))

pub joined_fine : (p : List Form) (t : ℕ) → IsFine (joined_frame p t)
joined_fine p t = joined_below_fine p (suc t) t (omega arith)

ahead_fine : (p : List Form) (n t : ℕ) → IsFine (coming_in p (joined_frame p) n t)
ahead_fine p n t = coming_fine p (joined_frame p) t n (λ s lt. joined_fine p s)

-- ---- one edge, in the table

flows_is : (old new : Table) (t : ℕ) (f : Frame) (o : Option Frame) → slice_get old t ≡ Some o → IsFine o → IsFrame f → FlowsInto old new t f → new ≡ slice_set old t (in_common o (Some f))
flows_is old new t f o here fo ff w = w.written ∙ ap (slice_set old t) (by o fo (subst (λ x. Meets x f w.both) here w.meets))
  where
    by : (o : Option Frame) → IsFine o → Meets (Some o) f w.both → Some w.both ≡ in_common o (Some f)
    by None fo m = ap Some m
    by (Some g) fo m = ap Some (same_covers w.both (common g f) w.frame (common_frame g f fo ff) (λ c h. (common_covers g f c fo ff).1 ((m c).0 h)) (λ c h. (m c).1 ((common_covers g f c fo ff).0 h)))

-- a table in which, behind a slot, these stand
abbrev Stands : ℕ → Table → (ℕ → Option Frame) → Type 0
Stands at xs o = (t : ℕ) → at < t → t < length xs → slice_get xs t ≡ Some (o t)

module _ (i : Form) (at : ℕ) (d : Edge) (f : Frame) (frame : IsFrame f) (old new : Table) (o : ℕ → Option Frame) where
  leads_not : (t : ℕ) → (LeadsTo i at d (pos t) → ⊥) → along d i at f t (o t) ≡ o t
  leads_not t none = by (leads i at d t) refl
    where
      by : (b : Bool) → leads i at d t ≡ b → cond b (in_common (o t) (Some (frame_after i f d))) (o t) ≡ o t
      by true e = absurd (none (leads_is i at d t e))
      by false e = refl

  leads_there : (t : ℕ) → LeadsTo i at d (pos t) → along d i at f t (o t) ≡ in_common (o t) (Some (frame_after i f d))
  leads_there t h = ap (λ b. cond b (in_common (o t) (Some (frame_after i f d))) (o t)) (is_leads i at d t h)

  pub followed : Follows i at d (frame_after i f d) old new → Stands at old o → ((t : ℕ) → IsFine (o t)) → Stands at new (λ t. along d i at f t (o t))
  followed (inl h) stands fine = λ t on inside.
      let to = h.0 in
      let edge : IsForward i at d to (length old) = h.1 in
      let is = flows_is old new to (frame_after i f d) (o to) (stands to edge.1 edge.2) (fine to) (after_frame i f d frame) h.2 in
      let long : length new ≡ length old = ap length is ∙ simp length-set refl in
      ⊎_elim
      (λ eq. subst (λ u. slice_get new u ≡ Some (along d i at f u (o u))) (sym eq) (ap (λ xs. slice_get xs to) is ∙ get_set_same old to _ edge.2 ∙ ap Some (sym (leads_there to edge.0))))
      (λ ne. ap (λ xs. slice_get xs t) is ∙ get_set_other old to t _ ne ∙ stands t on (omega arith) ∙ ap Some (sym (leads_not t (λ leads. ne (one_target i at t to d leads edge.0)))))
      (cases_eq t to)
  followed (inr h) stands fine = λ t on inside.
      let long : length new ≡ length old = ap length h.1 in
      ap (λ xs. slice_get xs t) h.1 ∙ stands t on (omega arith) ∙ ap Some (sym (leads_not t (λ leads. h.0 t (leads, on, omega arith))))

  -- slots behind it stay
  pub kept : Follows i at d (frame_after i f d) old new → (t : ℕ) → t ≤ at → slice_get new t ≡ slice_get old t
  kept (inl h) t le = ap (λ xs. slice_get xs t) h.2.written ∙ get_set_other old h.0 t _ (λ e. let on = h.1.1 in omega arith)
  kept (inr h) t le = ap (λ xs. slice_get xs t) h.1

-- ---- the pass

-- a refusal that is found stays the lowest
lowest_stays : (p : List Form) (l : Signature) (k n : ℕ) (e : Refused) → lowest_refusal p l k ≡ Some e → k ≤ n → lowest_refusal p l n ≡ Some e
unfolding lowest_refusal
lowest_stays p l k zero e h le = ap (lowest_refusal p l) (let same : 0 ≡ k = omega arith in same) ∙ h
lowest_stays p l k (suc n) e h le = ⊎_elim
    (λ same. ap (lowest_refusal p l) (sym same) ∙ h)
    (λ ne. ap (λ r. or_else r (refusal_of l (instruction_at p n) (joined_frame p n) n)) (lowest_stays p l k n e h (omega arith)))
    (cases_eq k (suc n))

-- the slots below n are behind
pub record Swept (p : List Form) (l : Signature) (frames : Table) (n : ℕ) : Type 0 where
  pub long : length frames ≡ size p
  pub behind : (t : ℕ) → t < n → t < size p → slice_get frames t ≡ Some (joined_frame p t)
  pub ahead : (t : ℕ) → n ≤ t → t < size p → slice_get frames t ≡ Some (coming_in p (joined_frame p) n t)
  pub unbroken : lowest_refusal p l n ≡ None

pub begin : (p : List Form) (l : Signature) (n : ℕ) (xs : Table) → 0 < n → n ≡ size p → xs ≡ slice_set (replicate n None) 0 (Some entry_frame) → Swept p l xs 0
unfolding lowest_refusal
begin p l zero xs some e is = absurd (omega arith)
begin p l (suc n) xs some e is = record {
  long = let made : length (slice_set (replicate (suc n) None) 0 (Some entry_frame)) ≡ suc n = simp (length-set, length-replicate) in ap length is ∙ made ∙ e;
  behind = λ t lt inside. absurd (omega arith);
  ahead = λ t le inside. ap (λ ys. slice_get ys t) is ∙ first t (omega arith);
  unbroken = refl;
}
  where
    first : (t : ℕ) → t < suc n → slice_get (Some entry_frame ∷ replicate n None) t ≡ Some (entry_at t)
    first zero lt = refl
    first (suc t) lt = get_copy n t None (omega arith)

-- what is known up to a slot
pub known_to : (p : List Form) (l : Signature) (frames : Table) (at : ℕ) → Swept p l frames at → (t : ℕ) → t ≤ at → t < size p → slice_get frames t ≡ Some (joined_frame p t)
known_to p l frames at so_far t le inside = ⊎_elim
    (λ lt. so_far.behind t lt inside)
    (λ ge. let e : t ≡ at = omega arith in so_far.ahead t ge inside ∙ ap (λ n. Some (coming_in p (joined_frame p) n t)) (sym e) ∙ ap Some (sym (joined_here p t)))
    (cases_lt t at)

lowest_next : (p : List Form) (l : Signature) (at : ℕ) (x : Option Form) (o : Option Frame) → lowest_refusal p l at ≡ None → instruction_at p at ≡ x → joined_frame p at ≡ o → lowest_refusal p l (suc at) ≡ refusal_of l x o at
unfolding lowest_refusal
lowest_next p l at x o none ex eo =
    ap (λ r. or_else r (refusal_of l (instruction_at p at) (joined_frame p at) at)) none ∙ ap (λ y. refusal_of l y (joined_frame p at) at) ex ∙ ap (λ y. refusal_of l x y at) eo

-- a slot that changes nothing
same_table : (p : List Form) (l : Signature) (frames : Table) (at : ℕ) → Swept p l frames at → ((t : ℕ) (o : Option Frame) → out_of (joined_frame p) at (instruction_at p at) t o ≡ o) → lowest_refusal p l (suc at) ≡ None → Swept p l frames (suc at)
same_table p l frames at so_far nothing unbroken = record {
  long = so_far.long;
  behind = λ t lt inside. known_to p l frames at so_far t (omega arith) inside;
  ahead = λ t le inside. so_far.ahead t (omega arith) inside ∙ ap Some (sym (coming_next p (joined_frame p) at t ∙ nothing t (coming_in p (joined_frame p) at t)));
  unbroken = unbroken;
}

-- the second half of a wide instruction
over_half : (p : List Form) (l : Signature) (frames : Table) (at : ℕ) → Swept p l frames at → instruction_at p at ≡ None → Swept p l frames (suc at)
over_half p l frames at so_far none = same_table p l frames at so_far (λ t o. ap (λ x. out_of (joined_frame p) at x t o) none) (lowest_next p l at None (joined_frame p at) so_far.unbroken none refl)

module _ (p : List Form) (l : Signature) (frames : Table) (at : ℕ) (so_far : Swept p l frames at) (i : Form) (stands : StandsAt p i at) where
  pub inside : at < length frames
  inside = omega (arith, stands_within p i at stands, so_far.long)

  joined_is : (o : Option Frame) → slice_get frames at ≡ Some o → joined_frame p at ≡ o
  joined_is o e = let known = known_to p l frames at so_far at (omega arith) (stands_within p i at stands) in cc

  pub there : (f : Frame) → slice_get frames at ≡ Some (Some f) → IsFrame f
  there f e = subst IsFine (joined_is (Some f) e) (joined_fine p at)

  -- nothing leads to it
  unreached : slice_get frames at ≡ Some None → Swept p l frames (suc at)
  unreached e =
      let none = joined_is None e in
      same_table p l frames at so_far (λ t o. out_of_neither (joined_frame p) at t (instruction_at p at) o none) (lowest_next p l at (Some i) None so_far.unbroken stands none)

  visited : (new : Table) → VisitsFine l i at frames new → Swept p l new (suc at)
  visited new v =
      let f = v.frame in
      let frame = there f v.here in
      let G = joined_frame p in
      let is = joined_is (Some f) v.here in
      let first : length v.between ≡ length frames = same_length i at Jump (frame_after i f Jump) frames v.between v.jumps in
      let second : length new ≡ length v.between = same_length i at Fall (frame_after i f Fall) v.between new v.falls in
      let before : Stands at frames (coming_in p G at) = λ t on lt. so_far.ahead t (omega arith) (omega (arith, so_far.long)) in
      let one = followed i at Jump f frame frames v.between (coming_in p G at) v.jumps before (λ t. ahead_fine p at t) in
      let two = followed i at Fall f frame v.between new (λ t. along Jump i at f t (coming_in p G at t)) v.falls one (λ t. along_fine Jump i at f t (coming_in p G at t) frame (ahead_fine p at t)) in
      record {
        long = second ∙ first ∙ so_far.long;
        behind = λ t lt within. kept i at Fall f frame v.between new (λ u. None) v.falls t (omega arith) ∙ kept i at Jump f frame frames v.between (λ u. None) v.jumps t (omega arith) ∙ known_to p l frames at so_far t (omega arith) within;
        ahead = λ t le within.
            two t (omega arith) (omega (arith, second, first, so_far.long))
            ∙ ap Some (along_swapped i at f t (coming_in p G at t) frame (ahead_fine p at t)
            ∙ sym (out_of_both G at t i f (coming_in p G at t) is)
            ∙ ap (λ x. out_of G at x t (coming_in p G at t)) (sym stands)
            ∙ sym (coming_next p G at t));
        unbroken = lowest_next p l at (Some i) (Some f) so_far.unbroken stands is ∙ ap (option_map (refused at)) v.fine;
      }

  one_slot : (new : Table) → Visits l i at frames new None → Swept p l new (suc at)
  one_slot new (inl v) = visited new v
  one_slot new (inr v) = subst (λ xs. Swept p l xs (suc at)) (sym v.1) (unreached v.0)

  pub turn : (new : Table) → Widths p i at → Visits l i at frames new None → Swept p l new (at + slot_count i)
  turn new (inl w) v = let next : suc at ≡ at + slot_count i = omega arith in subst (Swept p l new) next (one_slot new v)
  turn new (inr w) v = let next : suc (suc at) ≡ at + slot_count i = omega (arith, w.0) in subst (Swept p l new) next (over_half p l new (suc at) (one_slot new v) w.1)

  -- where a rule is broken
  pub broken_here : (f : Frame) (why : VerifyFault) → slice_get frames at ≡ Some (Some f) → first_broken l i f ≡ Some why → lowest_refusal p l (size p) ≡ Some (refused at why)
  broken_here f why e broken =
      let within = stands_within p i at stands in
      lowest_stays p l (suc at) (size p) (refused at why) (lowest_next p l at (Some i) (Some f) so_far.unbroken stands (joined_is (Some f) e) ∙ ap (option_map (refused at)) broken) (omega arith)
