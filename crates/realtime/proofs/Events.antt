-- The trace that has each call where it began, and each answer where the call was back.
use Rattle.std.proofs.Common.{◌≡◌, ◌⊎◌, inl, inr, ⊎_elim, ℕ, zero, suc, ◌+◌, ◌*◌, ◌<◌, cond, eqb, List, [], ◌∷◌, length, get_or, Some, refl, sym, ap, subst, ◌∙◌, arith}
use Rattle.std.specs.Prelude.{slice_get}
use Rattle.std.proofs.lemmas.Bool.{eqb-true, eq-eqb, ne_eqb, or_cases}
use Rattle.std.proofs.lemmas.Option.{none-some, same_Some, slice_get-get_or, get_or_from_slice_get, slice_get_within}
use Rattle.std.proofs.lemmas.List.Folds.{Any-from_list_any}
use Rattle.combiner.specs.declared.slots.Reply.TheVariants as replies
use Rattle.schedule.specs.Trace.{Updated, Event, Call, Back, Trace}
use Rattle.realtime.specs.declared.histories.Timed.{Timed}
use Rattle.realtime.specs.Laws.{ShareNone, AreCalls}
use Rattle.realtime.specs.Linearizable.{TranscriptCall, IsTraceOf}
use Rattle.realtime.proofs.OneList.{Made, made, Has, made_at, at_made}
use Rattle.realtime.proofs.Reading.{uses}
use Rattle.machine.proofs.Export.{get_inside}

-- ---- a list of what stands at each number

abbrev pub listed : {A : Type 0} → (ℕ → A) → ℕ → ℕ → List A
listed f a zero = []
listed f a (suc n) = f a ∷ listed f (suc a) n

length-listed : {A : Type 0} (f : ℕ → A) (a n : ℕ) → length (listed f a n) ≡ n
length-listed f a zero = refl
length-listed f a (suc n) = ap suc (length-listed f (suc a) n)

get_listed : {A : Type 0} (f : ℕ → A) (a n x : ℕ) → x < n → slice_get (listed f a n) x ≡ Some (f (a + x))
get_listed f a zero x lt = absurd (omega arith)
get_listed f a (suc n) zero lt = let same : a ≡ a + 0 = omega arith in ap (λ k. Some (f k)) same
get_listed f a (suc n) (suc x) lt = let same : suc a + x ≡ a + suc x = omega arith in get_listed f (suc a) n x (omega arith) ∙ ap (λ k. Some (f k)) same

-- ---- the events

abbrev pub call_event : Made → Event
call_event z = Call z.call.session z.told.mode z.told.op

abbrev pub back_event : Made → Event
back_event z = Back z.call.session z.told.answer

-- the event at a number; any event where no call has it
abbrev pub event_at : List Made → ℕ → Event
event_at [] x = Back 0 (Updated replies.Ended)
event_at (z ∷ zs) x = cond (eqb z.call.begun x) (call_event z) (cond (eqb z.call.ended x) (back_event z) (event_at zs x))

abbrev pub Apart : List Made → Type 0
Apart zs = (j k : ℕ) (a b : Made) → slice_get zs j ≡ Some a → slice_get zs k ≡ Some b → j < k → ShareNone a.call b.call

event_begun : (zs : List Made) (k : ℕ) (z : Made) → Apart zs → slice_get zs k ≡ Some z → event_at zs z.call.begun ≡ call_event z
event_begun [] k z apart e = absurd (none-some z e)
event_begun (y ∷ zs) zero z apart e =
    let same = same_Some y z e in
    ap (λ b. cond b (call_event y) (cond (eqb y.call.ended z.call.begun) (back_event y) (event_at zs z.call.begun))) (eq-eqb y.call.begun z.call.begun (ap (λ (w : Made). w.call.begun) same))
    ∙ ap call_event same
event_begun (y ∷ zs) (suc k) z apart e =
    let other = apart 0 (suc k) y z refl e (omega arith) in
    ap (λ b. cond b (call_event y) (cond (eqb y.call.ended z.call.begun) (back_event y) (event_at zs z.call.begun))) (ne_eqb y.call.begun z.call.begun other.0)
    ∙ ap (λ b. cond b (back_event y) (event_at zs z.call.begun)) (ne_eqb y.call.ended z.call.begun other.2)
    ∙ event_begun zs k z (λ i j a b f g lt. apart (suc i) (suc j) a b f g (omega arith)) e

event_ended : (zs : List Made) (k : ℕ) (z : Made) → Apart zs → z.call.begun < z.call.ended → slice_get zs k ≡ Some z → event_at zs z.call.ended ≡ back_event z
event_ended [] k z apart back e = absurd (none-some z e)
event_ended (y ∷ zs) zero z apart back e =
    let same = same_Some y z e in
    let begun = ap (λ (w : Made). w.call.begun) same in
    ap (λ b. cond b (call_event y) (cond (eqb y.call.ended z.call.ended) (back_event y) (event_at zs z.call.ended))) (ne_eqb y.call.begun z.call.ended (λ is. omega (arith, is, begun, back)))
    ∙ ap (λ b. cond b (back_event y) (event_at zs z.call.ended)) (eq-eqb y.call.ended z.call.ended (ap (λ (w : Made). w.call.ended) same))
    ∙ ap back_event same
event_ended (y ∷ zs) (suc k) z apart back e =
    let other = apart 0 (suc k) y z refl e (omega arith) in
    ap (λ b. cond b (call_event y) (cond (eqb y.call.ended z.call.ended) (back_event y) (event_at zs z.call.ended))) (ne_eqb y.call.begun z.call.ended other.1)
    ∙ ap (λ b. cond b (back_event y) (event_at zs z.call.ended)) (ne_eqb y.call.ended z.call.ended other.3)
    ∙ event_ended zs k z (λ i j a b f g lt. apart (suc i) (suc j) a b f g (omega arith)) back e

-- ---- the trace

-- each event is that of one of these calls
pub record Traced (zs : List Made) (t : Trace) : Type 0 where
  pub called : (z : Made) → Has zs z → slice_get t z.call.begun ≡ Some (call_event z)
  pub back : (z : Made) → Has zs z → slice_get t z.call.ended ≡ Some (back_event z)
  pub only : (x : ℕ) (e : Event) → slice_get t x ≡ Some e → (z : Made) × Has zs z × (((x ≡ z.call.begun) × (e ≡ call_event z)) ⊎ ((x ≡ z.call.ended) × (e ≡ back_event z)))

module _ (ranks : List ℕ) (told : List TranscriptCall) (calls : List Timed) (are : AreCalls ranks calls) (even : length told ≡ length calls) (long : length ranks ≡ length calls) where
  abbrev pub zs : List Made
  zs = made told calls

  element : (k : ℕ) (call d : Timed) → slice_get calls k ≡ Some call → (k < length calls) × (get_or calls k d ≡ call)
  element k call d e = (slice_get_within calls k call e, get_or_from_slice_get calls k call d e)

  pub backs : (z : Made) → Has zs z → (z.call.begun < z.call.ended) × (z.call.ended < 2 * length calls)
  backs z has =
      let at = element has.0 z.call z.call (at_made told calls has.0 z has.1).1 in
      let low = subst (λ (c : Timed). c.begun < c.ended) at.1 (are.backs has.0 z.call at.0) in
      let high = subst (λ (c : Timed). c.ended < 2 * length ranks) at.1 (are.below has.0 z.call at.0) in
      (low, omega (arith, high, long))

  pub apart : Apart zs
  apart j k a b f g lt =
      let at_a = element j a.call a.call (at_made told calls j a f).1 in
      let at_b = element k b.call a.call (at_made told calls k b g).1 in
      subst (λ (c : Timed). ShareNone a.call c) at_b.1 (subst (λ (c : Timed). ShareNone c (get_or calls k a.call)) at_a.1 (are.once j k a.call lt at_b.0))

  abbrev pub trace : Trace
  trace = listed (event_at zs) 0 (2 * length calls)

  called_at : (z : Made) → Has zs z → slice_get trace z.call.begun ≡ Some (call_event z)
  called_at z has =
      let b = backs z has in
      let lt : z.call.begun < 2 * length calls = omega (arith, b.0, b.1) in
      get_listed (event_at zs) 0 (2 * length calls) z.call.begun lt ∙ ap (λ k. Some (event_at zs k)) (let same : 0 + z.call.begun ≡ z.call.begun = omega arith in same)
      ∙ ap Some (event_begun zs has.0 z apart has.1)

  back_at : (z : Made) → Has zs z → slice_get trace z.call.ended ≡ Some (back_event z)
  back_at z has =
      let b = backs z has in
      get_listed (event_at zs) 0 (2 * length calls) z.call.ended b.1 ∙ ap (λ k. Some (event_at zs k)) (let same : 0 + z.call.ended ≡ z.call.ended = omega arith in same)
      ∙ ap Some (event_ended zs has.0 z apart b.0 has.1)

  -- the call that uses a number
  user : (x : ℕ) → x < 2 * length calls → (z : Made) × Has zs z × ((x ≡ z.call.begun) ⊎ (x ≡ z.call.ended))
  user x lt =
      let some = Any-from_list_any (uses x) calls (are.each x (omega (arith, lt, long))) in
      let call : Timed = some.1 in
      let at : slice_get calls some.0 ≡ Some call = slice_get-get_or calls some.0 call some.2 ∙ ap Some some.3 in
      let a = get_inside told some.0 (let within = some.2 in omega (arith, within, even)) in
      let z : Made = record { told = a.0; call = call } in
      (z, (some.0, made_at told calls some.0 a.0 call a.1 at), ⊎_elim (λ e. inl (sym (eqb-true call.begun x e))) (λ e. inr (sym (eqb-true call.ended x e))) (or_cases _ _ some.4))

  pub traced : Traced zs trace
  traced = record {
    called = called_at;
    back = back_at;
    only = λ x e g.
        let in_range : x < 2 * length calls = let l = slice_get_within trace x e g in omega (arith, l, length-listed (event_at zs) 0 (2 * length calls)) in
        let u = user x in_range in (
          u.0,
          u.1,
          ⊎_elim
              (λ is. inl (is, same_Some e (call_event u.0) (sym g ∙ ap (slice_get trace) is ∙ called_at u.0 u.1)))
              (λ is. inr (is, same_Some e (back_event u.0) (sym g ∙ ap (slice_get trace) is ∙ back_at u.0 u.1)))
              u.2,
        );
  }

  pub is_trace : IsTraceOf told calls trace
  is_trace = record {
    each = even;
    events = length-listed (event_at zs) 0 (2 * length calls);
    called = λ k a call f g. called_at (record { told = a; call = call }) (k, made_at told calls k a call f g);
    back = λ k a call f g. back_at (record { told = a; call = call }) (k, made_at told calls k a call f g);
  }
