-- Traces that grow at their end.
use Rattle.std.proofs.Common.{◌≡◌, ◌≢◌, ℕ, zero, ◌<◌, ◌≤◌, List, [], ◌∷◌, ◌++◌, length, take, Some, refl, sym, ap, ◌∙◌, inl, inr, ⊎_elim, arith, subst}
use Rattle.std.specs.Prelude.{slice_get, ◌⊎◌}
use Rattle.std.proofs.lemmas.Option.{same_Some, slice_get_within}
use Rattle.std.proofs.lemmas.Bool.{cases_order}
use Rattle.std.proofs.lemmas.List.{take-append-le}
use Rattle.verifier.specs.declared.refusal.Mode.{Mode}
use Rattle.oplog.specs.Operations.{Operation}
use Rattle.schedule.specs.Trace.{Answer, Event, Call, Back, Trace, caller, IsOpen, IsIdle, Answers, StampBefore}
use Rattle.schedule.proofs.Lists.{get_snoc, get_take}
use Rattle.maps.proofs.Export.{in_front, at_end}

abbrev pub is_call : Event → ℕ
is_call (Call x mode op) = 1
is_call (Back x a) = 0

pub back_call : (x y : ℕ) (mode : Mode) (op : Operation) (a : Answer) → Back x a ≡ Call y mode op → ⊥
back_call x y mode op a e = let n : ◌≡◌ {A = ℕ} 0 1 = ap is_call e in omega arith

abbrev pub op_in : Operation → Event → Operation
op_in o (Call x mode op) = op
op_in o (Back x a) = o

pub take_all_front : {A : Type 0} (xs ys : List A) → take (length xs) (xs ++ ys) ≡ xs
take_all_front [] ys = take_none ys
  where
    take_none : {A : Type 0} (zs : List A) → take zero zs ≡ []
    take_none [] = refl
    take_none (z ∷ zs) = refl
take_all_front (x ∷ xs) ys = ap (λ zs. x ∷ zs) (take_all_front xs ys)

pub open_in : {t : Trace} {x : ℕ} {mode : Mode} {op : Operation} {c : ℕ} → IsOpen t x mode op c → c < length t
open_in {t} {x} {mode} {op} {c} o = slice_get_within t c (Call x mode op) o.call

pub open_more : {t : Trace} {x : ℕ} {mode : Mode} {op : Operation} {c : ℕ} (e : Event) → caller e ≢ x → IsOpen t x mode op c → IsOpen (t ++ e ∷ []) x mode op c
open_more {t} {x} {mode} {op} {c} e ne o = record {
  call = in_front t (e ∷ []) c (Call x mode op) o.call;
  last = λ j f l g. ⊎_elim (λ old. o.last j f l old) (λ new. subst (λ y. caller y ≢ x) new.1 ne) (get_snoc t e j f g);
}

pub open_new : (t : Trace) (x : ℕ) (mode : Mode) (op : Operation) → IsOpen (t ++ Call x mode op ∷ []) x mode op (length t)
open_new t x mode op = record {
  call = at_end t (Call x mode op);
  last = λ j f l g. absurd (⊎_elim (λ old. let b = slice_get_within t j f old in omega arith) (λ new. let b = new.0 in omega arith) (get_snoc t (Call x mode op) j f g));
}

-- the only call open after an event is that event, or was open and is another caller's
pub open_less : {t : Trace} {x : ℕ} {mode : Mode} {op : Operation} {c : ℕ} (e : Event) → IsOpen (t ++ e ∷ []) x mode op c → ((IsOpen t x mode op c) × (caller e ≢ x)) ⊎ ((c ≡ length t) × (e ≡ Call x mode op))
open_less {t} {x} {mode} {op} {c} e o =
    ⊎_elim
    (λ old. inl (
      record { call = old; last = λ j f l g. o.last j f l (in_front t (e ∷ []) j f g) },
      o.last (length t) e (slice_get_within t c (Call x mode op) old) (at_end t e),
    ))
    (λ new. inr new)
    (get_snoc t e c (Call x mode op) o.call)

pub idle_more : {t : Trace} {x : ℕ} (e : Event) → caller e ≢ x → IsIdle t x → IsIdle (t ++ e ∷ []) x
idle_more {t} {x} e ne idle mode op c o = ⊎_elim (λ old. idle mode op c old.0) (λ new. ne (ap caller new.1)) (open_less e o)

pub idle_back : (t : Trace) (x : ℕ) (a : Answer) → IsIdle (t ++ Back x a ∷ []) x
idle_back t x a mode op c o = ⊎_elim (λ old. old.1 refl) (λ new. back_call x x mode op a new.1) (open_less (Back x a) o)

pub open_once : {t : Trace} {x : ℕ} {mode other : Mode} {op op2 : Operation} {c d : ℕ} → IsOpen t x mode op c → IsOpen t x other op2 d → (c ≡ d) × (Call x mode op ≡ Call x other op2)
open_once {t} {x} {mode} {other} {op} {op2} {c} {d} o p =
    let same : c ≡ d = ⊎_elim (λ e. e) (λ w. ⊎_elim (λ l. absurd (o.last d (Call x other op2) l p.call refl)) (λ l. absurd (p.last c (Call x mode op) l o.call refl)) w) (cases_order c d) in
    let q : slice_get t d ≡ Some (Call x mode op) = subst (λ k. slice_get t k ≡ Some (Call x mode op)) same o.call in
    (same, same_Some (Call x mode op) (Call x other op2) (sym q ∙ p.call))

pub answers_in : {t : Trace} {x : ℕ} {mode : Mode} {op : Operation} {c b : ℕ} {a : Answer} → Answers t x mode op c b a → (c < b) × (b < length t) × (slice_get t c ≡ Some (Call x mode op))
answers_in {t} {x} {mode} {op} {c} {b} {a} h = let g = get_take b t c (Call x mode op) h.open_call.call in (g.1, slice_get_within t b (Back x a) h.back, g.0)

pub answers_more : {t : Trace} {x : ℕ} {mode : Mode} {op : Operation} {c b : ℕ} {a : Answer} (e : Event) → Answers t x mode op c b a → Answers (t ++ e ∷ []) x mode op c b a
answers_more {t} {x} {mode} {op} {c} {b} {a} e h =
    let l = (answers_in h).1 in
    record {
      open_call = subst (λ s. IsOpen s x mode op c) (sym (take-append-le b t (e ∷ []) (omega arith))) h.open_call;
      back = in_front t (e ∷ []) b (Back x a) h.back;
    }

pub answers_less : {t : Trace} {x : ℕ} {mode : Mode} {op : Operation} {c b : ℕ} {a : Answer} (e : Event) → Answers (t ++ e ∷ []) x mode op c b a → (Answers t x mode op c b a) ⊎ ((b ≡ length t) × (e ≡ Back x a) × IsOpen t x mode op c)
answers_less {t} {x} {mode} {op} {c} {b} {a} e h =
    ⊎_elim
    (λ old. let l = slice_get_within t b (Back x a) old in inl (record { open_call = subst (λ s. IsOpen s x mode op c) (take-append-le b t (e ∷ []) (omega arith)) h.open_call; back = old }))
    (λ new. inr (new.0, new.1, let f = take_all_front t (e ∷ []) in subst (λ s. IsOpen s x mode op c) f (subst (λ k. IsOpen (take k (t ++ e ∷ [])) x mode op c) new.0 h.open_call)))
    (get_snoc t e b (Back x a) h.back)

pub stamp_less : (limit : ℕ) (t : Trace) {c s : ℕ} (e : Event) → c ≤ length t → StampBefore limit (t ++ e ∷ []) c s → StampBefore limit t c s
stamp_less limit t {c} {s} e l (b, x, a, before, there, is) =
    ⊎_elim (λ old. (b, x, a, before, old, is)) (λ new. absurd (let n = new.0 in omega arith)) (get_snoc t e b (Back x a) there)
