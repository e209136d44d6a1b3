-- A history that explains a trace goes on explaining it as either grows.
use Rattle.std.proofs.Common.{◌≡◌, ◌≢◌, ℕ, ◌<◌, ◌≤◌, true, [], ◌∷◌, ◌++◌, length, take, Some, sym, ap, ◌∙◌, ⊎_elim, arith, subst, length-append}
use Rattle.std.specs.Prelude.{slice_get, option_map}
use Rattle.std.proofs.lemmas.List.{take-append-le}
use Rattle.std.proofs.lemmas.Option.{slice_get_within}
use Rattle.verifier.specs.declared.refusal.Mode.{Mode}
use Rattle.verifier.specs.declared.refusal.Mode.TheVariants.{Update}
use Rattle.oplog.specs.declared.records.Record.{Record}
use Rattle.oplog.specs.Operations.{Operation}
use Rattle.oplog.specs.History.{History, after, state_after, effect_at, reply_at, read_reply_at}
use Rattle.combiner.specs.declared.slots.Reply.TheVariants.{Placed, Ended}
use Rattle.replica.specs.StoreMeaning.{store_meaning, is_operation}
use Rattle.schedule.specs.Trace.{Answer, Updated, ReadBack, Event, Call, Back, Trace, Positions, IsOpen, IsIdle, StampBefore, stamp, Suits}
use Rattle.schedule.specs.declared.parts.Opening.{Opening}
use Rattle.schedule.specs.Explains.{Explains, IsRight, count_of}
use Rattle.schedule.proofs.Lists.{get_snoc}
use Rattle.schedule.proofs.Traces.{take_all_front, answers_in, answers_more, answers_less, stamp_less}
use Rattle.maps.proofs.Export.{in_front}
use Rattle.machine.proofs.Export.{get_inside}

-- what an answer has to be
abbrev pub Right : Opening → History → Positions → Trace → Operation → ℕ → Answer → Type 0
Right m h positions t op c (Updated (Placed i r)) = (slice_get positions i ≡ Some c) × (reply_at store_meaning m.catalogue h i op ≡ Some r)
Right m h positions t op c (Updated Ended) = ((i : ℕ) → slice_get positions i ≢ Some c) × (length h ≡ m.config.limit)
Right m h positions t op c (ReadBack a) = (a.point ≤ length h) × (read_reply_at store_meaning m.catalogue h a.point op ≡ Some a.reply) × ((s : ℕ) → StampBefore m.config.limit t c s → s ≤ a.point)

is_right : (m : Opening) (h : History) (positions : Positions) (t : Trace) (op : Operation) (c : ℕ) (a : Answer) → Right m h positions t op c a → IsRight m h positions c op a
is_right m h positions t op c (Updated (Placed i r)) w = w
is_right m h positions t op c (Updated Ended) w = w
is_right m h positions t op c (ReadBack a) w = (w.0, w.1)

-- what an event has to be
abbrev pub Fine : Opening → History → Positions → Trace → Event → Type 0
Fine m h positions t (Call x mode op) = IsIdle t x
Fine m h positions t (Back x a) = (mode : Mode) × (op : Operation) × (c : ℕ) × IsOpen t x mode op c × Suits mode a × ((k : Mode) (o : Operation) (d : ℕ) → IsOpen t x k o d → Right m h positions t o d a)

pub in_trace : {m : Opening} {h : History} {positions : Positions} {t : Trace} → Explains m h positions t → (i c : ℕ) → slice_get positions i ≡ Some c → (i < length h) × (c < length t) × ((e : Record) × (slice_get h i ≡ Some e) × (slice_get t c ≡ Some (Call e.author Update e.op)))
in_trace {m} {h} {positions} {t} x i c g =
    let l = slice_get_within positions i c g in
    let p = x.each_placed in
    let e = get_inside h i (omega arith) in
    let k = x.calls i c e.0 e.1 g in
    (slice_get_within h i e.0 e.1, slice_get_within t c (Call (e.0).author Update (e.0).op) k, (e.0, e.1, k))

right_at : (m : Opening) (h : History) (positions : Positions) (t : Trace) (x : ℕ) (mode : Mode) (op : Operation) (c : ℕ) (a : Answer) (e : Event) → Fine m h positions t e → e ≡ Back x a → IsOpen t x mode op c → Right m h positions t op c a
right_at m h positions t x mode op c a e fine same o = let f = subst (λ y. Fine m h positions t y) same fine in f.5 mode op c o

pub explains_event : {m : Opening} {h : History} {positions : Positions} {t : Trace} (e : Event) → Explains m h positions t → Fine m h positions t e → Explains m h positions (t ++ e ∷ [])
explains_event {m} {h} {positions} {t} e x fine = record {
  updates = x.updates;
  each_placed = x.each_placed;
  calls = λ i c f g p. in_front t (e ∷ []) c (Call f.author Update f.op) (x.calls i c f g p);
  once = x.once;
  seqs = x.seqs;
  right = λ y mode op c b a ans. ⊎_elim (λ old. x.right y mode op c b a old) (λ new. is_right m h positions t op c a (right_at m h positions t y mode op c a e fine new.1 new.2)) (answers_less e ans);
  placed_later = λ c i s p before. let l = (in_trace x i c p).1 in x.placed_later c i s p (stamp_less m.config.limit t e (omega arith) before);
  read_later = λ y mode op c b k r s ans before. ⊎_elim
      (λ old. let l = answers_in old in let l0 = l.0 in let l1 = l.1 in x.read_later y mode op c b k r s old (stamp_less m.config.limit t e (omega arith) before))
      (λ new. let w = right_at m h positions t y mode op c (ReadBack (record { point = k; reply = r })) e fine new.1 new.2 in let l = slice_get_within t c (Call y mode op) (new.2).call in w.2 s (stamp_less m.config.limit t e (omega arith) before))
      (answers_less e ans);
  calls_in_turn = λ c y mode op g. ⊎_elim
      (λ old. let l = slice_get_within t c (Call y mode op) old in subst (λ s. IsIdle s y) (sym (take-append-le c t (e ∷ []) (omega arith))) (x.calls_in_turn c y mode op old))
      (λ new. let idle = subst (λ f. Fine m h positions t f) new.1 fine in subst (λ k. IsIdle (take k (t ++ e ∷ [])) y) (sym new.0) (subst (λ s. IsIdle s y) (sym (take_all_front t (e ∷ []))) idle))
      (get_snoc t e c (Call y mode op) g);
  answers_in_turn = λ b y a g. ⊎_elim
      (λ old. let w = x.answers_in_turn b y a old in (w.0, w.1, w.2, answers_more e w.3, w.4))
      (λ new. let f = subst (λ z. Fine m h positions t z) new.1 fine in
      (f.0, f.1, f.2, record { open_call = subst (λ k. IsOpen (take k (t ++ e ∷ [])) y f.0 f.1 f.2) (sym new.0) (subst (λ s. IsOpen s y f.0 f.1 f.2) (sym (take_all_front t (e ∷ []))) f.3); back = g }, f.4))
      (get_snoc t e b (Back y a) g);
}

pub after_more : (m : Opening) (h es : History) (k : ℕ) → k ≤ length h → state_after store_meaning m.catalogue (h ++ es) k ≡ state_after store_meaning m.catalogue h k
after_more m h es k l = ap (λ fs. after store_meaning m.catalogue (store_meaning.opening m.catalogue) fs) (take-append-le k h es l)

pub effect_more : (m : Opening) (h es : History) (k : ℕ) (op : Operation) → k ≤ length h → effect_at store_meaning m.catalogue (h ++ es) k op ≡ effect_at store_meaning m.catalogue h k op
effect_more m h es k op l = ap (λ state. store_meaning.update m.catalogue op state) (after_more m h es k l)

pub reply_more : (m : Opening) (h es : History) (k : ℕ) (op : Operation) → k ≤ length h → reply_at store_meaning m.catalogue (h ++ es) k op ≡ reply_at store_meaning m.catalogue h k op
reply_more m h es k op l = ap (λ state. option_map (λ e. e.reply) (store_meaning.update m.catalogue op state)) (after_more m h es k l)

read_more : (m : Opening) (h es : History) (k : ℕ) (op : Operation) → k ≤ length h → read_reply_at store_meaning m.catalogue (h ++ es) k op ≡ read_reply_at store_meaning m.catalogue h k op
read_more m h es k op l = ap (λ state. option_map (λ e. e.reply) (store_meaning.read m.catalogue op state)) (after_more m h es k l)

pub explains_entry : {m : Opening} {h : History} {positions : Positions} {t : Trace} (e : Record) (c : ℕ) → Explains m h positions t → is_operation Update m.catalogue e.op ≡ true
    → slice_get t c ≡ Some (Call e.author Update e.op) → ((i : ℕ) → slice_get positions i ≢ Some c) → e.seq ≡ count_of e.author h → length h < m.config.limit
    → ((b : ℕ) (y : ℕ) (a : Answer) → slice_get t b ≡ Some (Back y a) → stamp m.config.limit a ≤ length h)
    → Explains m (h ++ e ∷ []) (positions ++ c ∷ []) t
explains_entry {m} {h} {positions} {t} e c x may call free seq room stamps = record {
  updates = λ i f g. ⊎_elim (λ old. x.updates i f old) (λ new. subst (λ z. is_operation Update m.catalogue z.op ≡ true) new.1 may) (get_snoc h e i f g);
  each_placed = let p = x.each_placed in simp (length-append) (omega arith);
  calls = λ i d f g p. ⊎_elim
      (λ old. ⊎_elim (λ oldp. x.calls i d f old oldp) (λ new. absurd (let l = slice_get_within h i f old in let n = new.0 in let q = x.each_placed in omega arith)) (get_snoc positions c i d p))
      (λ new. ⊎_elim (λ oldp. absurd (let l = slice_get_within positions i d oldp in let n = new.0 in let q = x.each_placed in omega arith)) (λ newp. subst (λ k. slice_get t k ≡ Some (Call f.author Update f.op)) newp.1 (subst (λ z. slice_get t c ≡ Some (Call z.author Update z.op)) new.1 call)) (get_snoc positions c i d p))
      (get_snoc h e i f g);
  once = λ i j d p q. ⊎_elim
      (λ oldp. ⊎_elim (λ oldq. x.once i j d oldp oldq) (λ newq. absurd (free i (subst (λ k. slice_get positions i ≡ Some k) (sym newq.1) oldp))) (get_snoc positions c j d q))
      (λ newp. ⊎_elim (λ oldq. absurd (free j (subst (λ k. slice_get positions j ≡ Some k) (sym newp.1) oldq))) (λ newq. newp.0 ∙ sym newq.0) (get_snoc positions c j d q))
      (get_snoc positions c i d p);
  seqs = λ i f g. ⊎_elim
      (λ old. let l = slice_get_within h i f old in x.seqs i f old ∙ ap (λ es. count_of f.author es) (sym (take-append-le i h (e ∷ []) (omega arith))))
      (λ new. subst (λ z. z.seq ≡ count_of z.author (take i (h ++ e ∷ []))) new.1 (seq ∙ ap (λ es. count_of e.author es) (sym (ap (λ k. take k (h ++ e ∷ [])) new.0 ∙ take_all_front h (e ∷ [])))))
      (get_snoc h e i f g);
  right = λ y mode op d b a ans. more op d a (x.right y mode op d b a ans);
  placed_later = λ d i s p before. ⊎_elim
      (λ old. x.placed_later d i s old before)
      (λ new. let q = x.each_placed in let n = new.0 in let l = stamps before.0 before.1 before.2 before.4 in let k = before.5 in omega arith)
      (get_snoc positions c i d p);
  read_later = x.read_later;
  calls_in_turn = x.calls_in_turn;
  answers_in_turn = x.answers_in_turn;
}
  where
    more : (op : Operation) (d : ℕ) (a : Answer) → IsRight m h positions d op a → IsRight m (h ++ e ∷ []) (positions ++ c ∷ []) d op a
    more op d (Updated (Placed i r)) w = let l = (in_trace x i d w.0).0 in (in_front positions (c ∷ []) i d w.0, reply_more m h (e ∷ []) i op (omega arith) ∙ w.1)
    more op d (ReadBack a) w = let l = w.0 in (simp (length-append) (omega arith), read_more m h (e ∷ []) a.point op w.0 ∙ w.1)
    more op d (Updated Ended) w = let f = w.1 in absurd (omega arith)
