-- One list explains the trace of calls that are made in turn and stand in the order of real time.
use Rattle.std.proofs.Common.{◌≡◌, ◌≢◌, ⊎_elim, ℕ, ◌+◌, ◌*◌, ◌<◌, ◌≤◌, List, length, take, Some, refl, sym, ap, subst, ◌∙◌, arith}
use Rattle.std.specs.Prelude.{slice_get}
use Rattle.std.proofs.lemmas.Bool.{cases_order}
use Rattle.std.proofs.lemmas.Option.{same_Some}
use Rattle.verifier.specs.declared.refusal.Mode.{Mode}
use Rattle.verifier.specs.declared.refusal.Mode.TheVariants.{Update}
use Rattle.oplog.specs.declared.records.Record.{Record}
use Rattle.oplog.specs.Operations.{Operation}
use Rattle.oplog.specs.History.{History}
use Rattle.combiner.specs.declared.slots.Reply.TheVariants as replies
use Rattle.replica.specs.StoreMeaning.{AreUpdates}
use Rattle.schedule.specs.Trace.{Answer, Updated, ReadBack, Event, Call, Back, Trace, Positions, caller, IsIdle, Answers, StampBefore, stamp, Suits}
use Rattle.schedule.specs.declared.parts.Opening.{Opening}
use Rattle.schedule.specs.Explains.{Explains, IsRight}
use Rattle.schedule.proofs.Export.{get_take, get_taken, back_call, op_in, answers_in}
use Rattle.realtime.specs.Ranks.{rank_of}
use Rattle.realtime.proofs.Agreeing.{standing_told}
use Rattle.realtime.proofs.OneList.{Made, Has, Right, Places}
use Rattle.realtime.proofs.Events.{Traced, call_event, back_event}

abbrev mode_in : Mode → Event → Mode
mode_in m (Call x mode op) = mode
mode_in m (Back x a) = m

abbrev answer_in : Answer → Event → Answer
answer_in a (Call x mode op) = a
answer_in a (Back x b) = b

-- when these calls began and were back, in a history of so many updates
pub record Timing (zs : List Made) (updates : ℕ) : Type 0 where
  pub back : (z : Made) → Has zs z → z.call.begun < z.call.ended
  pub same : (a b : Made) → Has zs a → Has zs b → a.call.begun ≡ b.call.begun → a ≡ b
  pub apart : (a b : Made) → Has zs a → Has zs b → a.call.begun ≢ b.call.ended
  pub turns : (a b : Made) → Has zs a → Has zs b → a.call.session ≡ b.call.session → a.call.begun < b.call.begun → a.call.ended ≤ b.call.begun
  pub real : (a b : Made) → Has zs a → Has zs b → a.call.ended < b.call.begun → a.call.rank ≤ b.call.rank
  pub ranked : (z : Made) → Has zs z → z.call.rank ≡ rank_of updates (standing_told z.told.answer)

module _ (m : Opening) (h : History) (ps : Positions) (zs : List Made) (t : Trace) (places : Places m.catalogue h ps zs) (traced : Traced zs t) (timing : Timing zs (length h))
    (updates : AreUpdates m.catalogue h) (limit : (z : Made) → Has zs z → z.told.answer ≡ Updated replies.Ended → m.config.limit ≡ length h) where
  -- ---- events

  -- whose call, and whose answer
  abbrev CallOf : ℕ → ℕ → Mode → Operation → Type 0
  CallOf c x mode op = (z : Made) × Has zs z × (c ≡ z.call.begun) × (Call x mode op ≡ call_event z)

  abbrev BackOf : ℕ → ℕ → Answer → Type 0
  BackOf b x a = (z : Made) × Has zs z × (b ≡ z.call.ended) × (Back x a ≡ back_event z)

  call_of : (c x : ℕ) (mode : Mode) (op : Operation) → slice_get t c ≡ Some (Call x mode op) → CallOf c x mode op
  call_of c x mode op g =
      let o = traced.only c (Call x mode op) g in
      ⊎_elim (λ e. (o.0, o.1, e.0, e.1)) (λ e. absurd (back_call o.0.call.session x mode op o.0.told.answer (sym e.1))) o.2

  back_of : (b x : ℕ) (a : Answer) → slice_get t b ≡ Some (Back x a) → BackOf b x a
  back_of b x a g =
      let o = traced.only b (Back x a) g in
      ⊎_elim (λ e. absurd (back_call x o.0.call.session o.0.told.mode o.0.told.op a e.1)) (λ e. (o.0, o.1, e.0, e.1)) o.2

  -- a call and its answer are those of one line
  module _ {x : ℕ} {mode : Mode} {op : Operation} {c b : ℕ} {a : Answer} (ans : Answers t x mode op c b a) where
    one_line : (z : Made) × Has zs z × (c ≡ z.call.begun) × (b ≡ z.call.ended) × (Call x mode op ≡ call_event z) × (Back x a ≡ back_event z)
    one_line =
        let l = answers_in ans in
        let y = call_of c x mode op l.2 in
        let z = back_of b x a ans.back in
        let back_y = timing.back y.0 y.1 in
        let back_z = timing.back z.0 z.1 in
        let session : y.0.call.session ≡ z.0.call.session = sym (ap caller y.3) ∙ ap caller z.3 in
        let at_y : c ≡ y.0.call.begun = y.2 in
        let at_z : b ≡ z.0.call.ended = z.2 in
        let earlier : c < b = l.0 in
        ⊎_elim
        (λ same. let is = timing.same y.0 z.0 y.1 z.1 same in (y.0, y.1, y.2, z.2 ∙ ap (λ (w : Made). w.call.ended) (sym is), y.3, z.3 ∙ ap back_event (sym is)))
        (λ differ. absurd (⊎_elim
        (λ lt. let turn = timing.turns y.0 z.0 y.1 z.1 session lt in
        (ans.open_call).last y.0.call.ended (back_event y.0) (omega (arith, at_y, back_y)) (get_taken b t y.0.call.ended (back_event y.0) (traced.back y.0 y.1) (omega (arith, turn, back_z, at_z))) (sym (ap caller y.3)))
        (λ lt. let turn = timing.turns z.0 y.0 z.1 y.1 (sym session) lt in omega (arith, turn, at_y, at_z, earlier))
        differ))
        (cases_order y.0.call.begun z.0.call.begun)

    right_of : Right m.catalogue h ps c mode op a
    right_of =
        let z = one_line in
        let r = places.right z.0 z.1 in
        let by_place = subst (λ k. Right m.catalogue h ps k z.0.told.mode z.0.told.op z.0.told.answer) (sym z.2) r in
        let by_mode = subst (λ k. Right m.catalogue h ps c k z.0.told.op z.0.told.answer) (sym (ap (mode_in mode) z.4)) by_place in
        let by_op = subst (λ k. Right m.catalogue h ps c mode k z.0.told.answer) (sym (ap (op_in op) z.4)) by_mode in
        subst (λ k. Right m.catalogue h ps c mode op k) (sym (ap (answer_in a) z.5)) by_op

    rank_below : (d : Made) → Has zs d → d.call.ended < c → rank_of (length h) (standing_told d.told.answer) ≤ rank_of (length h) (standing_told a)
    rank_below d has lt =
        let z = one_line in
        let at : c ≡ z.0.call.begun = z.2 in
        let le = timing.real d z.0 has z.1 (omega (arith, lt, at)) in
        let low = timing.ranked d has in
        let high = timing.ranked z.0 z.1 ∙ ap (λ k. rank_of (length h) (standing_told k)) (sym (ap (answer_in a) z.5)) in
        omega (arith, le, low, high)

  -- ---- stamps

  -- what was answered before a read has happened by its point
  by_point : (a : Answer) (point : ℕ) → (a ≡ Updated replies.Ended → m.config.limit ≡ length h) → rank_of (length h) (standing_told a) ≤ 2 * point → stamp m.config.limit a ≤ point
  by_point (Updated (replies.Placed i reply)) point full le = omega (arith, le)
  by_point (Updated replies.Ended) point full le = let is = full refl in omega (arith, is, le)
  by_point (ReadBack a) point full le = omega (arith, le)

  -- and before an update, by its index
  by_index : (a : Answer) (i : ℕ) → (a ≡ Updated replies.Ended → m.config.limit ≡ length h) → ((reply : ℕ) → a ≡ Updated (replies.Placed i reply) → ⊥)
      → rank_of (length h) (standing_told a) ≤ 2 * i + 1 → stamp m.config.limit a ≤ i
  by_index (Updated (replies.Placed j reply)) i full other le =
      ⊎_elim (λ e. absurd (other reply (ap (λ k. Updated (replies.Placed k reply)) e))) (λ w. ⊎_elim (λ lt. omega (arith, lt)) (λ gt. omega (arith, gt, le)) w) (cases_order j i)
  by_index (Updated replies.Ended) i full other le = let is = full refl in omega (arith, is, le)
  by_index (ReadBack a) i full other le = omega (arith, le)

  placed_later : (c i s : ℕ) → slice_get ps i ≡ Some c → StampBefore m.config.limit t c s → s ≤ i
  placed_later c i s p (b, x, a, before, there, is) =
      let o = places.owner i c p in
      let d = back_of b x a there in
      let at_b : b ≡ d.0.call.ended = d.2 in
      let at_c : o.of.call.begun ≡ c = o.begun in
      let answer : d.0.told.answer ≡ a = sym (ap (answer_in a) d.3) in
      let le = timing.real d.0 o.of d.1 o.has (omega (arith, before, at_b, at_c)) in
      let low = timing.ranked d.0 d.1 in
      let high = timing.ranked o.of o.has ∙ ap (λ k. rank_of (length h) (standing_told k)) o.answer in
      let back = timing.back d.0 d.1 in
      let bound = by_index d.0.told.answer i (limit d.0 d.1) (λ reply e.
      let r = subst (λ k. Right m.catalogue h ps d.0.call.begun d.0.told.mode d.0.told.op k) e (places.right d.0 d.1) in
      let same = same_Some d.0.call.begun c (sym r.1 ∙ p) in
      omega (arith, same, back, at_b, before)) (omega (arith, le, low, high)) in
      let here = is ∙ ap (stamp m.config.limit) (sym answer) in
      omega (arith, here, bound)

  read_later : (x : ℕ) (mode : Mode) (op : Operation) (c b point reply s : ℕ) → Answers t x mode op c b (ReadBack (record { point = point; reply = reply })) → StampBefore m.config.limit t c s → s ≤ point
  read_later x mode op c b point reply s ans (e, y, a, before, there, is) =
      let d = back_of e y a there in
      let at_e : e ≡ d.0.call.ended = d.2 in
      let answer : d.0.told.answer ≡ a = sym (ap (answer_in a) d.3) in
      let le = rank_below ans d.0 d.1 (omega (arith, before, at_e)) in
      let bound = by_point d.0.told.answer point (limit d.0 d.1) le in
      let here = is ∙ ap (stamp m.config.limit) (sym answer) in
      omega (arith, here, bound)

  -- ---- the turns of sessions

  calls_in_turn : (c x : ℕ) (mode : Mode) (op : Operation) → slice_get t c ≡ Some (Call x mode op) → IsIdle (take c t) x
  calls_in_turn c x mode op g kind other d waits =
      let z = call_of c x mode op g in
      let f = get_take c t d (Call x kind other) waits.call in
      let y = call_of d x kind other f.0 in
      let session : y.0.call.session ≡ z.0.call.session = sym (ap caller y.3) ∙ ap caller z.3 in
      let at_c : c ≡ z.0.call.begun = z.2 in
      let at_d : d ≡ y.0.call.begun = y.2 in
      let lt : d < c = f.1 in
      let turn = timing.turns y.0 z.0 y.1 z.1 session (omega (arith, at_c, at_d, lt)) in
      let back = timing.back y.0 y.1 in
      let before : y.0.call.ended < c = ⊎_elim (λ e. absurd (timing.apart z.0 y.0 z.1 y.1 (sym e))) (λ w. ⊎_elim (λ l. omega (arith, l, at_c)) (λ l. absurd (omega (arith, l, turn))) w) (cases_order y.0.call.ended z.0.call.begun) in
      waits.last y.0.call.ended (back_event y.0) (omega (arith, at_d, back)) (get_taken c t y.0.call.ended (back_event y.0) (traced.back y.0 y.1) before) (sym (ap caller y.3))

  -- no event of the same session stands between
  between : (z : Made) → Has zs z → (j : ℕ) (e : Event) → z.call.begun < j → j < z.call.ended → slice_get t j ≡ Some e → caller e ≢ z.call.session
  between z has j e low high g same =
      let o = traced.only j e g in
      let y = o.0 in
      let own : y.call.session ≡ caller e = ⊎_elim (λ k. sym (ap caller k.1)) (λ k. sym (ap caller k.1)) o.2 in
      let session = own ∙ same in
      let back = timing.back y o.1 in
      let inside : (y.call.begun ≤ j) × (j ≤ y.call.ended) = ⊎_elim (λ k. let is = k.0 in (omega (arith, is), omega (arith, is, back))) (λ k. let is = k.0 in (omega (arith, is, back), omega (arith, is))) o.2 in
      let from = inside.0 in
      let to = inside.1 in
      ⊎_elim
      (λ k. let one = timing.same y z o.1 has k in
      let end = ap (λ (w : Made). w.call.ended) one in
      ⊎_elim (λ n. let is = n.0 in omega (arith, is, k, low)) (λ n. let is = n.0 in omega (arith, is, end, high)) o.2)
      (λ w. ⊎_elim
      (λ lt. let turn = timing.turns y z o.1 has session lt in omega (arith, turn, low, to))
      (λ lt. let turn = timing.turns z y has o.1 (sym session) lt in omega (arith, turn, high, from))
      w)
      (cases_order y.call.begun z.call.begun)

  suits : (begun : ℕ) (mode : Mode) (op : Operation) (a : Answer) → Right m.catalogue h ps begun mode op a → Suits mode a
  suits begun mode op (Updated (replies.Placed i reply)) r = subst (λ k. Suits k (Updated (replies.Placed i reply))) (sym r.0) tt
  suits begun mode op (Updated replies.Ended) r = subst (λ k. Suits k (Updated replies.Ended)) (sym r) tt
  suits begun mode op (ReadBack a) r = subst (λ k. Suits k (ReadBack a)) (sym r.0) tt

  answers_in_turn : (b x : ℕ) (a : Answer) → slice_get t b ≡ Some (Back x a) → (mode : Mode) × (op : Operation) × (c : ℕ) × Answers t x mode op c b a × Suits mode a
  answers_in_turn b x a g =
      let z = back_of b x a g in
      let session : z.0.call.session ≡ x = sym (ap caller z.3) in
      let answer : z.0.told.answer ≡ a = sym (ap (answer_in a) z.3) in
      let at : b ≡ z.0.call.ended = z.2 in
      let back = timing.back z.0 z.1 in (
        z.0.told.mode,
        z.0.told.op,
        z.0.call.begun,
        record {
          open_call = record {
            call = get_taken b t z.0.call.begun _ (traced.called z.0 z.1 ∙ ap (λ k. Some (Call k z.0.told.mode z.0.told.op)) session) (omega (arith, at, back));
            last = λ j e l f. (let k = get_take b t j e f in let lt = k.1 in λ same. between z.0 z.1 j e l (omega (arith, lt, at)) k.0 (same ∙ sym session));
          };
          back = g;
        },
        subst (λ k. Suits z.0.told.mode k) answer (suits z.0.call.begun z.0.told.mode z.0.told.op z.0.told.answer (places.right z.0 z.1)),
      )

  -- ---- answers

  has_index : (i r : ℕ) → Updated (replies.Placed i r) ≡ Updated replies.Ended → ⊥
  has_index i r e = cc

  is_right : {x : ℕ} {mode : Mode} {op : Operation} {c b : ℕ} (a : Answer) → Answers t x mode op c b a → IsRight m h ps c op a
  is_right (Updated (replies.Placed i reply)) ans = let r = right_of ans in (r.1, r.2)
  is_right (ReadBack a) ans = let r = right_of ans in (r.1, r.2)
  is_right {c = c} (Updated replies.Ended) ans =
      let z = one_line ans in
      let answer : z.0.told.answer ≡ Updated replies.Ended = sym (ap (answer_in (Updated replies.Ended)) z.5) in (
        λ i p. (let o = places.owner i c p in
            let is = timing.same o.of z.0 o.has z.1 (o.begun ∙ z.2) in
            has_index i o.reply (sym o.answer ∙ ap (λ (w : Made). w.told.answer) is ∙ answer)),
        sym (limit z.0 z.1 answer),
      )

  -- ---- together

  pub explained : Explains m h ps t
  explained = record {
    updates = updates;
    each_placed = places.long;
    calls = λ i c r f p.
        let o = places.owner i c p in
        let is = same_Some o.entry r (sym o.there ∙ f) in
        let session : r.author ≡ o.of.call.session = ap (λ (k : Record). k.author) (sym is) ∙ o.author in
        let op : r.op ≡ o.of.told.op = ap (λ (k : Record). k.op) (sym is) ∙ o.op in
        ap (slice_get t) (sym o.begun) ∙ traced.called o.of o.has ∙ ap (λ k. Some (Call k o.of.told.mode o.of.told.op)) (sym session)
        ∙ ap (λ k. Some (Call r.author k o.of.told.op)) o.mode ∙ ap (λ k. Some (Call r.author Update k)) (sym op);
    once = λ i j c p q.
        let a = places.owner i c p in
        let b = places.owner j c q in
        let is = timing.same a.of b.of a.has b.has (a.begun ∙ sym b.begun) in
        index_of i j a.reply b.reply (sym a.answer ∙ ap (λ (w : Made). w.told.answer) is ∙ b.answer);
    seqs = places.seqs;
    right = λ x mode op c b answer ans. is_right answer ans;
    placed_later = placed_later;
    read_later = read_later;
    calls_in_turn = calls_in_turn;
    answers_in_turn = answers_in_turn;
  }
    where
      index_of : (i j r q : ℕ) → Updated (replies.Placed i r) ≡ Updated (replies.Placed j q) → i ≡ j
      index_of i j r q e = cc
