-- The first member of a pipeline has answered its batch, and each member may collect.
use Rattle.std.proofs.Common.{◌≡◌, ◌≢◌, ℕ, zero, suc, ◌+◌, ◌<◌, List, length, set, sym, refl, ap, ◌∙◌, subst, arith, Some}
use Rattle.std.proofs.lemmas.Option.{same_Some}
use Rattle.atomic_table.proofs.Lists.{set_else, set_here}
use Rattle.ownlock.proofs.Export.{one_known}
use Rattle.ownlock.specs.Seats.{At, IsSession, TookNext}
use Rattle.ownlock.specs.declared.shelf.Held.{Held}
use Rattle.combiner.specs.Desks.{BatchView, DeskView, IsAnswered, IsBatchOf, answer_for, replied}
use Rattle.combiner.specs.declared.slots.Reply.{Reply}
use Rattle.combiner.specs.declared.slots.Reply.TheVariants.{Placed}
use Rattle.node.specs.Answering.{answered_batch}
use Rattle.replica.specs.Views.{RepliesView}
use Rattle.accounts.specs.Batches.{Ascend}
use Rattle.accounts.specs.declared.sessions.Pending.{Pending}
use Rattle.accounts.proofs.Export.{at_below, at_one, at_there}
use Rattle.store_steps.specs.declared.pipelines.Member.{Member}
use Rattle.store_steps.specs.declared.steps.Shared.{Shared}
use Rattle.store_steps.specs.declared.values.Value.{Value}
use Rattle.store_steps.specs.AtDesk.{HasAsked, IsReady}
use Rattle.store_steps.specs.AtOnce.{MayHandOver, StillWaits}
use Rattle.store_steps.specs.Whole.{HandsOver}
use Rattle.store_steps.proofs.AtDesk.{is_answered}
use Rattle.store_steps.proofs.Posting.{desk_here}
use Rattle.store_steps.specs.Combining.{HasCombined}
use Rattle.store_steps.specs.EachMember.{AllRequested, AscendEach, HasRecordOf, InOrder}
use Rattle.store_steps.specs.Lending.{desk_of}
use Rattle.store_steps.specs.Pipelines.{AllAnswered, AnswerWaits, AscendFrom, Begins, CollectsEach, HasDesk, IsDesk, IsReplied, KnownAt, SessionGivesThere, WaitsAt, here_of}
use Rattle.store_steps.specs.Standing.{IsFree, SessionKnown, Stands, StoreSeat}
use Rattle.store_steps.specs.Knowing.{IsOn}
use Rattle.store_steps.specs.Shelving.{store_rules}
use Rattle.ownlock.specs.Held.{held_place}
use Rattle.ownlock.specs.Knowledge.{Acquired, Takes}
use Rattle.store_steps.proofs.Gathered.{in_order, one_answer, reply_waits}
use Rattle.store_steps.proofs.Handing.{ready_there, taken, took_as}

abbrev K : Type 0
K = SessionKnown

-- a member has taken its desk
pub has_taken : (shared : Shared) (own : Member) (at : StoreSeat) (h : Held Value) (p : ℕ) (k t : K) → IsSession at t → IsFree own.caller k → IsOn shared k → held_place h ≡ p → Acquired store_rules p k t h.value → HasDesk at (here_of shared own) h k t
has_taken shared own at h p k t is free on place won = record { is = is; free = free; on = on; took = took_as k t p (held_place h) h.value h.value place refl won }

-- the first member has taken its desk, and has handed over the answers of its batch
pub record Given (shared : Shared) (own : Member) (batch : BatchView) (kept : RepliesView) (s1 : StoreSeat) (h1 : Held Value) (s2 : StoreSeat) (h2 : Held Value) (b : BatchView) : Type 0 where
  pub k : K
  pub known : IsSession own.seat k
  pub ready : IsReady k batch kept
  pub stands : Stands k
  pub o : Pending
  pub waits : StillWaits k o
  pub t : K
  pub d : HasDesk s1 (here_of shared own) h1 k t
  pub combined : K
  pub has : HasCombined k combined
  pub gives : HandsOver own.caller.node k combined batch kept
  pub now : K
  pub desk : HasDesk s2 (here_of shared own) h2 combined now
  pub next : TookNext combined.run (held_place h2) h2.value now
  pub x0 : DeskView
  pub of : IsBatchOf x0 b
  pub is2 : desk_of h2.value ≡ Some (replied b x0)
  pub all : IsAnswered b

pub given_of : (shared : Shared) (own : Member) (batch : BatchView) (kept : RepliesView) (moved s1 : StoreSeat) (h1 : Held Value) (s2 : StoreSeat) (h2 : Held Value) (b : BatchView) → ((k : K) → IsSession own.seat k → IsSession moved k) → MayHandOver own.seat own.caller shared batch kept
    → Takes store_rules moved (1 + shared.nodes + own.caller.node) h1.value s1 → IsDesk (here_of shared own) h1 → SessionGivesThere s1 s2 (here_of shared own) h1 h2 batch kept → IsReplied h1 b h2 → b ≡ answered_batch kept batch → Given shared own batch kept s1 h1 s2 h2 b
given_of shared own batch kept moved s1 h1 s2 h2 b split may takes place keeps replies answered =
    let t = takes may.0 (split may.0 may.1) in
    let d = has_taken shared own s1 h1 (1 + shared.nodes + own.caller.node) may.0 t.0 t.2 may.2.0 may.2.2 place.0 t.1 in
    let p = keeps may.0 t.0 d may.2.1 may.2.3 in
    let x = desk_here shared s1 h1 own may.0 t.0 d place in
    let o = replies x.0 x.1 in
    record {
      k = may.0;
      known = may.1;
      ready = may.2.1;
      stands = may.2.3;
      o = may.2.4.0;
      waits = may.2.4.1;
      t = t.0;
      d = d;
      combined = p.combined;
      has = p.has;
      gives = p.gives;
      now = p.now;
      desk = p.desk;
      next = p.next;
      x0 = x.0;
      of = o.0;
      is2 = o.1;
      all = subst IsAnswered (sym answered) (is_answered t.0 batch kept (ready_there s1 (here_of shared own) h1 may.0 t.0 d place batch kept may.2.1 may.2.3));
    }

-- the requests of the batch are those of the answered one
pub requested_still : (members : List Member) (b c : BatchView) (kept : RepliesView) → c ≡ answered_batch kept b → AllRequested members b → AllRequested members c
requested_still members b c kept same all j k known = subst (λ (z : BatchView). HasRecordOf z.records k.session) (sym same) (all j k known)

-- the first member has its desk again
module _ (shared : Shared) (old : List Member) (own : Member) (at_own : At 0 own old) (hollow s2 : StoreSeat) (h2 : Held Value) (k combined now : K) (known : IsSession own.seat k) (has : HasCombined k combined) (desk : HasDesk s2 (here_of shared own) h2 combined now) (place : IsDesk (here_of shared own) h2) where
  abbrev pub rest : List Member
  rest = set old 0 (record own { seat = hollow })

  -- the member that has the desk is the session k
  first_session : (f : K) (member : Member) (t : K) → At 0 member rest → HasDesk s2 (here_of shared member) h2 f t → f.session ≡ k.session
  first_session f member t at d0 =
      let same = at_one rest 0 member (record own { seat = hollow }) at (set_here old 0 (record own { seat = hollow }) (at_below old 0 own at_own)) in
      let d = subst (λ (z : Member). HasDesk s2 (here_of shared z) h2 f t) same d0 in
      let a = taken s2 (here_of shared own) h2 f t d place in
      let b = taken s2 (here_of shared own) h2 combined now desk place in
      sym a.session ∙ (ap (λ (z : K). z.session) (one_known s2 t now d.is desk.is) ∙ (b.session ∙ has.session))

  pub session_of : (j : ℕ) (f : K) → Begins shared rest 0 s2 h2 j f → (g : K) × KnownAt old j g × (f.session ≡ g.session)
  session_of zero f b = let h = b.0 refl in (k, (own, at_own, known), first_session f h.0 h.1 h.2 h.3)
  session_of (suc j) f b =
      let away : suc j ≢ 0 = λ e. omega (arith, e) in
      let h = b.1 away in
      (f, (h.0, sym (set_else old 0 (suc j) (record own { seat = hollow }) away) ∙ h.1, h.2), refl)

  pub begins_first : Begins shared rest 0 s2 h2 0 combined
  begins_first = (λ e. (record own { seat = hollow }, now, set_here old 0 (record own { seat = hollow }) (at_below old 0 own at_own), desk), λ n. absurd (n refl))

  pub begins_later : (j : ℕ) (f : K) → 0 < j → KnownAt old j f → Begins shared rest 0 s2 h2 j f
  begins_later j f lt h =
      let away : j ≢ 0 = λ e. omega (arith, lt, e) in
      (λ e. absurd (away e), λ n. (h.0, set_else old 0 j (record own { seat = hollow }) away ∙ h.1, h.2))

  pub ascends : AscendEach old → AscendFrom shared rest s2 h2
  ascends up i j f g lt a b =
      let p = session_of i f a in let q = session_of j g b in
      let low = up i j p.0 q.0 lt p.1 q.1 in let ep = p.2 in let eq = q.2 in omega (arith, low, ep, eq)

  module _ (b : BatchView) (requests : AllRequested old b) (x0 x2 : DeskView) (is2 : desk_of h2.value ≡ Some x2) (becomes : x2 ≡ replied b x0) (of : IsBatchOf x0 b) (all : IsAnswered b) where
    record_there : (j : ℕ) (f : K) → Begins shared rest 0 s2 h2 j f → HasRecordOf b.records f.session
    record_there j f s = let p = session_of j f s in subst (HasRecordOf b.records) (sym p.2) (requests j p.0 p.1)

    waits_there : (f : K) → HasRecordOf b.records f.session → (reply : Reply) × AnswerWaits x2 f reply × (answer_for f.session b.records b.answers ≡ Some reply)
    waits_there f r = let w = reply_waits x0 b f of all r in (w.0, subst (λ z. AnswerWaits z f w.0) (sym becomes) w.1, w.2)

    pub all_answered : AllAnswered shared rest s2 h2
    all_answered x j f is s =
        let w = waits_there f (record_there j f s) in
        (w.0, subst (λ z. AnswerWaits z f w.0) (same_Some x2 x (sym is2 ∙ is)) w.1)

    module _ (waits : (j : ℕ) → 0 < j → WaitsAt shared old j) (o0 : Pending) (asked0 : HasAsked combined o0) (new : List Member) (replies : List Reply) (long : length replies ≡ length old) (collected : CollectsEach shared rest new s2 h2 replies) where
      some_at : (j : ℕ) → j < length old → (f : K) × (o : Pending) × Begins shared rest 0 s2 h2 j f × HasAsked f o
      some_at zero lt = (combined, o0, begins_first, asked0)
      some_at (suc j) lt =
          let up : 0 < suc j = omega arith in
          let p = at_there old (suc j) lt in let w = waits (suc j) up p.0 p.1 in
          (w.0, w.1, begins_later (suc j) w.0 up (p.0, p.1, w.2), w.4)

      -- each answer is the one that the batch has for its session
      pub answer_of : (j : ℕ) (reply : Reply) → At j reply replies → (f g : K) × KnownAt old j g × (f.session ≡ g.session) × (answer_for f.session b.records b.answers ≡ Some reply)
      answer_of j reply at =
          let lt = at_below replies j reply at in
          let s = some_at j (omega (arith, lt, long)) in
          let c = collected x2 j s.0 s.1 is2 s.2 s.3 in
          let w = waits_there s.0 (record_there j s.0 s.2) in
          let p = session_of j s.0 s.2 in
          (s.0, p.0, p.1, p.2, w.2 ∙ ap Some (one_answer x2 s.0 w.0 c.0 w.1 c.2 ∙ at_one replies j c.0 reply c.1 at))

pub in_order_so : (old : List Member) (b : BatchView) (kept : RepliesView) (replies : List Reply) → AscendEach old → Ascend b.records
    → ((j : ℕ) (reply : Reply) → At j reply replies → (f g : K) × KnownAt old j g × (f.session ≡ g.session) × (answer_for f.session b.records (answered_batch kept b).answers ≡ Some reply)) → InOrder replies
in_order_so old b kept replies up ascend answers i j a c x y lt one two =
    let p = answers i (Placed a x) one in let q = answers j (Placed c y) two in
    let low = up i j p.1 q.1 lt p.2 q.2 in let ep = p.3 in let eq = q.3 in
    in_order b kept ascend p.0.session q.0.session a c x y (omega (arith, low, ep, eq)) p.4 q.4

-- so it is of the batch as it was answered
pub answers_as : (old : List Member) (b c : BatchView) (kept : RepliesView) (replies : List Reply) → c ≡ answered_batch kept b → ((j : ℕ) (reply : Reply) → At j reply replies → (f g : K) × KnownAt old j g × (f.session ≡ g.session) × (answer_for f.session c.records c.answers ≡ Some reply))
    → (j : ℕ) (reply : Reply) → At j reply replies → (f g : K) × KnownAt old j g × (f.session ≡ g.session) × (answer_for f.session b.records (answered_batch kept b).answers ≡ Some reply)
answers_as old b c kept replies same all j reply at = let a = all j reply at in (a.0, a.1, a.2, a.3, ap (λ (z : BatchView). answer_for a.0.session z.records z.answers) (sym same) ∙ a.4)
