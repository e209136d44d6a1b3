-- The members of a pipeline have posted, or only looked.
use Rattle.std.proofs.Common.{◌≡◌, ℕ, zero, suc, ◌<◌, Bool, true, false, List, set, ◌==◌, sym, refl, ◌∙◌, subst, arith}
use Rattle.std.proofs.lemmas.Bool.{eqb-true, eqb-false}
use Rattle.atomic_table.proofs.Lists.{set_else, set_here}
use Rattle.ownlock.specs.Seats.{At, IsSession}
use Rattle.ownlock.specs.declared.shelf.Held.{Held}
use Rattle.combiner.specs.Desks.{BatchView}
use Rattle.store_steps.specs.declared.pipelines.Member.{Member}
use Rattle.store_steps.specs.declared.steps.Shared.{Shared}
use Rattle.store_steps.specs.declared.values.Value.{Value}
use Rattle.accounts.proofs.Export.{at_below, at_one}
use Rattle.oplog.specs.Operations.{Operation}
use Rattle.store_steps.specs.EachMember.{AllRequested, ClaimsAt, HasRecordOf, IsSetFirst, LooksEach}
use Rattle.store_steps.specs.Knowing.{Learns}
use Rattle.store_steps.specs.Pipelines.{Begins, HasLooked, KnownAt, SessionTakes, here_of}
use Rattle.store_steps.specs.Standing.{SessionKnown, StoreSeat}
use Rattle.store_steps.specs.Updating.{PostsBy}
use Rattle.store_steps.proofs.AskingEach.{was_at}
use Rattle.store_steps.proofs.Handing.{not_looked}
use Rattle.store_steps.proofs.Posting.{known_as}

abbrev K : Type 0
K = SessionKnown

-- the session of the last member is in a seat of its own, and that member has an empty one
module _ (old : List Member) (last : ℕ) (own : Member) (at_own : At last own old) (moved : StoreSeat) (split : (k : K) → IsSession own.seat k → IsSession moved k) where
  -- it took the desk, in the seat `at`
  module _ (shared : Shared) (hollow at : StoreSeat) (h : Held Value) (takes : SessionTakes moved at (here_of shared own) h) where
    abbrev pub rest : List Member
    rest = set old last (record own { seat = hollow })

    pub begins_so : (j : ℕ) (k : K) → KnownAt old j k → Begins shared rest last at h j k
    begins_so j k known = (
      λ e.
          let own_known = known_as old last k own at_own (subst (λ i. KnownAt old i k) e known) in
          let t = takes k (split k own_known) in
          (record own { seat = hollow }, t.0, subst (λ i. At i (record own { seat = hollow }) rest) (sym e) (set_here old last (record own { seat = hollow }) (at_below old last own at_own)), t.1),
      λ n. (known.0, set_else old last j (record own { seat = hollow }) n ∙ known.1, known.2),
    )

  -- it only looked
  module _ (at : StoreSeat) (learns : Learns moved at HasLooked) where
    pub looks_so : LooksEach old (set old last (record own { seat = at }))
    looks_so j k known = by ((j == last)) refl
      where
        by : (b : Bool) → (j == last) ≡ b → (after : K) × KnownAt (set old last (record own { seat = at })) j after × HasLooked k after
        by true e =
            let same = eqb-true j last e in
            let t = learns k (split k (known_as old last k own at_own (subst (λ i. KnownAt old i k) same known))) in
            (t.0, (record own { seat = at }, subst (λ i. At i (record own { seat = at }) (set old last (record own { seat = at }))) (sym same) (set_here old last (record own { seat = at }) (at_below old last own at_own)), t.1), t.2)
        by false e = (k, (known.0, set_else old last j (record own { seat = at }) (eqb-false j last e) ∙ known.1, known.2), not_looked k)

-- each member has a request: the first, and each later one
pub requested : (members : List Member) (batch : BatchView) → ((k : K) → KnownAt members 0 k → HasRecordOf batch.records k.session) → ((j : ℕ) (k : K) → 0 < j → KnownAt members j k → HasRecordOf batch.records k.session) → AllRequested members batch
requested members batch first others zero k known = first k known
requested members batch first others (suc j) k known = others (suc j) k (omega arith) known

-- another member than the first has the session that it had
pub was_known : (old new : List Member) → IsSetFirst old new → (j : ℕ) (k : K) → 0 < j → KnownAt new j k → KnownAt old j k
was_known old new is_set j k lt known =
    let o = was_at old new is_set.0 j known.0 known.1 in
    (o.0, o.1, subst (λ (z : Member). IsSession z.seat k) (sym (at_one new j o.0 known.0 (is_set.1 j o.0 lt o.1) known.1)) known.2)

-- what the first member has claimed, by another name of the operation
abbrev pub claims_as : (members : List Member) (k : K) (op now : Operation) (batch : BatchView) → op ≡ now → ClaimsAt members k op batch → ClaimsAt members k now batch
claims_as members k op now batch same c = record {
  asked = c.asked;
  posted = record { back = c.posted.back; request = c.posted.request; op_is = c.posted.op_is ∙ same; seen = c.posted.seen; note = c.posted.note };
  posts = subst (PostsBy k c.asked) same c.posts;
  after = c.after;
  is = c.is;
  turned = c.turned;
  turns = c.turns;
  own = c.own;
  again = c.again;
}
