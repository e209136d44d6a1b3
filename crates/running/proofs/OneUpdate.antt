-- One update of a node: the record is appended, copied and replayed.
use Rattle.std.proofs.Common.{◌≡◌, zero, suc, ◌+◌, ◌-◌, ◌<◌, ◌≤◌, true, [], ◌∷◌, length, Option, Some, slice_get, sym, ap, subst, ◌∙◌, arith, lit<}
use Rattle.std.specs.Prelude.{IfSome, IfNone}
use Rattle.std.proofs.lemmas.List.{length-append}
use Rattle.std.proofs.lemmas.Option.{same_Some}
use Rattle.std.proofs.Math.Seq.{drop-append_seam}
use Rattle.loader.specs.Installed.{InstalledView}
use Rattle.loader.specs.StoreState.{StoreState, sizes_of}
use Rattle.machine.specs.declared.running.Outcome.{Outcome}
use Rattle.verifier.specs.declared.refusal.Mode.TheVariants.{Update}
use Rattle.loader.specs.CatalogueView.{CatalogueView, sizes_for}
use Rattle.oplog.specs.declared.configuration.TheConstants.{ENDLESS}
use Rattle.oplog.specs.Operations.{Operation}
use Rattle.oplog.specs.declared.records.Record.{Record}
use Rattle.oplog.specs.Lists.{RecordListView}
use Rattle.oplog.specs.Logs.{Log, tail_of, left_of}
use Rattle.oplog.specs.History.{Effect, History, left_by, after}
use Rattle.replica.specs.StoreMeaning.{is_operation, store_meaning, AreUpdates}
use Rattle.replica.specs.Views.{ReplicaView, RepliesView}
use Rattle.replica.specs.Replaying.{IsAnswered, KeepsOutcomes}
use Rattle.node.specs.declared.following.NodeReplica.{NodeReplica}
use Rattle.node.specs.Following.{IsNext, room_for, grown, copied, replies_for, replayed, told}
use Rattle.running.specs.declared.single_node.SingleNode.{SingleNode}
use Rattle.running.specs.Running.{IsUpdated}

only_one : (c : CatalogueView) (r : Record) → is_operation Update c r.op ≡ true → AreUpdates c (r ∷ [])
only_one c r is zero s e = subst (λ x. is_operation Update c x.op ≡ true) (same_Some r s e) is
only_one c r is (suc k) s e = absurd cc

-- the log and the replica before and after the record is appended
module _ (c : CatalogueView) (g h : Log) (n m : NodeReplica) (r : Record) (log : h ≡ grown (r ∷ []) g) (own : m ≡ copied h n) (left : left_of g ≡ 0 → ⊥) (at : n.replica.tail ≡ tail_of g) where
  one : room_for (r ∷ []) g ≡ 1
  one = grind (arith, left)

  one_more : tail_of h ≡ tail_of g + 1
  one_more =
      let size = length-append g.records (r ∷ []) in
      ap (λ (x : Log). tail_of x) log ∙ rw one (omega (arith, size))

  same_limit : h.limit ≡ g.limit
  same_limit = ap (λ (x : Log). x.limit) log

  holds_one : m.hand.records ≡ r ∷ []
  holds_one =
      let start : n.replica.tail - g.base ≡ length g.records = omega (arith, at) in
      rw (own, log, one, start) (drop-append_seam g.records (r ∷ []))

  same_replica : m.replica ≡ n.replica
  same_replica = ap (λ (x : NodeReplica). x.replica) own

  pub is_next : is_operation Update c r.op ≡ true → sizes_of n.replica.state ≡ sizes_for c → tail_of h ≤ ENDLESS → IsNext c m
  is_next update sizes within =
      let copied_from = ap (λ (x : NodeReplica). x.hand.begin) own in
      let tail = ap (λ (x : ReplicaView). x.tail) same_replica in
      let count = ap (λ (x : History). length x) holds_one in
      let more = one_more in
      record {
        begins = copied_from ∙ sym tail;
        sizes = ap (λ (x : ReplicaView). sizes_of x.state) same_replica ∙ sizes;
        updates = subst (λ x. AreUpdates c x) (sym holds_one) (only_one c r update);
        short = omega (arith, tail, at, count, more, within);
      }

  -- what is kept of its outcome
  module _ (kept : RepliesView) (got : Option Outcome) (keeps : KeepsOutcomes c m.replica.state m.replica.tail m.hand.records (replies_for (r ∷ []) g) kept) (found : slice_get kept.outcomes 0 ≡ Some got) where
    answered : (o : Outcome) × (got ≡ Some o) × IsAnswered c r.op n.replica.state o
    answered =
        let tail = ap (λ (x : ReplicaView). x.tail) same_replica in
        let has_index : 0 < length (replies_for (r ∷ []) g).outcomes = rw one (lit< tt) in
        let there = keeps.replayed 0 0 r has_index (ap (λ (x : History). slice_get x 0) holds_one) (omega (arith, tail, at)) in
        (there.0, same_Some got (Some there.0) (sym found ∙ there.1), subst (λ (x : ReplicaView). IsAnswered c r.op x.state there.0) same_replica there.2)

    pub updated : (old : SingleNode) (last : Log) (p : NodeReplica) (room : InstalledView) (next : RecordListView) (op : Operation) → n ≡ old.own → tail_of g ≡ tail_of old.log → g.limit ≡ old.log.limit → r.op ≡ op → p ≡ replayed c m → last ≡ told p h
        → IfSome got (λ o. IsUpdated c op old (record { log = last; own = p; replies = kept; room = room; next = next }) o)
    updated old last p room next op replica tail limit same run raised =
        let a = answered in
        let answer = a.2 in
        let takes : store_meaning.update c op old.own.replica.state ≡ Some answer.done =
        rw (← same, ← replica) answer.takes in
        let state : p.replica.state ≡ answer.done.left =
        ap (λ (x : NodeReplica). x.replica.state) run ∙ ap (λ (x : History). after store_meaning c m.replica.state x) holds_one
        ∙ ap (λ (x : ReplicaView). left_by (store_meaning.update c r.op x.state) x.state) same_replica ∙ ap (λ (e : Option (Effect StoreState)). left_by e n.replica.state) answer.takes in
        subst (λ (x : Option Outcome). IfSome x (λ o. IsUpdated c op old (record { log = last; own = p; replies = kept; room = room; next = next }) o)) (sym a.1)
        (record {
          room = omega (arith, left, tail, limit);
          limit = ap (λ (x : Log). x.limit) raised ∙ same_limit ∙ limit;
          tail = ap (λ (x : Log). tail_of x) raised ∙ one_more ∙ ap (λ k. k + 1) tail;
          done = answer.done;
          takes = takes;
          outcome = answer.outcome;
          state = state;
        })

    pub not_ended : (P : Type 0) → IfNone got P
    not_ended P = subst (λ (x : Option Outcome). IfNone x P) (sym answered.1) tt
