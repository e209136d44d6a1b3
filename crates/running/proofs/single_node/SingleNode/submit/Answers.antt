use Rattle.std.proofs.Common.{◌≡◌, [], ◌∷◌, ◌++◌, length, refl, sym, ap, subst, ◌∙◌, arith}
use Rattle.verifier.specs.declared.refusal.Mode.TheVariants.{Update}
use Rattle.oplog.specs.Operations.{FitsIn}
use Rattle.oplog.specs.Lists.{RecordListView}
use Rattle.oplog.specs.declared.records.Record.{Record}
use Rattle.oplog.specs.History.{History, AllFit}
use Rattle.node.specs.Following.{grown, replies_for}
use Rattle.loader.specs.CatalogueView.{longest_part}
use Rattle.replica.proofs.Export.{operation_fits}
use Rattle.running.proofs.OneUpdate.{is_next, updated, not_ended}
use Rattle.running.proofs.single_node.SingleNode.submit.Goals as goal

pub push-requires-clause-room : goal.push-requires-clause-room
push-requires-clause-room c =
    let steady = c.make_room.ensures.steady in
    let none : length c.clear.new.self.records ≡ 0 = ap (λ (v : RecordListView). length v.records) c.clear.ensures.empty in
    let room : c.clear.new.self.room ≡ 1 = ap (λ (v : RecordListView). v.room) c.clear.ensures.empty ∙ steady.next.1 in
    omega (arith, none, room)

pub push-requires-clause-fits : goal.push-requires-clause-fits
push-requires-clause-fits c =
    let steady = c.make_room.ensures.steady in
    let long : c.clear.new.self.long ≡ longest_part c.args.catalogue.now = ap (λ (v : RecordListView). v.long) c.clear.ensures.empty ∙ steady.next.0 ∙ steady.long.0 in
    subst (λ n. FitsIn n c.args.op.now) (sym long) (operation_fits Update c.args.catalogue.now c.args.op.now c.requires.update)

pub append-requires-clause-fit : goal.append-requires-clause-fit
append-requires-clause-fit c =
    let steady = c.make_room.ensures.steady in
    let long : c.push.new.self.long ≡ c.make_room.new.self.log.long = ap (λ (v : RecordListView). v.long) c.push.ensures.pushed ∙ ap (λ (v : RecordListView). v.long) c.clear.ensures.empty ∙ steady.next.0 in
    subst (λ (rs : History). AllFit c.make_room.new.self.log.long rs) (sym c.lent-records.ensures.records) (subst (λ n. AllFit n c.push.new.self.records) long c.lent-records.ensures.fit)

pub replay-requires : goal.replay-requires
replay-requires c =
    let before = c.make_room.new.self in
    let r : Record = record { author = 0; seq = c.tail-seq.result; op = c.args.op.now } in
    let one : c.lent-records.result ≡ r ∷ [] = c.lent-records.ensures.records ∙ ap (λ (v : RecordListView). v.records) c.push.ensures.pushed ∙ ap (λ (v : RecordListView). v.records ++ r ∷ []) c.clear.ensures.empty in
    let log : c.append.new.log ≡ grown (r ∷ []) before.log = subst (λ (x : History). c.append.new.log ≡ grown x before.log) one c.append.ensures.log in
    record {
      next = is_next c.args.catalogue.now before.log c.append.new.log before.own c.append.new.node r
          log c.append.ensures.node (λ none. c.if-left-eq0.false (c.left.ensures.left ∙ none)) c.make_room.ensures.steady.tail
          c.requires.update c.make_room.ensures.steady.sizes c.append.ensures.within;
    }

pub returns-clause-updated : goal.returns-clause-updated
returns-clause-updated c =
    let before = c.make_room.new.self in
    let r : Record = record { author = 0; seq = c.tail-seq.result; op = c.args.op.now } in
    let one : c.lent-records.result ≡ r ∷ [] = c.lent-records.ensures.records ∙ ap (λ (v : RecordListView). v.records) c.push.ensures.pushed ∙ ap (λ (v : RecordListView). v.records ++ r ∷ []) c.clear.ensures.empty in
    let log : c.append.new.log ≡ grown (r ∷ []) before.log = subst (λ (x : History). c.append.new.log ≡ grown x before.log) one c.append.ensures.log in
    let replies : c.append.new.replies ≡ replies_for (r ∷ []) before.log = subst (λ (x : History). c.append.new.replies ≡ replies_for x before.log) one c.append.ensures.replies in
    updated c.args.catalogue.now before.log c.append.new.log before.own c.append.new.node r
    log c.append.ensures.node (λ none. c.if-left-eq0.false (c.left.ensures.left ∙ none)) c.make_room.ensures.steady.tail
    c.replay.new.replies c.get.result (rw replies at c.replay.ensures.kept) c.get.ensures.outcome
    c.args.self.now c.finish.new.log c.replay.new.node before.room c.push.new.self c.args.op.now c.make_room.ensures.own c.make_room.ensures.tail c.make_room.ensures.limit
    refl c.replay.ensures.node c.finish.ensures.log

pub returns-clause-ended : goal.returns-clause-ended
returns-clause-ended c =
    let before = c.make_room.new.self in
    let r : Record = record { author = 0; seq = c.tail-seq.result; op = c.args.op.now } in
    let one : c.lent-records.result ≡ r ∷ [] = c.lent-records.ensures.records ∙ ap (λ (v : RecordListView). v.records) c.push.ensures.pushed ∙ ap (λ (v : RecordListView). v.records ++ r ∷ []) c.clear.ensures.empty in
    let log : c.append.new.log ≡ grown (r ∷ []) before.log = subst (λ (x : History). c.append.new.log ≡ grown x before.log) one c.append.ensures.log in
    let replies : c.append.new.replies ≡ replies_for (r ∷ []) before.log = subst (λ (x : History). c.append.new.replies ≡ replies_for x before.log) one c.append.ensures.replies in
    not_ended c.args.catalogue.now before.log c.append.new.log before.own c.append.new.node r
    log c.append.ensures.node (λ none. c.if-left-eq0.false (c.left.ensures.left ∙ none)) c.make_room.ensures.steady.tail
    c.replay.new.replies c.get.result (rw replies at c.replay.ensures.kept) c.get.ensures.outcome _
