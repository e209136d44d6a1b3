use Rattle.std.proofs.Common.{length, take, subst, sym, arith}
use Rattle.oplog.specs.History.{AllFit}
use Rattle.oplog.specs.Lists.{RecordListView}
use Rattle.oplog.specs.Laid.{each_of, AreWithin}
use Rattle.oplog.proofs.Laying.{each_at_most, laid_within, all_fit}
use Rattle.oplog.proofs.record_list.RecordList.lent.Goals as goal

pub of-requires : goal.of-requires
of-requires c =
    let k = c.self.inside in
    let each = each_at_most k.long in
    let long = c.self.invariant.6 in
    let within : AreWithin (length k.beside.items) (take k.count k.filled.items) = laid_within (each_of k.long) (take k.count k.filled.items) (length k.beside.items) (omega (arith, each, long)) c.self.invariant.2 in
    record {
      within = subst (λ bytes. AreWithin (length bytes) (take k.count c.deref.result.now)) (sym c.deref-2.ensures.value)
          (subst (λ rows. AreWithin (length k.beside.items) (take k.count rows)) (sym c.deref.ensures.value) within);
    }

pub returns-clause-fit : goal.returns-clause-fit
returns-clause-fit c =
    let k = c.self.inside in
    subst (λ (v : RecordListView). AllFit v.long v.records) c.self.view_is (all_fit k.long k.beside.items (take k.count k.filled.items) (length k.beside.items) c.self.invariant.2)
