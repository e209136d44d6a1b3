-- The lock's invariant, for the rules of a store.
use Rattle.std.proofs.Common.{◌<◌, sym, ◌∙◌, subst}
use Rattle.std.proofs.lemmas.List.{length-replicate}
use Rattle.ownlock.specs.Invariant.{LockInvariant}
use Rattle.ownlock.specs.Between.{Between}
use Rattle.ownlock.proofs.Export.{between}
use Rattle.accounts.proofs.Export.{stand}
use Rattle.replica.specs.StoreMeaning.{store_meaning}
use Rattle.store_steps.specs.declared.values.Setup.{Setup}
use Rattle.store_steps.specs.Shelving.{store_rules, store_opening, sessions_of}
use Rattle.store_laws.specs.Meanwhile.{StoreState, Meanwhile}

pub meanwhile : (opening : Setup) (s : StoreState) → LockInvariant store_rules (store_opening opening) s → Meanwhile opening s
meanwhile opening s r = told (between store_rules (store_opening opening) s r)
  where
    told : Between store_rules s (store_opening opening) → Meanwhile opening s
    told b = record {
      places = b.4;
      progress = b.0;
      config = sym b.3.config;
      catalogue = sym b.3.catalogue;
      notes = b.1;
      count = b.5 ∙ length-replicate (sessions_of opening.config) _;
      accounts = b.2;
      answered = λ a q n u at there. stand store_meaning b.0 b.1 b.2 a n q u at there;
      grown = λ j i v k at_j at_i. (b.7 j i v k at_j at_i).0;
      noted = λ j i v k at_j at_i. (b.7 j i v k at_j at_i).1;
      holds = λ j i v k at_j at_i. (b.7 j i v k at_j at_i).2;
      each = b.6;
      completed = b.8;
      still = b.9;
      run = b.10.run;
      leads = b.10.leads;
      goes_on = λ j i v k at_j at_i. b.10.goes_on k (j, i, v, at_j, at_i);
      own = λ j i v k at_j at_i. b.10.own k (j, i, v, at_j, at_i);
      ends = λ j i v k at_j at_i. b.10.ends k (j, i, v, at_j, at_i);
      all = λ c small. let t = b.10.all c (subst (λ n. c < n) b.5 small) in (t.1.0, t.1.1, t.1.2, t.0, t.1.3, t.1.4, t.2);
    }
