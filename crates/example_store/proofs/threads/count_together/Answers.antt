use Rattle.std.proofs.Common.{◌≡◌, ◌<◌, ◌∙◌, ◌++◌, take, drop, length, All, sym, ap, subst, rules}
use Rattle.std.proofs.Math.Seq.{take-append_seam}
use Rattle.store.specs.Sessions.{IsOf}
use Rattle.example_store.proofs.threads.count_together.Goals as goal

pub for_each_mut-requires-clause-accepts : goal.for_each_mut-requires-clause-accepts
for_each_mut-requires-clause-accepts g c κs within i p below same =
    let own : All (IsOf c.args.store.now) c.deref_mut.result.now = rw c.deref_mut.ensures.value c.requires.own in
    subst (λ s. IsOf c.args.store.now s) (sym same) (own i p.now below)

pub returns : goal.returns
returns g c =
    let own : All (IsOf c.args.store.now) c.for_each_mut.new.s = λ k d below.
    let did = (c.for_each_mut.ensures k d (subst (λ n. k < n) c.for_each_mut.auto.s below)).1 in
    subst (λ s. IsOf c.args.store.now s) did.left did.call in
    let long : length c.for_each_mut.new.s ≡ c.args.sessions.now.len = search rules in
    let left = ap (λ n. take n (c.for_each_mut.new.s ++ drop (length c.for_each_mut.new.s) c.args.sessions.now.items)) (sym long)
    ∙ take-append_seam c.for_each_mut.new.s (drop (length c.for_each_mut.new.s) c.args.sessions.now.items) in
    record {
      own = subst (λ xs. All (IsOf c.args.store.now) xs) (sym left) own;
      count = ap length left ∙ search rules;
    }
