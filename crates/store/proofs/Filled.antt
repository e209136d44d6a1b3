-- A shelf with desks is filled place by place, and what it is opened with agrees.
use Rattle.std.proofs.Common.{◌≡◌, ℕ, zero, suc, ◌+◌, ◌-◌, ◌*◌, ◌<◌, ◌≤◌, ◌⊎◌, inl, inr, ⊎_elim, List, [], ◌∷◌, ◌++◌, length, length-append, replicate, sym, refl, ap, ◌∙◌, subst, arith, Option, Some, mul-le-mul_right, suc-mul}
use Rattle.std.proofs.lemmas.Bool.{cases_lt}
use Rattle.ownlock.specs.Seats.{At}
use Rattle.ownlock.specs.Knowledge.{AllAgree}
use Rattle.loader.specs.CatalogueView.{CatalogueView, IsCatalogue}
use Rattle.oplog.specs.declared.configuration.Sizes.{Sizes}
use Rattle.replica.specs.StoreMeaning.{store_meaning}
use Rattle.accounts.specs.Values.{TheDesk}
use Rattle.accounts.specs.Agreement.{AgreesWith, desk_place}
use Rattle.accounts.specs.LogSteps.{first_progress, fresh_note}
use Rattle.accounts.proofs.Export.{opens, at_front, at_behind, store_opens, desk_store}
use Rattle.store_steps.specs.declared.values.Value.{Value}
use Rattle.store_steps.specs.declared.values.Value.TheVariants.{Log, Replica, Desk}
use Rattle.store.specs.Places.{AreFilled, AreKept, AreShelved, IsOpenedDesk}
use Rattle.store_steps.specs.Shelving.{IsOpenedLog, IsOpenedReplica, IsSized, sessions_of, store_rules, view_of}
use Rattle.store.proofs.Opened.{log_opens, replica_opens}

-- ---- one value more

pub record Grown (old : List (Option Value)) (n : ℕ) (P : ℕ → Value → Type 0) (values : List (Option Value)) : Type 0 where
  pub count : length values ≡ length old + n
  pub kept : AreKept old values
  pub filled : AreFilled (length old) n P values

pub grown : (old values new : List (Option Value)) (n : ℕ) (v : Value) (P : ℕ → Value → Type 0)
    → new ≡ values ++ Some v ∷ [] → Grown old n P values → P n v → Grown old (n + 1) P new
grown old values new n v P is g p = subst (λ z. Grown old (n + 1) P z) (sym is) (record { count = longer; kept = λ q a at. at_front values (Some v ∷ []) q a (g.kept q a at); filled = filled })
  where
    longer : length (values ++ Some v ∷ []) ≡ length old + (n + 1)
    longer = let long = length-append values (Some v ∷ []) in let count = g.count in omega (arith, long, count)

    place : length values + 0 ≡ length old + n
    place = let count = g.count in omega (arith, count)

    last : (i : ℕ) → n ≡ i → (w : Value) × At (length old + i) (Some w) (values ++ Some v ∷ []) × P i w
    last i e = subst (λ i. (w : Value) × At (length old + i) (Some w) (values ++ Some v ∷ []) × P i w) e (v, subst (λ q. At q (Some v) (values ++ Some v ∷ [])) place (at_behind values (Some v ∷ []) 0 (Some v) refl), p)

    filled : AreFilled (length old) (n + 1) P (values ++ Some v ∷ [])
    filled i lt = ⊎_elim
        (λ low. let f = g.filled i low in (f.0, at_front values (Some v ∷ []) (length old + i) (Some f.0) f.1, f.2))
        (λ high. last i (omega (arith, lt, high)))
        (cases_lt i n)

-- ---- all values

pub shelved : (config : Sizes) (c : CatalogueView) (none first second third : List (Option Value)) (log : Value)
    → none ≡ [] → first ≡ none ++ Some log ∷ [] → IsOpenedLog c config.window config.limit log
    → length second ≡ length first + config.nodes → AreKept first second
    → AreFilled (length first) config.nodes (λ i v. IsOpenedReplica c config.window v) second
    → length third ≡ length second + config.nodes → AreKept second third
    → AreFilled (length second) config.nodes (λ i v. IsOpenedDesk config.slots i v) third
    → AreShelved config c third
shelved config c none first second third log empty is opened long kept replicas longer kept2 desks = record {
  count = omega (arith, one, long, longer);
  log = (log, kept2 0 (Some log) (kept 0 (Some log) (subst (λ z. At 0 (Some log) z) (sym alone) refl)), opened);
  replicas = λ i lt. let r = replicas i lt in (r.0, kept2 (1 + i) (Some r.0) (subst (λ n. At (n + i) (Some r.0) second) one r.1), r.2);
  desks = λ i lt. let d = desks i lt in (d.0, subst (λ n. At (n + i) (Some d.0) third) two d.1, d.2);
}
  where
    alone : first ≡ Some log ∷ []
    alone = is ∙ ap (λ z. z ++ Some log ∷ []) empty

    one : length first ≡ 1
    one = ap length alone

    two : length second ≡ 1 + config.nodes
    two = long ∙ ap (λ n. n + config.nodes) one

-- ---- they agree with what a store begins with

desk_opens : (config : Sizes) (c : CatalogueView) (node : ℕ) (v : Value) → node < config.nodes
    → IsOpenedDesk config.slots node v
    → store_rules.AgreesWith (desk_place config node) (first_progress config c) (replicate (sessions_of config) fresh_note) v
desk_opens config c node (Desk d) lt is =
    let low : suc node * config.slots ≤ config.nodes * config.slots = mul-le-mul_right config.slots lt in
    let more = suc-mul node config.slots in
    let agrees = (opens store_meaning config c (sessions_of config)).3 node (omega (arith, low, more)) in
    subst (λ x. AgreesWith store_meaning (desk_place config node) (first_progress config c) (replicate (sessions_of config) fresh_note) (TheDesk x) × (length x.slots ≡ config.slots)) (sym is) ((lt, refl, agrees), agrees.slots)
desk_opens config c node (Log g) lt is = absurd is
desk_opens config c node (Replica n) lt is = absurd is

one_more : (i : ℕ) → 1 + i ≡ suc i
one_more i = omega arith

pub places_agree : (config : Sizes) (c : CatalogueView) (values : List (Option Value)) → IsCatalogue c
    → AreShelved config c values
    → AllAgree store_rules (first_progress config c) (replicate (sessions_of config) fresh_note) values
places_agree config c values whole s p lt = by_place p lt (cases_lt p 1) (cases_lt p (1 + config.nodes))
  where
    by_place : (p : ℕ) → p < length values → (p < 1) ⊎ (1 ≤ p) → (p < 1 + config.nodes) ⊎ (1 + config.nodes ≤ p)
        → (x : Value) × At p (Some x) values × store_rules.AgreesWith p (first_progress config c) (replicate (sessions_of config) fresh_note) x
    by_place zero lt low less = let t = log_opens config c whole s.log.0 s.log.2 in (s.log.0, s.log.1, (store_opens (desk_store store_meaning) view_of IsSized config c (sessions_of config)).1 s.log.0 t.0 t.1)
    by_place (suc i) lt low (inl less) =
        let n = s.replicas i (omega (arith, less)) in
        let t = replica_opens config c whole n.0 n.2 in
        subst (λ q. (x : Value) × At q (Some x) values × store_rules.AgreesWith q (first_progress config c) (replicate (sessions_of config) fresh_note) x) (one_more i)
        (n.0, n.1, (store_opens (desk_store store_meaning) view_of IsSized config c (sessions_of config)).2 i n.0 (omega (arith, less)) t.0 t.1)
    by_place (suc i) lt low (inr more) =
        let count = s.count in
        let inside : i - config.nodes < config.nodes = omega (arith, lt, more, count) in
        let is : 1 + config.nodes + (i - config.nodes) ≡ suc i = omega (arith, more) in
        let d = s.desks (i - config.nodes) inside in
        (d.0, subst (λ q. At q (Some d.0) values) is d.1, subst (λ q. store_rules.AgreesWith q (first_progress config c) (replicate (sessions_of config) fresh_note) d.0) is (desk_opens config c (i - config.nodes) d.0 inside d.2))
