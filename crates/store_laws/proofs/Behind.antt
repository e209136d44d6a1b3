-- Calls that begin when others have returned stand behind them.
use Rattle.store_steps.specs.declared.values.Value.{Value}
use Rattle.accounts.specs.declared.sessions.SessionNote.{SessionNote}
use Rattle.std.proofs.Common.{◌≡◌, ◌==◌, ℕ, Bool, true, false, if◌then◌else◌, [], ◌∷◌, ◌++◌, length, None, refl, sym, ap, ◌∙◌, append_assoc, subst, ⊎_elim, arith}
use Rattle.std.proofs.lemmas.Bool.{cases_lt}
use Rattle.std.proofs.lemmas.List.{append_cancel_right}
use Rattle.ownlock.specs.Seats.{At, Run, own_steps}
use Rattle.loader.specs.CatalogueView.{CatalogueView}
use Rattle.oplog.specs.declared.records.Record.{Record}
use Rattle.accounts.specs.declared.sessions.Progress.{Progress}
use Rattle.accounts.specs.Accounts.{Extends}
use Rattle.accounts.proofs.Export.{at_front, at_one, at_there, no_next}
use Rattle.replica.specs.StoreMeaning.{store_meaning}
use Rattle.store_steps.specs.declared.values.Setup.{Setup}
use Rattle.store_laws.specs.Meanwhile.{Meanwhile, StoreKnown, StoreState}
use Rattle.store_laws.specs.Behind.{Knows, ReadsStandBehind, UpdatesStandBehind, StepsStandBehind}

abbrev StoreRun : Type 0
StoreRun = Run (Progress CatalogueView) SessionNote Value

abbrev L : Type 0
L = Progress CatalogueView

-- a record stands where it stood once the history has grown
at_grown : (a b : L) → Extends a b → (i : ℕ) (r : Record) → At i r a.history → At i r b.history
at_grown a b grown i r at = subst (At i r) (sym grown.history.1) (at_front a.history grown.history.0 i r at)

module _ (opening : Setup) (s : StoreState) (m : Meanwhile opening s) where
  grows : (k : StoreKnown) → Knows s k → Extends k.progress m.progress
  grows k h = m.grown h.0 h.1 h.2 k h.3 h.4

  -- a session that waits for nothing has no record of its next update
  no_record : (k : StoreKnown) → Knows s k → k.note.pending ≡ None → (i : ℕ) (r : Record) → At i r m.progress.history → r.author ≡ k.session → r.seq ≡ length k.note.answered → ⊥
  no_record k h idle = no_next store_meaning m.progress m.notes k.session k.note m.accounts (m.noted h.0 h.1 h.2 k h.3 h.4) idle

-- two records that stand at one place of a later history are one
same_place : (a b c : L) → Extends a c → Extends b c → (i : ℕ) (r x : Record) → At i r a.history → At i x b.history → x ≡ r
same_place a b c from_a from_b i r x at there = at_one c.history i x r (at_grown b c from_b i x there) (at_grown a c from_a i r at)

pub updates_stand_behind : UpdatesStandBehind
updates_stand_behind opening begun last asker k told still a b is_asker is_k is_told is_still on idle place op at =
    ⊎_elim (λ lt. absurd (earlier (at_there k.progress.history place lt))) (λ le. le) (cases_lt place (length k.progress.history))
  where
    -- whatever stood there before is that record
    earlier : (x : Record) × At place x k.progress.history → ⊥
    earlier x =
        let same = same_place told.progress still.progress b.progress (grows opening last b told is_told) (grows opening last b still is_still) place _ x.0 at
        (at_grown k.progress still.progress on place x.0 x.1) in
        no_record opening begun a asker is_asker idle place x.0 (at_grown k.progress a.progress (grows opening begun a k is_k) place x.0 x.1)
        (ap (λ (z : Record). z.author) same) (ap (λ (z : Record). z.seq) same)

pub reads_stand_behind : ReadsStandBehind
reads_stand_behind opening s k m is = let low = (grows opening s m k is).completed in let word = m.completed in omega (arith, low, word)

-- ---- in the run

-- a session's own steps of two runs, one behind the other
pub own_both : (c : ℕ) (xs ys : StoreRun) → own_steps c (xs ++ ys) ≡ own_steps c xs ++ own_steps c ys
own_both c [] ys = refl
own_both c (e ∷ es) ys = by (own_both c es ys) (e.session == c)
  where
    by : own_steps c (es ++ ys) ≡ own_steps c es ++ own_steps c ys → (b : Bool) → (if b then e.step ∷ own_steps c (es ++ ys) else own_steps c (es ++ ys)) ≡ (if b then e.step ∷ own_steps c es else own_steps c es) ++ own_steps c ys
    by rest true = ap (λ z. e.step ∷ z) rest
    by rest false = rest

pub steps_stand_behind : StepsStandBehind
steps_stand_behind opening begun later asker k told still a b is_asker is_k is_told is_still on same taken steps =
    let c = asker.session in
    let last = b.goes_on is_still.0 is_still.1 is_still.2 still is_still.3 is_still.4 in
    let first = a.goes_on is_k.0 is_k.1 is_k.2 k is_k.3 is_k.4 in
    let since : StoreRun = last.0 ++ on.0 in
    let whole : b.run ≡ since ++ k.run = last.1 ∙ (ap (λ z. last.0 ++ z) on.1 ∙ sym (append_assoc last.0 on.0 k.run)) in
    let kept : own_steps c b.run ≡ told.steps = subst (λ z. own_steps z b.run ≡ told.steps) same (b.own is_told.0 is_told.1 is_told.2 told is_told.3 is_told.4) in
    let before : asker.steps ≡ own_steps c first.0 ++ own_steps c k.run =
    sym (a.own is_asker.0 is_asker.1 is_asker.2 asker is_asker.3 is_asker.4) ∙ (ap (own_steps c) first.1 ∙ own_both c first.0 k.run) in
    let both : own_steps c since ++ own_steps c k.run ≡ (taken ++ own_steps c first.0) ++ own_steps c k.run =
    sym (own_both c since k.run) ∙ (ap (own_steps c) (sym whole) ∙ (kept ∙ (steps ∙ (ap (λ z. taken ++ z) before ∙ sym (append_assoc taken (own_steps c first.0) (own_steps c k.run)))))) in
    (since, whole, (own_steps c first.0, append_cancel_right (own_steps c since) (taken ++ own_steps c first.0) (own_steps c k.run) both))
