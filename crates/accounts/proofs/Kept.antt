-- A session that asks nothing has no record of its next number.
use Rattle.std.proofs.Common.{◌≡◌, ℕ, List, length, ap, ◌∙◌, subst, ⊎_elim, arith, None}
use Rattle.oplog.specs.History.{Meaning}
use Rattle.ownlock.specs.Seats.{At}
use Rattle.accounts.proofs.Moved.{some_none}
use Rattle.accounts.specs.Accounts.{Accounts, HasNoRecord}
use Rattle.accounts.specs.declared.sessions.Progress.{Progress}
use Rattle.accounts.specs.declared.sessions.SessionNote.{SessionNote}
use Rattle.ownlock.proofs.Export.{at_below, at_one}

module _ {C M : Type 0} (E : Meaning C M) where
  -- no record of a session that asks nothing has the next number
  pub no_next : (l : Progress C) (ns : List SessionNote) (c : ℕ) (n : SessionNote) → Accounts E l ns → At c n ns → n.pending ≡ None → HasNoRecord l.history c (length n.answered)
  no_next l ns c n w here idle i r at e q =
      let a = w.accounted i r at in
      let same : a.0 ≡ n = at_one ns c a.0 n (subst (λ z. At z a.0 ns) e a.1) here in
      ⊎_elim (λ h. let b = at_below n.answered r.seq _ (subst (λ (z : SessionNote). At r.seq (record { index = i; op = r.op; reply = h.0 }) z.answered) same h.1) in omega (arith, b, q))
      (λ h. some_none h.0 a.0.pending h.1 (ap (λ (z : SessionNote). z.pending) same ∙ idle)) a.2
