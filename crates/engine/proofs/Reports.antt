-- What a command did, from what it made.
use Rattle.std.proofs.Common.{◌≡◌, inl, inr, ℕ, List, Option, Some, None, Result, Ok, Err, refl, sym, ap, subst, ◌∙◌}
use Rattle.std.specs.Prelude.{IfOk, IfSome}
use Rattle.std.specs.Io.KnownBytes.{Appends}
use Rattle.engine.specs.declared.replies.Status.{Status}
use Rattle.engine.specs.declared.replies.Status.TheVariants as statuses
use Rattle.engine.specs.declared.replies.Verdict.{Verdict}
use Rattle.engine.specs.declared.replies.Verdict.TheVariants as verdicts
use Rattle.engine.specs.declared.transfer.ReadFault.{ReadFault}
use Rattle.engine.specs.declared.transfer.ReadFault.TheVariants as faults
use Rattle.engine.specs.Status.{status_of}
use Rattle.engine.specs.Texts.{no_memory_line}
use Rattle.engine.specs.Answer.{Answer}
use Rattle.engine.specs.Report.{Sends}
use Rattle.engine.specs.Engine.{IfAnswered, Performs, Reports, Writes, handed_back}

module _ {M : Type 0} (answer : M → Answer) (Is : M → Type 0) (old new : Option (List ℕ)) where
  -- an answer that was sent, or broke off
  sent : (got : Status) (m : M) → Is m → Sends old new got (answer m).text (status_of (answer m).verdict) → Reports answer Is old new got
  sent got m is (inr broke) = subst (λ s. Reports answer Is old new s) (sym broke.0) (inl (m, is, broke.1))
  sent got m is (inl whole) = by_verdict (answer m).verdict refl
    where
      by_verdict : (v : Verdict) → (answer m).verdict ≡ v → Reports answer Is old new got
      by_verdict verdicts.Good v = subst (λ s. Reports answer Is old new s) (sym (rw v at whole.0)) (m, is, sym (ap status_of v), whole.1)
      by_verdict verdicts.Refused v = subst (λ s. Reports answer Is old new s) (sym (rw v at whole.0)) (m, is, sym (ap status_of v), whole.1)
      by_verdict verdicts.Differs v = subst (λ s. Reports answer Is old new s) (sym (rw v at whole.0)) (m, is, sym (ap status_of v), whole.1)

  no_memory_sent : (got : Status) → Sends old new got no_memory_line statuses.NoMemory → Reports answer Is old new got
  no_memory_sent got (inl whole) = subst (λ s. Reports answer Is old new s) (sym whole.0) whole.1
  no_memory_sent got (inr broke) = subst (λ s. Reports answer Is old new s) (sym broke.0) (inr broke.1)

  pub reports : (got : Status) (made : Result M ReadFault) → Writes answer old new got made → IfOk made Is → Reports answer Is old new got
  reports got (Ok m) wrote is = sent got m is wrote
  reports got (Err faults.NoMemory) wrote is = no_memory_sent got wrote
  reports got (Err faults.CannotRead) wrote is = subst (λ s. Reports answer Is old new s) (sym wrote.0) wrote.1

-- ---- what is handed back too

module _ {M : Type 0} (answer : M → Answer) (Is : M → Type 0) (old new : Option (List ℕ)) where
  -- how a command ended, and what it handed back
  abbrev Did : Status → Option M → Type 0
  Did got back = Performs answer Is old new (record { status = got; made = back })

  did : (got wanted : Status) (back same : Option M) → got ≡ wanted → back ≡ same → Did wanted same → Did got back
  did got wanted back same g b p = subst (λ s. Did s back) (sym g) (subst (λ o. Did wanted o) (sym b) p)

  whole_back : (got : Status) (back : Option M) (m : M) → Is m → got ≡ status_of (answer m).verdict → Appends old new (answer m).text → back ≡ handed_back got (Ok m) → Did got back
  whole_back got back m is ended wrote handed = by_verdict (answer m).verdict refl
    where
      by_verdict : (v : Verdict) → (answer m).verdict ≡ v → Did got back
      by_verdict verdicts.Good v = let at : got ≡ statuses.Good = ended ∙ ap status_of v in did got statuses.Good back (Some m) at (rw at at handed) (is, sym (ap status_of v), wrote)
      by_verdict verdicts.Refused v = let at : got ≡ statuses.Refused = ended ∙ ap status_of v in did got statuses.Refused back (Some m) at (rw at at handed) (is, sym (ap status_of v), wrote)
      by_verdict verdicts.Differs v = let at : got ≡ statuses.Differs = ended ∙ ap status_of v in did got statuses.Differs back (Some m) at (rw at at handed) (is, sym (ap status_of v), wrote)

  pub performs : (got : Status) (back : Option M) (made : Result M ReadFault) → Writes answer old new got made → back ≡ handed_back got made → IfOk made Is → Did got back
  performs got back (Ok m) (inl whole) handed is = whole_back got back m is whole.0 whole.1 handed
  performs got back (Ok m) (inr broke) handed is = did got statuses.CannotWrite back None broke.0 (rw broke.0 at handed) (inl (m, is, broke.1))
  performs got back (Err faults.NoMemory) (inl whole) handed is = did got statuses.NoMemory back None whole.0 (rw whole.0 at handed) whole.1
  performs got back (Err faults.NoMemory) (inr broke) handed is = did got statuses.CannotWrite back None broke.0 (rw broke.0 at handed) (inr broke.1)
  performs got back (Err faults.CannotRead) wrote handed is = did got statuses.CannotRead back None wrote.0 (rw wrote.0 at handed) wrote.1

  -- `Reports`, without what was handed back
  pub performed : (got : Status) (back : Option M) → Did got back → Reports answer Is old new got
  performed got (Some m) did = sent answer Is old new got m did.0 (inl (did.1, did.2))
  performed statuses.NoMemory None did = did
  performed statuses.CannotRead None did = did
  performed statuses.CannotWrite None did = did
  performed statuses.Good None did = absurd did
  performed statuses.Refused None did = absurd did
  performed statuses.Differs None did = absurd did

  -- what is so beside what is handed back is so where an answer was written whole
  pub answered : (P : M → Type 0) (Q : Type 0) → ((m : M) → P m → Q) → (got : Status) (back : Option M) → Did got back → IfSome back P → IfAnswered got Q
  answered P Q f got (Some m) did so = by_status got
    where
      by_status : (s : Status) → IfAnswered s Q
      by_status statuses.Good = f m so
      by_status statuses.Refused = f m so
      by_status statuses.Differs = f m so
      by_status statuses.NoMemory = tt
      by_status statuses.CannotRead = tt
      by_status statuses.CannotWrite = tt
  answered P Q f statuses.NoMemory None did so = tt
  answered P Q f statuses.CannotRead None did so = tt
  answered P Q f statuses.CannotWrite None did so = tt
  answered P Q f statuses.Good None did so = absurd did
  answered P Q f statuses.Refused None did so = absurd did
  answered P Q f statuses.Differs None did so = absurd did

-- what is so of what was made is so of what is handed back
pub so_of_back : {M : Type 0} (P : M → Type 0) (got : Status) (back : Option M) (made : Result M ReadFault) → back ≡ handed_back got made → IfOk made P → IfSome back P
so_of_back {M} P got back made is so = subst (λ (o : Option M). IfSome o P) (sym is) (by_made got made so)
  where
    by_made : (s : Status) (r : Result M ReadFault) → IfOk r P → IfSome (handed_back s r) P
    by_made statuses.CannotWrite r so = tt
    by_made statuses.Good (Ok m) so = so
    by_made statuses.Refused (Ok m) so = so
    by_made statuses.Differs (Ok m) so = so
    by_made statuses.NoMemory (Ok m) so = so
    by_made statuses.CannotRead (Ok m) so = so
    by_made statuses.Good (Err e) so = tt
    by_made statuses.Refused (Err e) so = tt
    by_made statuses.Differs (Err e) so = tt
    by_made statuses.NoMemory (Err e) so = tt
    by_made statuses.CannotRead (Err e) so = tt
