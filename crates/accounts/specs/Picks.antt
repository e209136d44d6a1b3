-- What the put of a value changes, read off the value and what the session knows: what a caller of `put` picks, under any rules R of a store
-- and whatever its sessions note.
use Rattle.std.specs.Prelude.{◌≡◌, ℕ, ◌-◌, ◌≤◌, List, [], ◌∷◌, length, drop}
use Rattle.ownlock.specs.declared.known.Known.{Known}
use Rattle.ownlock.specs.declared.known.ShelfStep.TheVariants.{Put}
use Rattle.ownlock.specs.Rules.{Rules}
use Rattle.ownlock.specs.Seats.{At, Continues, Run, without, left_with}
use Rattle.ownlock.specs.Knowledge.{Possible, MayPut}
use Rattle.oplog.specs.declared.configuration.Sizes.{Sizes}
use Rattle.oplog.specs.History.{Meaning, History}
use Rattle.accounts.specs.declared.sessions.Progress.{Progress}
use Rattle.accounts.specs.declared.sessions.SessionNote.{SessionNote}
use Rattle.accounts.specs.Values.{LogValue, ReplicaValue, StoreValue, TheLog, TheReplica, TheDesk}
use Rattle.accounts.specs.Accounts.{Accounts, Extends}
use Rattle.accounts.specs.Agreement.{log_place, ReplicaAgrees}
use Rattle.accounts.specs.Moves.{with_records}
use Rattle.accounts.specs.Putting.{the_rules, KeepsSizes}
use Rattle.accounts.specs.StoreRules.{Noting, MayAppend, IsLogAfter}

-- the records of the log that lie behind the known history
abbrev pub appended_by : {C M : Type 0} → Progress C → LogValue M → History
appended_by known y = drop (length known.history - y.base) y.records

module _ {C M V : Type 0} where
  -- the progress, once the session that knows this has put the value back
  abbrev pub put_progress : List (Known (Progress C) SessionNote V) → StoreValue M → Progress C → Progress C
  put_progress [] v l = l
  put_progress (k ∷ ks) (TheLog y) l = with_records l (appended_by k.progress y)
  put_progress (k ∷ ks) (TheReplica y) l = l
  put_progress (k ∷ ks) (TheDesk y) l = l

  -- and its note
  abbrev pub put_note : Noting C V → List (Known (Progress C) SessionNote V) → StoreValue M → SessionNote → SessionNote
  put_note noting [] v n = n
  put_note noting (k ∷ ks) (TheLog y) n = noting.appended (length k.progress.history) (appended_by k.progress y) n
  put_note noting (k ∷ ks) (TheReplica y) n = n
  put_note noting (k ∷ ks) (TheDesk y) n = noting.at_desk k y n

module _ {C M V : Type 0} (E : Meaning C M) (R : Rules (Progress C) SessionNote (StoreValue M)) (noting : Noting C V) (view : V → StoreValue M) (IsSized : Sizes → C → V → Type 0) where
  -- the session k, whose seat has these sessions, may put w back and change what the picks say
  abbrev pub MayPutPicked : List (Known (Progress C) SessionNote V) → Known (Progress C) SessionNote V → ℕ → V → Type 0
  MayPutPicked sessions k p w = (sessions ≡ k ∷ []) → MayPut (the_rules E R view IsSized) (put_progress sessions (view w)) (put_note noting sessions (view w)) k p w

  -- any value that is seen as it was, the log with records that the session may append, and a replica that was replayed
  abbrev pub SamePicked : Type 0
  SamePicked =
      (sessions : List (Known (Progress C) SessionNote V)) (k : Known (Progress C) SessionNote V) (p a : ℕ) (v w : V)
      → At a (p, v) k.held → view w ≡ view v → KeepsSizes IsSized v w → MayPutPicked sessions k p w

  abbrev pub LogPicked : Type 0
  LogPicked =
      (sessions : List (Known (Progress C) SessionNote V)) (k : Known (Progress C) SessionNote V) (a : ℕ) (v w : V) (x y : LogValue M) (more : History)
      → At a (log_place, v) k.held → view v ≡ TheLog x → view w ≡ TheLog y → KeepsSizes IsSized v w
      → MayAppend R k.progress k.session k.note more (noting.appended (length k.progress.history) more k.note) → IsLogAfter E k.progress more y → MayPutPicked sessions k log_place w

  abbrev pub ReplicaPicked : Type 0
  ReplicaPicked =
      (sessions : List (Known (Progress C) SessionNote V)) (k : Known (Progress C) SessionNote V) (p a : ℕ) (v w : V) (x y : ReplicaValue M)
      → At a (p, v) k.held → view v ≡ TheReplica x → view w ≡ TheReplica y → KeepsSizes IsSized v w → y.tail ≤ length k.progress.history → ReplicaAgrees E k.progress y → MayPutPicked sessions k p w

  -- what the session k is, once it has put w back to the place p
  pub record IsPut (p : ℕ) (w : V) (k now : Known (Progress C) SessionNote V) : Type 0 where
    pub session : now.session ≡ k.session
    pub held : now.held ≡ without p k.held
    pub steps : (now.steps ≡ Put p w ∷ k.steps) × Continues k.run now.run
    pub extends : Extends k.progress now.progress
    pub notes : List SessionNote
    pub accounts : Accounts E now.progress notes
    pub here : At now.session now.note notes

  -- whatever was put back, the account of all notes stays
  abbrev pub PutsAccount : Type 0
  PutsAccount =
      (f : Progress C → Progress C) (g : SessionNote → SessionNote) (k : Known (Progress C) SessionNote V) (p : ℕ) (w : V) (l : Progress C) (ns : List SessionNote) (run : Run (Progress C) SessionNote V)
      → MayPut (the_rules E R view IsSized) f g k p w → Possible (the_rules E R view IsSized) k l ns → Continues k.run run → IsPut p w k (left_with k p w (f l) (g k.note) run)

  -- what the picks come to
  abbrev pub SameIs : Type 0
  SameIs =
      (sessions : List (Known (Progress C) SessionNote V)) (k : Known (Progress C) SessionNote V) (p a : ℕ) (v w : V) (l : Progress C) (ns : List SessionNote) → sessions ≡ k ∷ [] → At a (p, v) k.held → view w ≡ view v → Possible (the_rules E R view IsSized) k l ns
      → (put_progress sessions (view w) l ≡ l) × (put_note noting sessions (view w) k.note ≡ k.note)

  abbrev pub LogIs : Type 0
  LogIs =
      (sessions : List (Known (Progress C) SessionNote V)) (k : Known (Progress C) SessionNote V) (w : V) (y : LogValue M) (more : History) → sessions ≡ k ∷ [] → view w ≡ TheLog y → IsLogAfter E k.progress more y
      → (put_progress sessions (view w) ≡ (λ l. with_records l more)) × (put_note noting sessions (view w) ≡ (λ n. noting.appended (length k.progress.history) more n))

  abbrev pub ReplicaIs : Type 0
  ReplicaIs =
      (sessions : List (Known (Progress C) SessionNote V)) (k : Known (Progress C) SessionNote V) (w : V) (y : ReplicaValue M) → sessions ≡ k ∷ [] → view w ≡ TheReplica y
      → (put_progress sessions (view w) ≡ (λ l. l)) × (put_note noting sessions (view w) ≡ (λ n. n))
