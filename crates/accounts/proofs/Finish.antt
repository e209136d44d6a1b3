-- The puts of the log and of replicas, the completed tail, and what a store opens with.
use Rattle.std.proofs.Common.{replicate, ◌≡◌, ℕ, zero, suc, ◌+◌, ◌*◌, ◌<◌, ◌≤◌, map, length, take, sym, refl, ap, ◌∙◌, subst, arith, length-append}
use mathlib.Core.Option.{some-injective}
use Rattle.std.proofs.lemmas.List.{length-replicate}
use Rattle.oplog.specs.History.{Meaning, state_after}
use Rattle.ownlock.specs.Seats.{At}
use Rattle.accounts.proofs.Lists.{at_none}
use Rattle.accounts.proofs.Moved.{some_none}
use Rattle.accounts.proofs.Parts.{state_front}
use Rattle.accounts.proofs.StoreRules.{batch_appends}
use Rattle.accounts.proofs.Tellings.{log_after}
use Rattle.oplog.specs.Sessions.{session}
use Rattle.accounts.specs.Accounts.{Extends, IsInBatch}
use Rattle.accounts.specs.Agreement.{StageAgrees}
use Rattle.accounts.specs.LogSteps.{LogPuts, Opens, ReplicaPuts, first_progress, fresh_note}
use Rattle.accounts.specs.Moves.{record_of}
use Rattle.combiner.specs.declared.slots.Slot.{Slot}
use Rattle.accounts.specs.declared.sessions.Claim.{Claim}
use Rattle.accounts.specs.declared.sessions.Progress.{Progress}
use Rattle.accounts.specs.declared.sessions.SessionNote.{SessionNote}
use Rattle.combiner.specs.Slots.{slot}
use Rattle.combiner.specs.declared.slots.Stage.TheVariants.{Empty}

module _ {A : Type 0} where
  pub at_replicate : (n i : ℕ) (a b : A) → At i b (replicate n a) → (b ≡ a) × (i < n)
  at_replicate zero i a b h = absurd (at_none i b h)
  at_replicate (suc n) zero a b h = (sym (some-injective a b h), omega arith)
  at_replicate (suc n) (suc i) a b h = let r = at_replicate n i a b h in let lt = r.1 in (r.0, omega (arith, lt))

  replicate_at : (n i : ℕ) (a : A) → i < n → At i a (replicate n a)
  replicate_at zero i a h = absurd (omega arith)
  replicate_at (suc n) zero a h = refl
  replicate_at (suc n) (suc i) a h = replicate_at n i a (omega arith)

module _ {C M : Type 0} (E : Meaning C M) where
  pub grown_long : (a b : Progress C) → Extends a b → length a.history ≤ length b.history
  grown_long a b g = let long = ap length g.history.1 ∙ length-append a.history g.history.0 in omega (arith, long)

  pub log_puts : LogPuts E
  log_puts known l n x y k grown same a s = ((batch_appends E known 0 n x y k s l x grown same).1, log_after E known l (map record_of (take k n.batch)) y grown same s.log)

  pub replica_puts : ReplicaPuts E
  replica_puts known l y low grown a = record {
    tail = let t = a.tail in let up = grown.completed in omega (arith, t, up);
    state = a.state ∙ (ap (λ z. state_after E z known.history y.tail) grown.catalogue
        ∙ (sym (state_front E l.catalogue known.history grown.history.0 y.tail low) ∙ ap (λ h. state_after E l.catalogue h y.tail) (sym grown.history.1)));
  }

  no_batch : (count c k : ℕ) (t : Claim) → IsInBatch (replicate count fresh_note) c k t → ⊥
  no_batch count c k t (m, at, h) = at_none k t (subst (λ (z : SessionNote). At k t z.batch) (at_replicate count c fresh_note m at).0 h)

  pub opens : Opens E
  opens config c count = (
    record {
      allowed = λ i r h. absurd (at_none i r h);
      accounted = λ i r h. absurd (at_none i r h);
      ordered = λ i j r s h g lt e. absurd (at_none i r h);
      answered = λ a n q u at h. absurd (at_none q u (subst (λ (z : SessionNote). At q u z.answered) (at_replicate count a fresh_note n at).0 h));
      pending = λ a n o at h. absurd (some_none o n.pending h (ap (λ (z : SessionNote). z.pending) (at_replicate count a fresh_note n at).0));
      requested = λ d k t h. absurd (no_batch count d k t h);
      placed = λ d k t h. absurd (no_batch count d k t h);
      near = λ d k t h. absurd (no_batch count d k t h);
      once = λ d e k j t u h g q. absurd (no_batch count d k t h);
      completed = omega arith;
      limit = omega arith;
    },
    record { done = omega arith; base = omega arith; base_state = refl; records = refl },
    record { tail = omega arith; state = refl },
    (λ node fits. record {
      slots = length-replicate config.slots (slot Empty 0);
      combiner = 0;
      each = λ s one at. let t = at_replicate config.slots s (slot Empty 0) one at in let lt = t.1 in (
        fresh_note,
        replicate_at count (session config node s) fresh_note (inside (node * config.slots) s lt fits),
        ap (λ (z : Slot). z.count) t.0,
        subst (λ (z : Slot). StageAgrees E (first_progress config c) (replicate count fresh_note) 0 (session config node s) fresh_note z.stage) (sym t.0) refl,
      );
    }),
  )
    where
      inside : (b s : ℕ) → s < config.slots → b + config.slots ≤ count → b + s < count
      inside b s lt fits = omega (arith, lt, fits)
