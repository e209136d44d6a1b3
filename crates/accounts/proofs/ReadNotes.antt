-- What a session notes of a read goes with what it does there.
use Rattle.std.proofs.Common.{◌≡◌, ℕ, ◌≤◌, ◌<◌, ◌⊎◌, Bool, true, false, if◌then◌else◌, length, set, refl, sym, ap, subst, inl, inr, arith, Option, Some, None}
use Rattle.std.specs.Prelude.{nat_le}
use Rattle.ownlock.specs.declared.known.Known.{Known}
use Rattle.oplog.specs.declared.configuration.Sizes.{Sizes}
use Rattle.oplog.specs.Operations.{Operation}
use Rattle.oplog.specs.History.{Meaning}
use Rattle.accounts.specs.declared.sessions.Progress.{Progress}
use Rattle.accounts.specs.declared.sessions.SessionNote.{SessionNote}
use Rattle.accounts.specs.Values.{StoreValue}
use Rattle.accounts.specs.Agreement.{AgreesWith}
use Rattle.accounts.specs.Moves.{IsAtRest, LogMove, MayBegin, Moves, heard_with}
use Rattle.accounts.specs.ReadNotes.{AskedMayPut, HeardMayPut, MayAskThere, asked_at, asked_with}
use Rattle.accounts.proofs.Putting.{replica_may_put}
use Rattle.accounts.proofs.StoreRules.{desk_store}
use Rattle.accounts.proofs.Tellings.{reads_tell}

module _ {C M : Type 0} (E : Meaning C M) where
  -- the read may be asked where so much of the history is seen
  begins : (l : Progress C) (n : SessionNote) (asked : Option Operation) (seen : ℕ) → l.completed ≤ seen → seen ≤ length l.history
      → ((op : Operation) → asked ≡ Some op → IsAtRest n × (E.is_read l.catalogue op ≡ true)) → MayBegin E l n (asked_with asked seen n)
  begins l n None seen reached within may = inl refl
  begins l n (Some op) seen reached within may =
      let t = may op refl in
      inr (record { op = op; seen = seen; rests = t.0; may = t.1; reached = reached; within = within; note = refl })

  begins_if : (l : Progress C) (n : SessionNote) (asked : Option Operation) (reached : Bool) → l.completed ≤ length l.history
      → ((op : Operation) → asked ≡ Some op → IsAtRest n × (E.is_read l.catalogue op ≡ true))
      → MayBegin E l n (if reached then asked_with asked l.completed n else n)
  begins_if l n asked true within may = begins l n asked l.completed (omega arith) within may
  begins_if l n asked false within may = inl refl

module _ {C M V : Type 0} (E : Meaning C M) (view : V → StoreValue M) (IsSized : Sizes → C → V → Type 0) where
  pub may_ask_there : MayAskThere E view IsSized
  may_ask_there asked tail k may l ns can =
      begins_if E l k.note asked (nat_le l.completed tail) can.2.completed
      (λ op is. let t = may op is in (t.0, subst (λ c. E.is_read c op ≡ true) can.0.0.catalogue t.1))

  pub asked_may_put : AskedMayPut E view IsSized
  asked_may_put asked k a v x may at is = (
    v,
    a,
    at,
    λ l ns can.
        let n : SessionNote = asked_with asked (length k.progress.history) k.note in
        let same : k.progress.history ≡ l.history = can.0.1 a (0, v) at refl in
        let long = ap length same in let low = can.2.completed in
        let agrees = can.3 a (0, v) at in
        let asks : MayBegin E l k.note n = begins E l k.note asked (length k.progress.history) (omega (arith, long, low)) (omega (arith, long))
        (λ op asked_is. let t = may op asked_is in (t.0, subst (λ c. E.is_read c op ≡ true) can.0.0.catalogue t.1)) in
        let move : LogMove E l k.note l n = record { config = refl; catalogue = refl; completed = refl; appends = inl (refl, asks) } in (
          subst (λ z. Moves E 0 k.session z l k.note l n) (sym is) (refl, move),
          (
            subst (λ z. AgreesWith E 0 l (set ns k.session n) z) (sym is) (subst (λ z. AgreesWith E 0 l ns z) is agrees.0),
            agrees.1,
          ),
        ),
  )

  pub heard_may_put : HeardMayPut E view IsSized
  heard_may_put k p v w y read reply h = (
    v,
    h.index,
    h.held,
    λ l ns may.
        let kept = (replica_may_put (desk_store E) view IsSized k p h.index v w h.x y h.held h.was h.becomes h.sizes h.within h.agrees).3 l ns may in
        let low = h.agrees.tail in let up = may.0.0.completed in
        let n : SessionNote = heard_with k.note y.tail reply in
        let tells = reads_tell E k.progress l read.seen reply read.op y may.0.0 h.within h.agrees.state h.replies h.seen (omega (arith, low, up)) in (
          subst (λ z. Moves E p k.session z l k.note l n) (sym h.was) (refl, inr (read, y.tail, reply, h.begun, tells, refl)),
          (
            subst (λ z. AgreesWith E p l (set ns k.session n) z) (sym h.becomes) (subst (λ z. AgreesWith E p l (set ns k.session k.note) z) h.becomes kept.1.0),
            kept.1.1,
          ),
        ),
  )
