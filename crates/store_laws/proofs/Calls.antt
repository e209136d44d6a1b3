-- What stands of a session's call goes on standing as others call and as the history grows.
use Rattle.std.proofs.Common.{◌≡◌, ◌≢◌, ℕ, ◌+◌, [], ◌∷◌, ◌++◌, length, Option, Some, None, ap, ◌∙◌, ⊎_elim, arith}
use Rattle.std.specs.Prelude.{slice_get}
use Rattle.verifier.specs.declared.refusal.Mode.TheVariants.{Update}
use Rattle.ownlock.specs.Seats.{At}
use Rattle.ownlock.proofs.Export.{at_only}
use Rattle.oplog.specs.declared.records.Record.{Record}
use Rattle.oplog.specs.Operations.{Operation}
use Rattle.oplog.specs.History.{History}
use Rattle.accounts.specs.declared.sessions.Pending.{Pending}
use Rattle.accounts.proofs.Export.{at_front, at_joined}
use Rattle.accounts.specs.declared.sessions.BegunRead.{BegunRead}
use Rattle.schedule.specs.declared.parts.Opening.{Opening}
use Rattle.schedule.specs.Trace.{Event, Call, Trace, Positions, caller}
use Rattle.schedule.proofs.Export.{open_event, open_entry, count_other, idle_more, open_in, stamp_less}
use Rattle.store_laws.proofs.Stands.{CallStands, IndexIs}

-- another session's event
pub call_event : (m : Opening) (h : History) (positions : Positions) (t : Trace) (x count : ℕ) (pending : Option Pending) (read : Option BegunRead) (e : Event) → caller e ≢ x
    → CallStands m h positions t x count pending read → CallStands m h positions (t ++ e ∷ []) x count pending read
call_event m h positions t x count None None e ne p = (idle_more e ne p.0, p.1)
call_event m h positions t x count None (Some read) e ne p = (p.0, open_event e ne p.1, λ s before. let l = open_in (p.1).is_open in p.2 s (stamp_less m.config.limit t e (omega arith) before))
call_event m h positions t x count (Some o) None e ne p = (p.0, p.1, open_event e ne p.2, p.3)
call_event m h positions t x count (Some o) (Some read) e ne p = p

-- another session's record
index_entry : (h : History) (x count : ℕ) (op : Operation) (index : Option ℕ) (e : Record) → e.author ≢ x → IndexIs h x count op index → IndexIs (h ++ e ∷ []) x count op index
index_entry h x count op None e ne p = λ i r at by is. ⊎_elim
    (λ old. p i r old by is)
    (λ (t : (j : ℕ) × (i ≡ length h + j) × At j r (e ∷ [])). ne (ap (λ (z : Record). z.author) (at_only e r t.0 t.2).1 ∙ by))
    (at_joined h (e ∷ []) i r at)
index_entry h x count op (Some i) e ne p = at_front h (e ∷ []) i (record { author = x; seq = count; op = op }) p

pub call_entry : (m : Opening) (h : History) (positions : Positions) (t : Trace) (x count : ℕ) (pending : Option Pending) (read : Option BegunRead) (e : Record) (d : ℕ)
    → slice_get t d ≡ Some (Call e.author Update e.op) → e.author ≢ x
    → CallStands m h positions t x count pending read → CallStands m (h ++ e ∷ []) (positions ++ d ∷ []) t x count pending read
call_entry m h positions t x count None None e d g ne p = (p.0, count_other x h e ne ∙ p.1)
call_entry m h positions t x count None (Some read) e d g ne p = (p.0, open_entry e d g ne p.1, p.2)
call_entry m h positions t x count (Some o) None e d g ne p = (p.0, p.1, open_entry e d g ne p.2, index_entry h x count o.op p.1 e ne p.3)
call_entry m h positions t x count (Some o) (Some read) e d g ne p = p
