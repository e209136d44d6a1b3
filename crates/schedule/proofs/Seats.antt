-- What stands of one slot goes on standing as others call, and as the history grows.
use Rattle.std.proofs.Common.{◌≡◌, ◌≢◌, ℕ, zero, suc, ◌+◌, ◌*◌, ◌<◌, ◌≤◌, [], ◌∷◌, ◌++◌, length, Option, Some, None, refl, sym, ap, ◌∙◌, ⊎_elim, arith, subst}
use Rattle.std.specs.Prelude.{slice_get, ◌==◌, if◌then◌else◌}
use Rattle.std.proofs.lemmas.Option.{same_Some}
use Rattle.std.proofs.lemmas.Bool.{ne_eqb, eq-eqb}
use Rattle.verifier.specs.declared.refusal.Mode.{Mode}
use Rattle.verifier.specs.declared.refusal.Mode.TheVariants.{Update}
use Rattle.oplog.specs.declared.configuration.Sizes.{Sizes}
use Rattle.oplog.specs.declared.records.Record.{Record}
use Rattle.oplog.specs.Operations.{Operation}
use Rattle.oplog.specs.History.{History}
use Rattle.oplog.specs.Sessions.{session}
use Rattle.combiner.specs.declared.slots.Reply.TheVariants.{Placed, Ended}
use Rattle.combiner.specs.declared.slots.Stage.{Stage}
use Rattle.combiner.specs.declared.slots.Stage.TheVariants.{Empty, Posted, Claimed, Answered}
use Rattle.schedule.specs.declared.parts.BegunRead.{BegunRead}
use Rattle.node.specs.declared.parts.NodeBatch.{NodeBatch}
use Rattle.schedule.specs.Trace.{Event, Call, Trace, Positions, caller, IsOpen}
use Rattle.schedule.specs.declared.parts.Opening.{Opening}
use Rattle.schedule.specs.Explains.{count_of}
use Rattle.schedule.specs.Stands.{HasIndex, OpenAt, StageStands, batch_in, index_in}
use Rattle.schedule.proofs.Lists.{get_snoc}
use Rattle.schedule.proofs.Traces.{open_in, open_more, idle_more, stamp_less}
use Rattle.schedule.proofs.Explained.{reply_more}
use Rattle.maps.proofs.Export.{in_front}

-- ---- sessions

-- slots of a node are below the number of slots, so each session has one node and one slot
same_session : (slots n s k j : ℕ) → s < slots → j < slots → n * slots + s ≡ k * slots + j → (n ≡ k) × (s ≡ j)
same_session slots zero s zero j l g e = (refl, omega arith)
same_session slots zero s (suc k) j l g e = absurd (let d : suc k * slots ≡ slots + k * slots = omega arith in omega arith)
same_session slots (suc n) s zero j l g e = absurd (let d : suc n * slots ≡ slots + n * slots = omega arith in omega arith)
same_session slots (suc n) s (suc k) j l g e =
    let a : suc n * slots ≡ slots + n * slots = omega arith in
    let b : suc k * slots ≡ slots + k * slots = omega arith in
    let c : n * slots + s ≡ k * slots + j = omega arith in
    let r = same_session slots n s k j l g c in
    (ap suc r.0, r.1)

pub other_slot : (config : Sizes) (n k s j : ℕ) → s < config.slots → j < config.slots → j ≢ s → session config n s ≢ session config k j
other_slot config n k s j l g ne e = ne (sym (same_session config.slots n s k j l g e).1)

pub other_node : (config : Sizes) (n k s j : ℕ) → s < config.slots → j < config.slots → k ≢ n → session config n s ≢ session config k j
other_node config n k s j l g ne e = ne (sym (same_session config.slots n s k j l g e).0)

-- ---- another caller's event

pub open_event : {m : Opening} {h : History} {positions : Positions} {t : Trace} {x : ℕ} {count : ℕ} {mode : Mode} {op : Operation} {index : Option ℕ} {c : ℕ} (e : Event) → caller e ≢ x → OpenAt m h positions t x count mode op index c → OpenAt m h positions (t ++ e ∷ []) x count mode op index c
open_event e ne o = record { is_open = open_more e ne o.is_open; may = o.may; has = o.has; counts = o.counts }

pub stage_event : (m : Opening) (done : ℕ) (h : History) (positions : Positions) (t : Trace) (x : ℕ) (batch : NodeBatch) (count : ℕ) (st : Stage) (read : Option BegunRead) (e : Event) → caller e ≢ x
    → StageStands m done h positions t x batch count st read → StageStands m done h positions (t ++ e ∷ []) x batch count st read
stage_event m done h positions t x batch count Empty None e ne p = (idle_more e ne p.0, p.1)
stage_event m done h positions t x batch count (Posted op) None e ne p = (p.0, open_event e ne p.1)
stage_event m done h positions t x batch count Claimed None e ne p = (p.0, p.1, p.2, p.3, p.4, p.5, open_event e ne p.6)
stage_event m done h positions t x batch count (Answered (Placed i r)) None e ne p = (p.0, p.1, open_event e ne p.2, p.3, p.4)
stage_event m done h positions t x batch count (Answered Ended) None e ne p = (p.0, p.1, open_event e ne p.2, p.3)
stage_event m done h positions t x batch count Empty (Some read) e ne p = (p.0, open_event e ne p.1, p.2, λ s before. let l = open_in (p.1).is_open in p.3 s (stamp_less m.config.limit t e (omega arith) before))
stage_event m done h positions t x batch count (Posted op) (Some read) e ne p = p
stage_event m done h positions t x batch count Claimed (Some read) e ne p = p
stage_event m done h positions t x batch count (Answered r) (Some read) e ne p = p

-- ---- more is done

pub stage_done : (m : Opening) (done more : ℕ) (h : History) (positions : Positions) (t : Trace) (x : ℕ) (batch : NodeBatch) (count : ℕ) (st : Stage) (read : Option BegunRead) → done ≤ more
    → StageStands m done h positions t x batch count st read → StageStands m more h positions t x batch count st read
stage_done m done more h positions t x batch count Empty None l p = p
stage_done m done more h positions t x batch count (Posted op) None l p = p
stage_done m done more h positions t x batch count Claimed None l p = p
stage_done m done more h positions t x batch count (Answered (Placed i r)) None l p = (p.0, p.1, p.2, (let q = p.3 in omega arith), p.4)
stage_done m done more h positions t x batch count (Answered Ended) None l p = (p.0, p.1, p.2, (let q = p.3 in omega arith))
stage_done m done more h positions t x batch count Empty (Some read) l p = (p.0, p.1, (let q = p.2 in omega arith), p.3)
stage_done m done more h positions t x batch count (Posted op) (Some read) l p = p
stage_done m done more h positions t x batch count Claimed (Some read) l p = p
stage_done m done more h positions t x batch count (Answered r) (Some read) l p = p

-- ---- one more record of another session

pub count_other : (x : ℕ) (h : History) (e : Record) → e.author ≢ x → count_of x (h ++ e ∷ []) ≡ count_of x h
count_other x [] e ne = let b = ne_eqb e.author x ne in rw b refl
count_other x (f ∷ h) e ne = ap (λ k. (if f.author == x then 1 else 0) + k) (count_other x h e ne)

pub count_self : (h : History) (e : Record) → count_of e.author (h ++ e ∷ []) ≡ count_of e.author h + 1
count_self [] e = let b = eq-eqb e.author e.author refl in rw b refl
count_self (f ∷ h) e = ap (λ k. (if f.author == e.author then 1 else 0) + k) (count_self h e) ∙ omega arith

pub has_more : (positions : Positions) (c d : ℕ) (index : Option ℕ) → c ≢ d → HasIndex positions c index → HasIndex (positions ++ d ∷ []) c index
has_more positions c d None ne h = λ i g. ⊎_elim (λ old. h i old) (λ new. ne (sym new.1)) (get_snoc positions d i c g)
has_more positions c d (Some i) ne h = in_front positions (d ∷ []) i c h

other_call : (t : Trace) (x : ℕ) (mode : Mode) (op : Operation) (e : Record) (c d : ℕ) → IsOpen t x mode op c → slice_get t d ≡ Some (Call e.author Update e.op) → e.author ≢ x → c ≢ d
other_call t x mode op e c d o g ne same =
    let q = subst (λ k. slice_get t k ≡ Some (Call x mode op)) same o.call in
    ne (ap caller (same_Some (Call e.author Update e.op) (Call x mode op) (sym g ∙ q)))

pub open_entry : {m : Opening} {h : History} {positions : Positions} {t : Trace} {x : ℕ} {count : ℕ} {mode : Mode} {op : Operation} {index : Option ℕ} {c : ℕ} (e : Record) (d : ℕ) → slice_get t d ≡ Some (Call e.author Update e.op) → e.author ≢ x → OpenAt m h positions t x count mode op index c → OpenAt m (h ++ e ∷ []) (positions ++ d ∷ []) t x count mode op index c
open_entry {m} {h} {positions} {t} {x} {count} {mode} {op} {index} {c} e d g ne o = record {
  is_open = o.is_open;
  may = o.may;
  has = has_more positions c d index (other_call t x mode op e c d o.is_open g ne) o.has;
  counts = count_other x h e ne ∙ o.counts;
}

pub stage_entry : (m : Opening) (done : ℕ) (h : History) (positions : Positions) (t : Trace) (x : ℕ) (batch : NodeBatch) (count : ℕ) (st : Stage) (read : Option BegunRead) (e : Record) (d : ℕ)
    → slice_get t d ≡ Some (Call e.author Update e.op) → e.author ≢ x → done ≤ length h
    → StageStands m done h positions t x batch count st read → StageStands m done (h ++ e ∷ []) (positions ++ d ∷ []) t x batch count st read
stage_entry m done h positions t x batch count Empty None e d g ne l p = (p.0, count_other x h e ne ∙ p.1)
stage_entry m done h positions t x batch count (Posted op) None e d g ne l p = (p.0, open_entry e d g ne p.1)
stage_entry m done h positions t x batch count Claimed None e d g ne l p = (p.0, p.1, p.2, p.3, p.4, p.5, open_entry e d g ne p.6)
stage_entry m done h positions t x batch count (Answered (Placed i r)) None e d g ne l p = (p.0, p.1, open_entry e d g ne p.2, p.3, (let q = p.3 in reply_more m h (e ∷ []) i p.0 (omega arith) ∙ p.4))
stage_entry m done h positions t x batch count (Answered Ended) None e d g ne l p = (p.0, p.1, open_entry e d g ne p.2, p.3)
stage_entry m done h positions t x batch count Empty (Some read) e d g ne l p = (p.0, open_entry e d g ne p.1, p.2, p.3)
stage_entry m done h positions t x batch count (Posted op) (Some read) e d g ne l p = p
stage_entry m done h positions t x batch count Claimed (Some read) e d g ne l p = p
stage_entry m done h positions t x batch count (Answered r) (Some read) e d g ne l p = p

-- ---- another batch, with the same positions for the requests of this session

pub stage_batch : (m : Opening) (done : ℕ) (h : History) (positions : Positions) (t : Trace) (x : ℕ) (old new : NodeBatch) (count : ℕ) (st : Stage) (read : Option BegunRead)
    → ((k : ℕ) (r : Record) → slice_get (batch_in old).records k ≡ Some r → r.author ≡ x → (slice_get (batch_in new).records k ≡ Some r) × (index_in old k ≡ index_in new k))
    → StageStands m done h positions t x old count st read → StageStands m done h positions t x new count st read
stage_batch m done h positions t x old new count Empty None same p = p
stage_batch m done h positions t x old new count (Posted op) None same p = p
stage_batch m done h positions t x old new count Claimed None same p =
    let w = same p.1 p.2 p.3 p.4 in
    (p.0, p.1, p.2, w.0, p.4, p.5, subst (λ y. OpenAt m h positions t x count Update (p.2).op y p.0) w.1 p.6)
stage_batch m done h positions t x old new count (Answered r) None same p = p
stage_batch m done h positions t x old new count Empty (Some read) same p = p
stage_batch m done h positions t x old new count (Posted op) (Some read) same p = p
stage_batch m done h positions t x old new count Claimed (Some read) same p = p
stage_batch m done h positions t x old new count (Answered r) (Some read) same p = p
