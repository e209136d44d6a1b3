-- What the words of a session's handle ask, and what is answered there.
use Rattle.std.specs.Prelude.{◌≡◌, ℕ, List, None, Some, Option, MatchOption, if◌then◌else◌, ◌==◌}
use Rattle.oplog.specs.Operations.{Operation}
use Rattle.insn.specs.Refusal.{fault_number as decode_number}
use Rattle.verifier.specs.Numbers.{fault_number as verify_number}
use Rattle.verifier.specs.declared.refusal.Mode.{Mode}
use Rattle.verifier.specs.declared.refusal.Mode.TheVariants.{Update, Read}
use Rattle.replica.specs.Refusals.{early_refusal, store_fault_number}
use Rattle.replica.specs.declared.refusals.StoreRefused.{StoreRefused}
use Rattle.replica.specs.declared.refusals.StoreRefused.TheVariants.{NotDecoded, NotAccepted}
use Rattle.store_steps.specs.Views.{SessionView, op_of}
use Rattle.store.specs.Sessions.{StoreView, install_of, install_refused, new_program}
use Rattle.store.specs.Within.{within_refusal}
use Rattle.host_calls.specs.declared.attached.CallResult.{CallResult}
use Rattle.host_calls.specs.declared.attached.CallResult.TheVariants.{Busy, Again, Answered as Answers, Refused, NotOpen, IsOut, NoWord, Allowed}
use Rattle.host_calls.specs.declared.handles.Asked.{Asked}
use Rattle.host_calls.specs.declared.handles.Answered.{Answered}
use Rattle.host_calls.specs.declared.handles.SessionHandle.{SessionHandle}
use Rattle.host_calls.specs.Statuses.{again, busy, done, is_out, no_word, not_open, refusal, letter_D, letter_S, letter_V}
use Rattle.host_calls.specs.CallResults.{TellsPost, TellsReading, TellsUpdate}
use Rattle.host_calls.specs.Views.{AttachedView, IsSame}

-- ---- what is asked

-- an update or a read of an operation, which the store refuses for a reason or doesn't; an update that is posted and nothing more; whether the store
-- refuses an update; or nothing that there is
pub data Asks : Type 0 where
  Updates : Operation → Option StoreRefused → Asks
  Reads : Operation → Option StoreRefused → Asks
  Posts : Operation → Option StoreRefused → Asks
  Checks : Option StoreRefused → Asks
  Nothing : Asks

abbrev pub asks_update : StoreView → ℕ → List ℕ → Asks
asks_update store program argument = Updates (op_of program argument) (early_refusal store.catalogue Update program argument)

abbrev pub asks_read : StoreView → ℕ → List ℕ → Asks
asks_read store program argument = Reads (op_of program argument) (early_refusal store.catalogue Read program argument)

abbrev pub asks_install : StoreView → Mode → ℕ → List ℕ → Asks
asks_install store mode argument bytes = Updates (install_of mode argument bytes) (install_refused store mode argument bytes)

-- of a program that may name these maps alone
abbrev pub asks_within : StoreView → (maps : ℕ) → Mode → ℕ → List ℕ → Asks
asks_within store maps mode argument bytes = Updates (install_of mode argument bytes) (within_refusal store.catalogue.shapes store.catalogue.long maps (new_program mode argument bytes))

abbrev pub asks_post : StoreView → ℕ → List ℕ → Asks
asks_post store program argument = Posts (op_of program argument) (early_refusal store.catalogue Update program argument)

abbrev pub asks_check : StoreView → ℕ → List ℕ → Asks
asks_check store program argument = Checks (early_refusal store.catalogue Update program argument)

-- which the word `program` has
abbrev pub asks_confined : StoreView → Asked → List ℕ → Asks
asks_confined store a bytes = if a.mode == 0 then asks_within store a.program Update a.argument bytes else if a.mode == 1 then asks_within store a.program Read a.argument bytes else Nothing

-- by the words, with these bytes
abbrev pub asks : StoreView → Asked → List ℕ → Asks
asks store a bytes =
    if a.call == 0 then asks_update store a.program bytes
    else if a.call == 1 then asks_read store a.program bytes
    else if a.call == 2 then (if a.mode == 0 then asks_install store Update a.argument bytes else if a.mode == 1 then asks_install store Read a.argument bytes else Nothing)
    else if a.call == 3 then asks_confined store a bytes
    else if a.call == 4 then asks_post store a.program bytes
    else if a.call == 5 then asks_check store a.program bytes
    else Nothing

-- ---- what is told

-- of an update that the store refuses for a reason or doesn't
abbrev pub check_result : Option StoreRefused → CallResult
check_result None = Allowed
check_result (Some why) = Refused why

abbrev pub TellsCall : Asks → (old new : SessionView) → CallResult → Type 0
TellsCall (Updates op refused) old new told = TellsUpdate op refused old new told
TellsCall (Reads op refused) old new told = TellsReading op refused old new told
TellsCall (Posts op refused) old new told = TellsPost op refused old new told
TellsCall (Checks refused) old new told = (told ≡ check_result refused) × (new ≡ old)
TellsCall Nothing old new told = (told ≡ NoWord) × (new ≡ old)

pub record TellsAttached (a : Asked) (bytes : List ℕ) (old new : AttachedView) (told : CallResult) : Type 0 where
  pub same : IsSame old new
  pub tells : TellsCall (asks old.store a bytes) old.session new.session told

-- ---- what is written

abbrev pub status_of : CallResult → ℕ
status_of Busy = busy
status_of Again = again
status_of (Answers point reply) = done
status_of (Refused why) = refusal letter_S (store_fault_number why)
status_of NotOpen = not_open
status_of IsOut = is_out
status_of NoWord = no_word
status_of Allowed = done

-- why the decoder or the verifier refuses a program, and at which slot
abbrev pub inner_of : CallResult → ℕ × ℕ
inner_of (Refused (NotDecoded why)) = (refusal letter_D (decode_number why.why), why.slot)
inner_of (Refused (NotAccepted why)) = (refusal letter_V (verify_number why.why), why.slot)
inner_of told = (0, 0)

-- the point and the reply of an answer; where there is none, those that stood there
abbrev pub point_and_reply : Answered → CallResult → ℕ × ℕ
point_and_reply before (Answers point reply) = (point, reply)
point_and_reply before told = (before.point, before.reply)

abbrev pub written : Answered → CallResult → Answered
written before told = record {
  status = status_of told;
  inner = (inner_of told).0;
  slot = (inner_of told).1;
  point = (point_and_reply before told).0;
  reply = (point_and_reply before told).1;
  count = before.count;
  next = before.next;
}

-- ---- a call

-- on a closed handle it says so; else the session goes on as it tells, and the handle stays open
abbrev pub TellsHandle : (bytes : List ℕ) (before after : SessionHandle) → CallResult → Type 0
TellsHandle bytes before after told =
    MatchOption before.own ((told ≡ NotOpen) × (after.own ≡ None)) (λ b. MatchOption after.own ⊥ (λ b'. TellsAttached before.asked bytes b b' told))

pub record Goes (bytes : List ℕ) (before after : SessionHandle) : Type 0 where
  pub asked : after.asked ≡ before.asked
  pub told : CallResult
  pub written : after.answered ≡ written before.answered told
  pub tells : TellsHandle bytes before after told
