-- The seat of a session that asks for an update: what it has to be, and what it becomes, from the post to the answer.
use Rattle.ownlock.specs.Seats.{IsSession}
use Rattle.oplog.specs.Operations.{Operation}
use Rattle.combiner.specs.Desks.{BatchView}
use Rattle.combiner.specs.declared.slots.Reply.{Reply}
use Rattle.accounts.specs.declared.sessions.Pending.{Pending}
use Rattle.accounts.specs.Moves.{IsAtRest}
use Rattle.store_steps.specs.declared.desks.Turn.{Turn}
use Rattle.store_steps.specs.declared.steps.Caller.{Caller}
use Rattle.store_steps.specs.declared.steps.Question.{Question}
use Rattle.store_steps.specs.declared.steps.Shared.{Shared}
use Rattle.store_steps.specs.AtDesk.{HasAsked}
use Rattle.store_steps.specs.Requests.{HasPosted, HasTurned, HasCompleted}
use Rattle.store_steps.specs.Standing.{SessionKnown, StoreSeat, IsFree}
use Rattle.store_steps.specs.Knowing.{IsOn, LearnsBy}
use Rattle.store_steps.specs.Updating.{CompletesBy, PostsBy, TurnsBy}
use Rattle.store_steps.specs.Views.{op_of}

-- the operation that the question asks for
abbrev pub asked_op : Question → Operation
asked_op asked = op_of asked.program asked.argument.now

-- ---- what the seat is

-- the seat is one session of this store, that of the caller's slot, which holds nothing and waits for no answer
abbrev pub AwaitsNothing : StoreSeat → Caller → Shared → Type 0
AwaitsNothing s caller shared = (k : SessionKnown) × IsSession s k × IsFree caller k × IsAtRest k.note × IsOn shared k

-- `AwaitsNothing`, but the session waits for the answer to a request, and combines for nobody
abbrev pub AwaitsAnswer : StoreSeat → Caller → Shared → Type 0
AwaitsAnswer s caller shared = (k : SessionKnown) × (o : Pending) × IsSession s k × IsFree caller k × HasAsked k o × IsOn shared k

-- ---- what its session has done

-- the session of the seat has posted the operation
abbrev pub SessionPosts : (old new : StoreSeat) → Operation → Type 0
SessionPosts old new op = LearnsBy old new (λ k after. HasPosted k after op) (λ k after. PostsBy k after op)

-- the session has had its turn, whichever request it waits for
abbrev pub SessionTurns : (old new : StoreSeat) → BatchView → Turn → Type 0
SessionTurns old new batch turn =
    (k : SessionKnown) (o : Pending) → IsSession old k → HasAsked k o → (after : SessionKnown) × IsSession new after × HasTurned k after o batch turn × TurnsBy k after batch turn

-- the session has its answer, whichever request it waits for
abbrev pub SessionCompletes : (old new : StoreSeat) → Reply → Type 0
SessionCompletes old new reply =
    (k : SessionKnown) (o : Pending) → IsSession old k → HasAsked k o → (after : SessionKnown) × IsSession new after × HasCompleted k after o reply × CompletesBy k after reply
