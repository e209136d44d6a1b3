-- The words of a new handle: what the host asks is 0, and so is what it is answered, except the status.
use Rattle.std.specs.Prelude.{◌≡◌, ℕ, replicate}
use Rattle.host_calls.specs.declared.handles.Answered.{Answered}
use Rattle.host_calls.specs.declared.handles.Asked.{Asked}
use Rattle.host_calls.specs.declared.handles.LaneAnswered.{LaneAnswered}
use Rattle.host_calls.specs.declared.handles.SessionHandle.{SessionHandle}
use Rattle.host_calls.specs.declared.handles.StoreAsked.{StoreAsked}
use Rattle.host_calls.specs.declared.handles.TheConstants.{NAME_ROOM}

-- what is asked of a store
abbrev pub no_store_words : StoreAsked
no_store_words = record { node = 0; length = 0; name = replicate NAME_ROOM 0 }

-- what is asked of a session
abbrev pub no_words : Asked
no_words = record { call = 0; program = 0; mode = 0; argument = 0 }

-- what is answered of a session
abbrev pub only_session : ℕ → Answered
only_session status = record { status = status; inner = 0; slot = 0; point = 0; reply = 0; count = 0; next = 0 }

-- the handle of a session has these words, with this status
abbrev pub HasNewWords : SessionHandle → ℕ → Type 0
HasNewWords given status = (given.asked ≡ no_words) × (given.answered ≡ only_session status)

-- what is answered of a lane
abbrev pub only_lane : ℕ → LaneAnswered
only_lane status = record { status = status; slot = 0; count = 0 }
