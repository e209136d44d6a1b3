-- States that are made beside a store, and their texts.
use Rattle.std.specs.Prelude.{◌≡◌, ℕ, ◌≤◌, List, [], ◌++◌, drop, length, take, None, Some, Option, MatchOption}
use Rattle.std.specs.Option.{option_map}
use Rattle.std.specs.Arc.{arc_value}
use Rattle.loader.specs.CatalogueView.{sizes_for}
use Rattle.loader.specs.StoreState.{StoreState, opened_state}
use Rattle.dumps.specs.Dumping.{StateText, whole_text}
use Rattle.dumps.specs.declared.lines.TheConstants.{DUMP_LINE_BYTES}
use Rattle.store.specs.Sessions.{StoreView}
use Rattle.host_calls.specs.declared.handles.StateHandle.{StateHandle}
use Rattle.host_calls.specs.declared.handles.StoreHandle.{StoreHandle}
use Rattle.host_calls.specs.declared.handles.TextAnswered.{TextAnswered}
use Rattle.host_calls.specs.declared.handles.TextHandle.{TextHandle}
use Rattle.host_calls.specs.Leaving.{only_state}
use Rattle.host_calls.specs.Statuses.{done, no_memory, no_text_room, not_open}
use Rattle.host_calls.specs.Stores.{IsStatusAlone}

-- ---- a new state

-- a state of the store's sizes: maps as they are opened, and no program is installed
abbrev pub new_state_of : StoreView → StoreState
new_state_of store = opened_state (sizes_for store.catalogue)

-- of an open store such a state, or none for want of memory; the store stays what it is
pub record Makes (before after : StoreHandle) (given : StateHandle) : Type 0 where
  pub own : after.own ≡ before.own
  pub asked : after.asked ≡ before.asked
  pub answered : IsStatusAlone before.answered after.answered
  pub words : given.answered ≡ only_state after.answered.status
  pub makes : MatchOption before.own ((given.own ≡ None) × (after.answered.status ≡ not_open))
      (λ b. MatchOption given.own (after.answered.status ≡ no_memory) (λ s. (s ≡ new_state_of (arc_value b.value.store)) × (after.answered.status ≡ done)))

-- ---- the end of a state

-- the handle has no state any more, and its words stay
pub record GivesUp (before after : StateHandle) : Type 0 where
  pub own : after.own ≡ None
  pub answered : after.answered ≡ before.answered

-- ---- the text of a state: its handle has the state until the text ends

abbrev pub text_words : (status length : ℕ) → TextAnswered
text_words status length = record { status = status; length = length }

-- the state of which a handle has the text
abbrev pub state_in : Option StateText → Option StoreState
state_in text = option_map (λ t. t.state) text

-- what is left of that text; where there is none, no bytes
abbrev pub left_in : Option StateText → List ℕ
left_in None = []
left_in (Some t) = t.left

-- a state goes to a text's handle, and all of its text is left. Where there is no memory for that, it stays; or the handle has no state
pub record Dumps (before after : StateHandle) (given : TextHandle) : Type 0 where
  pub answered : after.answered ≡ before.answered
  pub dumps : MatchOption before.own ((given.own ≡ None) × (after.own ≡ None) × (given.answered ≡ text_words not_open 0))
      (λ s. MatchOption given.own ((after.own ≡ Some s) × (given.answered ≡ text_words no_text_room 0))
      (λ t. (t ≡ whole_text s) × (after.own ≡ None) × (given.answered ≡ text_words done 0)))

-- The first bytes of the room are the next ones of what was left, and the rest of it is left now. There are none only at
-- the end, or where a line has no room. The other bytes of the room stay, and so does the state.
pub record GivesPart (before after : TextHandle) (held room : List ℕ) : Type 0 where
  pub state : state_in after.own ≡ state_in before.own
  pub status : after.answered.status ≡ before.answered.status
  pub bound : after.answered.length ≤ length room
  pub part : left_in before.own ≡ take after.answered.length room ++ left_in after.own
  pub others : drop after.answered.length room ≡ drop after.answered.length held
  pub end : after.answered.length ≡ 0 → DUMP_LINE_BYTES ≤ length room → left_in before.own ≡ []

-- the text ends, and its state goes back to a handle, which else stays as it is
pub record Returns (before after : TextHandle) (held left : StateHandle) : Type 0 where
  pub closed : after.own ≡ None
  pub answered : left.answered ≡ held.answered
  pub returns : MatchOption before.own (left.own ≡ held.own) (λ t. left.own ≡ Some t.state)
