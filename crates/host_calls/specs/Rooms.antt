-- What lies at a handle. Its memory is as good as room.
use Rattle.std.specs.Borrow.{full_share}
use Rattle.std.specs.Ptr.{lies_at, room_at}
use base.Fml.{Fml, fand}
use denote.RattleType.{RattleType}
use denote.RawPtr.{Ptr}
use Rattle.host_calls.specs.declared.handles.StoreHandle.{StoreHandle}
use Rattle.host_calls.specs.declared.handles.SessionHandle.{SessionHandle}
use Rattle.host_calls.specs.declared.handles.StateHandle.{StateHandle}
use Rattle.host_calls.specs.declared.handles.TextHandle.{TextHandle}
use Rattle.host_calls.specs.declared.handles.LaneHandle.{LaneHandle}
use Rattle.host_calls.specs.declared.describing.MapWords.{MapWords}
use Rattle.host_calls.specs.declared.describing.ProgramWords.{ProgramWords}
use Rattle.host_calls.specs.declared.describing.StoreWords.{StoreWords}
use Rattle.host_calls.specs.declared.measuring.StatWords.{StatWords}
use Rattle.host_calls.specs.contracts.describing.MapWords.{the_row as the_map_words}
use Rattle.host_calls.specs.contracts.describing.ProgramWords.{the_row as the_program_words}
use Rattle.host_calls.specs.contracts.describing.StoreWords.{the_row as the_store_words}
use Rattle.host_calls.specs.contracts.measuring.StatWords.{the_row as the_stat_words}
use Rattle.host_calls.specs.contracts.handles.StateHandle.{the_row as the_state}
use Rattle.host_calls.specs.contracts.handles.StoreHandle.{the_row as the_store}
use Rattle.host_calls.specs.contracts.handles.SessionHandle.{the_row as the_session}
use Rattle.host_calls.specs.contracts.handles.TextHandle.{the_row as the_text}
use Rattle.host_calls.specs.contracts.handles.LaneHandle.{the_row as the_lane}

-- Something lies there, or its memory is room: who has this may take either, but not both. Who writes there as into room gives up what lay there; a
-- closed handle has nothing to give up.
abbrev pub lies_there : (R : RattleType) → Ptr → R.Denot → Fml
lies_there R p x = fand (lies_at R full_share p x) (room_at R p)

abbrev pub holds_store : Ptr → StoreHandle → Fml
holds_store p h = lies_there the_store p h

abbrev pub holds_session : Ptr → SessionHandle → Fml
holds_session p h = lies_there the_session p h

abbrev pub holds_lane : Ptr → LaneHandle → Fml
holds_lane p h = lies_there the_lane p h

abbrev pub holds_state : Ptr → StateHandle → Fml
holds_state p h = lies_there the_state p h

abbrev pub holds_text : Ptr → TextHandle → Fml
holds_text p h = lies_there the_text p h

abbrev pub holds_map : Ptr → MapWords → Fml
holds_map p h = lies_there the_map_words p h

abbrev pub holds_program : Ptr → ProgramWords → Fml
holds_program p h = lies_there the_program_words p h

abbrev pub holds_facts : Ptr → StoreWords → Fml
holds_facts p h = lies_there the_store_words p h

abbrev pub holds_stats : Ptr → StatWords → Fml
holds_stats p h = lies_there the_stat_words p h
