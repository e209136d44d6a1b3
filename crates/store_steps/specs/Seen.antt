-- What the answer to a look says of a node's state, as data, and whether a state is so.
use Rattle.std.specs.Prelude.{◌≡◌, ℕ, List}
use Rattle.loader.specs.CatalogueView.{CatalogueView}
use Rattle.loader.specs.StoreState.{StoreState}
use Rattle.oplog.specs.Operations.{Operation}
use Rattle.store_steps.specs.declared.describing.MapInfo.{MapInfo}
use Rattle.store_steps.specs.declared.describing.ProgramInfo.{ProgramInfo}
use Rattle.store_steps.specs.declared.getting.Lookup.{Lookup}
use Rattle.store_steps.specs.declared.scanning.Scan.{Scan}
use Rattle.store_steps.specs.declared.steps.Question.{Question}
use Rattle.store_steps.specs.Describing.{DescribesMap, DescribesProgram}
use Rattle.store_steps.specs.Getting.{IsUnder}
use Rattle.store_steps.specs.Questions.{EachReplies}
use Rattle.store_steps.specs.Scanning.{GivesIn}
use Rattle.store_steps.specs.Views.{RepliesIn}

-- the reply to a read, or to each of several; a page of a map; what is under a key; the whole state; what a map is, and what a program is
pub data Sight : Type 0 where
  AReply : Operation → (reply : ℕ) → Sight
  Replies : List Question → (replies : List ℕ) → Sight
  APage : (map from key_room value_room : ℕ) → (keys values : List ℕ) → Scan → Sight
  AKey : (map : ℕ) → (key old new : List ℕ) → Lookup → Sight
  AState : StoreState → Sight
  AMap : (map : ℕ) → MapInfo → Sight
  AProgram : (k : ℕ) → ProgramInfo → Sight

-- this state is as the answer says
abbrev pub holds : Sight → CatalogueView → StoreState → Type 0
holds (AReply op reply) c state = RepliesIn c op state reply
holds (Replies questions replies) c state = EachReplies c state questions replies
holds (APage map from key_room value_room keys values s) c state = GivesIn c state map from key_room value_room keys values s
holds (AKey map key old new found) c state = IsUnder state.maps map key old new found
holds (AState taken) c state = taken ≡ state
holds (AMap map info) c state = DescribesMap c state map info
holds (AProgram k info) c state = DescribesProgram c state k info
