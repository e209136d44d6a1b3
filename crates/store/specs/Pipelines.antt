-- Several sessions of one node in one hand: which may be, and what their updates tell.
use Rattle.std.specs.Prelude.{◌≡◌, ℕ, zero, suc, ◌<◌, ◌≤◌, List, [], ◌∷◌, ◌++◌, length, map, take, drop, None, Result, Ok}
use Rattle.ownlock.specs.Seats.{At}
use Rattle.verifier.specs.declared.refusal.Mode.TheVariants.{Update}
use Rattle.loader.specs.Installed.{InstalledView}
use Rattle.oplog.specs.declared.configuration.Sizes.{Sizes}
use Rattle.oplog.specs.Operations.{Operation}
use Rattle.oplog.specs.Sessions.{session}
use Rattle.combiner.specs.declared.slots.Reply.{Reply}
use Rattle.replica.specs.declared.refusals.StoreRefused.{StoreRefused}
use Rattle.store_steps.specs.declared.pipelines.Member.{Member}
use Rattle.store_steps.specs.declared.steps.Question.{Question}
use Rattle.store_steps.specs.Asking.{asked_op}
use Rattle.store_steps.specs.EachMember.{AscendEach, AsksEach, InOrder}
use Rattle.store_steps.specs.Holds.{UpdatesInTwoHolds, session_at}
use Rattle.store_steps.specs.Pipelines.{HasLooked, SameSpots}
use Rattle.store_steps.specs.Questions.{first_refused_in}
use Rattle.store_steps.specs.Standing.{SessionKnown}
use Rattle.store_steps.specs.Updating.{UpdatesBy}
use Rattle.store_steps.specs.Views.{IsIdle, SessionView, nobody, session_view}
use Rattle.store.specs.declared.answers.Answer.{Answer}
use Rattle.store.specs.Sessions.{HasRoom, SessionGoesOn, StoreView, TellsUpdate, known_of, said}

-- ---- which sessions make a pipeline

-- the session of some slot of this node
abbrev pub IsOnNode : Sizes → ℕ → SessionView → Type 0
IsOnNode config node s = (slot : ℕ) × (slot < config.slots) × (s.session ≡ session config node slot)

-- the sessions are of slots of one node, which ascend
pub record AreAscending (config : Sizes) (sessions : List SessionView) : Type 0 where
  pub node : ℕ
  pub some : 0 < length sessions
  pub slots : (j : ℕ) (s : SessionView) → At j s sessions → IsOnNode config node s
  pub ascend : (i j : ℕ) (s t : SessionView) → i < j → At i s sessions → At j t sessions → s.session < t.session

-- how the sessions of a pipeline are seen
abbrev pub views_of : List Member → List SessionView
views_of members = map (λ m. session_view m.seat) members

-- between its calls each session of a pipeline is idle, and has its room for a program; all are of one node, by ascending slots
pub record AreJoined (members : List Member) (rooms : List InstalledView) : Type 0 where
  pub idle : (j : ℕ) (m : Member) → At j m members → IsIdle m.seat m.caller
  pub count : length rooms ≡ length members
  pub rooms_are : (j : ℕ) (m : Member) (r : InstalledView) → At j m members → At j r rooms → HasRoom r m.seat
  pub few : length members ≤ 16
  pub near : (i j : ℕ) (m n : Member) → At i m members → At j n members → m.caller.node ≡ n.caller.node
  pub ascend : AscendEach members

-- ---- what their updates tell

-- the first members have each posted their call, and have its reply; the others are as they were
pub record AsksFirst (old new : List Member) (calls : List Question) (replies : List Reply) : Type 0 where
  pub asked : List Member
  pub long : length asked ≡ length calls
  pub is : new ≡ asked ++ drop (length calls) old
  pub same : SameSpots (take (length calls) old) asked
  pub asks : AsksEach (take (length calls) old) asked calls replies
  pub in_order : InOrder replies
  pub held : UpdatesInTwoHolds (session_at (take (length calls) old)) (session_at asked) calls replies

-- the store refuses none of these calls as an update
abbrev pub MayUpdateEach : StoreView → List Question → Type 0
MayUpdateEach store calls = first_refused_in Update store.catalogue 0 calls ≡ None

-- there are as many sessions as before, and each goes on
abbrev pub EachGoesOn : StoreView → (old new : List SessionView) → Type 0
EachGoesOn store old new = (length new ≡ length old) × ((j : ℕ) (s t : SessionView) → At j s old → At j t new → SessionGoesOn store s t)

-- the session of each call's number has performed the call as an update, and has the answer of that number
abbrev pub TellsEach : (old new : List SessionView) → List Question → List (Result Answer StoreRefused) → Type 0
TellsEach old new calls answers =
    (j : ℕ) (s t : SessionView) (q : Question) → At j s old → At j t new → At j q calls → (a : Result Answer StoreRefused) × At j a answers × TellsUpdate s t (asked_op q) a

-- of the answers with an index, later ones have higher indexes
abbrev pub AreInOrder : List (Result Answer StoreRefused) → Type 0
AreInOrder answers = (i j : ℕ) (a b : Answer) → i < j → At i (Ok a) answers → At j (Ok b) answers → a.index < b.index

-- sessions from this number on are as they were
abbrev pub OthersStay : ℕ → (old new : List SessionView) → Type 0
OthersStay count old new = (j : ℕ) (s : SessionView) → count ≤ j → At j s old → At j s new

-- the session looked at its desk for nothing, so often, and then made this update
abbrev pub LooksAndUpdates : (old new : SessionView) → Operation → Result Answer StoreRefused → Type 0
LooksAndUpdates old new op result = (looked : SessionKnown) × HasLooked (known_of old) looked × ((reply : Reply) × (result ≡ said reply) × UpdatesBy looked (known_of new) op reply)

-- the session looked at its desk for nothing, so often, posted this update, and did nothing more until it collected the answer
abbrev pub LooksPostsCollects : (old new : SessionView) → Operation → Result Answer StoreRefused → Type 0
LooksPostsCollects old new op result =
    (looked : SessionKnown) × HasLooked (known_of old) looked × ((reply : Reply) × (result ≡ said reply) × ((by : UpdatesBy looked (known_of new) op reply) × (by.completes.waited ≡ by.asked)))

-- the session of each call's number made its update so, and only the first one did more than post and collect
abbrev pub EachGoes : (old new : List SessionView) → List Question → List (Result Answer StoreRefused) → Type 0
EachGoes old new calls answers =
    (j : ℕ) (s t : SessionView) (q : Question) (a : Result Answer StoreRefused) → At j s old → At j t new → At j q calls → At j a answers
    → LooksAndUpdates s t (asked_op q) a × (0 < j → LooksPostsCollects s t (asked_op q) a)

-- what the session of this number knows
abbrev pub known_at : List SessionView → ℕ → SessionKnown
known_at [] j = nobody
known_at (s ∷ ss) zero = known_of s
known_at (s ∷ ss) (suc j) = known_at ss j

-- The sessions of the calls' numbers made their updates by four takes in all: they had their desk in two holds, one right after the other, and the first
-- session took its replica and the log between.
abbrev pub HeldTwice : (old new : List SessionView) → List Question → List (Result Answer StoreRefused) → Type 0
HeldTwice old new calls answers = (replies : List Reply) × (answers ≡ map said replies) × UpdatesInTwoHolds (known_at old) (known_at new) calls replies
