-- The values of a store's shelf, the rules of its sessions there, and what a session knows.
pub mod Shelving
pub mod Doing
pub mod Standing
pub mod Knowing
pub mod Views
-- What scans and several reads are refused, and what they tell.
pub mod Scanning
pub mod Questions
-- What each look says of a node's state, and the steps of a look.
pub mod Sights
pub mod Seen
-- What stands under one key.
pub mod Getting
-- What a store says of its maps and programs.
pub mod Describing
-- The steps at a desk, which the public calls on a lent desk cite.
pub mod AtDesk
-- An update from its post to its answer, by calls that wait, and by deeds that don't.
pub mod Requests
pub mod Asking
pub mod Stages
-- What the inner functions speak of.
pub mod Lending
pub mod Rooms
pub mod Combining
pub mod Trying
-- Whole calls as lists of steps.
pub mod Whole
pub mod Due
pub mod Updating
pub mod Visits
-- The line of its node that a session has won.
pub mod Winning
-- A replica that is held and has come up.
pub mod Ready
-- A post and a turn, or answers and a turn, in one hold of a desk.
pub mod AtOnce
pub mod Alone
-- An update by four takes whose session waits for nobody.
pub mod Polling
-- Updates of several sessions of one node in two holds of its desk.
pub mod Pipelines
-- That they have the desk one right after the other.
pub mod Holds
-- What the members of a pipeline do in each hold, and in the whole call.
pub mod EachMember
-- A list of updates whose sessions wait for nobody.
pub mod PollingEach
-- What a store has done at one moment, and how far a session's node has come.
pub mod Measuring
