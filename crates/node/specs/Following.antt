-- The steps of a node's replica on a log: when each may be taken, and what it makes of the two. Where a guard asks what is completed, it is
-- told how much, since the log itself may know less.
use Rattle.std.specs.Prelude.{◌≡◌, ℕ, ◌+◌, ◌<◌, ◌≤◌, ◌^◌, Bool, true, false, ◌&&◌, ◌||◌, not, [], ◌∷◌, ◌++◌, length, take, drop, min, max, nat_lt, nat_le, Option, Some, None}
use Rattle.loader.specs.CatalogueView.{CatalogueView, sizes_for}
use Rattle.loader.specs.StoreState.{StoreState, sizes_of}
use Rattle.oplog.specs.Logs.{Log, tail_of, left_of, room_in, records_from}
use Rattle.oplog.specs.History.{Effect, History, after, left_by}
use Rattle.replica.specs.StoreMeaning.{store_meaning, outcome_of, AreUpdates}
use Rattle.replica.specs.Views.{RepliesView, no_replies, with_outcome}
use Rattle.node.specs.declared.following.NodeReplica.{NodeReplica}

-- ---- what guards ask

-- there are no records
abbrev pub no_records : History → Bool
no_records [] = true
no_records (r ∷ rs) = false

-- how many of these records the history may still have
abbrev pub room_for : History → Log → ℕ
room_for rs g = min (length rs) (left_of g)

-- the log has all that the replica lacks
abbrev pub is_above : Log → NodeReplica → Bool
is_above g n = nat_le g.base n.replica.tail

-- ---- what is so of every log and replica of one store: nobody asks

-- the replica is no further than the log, and the hand has room for the log's records
pub record Fits (g : Log) (n : NodeReplica) : Type 0 where
  pub tail : n.replica.tail ≤ tail_of g
  pub window : n.hand.window ≡ g.window
  pub long : n.hand.long ≡ g.long

-- the hand has the next records, updates of the catalogue, whose sizes the replica has
pub record IsNext (c : CatalogueView) (n : NodeReplica) : Type 0 where
  pub begins : n.hand.begin ≡ n.replica.tail
  pub sizes : sizes_of n.replica.state ≡ sizes_for c
  pub updates : AreUpdates c n.hand.records
  pub short : n.replica.tail + length n.hand.records < 2 ^ 64

-- ---- append: the log has what the replica lacks, and room for as many of the records as the history may still have; it gets them, and
-- the records that the replica lacks are copied

abbrev pub may_append : History → Log → NodeReplica → Bool
may_append rs g n = is_above g n && nat_le (room_for rs g) (room_in g)

abbrev pub grown : History → Log → Log
grown rs g = record g { records = g.records ++ take (room_for rs g) rs }

abbrev pub copied : Log → NodeReplica → NodeReplica
copied g n = record n { hand = record n.hand { begin = n.replica.tail; records = records_from g n.replica.tail } }

-- what is kept of the outcomes of those that have an index: none yet
abbrev pub replies_for : History → Log → RepliesView
replies_for rs g = no_replies (tail_of g) (room_for rs g)

-- ---- replay: there is a record to apply, copied or in the log; the replica applies the copied ones, or where there are none those of the
-- log that it lacks

abbrev pub has_next : Log → NodeReplica → Bool
has_next g n = not (no_records n.hand.records) || (is_above g n && nat_lt n.replica.tail (tail_of g))

abbrev pub to_run : Log → ℕ → History → History
to_run g tail [] = records_from g tail
to_run g tail (r ∷ rs) = r ∷ rs

-- the replica with those records in its hand
abbrev pub with_next : Log → NodeReplica → NodeReplica
with_next g n = record n { hand = record n.hand { begin = n.replica.tail; records = to_run g n.replica.tail n.hand.records } }

-- the replica once it has applied the records in its hand
abbrev pub replayed : CatalogueView → NodeReplica → NodeReplica
replayed c n =
    let tail = n.replica.tail + length n.hand.records in
    record {
      replica = record { tail = tail; state = after store_meaning c n.replica.state n.hand.records };
      hand = record n.hand { begin = tail; records = [] };
    }

-- the node with these records behind the others in its hand
abbrev pub with_more : History → NodeReplica → NodeReplica
with_more rs n = record n { hand = record n.hand { records = n.hand.records ++ rs } }

-- the replica once it has applied the first of the records in its hand, so many
abbrev pub replayed_first : CatalogueView → ℕ → NodeReplica → NodeReplica
replayed_first c count n =
    let tail = n.replica.tail + count in
    record {
      replica = record { tail = tail; state = after store_meaning c n.replica.state (take count n.hand.records) };
      hand = record n.hand { begin = tail; records = drop count n.hand.records };
    }

-- an outcome at an index is kept, if there is one
abbrev pub with_effect : RepliesView → ℕ → Option (Effect StoreState) → RepliesView
with_effect kept index (Some e) = with_outcome kept index (outcome_of e)
with_effect kept index None = kept

-- the outcomes of these records, the first of which is run on that state and has that index
abbrev pub outcomes_after : CatalogueView → StoreState → ℕ → History → RepliesView → RepliesView
outcomes_after c s index [] kept = kept
outcomes_after c s index (r ∷ rs) kept =
    outcomes_after c (left_by (store_meaning.update c r.op s) s) (index + 1) rs (with_effect kept index (store_meaning.update c r.op s))

-- what is kept once the replica has applied the records in its hand
abbrev pub replies_after : CatalogueView → NodeReplica → RepliesView → RepliesView
replies_after c n kept = outcomes_after c n.replica.state n.replica.tail n.hand.records kept

-- ---- finish: the replica is past what is completed, which is then as far; the log is told

abbrev pub may_finish : ℕ → NodeReplica → Bool
may_finish done n = nat_lt done n.replica.tail

abbrev pub told : NodeReplica → Log → Log
told n g = record g { done = max g.done n.replica.tail }

-- ---- reclaim: the replica is past the base, and all that it has applied is completed; it becomes the base, and the records before are dropped

abbrev pub may_reclaim : ℕ → Log → NodeReplica → Bool
may_reclaim done g n = nat_lt g.base n.replica.tail && nat_le n.replica.tail done

abbrev pub reclaimed : NodeReplica → Log → Log
reclaimed n g = record g { base = n.replica.tail; base_state = n.replica.state; records = records_from g n.replica.tail }

-- ---- rebase: the replica is behind the base, and no copied record is left to apply; the base becomes the replica

abbrev pub may_rebase : Log → NodeReplica → Bool
may_rebase g n = nat_lt n.replica.tail g.base && no_records n.hand.records

abbrev pub rebased : Log → NodeReplica → NodeReplica
rebased g n = record { replica = record { tail = g.base; state = g.base_state }; hand = record n.hand { begin = g.base; records = [] } }

-- ---- exchange: a reclaim of which the node keeps what was the base. On the log as it was, this is a rebase, and a copy of all that is there

abbrev pub exchanged : Log → NodeReplica → NodeReplica
exchanged g n = copied g (rebased g n)

-- ---- answers: of a read, where the replica has come to what the read saw completed, and all that it has applied is completed; of a batch in
-- the log, where no copied record is left to apply, and all that the replica has applied is completed

abbrev pub may_answer : ℕ → ℕ → NodeReplica → Bool
may_answer seen done n = nat_le seen n.replica.tail && nat_le n.replica.tail done

abbrev pub may_reply : ℕ → NodeReplica → Bool
may_reply done n = no_records n.hand.records && nat_le n.replica.tail done
