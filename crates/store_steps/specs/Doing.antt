-- What a session does on the shelf: the steps that it takes there, by the parts that it takes and puts back.
use Rattle.std.specs.Prelude.{◌≡◌, ℕ, List, [], ◌∷◌, map}
use Rattle.ownlock.specs.declared.known.Known.{Known}
use Rattle.ownlock.specs.declared.known.ShelfStep.{ShelfStep}
use Rattle.ownlock.specs.declared.known.ShelfStep.TheVariants.{Took, Put, Read, Raised}
use Rattle.ownlock.specs.Seats.{Continues, EndsSince, Opened}
use Rattle.oplog.specs.Logs.{Log as LogView}
use Rattle.combiner.specs.Desks.{DeskView}
use Rattle.node.specs.declared.following.NodeReplica.{NodeReplica}
use Rattle.store_steps.specs.declared.values.Value.{Value}
use Rattle.store_steps.specs.declared.values.Value.TheVariants.{Log, Replica, Desk}

-- what a value of the shelf is: the log, a node's replica with its hand, or a node's desk
pub data Part : Type 0 where
  ALog : LogView → Part
  AReplica : NodeReplica → Part
  ADesk : DeskView → Part

abbrev pub part_of : Value → Part
part_of (Log g) = ALog g.value
part_of (Replica n) = AReplica n.value
part_of (Desk d) = ADesk d.value

-- a step, by the part that it takes or puts back
abbrev pub of_part : ShelfStep Value → ShelfStep Part
of_part (Took p v) = Took p (part_of v)
of_part (Put p v) = Put p (part_of v)
of_part (Read n) = Read n
of_part (Raised n) = Raised n

-- the steps that were taken, of which the last stands first, and then these, in their order
abbrev pub and_then : List (ShelfStep Value) → List (ShelfStep Value) → List (ShelfStep Value)
and_then taken [] = taken
and_then taken (s ∷ ss) = and_then (s ∷ taken) ss

-- since it knew k the session has taken exactly these steps on the shelf, in this order, and the run that it knows has gone on
pub record Did {P N : Type 0} (k after : Known P N Value) (steps : List (ShelfStep Part)) : Type 0 where
  pub since : List (ShelfStep Value)
  pub all : after.steps ≡ and_then k.steps since
  pub are : map of_part since ≡ steps
  pub goes_on : Continues k.run after.run
  -- and what it knows has exactly its own steps, and ends with the last of them, if that was so before
  pub ends : (opened : Opened P N) → EndsSince opened k → EndsSince opened after

-- a part is taken from its place, and put back there as another
abbrev pub takes_and_puts : ℕ → Part → Part → List (ShelfStep Part)
takes_and_puts place x y = Took place x ∷ Put place y ∷ []

-- these steps change nothing: a replica is put back as it was taken; the completed tail may be read meanwhile
pub data ChangesNothing : List (ShelfStep Part) → Type 0 where
  Nothing : ChangesNothing []
  PutsBack : (place : ℕ) (n : NodeReplica) (steps : List (ShelfStep Part)) → ChangesNothing steps → ChangesNothing (Took place (AReplica n) ∷ Put place (AReplica n) ∷ steps)
  ReadsAndPutsBack : (place : ℕ) (n : NodeReplica) (tail : ℕ) (steps : List (ShelfStep Part)) → ChangesNothing steps
      → ChangesNothing (Took place (AReplica n) ∷ Read tail ∷ Put place (AReplica n) ∷ steps)
