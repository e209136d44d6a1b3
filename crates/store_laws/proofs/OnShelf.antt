-- A combine takes the log once.
use Rattle.std.proofs.Common.{◌≡◌, ℕ, ◌+◌, List, [], ◌∷◌, ◌++◌, refl, arith}
use Rattle.ownlock.specs.declared.known.ShelfStep.{ShelfStep}
use Rattle.ownlock.specs.declared.known.ShelfStep.TheVariants.{Took, Put, Read, Raised}
use Rattle.oplog.specs.Logs.{Log as LogView}
use Rattle.combiner.specs.Desks.{DeskView, replied}
use Rattle.accounts.specs.Agreement.{desk_place, replica_place}
use Rattle.node.specs.Answering.{answered_batch}
use Rattle.node.specs.declared.following.NodeReplica.{NodeReplica}
use Rattle.store_steps.specs.Doing.{ADesk, ALog, AReplica, ChangesNothing, Nothing, Part, PutsBack, ReadsAndPutsBack, takes_and_puts}
use Rattle.store_steps.specs.Whole.{HadRoom, MovedBase, RoomMade, answer_deeds}
use Rattle.store_laws.specs.OnShelf.{TakesLogOnce, takes_of_log}

takes_on : (xs ys : List (ShelfStep Part)) → takes_of_log (xs ++ ys) ≡ takes_of_log xs + takes_of_log ys
takes_on [] ys = omega arith
takes_on (Took p (ALog g) ∷ xs) ys = let e = takes_on xs ys in omega (arith, e)
takes_on (Took p (AReplica n) ∷ xs) ys = takes_on xs ys
takes_on (Took p (ADesk d) ∷ xs) ys = takes_on xs ys
takes_on (Put p x ∷ xs) ys = takes_on xs ys
takes_on (Read n ∷ xs) ys = takes_on xs ys
takes_on (Raised n ∷ xs) ys = takes_on xs ys

none_taken : {xs : List (ShelfStep Part)} → ChangesNothing xs → takes_of_log xs ≡ 0
none_taken Nothing = refl
none_taken (PutsBack p n steps a) = none_taken a
none_taken (ReadsAndPutsBack p n tail steps a) = none_taken a

one_taken : {want : ℕ} {g : LogView} {n : NodeReplica} (place desk : ℕ) (room : RoomMade want g n) (h : LogView) (m : NodeReplica) (x y : DeskView) → takes_of_log (answer_deeds place room h m ++ takes_and_puts desk (ADesk x) (ADesk y)) ≡ 1
one_taken place desk (HadRoom enough) h m x y = refl
one_taken place desk (MovedBase due up) h m x y = refl

pub once : TakesLogOnce
once k after batch answered c =
    let replica = replica_place k.progress.config c.desk.node in
    let desk = desk_place k.progress.config c.desk.node in
    let deeds : List (ShelfStep Part) = answer_deeds replica c.room c.put c.left ++ takes_and_puts desk (ADesk c.desk) (ADesk (replied (answered_batch c.kept batch) c.desk)) in
    let none : takes_of_log c.tries ≡ 0 = none_taken c.nothing in
    let one : takes_of_log deeds ≡ 1 = one_taken replica desk c.room c.put c.left c.desk (replied (answered_batch c.kept batch) c.desk) in
    let all : takes_of_log (c.tries ++ deeds) ≡ takes_of_log c.tries + takes_of_log deeds = takes_on c.tries deeds in
    (c.tries ++ deeds, c.did, omega (arith, none, one, all))
