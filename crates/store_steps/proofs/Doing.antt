-- What a session has done on the shelf, step by step.
use Rattle.ownlock.proofs.Export.{continues_on, since_stepped}
use Rattle.ownlock.specs.Seats.{EndsSince, HasStepped}
use Rattle.std.proofs.Common.{◌≡◌, ℕ, List, [], ◌∷◌, ◌++◌, map, refl, sym, ap, ◌∙◌, subst, Some}
use Rattle.std.proofs.lemmas.Option.{none-some, same_Some}
use Rattle.ownlock.specs.declared.known.Known.{Known}
use Rattle.ownlock.specs.declared.known.ShelfStep.{ShelfStep}
use Rattle.ownlock.specs.declared.known.ShelfStep.TheVariants.{Took, Put}
use Rattle.oplog.specs.Logs.{Log as LogView}
use Rattle.combiner.specs.Desks.{DeskView}
use Rattle.node.specs.declared.following.NodeReplica.{NodeReplica}
use Rattle.store_steps.specs.declared.values.Value.{Value}
use Rattle.store_steps.specs.declared.values.Value.TheVariants.{Log, Replica, Desk}
use Rattle.store_steps.specs.Doing.{ADesk, ALog, AReplica, ChangesNothing, Did, Nothing, Part, PutsBack, ReadsAndPutsBack, and_then, of_part, part_of}
use Rattle.store_steps.specs.Lending.{desk_of, log_of, replica_of, with_desk, with_log, with_replica}

-- ---- the part that a value is

pub log_part : (v : Value) (g : LogView) → log_of v ≡ Some g → part_of v ≡ ALog g
log_part (Log h) g e = ap ALog (same_Some h.value g e)
log_part (Replica n) g e = absurd (none-some g e)
log_part (Desk d) g e = absurd (none-some g e)

pub with_log_part : (v : Value) (g h : LogView) → log_of v ≡ Some g → part_of (with_log v h) ≡ ALog h
with_log_part (Log f) g h e = refl
with_log_part (Replica n) g h e = absurd (none-some g e)
with_log_part (Desk d) g h e = absurd (none-some g e)

pub replica_part : (v : Value) (n : NodeReplica) → replica_of v ≡ Some n → part_of v ≡ AReplica n
replica_part (Replica m) n e = ap AReplica (same_Some m.value n e)
replica_part (Log g) n e = absurd (none-some n e)
replica_part (Desk d) n e = absurd (none-some n e)

pub with_replica_part : (v : Value) (n m : NodeReplica) → replica_of v ≡ Some n → part_of (with_replica v m) ≡ AReplica m
with_replica_part (Replica o) n m e = refl
with_replica_part (Log g) n m e = absurd (none-some n e)
with_replica_part (Desk d) n m e = absurd (none-some n e)

pub desk_part : (v : Value) (x : DeskView) → desk_of v ≡ Some x → part_of v ≡ ADesk x
desk_part (Desk d) x e = ap ADesk (same_Some d.value x e)
desk_part (Log g) x e = absurd (none-some x e)
desk_part (Replica n) x e = absurd (none-some x e)

pub with_desk_part : (v : Value) (x y : DeskView) → desk_of v ≡ Some x → part_of (with_desk v y) ≡ ADesk y
with_desk_part (Desk d) x y e = refl
with_desk_part (Log g) x y e = absurd (none-some x e)
with_desk_part (Replica n) x y e = absurd (none-some x e)

-- ---- lists of steps

and_then_on : (taken xs ys : List (ShelfStep Value)) → and_then (and_then taken xs) ys ≡ and_then taken (xs ++ ys)
and_then_on taken [] ys = refl
and_then_on taken (x ∷ xs) ys = and_then_on (x ∷ taken) xs ys

parts_on : (xs ys : List (ShelfStep Value)) → map of_part (xs ++ ys) ≡ map of_part xs ++ map of_part ys
parts_on [] ys = refl
parts_on (x ∷ xs) ys = ap (λ z. of_part x ∷ z) (parts_on xs ys)

pub nothing_on : {xs ys : List (ShelfStep Part)} → ChangesNothing xs → ChangesNothing ys → ChangesNothing (xs ++ ys)
nothing_on Nothing b = b
nothing_on (PutsBack p x steps a) b = PutsBack p x _ (nothing_on a b)
nothing_on (ReadsAndPutsBack p x tail steps a) b = ReadsAndPutsBack p x tail _ (nothing_on a b)

module _ {P N : Type 0} where
  -- no step
  pub did_none : (k t : Known P N Value) → t ≡ k → Did k t []
  did_none k t e = record { since = []; all = ap (λ z. z.steps) e; are = refl; goes_on = ([], ap (λ z. z.run) e); ends = λ opened so. subst (EndsSince opened) (sym e) so }

  -- one step
  pub did_one : (k t : Known P N Value) (step : ShelfStep Value) (seen : ShelfStep Part) → HasStepped k step t → of_part step ≡ seen → Did k t (seen ∷ [])
  did_one k t step seen e is = record { since = step ∷ []; all = e.0; are = ap (λ z. z ∷ []) is; goes_on = e.1; ends = λ opened so. since_stepped opened t step k.steps e.0 e.2 }

  -- some steps, and then others
  pub did_then : (k t f : Known P N Value) (xs ys : List (ShelfStep Part)) → Did k t xs → Did t f ys → Did k f (xs ++ ys)
  did_then k t f xs ys a b = record {
    since = a.since ++ b.since;
    all = b.all ∙ (ap (λ z. and_then z b.since) a.all ∙ and_then_on k.steps a.since b.since);
    are = parts_on a.since b.since ∙ (λ i. a.are i ++ b.are i);
    goes_on = continues_on k.run t.run f.run a.goes_on b.goes_on;
    ends = λ opened so. b.ends opened (a.ends opened so);
  }

  -- a value is taken from its place and put back there, or another
  pub did_both : (k t f : Known P N Value) (p q place : ℕ) (v w : Value) (x y : Part) → HasStepped k (Took p v) t → HasStepped t (Put q w) f → p ≡ place → q ≡ place → part_of v ≡ x → part_of w ≡ y → Did k f (Took place x ∷ Put place y ∷ [])
  did_both k t f p q place v w x y took put at there is becomes = record {
    since = Took p v ∷ Put q w ∷ [];
    all = put.0 ∙ ap (λ z. Put q w ∷ z) took.0;
    are = λ i. Took (at i) (is i) ∷ Put (there i) (becomes i) ∷ [];
    goes_on = continues_on k.run t.run f.run took.1 put.1;
    ends = λ opened so. since_stepped opened f (Put q w) t.steps put.0 put.2;
  }
