-- A look at the replica of a session's node ends as it puts that back.
use Rattle.std.proofs.Common.{◌≡◌, ℕ, List, [], ◌∷◌, ◌++◌, map, refl, ap, ◌∙◌, sym, subst, MatchOption}
use Rattle.std.specs.Prelude.{nat_lt}
use Rattle.std.proofs.lemmas.List.{append_assoc}
use Rattle.ownlock.specs.declared.known.ShelfStep.{ShelfStep}
use Rattle.ownlock.specs.declared.known.ShelfStep.TheVariants.{Took, Put, Read, Raised}
use Rattle.accounts.specs.Agreement.{replica_place}
use Rattle.store_steps.specs.declared.values.Value.{Value}
use Rattle.store_steps.specs.declared.values.Value.TheVariants.{Log, Replica, Desk}
use Rattle.store_steps.specs.Doing.{ADesk, ALog, AReplica, Part, and_then, of_part, part_of}
use Rattle.store_steps.specs.Lending.{replica_of}
use Rattle.store_steps.specs.Views.{SessionView}
use Rattle.store_steps.specs.Whole.{LooksBy, follow_deeds}
use Rattle.store.specs.Sessions.{known_of}
use Rattle.host_calls.specs.Looks.{HasCaughtUp}

abbrev Step : Type 0
Step = ShelfStep Value

abbrev Seen : Type 0
Seen = ShelfStep Part

-- ---- the last of some steps

last_or : Seen → List Seen → Seen
last_or d [] = d
last_or d (x ∷ xs) = last_or x xs

last_is : (d : Seen) (xs : List Seen) (y : Seen) → last_or d (xs ++ y ∷ []) ≡ y
unfolding last_or
last_is d [] y = refl
last_is d (x ∷ xs) y = last_is x xs y

-- the last of these steps, by the part that it puts back, and those before it
pub record EndsIn (steps : List Step) (seen : Seen) : Type 0 where
  pub last : Step
  pub before : List Step
  pub is : steps ≡ last ∷ before
  pub part : of_part last ≡ seen

ends : (since : List Step) (t : Step) (before : List Step)
    → EndsIn (and_then (t ∷ before) since) (last_or (of_part t) (map of_part since))
unfolding last_or
ends [] t before = record { last = t; before = before; is = refl; part = refl }
ends (s ∷ since) t before = ends since s (t ∷ before)

-- where a step was, and whether it put a replica of this tail back
place_in : Seen → ℕ
place_in (Took p x) = p
place_in (Put p x) = p
place_in (Read n) = n
place_in (Raised n) = n

HasTail : ℕ → Part → Type 0
HasTail point (ALog g) = ⊥
HasTail point (AReplica n) = n.replica.tail ≡ point
HasTail point (ADesk d) = ⊥

PutsTail : ℕ → Seen → Type 0
PutsTail point (Took p x) = ⊥
PutsTail point (Put p x) = HasTail point x
PutsTail point (Read n) = ⊥
PutsTail point (Raised n) = ⊥

of_value : (point : ℕ) (v : Value) → HasTail point (part_of v)
    → MatchOption (replica_of v) ⊥ (λ n. n.replica.tail ≡ point)
unfolding HasTail
of_value point (Log g) h = absurd h
of_value point (Replica n) h = h
of_value point (Desk d) h = absurd h

-- ---- the last step of a look

module _ (old new : SessionView) (point : ℕ) (by : LooksBy (known_of old) (known_of new) point) where
  abbrev place : ℕ
  place = replica_place old.progress.config by.node

  abbrev step : Seen
  step = Put place (AReplica by.left)

  abbrev earlier : List Seen
  earlier = by.tries ++ Took place (AReplica by.own) ∷ Read by.loaded ∷ follow_deeds (nat_lt by.own.replica.tail by.loaded) by.log by.left

  parts : map of_part by.did.since ≡ earlier ++ step ∷ []
  parts =
      by.did.are
      ∙ sym (append_assoc by.tries (Took place (AReplica by.own) ∷ Read by.loaded ∷ follow_deeds (nat_lt by.own.replica.tail by.loaded) by.log by.left) (step ∷ []))

  puts : PutsTail point step
  unfolding PutsTail HasTail
  puts = sym by.at

  up_by : (last : Step) (before : List Step) → new.steps ≡ last ∷ before → of_part last ≡ step
      → HasCaughtUp old new point
  unfolding PutsTail place_in
  up_by (Took p v) before is e = absurd (subst (PutsTail point) (sym e) puts)
  up_by (Read n) before is e = absurd (subst (PutsTail point) (sym e) puts)
  up_by (Raised n) before is e = absurd (subst (PutsTail point) (sym e) puts)
  up_by (Put p v) before is e = record {
    node = by.node;
    mine = by.mine;
    value = v;
    tail = of_value point v (subst (PutsTail point) (sym e) puts);
    before = before;
    last = is ∙ ap (λ q. Put q v ∷ before) (ap place_in e);
  }

  up_since : (since : List Step) → map of_part since ≡ earlier ++ step ∷ [] → new.steps ≡ and_then old.steps since
      → HasCaughtUp old new point
  unfolding last_or PutsTail
  up_since [] are all = absurd (subst (PutsTail point) (sym (ap (last_or (Read 0)) are ∙ last_is (Read 0) earlier step)) puts)
  up_since (s ∷ since) are all =
      let e = ends since s old.steps in
      up_by e.last e.before (all ∙ e.is) (e.part ∙ (ap (last_or (Read 0)) are ∙ last_is (Read 0) earlier step))

  pub catches_up : HasCaughtUp old new point
  catches_up = up_since by.did.since parts by.did.all
