-- What a claim has, and what a session may say of its answer later.
use Rattle.std.proofs.Common.{◌≡◌, ℕ, suc, ◌<◌, ◌≤◌, ◌||◌, true, List, [], ◌∷◌, ◌++◌, length, length-append, append-nil, sym, refl, ap, ◌∙◌, subst, arith}
use Rattle.std.specs.List.{list_any}
use Rattle.loader.specs.CatalogueView.{CatalogueView}
use Rattle.oplog.specs.declared.configuration.Sizes.{Sizes}
use Rattle.oplog.specs.History.{History}
use Rattle.combiner.specs.Slots.{is_posted, requested, requests_from}
use Rattle.combiner.specs.Desks.{DeskView, batch_of, first_author, has_request}
use Rattle.combiner.specs.declared.slots.Slot.{Slot}
use Rattle.combiner.specs.declared.slots.Stage.{Stage}
use Rattle.combiner.specs.declared.slots.Stage.TheVariants.{Empty, Posted, Claimed, Answered}
use Rattle.combiner.specs.declared.slots.Reply.{Reply}
use Rattle.combiner.specs.declared.slots.Reply.TheVariants.{Placed, Ended}
use Rattle.replica.specs.StoreMeaning.{store_meaning}
use Rattle.accounts.specs.declared.sessions.Pending.{Pending}
use Rattle.accounts.specs.declared.sessions.Progress.{Progress}
use Rattle.accounts.specs.declared.sessions.SessionNote.{SessionNote}
use Rattle.accounts.specs.Accounts.{Accounts, Extends, HasNoRecord}
use Rattle.accounts.specs.Told.{Tells}
use Rattle.accounts.proofs.Export.{placed_tells}

-- ---- a posted request is claimed

some_from : (a : ℕ) (xs : List Slot) → list_any (λ (x : Slot). is_posted x.stage) xs ≡ true → 0 < length (requests_from a xs)
some_from a [] e = cc
some_from a (x ∷ xs) e = by x.stage (λ h. some_from (suc a) xs h) e
  where
    by : (st : Stage) → (list_any (λ (x : Slot). is_posted x.stage) xs ≡ true → 0 < length (requests_from (suc a) xs)) → (is_posted st || list_any (λ (x : Slot). is_posted x.stage) xs) ≡ true → 0 < length (requested a x.count st (requests_from (suc a) xs))
    by (Posted op) next h = omega arith
    by Empty next h = next h
    by Claimed next h = next h
    by (Answered reply) next h = next h

pub some_claimed : (x : DeskView) → has_request x ≡ true → 0 < length (batch_of x).records
some_claimed x e = some_from (first_author x) x.slots e

-- ---- what was told stays so

no_more : (more : History) → length more ≡ 0 → more ≡ []
no_more [] e = refl
no_more (r ∷ rs) e = absurd (omega (arith, e))

-- a full history stands still
stands_still : (known l : Progress CatalogueView) → Extends known l → l.config.limit ≤ length known.history → length l.history ≤ l.config.limit → l.history ≡ known.history
stands_still known l grown full top =
    let long = ap length grown.history.1 ∙ length-append known.history grown.history.0 in
    grown.history.1 ∙ (ap (λ z. known.history ++ z) (no_more grown.history.0 (omega (arith, long, full, top))) ∙ append-nil known.history)

pub tells_on : (known l : Progress CatalogueView) (ns : List SessionNote) (c seq : ℕ) (o : Pending) (reply : Reply) → known.completed ≤ length known.history → Extends known l → Accounts store_meaning l ns
    → Tells store_meaning known c seq o reply → Tells store_meaning l c seq o reply
tells_on known l ns c seq o (Placed i x) low grown w t = let up = grown.completed in let lt = t.1.0 in placed_tells store_meaning known l c seq i x o grown t.1.1 t.1.2 t.0 (omega (arith, lt, up))
tells_on known l ns c seq o Ended low grown w t =
    let up = grown.completed in let at = t.0 in let same = ap (λ (z : Sizes). z.limit) grown.config in let top = w.limit in let end = w.completed in (
      omega (arith, up, at, same, top, end),
      subst (λ h. HasNoRecord h c seq) (sym (stands_still known l grown (omega (arith, low, at, same)) top)) t.1,
    )
