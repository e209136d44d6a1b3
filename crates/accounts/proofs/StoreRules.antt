-- The rules with desks are a store's.
use Rattle.std.proofs.Common.{ℕ, ◌≤◌, ◌++◌, map, length, take, refl, ap, subst, inl, inr}
use Rattle.oplog.specs.declared.configuration.Sizes.{Sizes}
use Rattle.oplog.specs.History.{Meaning}
use Rattle.accounts.specs.Values.{StoreValue, TheLog, TheReplica, TheDesk}
use Rattle.accounts.specs.declared.sessions.Progress.{Progress}
use Rattle.accounts.specs.declared.sessions.SessionNote.{SessionNote}
use Rattle.accounts.specs.Agreement.{AgreesWith}
use Rattle.accounts.specs.Moves.{Moves, desk_rules, placed_from, record_of}
use Rattle.accounts.specs.LogSteps.{BatchAppends}
use Rattle.accounts.specs.StoreRules.{IsStoreRules}
use Rattle.accounts.proofs.Others.{desk_laws}

module _ {C M : Type 0} (E : Meaning C M) where
  desk_stays_put : (p c : ℕ) (v : StoreValue M) (l : Progress C) (n : SessionNote) (ns : _) → AgreesWith E p l ns v → Moves E p c v l n l n
  desk_stays_put p c (TheLog x) l n ns a = (a.0, record { config = refl; catalogue = refl; completed = refl; appends = inl (refl, inl refl) })
  desk_stays_put p c (TheReplica x) l n ns a = (refl, inl refl)
  desk_stays_put p c (TheDesk x) l n ns a = (refl, inl refl)

  pub desk_store : IsStoreRules E (desk_rules E)
  desk_store = record {
    laws = desk_laws E;
    extends = λ a b g. g;
    same = λ a b e. e;
    accounts = λ l ns w. w;
    agrees = λ p l ns v a. a;
    log = λ p l ns x a. a;
    replica = λ p l ns x a. a;
    allows = λ l c places h. h;
    stays = desk_stays_put;
  }

  pub batch_appends : BatchAppends E
  batch_appends known c n x y k s l v grown same = (
    refl,
    record {
      config = refl;
      catalogue = refl;
      completed = refl;
      appends = inr (record {
        count = k;
        unplaced = s.unplaced;
        within = s.count;
        history = refl;
        limit = subst (λ (z : Sizes). length (l.history ++ map record_of (take k n.batch)) ≤ z.limit) grown.config (subst (λ h. length (h ++ map record_of (take k n.batch)) ≤ known.config.limit) same s.limit);
        note = ap (λ h. record n { batch = placed_from (length h) k n.batch }) same;
      });
    },
  )
