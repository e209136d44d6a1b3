-- A node whose replica owes some of the records in its hand, and is what it was once they are applied.
use Rattle.std.proofs.Common.{◌≡◌, ℕ, ◌+◌, ◌-◌, ◌≤◌, ◌++◌, length, take, drop, sym, ap, ◌∙◌, arith}
use Rattle.std.proofs.lemmas.List.{drop-append-le}
use Rattle.loader.specs.CatalogueView.{CatalogueView}
use Rattle.oplog.specs.History.{History, after, state_after}
use Rattle.oplog.specs.Logs.{Log as LogView, records_from}
use Rattle.oplog.specs.declared.configuration.TheConstants.{ENDLESS}
use Rattle.replica.specs.StoreMeaning.{store_meaning}
use Rattle.accounts.specs.declared.sessions.Progress.{Progress}
use Rattle.accounts.specs.Accounts.{IsWellFormed}
use Rattle.node.specs.Following.{copied, exchanged, grown, rebased, reclaimed, replayed_first, room_for, told, with_more}
use Rattle.node.specs.declared.following.NodeReplica.{NodeReplica}
use Rattle.store_steps.specs.Rooms.{Owes, caught_up}
use Rattle.store_steps.specs.Standing.{Follows, HasOthers, IsLogOf}
use Rattle.store_steps.proofs.Followed.{follows_rebased, has_others}
use Rattle.store_steps.proofs.Played.{all, is_next, rest_of, state_in}

abbrev L : Type 0
L = Progress CatalogueView

pub plus_none : (t : ℕ) → t + 0 ≡ t
plus_none t = omega arith

pub no_more : (b : ℕ) → b - b ≡ 0
no_more b = omega arith

-- ---- a hand that has what the replica lacks

module _ (l : L) (h : LogView) (u : NodeReplica) (is : IsLogOf l h) (f : Follows l u) (low : h.base ≤ u.replica.tail) where
  pub nothing : caught_up l.catalogue 0 (copied h u) ≡ u
  nothing = λ i. record {
    replica = record { tail = (plus_none u.replica.tail) i; state = u.replica.state };
    hand = record { begin = (plus_none u.replica.tail ∙ sym f.begins) i; records = (sym f.empty) i; window = u.hand.window; long = u.hand.long };
  }

  pub none_owed : length l.history ≤ ENDLESS → IsWellFormed store_meaning l → Owes l.catalogue h (copied h u) 0
  none_owed few w =
      let t = is.tail in let within = f.within in record {
        next = is_next l (copied h u) (has_others l h u is f low few) w;
        within = omega arith;
        above = omega (arith, low);
        tail = omega (arith, t, within);
        rest = ap (records_from h) (sym (plus_none u.replica.tail));
        window = f.window ∙ sym is.sizes.0;
        long = f.long ∙ sym is.sizes.3;
      }

-- ---- a replica that changed places with the base

module _ (l : L) (g : LogView) (u : NodeReplica) (is : IsLogOf l g) (f : Follows l u) (low : g.base ≤ u.replica.tail) (few : length l.history ≤ ENDLESS) where
  abbrev p : NodeReplica
  p = exchanged g u

  abbrev owed : ℕ
  owed = u.replica.tail - g.base

  abbrev h : LogView
  h = reclaimed u (told u g)

  based : Follows l (rebased g u)
  based = follows_rebased l g u is f

  all_others : HasOthers l p
  all_others = has_others l g (rebased g u) is based (omega arith) few

  reaches : g.base + owed ≡ u.replica.tail
  reaches = omega (arith, low)

  pub again : caught_up l.catalogue owed p ≡ u
  again = λ i. record {
    replica = record {
      tail = reaches i;
      state = (state_in l p (rest_of l p all_others) owed ∙ (ap (state_after store_meaning l.catalogue l.history) reaches ∙ sym f.state)) i;
    };
    hand = record { begin = (reaches ∙ sym f.begins) i; records = (sym f.empty) i; window = u.hand.window; long = u.hand.long };
  }

  pub some_owed : IsWellFormed store_meaning l → Owes l.catalogue h p owed
  some_owed w =
      let long = all l p (rest_of l p all_others) in let within = f.within in let r = reaches in record {
        next = is_next l p all_others w;
        within = omega (arith, low, long, within);
        above = omega (arith, r);
        tail = omega (arith, r);
        rest = ap (λ z. drop owed (drop z g.records)) (no_more g.base) ∙ sym (ap (λ z. drop z (drop owed g.records)) (ap (λ z. z - u.replica.tail) r ∙ no_more u.replica.tail));
        window = f.window ∙ sym is.sizes.0;
        long = f.long ∙ sym is.sizes.3;
      }

-- ---- the batch behind them

module _ (c : CatalogueView) (h h2 : LogView) (n m : NodeReplica) (owed : ℕ) (rs more : History) (o : Owes c h n owed) (log : h2 ≡ grown rs h) (more_is : more ≡ take (room_for rs h) rs) where
  abbrev t : ℕ
  t = n.replica.tail + owed

  inside : t - h.base ≤ length h.records
  inside = let a = o.above in let b = o.tail in omega (arith, a, b)

  rest : drop owed n.hand.records ++ more ≡ records_from h2 t
  rest = ap (λ z. z ++ more) o.rest
      ∙ (ap (λ z. records_from h t ++ z) more_is
      ∙ (sym (drop-append-le (t - h.base) h.records (take (room_for rs h) rs) inside)
      ∙ ap (λ z. records_from z t) (sym log)))

  -- the replica has what it lacks, as if the batch had been copied out of the log
  pub as_copied : m ≡ with_more more (replayed_first c owed n) → m ≡ copied h2 (caught_up c owed n)
  as_copied e = e ∙ (λ i. record {
    replica = record { tail = t; state = after store_meaning c n.replica.state (take owed n.hand.records) };
    hand = record { begin = t; records = rest i; window = n.hand.window; long = n.hand.long };
  })
