-- The laws for values that are seen as a store's values.
use Rattle.std.proofs.Common.{◌≡◌, List, subst}
use Rattle.ownlock.specs.Rules.{Rules, Laws, Move, IsAmong}
use Rattle.oplog.specs.declared.configuration.Sizes.{Sizes}
use Rattle.accounts.specs.declared.sessions.Progress.{Progress}
use Rattle.accounts.specs.declared.sessions.SessionNote.{SessionNote}
use Rattle.accounts.specs.Values.{StoreValue}
use Rattle.accounts.specs.Accounts.{Extends}
use Rattle.accounts.specs.Seen.{seen_rules}

module _ {C M V : Type 0} (view : V → StoreValue M) (IsSized : Sizes → C → V → Type 0) (R : Rules (Progress C) SessionNote (StoreValue M)) where
  -- sizes are those of the configuration and the catalogue, which stay
  pub sized_on : (a b : Progress C) (v : V) → a.config ≡ b.config → a.catalogue ≡ b.catalogue → IsSized a.config a.catalogue v → IsSized b.config b.catalogue v
  sized_on a b v e f h = subst (λ z. IsSized b.config z v) f (subst (λ z. IsSized z a.catalogue v) e h)

  -- a move of such a value is one of what it is seen as
  abbrev pub move_seen : Move (seen_rules view IsSized R) → Move R
  move_seen m = record { place = m.place; session = m.session; value = view m.value; progress = m.progress; new_progress = m.new_progress; note = m.note; new_note = m.new_note; allowed = m.allowed }

  among_seen : (m : Move (seen_rules view IsSized R)) (ns : List SessionNote) → IsAmong m ns → IsAmong (move_seen m) ns
  among_seen m ns a = record { accounts = a.accounts; own = a.own; agrees = a.agrees.0 }

  pub seen_laws : ((a b : Progress C) → R.Extends a b → Extends a b) → Laws R → Laws (seen_rules view IsSized R)
  seen_laws grown s = record {
    extends_self = s.extends_self;
    extends_on = s.extends_on;
    same_self = s.same_self;
    same_on = s.same_on;
    allows_none = s.allows_none;
    allows_part = s.allows_part;
    allows_on = s.allows_on;
    moves_extend = λ m. s.moves_extend (move_seen m);
    moves_same = λ m. s.moves_same (move_seen m);
    moves_completed = λ m. s.moves_completed (move_seen m);
    moves_account = λ m ns a. s.moves_account (move_seen m) ns (among_seen m ns a);
    moves_others = λ m ns a q y ne b.
        let g = grown m.progress m.new_progress (s.moves_extend (move_seen m)) in
        (s.moves_others (move_seen m) ns (among_seen m ns a) q (view y) ne b.0, sized_on m.progress m.new_progress y g.config g.catalogue b.1);
    asks_account = s.asks_account;
    asks_agrees = λ p x c l n n' ns asks here w a. (s.asks_agrees p (view x) c l n n' ns asks here w a.0, a.1);
    raised_completed = s.raised_completed;
    raised_extends = s.raised_extends;
    raised_same = s.raised_same;
    raised_account = s.raised_account;
    raised_agrees = λ p x l n ns far w a. let g = grown l (R.raised l n) (s.raised_extends l n) in (s.raised_agrees p (view x) l n ns far w a.0, sized_on l (R.raised l n) x g.config g.catalogue a.1);
    reaches_on = s.reaches_on;
  }
