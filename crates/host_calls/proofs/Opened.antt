-- The handle of a store that is not opened.
use Rattle.std.proofs.Common.{◌≡◌, None, Option, MatchOption, sym, subst}
use Rattle.loader.specs.StoreState.{StoreState}
use Rattle.host_calls.specs.declared.handles.Opening.{Opening}
use Rattle.host_calls.specs.declared.handles.StoreHandle.{StoreHandle}
use Rattle.host_calls.specs.declared.opening.NotOpened.{NotOpened}
use Rattle.host_calls.specs.Openings.{IsOpened, IsPoolOf, IsReason, only, words_of}
use Rattle.host_calls.specs.Statuses.{done}
use Rattle.host_calls.specs.Words.{no_store_words}

pub is_closed : (o : Opening) (on : Option StoreState) (h : StoreHandle) (why : NotOpened) → h.own ≡ None
    → h.asked ≡ no_store_words → IsReason o on why → h.answered ≡ words_of why → IsOpened o on h
is_closed o on h why closed asked reason words = record {
  asked = asked;
  opened = subst (λ own. MatchOption own ((w : NotOpened) × IsReason o on w × (h.answered ≡ words_of w)) (λ b. IsPoolOf o on b.value × (h.answered ≡ only done))) (sym closed) (why, reason, words);
}
