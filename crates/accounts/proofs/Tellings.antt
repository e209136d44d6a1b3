-- What a session may conclude from the log and the replica that it has, and what it may say.
use Rattle.std.proofs.Common.{◌≡◌, ℕ, zero, suc, ◌+◌, ◌≤◌, List, [], ◌∷◌, ◌++◌, length, take, drop, sym, refl, ap, ◌∙◌, subst, arith, option_map}
use Rattle.std.proofs.lemmas.List.{length-drop}
use Rattle.ownlock.specs.Seats.{At}
use Rattle.oplog.specs.Operations.{Operation}
use Rattle.oplog.specs.History.{Meaning, History, after, left_by, state_after, reply_at, read_reply_at}
use Rattle.accounts.specs.declared.sessions.Progress.{Progress}
use Rattle.accounts.specs.Values.{LogValue}
use Rattle.accounts.specs.Accounts.{Extends}
use Rattle.accounts.specs.Agreement.{LogAgrees}
use Rattle.accounts.specs.Moves.{with_records}
use Rattle.accounts.specs.StoreRules.{IsLogAfter}
use Rattle.accounts.specs.Tellings.{TailIs, Replays, ReplayedAgrees, PlacedTells, ReadsTell, EndedTells}
use Rattle.accounts.proofs.Lists.{at_front, drop_front}
use Rattle.accounts.proofs.Parts.{state_front, reply_front, read_front}
use Rattle.accounts.proofs.Kept.{no_next}
use Rattle.ownlock.proofs.Export.{at_below}

module _ {A : Type 0} where
  abbrev nothing : List A
  nothing = []

  take_none : (k : ℕ) → take k nothing ≡ nothing
  take_none zero = refl
  take_none (suc k) = refl

  take_joined : (t k : ℕ) (h : List A) → take (t + k) h ≡ take t h ++ take k (drop t h)
  take_joined zero k h = ap (λ z. take z h) (plus k)
    where
      plus : (k : ℕ) → 0 + k ≡ k
      plus k = omega arith
  take_joined (suc t) k [] = take_none (suc t + k) ∙ sym (take_none k)
  take_joined (suc t) k (x ∷ xs) = ap (λ z. take z (x ∷ xs)) (plus t k) ∙ ap (λ z. x ∷ z) (take_joined t k xs)
    where
      plus : (t k : ℕ) → suc t + k ≡ suc (t + k)
      plus t k = omega arith

module _ {C M : Type 0} (E : Meaning C M) where
  after_joined : (c : C) (m : M) (xs ys : History) → after E c m (xs ++ ys) ≡ after E c (after E c m xs) ys
  after_joined c m [] ys = refl
  after_joined c m (r ∷ rs) ys = after_joined c (left_by (E.update c r.op m) m) rs ys

  pub replays : Replays E
  replays c h t k = sym (ap (λ z. after E c (E.opening c) z) (take_joined t k h) ∙ after_joined c (E.opening c) (take t h) (take k (drop t h)))

  -- the state after the first records is that of a progress that has grown
  pub state_on : (known l : Progress C) (k : ℕ) → Extends known l → k ≤ length known.history → state_after E known.catalogue known.history k ≡ state_after E l.catalogue l.history k
  state_on known l k grown low = ap (λ z. state_after E z known.history k) grown.catalogue
      ∙ (sym (state_front E l.catalogue known.history grown.history.0 k low) ∙ ap (λ h. state_after E l.catalogue h k) (sym grown.history.1))

  pub reply_on : (known l : Progress C) (k : ℕ) (op : Operation) → Extends known l → k ≤ length known.history → reply_at E known.catalogue known.history k op ≡ reply_at E l.catalogue l.history k op
  reply_on known l k op grown low = ap (λ z. reply_at E z known.history k op) grown.catalogue
      ∙ (sym (reply_front E l.catalogue known.history grown.history.0 k op low) ∙ ap (λ h. reply_at E l.catalogue h k op) (sym grown.history.1))

  pub read_on : (known l : Progress C) (k : ℕ) (op : Operation) → Extends known l → k ≤ length known.history → read_reply_at E known.catalogue known.history k op ≡ read_reply_at E l.catalogue l.history k op
  read_on known l k op grown low = ap (λ z. read_reply_at E z known.history k op) grown.catalogue
      ∙ (sym (read_front E l.catalogue known.history grown.history.0 k op low) ∙ ap (λ h. read_reply_at E l.catalogue h k op) (sym grown.history.1))

  pub tail_is : TailIs E
  tail_is l x low a = let long = ap length a.records ∙ length-drop x.base l.history in let base = a.base in let done = a.done in omega (arith, long, base, done, low)

  pub replayed_agrees : ReplayedAgrees E
  replayed_agrees known l y grown low state tail = record { tail = tail; state = state ∙ state_on known l y.tail grown low }

  pub placed_tells : PlacedTells E
  placed_tells known l c seq i reply o grown at is seen done = (
    seen,
    (
      done,
      subst (λ h. At i (record { author = c; seq = seq; op = o.op }) h) (sym grown.history.1) (at_front known.history grown.history.0 i _ at),
      sym (reply_on known l i o.op grown (let b = at_below known.history i _ at in omega (arith, b))) ∙ is,
    ),
  )

  pub reads_tell : ReadsTell E
  reads_tell known l begun reply op y grown low state is first last = (
    first,
    last,
    sym (ap (λ m. option_map (λ e. e.reply) (E.read known.catalogue op m)) state ∙ read_on known l y.tail op grown low) ∙ is,
  )

  pub ended_tells : EndedTells E
  ended_tells l ns c n o w here idle end = (let low = w.completed in let top = w.limit in omega (arith, end, low, top), no_next E l ns c n w here idle)

  -- a log that has grown from what is known agrees, wherever the others are by then
  pub log_after : (known l : Progress C) (more : History) (y : LogValue M) → Extends known l → known.history ≡ l.history → IsLogAfter E known more y → LogAgrees E (with_records l more) y
  log_after known l more y grown same s = record {
    done = let low = s.done in let up = grown.completed in omega (arith, low, up);
    base = s.base;
    base_state = s.base_state ∙ (ap (λ z. state_after E z known.history y.base) grown.catalogue
        ∙ (ap (λ h. state_after E l.catalogue h y.base) same ∙ sym (state_front E l.catalogue l.history more y.base below)));
    records = s.records ∙ (ap (λ h. drop y.base h ++ more) same ∙ sym (drop_front y.base l.history more below));
  }
    where
      below : y.base ≤ length l.history
      below = subst (λ h. y.base ≤ length h) same s.below
