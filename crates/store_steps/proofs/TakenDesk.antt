-- The place of its node's desk is taken, and put back after what the session did there.
use Rattle.std.proofs.Common.{◌≡◌, ℕ, ◌<◌, List, [], ◌∷◌, length, sym, refl, ap, ◌∙◌, subst, Option, None, Some, eq-eqb, if◌then◌else◌}
use lib.ListN.{get_elem?}
use Rattle.ownlock.specs.declared.known.ShelfStep.TheVariants.{Put}
use Rattle.ownlock.specs.Seats.{At, without, Continues, IsSession, Run as RunOf}
use Rattle.ownlock.specs.Knowledge.{Acquired, MayPut, MayTake, Possible, Takes}
use Rattle.loader.specs.CatalogueView.{CatalogueView}
use Rattle.oplog.specs.declared.configuration.Sizes.{Sizes}
use Rattle.oplog.specs.Sessions.{IsSessionOf, session}
use Rattle.combiner.specs.Desks.{DeskView}
use Rattle.replica.specs.StoreMeaning.{store_meaning}
use Rattle.accounts.specs.declared.sessions.Progress.{Progress}
use Rattle.accounts.specs.declared.sessions.SessionNote.{SessionNote}
use Rattle.accounts.specs.Values.{TheDesk}
use Rattle.store_steps.proofs.Parts.{IsDeskSeen, desk_or, has_desk}
use Rattle.std.specs.Prelude.{IfSome, IsSome, MatchOption, is_some}
use Rattle.std.proofs.lemmas.Option.{same_Some}
use Rattle.accounts.specs.Accounts.{Extends}
use Rattle.accounts.specs.Agreement.{desk_place}
use Rattle.accounts.specs.DeskNotes.{DeskDeed, desk_note, desk_noting}
use Rattle.accounts.specs.Picks.{put_progress, put_note}
use Rattle.accounts.specs.Putting.{HoldsDesk, KeepsSizes}
use Rattle.accounts.proofs.Export.{desk_picked, desk_picks, puts_account, same_picked, same_picks, may_take_desk, takes_desk, desk_puts}
use Rattle.store_steps.specs.declared.steps.Caller.{Caller}
use Rattle.store_steps.specs.declared.values.Value.{Value}
use Rattle.store_steps.specs.declared.values.Value.TheVariants.{Log, Replica, Desk}
use Rattle.store_steps.specs.AtDesk.{IsAt, Steps}
use Rattle.store_steps.specs.Lending.{desk_of}
use Rattle.store_steps.specs.Shelving.{IsSized, session_noting, store_rules, view_of}
use Rattle.store_steps.specs.Standing.{IsFree, SessionKnown, Stands, StoreSeat}
use Rattle.store_steps.specs.Visits.{HasDesk}
use Rattle.store_steps.proofs.Resumed.{free_by}
use Rattle.store_steps.proofs.StoreLaws.{session_laws, session_notes, store_laws}

abbrev K : Type 0
K = SessionKnown

abbrev L : Type 0
L = Progress CatalogueView

-- ---- taken

pub may_take_its_desk : (k : K) (caller : Caller) (p : ℕ) → IsFree caller k → p ≡ desk_place k.progress.config caller.node → MayTake store_rules p k
may_take_its_desk k caller p free is = subst (λ z. MayTake store_rules z k) (sym is) (may_take_desk session_laws view_of IsSized k caller.node free.held (caller.slot, free.within, free.own, free.near))

pub took_desk : (k t : K) (caller : Caller) (p : ℕ) (v : Value) → IsFree caller k → p ≡ desk_place k.progress.config caller.node → Acquired store_rules p k t v → HasDesk caller k t p v
took_desk k t caller p v free is won =
    let taken = takes_desk session_laws view_of IsSized p caller.node k t v is won in
    let i = taken.0 in
    let node = sym taken.3 in
    record {
      free = free;
      place = is;
      session = i.session;
      note = i.note;
      extends = i.extends;
      held = i.held ∙ ap (λ z. (p, v) ∷ z) free.held;
      steps = i.steps;
      desk = taken.1;
      node = taken.3;
      seen = taken.2;
      here = record {
        notes = i.notes;
        accounts = i.accounts;
        here = i.here;
        agrees = taken.4;
        own = subst (λ n. t.session ≡ session t.progress.config n caller.slot) node (i.session ∙ (free.own ∙ ap (λ c. session c caller.node caller.slot) i.extends.config));
        within = subst (λ (c : Sizes). caller.slot < c.slots) i.extends.config free.within;
        near = subst (λ n. n < t.progress.config.nodes) node (subst (λ (c : Sizes). caller.node < c.nodes) i.extends.config free.near);
      };
    }

-- the place that was taken is that of its desk
pub has_taken : (k : K) (caller : Caller) (p : ℕ) → IsFree caller k → p ≡ desk_place k.progress.config caller.node → (old new : StoreSeat) → IsSession old k → (q : ℕ) → q ≡ p → (v : Value) → Takes store_rules old p v new → (t : K) × IsSession new t × HasDesk caller k t q v
has_taken k caller p free place old new is q at v won =
    let t = won k is in
    (t.0, t.2, subst (λ z. HasDesk caller k t.0 z v) (sym at) (took_desk k t.0 caller p v free place t.1))

-- what follows from two facts of a value, if there is one
pub if_both : {A : Type 0} (N : Type 0) (o : Option A) {P Q R : A → Type 0} → IfSome o P → MatchOption o N Q → ((x : A) → P x → Q x → R x) → IfSome o R
if_both N None p q both = p
if_both N (Some x) p q both = both x p q

-- a session that has put its desk back, and is f, has taken it again
pub took_again : (caller : Caller) (k t f : K) (p : ℕ) (v : Value) → HasDesk caller k t p v → f.session ≡ k.session → f.held ≡ [] → Extends k.progress f.progress → (z : K) (q : ℕ) → q ≡ p → (u w : Value) → w ≡ u → Acquired store_rules p f z u → HasDesk caller f z q w
took_again caller k t f p v b session held extends z q at u w same won =
    let place = b.place ∙ ap (λ (c : Sizes). desk_place c caller.node) extends.config in
    let acquired = subst (λ (x : ℕ × Value). Acquired store_rules x.0 f z x.1) (λ i. (sym at i, sym same i)) won in
    took_desk f z caller q w (free_by caller k f session held extends b.free) (at ∙ place) acquired

-- the desk that was taken is the one that is lent
pub same_desk : (caller : Caller) (k t : K) (p : ℕ) (v : Value) (b : HasDesk caller k t p v) (x : DeskView) → desk_of v ≡ Some x → b.desk ≡ x
same_desk caller k t p v b x e = same_Some b.desk x (sym (has_desk v b.desk b.seen) ∙ e)

pub is_at : (caller : Caller) (k t : K) (p : ℕ) (v : Value) → HasDesk caller k t p v → (x : DeskView) → desk_of v ≡ Some x → IsAt caller.slot t x
is_at caller k t p v b x e = subst (IsAt caller.slot t) (same_desk caller k t p v b x e) b.here

pub is_desk : (caller : Caller) (k t : K) (p : ℕ) (v : Value) → HasDesk caller k t p v → IsSome (desk_of v)
is_desk caller k t p v b = ap is_some (has_desk v b.desk b.seen)

-- ---- put back

-- what the session is, once its desk is back; its note is then n
pub record BackDesk (k f : K) (n : SessionNote) : Type 0 where
  pub session : f.session ≡ k.session
  pub held : f.held ≡ []
  pub note : f.note ≡ n
  pub extends : Extends k.progress f.progress
  pub stands : Stands f

keeps_desk : (v w : Value) (x y : DeskView) → view_of v ≡ TheDesk x → view_of w ≡ TheDesk y → length y.slots ≡ length x.slots → KeepsSizes IsSized v w
keeps_desk (Desk d) (Desk e) x y isv isw same config c s = ap (λ (z : DeskView). length z.slots) (ap (desk_or y) isw) ∙ (same ∙ (sym (ap (λ (z : DeskView). length z.slots) (ap (desk_or x) isv)) ∙ s))
keeps_desk (Desk d) (Log g) x y isv isw same config c s = absurd (subst IsDeskSeen (sym isw) tt)
keeps_desk (Desk d) (Replica n) x y isv isw same config c s = absurd (subst IsDeskSeen (sym isw) tt)
keeps_desk (Log g) w x y isv isw same config c s = absurd (subst IsDeskSeen (sym isv) tt)
keeps_desk (Replica n) w x y isv isw same config c s = absurd (subst IsDeskSeen (sym isv) tt)

none_left : (p : ℕ) (v : Value) → without p ((p, v) ∷ []) ≡ []
none_left p v = ap (λ b. if b then [] else ((p, v) ∷ [])) (eq-eqb p p refl)

-- what is put back after a deed at the desk
abbrev pub DeskMayBePut : DeskDeed → List K → K → ℕ → Value → Type 0
DeskMayBePut deed sessions t p w = MayPut store_rules (put_progress sessions (view_of w)) (put_note (desk_noting view_of deed) sessions (view_of w)) t p w

-- what the session has become then
abbrev pub desk_back : DeskDeed → List K → K → ℕ → Value → L → RunOf L SessionNote Value → K
desk_back deed sessions t p w l run = record {
  session = t.session;
  progress = put_progress sessions (view_of w) l;
  note = put_note (desk_noting view_of deed) sessions (view_of w) t.note;
  held = without p t.held;
  steps = Put p w ∷ t.steps;
  run = run;
}

-- the desk may be put back at the place q, and what the session is then
pub record PutsDesk (k t : K) (sessions : List K) (deed : DeskDeed) (w : Value) (n : SessionNote) (q : ℕ) : Type 0 where
  pub may : DeskMayBePut deed sessions t q w
  pub back : (l : L) (ns : List SessionNote) → Possible store_rules t l ns → (run : RunOf L SessionNote Value) → Continues t.run run → BackDesk k (desk_back deed sessions t q w l run) n

module _ (caller : Caller) (k t : K) (p : ℕ) (v : Value) (b : HasDesk caller k t p v) (sessions : List K) (is : sessions ≡ t ∷ []) where
  at_desk : At 0 (p, v) t.held
  at_desk = ap (λ z. get_elem? z 0) b.held

  -- after a step
  module _ (deed : DeskDeed) (w : Value) (y : DeskView) (n : SessionNote) (isw : view_of w ≡ TheDesk y) (step : Steps t b.desk n y) (noted : desk_note view_of deed t y t.note ≡ n) where
    own : IsSessionOf t.progress.config b.desk.node t.session
    own = (caller.slot, b.here.within, b.here.own, b.here.near)

    same_slots : length y.slots ≡ length b.desk.slots
    same_slots = (desk_puts store_meaning t.progress t.progress b.here.notes t.session t.note n b.desk y b.here.accounts.completed (store_laws.extends_self t.progress) b.here.accounts b.here.here own b.here.agrees step).1.slots ∙ sym b.here.agrees.slots

    holds : HoldsDesk store_meaning view_of IsSized t p v w b.desk y n
    holds = record { index = 0; held = at_desk; was = b.seen; becomes = isw; sizes = keeps_desk v w b.desk y b.seen isw same_slots; completed = b.here.accounts.completed; own = own; step = step }

    pub may_put_desk : DeskMayBePut deed sessions t p w
    may_put_desk = desk_picked store_meaning view_of IsSized deed sessions t p v w b.desk y n holds noted is

    pub back_desk : (l : L) (ns : List SessionNote) → Possible store_rules t l ns → (run : RunOf L SessionNote Value) → Continues t.run run → BackDesk k (desk_back deed sessions t p w l run) n
    back_desk l ns may run on =
        let a = puts_account session_laws view_of session_notes IsSized (put_progress sessions (view_of w)) (put_note (desk_noting view_of deed) sessions (view_of w)) t p w l ns run may_put_desk may on in
        record {
          session = a.session ∙ b.session;
          held = a.held ∙ (ap (without p) b.held ∙ none_left p v);
          note = ap (λ g. g t.note) (desk_picks store_meaning view_of IsSized deed sessions t w y is isw).1 ∙ noted;
          extends = store_laws.extends_on k.progress t.progress _ b.extends a.extends;
          stands = record { notes = a.notes; accounts = a.accounts; here = a.here };
        }

    pub puts_desk : (q : ℕ) → q ≡ p → PutsDesk k t sessions deed w n q
    puts_desk q at = subst (PutsDesk k t sessions deed w n) (sym at) (record { may = may_put_desk; back = back_desk })

  -- as it was
  module _ (w : Value) (same : view_of w ≡ view_of v) where
    kept : KeepsSizes IsSized v w
    kept = keeps_desk v w b.desk b.desk b.seen (same ∙ b.seen) refl

    pub may_put_same_desk : MayPut store_rules (put_progress sessions (view_of w)) (put_note session_noting sessions (view_of w)) t p w
    may_put_same_desk = same_picked session_laws view_of session_notes IsSized sessions t p 0 v w at_desk same kept is

    pub back_same_desk : (l : L) (ns : List SessionNote) → Possible store_rules t l ns → (run : RunOf L SessionNote Value) → Continues t.run run
        → BackDesk k (record { session = t.session; progress = put_progress sessions (view_of w) l; note = put_note session_noting sessions (view_of w) t.note; held = without p t.held; steps = Put p w ∷ t.steps; run = run }) k.note
    back_same_desk l ns may run on =
        let a = puts_account session_laws view_of session_notes IsSized (put_progress sessions (view_of w)) (put_note session_noting sessions (view_of w)) t p w l ns run may_put_same_desk may on in
        record {
          session = a.session ∙ b.session;
          held = a.held ∙ (ap (without p) b.held ∙ none_left p v);
          note = (same_picks session_laws view_of session_notes IsSized sessions t p 0 v w l ns is at_desk same may).1 ∙ b.note;
          extends = store_laws.extends_on k.progress t.progress _ b.extends a.extends;
          stands = record { notes = a.notes; accounts = a.accounts; here = a.here };
        }
