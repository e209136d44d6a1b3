-- A session has posted at its desk, or has handed over answers there: what it is, once it has put the desk back, and if it settles that.
use Rattle.std.proofs.Common.{◌≡◌, ℕ, List, [], refl, sym, ap, ◌∙◌, subst, Some}
use Rattle.ownlock.specs.declared.known.ShelfStep.TheVariants.{Put}
use Rattle.ownlock.specs.Seats.{HasStepped, IsSession, StepsTo, Run as RunOf, TookLast, TookNext}
use Rattle.ownlock.specs.Knowledge.{Acquired, Possible, Settles}
use Rattle.ownlock.proofs.Export.{adds_on, stepped_by}
use Rattle.loader.specs.CatalogueView.{CatalogueView}
use Rattle.oplog.specs.Operations.{Operation}
use Rattle.oplog.specs.Sessions.{IsSessionOf}
use Rattle.oplog.specs.declared.configuration.Sizes.{Sizes}
use Rattle.combiner.specs.Desks.{BatchView, DeskView, posted, replied}
use Rattle.replica.specs.StoreMeaning.{store_meaning}
use Rattle.replica.specs.Views.{RepliesView}
use Rattle.node.specs.Answering.{answered_batch}
use Rattle.accounts.specs.declared.sessions.Progress.{Progress}
use Rattle.accounts.specs.declared.sessions.SessionNote.{SessionNote}
use Rattle.accounts.specs.Accounts.{IsAllowed}
use Rattle.accounts.specs.DeskNotes.{DeskDeed, PostedThere, RepliedThere, desk_noting}
use Rattle.accounts.specs.Picks.{put_progress, put_note}
use Rattle.accounts.specs.Moves.{IsAtRest}
use Rattle.store_steps.specs.declared.steps.Caller.{Caller}
use Rattle.store_steps.specs.declared.values.Value.{Value}
use Rattle.store_steps.specs.AtDesk.{IsReady}
use Rattle.store_steps.specs.Combining.{HasCombined}
use Rattle.store_steps.specs.Lending.{desk_of, with_desk}
use Rattle.store_steps.specs.Requests.{HasPosted, IsBack}
use Rattle.store_steps.specs.Shelving.{store_rules, view_of}
use Rattle.store_steps.specs.Standing.{SessionKnown, Stands, StoreSeat}
use Rattle.store_steps.specs.Updating.{PostsBy}
use Rattle.store_steps.specs.Visits.{HasDesk}
use Rattle.store_steps.specs.Whole.{HandsOver}
use Rattle.store_steps.proofs.AtDesk.{is_batch}
use Rattle.store_steps.proofs.Combined.{handed, puts_replied, ready_on}
use Rattle.store_steps.proofs.Stretches.{hands_over}
use Rattle.store_steps.proofs.TakenDesk.{PutsDesk, desk_back, is_at, took_again}
use Rattle.store_steps.proofs.Turning.{has_posted, puts_posted}
use Rattle.store_steps.proofs.Visiting.{desk_node, did_at_desk, posts_by}

abbrev K : Type 0
K = SessionKnown

abbrev L : Type 0
L = Progress CatalogueView

-- ---- settled

pub took_last : (caller : Caller) (k t : K) (p : ℕ) (v : Value) → HasDesk caller k t p v → TookLast p t
took_last caller k t p v b = (v, [], b.held)

-- a place that was taken next, under other names
again_as : (f z : K) (p q : ℕ) (w u : Value) → q ≡ p → u ≡ w → Acquired store_rules p f z w → TookNext f.run p w z → Acquired store_rules q f z u × TookNext f.run q u z
again_as f z p q w u at same won next =
    subst (λ (x : ℕ × Value). Acquired store_rules x.0 f z x.1 × TookNext f.run x.0 x.1 z) (λ i. (sym at i, sym same i)) (won, next)

-- the session of this seat has put its desk back, of which P is so, and has taken it again from the place p as the value v by the very next step
pub record HasAgain (caller : Caller) (p : ℕ) (v : Value) (now : StoreSeat) (P : K → Type 0) : Type 0 where
  pub between : K
  pub so : P between
  pub again : K
  pub is : IsSession now again
  pub has : HasDesk caller between again p v
  pub took : Acquired store_rules p between again v
  pub next : TookNext between.run p v again

-- what a settled desk comes to, if P is so of who puts it back
module _ (caller : Caller) (k t : K) (p : ℕ) (v w : Value) (b : HasDesk caller k t p v) (deed : DeskDeed) (before now : StoreSeat) (is : IsSession before t) (P : K → Type 0) where
  abbrev PutBack : Type 0
  PutBack = (l : L) (ns : List SessionNote) → Possible store_rules t l ns → (run : RunOf L SessionNote Value) → StepsTo t (Put p w) (desk_back deed before.sessions t p w l run) → P (desk_back deed before.sessions t p w l run)

  abbrev Settled : Type 0
  Settled = Settles store_rules (put_progress before.sessions (view_of w)) (put_note (desk_noting view_of deed) before.sessions (view_of w)) before p w now

  has_again : PutBack → ((m : K) → P m → IsBack k m) → Settled → (q : ℕ) → q ≡ p → (u : Value) → u ≡ w → HasAgain caller q u now P
  has_again puts back settled q at u same =
      let s = settled t is in
      let so = puts s.0 s.1.0 s.1.1 s.2.0 s.2.1 in
      let m = back _ so in
      let won = again_as _ s.2.2.0 p q w u at same s.2.2.1 s.2.2.3 in
      record {
        between = _;
        so = so;
        again = s.2.2.0;
        is = s.2.2.2;
        has = took_again caller k t _ p v b m.session m.held m.extends s.2.2.0 q at w u same s.2.2.1;
        took = won.0;
        next = won.1;
      }

-- ---- a post

-- the desk x was lent, and is put back as y
module _ (caller : Caller) (k t : K) (p : ℕ) (v : Value) (op : Operation) (b : HasDesk caller k t p v) (x y : DeskView) (lent : desk_of v ≡ Some x) (h : posted caller.slot op x ≡ Some y) (before : StoreSeat) (is : IsSession before t) (c : CatalogueView) (of : k.progress.catalogue ≡ c) (may : IsAllowed store_meaning c op) (rests : IsAtRest k.note) where
  abbrev Posts : K → Type 0
  Posts m = HasPosted k m op × PostsBy k m op

  pub posts_there : (l : L) (ns : List SessionNote) → Possible store_rules t l ns → (run : RunOf L SessionNote Value) → StepsTo t (Put p (with_desk v y)) (desk_back PostedThere before.sessions t p (with_desk v y) l run) → Posts (desk_back PostedThere before.sessions t p (with_desk v y) l run)
  posts_there l ns can run on = (
    has_posted caller k t p v op b x y lent h before.sessions is c of may rests _ ((puts_posted caller k t p v op b x y lent h before.sessions is c of may rests).back l ns can run (adds_on t _ _ _ _ on)),
    posts_by caller k t p v b x y lent _ (stepped_by t (desk_back PostedThere before.sessions t p (with_desk v y) l run) (Put p (with_desk v y)) refl refl on) op h,
  )

  pub posts_and_again : (now : StoreSeat) → Settled caller k t p v (with_desk v y) b PostedThere before now is Posts → (q : ℕ) → q ≡ p → (u : Value) → u ≡ with_desk v y → HasAgain caller q u now Posts
  posts_and_again now = has_again caller k t p v (with_desk v y) b PostedThere before now is Posts posts_there (λ m so. so.0.back)

-- ---- the answers of a batch

-- the desk x was lent, and is put back as y
module _ (caller : Caller) (k t : K) (p : ℕ) (v : Value) (batch : BatchView) (kept : RepliesView) (b : HasDesk caller k t p v) (r : IsReady k batch kept) (stands : Stands k) (answered : BatchView) (x y : DeskView) (lent : desk_of v ≡ Some x) (set : answered ≡ answered_batch kept batch) (out : y ≡ replied answered x) (before : StoreSeat)
    (is : IsSession before t) where
  abbrev Gives : K → Type 0
  Gives m = HasCombined k m × HandsOver caller.node k m batch kept

  ready : IsReady t batch kept
  ready = ready_on k t batch kept b.here.notes b.note b.extends stands b.here.accounts r

  pub puts_answers : PutsDesk k t before.sessions RepliedThere (with_desk v y) (record t.note { batch = [] }) p
  puts_answers = puts_replied caller k t p v batch kept b ready answered x y lent set out before.sessions is

  pub gives_there : (l : L) (ns : List SessionNote) → Possible store_rules t l ns → (run : RunOf L SessionNote Value) → StepsTo t (Put p (with_desk v y)) (desk_back RepliedThere before.sessions t p (with_desk v y) l run) → Gives (desk_back RepliedThere before.sessions t p (with_desk v y) l run)
  gives_there l ns can run on =
      let has = handed k t _ b.note (puts_answers.back l ns can run (adds_on t _ _ _ _ on)) in
      let at = is_at caller k t p v b x lent in
      let becomes : y ≡ replied (answered_batch kept batch) x = out ∙ ap (λ z. replied z x) set in (
        has,
        hands_over caller.node k _ batch kept x has.extends has.stands (subst (λ (z : Sizes × ℕ). IsSessionOf z.0 x.node z.1) (λ j. (sym b.extends.config j, b.session j)) (caller.slot, at.within, at.own, at.near)) (is_batch t batch kept ready caller.slot x at) (desk_node caller k t p v b x lent)
            (did_at_desk caller k t p v b x _ lent _ (subst (λ z. HasStepped t (Put p (with_desk v z)) (desk_back RepliedThere before.sessions t p (with_desk v y) l run)) becomes
            (stepped_by t (desk_back RepliedThere before.sessions t p (with_desk v y) l run) (Put p (with_desk v y)) refl refl on))),
      )

  pub gives_and_again : (now : StoreSeat) → Settled caller k t p v (with_desk v y) b RepliedThere before now is Gives → (q : ℕ) → q ≡ p → (u : Value) → u ≡ with_desk v y → HasAgain caller q u now Gives
  gives_and_again now =
      has_again caller k t p v (with_desk v y) b RepliedThere before now is Gives gives_there (λ m so. record { session = so.0.session; held = so.0.held; extends = so.0.extends; stands = so.0.stands })
