-- What `serve` did, from what was opened.
use Rattle.std.proofs.Common.{◌≡◌, ◌⊎◌, inl, inr, ℕ, Bool, List, [], Option, None, Result, Ok, Err, refl, sym, ap, subst, ◌∙◌, arith}
use Rattle.std.specs.Prelude.{IfOk}
use Rattle.std.specs.Io.KnownBytes.{Appends, Keeps}
use Rattle.loader.specs.CatalogueView.{CatalogueView}
use Rattle.serving.specs.declared.turns.ServeEnd.{ServeEnd}
use Rattle.engine.specs.declared.replies.Reply.{Reply}
use Rattle.engine.specs.declared.opening.Opened.{Opened}
use Rattle.engine.specs.declared.opening.Opened.TheVariants as opens
use Rattle.loader.specs.StoreState.{StoreState}
use Rattle.engine.specs.declared.replies.Status.{Status}
use Rattle.engine.specs.declared.replies.Status.TheVariants as statuses
use Rattle.engine.specs.declared.transfer.ReadFault.{ReadFault}
use Rattle.engine.specs.declared.transfer.ReadFault.TheVariants as faults
use Rattle.engine.specs.Answer.{Answer}
use Rattle.engine.specs.Engine.{Writes}
use Rattle.engine.specs.Opening.{IsOpened, on_which}
use Rattle.engine.specs.ReadFaults.{IfCannotRead}
use Rattle.engine.specs.Reading.{TextsRead}
use Rattle.engine.specs.Report.{Sends, answer_of}
use Rattle.engine.specs.Texts.{no_memory_line}
use Rattle.engine.proofs.Export.{reports}
use Rattle.serving.specs.declared.service.Service.{Service}
use Rattle.serving.specs.ServiceKept.{IsServiceOf, Stands}
use Rattle.serving.specs.ServeAnswer.{IsInLastRead, Ports, Serves, ServesAll, served_text, nothing_served, service}
use Rattle.serving.proofs.Served.{none_served}
use Rattle.serving.proofs.Turned.{between, appends_none, appends_kept, consumes_none, never_good, no_memory_at, none_given, state_served}

-- ---- nothing was served

module _ (v : Bool) (given old new : Option (List ℕ)) (got : Status) (ended : ServeEnd) (told : ended ≡ record { status = got; state = None }) where
  -- no memory for a service
  pub none_opened : (c : CatalogueView) → Sends old new got no_memory_line statuses.NoMemory → Serves v c (between given given old new) ended
  none_opened c sends =
      subst (λ (x : ServeEnd). Serves v c (between given given old new) x) (sym told)
      record {
        bytes = [];
        read = consumes_none given;
        whole = λ good. absurd (never_good old new got sends good);
        answers = no_memory_at old old new got (IsInLastRead []) (served_text v c) [] 0 (omega arith) (subst (λ (t : List ℕ). Appends old old t) (sym (ap (λ x. x.text) (none_served c (nothing_served v)))) (appends_none old)) sends;
        state = none_given old new got (state_served v c []) sends;
      }

  -- no read for it
  none_loaded : (c : CatalogueView) → (got ≡ statuses.CannotRead) × Keeps old new → Serves v c (between given given old new) ended
  none_loaded c (is, kept) =
      subst (λ (x : ServeEnd). Serves v c (between given given old new) x) (sym (told ∙ ap (λ (s : Status). record { status = s; state = None }) is))
      record {
        bytes = [];
        read = consumes_none given;
        whole = λ good. absurd cc;
        answers = subst (λ (t : List ℕ). Appends old new t) (sym (ap (λ x. x.text) (none_served c (nothing_served v)))) (appends_kept old new kept);
        state = refl;
      }

  -- what is answered in its place
  instead : (a : Answer) (made : Result Reply ReadFault) → Writes answer_of old new got made → IfOk made (λ r. answer_of r ≡ a) → ServesAll v (between given given old new) ended (Err a)
  instead a made wrote is =
      subst (λ (x : ServeEnd). ServesAll v (between given given old new) x (Err a)) (sym told) (reports answer_of (λ r. answer_of r ≡ a) old new got made wrote is, refl, refl)

  pub unopened : (on : Result CatalogueView Answer) (e : ReadFault) → Writes answer_of old new got (Err e) → ServesAll v (between given given old new) ended on
  unopened (Ok c) faults.NoMemory wrote = none_opened c wrote
  unopened (Ok c) faults.CannotRead wrote = none_loaded c wrote
  unopened (Err a) e wrote = instead a (Err e) wrote tt

  -- what was opened in the place of a service
  pub in_place : (r : Reply) (on : Result CatalogueView Answer) → Writes answer_of old new got (Ok r) → Err (answer_of r) ≡ on → ServesAll v (between given given old new) ended on
  in_place r (Ok c) wrote is = absurd (let never : ⊥ = cc in never)
  in_place r (Err a) wrote is = instead a (Ok r) wrote (let same : answer_of r ≡ a = cc in same)

-- a service of this catalogue served it
pub served_on : (v : Bool) (c : CatalogueView) (service : Service) (at : Ports) (ended : ServeEnd) → IsServiceOf v c service → Serves service.has_values service.catalogue at ended → Serves v c at ended
served_on v c service at ended is serves = subst (λ (x : Bool). Serves x c at ended) is.mode (subst (λ (x : CatalogueView). Serves service.has_values x at ended) is.catalogue serves)

-- it does, if it was opened on it
pub service_of : {E : Type 0} (v : Bool) (c : CatalogueView) (r : Result Service E) → IfOk r (λ s. s.catalogue ≡ c) → IfOk r (Stands (nothing_served v)) → IfOk r (IsServiceOf v c)
service_of v c (Ok s) at stands = record { mode = stands.has_values; catalogue = at }
service_of v c (Err e) at stands = tt

pub served_there : {E : Type 0} (v : Bool) (c : CatalogueView) (state : Option StoreState) (opened : Result Opened E) (on : Result CatalogueView Answer) (at : Ports) (ended : ServeEnd)
    → opened ≡ Ok (opens.On c state) → IfOk opened (λ o. on_which o ≡ on) → Serves v c at ended → ServesAll v at ended on
served_there v c state opened on at ended is such serves =
    let same : Ok c ≡ on = subst (λ o. IfOk o (λ x. on_which x ≡ on)) is such in
    subst (λ (x : Result CatalogueView Answer). ServesAll v at ended x) same serves

-- ---- what was opened

module _ {E : Type 0} (spare : ℕ) where
  pub opened_as : (r : Result Opened E) (t : Option TextsRead) → IfOk r (λ o. IsOpened o × (on_which o ≡ service spare t)) → IfOk r (λ o. on_which o ≡ service spare t)
  opened_as (Ok o) t is = is.1
  opened_as (Err e) t is = tt

  abbrev Some_opened : Result Opened E → Type 0
  Some_opened r = IfOk r (λ o. (t : Option TextsRead) × (IsOpened o × (on_which o ≡ service spare t)))

  pub is_opened : (r : Result Opened E) → Some_opened r → IfOk r IsOpened
  is_opened (Ok o) some = some.1.0
  is_opened (Err e) some = tt

  pub of_some : (r : Result Opened E) → Some_opened r → (t : Option TextsRead) × IfOk r (λ o. on_which o ≡ service spare t)
  of_some (Ok o) some = (some.0, some.1.1)
  of_some (Err e) some = (None, tt)

-- ---- what failed

-- a read before the service, or of its input
pub before_or_in : {X : Type 0} (made : Result X ReadFault) (P Q : Type 0) → IfCannotRead made P → (made ≡ Err faults.CannotRead) ⊎ Q → P ⊎ Q
before_or_in made P Q read (inl is) = inl (subst (λ r. IfCannotRead r P) is read)
before_or_in made P Q read (inr failed) = inr failed
