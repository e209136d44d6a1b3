-- A run with one step more.
use Rattle.std.proofs.Common.{◌≡◌, ◌≢◌, ℕ, [], ◌∷◌, ◌++◌, length, refl, ap, sym, ◌∙◌, append_assoc, inr, arith, eq-eqb, ne_eqb, if◌then◌else◌}
use Rattle.ownlock.specs.declared.known.SharedStep.{SharedStep}
use Rattle.ownlock.specs.declared.known.ShelfStep.{ShelfStep}
use Rattle.ownlock.specs.declared.known.ShelfStep.TheVariants.{Put}
use Rattle.ownlock.specs.declared.known.Known.{Known}
use Rattle.ownlock.specs.Seats.{Opened, OthersStepped, Run, Continues, Adds, EndsSince, EndsWithOwn, HasStepped, StepsTo, own_steps, putting, taken_by}

module _ {P N V : Type 0} where
  pub continues_self : (run : Run P N V) → Continues run run
  continues_self run = ([], refl)

  pub continues_more : (known run : Run P N V) (e : SharedStep P N V) → Continues known run → Continues known (e ∷ run)
  continues_more known run e h = (e ∷ h.0, ap (λ es. e ∷ es) h.1)

  pub continues_on : (a b c : Run P N V) → Continues a b → Continues b c → Continues a c
  continues_on a b c g h = (h.0 ++ g.0, h.1 ∙ (ap (λ z. h.0 ++ z) g.1 ∙ sym (append_assoc h.0 g.0 a)))

  pub adds_on : (k : Known P N V) (step : ShelfStep V) (l : P) (n : N) (run : Run P N V) → Adds k step l n run → Continues k.run run
  adds_on k step l n run h = (taken_by k step l n ∷ h.1.0.0, h.2 ∙ ap (λ z. taken_by k step l n ∷ z) h.1.0.1)

  -- the session's own steps have one more, and no other's
  pub own_here : (c : ℕ) (e : SharedStep P N V) (run : Run P N V) → e.session ≡ c → own_steps c (e ∷ run) ≡ e.step ∷ own_steps c run
  own_here c e run is = ap (λ b. if b then e.step ∷ own_steps c run else own_steps c run) (eq-eqb e.session c is)

  pub own_else : (c : ℕ) (e : SharedStep P N V) (run : Run P N V) → e.session ≢ c → own_steps c (e ∷ run) ≡ own_steps c run
  own_else c e run ne = ap (λ b. if b then e.step ∷ own_steps c run else own_steps c run) (ne_eqb e.session c ne)

  -- right behind a put of its own a session's own steps are these
  pub others_again : (k : Known P N V) (p : ℕ) (y : V) (l : P) (n : N) (run : Run P N V) → OthersStepped k run → OthersStepped (putting k p y l n run) (taken_by k (Put p y) l n ∷ run)
  others_again k p y l n run h = (continues_self (taken_by k (Put p y) l n ∷ run), own_here k.session (taken_by k (Put p y) l n) run refl ∙ ap (λ z. Put p y ∷ z) h.1)

  -- the session has stepped
  pub stepped_by : (k after : Known P N V) (step : ShelfStep V) → after.session ≡ k.session → after.steps ≡ step ∷ k.steps → StepsTo k step after → HasStepped k step after
  stepped_by k after step same steps h =
      let e : SharedStep P N V = taken_by k step after.progress after.note in (
        steps,
        adds_on k step after.progress after.note after.run h,
        record {
          seen = (λ i. own_steps (same i) (h.2 i)) ∙ (own_here k.session e h.0 refl ∙ (ap (λ z. step ∷ z) h.1.1 ∙ sym steps));
          last = inr (h.0, e, h.2, sym same, refl, refl);
        },
      )

  -- who has stepped knows some of the run
  pub since_stepped : (opened : Opened P N) (k : Known P N V) (step : ShelfStep V) (steps : _) → k.steps ≡ step ∷ steps → EndsWithOwn k → EndsSince opened k
  since_stepped opened k step steps is ends = record {
    ends = ends;
    fresh = λ none. let long = ap length (sym ends.seen ∙ ap (own_steps k.session) none) ∙ refl in let some = ap length is in absurd (omega (arith, long, some));
  }
