-- The calls of a round, one after another and by one list.
use Rattle.std.proofs.Common.{◌≡◌, ◌∙◌, ⊎_elim, ℕ, suc, ◌+◌, ◌*◌, ◌<◌, ◌≤◌, ◌++◌, List, [], ◌∷◌, map, length, set, Some, None, true, refl, sym, ap, subst, arith}
use Rattle.std.specs.Prelude.{Result, Ok, Err, Bool, if◌then◌else◌}
use Rattle.std.proofs.lemmas.List.{length_push}
use Rattle.ownlock.specs.Seats.{At}
use Rattle.text.specs.Digits.{field_bytes}
use Rattle.verifier.specs.declared.refusal.Mode.TheVariants.{Update}
use Rattle.loader.specs.CatalogueView.{CatalogueView}
use Rattle.oplog.specs.declared.configuration.Sizes.{Sizes}
use Rattle.accounts.proofs.Export.{at_below, at_map, at_one, at_there}
use Rattle.replica.specs.declared.refusals.StoreRefused.{StoreRefused}
use Rattle.store_steps.specs.Views.{SessionView}
use Rattle.store_steps.specs.Asking.{asked_op}
use Rattle.store_steps.specs.Questions.{first_refused_in, refusal_in, refused_or}
use Rattle.store_steps.specs.declared.steps.Question.{Question}
use Rattle.store.specs.declared.answers.Answer.{Answer}
use Rattle.store.specs.Pipelines.{AreAscending, EachGoesOn, MayUpdateEach, OthersStay, TellsEach}
use Rattle.store.specs.Sessions.{IsOf, StoreView}
use Rattle.stress.specs.declared.calls.Asked.{Asked}
use Rattle.stress.specs.declared.calls.Asked.TheVariants as asks
use Rattle.stress.specs.declared.calls.ScriptCall.{ScriptCall}
use Rattle.stress.specs.declared.lines.AnsweredCall.{AnsweredCall}
use Rattle.stress.specs.declared.lines.Said.{Said}
use Rattle.stress.specs.Calls.{asked_refusal, operation_on, told_as}
use Rattle.stress.specs.Lines.{suits}
use Rattle.stress.specs.OneHistory.{Asks}
use Rattle.stress.specs.Playing.{IsAsked, IsReady, update_said}
use Rattle.stress.specs.Shown.{called, said_of, told_call}
use Rattle.stress.specs.Teams.{AreOnOneNode, AreQuestions, AreTeam, IsAnswered, IsQuestion, IsToldList, MakeEach}
use Rattle.stress.proofs.OneHistory.{told_update}
use Rattle.stress.proofs.Standing.{at_pushed, at_set, set_else}

-- ---- elements that belong to others, one after another

-- so many elements of the second list belong to those of the first
pub record BelongSo {X Y : Type 0} (P : ℕ → X → Y → Type 0) (n : ℕ) (xs : List X) (ys : List Y) : Type 0 where
  pub long : length ys ≡ n
  pub each : (j : ℕ) (x : X) (y : Y) → At j x xs → At j y ys → P j x y

module _ {X Y : Type 0} (P : ℕ → X → Y → Type 0) (xs : List X) where
  pub one_belongs : (n : ℕ) (ys : List Y) (x : X) (y : Y) → BelongSo P n xs ys → At n x xs → P n x y → BelongSo P (n + 1) xs (ys ++ y ∷ [])
  one_belongs n ys x y h at one = record {
    long = let more = length_push ys y in let long = h.long in omega (arith, more, long);
    each = λ j z w at_z at_w. ⊎_elim (λ front. h.each j z w at_z front) (λ last. here j z w at_z last.0 last.1) (at_pushed ys y j w at_w);
  }
    where
      here : (j : ℕ) (z : X) (w : Y) → At j z xs → j ≡ length ys → y ≡ w → P j z w
      here j z w at_z is same =
          let k : n ≡ j = sym (is ∙ h.long) in
          subst (λ v. P j z v) same (subst (λ v. P j v y) (at_one xs j x z (subst (λ i. At i x xs) k at) at_z) (subst (λ i. P i x y) k one))

-- the answer is to this call, and noted of the session of its number
abbrev pub IsNotedCall : ℕ → ℕ → ScriptCall → AnsweredCall → Type 0
IsNotedCall first j c t = (t.call.now ≡ c) × (t.noted.session ≡ first + j)

abbrev SaysIt : ℕ → Result Answer StoreRefused → AnsweredCall → Type 0
SaysIt j a t = t.said ≡ update_said a

said_all : (answers : List (Result Answer StoreRefused)) (told : List AnsweredCall) → length told ≡ length answers
    → ((j : ℕ) (a : Result Answer StoreRefused) (t : AnsweredCall) → At j a answers → At j t told → t.said ≡ update_said a) → map (λ (t : AnsweredCall). t.said) told ≡ map update_said answers
said_all [] [] long each = refl
said_all [] (t ∷ ts) long each = absurd (omega (arith, long))
said_all (a ∷ rest) [] long each = absurd (omega (arith, long))
said_all (a ∷ rest) (t ∷ ts) long each = λ i. each 0 a t refl refl i ∷ said_all rest ts (omega (arith, long)) (λ j b u at_b at_u. each (suc j) b u at_b at_u) i

pub are_told : (first n : ℕ) (calls : List ScriptCall) (answers : List (Result Answer StoreRefused)) (told : List AnsweredCall) → n ≡ length answers → length answers ≡ length calls
    → BelongSo (IsNotedCall first) n calls told → BelongSo SaysIt n answers told → IsToldList first calls answers told
are_told first n calls answers told all count made says = record {
  long = made.long ∙ all ∙ count;
  made = λ j c t at_c at_t. (made.each j c t at_c at_t).0;
  noted = λ j t at. let below = at_below told j t at in let long = made.long in let c = at_there calls j (omega (arith, below, long, all, count)) in (made.each j c.0 t c.1 at).1;
  said = said_all answers told (made.long ∙ all) says.each;
}

-- ---- one call after another

-- so many of these calls were made
pub record MadeSo (first n : ℕ) (calls : List ScriptCall) (old now : List SessionView) (told : List AnsweredCall) : Type 0 where
  pub long : length now ≡ length old
  pub count : length told ≡ n
  pub each : (j : ℕ) (s t : SessionView) (c : ScriptCall) (a : AnsweredCall) → At j s old → At j t now → At j c calls → At j a told → IsAnswered (first + j) s t c a
  pub others : (j : ℕ) (s : SessionView) → n ≤ j → At j s old → At j s now

module _ (first : ℕ) (calls : List ScriptCall) (old : List SessionView) where
  pub none_made : (told : List AnsweredCall) → told ≡ [] → MadeSo first 0 calls old old told
  none_made told none = record {
    long = refl;
    count = ap length none;
    each = λ j s t c a at_s at_t at_c at_a. let below = at_below told j a at_a in let long = ap length none in absurd (omega (arith, below, long));
    others = λ j s low at. at;
  }

  pub one_made : (n : ℕ) (now : List SessionView) (told : List AnsweredCall) (s t : SessionView) (c : ScriptCall) (a : AnsweredCall) → MadeSo first n calls old now told → length (set now n t) ≡ length now
      → At n s now → At n c calls → IsAnswered (first + n) s t c a → MadeSo first (n + 1) calls old (set now n t) (told ++ a ∷ [])
  one_made n now told s t c a h kept at_s at_c one = record {
    long = kept ∙ h.long;
    count = let more = length_push told a in let count = h.count in omega (arith, more, count);
    each = λ j z w d b at_z at_w at_d at_b. ⊎_elim (λ front. before j z w d b at_z at_w at_d front) (λ last. here j z w d b at_z at_w at_d last.0 last.1) (at_pushed told a j b at_b);
    others = λ j z low at. set_else now n t j z (λ e. omega (arith, e, low)) (h.others j z (omega (arith, low)) at);
  }
    where
      here : (j : ℕ) (z w : SessionView) (d : ScriptCall) (b : AnsweredCall) → At j z old → At j w (set now n t) → At j d calls → j ≡ length told → a ≡ b → IsAnswered (first + j) z w d b
      here j z w d b at_z at_w at_d is same =
          let k : n ≡ j = sym (is ∙ h.count) in
          let was : s ≡ z = at_one now j s z (subst (λ i. At i s now) k at_s) (h.others j z (let e = k in omega (arith, e)) at_z) in
          let new : t ≡ w = ⊎_elim (λ e. e.1) (λ e. absurd (e.0 (sym k))) (at_set now n t j w at_w) in
          let call : c ≡ d = at_one calls j c d (subst (λ i. At i c calls) k at_c) at_d in
          subst (λ v. IsAnswered (first + j) v w d b) was (subst (λ v. IsAnswered (first + j) s v d b) new (subst (λ v. IsAnswered (first + j) s t v b) call
          (subst (λ v. IsAnswered (first + j) s t c v) same (subst (λ i. IsAnswered (first + i) s t c a) k one))))

      before : (j : ℕ) (z w : SessionView) (d : ScriptCall) (b : AnsweredCall) → At j z old → At j w (set now n t) → At j d calls → At j b told → IsAnswered (first + j) z w d b
      before j z w d b at_z at_w at_d at_b =
          let below = at_below told j b at_b in
          let count = h.count in
          ⊎_elim (λ e. let same = e.0 in absurd (omega (arith, same, below, count))) (λ e. h.each j z w d b at_z e.1 at_d at_b) (at_set now n t j w at_w)

  pub all_made : (n : ℕ) (now : List SessionView) (told : List AnsweredCall) → n ≡ length calls → MadeSo first n calls old now told → MakeEach first calls old now told
  all_made n now told all h = record { long = h.long; count = h.count ∙ all; each = h.each; others = λ j s low at. h.others j s (omega (arith, low, all)) at }

-- a session of a team goes on
pub team_on : (store : StoreView) (first n : ℕ) (now : List SessionView) (s t : SessionView) → AreTeam store first now → At n s now → IsOf store t → t.session ≡ s.session → AreTeam store first (set now n t)
team_on store first n now s t team at own same = record {
  own = λ j z there. ⊎_elim (λ e. subst (IsOf store) e.1 own) (λ e. team.own j z e.1) (at_set now n t j z there);
  numbers = λ j z there. ⊎_elim (λ e. ap (λ (v : SessionView). v.session) (sym e.1) ∙ same ∙ team.numbers n s at ∙ ap (λ i. first + i) (sym e.0)) (λ e. team.numbers j z e.1) (at_set now n t j z there);
}

-- ---- a list

none_refused : (c : CatalogueView) (n : ℕ) (qs : List Question) → ((j : ℕ) (q : Question) → At j q qs → refusal_in Update c q ≡ None) → first_refused_in Update c n qs ≡ None
none_refused c n [] each = refl
none_refused c n (q ∷ qs) each = ap (λ r. refused_or n r (first_refused_in Update c (suc n) qs)) (each 0 q refl) ∙ none_refused c (suc n) qs (λ j p at. each (suc j) p at)

-- a call that is ready is refused as no question
is_free : (c : CatalogueView) (call : ScriptCall) (q : Question) → IsReady c call → IsQuestion call q → refusal_in Update c q ≡ None
is_free c call q ready is =
    let same : ready.bytes ≡ q.argument.now = let both : Some ready.bytes ≡ Some q.argument.now = sym ready.spelled ∙ is.spelled in cc in
    subst (λ b. asked_refusal c (asks.Run Update q.program) b ≡ None) same (subst (λ (a : Asked). asked_refusal c a ready.bytes ≡ None) is.runs ready.ready)

pub may_update : (store : StoreView) (calls : List ScriptCall) (qs : List Question) → ((j : ℕ) (c : ScriptCall) → At j c calls → IsReady store.catalogue c) → AreQuestions calls qs → MayUpdateEach store qs
may_update store calls qs ready are = none_refused store.catalogue 0 qs (λ j q at.
    let below = at_below qs j q at in
    let long = are.long in
    let c = at_there calls j (omega (arith, below, long)) in
    is_free store.catalogue c.0 q (ready j c.0 c.1) (are.each j c.0 q c.1 at))

suited : (r : Result Answer StoreRefused) → suits Update (said_of (update_said r)) ≡ true
suited (Ok a) = refl
suited (Err e) = refl

module _ (s t : SessionView) (c : ScriptCall) (q : Question) (a : AnsweredCall) (r : Result Answer StoreRefused) (is : IsQuestion c q) (call : a.call.now ≡ c) (said : a.said ≡ update_said r) where
  told_its_call : told_call a ≡ Some (called c)
  told_its_call =
      let mode : told_as a.call.now.asked ≡ Update = ap (λ (d : ScriptCall). told_as d.asked) call ∙ ap told_as is.runs in
      let suit : suits (told_as a.call.now.asked) (said_of a.said) ≡ true = (λ i. suits (mode i) (said_of (said i))) ∙ suited r in
      ap (λ (b : Bool). if b then Some (called a.call.now) else None) suit ∙ ap (λ d. Some (called d)) call

  asks_it : Asks (called a.call.now) (asked_op q)
  asks_it = (q.argument.now, ap (λ (d : ScriptCall). field_bytes d.digits.now) call ∙ is.spelled, ap (λ (x : Asked). operation_on x q.argument.now) (sym (ap (λ (d : ScriptCall). d.asked) call ∙ is.runs)))

module _ (store : StoreView) (first : ℕ) (calls : List ScriptCall) (old new : List SessionView) (qs : List Question) (answers : List (Result Answer StoreRefused)) (told : List AnsweredCall)
    (are : AreQuestions calls qs) (goes : EachGoesOn store old new) (tells : TellsEach old new qs answers) (stay : OthersStay (length qs) old new) (list : IsToldList first calls answers told) where
  one_listed : (j : ℕ) (s t : SessionView) (c : ScriptCall) (a : AnsweredCall) → At j s old → At j t new → At j c calls → At j a told → IsAnswered (first + j) s t c a
  one_listed j s t c a at_s at_t at_c at_a =
      let below = at_below calls j c at_c in
      let long = are.long in
      let q = at_there qs j (omega (arith, below, long)) in
      let is = are.each j c q.0 at_c q.1 in
      let r = tells j s t q.0 at_s at_t q.1 in
      let call = list.made j c a at_c at_a in
      let said : a.said ≡ update_said r.0 = at_one (map update_said answers) j a.said (update_said r.0) (subst (At j a.said) list.said (at_map (λ (x : AnsweredCall). x.said) told j a at_a)) (at_map update_said answers j r.0 r.1) in
      let on = goes.1 j s t at_s at_t in
      record {
        call = told_its_call s t c q.0 a r.0 is call said;
        asked = subst (λ (x : Said). IsAsked s t (record a { said = x })) (sym said) (told_update s t a (asked_op q.0) (asks_it s t c q.0 a r.0 is call said) on.same.1 on.grown on.well_formed r.0 r.2);
        noted = list.noted j a at_a;
      }

  pub list_made : MakeEach first calls old new told
  list_made = record {
    long = goes.0;
    count = list.long;
    each = one_listed;
    others = λ j s low at. let long = are.long in stay j s (omega (arith, low, long)) at;
  }

-- the sessions of a team go on
pub team_goes_on : (store : StoreView) (first : ℕ) (old new : List SessionView) → AreTeam store first old → EachGoesOn store old new → AreTeam store first new
team_goes_on store first old new team goes = record {
  own = λ j t at. let s = was j t at in (goes.1 j s.0 t s.1 at).own;
  numbers = λ j t at. let s = was j t at in (goes.1 j s.0 t s.1 at).same.1 ∙ team.numbers j s.0 s.1;
}
  where
    was : (j : ℕ) (t : SessionView) → At j t new → (s : SessionView) × At j s old
    was j t at = let below = at_below new j t at in let long = goes.0 in at_there old j (omega (arith, below, long))

-- sessions of one node, with numbers one after another
pub ascending : (store : StoreView) (config : Sizes) (first : ℕ) (sessions : List SessionView) → AreTeam store first sessions → 0 < length sessions → AreOnOneNode config first (length sessions) → AreAscending config sessions
ascending store config first sessions team some near = record {
  node = near.node;
  some = some;
  slots = λ j s at.
      let below = at_below sessions j s at in
      let within = near.within in
      let number = team.numbers j s at in
      let is = near.is in
      let base = near.node * config.slots in
      let own : s.session ≡ base + (near.slot + j) = omega (arith, number, is) in
      (near.slot + j, omega (arith, below, within), own);
  ascend = λ i j s t up at_s at_t. let one = team.numbers i s at_s in let other = team.numbers j t at_t in omega (arith, up, one, other);
}
