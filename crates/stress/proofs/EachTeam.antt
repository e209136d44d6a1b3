-- The sessions of a team at work, and all teams together.
use Rattle.std.proofs.Common.{◌≡◌, ◌∙◌, ⊎_elim, ℕ, zero, suc, ◌+◌, ◌-◌, ◌*◌, ◌/◌, ◌%◌, ◌<◌, ◌≤◌, ◌++◌, List, [], ◌∷◌, map, length, set, take, drop, All, Option, refl, sym, ap, subst, arith, append-nil, append_assoc, add-mul, div-add-mod', mul_assoc, mul-le-mul_right, suc-mul}
use Rattle.std.specs.Prelude.{Vec, Result, Ok, Err, IfOk, MatchResult}
use Rattle.std.specs.List.{flat_map}
use Rattle.std.proofs.lemmas.Bool.{cases_lt}
use Rattle.std.proofs.lemmas.List.{length_push, length-drop, length-take, drop-map, drop_all}
use Rattle.std.proofs.lemmas.Nat.{mod_below, mod-mul-add}
use Rattle.std.proofs.lemmas.List.Elements.{All-nil, All-append, All-push}
use Rattle.ownlock.specs.Seats.{At}
use Rattle.oplog.specs.declared.configuration.Sizes.{Sizes}
use Rattle.accounts.proofs.Export.{at_below, at_joined, at_none, at_one, at_there}
use Rattle.store_steps.specs.Views.{SessionView}
use Rattle.store.specs.Sessions.{StoreView}
use Rattle.store.proofs.Export.{at_of_all, at_taken}
use Rattle.store_steps.proofs.Export.{at_drop}
use Rattle.stress.specs.declared.calls.ScriptCall.{ScriptCall}
use Rattle.stress.specs.declared.lines.AnsweredCall.{AnsweredCall}
use Rattle.stress.specs.declared.teams.Team.{Team}
use Rattle.stress.specs.Calls.{Called}
use Rattle.stress.specs.Dealt.{dealt, dealt_from}
use Rattle.stress.specs.Playing.{AreSteadyTo, IsNew, AreNew, AreNumbered, IsTold}
use Rattle.stress.specs.Shown.{called, calls_told, timed_of, to_be_told, told_call}
use Rattle.stress.specs.Timed.{IsInTurn}
use Rattle.stress.specs.Teams.{AreAtWork, AreEmpty, AreOnOneNode, AreSeated, AreTeam, AreUntold, AreWhole, Grow, HasMade, HaveMade, IsAnswered, IsAtWork, MakeEach, WereTold}
use Rattle.stress.proofs.Asked.{one_call, one_more}
use Rattle.stress.proofs.Dealt.{last_apart, skipped}
use Rattle.stress.proofs.OneHistory.{asked_more, none_of_none, none_told, told_more}
use Rattle.stress.proofs.Standing.{at_dropped, at_set, read, set_else, stands}
use Rattle.stress.proofs.Steady.{long_of, steady_to}
use Rattle.stress.proofs.Turns.{in_turn}

-- ---- one answer more in each list

-- so many lists have one answer more
pub record GrownSo {X : Type 0} (n : ℕ) (old now : List (Vec AnsweredCall X)) (answers : List AnsweredCall) : Type 0 where
  pub long : length now ≡ length old
  pub each : (j : ℕ) (u v : Vec AnsweredCall X) (a : AnsweredCall) → j < n → At j u old → At j v now → At j a answers → v.items ≡ u.items ++ a ∷ []
  pub others : (j : ℕ) (u : Vec AnsweredCall X) → n ≤ j → At j u old → At j u now

module _ {X : Type 0} (old : List (Vec AnsweredCall X)) (answers : List AnsweredCall) where
  pub one_grown : (n : ℕ) (now : List (Vec AnsweredCall X)) (u v : Vec AnsweredCall X) (a : AnsweredCall) → GrownSo n old now answers → length (set now n v) ≡ length now
      → At n u now → At n a answers → v.items ≡ u.items ++ a ∷ [] → GrownSo (n + 1) old (set now n v) answers
  one_grown n now u v a h kept at_u at_a is = record {
    long = kept ∙ h.long;
    each = λ j w z b below at_w at_z at_b. ⊎_elim (λ e. here j w z b e.0 e.1 at_w at_b) (λ e. let other = e.0 in h.each j w z b (before j below other) at_w e.1 at_b) (at_set now n v j z at_z);
    others = λ j w low at. set_else now n v j w (λ e. omega (arith, e, low)) (h.others j w (omega (arith, low)) at);
  }
    where
      before : (j : ℕ) → j < n + 1 → (j ≡ n → ⊥) → j < n
      before j below other = ⊎_elim (λ lt. lt) (λ le. absurd (other (omega (arith, below, le)))) (cases_lt j n)

      here : (j : ℕ) (w z : Vec AnsweredCall X) (b : AnsweredCall) → j ≡ n → v ≡ z → At j w old → At j b answers → z.items ≡ w.items ++ b ∷ []
      here j w z b k same at_w at_b =
          let was : u ≡ w = at_one now j u w (subst (λ i. At i u now) (sym k) at_u) (h.others j w (omega (arith, k)) at_w) in
          let answer : a ≡ b = at_one answers j a b (subst (λ i. At i a answers) (sym k) at_a) at_b in
          subst (λ (y : Vec AnsweredCall X). y.items ≡ w.items ++ b ∷ []) same (subst (λ (y : Vec AnsweredCall X). v.items ≡ y.items ++ b ∷ []) was (subst (λ y. v.items ≡ u.items ++ y ∷ []) answer is))

  pub all_grown : (n : ℕ) (now : List (Vec AnsweredCall X)) → length answers ≤ n → GrownSo n old now answers → n ≤ length answers → Grow old now answers
  all_grown n now all h few = record {
    long = h.long;
    each = λ j u v a at_u at_v at_a. let below = at_below answers j a at_a in h.each j u v a (omega (arith, below, all)) at_u at_v at_a;
    others = λ j u low at. h.others j u (omega (arith, low, few)) at;
  }

-- ---- round after round

drop_nil : {A : Type 0} (k : ℕ) → drop {0} {A = A} k [] ≡ []
drop_nil zero = refl
drop_nil (suc k) = refl

pub drop_more : {A : Type 0} (j n : ℕ) (xs : List A) → drop j (drop n xs) ≡ drop (n + j) xs
drop_more j zero xs = ap (λ k. drop k xs) (let e : j ≡ 0 + j = omega arith in e)
drop_more j (suc n) [] = drop_nil j ∙ sym (drop_nil (suc n + j))
drop_more j (suc n) (x ∷ xs) = drop_more j n xs ∙ ap (λ k. drop k (x ∷ xs)) (let e : suc (n + j) ≡ suc n + j = omega arith in e)

module _ {X : Type 0} (n first : ℕ) (calls : List ScriptCall) where
  -- before the first round
  pub starts : (sessions : List SessionView) (told : List (Vec AnsweredCall X)) → length told ≡ length sessions → AreEmpty told → ((j : ℕ) (s : SessionView) → At j s sessions → s.note.answered ≡ [])
      → AreAtWork n first calls (drop first calls) sessions told
  starts sessions told long empty new = record {
    long = long;
    each = λ j s v at_s at_v.
        let none : v.items ≡ [] = empty_at told j v at_v empty in
        record {
          dealt = ap (λ (xs : List AnsweredCall). calls_told xs ++ dealt n 0 (to_be_told (drop j (drop first calls)))) none
              ∙ ap (λ (cs : List ScriptCall). dealt n 0 (to_be_told cs)) (drop_more j first calls)
              ∙ ap (dealt n 0) (sym (drop-map one_call (first + j) calls))
              ∙ sym (skipped n (first + j) (to_be_told calls));
          known = subst (IsTold s) (sym none) (none_told s (new j s at_s));
          noted = subst (All (λ t. t.noted.session ≡ first + j)) (sym none) (All-nil (λ t. t.noted.session ≡ first + j));
        };
  }
    where
      empty_at : (xs : List (Vec AnsweredCall X)) (j : ℕ) (v : Vec AnsweredCall X) → At j v xs → AreEmpty xs → v.items ≡ []
      empty_at xs j v at all = at_of_all (λ (z : Vec AnsweredCall X). z.items ≡ []) xs all j v at

  -- one round more
  module _ (left : List ScriptCall) (old new : List SessionView) (told now : List (Vec AnsweredCall X)) (answers : List AnsweredCall) (some : 0 < n) (work : AreAtWork n first calls left old told)
      (made : MakeEach first (take (length old) left) old new answers) (grown : Grow told now answers) where
    abbrev round : List ScriptCall
    round = take (length old) left

    abbrev after : List ScriptCall
    after = drop n left

    goes_on : (j : ℕ) (s t : SessionView) (u v : Vec AnsweredCall X) (c : ScriptCall) (a : AnsweredCall) → At j c round → IsAtWork n (first + j) calls (drop j left) s u.items
        → IsAnswered (first + j) s t c a → v.items ≡ u.items ++ a ∷ [] → IsAtWork n (first + j) calls (drop j after) t v.items
    goes_on j s t u v c a at_c is one more =
        let head : drop j left ≡ c ∷ drop (suc j) left = at_dropped left j c (at_taken (length old) left j c at_c) in
        let behind : drop j after ≡ drop (n - 1) (drop (suc j) left) =
        drop_more j n left ∙ ap (λ k. drop k left) (let e : n + j ≡ suc j + (n - 1) = omega (arith, some) in e) ∙ sym (drop_more (n - 1) (suc j) left) in
        record {
          dealt = ap (λ (xs : List AnsweredCall). calls_told xs ++ dealt n 0 (to_be_told (drop j after))) more
              ∙ one_more n u.items a c (drop j left) (drop (suc j) left) (drop j after) one.call head behind ∙ is.dealt;
          known = subst (IsTold t) (sym more) (asked_more s t u.items a is.known one.asked);
          noted = subst (All (λ z. z.noted.session ≡ first + j)) (sym more) (All-push (λ z. z.noted.session ≡ first + j) u.items a is.noted one.noted);
        }

    -- it has no call in this round, and none after it
    stays : (j : ℕ) (s : SessionView) (u : Vec AnsweredCall X) → length left ≤ j → IsAtWork n (first + j) calls (drop j left) s u.items → IsAtWork n (first + j) calls (drop j after) s u.items
    stays j s u few is =
        let here : drop j left ≡ [] = drop_all j left few in
        let there : drop j after ≡ [] = drop_more j n left ∙ drop_all (n + j) left (omega (arith, few)) in
        subst (λ cs. IsAtWork n (first + j) calls cs s u.items) (here ∙ sym there) is

    few_left : (j : ℕ) → j < length old → length round ≤ j → length left ≤ j
    few_left j below short = let long = length-take (length old) left in ⊎_elim (λ lt. omega (arith, lt, below, short, long)) (λ le. le) (cases_lt j (length left))

    pub next_round : AreAtWork n first calls after new now
    next_round = record {
      long = grown.long ∙ work.long ∙ sym made.long;
      each = λ j t v at_t at_v.
          let below = at_below new j t at_t in
          let long = made.long in
          let lists = work.long in
          let s = at_there old j (omega (arith, below, long)) in
          let u = at_there told j (omega (arith, below, long, lists)) in
          let is = work.each j s.0 u.0 s.1 u.1 in
          ⊎_elim
          (λ lt.
          let count = made.count in
          let c = at_there round j lt in
          let a = at_there answers j (omega (arith, lt, count)) in
          goes_on j s.0 t u.0 v c.0 a.0 c.1 is (made.each j s.0 t c.0 a.0 s.1 at_t c.1 a.1) (grown.each j u.0 v a.0 u.1 at_v a.1))
          (λ le.
          let count = made.count in
          let same : s.0 ≡ t = at_one new j s.0 t (made.others j s.0 le s.1) at_t in
          let list : u.0 ≡ v = at_one now j u.0 v (grown.others j u.0 (omega (arith, le, count)) u.1) at_v in
          let kept = stays j s.0 u.0 (few_left j (omega (arith, below, long)) le) is in
          subst (λ (w : Vec AnsweredCall X). IsAtWork n (first + j) calls (drop j after) t w.items) list (subst (λ z. IsAtWork n (first + j) calls (drop j after) z u.0.items) same kept))
          (cases_lt j (length round));
    }

  -- after the last round
  pub all_done : (left : List ScriptCall) (sessions : List SessionView) (told : List (Vec AnsweredCall X)) → left ≡ [] → first + length sessions ≤ n → AreAtWork n first calls left sessions told
      → HaveMade n first calls sessions told
  all_done left sessions told none within work = record {
    long = work.long;
    each = λ j s v at_s at_v.
        let is = work.each j s v at_s at_v in
        let below = at_below sessions j s at_s in
        let rest : drop j left ≡ [] = drop_all j left (let e = ap length none in omega (arith, e)) in
        let calls_are : calls_told v.items ≡ dealt n (first + j) (to_be_told calls) =
        sym (append-nil (calls_told v.items)) ∙ ap (λ (cs : List ScriptCall). calls_told v.items ++ dealt n 0 (to_be_told cs)) (sym rest) ∙ is.dealt in
        record { dealt = calls_are; known = is.known; turns = in_turn n (first + j) (omega (arith, below, within)) calls v.items calls_are is.noted };
  }

-- ---- teams of all sessions

-- teams of so many make up these slots if and only if none is left
pub parts_of : (n k : ℕ) → 0 < k → n % k ≡ 0 → (parts : ℕ) × (n ≡ parts * k)
parts_of n k some none = (n / k, (let whole = div-add-mod' n k in omega (arith, whole, none)))

pub none_over : (n k parts : ℕ) → 0 < k → n ≡ parts * k → n % k ≡ 0
none_over n k parts some is = ap (λ m. m % k) (is ∙ (let e : parts * k ≡ parts * k + 0 = omega arith in e)) ∙ mod-mul-add parts k 0 some

module _ (config : Sizes) (size number : ℕ) (whole : AreWhole config size) where
  abbrev node : ℕ
  node = number / whole.parts

  abbrev rest : ℕ
  rest = number % whole.parts

  is_there : number * size ≡ node * config.slots + rest * size
  is_there =
      ap (λ k. k * size) (sym (div-add-mod' number whole.parts)) ∙ add-mul (node * whole.parts) rest size
      ∙ ap (λ k. k + rest * size) (mul_assoc node whole.parts size ∙ ap (λ k. node * k) (sym whole.slots))

  is_within : rest * size + size ≤ config.slots
  is_within =
      let below = mod_below number whole.parts whole.more in
      let le : suc rest * size ≤ whole.parts * size = mul-le-mul_right size (omega (arith, below)) in
      let slots = whole.slots in
      omega (arith, le, suc-mul rest size, slots)

  -- a team of this number is of one node
  pub on_one_node : AreOnOneNode config (number * size) size
  on_one_node = record { node = node; slot = rest * size; is = is_there; within = is_within }

-- the sessions that move into a team
pub seated : (store : StoreView) (n size count i : ℕ) (sessions team : List SessionView) → AreNew store n sessions → count * size ≡ n → i < count → team ≡ take size (drop (i * size) sessions)
    → AreUntold store (i * size) team × (length team ≡ size)
seated store n size count i sessions team new all below is = (
  record {
    team = record { own = λ j s at. (theirs j s at).0; numbers = λ j s at. number j s at };
    new = λ j s at. (theirs j s at).1;
  },
  ap length is ∙ (let rest = length-drop (i * size) sessions in let first = length-take size (drop (i * size) sessions) in let whole = end in let long = new.0 in omega (arith, rest, first, whole, long)),
)
  where
    end : i * size + size ≤ n
    end = let le : suc i * size ≤ count * size = mul-le-mul_right size below in omega (arith, le, suc-mul i size, all)

    there : (j : ℕ) (s : SessionView) → At j s team → At (i * size + j) s sessions
    there j s at = at_drop (i * size) sessions j s (at_taken size (drop (i * size) sessions) j s (subst (At j s) is at))

    all_new : All (IsNew store) sessions
    all_new = new.1

    numbered : AreNumbered sessions
    numbered = new.2

    theirs : (j : ℕ) (s : SessionView) → At j s team → IsNew store s
    theirs j s at = at_of_all (IsNew store) sessions all_new (i * size + j) s (there j s at)

    number : (j : ℕ) (s : SessionView) → At j s team → s.session ≡ i * size + j
    number j s at =
        let k = i * size + j in
        ap (λ (z : SessionView). z.session) (sym (read sessions k s (there j s at))) ∙ numbered k s (at_below sessions k s (there j s at))

-- the teams that the sessions move into
pub all_seated : (store : StoreView) (n size : ℕ) (sessions : List SessionView) (teams : List Team) → AreNew store n sessions → length teams * size ≡ n → AreSeated size sessions teams
    → (i : ℕ) (t : Team) → At i t teams → AreUntold store (i * size) t.sessions.items × (length t.sessions.items ≡ size)
all_seated store n size sessions teams new all seats i t at = seated store n size (length teams) i sessions t.sessions.items new all (at_below teams i t at) (seats i t at)

-- all sessions of a store are in teams of this size
pub all_in_teams : (config : Sizes) (size nodes : ℕ) → AreWhole config size → (nodes * config.slots) / size * size ≡ nodes * config.slots
all_in_teams config size nodes whole =
    let n = nodes * config.slots in
    let none = none_over n size (nodes * whole.parts) whole.some (ap (λ k. nodes * k) whole.slots ∙ sym (mul_assoc nodes whole.parts size)) in
    let all = div-add-mod' n size in
    omega (arith, all, none)

-- ---- session after session

module _ (n : ℕ) (calls : List ScriptCall) where
  abbrev all : List (Option Called)
  all = to_be_told calls

  pub none_back : (sessions : List SessionView) (told : List AnsweredCall) → sessions ≡ [] → told ≡ [] → WereTold n calls sessions told
  none_back sessions told none nothing = subst (λ (z : List SessionView × List AnsweredCall). WereTold n calls z.0 z.1) (λ i. (sym none i, sym nothing i)) (record {
    dealt = refl;
    known = none_of_none;
    turns = All-nil (λ t. IsInTurn n (map called calls) (timed_of t));
    steady = λ k below. absurd (omega (arith, below));
  })

  one_back : (sessions : List SessionView) (s : SessionView) (said more : List AnsweredCall) → WereTold n calls sessions said → HasMade n (length sessions) calls s more
      → WereTold n calls (sessions ++ s ∷ []) (said ++ more)
  one_back sessions s said more were made =
      let m = length sessions in
      let long : suc m ≡ length (sessions ++ s ∷ []) = let e = length_push sessions s in omega (arith, e) in
      let joined : calls_told (said ++ more) ≡ dealt_from n 0 (suc m) all =
      both_told said more ∙ (λ i. were.dealt i ++ made.dealt i) ∙ ap (λ j. dealt_from n 0 m all ++ dealt n j all) (let e : m ≡ 0 + m = omega arith in e) ∙ sym (last_apart n 0 m all) in
      record {
        dealt = joined ∙ ap (λ k. dealt_from n 0 k all) long;
        known = told_more sessions s said more were.known made.known;
        turns = All-append (λ t. IsInTurn n (map called calls) (timed_of t)) said more were.turns made.turns;
        steady = subst (λ k. AreSteadyTo n k all (said ++ more)) long
            (steady_to n m all said more (long_of said (dealt_from n 0 m all) were.dealt) (long_of more (dealt n m all) made.dealt) were.steady made.known.steady);
      }
    where
      both_told : (xs ys : List AnsweredCall) → calls_told (xs ++ ys) ≡ calls_told xs ++ calls_told ys
      both_told [] ys = refl
      both_told (x ∷ xs) ys = ap (λ rest. told_call x ∷ rest) (both_told xs ys)

  module _ {X : Type 0} where
    -- what all of these were told, one behind the other
    abbrev pub flat : List (Vec AnsweredCall X) → List AnsweredCall
    flat lists = flat_map (λ (v : Vec AnsweredCall X). v.items) lists

    -- a team more
    pub team_back : (team sessions : List SessionView) (lists : List (Vec AnsweredCall X)) (said : List AnsweredCall) → WereTold n calls sessions said → HaveMade n (length sessions) calls team lists
        → WereTold n calls (sessions ++ team) (said ++ flat lists)
    team_back [] sessions [] said were made =
        subst (λ (z : List SessionView × List AnsweredCall). WereTold n calls z.0 z.1) (λ i. (sym (append-nil sessions) i, sym (append-nil said) i)) were
    team_back [] sessions (v ∷ vs) said were made = let long = made.long in absurd (omega (arith, long))
    team_back (s ∷ ss) sessions [] said were made = let long = made.long in absurd (omega (arith, long))
    team_back (s ∷ ss) sessions (v ∷ vs) said were made =
        let m = length sessions in
        let first : HasMade n m calls s v.items = subst (λ k. HasMade n k calls s v.items) (let e : m + 0 ≡ m = omega arith in e) (made.each 0 s v refl refl) in
        let rest : HaveMade n (length (sessions ++ s ∷ [])) calls ss vs = record {
          long = let long = made.long in omega (arith, long);
          each = λ j t u at_t at_u. subst (λ k. HasMade n k calls t u.items) (let more = length_push sessions s in let e : m + suc j ≡ length (sessions ++ s ∷ []) + j = omega (arith, more) in e) (made.each (suc j) t u at_t at_u);
        } in
        subst (λ (z : List SessionView × List AnsweredCall). WereTold n calls z.0 z.1) (λ i. (append_assoc sessions (s ∷ []) ss i, append_assoc said v.items (flat vs) i))
        (team_back ss (sessions ++ s ∷ []) vs (said ++ v.items) (one_back sessions s said v.items were first) rest)

-- a team's sessions stand behind those that are back
pub team_behind : (store : StoreView) (sessions team : List SessionView) → AreTeam store 0 sessions → AreTeam store (length sessions) team → AreTeam store 0 (sessions ++ team)
team_behind store sessions team front back = record {
  own = λ j s at. ⊎_elim (λ there. front.own j s there) (λ h. back.own h.0 s h.2) (at_joined sessions team j s at);
  numbers = λ j s at. ⊎_elim (λ there. front.numbers j s there) (λ h. let number = back.numbers h.0 s h.2 in let place = h.1 in omega (arith, number, place)) (at_joined sessions team j s at);
}

pub no_team : (store : StoreView) → AreTeam store 0 []
no_team store = record { own = λ j s at. absurd (at_none j s at); numbers = λ j s at. absurd (at_none j s at) }

-- a team more, if memory is left
module _ {X E V : Type 0} (n : ℕ) (calls : List ScriptCall) (items : V → List AnsweredCall) where
  pub joined_back : (sessions team : List SessionView) (said : Result V E) (told : Result (Vec (Vec AnsweredCall X) X) E) (both : Result V E)
      → IfOk both (λ v. MatchResult said (λ a. MatchResult told (λ lists. items v ≡ items a ++ flat_map (λ (list : Vec AnsweredCall X). list.items) lists.items) (λ _. ⊥)) (λ _. ⊥))
      → IfOk said (λ v. WereTold n calls sessions (items v)) → IfOk told (λ v. HaveMade n (length sessions) calls team v.items) → IfOk both (λ v. WereTold n calls (sessions ++ team) (items v))
  joined_back sessions team said told (Err e) h were made = tt
  joined_back sessions team (Err e) told (Ok v) h were made = absurd h
  joined_back sessions team (Ok a) (Err e) (Ok v) h were made = absurd h
  joined_back sessions team (Ok a) (Ok lists) (Ok v) h were made = subst (WereTold n calls (sessions ++ team)) (sym h) (team_back n calls team sessions lists.items (items a) were made)

-- all sessions, by their numbers
pub numbered_team : (store : StoreView) (sessions : List SessionView) → AreTeam store 0 sessions → AreNumbered sessions
numbered_team store sessions team k d below = let number = team.numbers k _ (stands sessions k d below) in omega (arith, number)
