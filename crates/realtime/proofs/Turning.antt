-- Whether each session makes its calls one after the other.
use Rattle.std.proofs.Common.{◌≡◌, ◌≢◌, ◌⊎◌, ℕ, ◌+◌, ◌<◌, ◌≤◌, max, Bool, true, false, ◌&&◌, ◌||◌, eqb, ltb, leb, List, length, get_or, set, replicate, refl, sym, ap, subst, ◌∙◌, arith, Contains, inl, inr, ⊎_elim}
use Rattle.std.specs.List.{list_any, position_or_len}
use Rattle.std.proofs.lemmas.Bool.{ltb-true, leb-true, eqb-true, eq-eqb, lt-ltb, le-leb, and_from, and_parts, or_left, or_right, or_cases, cases_eq, cases_lt, false_from_ne_true}
use Rattle.std.proofs.lemmas.List.{length-set, get_or-set_other, get_or-replicate, length-replicate, get_or_default}
use Rattle.std.proofs.lemmas.Grind.{get_or-set_at}
use Rattle.std.proofs.lemmas.List.Folds.{Any-from_list_any, list_any_at}
use Rattle.std.proofs.lemmas.List.Sums.{position_or_len_is}
use Rattle.realtime.specs.declared.histories.Timed.{Timed}
use Rattle.realtime.specs.declared.orders.Turns.{Turns}
use Rattle.realtime.specs.RealTime.{is_out_of_turn}
use Rattle.realtime.specs.Judging.{AreGood, AreBeginnings, AreGreatest, AreTurns, IsOnly, IsFirstOut}

-- a call of the same session began earlier, and was not back yet or doesn't stand on an earlier line of the script
abbrev pub hinders : Timed → Timed → Bool
hinders call earlier = eqb earlier.session call.session && (ltb earlier.begun call.begun && (ltb call.begun earlier.ended || leb call.line earlier.line))

pub contains_at : (calls : List Timed) (k : ℕ) (d : Timed) → k < length calls → Contains calls (get_or calls k d)
contains_at calls k d lt = (k, lt, get_or_default calls k (get_or calls k d) d lt)

-- a test that one of the calls passes
pub some_passes : (p : Timed → Bool) (calls : List Timed) (a : Timed) → Contains calls a → p a ≡ true → list_any p calls ≡ true
some_passes p calls a has e = list_any_at p calls has.0 a has.1 (ap p has.2 ∙ e)

-- ---- where the calls begin

module _ (numbers : ℕ) (calls : List Timed) (good : AreGood numbers calls) where
  pub begins_apart : (j k : ℕ) (d e : Timed) → j < k → k < length calls → (get_or calls j d).begun ≢ (get_or calls k e).begun
  begins_apart j k d e lt within same = good.apart j k d lt within (same ∙ ap (λ (t : Timed). t.begun) (get_or_default calls k e d within))

  pub begins_next : (k : ℕ) (e : Timed) (begins : List ℕ) → k < length calls → (get_or calls k e).begun < length begins → AreBeginnings calls k begins
      → AreBeginnings calls (k + 1) (set begins (get_or calls k e).begun k)
  begins_next k e begins within inside b = record {
    found = λ j d lt. ⊎_elim
        (λ old. get_or-set_other begins (get_or calls k e).begun (get_or calls j d).begun k 0 (begins_apart j k d e old within) ∙ b.found j d old)
        (λ here. let same : j ≡ k = omega arith in
        get_or-set_at begins (get_or calls k e).begun (get_or calls j d).begun k 0
        (ap (λ i. (get_or calls i d).begun) same ∙ ap (λ (t : Timed). t.begun) (get_or_default calls k d e within)) inside ∙ sym same)
        (cases_lt j k);
    only = λ x d lt has. ⊎_elim
        (λ here. let at : get_or (set begins (get_or calls k e).begun k) x 0 ≡ k = get_or-set_at begins (get_or calls k e).begun x k 0 here inside in
        ap (λ i. (get_or calls i d).begun) at ∙ ap (λ (t : Timed). t.begun) (get_or_default calls k d e within) ∙ sym here)
        (λ other. let at = get_or-set_other begins (get_or calls k e).begun x k 0 other in
        ap (λ i. (get_or calls i d).begun) at ∙ b.only x d (omega (arith, length-set begins (get_or calls k e).begun k, lt)) (subst (λ i. i < length calls) at has))
        (cases_eq x (get_or calls k e).begun);
  }

  module _ (begins : List ℕ) (b : AreBeginnings calls (length calls) begins) (x : ℕ) where
    -- at a number where no call begins
    pub none_begins : length calls ≤ get_or begins x 0 → (a : Timed) → Contains calls a → a.begun ≢ x
    none_begins past a has here =
        let at : get_or begins a.begun 0 ≡ has.0 = ap (λ (t : Timed). get_or begins t.begun 0) (sym has.2) ∙ b.found has.0 a has.1 in
        let there : get_or begins x 0 ≡ has.0 = ap (λ i. get_or begins i 0) (sym here) ∙ at in
        omega (arith, there, past, has.1)

    -- at one where a call does
    pub one_begins : (k : ℕ) (d : Timed) → x < length begins → get_or begins x 0 ≡ k → k < length calls → ((get_or calls k d).begun ≡ x) × IsOnly calls (get_or calls k d)
    one_begins k d inside at within =
        let begun : (get_or calls k d).begun ≡ x = subst (λ i. (get_or calls i d).begun ≡ x) at (b.only x d inside (omega (arith, at, within))) in (
          begun,
          record {
            one = contains_at calls k d within;
            only = λ a has same.
                let there : get_or begins a.begun 0 ≡ has.0 = ap (λ (t : Timed). get_or begins t.begun 0) (sym has.2) ∙ b.found has.0 a has.1 in
                let index : has.0 ≡ k = sym there ∙ ap (λ i. get_or begins i 0) (same ∙ begun) ∙ at in
                sym has.2 ∙ ap (λ i. get_or calls i a) index ∙ get_or_default calls k a d within;
            session = good.sessions k d within;
            line = good.lines k d within;
          },
        )

    -- the call's index is no other's
    pub one_index : (k j : ℕ) (d : Timed) → get_or begins x 0 ≡ k → j < length calls → (get_or calls j d).begun ≡ x → j ≡ k
    one_index k j d at within begun = sym (b.found j d within) ∙ ap (λ i. get_or begins i 0) begun ∙ at

-- ---- what is kept of each session

module _ (calls : List Timed) (measure : Timed → ℕ) where
  pub greatest_none : (n : ℕ) → AreGreatest calls measure 0 (replicate n 0)
  greatest_none n = record {
    most = λ a has lt. absurd (omega arith);
    some = λ s lt. inl (get_or-replicate n s 0 0 (omega (arith, lt, length-replicate {A = ℕ} n 0)));
  }

  pub greatest_skip : (x : ℕ) (g : List ℕ) → ((a : Timed) → Contains calls a → a.begun ≢ x) → AreGreatest calls measure x g → AreGreatest calls measure (x + 1) g
  greatest_skip x g none h = record {
    most = λ a has lt. h.most a has (let other = none a has in omega (arith, other, lt));
    some = λ s lt. ⊎_elim inl (λ w. inr (w.0, w.1, w.2, omega (arith, w.3), w.4)) (h.some s lt);
  }

  module _ (g : List ℕ) (call : Timed) (only : IsOnly calls call) (long : call.session < length g) (h : AreGreatest calls measure call.begun g) where
    abbrev top : ℕ
    top = max (get_or g call.session 0) (measure call)

    abbrev after : List ℕ
    after = set g call.session top

    at_own : get_or after call.session 0 ≡ top
    at_own = get_or-set_at g call.session call.session top 0 refl long

    raised : (s : ℕ) → get_or g s 0 ≤ get_or after s 0
    raised s = ⊎_elim
        (λ e. let here = get_or-set_at g call.session s top 0 e long in let same = ap (λ i. get_or g i 0) e in omega (arith, here, same))
        (λ n. let other = get_or-set_other g call.session s top 0 n in omega (arith, other))
        (cases_eq s call.session)

    abbrev Shown : ℕ → Type 0
    Shown s = (get_or after s 0 ≡ 0) ⊎ ((a : Timed) × Contains calls a × (a.session ≡ s) × (a.begun < call.begun + 1) × (measure a ≡ get_or after s 0))

    own_shown : (s : ℕ) → s ≡ call.session → Shown s
    own_shown s e =
        let here : get_or after s 0 ≡ top = get_or-set_at g call.session s top 0 e long in
        ⊎_elim
        (λ less. let is : top ≡ get_or g s 0 = (let same = ap (λ i. get_or g i 0) e in omega (arith, same, less)) in
        ⊎_elim (λ z. inl (here ∙ is ∙ z)) (λ w. inr (w.0, w.1, w.2, omega (arith, w.3), w.4 ∙ sym is ∙ sym here)) (h.some s (omega (arith, e, long))))
        (λ more. inr (call, only.one, sym e, omega arith, (let is : top ≡ measure call = omega (arith, more) in sym is ∙ sym here)))
        (cases_lt (measure call) (get_or g call.session 0))

    pub greatest_kept : AreGreatest calls measure (call.begun + 1) after
    greatest_kept = record {
      most = λ a has lt. ⊎_elim
          (λ old. let le = h.most a has old in let up = raised a.session in omega (arith, le, up))
          (λ here. let same : a ≡ call = only.only a has (omega arith) in
          subst (λ (t : Timed). measure t ≤ get_or after t.session 0) (sym same) (let own = at_own in omega (arith, own)))
          (cases_lt a.begun call.begun);
      some = λ s lt. ⊎_elim
          (λ e. own_shown s e)
          (λ n. let other = get_or-set_other g call.session s top 0 n in
          ⊎_elim (λ z. inl (other ∙ z)) (λ w. inr (w.0, w.1, w.2, omega (arith, w.3), w.4 ∙ sym other)) (h.some s (omega (arith, lt, length-set g call.session top))))
          (cases_eq s call.session);
    }

pub turns_none : (calls : List Timed) → AreTurns calls 0 (record { ended = replicate 256 0; line = replicate 256 0 })
turns_none calls = record {
  ended = greatest_none calls (λ call. call.ended) 256;
  line = greatest_none calls (λ call. call.line) 256;
  sessions = (length-replicate {A = ℕ} 256 0, length-replicate {A = ℕ} 256 0);
}

pub turns_skip : (calls : List Timed) (x : ℕ) (t : Turns) → ((a : Timed) → Contains calls a → a.begun ≢ x) → AreTurns calls x t → AreTurns calls (x + 1) t
turns_skip calls x t none h = record {
  ended = greatest_skip calls (λ call. call.ended) x t.ended none h.ended;
  line = greatest_skip calls (λ call. call.line) x t.line none h.line;
  sessions = h.sessions;
}

module _ (calls : List Timed) (call : Timed) (t : Turns) (h : AreTurns calls call.begun t) (only : IsOnly calls call) where
  session_in : (xs : List ℕ) → length xs ≡ 256 → call.session < length xs
  session_in xs long = omega (arith, long, only.session)

  pub turns_kept : (n : Turns) → n.ended ≡ set t.ended call.session (max (get_or t.ended call.session 0) call.ended)
      → n.line ≡ set t.line call.session (max (get_or t.line call.session 0) call.line) → AreTurns calls (call.begun + 1) n
  turns_kept n ended line = record {
    ended = rw ended (greatest_kept calls (λ call. call.ended) t.ended call only (session_in t.ended h.sessions.0) h.ended);
    line = rw line (greatest_kept calls (λ call. call.line) t.line call only (session_in t.line h.sessions.1) h.line);
    sessions = (ap length ended ∙ length-set t.ended call.session _ ∙ h.sessions.0, ap length line ∙ length-set t.line call.session _ ∙ h.sessions.1);
  }

  hindered_by : (a : Timed) → Contains calls a → a.session ≡ call.session → a.begun < call.begun → (call.begun < a.ended) ⊎ (call.line ≤ a.line) → is_out_of_turn calls call ≡ true
  hindered_by a has session begun why =
      some_passes (hinders call) calls a has
      (and_from _ _ (eq-eqb _ _ session) (and_from _ _ (lt-ltb _ _ begun)
      (⊎_elim (λ lt. or_left _ _ (lt-ltb _ _ lt)) (λ le. or_right _ _ (le-leb _ _ le)) why)))

  pub not_back : call.begun < get_or t.ended call.session 0 → is_out_of_turn calls call ≡ true
  not_back lt = ⊎_elim
      (λ z. absurd (omega (arith, z, lt)))
      (λ w. hindered_by w.0 w.1 w.2 w.3 (inl (omega (arith, w.4, lt))))
      (h.ended.some call.session (session_in t.ended h.sessions.0))

  pub not_later : call.line ≤ get_or t.line call.session 0 → is_out_of_turn calls call ≡ true
  not_later le = ⊎_elim
      (λ z. absurd (let some = only.line in omega (arith, z, le, some)))
      (λ w. hindered_by w.0 w.1 w.2 w.3 (inr (omega (arith, w.4, le))))
      (h.line.some call.session (session_in t.line h.sessions.1))

  pub in_turn : get_or t.ended call.session 0 ≤ call.begun → get_or t.line call.session 0 < call.line → is_out_of_turn calls call ≡ false
  in_turn back later = false_from_ne_true _ (λ out.
      let some = Any-from_list_any (hinders call) calls out in
      let a : Timed = some.1 in
      let has : Contains calls a = (some.0, some.2, some.3) in
      let first = and_parts _ _ some.4 in
      let second = and_parts _ _ first.1 in
      let same : a.session ≡ call.session = eqb-true _ _ first.0 in
      let begun : a.begun < call.begun = ltb-true _ _ second.0 in
      let ended : a.ended ≤ get_or t.ended call.session 0 = subst (λ s. a.ended ≤ get_or t.ended s 0) same (h.ended.most a has begun) in
      let line : a.line ≤ get_or t.line call.session 0 = subst (λ s. a.line ≤ get_or t.line s 0) same (h.line.most a has begun) in
      ⊎_elim
      (λ e. let lt : call.begun < a.ended = ltb-true _ _ e in omega (arith, lt, ended, back))
      (λ e. let le : call.line ≤ a.line = leb-true _ _ e in omega (arith, le, line, later))
      (or_cases _ _ second.1))

-- ---- the first that is out of turn

pub first_none : (calls : List Timed) → IsFirstOut calls 0 (length calls)
first_none calls = record {
  within = omega arith;
  least = λ k d lt begun out. absurd (omega arith);
  is = λ d lt. absurd (omega arith);
}

module _ (calls : List Timed) (x first : ℕ) (h : IsFirstOut calls x first) where
  pub first_skip : ((a : Timed) → Contains calls a → a.begun ≢ x) → IsFirstOut calls (x + 1) first
  first_skip none = record {
    within = h.within;
    least = λ k d lt begun out. h.least k d lt (let other = none (get_or calls k d) (contains_at calls k d lt) in omega (arith, other, begun)) out;
    is = h.is;
  }

  module _ (k : ℕ) (e : Timed) (within : k < length calls) (one : (j : ℕ) (d : Timed) → j < length calls → (get_or calls j d).begun ≡ x → j ≡ k) where
    pub first_kept : (first ≤ k) ⊎ (is_out_of_turn calls (get_or calls k e) ≡ false) → IsFirstOut calls (x + 1) first
    first_kept why = record {
      within = h.within;
      least = λ j d lt begun out. ⊎_elim
          (λ old. h.least j d lt old out)
          (λ here. let same : j ≡ k = one j d lt (omega arith) in ⊎_elim
          (λ le. omega (arith, le, same))
          (λ no. absurd (let found : is_out_of_turn calls (get_or calls k e) ≡ true = subst (λ (t : Timed). is_out_of_turn calls t ≡ true) (ap (λ i. get_or calls i d) same ∙ get_or_default calls k d e within) out in cc))
          why)
          (cases_lt (get_or calls j d).begun x);
      is = h.is;
    }

    pub first_found : k < first → is_out_of_turn calls (get_or calls k e) ≡ true → IsFirstOut calls (x + 1) k
    first_found before out = record {
      within = omega arith;
      least = λ j d lt begun out. ⊎_elim
          (λ old. let le = h.least j d lt old out in omega (arith, le))
          (λ here. let same : j ≡ k = one j d lt (omega arith) in omega (arith, same))
          (cases_lt (get_or calls j d).begun x);
      is = λ d lt. subst (λ (t : Timed). is_out_of_turn calls t ≡ true) (get_or_default calls k e d within) out;
    }

pub first_is : (numbers : ℕ) (calls : List Timed) (first : ℕ) → AreGood numbers calls → IsFirstOut calls numbers first → first ≡ position_or_len (is_out_of_turn calls) calls
first_is numbers calls first good h =
    let zero : Timed = record { session = 0; line = 0; begun = 0; ended = 0; rank = 0 } in
    sym (position_or_len_is (is_out_of_turn calls) calls first zero h.within
    (λ k lt. false_from_ne_true _ (λ out.
    let inside : k < length calls = (let most = h.within in omega (arith, most, lt)) in
    let back = good.backs k zero inside in
    let low = good.below k zero inside in
    let le = h.least k zero inside (omega (arith, back, low)) out in
    omega (arith, le, lt)))
    (h.is zero))
