-- The outcome of a manifest, from its good lines and its first bad one.
use Rattle.maps.specs.declared.shapes.MapLimits.{MapLimits}
use Rattle.maps.specs.Shapes.{AreLimits}
use Rattle.std.proofs.Common.{◌≡◌, ◌⊎◌, inl, inr, ℕ, ◌+◌, ◌-◌, ◌<◌, ◌≤◌, ◌^◌, min, Bool, true, false, cond, eqb, List, [], ◌∷◌, ◌++◌, length, Result, Ok, Err, refl, sym, ap, ap₂, subst, ◌∙◌, arith}
use Rattle.std.proofs.lemmas.Bool.{ne_eqb, eqb-true, eqb-false, cases_lt}
use Rattle.std.proofs.Math.Nat.{min-eq_left, min-eq_right, min-le_right}
use Rattle.std.proofs.lemmas.List.{nil_from_length, append-nil}
use Rattle.loader.specs.declared.refusals.LoadFault.{LoadFault}
use Rattle.loader.specs.declared.refusals.LoadFault.TheVariants as faults
use Rattle.loader.specs.declared.refusals.LoadRefusal.{LoadRefusal}
use Rattle.text.specs.Lines.{lines_of, next_line}
use Rattle.loader.specs.CatalogueView.{CatalogueView}
use Rattle.loader.specs.ProgramFiles.{Files}
use Rattle.loader.specs.Loading.{Outcome, either, after_line, after_lines, nothing_yet, loaded_within}
use Rattle.loader.specs.Offers.{IsFirstBad, HasNoMap, LoadedIsOffered, RefusedIsFirstBad}
use Rattle.loader.proofs.Passed.{Passes, offers_from}
use Rattle.loader.proofs.Offered.{offers_to}

-- the number of the line behind these, from that of the first
abbrev pub number_behind : ℕ → List (List ℕ) → ℕ
number_behind n [] = n
number_behind n (l ∷ ls) = number_behind (next_line n) ls

abbrev last : ℕ
last = 2 ^ 32 - 1

pub numbered : (n : ℕ) (ls : List (List ℕ)) → n ≤ last → number_behind n ls ≡ min (n + length ls) last
numbered n [] le = sym (min-eq_left (omega (arith, le))) ∙ ap (λ m. min m last) (omega arith)
numbered n (l ∷ ls) le =
    let rest : number_behind (next_line n) ls ≡ min (next_line n + length ls) last = numbered (next_line n) ls (min-le_right (n + 1) last) in
    rest ∙ one_on n (length ls) (length (l ∷ ls)) (omega arith) (cases_lt n last) le
  where
    one_on : (n k m : ℕ) → m ≡ k + 1 → (n < last) ⊎ (last ≤ n) → n ≤ last → min (next_line n + k) last ≡ min (n + m) last
    one_on n k m e (inl lt) le =
        let next : next_line n ≡ n + 1 = min-eq_left (omega (arith, lt)) in
        ap (λ x. min x last) (omega (arith, next, e))
    one_on n k m e (inr ge) le =
        let next : next_line n ≡ last = min-eq_right (omega (arith, ge)) in
        let left : min (next_line n + k) last ≡ last = min-eq_right (omega (arith, next)) in
        let right : min (n + m) last ≡ last = min-eq_right (omega (arith, ge)) in
        left ∙ sym right

pub through : (lim : MapLimits) (fs : Files) (before rest : List (List ℕ)) (n : ℕ) (v w : CatalogueView) → Passes lim fs before v w → after_lines lim fs n v (before ++ rest) ≡ after_lines lim fs (number_behind n before) w rest
unfolding after_lines
through lim fs [] rest n v w p = ap (λ x. after_lines lim fs n x rest) p
through lim fs (l ∷ ls) rest n v w (u, step, p) = rw step (through lim fs ls rest (next_line n) u w p)

-- ---- a good outcome

end_ok : (n : ℕ) (v c : CatalogueView) (t : Bool) → t ≡ eqb (length v.shapes) 0 → cond {A = Outcome} t (Err (record { line = n; why = faults.BadLine })) (Ok v) ≡ Ok c → (eqb (length v.shapes) 0 ≡ false) × (v ≡ c)
end_ok n v c true is e = absurd cc
end_ok n v c false is e = (sym is, cc)

first_ok : (lim : MapLimits) (fs : Files) (n : ℕ) (ls : List (List ℕ)) (c : CatalogueView) (r : Result CatalogueView LoadFault)
    → either (λ why. Err (record { line = n; why = why })) (λ after. after_lines lim fs (next_line n) after ls) r ≡ Ok c → (w : CatalogueView) × (r ≡ Ok w) × (after_lines lim fs (next_line n) w ls ≡ Ok c)
first_ok lim fs n ls c (Ok w) e = (w, refl, e)
first_ok lim fs n ls c (Err why) e = absurd cc

pub ok_from : (lim : MapLimits) (fs : Files) (ls : List (List ℕ)) (n : ℕ) (v c : CatalogueView) → after_lines lim fs n v ls ≡ Ok c → Passes lim fs ls v c × (0 < length c.shapes)
unfolding after_lines
ok_from lim fs [] n v c e =
    let end = end_ok n v c (eqb (length v.shapes) 0) refl e in
    (end.1, subst (λ x. 0 < length x.shapes) end.1 (omega (arith, eqb-false _ _ end.0)))
ok_from lim fs (l ∷ ls) n v c e =
    let first = first_ok lim fs n ls c (after_line lim fs v l) e in
    let rest = ok_from lim fs ls (next_line n) first.0 c first.2 in
    ((first.0, first.1, rest.0), rest.1)

pub ok_to : (lim : MapLimits) (fs : Files) (ls : List (List ℕ)) (n : ℕ) (v c : CatalogueView) → Passes lim fs ls v c → 0 < length c.shapes → after_lines lim fs n v ls ≡ Ok c
unfolding after_lines
ok_to lim fs [] n v c p some =
    let on : eqb (length v.shapes) 0 ≡ false = ne_eqb _ _ (λ z. absurd (omega (arith, z, ap (λ x. length x.shapes) p, some))) in
    rw on (ap Ok p)
ok_to lim fs (l ∷ ls) n v c (w, step, p) some = rw step (ok_to lim fs ls (next_line n) w c p some)

pub loaded_is_offered : LoadedIsOffered
unfolding loaded_within
loaded_is_offered lim text files c ok = (
  λ e. let p = ok_from lim files (lines_of text) 1 nothing_yet c e in (offers_from lim files (lines_of text) c ok p.0, p.1),
  λ o. ok_to lim files (lines_of text) 1 nothing_yet c (offers_to lim files (lines_of text) c o.0) o.1,
)

-- ---- a refusal

pub record BadAt (lim : MapLimits) (fs : Files) (ls : List (List ℕ)) (n : ℕ) (v : CatalogueView) (e : LoadRefusal) : Type 0 where
  pub before : List (List ℕ)
  pub line : List ℕ
  pub rest : List (List ℕ)
  pub split : ls ≡ before ++ line ∷ rest
  pub so_far : CatalogueView
  pub good : Passes lim fs before v so_far
  pub bad : after_line lim fs so_far line ≡ Err e.why
  pub number : e.line ≡ number_behind n before

pub record NoMapAt (lim : MapLimits) (fs : Files) (ls : List (List ℕ)) (n : ℕ) (v : CatalogueView) (e : LoadRefusal) : Type 0 where
  pub so_far : CatalogueView
  pub good : Passes lim fs ls v so_far
  pub none : so_far.shapes ≡ []
  pub why : e.why ≡ faults.BadLine
  pub number : e.line ≡ number_behind n ls

abbrev pub RefusedAt : MapLimits → Files → List (List ℕ) → ℕ → CatalogueView → LoadRefusal → Type 0
RefusedAt lim fs ls n v e = BadAt lim fs ls n v e ⊎ NoMapAt lim fs ls n v e

end_err : (lim : MapLimits) (fs : Files) (n : ℕ) (v : CatalogueView) (e : LoadRefusal) (t : Bool) → t ≡ eqb (length v.shapes) 0 → cond {A = Outcome} t (Err (record { line = n; why = faults.BadLine })) (Ok v) ≡ Err e → NoMapAt lim fs [] n v e
end_err lim fs n v e true is h = record { so_far = v; good = refl; none = nil_from_length v.shapes (eqb-true _ _ (sym is)); why = cc; number = cc }
end_err lim fs n v e false is h = absurd cc

later : (lim : MapLimits) (fs : Files) (l : List ℕ) (ls : List (List ℕ)) (n : ℕ) (v w : CatalogueView) (e : LoadRefusal) → after_line lim fs v l ≡ Ok w → RefusedAt lim fs ls (next_line n) w e → RefusedAt lim fs (l ∷ ls) n v e
later lim fs l ls n v w e step (inl b) =
    inl
    (record {
      before = l ∷ b.before;
      line = b.line;
      rest = b.rest;
      split = ap (λ x. l ∷ x) b.split;
      so_far = b.so_far;
      good = (w, step, b.good);
      bad = b.bad;
      number = b.number;
    })
later lim fs l ls n v w e step (inr b) =
    inr
    (record {
      so_far = b.so_far;
      good = (w, step, b.good);
      none = b.none;
      why = b.why;
      number = b.number;
    })

first_err : (lim : MapLimits) (fs : Files) (l : List ℕ) (ls : List (List ℕ)) (n : ℕ) (v : CatalogueView) (e : LoadRefusal) (r : Result CatalogueView LoadFault) → after_line lim fs v l ≡ r
    → either (λ why. Err (record { line = n; why = why })) (λ after. after_lines lim fs (next_line n) after ls) r ≡ Err e
    → ((w : CatalogueView) → after_lines lim fs (next_line n) w ls ≡ Err e → RefusedAt lim fs ls (next_line n) w e) → RefusedAt lim fs (l ∷ ls) n v e
first_err lim fs l ls n v e (Ok w) is h more = later lim fs l ls n v w e is (more w h)
first_err lim fs l ls n v e (Err why) is h more =
    let same : why ≡ e.why = cc in
    inl
    (record {
      before = [];
      line = l;
      rest = ls;
      split = refl;
      so_far = v;
      good = refl;
      bad = is ∙ ap Err same;
      number = cc;
    })

pub err_from : (lim : MapLimits) (fs : Files) (ls : List (List ℕ)) (n : ℕ) (v : CatalogueView) (e : LoadRefusal) → after_lines lim fs n v ls ≡ Err e → RefusedAt lim fs ls n v e
unfolding after_lines
err_from lim fs [] n v e h = inr (end_err lim fs n v e (eqb (length v.shapes) 0) refl h)
err_from lim fs (l ∷ ls) n v e h = first_err lim fs l ls n v e (after_line lim fs v l) refl h (λ w g. err_from lim fs ls (next_line n) w e g)

stops_at : (lim : MapLimits) (fs : Files) (n : ℕ) (v : CatalogueView) (line : List ℕ) (rest : List (List ℕ)) (why : LoadFault) → after_line lim fs v line ≡ Err why → after_lines lim fs n v (line ∷ rest) ≡ Err (record { line = n; why = why })
unfolding after_lines
stops_at lim fs n v line rest why bad = rw bad refl

ends_at : (lim : MapLimits) (fs : Files) (n : ℕ) (v : CatalogueView) → v.shapes ≡ [] → after_lines lim fs n v [] ≡ Err (record { line = n; why = faults.BadLine })
unfolding after_lines
ends_at lim fs n v none = rw none refl

pub err_to : (lim : MapLimits) (fs : Files) (ls : List (List ℕ)) (n : ℕ) (v : CatalogueView) (e : LoadRefusal) → RefusedAt lim fs ls n v e → after_lines lim fs n v ls ≡ Err e
err_to lim fs ls n v e (inl b) =
    ap (after_lines lim fs n v) b.split ∙ through lim fs b.before (b.line ∷ b.rest) n v b.so_far b.good ∙ stops_at lim fs (number_behind n b.before) b.so_far b.line b.rest e.why b.bad
    ∙ ap (λ m. Err (record { line = m; why = e.why })) (sym b.number)
err_to lim fs ls n v e (inr b) =
    ap (after_lines lim fs n v) (sym (append-nil ls)) ∙ through lim fs ls [] n v b.so_far b.good ∙ ends_at lim fs (number_behind n ls) b.so_far b.none
    ∙ ap₂ (λ m w. Err (record { line = m; why = w })) (sym b.number) (sym b.why)

behind_one : (ls : List (List ℕ)) → number_behind 1 ls ≡ next_line (length ls)
behind_one ls = numbered 1 ls (omega arith) ∙ ap (λ m. min m last) (omega arith)

shown : (lim : MapLimits) (fs : Files) (ls : List (List ℕ)) (e : LoadRefusal) → AreLimits lim → RefusedAt lim fs ls 1 nothing_yet e → IsFirstBad lim fs ls e ⊎ HasNoMap lim fs ls e
shown lim fs ls e ok (inl b) =
    inl (record { before = b.before; line = b.line; rest = b.rest; split = b.split; so_far = b.so_far; good = offers_from lim fs b.before b.so_far ok b.good; bad = b.bad; number = b.number ∙ behind_one b.before })
shown lim fs ls e ok (inr b) =
    inr (record { so_far = b.so_far; good = offers_from lim fs ls b.so_far ok b.good; none = b.none; why = b.why; number = b.number ∙ behind_one ls })

meant : (lim : MapLimits) (fs : Files) (ls : List (List ℕ)) (e : LoadRefusal) → IsFirstBad lim fs ls e ⊎ HasNoMap lim fs ls e → RefusedAt lim fs ls 1 nothing_yet e
meant lim fs ls e (inl b) =
    inl (record { before = b.before; line = b.line; rest = b.rest; split = b.split; so_far = b.so_far; good = offers_to lim fs b.before b.so_far b.good; bad = b.bad; number = b.number ∙ sym (behind_one b.before) })
meant lim fs ls e (inr b) =
    inr (record { so_far = b.so_far; good = offers_to lim fs ls b.so_far b.good; none = b.none; why = b.why; number = b.number ∙ sym (behind_one ls) })

pub refused_is_first_bad : RefusedIsFirstBad
unfolding loaded_within
refused_is_first_bad lim text files e ok = (
  λ h. shown lim files (lines_of text) e ok (err_from lim files (lines_of text) 1 nothing_yet e h),
  λ b. err_to lim files (lines_of text) 1 nothing_yet e (meant lim files (lines_of text) e b),
)
