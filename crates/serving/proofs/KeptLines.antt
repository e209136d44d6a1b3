-- A line of which the first 513 bytes are kept: these say what the whole line says.
use Rattle.std.proofs.Common.{◌≡◌, ℕ, ◌<◌, ◌≤◌, Bool, true, false, cond, List, [], ◌∷◌, ◌++◌, length, take, Option, Some, None, refl, sym, ap, ◌∙◌, arith}
use Rattle.std.specs.Prelude.{nat_lt, option_and_then}
use Rattle.std.proofs.lemmas.List.{take_all, take-append-le, length-take, length-take-le, length-append}
use Rattle.std.proofs.lemmas.Slice.Eq.{bytes_eq-Decides}
use Rattle.std.proofs.lemmas.Bool.{ltb-true, ltb-false, lt-ltb}
use Rattle.std.specs.Result.{result_ok}
use Rattle.std.specs.Str.{is_utf8}
use Rattle.text.specs.Lines.{kind_of}
use Rattle.encoding.specs.Encoded.{encoded}
use Rattle.loader.specs.CatalogueView.{CatalogueView}
use Rattle.oplog.specs.declared.configuration.TheConstants.{ENDLESS}
use Rattle.oplog.specs.History.{History}
use Rattle.serving.specs.declared.service.TheConstants.{KEPT_BYTES}
use Rattle.scripts.specs.Script.{line_meaning}
use Rattle.running.specs.RunAnswer.{Turn, line_turn}
use Rattle.serving.specs.ServeAnswer.{asking_turn, said_line, text_turn}
use Rattle.serving.specs.StoreText.{asks}

too_long : (c : CatalogueView) (h : History) (line : List ℕ) → 512 < length line → line_turn ENDLESS c h line ≡ None
unfolding line_turn line_meaning kind_of
too_long c h line lt = rw (lt-ltb 512 (length line) lt) refl

long_encoded : (line : List ℕ) → 512 < length line → result_ok (encoded line) ≡ None
unfolding encoded kind_of
long_encoded line lt = rw (lt-ltb 512 (length line) lt) refl

-- a line that is too long is bad
long_said : (v : Bool) (c : CatalogueView) (h : History) (line : List ℕ) → 512 < length line → option_and_then (line_turn ENDLESS c h) (said_line v line) ≡ None
long_said false c h line lt = too_long c h line lt
long_said true c h line lt = ap (option_and_then (line_turn ENDLESS c h)) (long_encoded line lt)

either_way : (b : Bool) (t : Option Turn) → t ≡ None → cond b t None ≡ None
either_way true t none = none
either_way false t none = refl

-- a line that asks is one question mark
pub one_mark : (line : List ℕ) → asks line ≡ true → line ≡ 63 ∷ []
one_mark line is = (bytes_eq-Decides line (63 ∷ [])).0 is

never_asks : (line : List ℕ) → 512 < length line → asks line ≡ false
never_asks line lt = by_test (asks line) refl
  where
    by_test : (b : Bool) → asks line ≡ b → asks line ≡ false
    by_test false is = is
    by_test true is = absurd (omega (arith, lt, ap length (one_mark line is)))

module _ (v : Bool) (c : CatalogueView) (h : History) where
  long_turn : (line : List ℕ) → 512 < length line → text_turn v c h line ≡ None
  long_turn line lt = rw (never_asks line lt) (either_way (is_utf8 line) (option_and_then (line_turn ENDLESS c h) (said_line v line)) (long_said v c h line lt))

  pub kept_turn : (line : List ℕ) → text_turn v c h (take KEPT_BYTES line) ≡ text_turn v c h line
  kept_turn line = by_length (nat_lt 512 (length line)) refl
    where
      by_length : (b : Bool) → nat_lt 512 (length line) ≡ b → text_turn v c h (take KEPT_BYTES line) ≡ text_turn v c h line
      by_length true is =
          let long : 512 < length line = ltb-true 512 (length line) is in
          long_turn (take KEPT_BYTES line) (omega (arith, length-take-le KEPT_BYTES line (omega arith))) ∙ sym (long_turn line long)
      by_length false is = let short : length line ≤ 512 = ltb-false 512 (length line) is in ap (text_turn v c h) (take_all KEPT_BYTES line (omega arith))

  module _ (line kept : List ℕ) (is : kept ≡ take KEPT_BYTES line) where
    same_turn : (o : Option Turn) → text_turn v c h kept ≡ o → o ≡ text_turn v c h line
    same_turn o turn = sym turn ∙ ap (text_turn v c h) is ∙ kept_turn line

    -- what is kept of a line asks what the store has
    pub told_turn : asks kept ≡ true → Some (asking_turn c h) ≡ text_turn v c h line
    told_turn mark = same_turn (Some (asking_turn c h)) (rw mark refl)

    -- or is read
    pub read_turn : (b : Bool) → v ≡ b → asks kept ≡ false → is_utf8 kept ≡ true → option_and_then (line_turn ENDLESS c h) (said_line b kept) ≡ text_turn v c h line
    read_turn b mode off text =
        ap (λ (x : Bool). option_and_then (line_turn ENDLESS c h) (said_line x kept)) (sym mode)
        ∙ same_turn (option_and_then (line_turn ENDLESS c h) (said_line v kept)) (rw off (rw text refl))

    -- or is no text
    pub no_turn : asks kept ≡ false → is_utf8 kept ≡ false → text_turn v c h line ≡ None
    no_turn off none = sym (same_turn None (rw off (rw none refl)))

pub kept_more : (line left : List ℕ) (b : ℕ) → left ≡ take KEPT_BYTES line → length left < KEPT_BYTES → left ++ b ∷ [] ≡ take KEPT_BYTES (line ++ b ∷ [])
kept_more line left b is lt =
    let short : length line < KEPT_BYTES = omega (arith, length-take KEPT_BYTES line, ap length is) in
    ap (λ (x : List ℕ). x ++ b ∷ []) (is ∙ take_all KEPT_BYTES line (omega arith)) ∙ sym (take_all KEPT_BYTES (line ++ b ∷ []) (omega (arith, length-append line (b ∷ []))))

pub kept_full : (line left : List ℕ) (b : ℕ) → left ≡ take KEPT_BYTES line → KEPT_BYTES ≤ length left → left ≡ take KEPT_BYTES (line ++ b ∷ [])
kept_full line left b is le =
    let long : KEPT_BYTES ≤ length line = omega (arith, length-take KEPT_BYTES line, ap length is) in
    is ∙ sym (take-append-le KEPT_BYTES line (b ∷ []) long)
