-- A line's call, from the program or the install that it asks for.
use Rattle.std.proofs.Common.{◌≡◌, ◌∙◌, ◌≤◌, ℕ, List, length, Option, Some, None, IfSome, Bor, refl, sym, ap, subst, arith}
use Rattle.text.specs.declared.lines.TheConstants.{LINE_BYTES}
use Rattle.loader.specs.CatalogueView.{CatalogueView}
use Rattle.scripts.specs.Script.{Meaning, line_meaning}
use Rattle.replica.specs.declared.refusals.StoreRefused.{StoreRefused}
use Rattle.replaying.specs.ReplayAnswer.{unless_barred}
use Rattle.stress.specs.declared.calls.Asked.{Asked}
use Rattle.stress.specs.Calls.{Called, asked_refusal, asked_with, one_call, calls_said}
use Rattle.stress.specs.Playing.{IsReady, line_calls}
use Rattle.stress.proofs.Digits.{Spell}

-- what is asked for is not refused with these bytes
abbrev pub IsFree : CatalogueView → List ℕ → Option Asked → Type 0
IsFree c bytes asked = IfSome asked (λ a. asked_refusal c a bytes ≡ None)

-- what is asked for unless it is refused
pub free_with : (c : CatalogueView) (bytes : List ℕ) (want : Asked) (asked : Option Asked) → asked ≡ asked_with c bytes want → IsFree c bytes asked
free_with c bytes want asked e = by (asked_refusal c want bytes) refl asked e
  where
    by : (o : Option StoreRefused) → asked_refusal c want bytes ≡ o → (asked : Option Asked) → asked ≡ unless_barred want o → IsFree c bytes asked
    by o is None e = tt
    by (Some why) is (Some a) e = absurd cc
    by None is (Some a) e = let same : a ≡ want = cc in subst (λ x. asked_refusal c x bytes ≡ None) (sym same) is

-- digits that spell the bytes make it a call that is ready
pub ready_call : (c : CatalogueView) (n : ℕ) (line bytes spelling : List ℕ) (digits : Bor (List ℕ)) (asked : Option Asked) → (length line ≤ LINE_BYTES) × Spell spelling bytes
    → length digits.now ≤ length line → digits.now ≡ spelling → IsFree c bytes asked → IfSome asked (λ a. IsReady c (record { line = n; asked = a; digits = digits }))
ready_call c n line bytes spelling digits None hex short is free = tt
ready_call c n line bytes spelling digits (Some a) hex short is free =
    let in_line : length line ≤ LINE_BYTES = hex.0 in
    record {
      short = omega arith;
      bytes = bytes;
      spelled = subst (λ d. Spell d bytes) (sym is) hex.1;
      ready = free;
    }

-- what the line says, by what it means
pub line_said : (c : CatalogueView) (n : ℕ) (line digits spelling : List ℕ) (m : Option Meaning) (asked want : Option Asked) (got : Option (List Called)) → m ≡ line_meaning line
    → got ≡ one_call n digits asked → digits ≡ spelling → asked ≡ want → one_call n spelling want ≡ calls_said c n line m → got ≡ line_calls c n line
line_said c n line digits spelling m asked want got means is same_digits same_asked said =
    is ∙ ap (λ d. one_call n d asked) same_digits ∙ ap (one_call n spelling) same_asked ∙ said ∙ ap (calls_said c n line) means
