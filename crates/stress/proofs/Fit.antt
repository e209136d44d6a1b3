-- The calls of a script: the digits of each spell bytes with which it is not refused.
use Rattle.std.proofs.Common.{◌≡◌, ◌∙◌, ◌==◌, ◌+◌, ◌<◌, ℕ, Bool, true, false, List, [], ◌∷◌, ◌++◌, length, nat_lt, Option, Some, None, Result, Ok, Err, refl, ap, subst}
use Rattle.std.specs.Prelude.{if◌then◌else◌, option_and_then}
use Rattle.std.specs.Option.{option_map_or}
use Rattle.std.specs.List.{All}
use Rattle.std.proofs.lemmas.Bool.{lt-ltb}
use Rattle.std.proofs.lemmas.List.Elements.{All-nil, All-cons, All-append}
use Rattle.std.proofs.lemmas.Option.{same_Some}
use Rattle.verifier.specs.declared.refusal.Mode.TheVariants.{Update, Read}
use Rattle.verifier.specs.Accepted.{Checked}
use Rattle.text.specs.Lines.{next_line}
use Rattle.text.specs.Digits.{field_bytes}
use Rattle.loader.specs.CatalogueView.{CatalogueView, number_named}
use Rattle.replica.specs.StoreMeaning.{program_at}
use Rattle.replica.specs.Refusals.{early_refusal, mode_refusal, offered_refusal, place_refusal, program_refusal}
use Rattle.replica.specs.declared.refusals.StoreRefused.TheVariants.{UnknownProgram, ArgumentLength}
use Rattle.scripts.specs.Script.{ProgramCall, Meaning, Comment, Call, InvokeAt, ReadAt, Install, line_meaning}
use Rattle.running.proofs.Export.{own_mode}
use Rattle.stress.specs.Playing.{line_calls}
use Rattle.stress.specs.declared.calls.Asked.{Asked}
use Rattle.stress.specs.declared.calls.Asked.TheVariants as asks
use Rattle.stress.specs.Calls.{Called, asked_refusal, program_named, asked_with, behind_field, one_call, calls_said, script_calls}
use Rattle.stress.proofs.Digits.{Spell, call_hex, invoke_hex, read_hex, install_hex}
use Rattle.stress.proofs.Ready.{IsFree, free_with}
use Rattle.stress.proofs.Script.{before}
use Rattle.replica.proofs.Export.{offered_below}

-- a run of program k, in its own mode, where the argument has its length
abbrev if_length : List ℕ → ℕ → Checked → Option Asked
if_length argument k p = if length argument == p.arg_len then Some (asks.Run p.mode k) else None

-- the call's digits spell bytes with which it is not refused
pub record IsFit (c : CatalogueView) (call : Called) : Type 0 where
  pub bytes : List ℕ
  pub spelled : field_bytes call.digits ≡ Some bytes
  pub free : asked_refusal c call.asked bytes ≡ None

-- ---- a program by its name

-- a program of the catalogue, in its own mode
offered_free : (c : CatalogueView) (k : ℕ) (argument : List ℕ) (p : Checked) → k < length c.programs → program_at c k ≡ Some p → (length argument == p.arg_len) ≡ true → early_refusal c p.mode k argument ≡ None
offered_free c k argument p below named long =
    ap (λ b. if b then offered_refusal c p.mode k argument else if nat_lt k (length c.programs + c.places) then place_refusal c argument else Some UnknownProgram) (lt-ltb _ _ below)
    ∙ ap (program_refusal p.mode argument) named
    ∙ ap (λ b. if b then mode_refusal p.mode p.mode else Some ArgumentLength) long
    ∙ own_mode p.mode

named_free : (c : CatalogueView) (call : ProgramCall) → IsFree c call.argument (program_named c call)
unfolding program_named
named_free c call = by_number (number_named c.programs call.name)
  where
    by_length : (k : ℕ) (p : Checked) → program_at c k ≡ Some p → (b : Bool) → (length call.argument == p.arg_len) ≡ b → IsFree c call.argument (if b then Some (asks.Run p.mode k) else None)
    by_length k p named true long = offered_free c k call.argument p (offered_below c k p named) named long
    by_length k p named false long = tt

    by_program : (k : ℕ) (o : Option Checked) → program_at c k ≡ o → IsFree c call.argument (option_and_then (if_length call.argument k) o)
    by_program k None named = tt
    by_program k (Some p) named = by_length k p named (length call.argument == p.arg_len) refl

    by_number : (o : Option ℕ) → IsFree c call.argument (option_and_then (λ k. option_and_then (if_length call.argument k) (program_at c k)) o)
    by_number None = tt
    by_number (Some k) = by_program k (program_at c k) refl

-- ---- a line

module _ (c : CatalogueView) (n : ℕ) (line : List ℕ) (calls : List Called) where
  one_fit : (digits bytes : List ℕ) (asked : Option Asked) → Spell digits bytes → IsFree c bytes asked → one_call n digits asked ≡ Some calls → All (IsFit c) calls
  one_fit digits bytes None hex free e = absurd cc
  one_fit digits bytes (Some a) hex free e =
      let call : Called = record { line = n; asked = a; digits = digits } in
      subst (All (IsFit c)) (same_Some (call ∷ []) calls e) (All-cons (IsFit c) call [] (record { bytes = bytes; spelled = hex; free = free }) (All-nil (IsFit c)))

  asked_fit : (digits bytes : List ℕ) (want : Asked) → Spell digits bytes → one_call n digits (asked_with c bytes want) ≡ Some calls → All (IsFit c) calls
  asked_fit digits bytes want hex e = one_fit digits bytes (asked_with c bytes want) hex (free_with c bytes want (asked_with c bytes want) refl) e

  said_fit : (m : Option Meaning) → line_meaning line ≡ m → calls_said c n line m ≡ Some calls → All (IsFit c) calls
  said_fit None is e = absurd cc
  said_fit (Some Comment) is e = subst (All (IsFit c)) (same_Some [] calls e) (All-nil (IsFit c))
  said_fit (Some (Call call)) is e = let hex = call_hex line call is in one_fit (behind_field line) call.argument (program_named c call) hex.1 (named_free c call) e
  said_fit (Some (InvokeAt call)) is e = let hex = invoke_hex line call is in asked_fit (behind_field (behind_field line)) call.argument (asks.Run Update call.program) hex.1 e
  said_fit (Some (ReadAt call)) is e = let hex = read_hex line call is in asked_fit (behind_field (behind_field line)) call.argument (asks.Run Read call.program) hex.1 e
  said_fit (Some (Install new)) is e = let hex = install_hex line new is in asked_fit (behind_field (behind_field (behind_field line))) new.bytes (asks.Install new.mode new.arg_len) hex.1 e

-- ---- a script

good_inside : (x y : List Called) → (let r : Result (List Called) ℕ = Ok x in r) ≡ Ok y → x ≡ y
good_inside x y e = cc

pub script_fit : (c : CatalogueView) (n : ℕ) (ls : List (List ℕ)) (calls : List Called) → script_calls c n ls ≡ Ok calls → All (IsFit c) calls
unfolding script_calls
script_fit c n [] calls e = subst (All (IsFit c)) (good_inside [] calls e) (All-nil (IsFit c))
script_fit c n (l ∷ ls) calls e = by (line_calls c n l) refl (script_calls c (next_line n) ls) (script_fit c (next_line n) ls) e
  where
    by : (o : Option (List Called)) → line_calls c n l ≡ o → (r : Result (List Called) ℕ) → ((more : List Called) → r ≡ Ok more → All (IsFit c) more) → option_map_or (λ calls. before calls r) o (Err n) ≡ Ok calls → All (IsFit c) calls
    by None is r rest e = absurd cc
    by (Some first) is (Err m) rest e = absurd cc
    by (Some first) is (Ok more) rest e =
        subst (All (IsFit c)) (good_inside (first ++ more) calls e) (All-append (IsFit c) first more (said_fit c n l first (line_meaning l) refl is) (rest more refl))
