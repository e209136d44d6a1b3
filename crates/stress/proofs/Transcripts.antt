-- A transcript, from what the sessions were told.
use Rattle.std.proofs.Common.{◌≡◌, ◌∙◌, ℕ, Bool, true, false, List, [], ◌∷◌, All, length, map, Some, None, refl, sym, ap, subst}
use Rattle.std.specs.Prelude.{if◌then◌else◌, Result, Ok, Err, IfOk, MatchResult}
use Rattle.std.proofs.lemmas.List.Elements.{All-nil, All-cons, All-map}
use Rattle.std.specs.List.Sorted.{IsPermutation}
use Rattle.std.proofs.lemmas.List.Sorted.{All-permutation, IsPermutation-trans, IsPermutation-map}
use Rattle.loader.specs.CatalogueView.{CatalogueView}
use Rattle.oplog.specs.declared.configuration.Config.{Config}
use Rattle.engine.specs.declared.replies.Verdict.TheVariants as verdicts
use Rattle.store_steps.specs.Views.{SessionView}
use Rattle.stress.specs.declared.calls.ScriptCall.{ScriptCall}
use Rattle.stress.specs.declared.lines.AnsweredCall.{AnsweredCall}
use Rattle.stress.specs.declared.sharing.Left.{Left}
use Rattle.stress.specs.Calls.{Called, told_as}
use Rattle.stress.specs.Dealt.{dealt_from, dealt_to}
use Rattle.stress.specs.Lines.{ToldCall, AreSteady, suits}
use Rattle.stress.specs.Timed.{IsHistoryIf, IsInTurn, AreCounted}
use Rattle.stress.specs.Shown.{called, said_of, told_call, calls_told, to_be_told, told_of, timed_of}
use Rattle.stress.specs.Playing.{IsLeft, IsWritten, EndsIn, AreSteadyTo, history_if}
use Rattle.stress.specs.Teams.{WereTold}
use Rattle.running.specs.RunAnswer.{state_of}
use Rattle.stress.specs.Playing.{calls_of}
use Rattle.stress.specs.Transcripts.{session_count, IsTranscript, EachCallHasOneLine}
use Rattle.stress.proofs.Dealt.{each_once, dealt_map}
use Rattle.stress.proofs.OneHistory.{in_order}
use Rattle.stress.proofs.Sizes.{some_session}
use Rattle.stress.proofs.Told.{of_timed}
use Rattle.stress.proofs.Steady.{share_map}

abbrev Suits : ToldCall → Type 0
Suits t = suits (told_as t.call.asked) t.said ≡ true

-- a call that stands there was told so
one_so : (t : AnsweredCall) (c : Called) → told_call t ≡ Some c → (called t.call.now ≡ c) × Suits (told_of t)
one_so t c e = by (suits (told_as t.call.now.asked) (said_of t.said)) refl e
  where
    by : (b : Bool) → suits (told_as t.call.now.asked) (said_of t.said) ≡ b → (if b then Some (called t.call.now) else None) ≡ Some c → (called t.call.now ≡ c) × (suits (told_as t.call.now.asked) (said_of t.said) ≡ true)
    by true is e = let some : Some (called t.call.now) ≡ Some c = e in let same : called t.call.now ≡ c = cc in (same, is)
    by false is e = absurd cc

pub so : (told : List AnsweredCall) (cs : List Called) → calls_told told ≡ map (λ c. Some c) cs → (calls_of (map told_of told) ≡ cs) × All Suits (map told_of told)
so [] [] e = (refl, All-nil Suits)
so [] (c ∷ cs) e = absurd cc
so (t ∷ ts) [] e = absurd cc
so (t ∷ ts) (c ∷ cs) e =
    let head : told_call t ≡ Some c = cc in
    let tail : calls_told ts ≡ map (λ c. Some c) cs = cc in
    let one = one_so t c head in
    let rest = so ts cs tail in
    ((λ i. one.0 i ∷ rest.0 i), All-cons Suits (told_of t) (map told_of ts) one.1 rest.1)

pub twice : (script : List ScriptCall) → map (λ c. Some c) (map called script) ≡ to_be_told script
twice [] = refl
twice (c ∷ cs) = ap (λ rest. Some (called c) ∷ rest) (twice cs)

-- the lines of a history, where one is kept
history_of : (timed : Bool) (n : ℕ) (calls : List Called) (told : List AnsweredCall) (text : List ℕ) → All (λ t. IsInTurn n calls (timed_of t)) told
    → text ≡ history_if timed (map timed_of told) → IsHistoryIf timed n calls (map told_of told) text
history_of true n calls told text turns is = (map timed_of told, of_timed told, All-map (IsInTurn n calls) timed_of told turns, is)
history_of false n calls told text turns is = is

-- what a run of these calls gives back
abbrev pub GivesRun : Config → CatalogueView → Bool → List Called → Left → Type 0
GivesRun config c timed calls left =
    (t : IsTranscript config c calls (record { text = left.written.transcript.items; verdict = verdicts.Good })) × IsHistoryIf timed (session_count config) calls t.told left.written.history.items
    × (left.state ≡ state_of c t.of_one.history) × AreCounted t.told left.written.counts

pub run_of : (config : Config) (c : CatalogueView) (timed : Bool) (script : List ScriptCall) (left : Left) → IsLeft config c timed script left → GivesRun config c timed (map called script) left
run_of config c timed script left is =
    let calls = map called script in
    let n = session_count config in
    let asked = map told_of is.told in
    let lines = map told_of is.written.lines in
    let same = IsPermutation-map told_of is.told is.written.lines is.written.same in
    let each = so is.told (dealt_to n calls) (is.in_turn ∙ ap (dealt_to n) (sym (twice script)) ∙ dealt_map (λ c. Some c) n 0 n calls) in
    let in_turn = each.0 in
    let one = in_order c config.limit left.state asked lines same is.ends.0 is.ends.1 in (
      record {
        asked = asked;
        in_turn = in_turn;
        suited = each.1;
        steady = λ k below. subst AreSteady (sym (share_map called (λ s. Some (called s)) n k script told_of is.told)) (is.steady k below);
        told = lines;
        same = same;
        ordered = is.written.ordered;
        by_session = is.written.stable;
        is = ap (λ t. record { text = t; verdict = verdicts.Good }) is.written.transcript;
        of_one = one.0;
      },
      history_of timed n calls is.written.lines left.written.history.items
          (All-permutation (λ t. IsInTurn n calls (timed_of t)) is.told is.written.lines is.written.same is.turns) is.written.history,
      one.1,
      is.written.counts,
    )

-- ---- what a transcript says

-- the sessions were told the calls that are dealt to them, and these are all calls
pub each_call_has_one_line : EachCallHasOneLine
each_call_has_one_line config c calls a sizes t =
    let all = subst (IsPermutation calls) (sym t.in_turn) (each_once (session_count config) calls (some_session config sizes)) in
    IsPermutation-trans calls (calls_of t.asked) (calls_of t.told) all (IsPermutation-map (λ x. x.call) t.asked t.told t.same)

-- ---- what is left

-- what is left of a store whose sessions are back from their teams, where memory was left
module _ {V E : Type 0} (items : V → List AnsweredCall) (config : Config) (c : CatalogueView) (timed : Bool) (script : List ScriptCall) (sessions : List SessionView) where
  pub is_left : (told : Result V E) (left : Left) → length sessions ≡ session_count config → IfOk told (λ v. WereTold (session_count config) script sessions (items v))
      → IfOk told (λ v. EndsIn c config.limit left.state (items v)) → MatchResult told (λ v. IsWritten c timed (items v) left.written) (λ _. ⊥)
      → IsLeft config c timed script left
  is_left (Err e) left count were ends written = absurd written
  is_left (Ok v) left count were ends written = record {
    told = items v;
    in_turn = were.dealt ∙ ap (λ m. dealt_from (session_count config) 0 m (to_be_told script)) count;
    turns = were.turns;
    steady = subst (λ m. AreSteadyTo (session_count config) m (to_be_told script) (items v)) count were.steady;
    written = written;
    ends = ends;
  }
