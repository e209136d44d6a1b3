-- The sessions that a history names.
use Rattle.std.proofs.Common.{◌≡◌, ◌∙◌, ◌<◌, ℕ, All, Contains, List, Some, map, length, get_or, sym, ap, subst}
use Rattle.std.proofs.Math.ListN.{length-map}
use Rattle.std.proofs.lemmas.List.Elements.{Contains-get_or}
use Rattle.stress.specs.declared.calls.ScriptCall.{ScriptCall}
use Rattle.stress.specs.declared.lines.AnsweredCall.{AnsweredCall}
use Rattle.stress.specs.Dealt.{dealt}
use Rattle.stress.specs.Lines.{ToldCall}
use Rattle.stress.specs.Shown.{called, calls_told, to_be_told, told_of, timed_of}
use Rattle.stress.specs.Playing.{calls_of}
use Rattle.stress.specs.Timed.{IsInTurn}
use Rattle.stress.proofs.Dealt.{one_map}
use Rattle.stress.proofs.Told.{get_map}
use Rattle.stress.proofs.Transcripts.{so, twice}

-- a call that was told is one of the calls that were told
one_of : (told : List AnsweredCall) → All (λ t. Contains (calls_of (map told_of told)) (called t.call.now)) told
one_of told k d below =
    let said = map told_of told in
    let calls = calls_of said in
    let one = told_of d in
    let there : k < length said = subst (λ n. k < n) (sym (length-map told told_of)) below in
    let here : k < length calls = subst (λ n. k < n) (sym (length-map said (λ (t : ToldCall). t.call))) there in
    subst (Contains calls) (get_map (λ (t : ToldCall). t.call) said k one.call one there ∙ ap (λ (t : ToldCall). t.call) (get_map told_of told k one d below))
    (Contains-get_or calls k one.call here)

-- where a session was told its calls, and what was noted has its number, the lines name it
pub in_turn : (n number : ℕ) → number < n → (calls : List ScriptCall) (told : List AnsweredCall) → calls_told told ≡ dealt n number (to_be_told calls) → All (λ t. t.noted.session ≡ number) told
    → All (λ t. IsInTurn n (map called calls) (timed_of t)) told
in_turn n number one calls told is by k d below =
    let all = map called calls in
    let theirs = (so told (dealt n number all) (is ∙ ap (dealt n number) (sym (twice calls)) ∙ one_map (λ c. Some c) n number all)).0 in
    let t = get_or told k d in
    subst (λ s. (s < n) × Contains (dealt n s all) (called t.call.now)) (sym (by k d below)) (one, subst (λ cs. Contains cs (called t.call.now)) theirs (one_of told k d below))
