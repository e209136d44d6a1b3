-- The calls that a session was told, one more at a time.
use Rattle.std.proofs.Common.{◌≡◌, ◌∙◌, ◌-◌, ◌++◌, ℕ, List, [], ◌∷◌, Option, Some, refl, sym, ap, append_assoc}
use Rattle.std.specs.Prelude.{drop}
use Rattle.std.proofs.lemmas.List.{drop-map}
use Rattle.stress.specs.declared.calls.ScriptCall.{ScriptCall}
use Rattle.stress.specs.declared.lines.AnsweredCall.{AnsweredCall}
use Rattle.stress.specs.Calls.{Called}
use Rattle.stress.specs.Dealt.{dealt}
use Rattle.stress.specs.Shown.{called, told_call, calls_told, to_be_told}
use Rattle.stress.proofs.Dealt.{next}

-- a call, as it is to be told
abbrev pub one_call : ScriptCall → Option Called
one_call c = Some (called c)

pub pushed : (told : List AnsweredCall) (t : AnsweredCall) → calls_told (told ++ t ∷ []) ≡ calls_told told ++ told_call t ∷ []
pushed [] t = refl
pushed (u ∷ us) t = ap (λ cs. told_call u ∷ cs) (pushed us t)

pub one_more : (n : ℕ) (told : List AnsweredCall) (t : AnsweredCall) (call : ScriptCall) (left rest after : List ScriptCall) → told_call t ≡ one_call call → left ≡ call ∷ rest → after ≡ drop (n - 1) rest
    → calls_told (told ++ t ∷ []) ++ dealt n 0 (to_be_told after) ≡ calls_told told ++ dealt n 0 (to_be_told left)
one_more n told t call left rest after mine first behind =
    ap (λ cs. cs ++ dealt n 0 (to_be_told after)) (pushed told t)
    ∙ append_assoc (calls_told told) (told_call t ∷ []) (dealt n 0 (to_be_told after))
    ∙ ap (λ c. calls_told told ++ (c ∷ dealt n 0 (to_be_told after))) mine
    ∙ ap (λ (cs : List ScriptCall). calls_told told ++ (one_call call ∷ dealt n 0 (to_be_told cs))) behind
    ∙ ap (λ cs. calls_told told ++ (one_call call ∷ dealt n 0 cs)) (sym (drop-map one_call (n - 1) rest))
    ∙ ap (λ cs. calls_told told ++ cs) (sym (next n (one_call call) (to_be_told rest)))
    ∙ ap (λ (cs : List ScriptCall). calls_told told ++ dealt n 0 (to_be_told cs)) (sym first)
