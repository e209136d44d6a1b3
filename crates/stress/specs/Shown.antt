-- What the calls of a script and the answers to them are, without where their texts lie. Clauses of private functions alone cite this.
use Rattle.std.specs.Prelude.{◌≡◌, ℕ, List, [], ◌∷◌, ◌++◌, codes, decimal, map, Option, Some, None, Result, Ok, Err, IfOk, Vec, if◌then◌else◌}
use Rattle.loader.specs.CatalogueView.{CatalogueView}
use Rattle.stress.specs.declared.calls.ScriptCall.{ScriptCall}
use Rattle.stress.specs.declared.calls.ScriptCalls.{ScriptCalls}
use Rattle.stress.specs.declared.calls.LineCall.{LineCall}
use Rattle.stress.specs.declared.calls.LineCall.TheVariants as lines
use Rattle.stress.specs.declared.calls.ScriptCalls.TheVariants as reads
use Rattle.stress.specs.declared.lines.AnsweredCall.{AnsweredCall}
use Rattle.stress.specs.declared.lines.Said.{Said}
use Rattle.stress.specs.declared.lines.Said.TheVariants as told
use Rattle.stress.specs.Calls.{Called, told_as}
use Rattle.stress.specs.Lines as said
use Rattle.stress.specs.Lines.{ToldCall, call_text, suits}
use Rattle.stress.specs.Timed.{Timed}

-- behind a place the call and REPLY
abbrev pub replied_text : CatalogueView → Called → ℕ → List ℕ
replied_text c call reply = codes " " ++ (call_text c call ++ (codes " " ++ (decimal reply ++ codes "\n")))

abbrev pub called : ScriptCall → Called
called c = record { line = c.line; asked = c.asked; digits = c.digits.now }

-- the calls of a line; a bad one has none
abbrev pub calls_in : LineCall → Option (List Called)
calls_in lines.Bad = None
calls_in lines.Comment = Some []
calls_in (lines.Call c) = Some (called c ∷ [])

-- the calls, or the number of a bad line
abbrev pub ReadAs : Result (List Called) ℕ → ScriptCalls → Type 0
ReadAs (Ok calls) (reads.Good v) = map called v.items ≡ calls
ReadAs (Err n) (reads.Bad number) = number ≡ n
ReadAs (Ok calls) (reads.Bad number) = ⊥
ReadAs (Err n) (reads.Good v) = ⊥

abbrev pub said_of : Said → said.Said
said_of (told.Updated a) = said.Updated a.index a.reply
said_of (told.Seen a) = said.Seen a.point a.reply
said_of told.Ended = said.Ended

abbrev pub told_of : AnsweredCall → ToldCall
told_of t = record { call = called t.call.now; said = said_of t.said }

-- `told_of`, and when the call was made
abbrev pub timed_of : AnsweredCall → Timed
timed_of t = record { told = told_of t; session = t.noted.session; begun = t.noted.begun; ended = t.noted.ended }

-- the call of a told one, if what was said suits it
abbrev pub told_call : AnsweredCall → Option Called
told_call t = if suits (told_as t.call.now.asked) (said_of t.said) then Some (called t.call.now) else None

abbrev pub calls_told : List AnsweredCall → List (Option Called)
calls_told told = map told_call told

-- these calls were told, unless memory ran out
abbrev pub TellsCalls : {X E : Type 0} → Result (Vec AnsweredCall X) E → List (Option Called) → Type 0
TellsCalls told calls = IfOk told (λ v. calls_told v.items ≡ calls)

-- the calls of a script, as they are to be told
abbrev pub to_be_told : List ScriptCall → List (Option Called)
to_be_told calls = map (λ c. Some (called c)) calls
