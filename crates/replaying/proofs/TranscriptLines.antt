-- The loop over the lines of a transcript: one line on, a line that ends it, and the end.
use Rattle.std.proofs.Common.{◌≡◌, ℕ, Bool, true, false, List, [], ◌∷◌, Option, Some, refl, sym, ap, subst, ◌∙◌}
use Rattle.std.specs.Prelude.{IfOk, Result, Ok, Err, if◌then◌else◌}
use Rattle.std.specs.Option.{option_map_or}
use Rattle.verifier.specs.declared.refusal.Mode.{Mode}
use Rattle.verifier.specs.declared.refusal.Mode.TheVariants.{Read}
use Rattle.oplog.specs.Operations.{Operation}
use Rattle.text.specs.Lines.{next_line}
use Rattle.loader.specs.CatalogueView.{CatalogueView}
use Rattle.replaying.specs.declared.lines.Due.{Due}
use Rattle.replaying.specs.declared.lines.Replaying.{Replaying}
use Rattle.replaying.specs.declared.lines.LineVerdict.{LineVerdict}
use Rattle.replaying.specs.declared.lines.LineVerdict.TheVariants as lines
use Rattle.engine.specs.Answer.{Answer}
use Rattle.running.specs.RunAnswer.{bad_line}
use Rattle.scripts.specs.Script.{KeyedCall}
use Rattle.scripts.specs.declared.transcripts.ToldReply.{ToldReply}
use Rattle.scripts.specs.Transcript.{Answered, transcript_line_meaning}
use Rattle.replaying.specs.Noted.{due_at, due_text, line_due, noted_by, notes_text}
use Rattle.replaying.specs.ReplayAnswer.{Replayed, LineOutcome, Bad, Differs, Agrees, operation_of, compared, line_outcome, read_agrees, next_count, good_answer, differing_line, by_outcome, transcript_answer}
use Rattle.replaying.specs.Replaying.{HasReplayed, IsCompared, LineReplayed, answered_outcome, compared_verdict}

-- a call whose operation is known
pub of_operation : (c : CatalogueView) (at : Replayed) (mode : Mode) (call : KeyedCall) (a : ToldReply) (op : Operation) (v : LineVerdict) (r : Replaying) → Some op ≡ operation_of c mode call
    → LineReplayed c (compared c at mode a.index a.reply op) v r → LineReplayed c (answered_outcome c at mode call a) v r
of_operation c at mode call a op v r found told = rw (← found) told

by_agrees : (c : CatalogueView) (agrees : Bool) (next : Replayed) (told : Bool) (r : Replaying) → IsCompared c agrees next told r → LineReplayed c (if agrees then Agrees next else Differs) (compared_verdict told) r
by_agrees c true next told r is = subst (λ t. LineReplayed c (Agrees next) (compared_verdict t) r) (sym is.told) (is.goes_on refl)
by_agrees c false next told r is = subst (λ t. LineReplayed c Differs (compared_verdict t) r) (sym is.told) tt

-- a read that was compared
pub of_read : (c : CatalogueView) (at : Replayed) (op : Operation) (point reply : ℕ) (told : Bool) (r : Replaying) → IsCompared c (read_agrees c at.history op point reply) (record at { reads = next_count at.reads }) told r
    → LineReplayed c (compared c at Read point reply op) (compared_verdict told) r
of_read c at op point reply told r is = by_agrees c (read_agrees c at.history op point reply) (record at { reads = next_count at.reads }) told r is

module _ (c : CatalogueView) (n : ℕ) (at : Replayed) (all : List (List ℕ)) (line : List ℕ) (rest : List (List ℕ)) (first : all ≡ line ∷ rest) (total : Answer) (so_far : transcript_answer c n at all ≡ total)
    (noted : List ℕ) (noted_so_far : notes_text c n at all ≡ noted) where
  abbrev next : Replayed → Answer
  next at' = transcript_answer c (next_line n) at' rest

  here_is : by_outcome n next (line_outcome c at line) ≡ total
  unfolding transcript_answer
  here_is = sym (rw first refl) ∙ so_far

  abbrev next_noted : Replayed → List ℕ
  next_noted at' = notes_text c (next_line n) at' rest

  abbrev due_here : Option Due
  due_here = line_due c at (transcript_line_meaning line)

  noted_is : noted_by n due_here next_noted (line_outcome c at line) ≡ noted
  unfolding notes_text
  noted_is = sym (rw first refl) ∙ noted_so_far

  -- the lines behind, from what was replayed with this line
  abbrev GoesOn : Replaying → Type 0
  GoesOn r = (more : Replayed) × HasReplayed c more r × (next more ≡ total) × (next_noted more ≡ noted)

  agreed : (o : LineOutcome) (r : Replaying) → LineReplayed c o lines.Agrees r → by_outcome n next o ≡ total → noted_by n due_here next_noted o ≡ noted → GoesOn r
  agreed Bad r told is also = absurd told
  agreed Differs r told is also = absurd told
  agreed (Agrees more) r told is also = (more, told, is, also)

  pub goes_on : (r : Replaying) → LineReplayed c (line_outcome c at line) lines.Agrees r → GoesOn r
  goes_on r told = agreed (line_outcome c at line) r told here_is noted_is

  -- what is told of a line that ends it
  bad_told : (o : LineOutcome) (r : Replaying) → LineReplayed c o lines.Bad r → noted_by n due_here next_noted o ≡ noted → [] ≡ noted
  bad_told Bad r told is = is
  bad_told Differs r told is = absurd told
  bad_told (Agrees more) r told is = absurd told

  pub bad_noted : (r : Replaying) → LineReplayed c (line_outcome c at line) lines.Bad r → [] ≡ noted
  bad_noted r told = bad_told (line_outcome c at line) r told noted_is

  differs_told : (o : LineOutcome) (r : Replaying) (due : Due) → LineReplayed c o lines.Differs r → due_here ≡ Some due → noted_by n due_here next_noted o ≡ noted → due_text n due ≡ noted
  differs_told Bad r due told is also = absurd told
  differs_told Differs r due told is also = ap (λ o. option_map_or (due_text n) o []) (sym is) ∙ also
  differs_told (Agrees more) r due told is also = absurd told

  pub differs_noted : (r : Replaying) (due : Due) → LineReplayed c (line_outcome c at line) lines.Differs r → due_here ≡ Some due → due_text n due ≡ noted
  differs_noted r due told is = differs_told (line_outcome c at line) r due told is noted_is

  bad : (o : LineOutcome) (r : Replaying) → LineReplayed c o lines.Bad r → by_outcome n next o ≡ total → bad_line n ≡ total
  bad Bad r told is = is
  bad Differs r told is = absurd told
  bad (Agrees more) r told is = absurd told

  pub bad_here : (r : Replaying) → LineReplayed c (line_outcome c at line) lines.Bad r → bad_line n ≡ total
  bad_here r told = bad (line_outcome c at line) r told here_is

  differing : (o : LineOutcome) (r : Replaying) → LineReplayed c o lines.Differs r → by_outcome n next o ≡ total → differing_line n ≡ total
  differing Bad r told is = absurd told
  differing Differs r told is = is
  differing (Agrees more) r told is = absurd told

  pub differs_here : (r : Replaying) → LineReplayed c (line_outcome c at line) lines.Differs r → differing_line n ≡ total
  differs_here r told = differing (line_outcome c at line) r told here_is

pub all_agree : (c : CatalogueView) (n : ℕ) (at : Replayed) (all : List (List ℕ)) → all ≡ [] → good_answer at ≡ transcript_answer c n at all
unfolding transcript_answer
all_agree c n at all empty = sym (rw empty refl)

pub none_noted : (c : CatalogueView) (n : ℕ) (at : Replayed) (all : List (List ℕ)) → all ≡ [] → [] ≡ notes_text c n at all
unfolding notes_text
none_noted c n at all empty = sym (rw empty refl)

-- what a call should tell whose operation is known
pub due_of : (c : CatalogueView) (at : Replayed) (mode : Mode) (call : KeyedCall) (a : ToldReply) (op : Operation) (due : Due) → Some op ≡ operation_of c mode call
    → due ≡ due_at c mode at.history op → line_due c at (Some (Answered mode call a)) ≡ Some due
due_of c at mode call a op due found is = rw (← found) (ap Some (sym is))

pub so_if_ok : {X E : Type 0} (P : Type 0) (r : Result X E) → P → IfOk r (λ x. P)
so_if_ok P (Ok x) so = so
so_if_ok P (Err e) so = tt
