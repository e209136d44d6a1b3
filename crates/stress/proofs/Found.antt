-- What `stress` may answer is found good by `replay`, where it is good.
use Rattle.std.proofs.Common.{◌≡◌, ◌∙◌, ℕ, Bool, true, false, List, length, Some, None, Result, Ok, Err, refl, sym, ap, arith}
use Rattle.std.specs.Prelude.{◌==◌, if◌then◌else◌, MatchResult, Option}
use Rattle.text.specs.Lines.{lines_of}
use Rattle.loader.specs.CatalogueView.{CatalogueView, IsCatalogue, with_places, sizes_for}
use Rattle.loader.specs.Loading.{Outcome, loaded_within}
use Rattle.dumps.specs.Loading.{Outcome as StateOutcome, loaded_state}
use Rattle.oplog.specs.declared.configuration.Config.{Config}
use Rattle.engine.specs.Answer.{Answer}
use Rattle.engine.specs.Reading.{Given, TextsRead, files_in, first_stranger, limits_of}
use Rattle.engine.proofs.Export.{found, unless_strange, on_loaded, are_limits}
use Rattle.engine.specs.Opening.{opening_of}
use Rattle.engine.specs.Sizes.{are_sizes, places_in}
use Rattle.engine.specs.StateAnswer.{on_text, opened_by}
use Rattle.engine.specs.declared.replies.Verdict.TheVariants as verdicts
use Rattle.running.proofs.Export.{loaded_is_catalogue, opened_is_catalogue}
use Rattle.stress.specs.declared.stressed.Stressed.{Stressed}
use Rattle.stress.specs.Calls.{Called, script_calls}
use Rattle.stress.specs.Good.{IsFoundGood, TranscriptsAreGood}
use Rattle.stress.specs.Runs.{IsOnly, IsStressRun}
use Rattle.stress.specs.Playing.{IsScriptRun}
use Rattle.stress.proofs.Good.{found_good}
use Rattle.stress.proofs.Sizes.{sizes_from}

-- a run on a catalogue, or what is answered in its place
abbrev IsOpenedRun : Config → Bool → TextsRead → Result CatalogueView Answer → Stressed → Type 0
IsOpenedRun config timed t opened s = MatchResult opened (λ c. IsScriptRun config timed c (script_calls c 1 (lines_of t.file)) s) (λ a. IsOnly a s)

-- ---- what a catalogue opens on

-- a catalogue with the same programs, as long ones, or the answer to a refused state
abbrev IsOpening : CatalogueView → Result CatalogueView Answer → Type 0
IsOpening c (Ok on) = IsCatalogue on × (on.programs ≡ c.programs) × (on.long ≡ c.long)
IsOpening c (Err a) = a.verdict ≡ verdicts.Refused

is_opening : (c : CatalogueView) (state : List ℕ) → IsCatalogue c → IsOpening c (opened_by c state)
is_opening c state whole = by (length state == 0)
  where
    loads : (o : StateOutcome) → loaded_state (sizes_for c) state ≡ o → IsOpening c (on_loaded c o)
    loads (Ok s) is = (opened_is_catalogue c _ state whole (ap (on_loaded c) is), refl, refl)
    loads (Err refusal) is = refl

    by : (b : Bool) → IsOpening c (if b then Ok c else on_text c state)
    by true = (whole, refl, refl)
    by false = loads (loaded_state (sizes_for c) state) refl

-- ---- what is given back

module _ (config : Config) (timed : Bool) (g : Given) (s : Stressed) (good : s.reply.verdict ≡ verdicts.Good) where
  abbrev Found : Type 0
  Found = IsFoundGood config timed g s

  -- a refusal is not good
  refused : (a : Answer) → a.verdict ≡ verdicts.Refused → IsOnly a s → Found
  refused a is only =
      let off : verdicts.Refused ≡ verdicts.Good = sym (ap (λ (x : Answer). x.verdict) only.answer ∙ is) ∙ good in
      absurd (let never : ⊥ = cc in never)

  module _ (texts : first_stranger g ≡ None) (base : CatalogueView) (is : loaded_within (limits_of g.sizes) g.manifest (files_in g) ≡ Ok base) (sizes : are_sizes config ≡ true) where
    abbrev offered : CatalogueView
    offered = with_places base config.spare

    of_script : (on : CatalogueView) → IsOpening offered (Ok on) → opened_by offered g.state ≡ Ok on → (r : Result (List Called) ℕ) → script_calls on 1 (lines_of g.file) ≡ r → IsScriptRun config timed on r s → Found
    of_script on whole opens (Ok calls) asked run = found_good config timed g s texts sizes base is on whole.0 whole.1 whole.2 opens calls asked run
    of_script on whole opens (Err n) asked run = refused _ refl run

    of_opened : (r : Result CatalogueView Answer) → IsOpening offered r → opened_by offered g.state ≡ r → IsOpenedRun config timed (found g) r s → Found
    of_opened (Ok on) whole opens run = of_script on whole opens (script_calls on 1 (lines_of g.file)) refl run
    of_opened (Err a) is_refused opens run = refused a is_refused run

    of_sizes : IsOpenedRun config timed (found g) (opened_by offered g.state) s → Found
    of_sizes run =
        let whole = loaded_is_catalogue (limits_of g.sizes) g.manifest (files_in g) base config.spare (are_limits g.sizes) is (omega (arith, (sizes_from config sizes).spare)) in
        of_opened (opened_by offered g.state) (is_opening offered g.state whole) refl run

  of_catalogue : first_stranger g ≡ None → (base : CatalogueView) → loaded_within (limits_of g.sizes) g.manifest (files_in g) ≡ Ok base → (b : Bool) → are_sizes config ≡ b
      → IsOpenedRun config timed (found g) (opening_of (if b then Some config.spare else None) (Ok base) g.state) s → Found
  of_catalogue texts base is true sizes run = of_sizes texts base is sizes run
  of_catalogue texts base is false sizes run = refused _ refl run

  of_manifest : first_stranger g ≡ None → (o : Outcome) → loaded_within (limits_of g.sizes) g.manifest (files_in g) ≡ o → IsOpenedRun config timed (found g) (opening_of (places_in config) o g.state) s → Found
  of_manifest texts (Ok base) is run = of_catalogue texts base is (are_sizes config) refl run
  of_manifest texts (Err refusal) is run = refused _ refl run

  of_read : (o : Option (List ℕ × List ℕ)) → first_stranger g ≡ o → IsStressRun config timed (unless_strange o (found g)) s → Found
  of_read None texts run = of_manifest texts (loaded_within (limits_of g.sizes) g.manifest (files_in g)) refl run
  of_read (Some stranger) texts run = refused _ refl run

pub transcripts_are_good : TranscriptsAreGood
transcripts_are_good config timed g s run good = of_read config timed g s good (first_stranger g) refl run
