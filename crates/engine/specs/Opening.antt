-- What a command runs on: the catalogue that a manifest and its files say, and the state that it opens on.
use Rattle.std.specs.Prelude.{◌≡◌, ℕ, List, Option, Some, None, IfSome, option_map, Result, Ok, Err, nat_le, if◌then◌else◌}
use Rattle.loader.specs.declared.installed.TheConstants.{MAX_SPARE}
use Rattle.loader.specs.CatalogueView.{CatalogueView, MayOpenOn, with_long_places, sizes_for}
use Rattle.loader.specs.Loading.{Outcome}
use Rattle.loader.specs.StoreState.{with_room}
use Rattle.engine.specs.declared.opening.Loaded.{Loaded}
use Rattle.engine.specs.declared.opening.Loaded.TheVariants as loads
use Rattle.engine.specs.declared.opening.Opened.{Opened}
use Rattle.engine.specs.declared.opening.Opened.TheVariants as opens
use Rattle.engine.specs.Answer.{Answer, refusal_answer}
use Rattle.engine.specs.declared.reading.MapSizes.{MapSizes}
use Rattle.engine.specs.Reading.{TextsRead, loaded_by, long_of}
use Rattle.engine.specs.Report.{answer_of}
use Rattle.engine.specs.Sizes.{sizes_refused}
use Rattle.engine.specs.StateAnswer.{opened_by}

-- how many places there are behind a manifest's programs; none where that is more than there may be
abbrev pub places_within : ℕ → Option ℕ
places_within spare = if nat_le spare MAX_SPARE then Some spare else None

-- by what the manifest was loaded as, by the number of places, and by the most bytes of a program there
abbrev pub opening_of_long : Option ℕ → ℕ → Outcome → List ℕ → Result CatalogueView Answer
opening_of_long places long (Err refusal) state = Err (refusal_answer refusal)
opening_of_long None long (Ok c) state = Err sizes_refused
opening_of_long (Some n) long (Ok c) state = opened_by (with_long_places c n long) state

-- the catalogue with so many places, for programs of so many bytes if that is more than 192, on the state that was read, or what is answered in
-- its place: a refused manifest gets only its refusal, sizes out of their limits, which leave no number of places, only theirs, a refused state only its
abbrev pub opening_within : Option ℕ → ℕ → TextsRead → Result CatalogueView Answer
opening_within places long t = opening_of_long places long (loaded_by t) t.state

-- the same, for programs of at most 192 bytes
abbrev pub opening_of : Option ℕ → Outcome → List ℕ → Result CatalogueView Answer
opening_of places o state = opening_of_long places 0 o state

abbrev pub opening : Option ℕ → TextsRead → Result CatalogueView Answer
opening places t = opening_within places 0 t

-- the same, for programs as long as the sizes allow
abbrev pub long_opening : Option ℕ → TextsRead → Result CatalogueView Answer
long_opening places t = opening_within places (long_of t.sizes) t

-- the catalogue with so many places for programs as long as the sizes allow
abbrev pub with_places_for : MapSizes → CatalogueView → ℕ → CatalogueView
with_places_for sizes c places = with_long_places c places (long_of sizes)

-- ---- by code

-- the catalogue of this outcome, or the answer to its refusal
abbrev pub LoadedIs : Outcome → Loaded → Type 0
LoadedIs (Ok catalogue) (loads.Catalogue c) = c ≡ catalogue
LoadedIs (Err refusal) (loads.Refused reply) = answer_of reply ≡ refusal_answer refusal
LoadedIs (Ok catalogue) (loads.Refused reply) = ⊥
LoadedIs (Err refusal) (loads.Catalogue c) = ⊥

-- the catalogue opens on the state that stands beside it, and may
abbrev pub IsOpened : Opened → Type 0
IsOpened (opens.On catalogue state) = IfSome state (MayOpenOn catalogue) × (catalogue.opening ≡ option_map (λ s. with_room s (sizes_for catalogue)) state)
IsOpened (opens.Refused reply) = Unit {0}

-- on which catalogue a command runs, or what it answers
abbrev pub on_which : Opened → Result CatalogueView Answer
on_which (opens.On catalogue state) = Ok catalogue
on_which (opens.Refused reply) = Err (answer_of reply)
