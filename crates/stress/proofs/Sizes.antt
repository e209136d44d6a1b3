-- The sizes of a store: each is within its limits, so it has some session.
use Rattle.std.proofs.Common.{◌≡◌, ℕ, ◌<◌, ◌≤◌, Bool, true, false, List, length, Option, Some, None, Ok, Err, refl, ap, mul-pos}
use Rattle.std.specs.Prelude.{◌&&◌, ◌==◌, nat_le, if◌then◌else◌}
use Rattle.std.specs.Borrow.{Bor}
use Rattle.std.specs.Option.{option_copied}
use Rattle.std.proofs.lemmas.Bool.{and_parts, leb-true}
use Rattle.oplog.specs.declared.configuration.Config.{Config}
use Rattle.oplog.specs.Limits.{IsConfig}
use Rattle.loader.specs.CatalogueView.{CatalogueView, opened_on, with_places, sizes_for}
use Rattle.loader.specs.StoreState.{StoreState}
use Rattle.loader.specs.Loading.{Outcome}
use Rattle.dumps.specs.Loading.{Outcome as StateOutcome, loaded_state}
use Rattle.engine.specs.declared.opening.Opened.TheVariants.{On}
use Rattle.engine.specs.Opening.{IsOpened, opening, opening_of}
use Rattle.engine.specs.Reading.{TextsRead, loaded_by}
use Rattle.engine.specs.Sizes.{are_sizes, places_in}
use Rattle.engine.specs.StateAnswer.{on_text}
use Rattle.engine.proofs.Export.{fits_on, on_loaded, opens_on}
use Rattle.stress.specs.Playing.{MayOpen}
use Rattle.stress.specs.Transcripts.{session_count}

pub some_session : (config : Config) → IsConfig config → 0 < session_count config
some_session config is = mul-pos is.nodes.0 is.slots.0

-- what passes the test of its limits is within them
is_within : (low n high : ℕ) → (nat_le low n && nat_le n high) ≡ true → (low ≤ n) × (n ≤ high)
is_within low n high e = let both = and_parts (nat_le low n) (nat_le n high) e in (leb-true low n both.0, leb-true n high both.1)

pub sizes_from : (config : Config) → are_sizes config ≡ true → IsConfig config
sizes_from config e =
    let nodes = and_parts _ _ e in
    let slots = and_parts _ _ nodes.1 in
    let window = and_parts _ _ slots.1 in
    let limit = and_parts _ _ window.1 in
    record {
      nodes = is_within _ _ _ nodes.0;
      slots = is_within _ _ _ slots.0;
      window = is_within _ _ _ window.0;
      limit = is_within _ _ _ limit.0;
      spare = leb-true _ _ limit.1;
    }

-- ---- what was opened with the places of these sizes

-- a catalogue has them, and so the sizes are within their limits
opened_so : (config : Config) (o : Outcome) (state : List ℕ) (c : CatalogueView) → Ok c ≡ opening_of (places_in config) o state → IsConfig config × (c.places ≡ config.spare) × (c.long ≡ 0)
opened_so config (Err refusal) state c is = absurd cc
opened_so config (Ok base) state c is = by (are_sizes config) refl is
  where
    of_text : (r : StateOutcome) → Ok c ≡ on_loaded (with_places base config.spare) r → (c.places ≡ config.spare) × (c.long ≡ 0)
    of_text (Ok s) e = let same : c ≡ opened_on (with_places base config.spare) s = cc in (ap (λ (x : CatalogueView). x.places) same, ap (λ (x : CatalogueView). x.long) same)
    of_text (Err refusal) e = absurd cc

    of_state : (b : Bool) → Ok c ≡ (if b then Ok (with_places base config.spare) else on_text (with_places base config.spare) state) → (c.places ≡ config.spare) × (c.long ≡ 0)
    of_state true e = let same : c ≡ with_places base config.spare = cc in (ap (λ (x : CatalogueView). x.places) same, ap (λ (x : CatalogueView). x.long) same)
    of_state false e = of_text (loaded_state (sizes_for (with_places base config.spare)) state) e

    by : (b : Bool) → are_sizes config ≡ b → Ok c ≡ opening_of (if b then Some config.spare else None) (Ok base) state → IsConfig config × (c.places ≡ config.spare) × (c.long ≡ 0)
    by true sizes e = let opened = of_state (length state == 0) e in (sizes_from config sizes, opened.0, opened.1)
    by false sizes e = absurd cc

pub config_opened : (config : Config) (t : TextsRead) (c : CatalogueView) → Ok c ≡ opening (places_in config) t → IsConfig config
config_opened config t c is = (opened_so config (loaded_by t) t.state c is).0

pub places_opened : (config : Config) (t : TextsRead) (c : CatalogueView) → Ok c ≡ opening (places_in config) t → c.places ≡ config.spare
places_opened config t c is = (opened_so config (loaded_by t) t.state c is).1

long_opened : (config : Config) (t : TextsRead) (c : CatalogueView) → Ok c ≡ opening (places_in config) t → c.long ≡ 0
long_opened config t c is = (opened_so config (loaded_by t) t.state c is).2

-- ---- what a store opens on

pub may_open : (config : Config) (t : TextsRead) (c : CatalogueView) (lent : Option (Bor StoreState)) (state : Option StoreState) → Ok c ≡ opening (places_in config) t → option_copied lent ≡ state
    → IsOpened (On c state) → MayOpen config c lent
may_open config t c lent state said same opened =
    record { within = config_opened config t c said; places = places_opened config t c said; long = long_opened config t c said; fits = fits_on c lent state same opened; opens = opens_on c lent state same opened }
