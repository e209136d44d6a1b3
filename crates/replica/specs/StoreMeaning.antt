-- What the operations of a store mean: a call is a run of its program on the maps, and an install adds a program.
use Rattle.std.specs.Prelude.{◌≡◌, ◌⊎◌, ℕ, ◌+◌, ◌-◌, ◌<◌, ◌≤◌, Bool, true, false, ◌&&◌, nat_eq, nat_lt, nat_le, if◌then◌else◌, List, [], ◌∷◌, ◌++◌, length, Option, Some, None, Ok, Err, Result, is_ok, slice_get, option_map}
use Rattle.std.specs.List.{list_all}
use Rattle.insn.specs.declared.instruction.Form.{Form}
use Rattle.insn.specs.Refusal.{Decodes}
use Rattle.maps.specs.Maps.{Maps, AreBytes}
use Rattle.verifier.specs.declared.refusal.Mode.{Mode}
use Rattle.verifier.specs.declared.refusal.Mode.TheVariants.{Update, Read}
use Rattle.verifier.specs.Signature.{signature}
use Rattle.verifier.specs.Typing.{IsTypable}
use Rattle.verifier.specs.Accepted.{Checked}
use Rattle.machine.specs.Effects.{effect, effect_of, Effect as RunEffect}
use Rattle.machine.specs.declared.running.Outcome.{Outcome}
use Rattle.loader.specs.CatalogueView.{CatalogueView, opening_state}
use Rattle.loader.specs.Installed.{installed_program, most_argument, most_bytes}
use Rattle.loader.specs.declared.installed.InstallRefusal.{InstallRefusal}
use Rattle.loader.specs.StoreState.{StoreState}
use Rattle.oplog.specs.Calls.{Call, NewProgram}
use Rattle.oplog.specs.Operations.{Operation}
use Rattle.oplog.specs.declared.records.Op.TheVariants.{Run, Install}
use Rattle.oplog.specs.declared.records.Record.{Record}
use Rattle.oplog.specs.History.{Effect, ReadEffect, Meaning, History}

-- ---- programs by their numbers

-- the k-th program of the catalogue
abbrev pub program_at : CatalogueView → ℕ → Option Checked
program_at c k = option_map (λ e. e.checked) (slice_get c.programs k)

-- program k, where these were installed: one of the catalogue's, or behind them one that was installed
abbrev pub program_among : CatalogueView → List Checked → ℕ → Option Checked
program_among c installed k = if nat_lt k (length c.programs) then program_at c k else slice_get installed (k - length c.programs)

-- `program_among` in a state
abbrev pub program_in : CatalogueView → StoreState → ℕ → Option Checked
program_in c s k = program_among c s.programs k

-- ---- what operations mean

-- replies that leave everything as it was, as 64 bits: there is no such program (-22), and no place is free (-7)
abbrev pub no_program : ℕ
no_program = 18446744073709551594

abbrev pub no_place : ℕ
no_place = 18446744073709551609

abbrev pub is_mode : Mode → Mode → Bool
is_mode Update Update = true
is_mode Read Read = true
is_mode Update Read = false
is_mode Read Update = false

-- the program has this mode, and its argument this length
abbrev pub suits : Mode → List ℕ → Checked → Bool
suits mode argument p = is_mode p.mode mode && nat_eq (length argument) p.arg_len

-- the run of a program that suits, or the reply that there is none
abbrev pub run_in : Mode → List ℕ → Maps → Option Checked → Option RunEffect
run_in mode argument maps None = Some (effect_of 0 no_program maps)
run_in mode argument maps (Some p) = if suits mode argument p then effect p.program maps argument else Some (effect_of 0 no_program maps)

-- the run of the program that a call names
abbrev pub run_of : Mode → CatalogueView → Call → StoreState → Option RunEffect
run_of mode c call s = run_in mode call.argument s.maps (program_in c s call.program)

-- the call of a program's number, and what a run did that answered this and left these maps
abbrev pub call_of : ℕ → List ℕ → Call
call_of program argument = record { program = program; argument = argument }

abbrev pub ran_to : Outcome → Maps → RunEffect
ran_to o maps = effect_of o.steps o.reply maps

-- a run as an update, which leaves the programs, and as a read
abbrev pub as_update : StoreState → RunEffect → Effect StoreState
as_update s e = record { steps = e.steps; reply = e.reply; left = record s { maps = e.maps } }

abbrev pub as_read : RunEffect → ReadEffect
as_read e = record { steps = e.steps; reply = e.reply }

-- a program takes the next place, and its number is the reply; or no place is free
abbrev pub placed : CatalogueView → StoreState → Checked → Effect StoreState
placed c s p =
    if nat_lt (length s.programs) s.places
    then record { steps = 0; reply = length c.programs + length s.programs; left = record s { programs = s.programs ++ p ∷ [] } }
    else record { steps = 0; reply = no_place; left = s }

-- `placed`, if bytes were read as such a program
abbrev pub placed_read : CatalogueView → StoreState → Result Checked InstallRefusal → Option (Effect StoreState)
placed_read c s (Ok p) = Some (placed c s p)
placed_read c s (Err e) = None

-- what an operation does as an update, and as a read
abbrev pub updated : CatalogueView → Operation → StoreState → Option (Effect StoreState)
updated c (Run call) s = option_map (as_update s) (run_of Update c call s)
updated c (Install new) s = placed_read c s (installed_program c.shapes new.mode new.arg_len new.bytes)

abbrev pub read_of : CatalogueView → Operation → StoreState → Option ReadEffect
read_of c (Run call) s = option_map as_read (run_of Read c call s)
read_of c (Install new) s = None

-- the reply and the steps of an update, as a run answers them; and the update of such an answer, which leaves this
abbrev pub outcome_of : Effect StoreState → Outcome
outcome_of e = record { reply = e.reply; steps = e.steps }

abbrev pub answered : Outcome → StoreState → Effect StoreState
answered o s = record { steps = o.steps; reply = o.reply; left = s }

-- ---- which operations there are

-- the call names a program of the catalogue, of that mode, and its argument is bytes, as many as the program's has
pub record IsOffered (mode : Mode) (c : CatalogueView) (call : Call) : Type 0 where
  pub program : Checked
  pub named : program_at c call.program ≡ Some program
  pub mode_is : program.mode ≡ mode
  pub length_is : length call.argument ≡ program.arg_len
  pub bytes : AreBytes call.argument

-- the call names a place, and its argument is bytes, few enough for some program
pub record IsOfPlace (c : CatalogueView) (call : Call) : Type 0 where
  pub behind : length c.programs ≤ call.program
  pub within : call.program < length c.programs + c.places
  pub short : length call.argument ≤ most_argument c.long
  pub bytes : AreBytes call.argument

-- a call is one of these
abbrev pub IsCall : Mode → CatalogueView → Call → Type 0
IsCall mode c call = IsOffered mode c call ⊎ IsOfPlace c call

-- few bytes that spell a program which is typable for the catalogue's maps
pub record IsInstallable (c : CatalogueView) (new : NewProgram) : Type 0 where
  pub few : length new.bytes ≤ most_bytes c.long
  pub argument : new.arg_len ≤ most_argument c.long
  pub bytes : AreBytes new.bytes
  pub program : List Form
  pub spelled : Decodes new.bytes program
  pub typable : IsTypable program (signature c.shapes new.arg_len new.mode)

-- the operation runs such a call, or as an update installs such a program
abbrev pub IsOperation : Mode → CatalogueView → Operation → Type 0
IsOperation mode c (Run call) = IsCall mode c call
IsOperation Update c (Install new) = IsInstallable c new
IsOperation Read c (Install new) = ⊥

-- the conditions above as tests
abbrev pub are_bytes : List ℕ → Bool
are_bytes xs = list_all (λ b. nat_lt b 256) xs

abbrev pub fits : Mode → List ℕ → Option Checked → Bool
fits mode argument None = false
fits mode argument (Some p) = suits mode argument p && are_bytes argument

abbrev pub fits_place : CatalogueView → Call → Bool
fits_place c call = nat_lt call.program (length c.programs + c.places) && (nat_le (length call.argument) (most_argument c.long) && are_bytes call.argument)

abbrev pub is_call : Mode → CatalogueView → Call → Bool
is_call mode c call = if nat_lt call.program (length c.programs) then fits mode call.argument (program_at c call.program) else fits_place c call

abbrev pub is_installable : CatalogueView → NewProgram → Bool
is_installable c new =
    (nat_le (length new.bytes) (most_bytes c.long) && nat_le new.arg_len (most_argument c.long))
    && (are_bytes new.bytes && is_ok (installed_program c.shapes new.mode new.arg_len new.bytes))

abbrev pub is_operation : Mode → CatalogueView → Operation → Bool
is_operation mode c (Run call) = is_call mode c call
is_operation Update c (Install new) = is_installable c new
is_operation Read c (Install new) = false

-- ---- together

-- a store opens on what its catalogue says
abbrev pub store_meaning : Meaning CatalogueView StoreState
store_meaning = record {
  opening = opening_state;
  update = updated;
  read = read_of;
  is_update = is_operation Update;
  is_read = is_operation Read;
}

-- each record's operation is an update
abbrev pub AreUpdates : CatalogueView → History → Type 0
AreUpdates c records = (k : ℕ) (r : Record) → slice_get records k ≡ Some r → is_operation Update c r.op ≡ true
