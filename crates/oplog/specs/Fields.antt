-- How the fields of calls, new programs, places among bytes and logs are read. No public clause cites this module.
use Rattle.std.specs.Prelude.{◌≡◌, ℕ, ◌+◌, ◌*◌, ◌/◌, ◌%◌, ◌^◌, ◌<◌, ◌≤◌, List, length, take, max, get_or}
use Rattle.std.proofs.Common.{sym, ap, ◌∙◌, arith}
use Rattle.maps.specs.Maps.{AreBytes}
use Rattle.maps.specs.MapSets.{maps_of}
use Rattle.loader.specs.StoreState.{state_of}
use Rattle.maps.specs.declared.shapes.TheConstants.{MAX_ARG_LEN, MOST_ARG_LEN}
use Rattle.oplog.specs.declared.records.TheConstants.{MAX_INSTALLED_BYTES}
use Rattle.oplog.specs.declared.records.Call.TheInside as calls
use Rattle.oplog.specs.declared.records.NewProgram.TheInside as programs
use Rattle.oplog.specs.declared.byte_place.BytePlace.TheInside as places
use Rattle.oplog.specs.declared.log_state.LogState.TheInside as logs
use Rattle.oplog.specs.Calls.{Call, NewProgram, padded}
use Rattle.oplog.specs.History.{History}
use Rattle.oplog.specs.Logs.{Log, up_to_last}
use Rattle.oplog.specs.declared.configuration.TheConstants.{MAX_SESSIONS}

-- the first n of a room's bytes are in use, and after them there are zeros
pub record IsFilled (size n : ℕ) (room : List ℕ) : Type 0 where
  pub fits : n ≤ size
  pub count : length (take n room) ≡ n
  pub are_bytes : AreBytes (take n room)
  pub rest : room ≡ padded size (take n room)

-- ---- a call

abbrev pub call_of : calls.Inside → Call
call_of o = record { program = o.program; argument = take o.argument_len o.argument_bytes }

abbrev pub call_fields : Call → calls.Inside
call_fields o = record { program = o.program; argument_len = length o.argument; argument_bytes = padded MAX_ARG_LEN o.argument }

pub fields_of_call : (o : calls.Inside) → IsFilled MAX_ARG_LEN o.argument_len o.argument_bytes → call_fields (call_of o) ≡ o
fields_of_call o h =
    let kept : List ℕ = take o.argument_len o.argument_bytes in
    let same : calls.Inside = o in
    ap (λ n. record same { argument_len = n; argument_bytes = padded MAX_ARG_LEN kept }) h.count ∙ ap (λ bytes. record same { argument_bytes = bytes }) (sym h.rest)

-- ---- a program to be installed

-- the program's argument is no longer than any may be, and its bytes are filled up
pub record IsNewProgram (o : programs.Inside) : Type 0 where
  pub argument : o.arg_len ≤ MOST_ARG_LEN
  pub filled : IsFilled MAX_INSTALLED_BYTES o.bytes_len o.program_bytes

abbrev pub program_of : programs.Inside → NewProgram
program_of o = record { mode = o.mode; arg_len = o.arg_len; bytes = take o.bytes_len o.program_bytes }

abbrev pub program_fields : NewProgram → programs.Inside
program_fields o = record { mode = o.mode; arg_len = o.arg_len; bytes_len = length o.bytes; program_bytes = padded MAX_INSTALLED_BYTES o.bytes }

pub fields_of_program : (o : programs.Inside) → IsNewProgram o → program_fields (program_of o) ≡ o
fields_of_program o h =
    let kept : List ℕ = take o.bytes_len o.program_bytes in
    let same : programs.Inside = o in
    ap (λ n. record same { bytes_len = n; program_bytes = padded MAX_INSTALLED_BYTES kept }) h.filled.count ∙ ap (λ bytes. record same { program_bytes = bytes }) (sym h.filled.rest)

-- ---- a place among bytes

-- each half fits in 16 bits
pub record IsBytePlace (p : places.Inside) : Type 0 where
  pub high : p.high < 2 ^ 16
  pub low : p.low < 2 ^ 16

abbrev pub place_of : places.Inside → ℕ
place_of p = p.high * 65536 + p.low

abbrev pub place_fields : ℕ → places.Inside
place_fields n = record { high = n / 65536; low = n % 65536 }

pub fields_of_place : (p : places.Inside) → IsBytePlace p → place_fields (place_of p) ≡ p
fields_of_place p h =
    let few = h.low in
    let high : place_of p / 65536 ≡ p.high = omega (arith, few) in
    let low : place_of p % 65536 ≡ p.low = omega (arith, few) in
    λ i. record { high = high i; low = low i }

-- ---- the log

-- for each author it is noted up to which place of the history his records go, where they go above the base
abbrev pub HasEnds : ℕ → History → List ℕ → Type 0
HasEnds base records ends = (author : ℕ) → author < MAX_SESSIONS → max base (get_or ends author 0) ≡ base + up_to_last author records

abbrev pub log_of : logs.Inside → Log
log_of a = record {
  base = a.base;
  base_state = state_of (maps_of a.base_maps) a.base_programs;
  records = a.records.records;
  done = a.done;
  window = a.window;
  long = a.records.long;
  limit = a.limit;
}
