-- Each line of the counter's script, by computing.
use Rattle.std.proofs.Common.{◌≡◌, ◌∙◌, ℕ, List, [], codes, Option, Some, refl, ap}
use Rattle.std.specs.Prelude.{option_map}
use Rattle.std.specs.Str.{chars, is_utf8, trim_start, trim_end}
use Rattle.std.specs.Fmt.{digits}
use lib.Utf8.{encode}
use Rattle.hex.specs.Hex.{encode_with, decode_pairs}
use Rattle.text.specs.Digits.{field_bytes}
use Rattle.text.specs.Words.{is_name}
use Rattle.text.specs.Lines.{kind_of}
use Rattle.maps.specs.Maps.{Maps}
use Rattle.machine.specs.Effects.{effect, effect_of}
use Rattle.machine.specs.MapExamples.{bump, peek, with_values}
use Rattle.oplog.specs.declared.configuration.TheConstants.{MAX_LIMIT}
use Rattle.oplog.specs.Operations.{Operation}
use Rattle.oplog.specs.declared.records.Op.TheVariants.{Run}
use Rattle.loader.specs.StoreState.{StoreState}
use Rattle.oplog.specs.History.{Effect, ReadEffect, History, state_after, left_by}
use Rattle.replica.specs.StoreMeaning.{store_meaning, as_update, as_read}
use Rattle.scripts.specs.Script.{named_call, call_meaning, line_meaning}
use Rattle.std.specs.Option.{option_map_or}
use Rattle.running.specs.RunAnswer.{Turn, update_text, read_text, with_operation, called, line_turn}
use Rattle.example_answers.proofs.Counting.{running, first, absent, counted, one, two, read_two, none_there}
use Rattle.example_answers.proofs.Opening.{opening, opens, none_opens, counts, none_counts}

-- the history after so many calls of bump
abbrev bump_of : List ℕ → Operation
bump_of argument = Run (record { program = 0; argument = argument })

abbrev pub once : History
once = with_operation [] (bump_of first)

abbrev pub twice : History
twice = with_operation once (bump_of first)

abbrev pub thrice : History
thrice = with_operation twice (bump_of absent)

-- the maps then
abbrev maps_0 : Maps
maps_0 = with_values opening

abbrev maps_1 : Maps
maps_1 = with_values (counted opening 1)

abbrev maps_2 : Maps
maps_2 = with_values (counted (counted opening 1) 2)

-- with no program installed
abbrev with_maps : Maps → StoreState
with_maps maps = record { maps = maps; programs = []; places = 4; long = 0 }

first_goes_up : effect bump maps_0 first ≡ Some (effect_of 9 1 maps_1)
first_goes_up = one opening opens

second_goes_up : effect bump maps_1 first ≡ Some (effect_of 9 2 maps_2)
second_goes_up = two (counted opening 1) (counts opening 1)

is_two : effect peek maps_2 first ≡ Some (effect_of 6 2 maps_2)
is_two = read_two (counted (counted opening 1) 2) (counts (counted opening 1) 2)

is_none : effect bump maps_2 absent ≡ Some (effect_of 6 18446744073709551615 maps_2)
is_none = none_there (counted (counted opening 1) 2) (none_counts (counted opening 1) 2 (none_counts opening 1 none_opens))

after_one : state_after store_meaning running once 1 ≡ with_maps maps_1
after_one = ap (λ e. left_by (option_map (as_update (with_maps maps_0)) e) (with_maps maps_0)) first_goes_up

after_two : state_after store_meaning running twice 2 ≡ with_maps maps_2
after_two = ap (λ s. left_by (option_map (as_update s) (effect bump s.maps first)) s) after_one ∙ ap (λ e. left_by (option_map (as_update (with_maps maps_1)) e) (with_maps maps_1)) second_goes_up

-- the line of an update, and of a read, that has this effect
abbrev update_line : ℕ → Option (Effect StoreState) → List ℕ
update_line index o = option_map_or (λ e. update_text index e.reply e.steps) o []

abbrev read_line : ℕ → Option ReadEffect → List ℕ
read_line point o = option_map_or (λ e. read_text point e.reply e.steps) o []

-- what a line writes, and the history behind it
abbrev turn : List ℕ → History → Option Turn
turn text history = Some (record { text = text; history = history })

pub bump_once : line_turn MAX_LIMIT running [] (codes "bump 00000000") ≡ turn (codes "update 0 reply 1 steps 9\n") once
unfolding line_turn called line_meaning call_meaning named_call kind_of field_bytes is_name digits encode chars is_utf8 trim_start trim_end encode_with decode_pairs
bump_once = ap (λ e. turn (update_line 0 (option_map (as_update (with_maps maps_0)) e)) once) first_goes_up

pub bump_twice : line_turn MAX_LIMIT running once (codes "bump 00000000") ≡ turn (codes "update 1 reply 2 steps 9\n") twice
unfolding line_turn called line_meaning call_meaning named_call kind_of field_bytes is_name digits encode chars is_utf8 trim_start trim_end encode_with decode_pairs
bump_twice =
    ap (λ s. turn (update_line 1 (option_map (as_update s) (effect bump s.maps first))) twice) after_one
    ∙ ap (λ e. turn (update_line 1 (option_map (as_update (with_maps maps_1)) e)) twice) second_goes_up

pub peek_then : line_turn MAX_LIMIT running twice (codes "peek 00000000") ≡ turn (codes "read 2 reply 2 steps 6\n") twice
unfolding line_turn called line_meaning call_meaning named_call kind_of field_bytes is_name digits encode chars is_utf8 trim_start trim_end encode_with decode_pairs
peek_then =
    ap (λ s. turn (read_line 2 (option_map as_read (effect peek s.maps first))) twice) after_two
    ∙ ap (λ e. turn (read_line 2 (option_map as_read e)) twice) is_two

pub bump_none : line_turn MAX_LIMIT running twice (codes "bump 10000000") ≡ turn (codes "update 2 reply 18446744073709551615 steps 6\n") thrice
unfolding line_turn called line_meaning call_meaning named_call kind_of field_bytes is_name digits encode chars is_utf8 trim_start trim_end encode_with decode_pairs
bump_none =
    ap (λ s. turn (update_line 2 (option_map (as_update s) (effect bump s.maps absent))) thrice) after_two
    ∙ ap (λ e. turn (update_line 2 (option_map (as_update (with_maps maps_2)) e)) thrice) is_none

pub nope : line_turn MAX_LIMIT running thrice (codes "nope 00") ≡ turn (codes "refused S1\n") thrice
unfolding line_turn called line_meaning call_meaning named_call kind_of field_bytes is_name digits encode chars is_utf8 trim_start trim_end encode_with decode_pairs
nope = refl
