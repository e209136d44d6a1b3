-- What `check` answers, by computing.
use Rattle.std.proofs.Common.{◌≡◌, Ok, refl}
use Rattle.text.specs.Digits.{field_bytes, spaced_bytes}
use Rattle.text.specs.Words.{number_of, number_within, is_name}
use Rattle.text.specs.Lines.{kind_of}
use Rattle.loader.specs.ProgramFiles.{bytes_of_hex, instructions_of, checked_program, entry_for}
use Rattle.loader.specs.NamedFiles.{named_in}
use Rattle.loader.specs.Loading.{with_map, with_entry, with_program, after_line, after_lines, loaded, loaded_within}
use Rattle.loader.specs.Grammar.{is_path, array_meaning, hash_meaning, map_meaning, program_meaning, words_of, words_meaning, line_meaning}
use Rattle.regkind.specs.Frames.{mark, all_marked, with_mark, with_marks}
use Rattle.verifier.specs.Joined.{with_common_kinds, with_common_cells, joined_frames}
use Rattle.verifier.specs.Verdict.{lowest_refusal, verdict}
use Rattle.insn.specs.Decoded.{program_from, decoded}
use Rattle.flow.specs.SlotSets.{has_slot}
use Rattle.flow.specs.Faults.{reached_slots, first_rule, lowest_fault, structure_fault}
use Rattle.engine.specs.Reading.{read}
use Rattle.console.specs.CheckAnswer.{check_answer}
use Rattle.std.specs.Str.{chars, is_utf8, trim_start, trim_end}
use Rattle.std.specs.Fmt.{digits}
use lib.Utf8.{encode}
use Rattle.hex.specs.Hex.{encode_with, decode_pairs}
use Rattle.example_answers.specs.Five.{five_given, five_checked}
use Rattle.example_answers.specs.Counter.{counter_manifest, counter_folder, counter_given, counter_checked}
use Rattle.engine.specs.Files.{present}
use Rattle.example_answers.proofs.Counting.{counter}

pub five_is : check_answer (read five_given) ≡ five_checked
unfolding digits encode chars is_utf8 trim_start trim_end encode_with decode_pairs named_in loaded_within after_lines after_line with_map with_program with_entry entry_for checked_program instructions_of bytes_of_hex line_meaning words_meaning words_of program_meaning map_meaning array_meaning hash_meaning is_path number_of number_within is_name kind_of field_bytes spaced_bytes mark all_marked with_mark with_marks with_common_kinds with_common_cells joined_frames lowest_refusal verdict program_from decoded has_slot reached_slots first_rule lowest_fault structure_fault
five_is = refl

pub counter_is : check_answer (read counter_given) ≡ counter_checked
unfolding digits encode chars is_utf8 trim_start trim_end encode_with decode_pairs named_in loaded_within after_lines after_line with_map with_program with_entry entry_for checked_program instructions_of bytes_of_hex line_meaning words_meaning words_of program_meaning map_meaning array_meaning hash_meaning is_path number_of number_within is_name kind_of field_bytes spaced_bytes mark all_marked with_mark with_marks with_common_kinds with_common_cells joined_frames lowest_refusal verdict program_from decoded has_slot reached_slots first_rule lowest_fault structure_fault
counter_is = refl

-- the catalogue of the counter
pub counter_loads : loaded counter_manifest (present counter_folder (named_in counter_manifest)) ≡ Ok counter
unfolding digits encode chars is_utf8 trim_start trim_end encode_with decode_pairs named_in loaded_within after_lines after_line with_map with_program with_entry entry_for checked_program instructions_of bytes_of_hex line_meaning words_meaning words_of program_meaning map_meaning array_meaning hash_meaning is_path number_of number_within is_name kind_of field_bytes spaced_bytes mark all_marked with_mark with_marks with_common_kinds with_common_cells joined_frames lowest_refusal verdict program_from decoded has_slot reached_slots first_rule lowest_fault structure_fault
counter_loads = refl
