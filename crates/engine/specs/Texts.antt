-- What the commands write.
use Rattle.std.specs.Prelude.{ℕ, List, [], ◌++◌, length, codes, decimal, Option, Some, None}
use Rattle.std.specs.List.{flat_map}
use Rattle.insn.specs.Layout.{size}
use Rattle.insn.specs.Refusal as decoding
use Rattle.insn.specs.declared.decoding.DecodeRefusal.{DecodeRefusal}
use Rattle.verifier.specs.declared.refusal.Refused.{Refused}
use Rattle.verifier.specs.Numbers as verifying
use Rattle.loader.specs.declared.refusals.LoadFault.{LoadFault}
use Rattle.loader.specs.declared.refusals.LoadFault.TheVariants as faults
use Rattle.loader.specs.declared.refusals.LoadRefusal.{LoadRefusal}
use Rattle.loader.specs.CatalogueView.{Entry}
use Rattle.loader.specs.Refusal.{fault_number}

-- a program that was accepted, its slots and its instructions
abbrev pub program_line : Entry → List ℕ
program_line e = e.name ++ (codes " ok " ++ (decimal (size e.checked.program) ++ (codes " " ++ (decimal (length e.checked.program) ++ codes "\n"))))

abbrev pub line_if_any : Option Entry → List ℕ
line_if_any None = []
line_if_any (Some e) = program_line e

abbrev pub programs_text : List Entry → List ℕ
programs_text es = flat_map program_line es

-- where the decoder or the verifier refuses: its own number, and the slot
abbrev pub decode_text : DecodeRefusal → List ℕ
decode_text e = codes " D" ++ (decimal (decoding.fault_number e.why) ++ (codes " slot " ++ decimal e.slot))

abbrev pub verify_text : Refused → List ℕ
verify_text e = codes " V" ++ (decimal (verifying.fault_number e.why) ++ (codes " slot " ++ decimal e.slot))

abbrev pub index_text : LoadFault → List ℕ
index_text (faults.Decode e) = decode_text e
index_text (faults.Verify e) = verify_text e
index_text why = []

-- the line of a refused manifest
abbrev pub refusal_text : LoadRefusal → List ℕ
refusal_text e = codes "line " ++ (decimal e.line ++ (codes ": C" ++ (decimal (fault_number e.why) ++ (index_text e.why ++ codes "\n"))))

abbrev pub no_memory_line : List ℕ
no_memory_line = codes "no memory\n"
