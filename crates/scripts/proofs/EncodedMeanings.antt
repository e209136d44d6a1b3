-- The lines that `encode` writes mean the calls of their lines.
use Rattle.std.proofs.Common.{◌≡◌, ◌⊎◌, inl, inr, ℕ, List, [], ◌∷◌, Some, refl}
use Rattle.std.specs.List.{AllZip}
use Rattle.text.specs.Lines.{lines_of}
use Rattle.encoding.specs.Calls.{IsCallOf, IsWrittenAs}
use Rattle.encoding.proofs.Export.{lines_are_written}
use Rattle.scripts.specs.EncodedCalls.{MeansItsCall, EncodedLinesMean}
use Rattle.scripts.specs.Script.{Comment, Call, line_meaning, call_meaning, named_call}

abbrev MeansItsLine : List ℕ → List ℕ → Type 0
MeansItsLine line written = ((line_meaning line ≡ Some Comment) × (written ≡ line)) ⊎ MeansItsCall line written

means_call : (line written : List ℕ) (call : IsCallOf line written) → line_meaning written ≡ Some (Call (record { name = call.name; argument = call.argument }))
unfolding line_meaning call_meaning named_call
means_call line written call = rw (call.read.kind, call.read.fields, call.read.argument_is, call.calls.good_name) refl

means_line : (line written : List ℕ) → IsWrittenAs line written → MeansItsLine line written
unfolding line_meaning
means_line line written (inl nothing) = inl (rw nothing.0 refl, nothing.1)
means_line line written (inr call) = inr (record { name = call.name; argument = call.argument; calls = call.calls; means = means_call line written call })

all_mean : (lines written : List (List ℕ)) → AllZip IsWrittenAs lines written → AllZip MeansItsLine lines written
all_mean [] [] all = tt
all_mean [] (w ∷ written) all = absurd all
all_mean (l ∷ lines) [] all = absurd all
all_mean (l ∷ lines) (w ∷ written) all = (means_line l w all.0, all_mean lines written all.1)

pub encoded_lines_mean : EncodedLinesMean
encoded_lines_mean text script bytes h = all_mean (lines_of text) (lines_of script) (lines_are_written text script bytes h)
