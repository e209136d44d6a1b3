-- Lines under a limit that they don't come to, and under a greater one.
use Rattle.std.proofs.Common.{◌≡◌, ℕ, ◌+◌, ◌≤◌, Bool, true, false, cond, ltb, List, [], ◌∷◌, length, Option, Some, None, refl, ap, ◌∙◌, arith}
use Rattle.std.specs.Prelude.{option_map, ◌==◌}
use Rattle.std.specs.Option.{option_map_or}
use Rattle.std.proofs.lemmas.Bool.{ltb-true, ltb-false}
use Rattle.std.proofs.lemmas.List.{length-append}
use Rattle.verifier.specs.declared.refusal.Mode.{Mode}
use Rattle.verifier.specs.declared.refusal.Mode.TheVariants.{Update, Read}
use Rattle.verifier.specs.Accepted.{Checked}
use Rattle.text.specs.Lines.{next_line}
use Rattle.loader.specs.StoreState.{StoreState}
use Rattle.loader.specs.CatalogueView.{CatalogueView, number_named}
use Rattle.oplog.specs.Calls.{Call as TheCall}
use Rattle.oplog.specs.Operations.{Operation}
use Rattle.oplog.specs.declared.records.Op.TheVariants.{Run, Install as AnInstall}
use Rattle.oplog.specs.History.{Effect, History, effect_at}
use Rattle.replica.specs.StoreMeaning.{program_at, store_meaning}
use Rattle.replica.specs.Refusals.{early_refusal, install_refusal}
use Rattle.replica.specs.declared.refusals.StoreRefused.{StoreRefused}
use Rattle.replica.specs.declared.refusals.StoreRefused.TheVariants.{UnknownProgram, ArgumentLength, Ended}
use Rattle.engine.specs.Answer.{Answer}
use Rattle.scripts.specs.Script.{Meaning, Comment, Call, InvokeAt, ReadAt, Install, line_meaning}
use Rattle.running.specs.RunAnswer.{Turn, refused, with_operation, submitted, performed, numbered, called, taken, line_turn, behind, bad_line, lines_answer}
use Rattle.running.proofs.Turns.{update_told, install_told, performed_by}
use Rattle.running.specs.LimitLaws.{lines_reached, LimitIsUnfelt, FewLinesAreAlike}

module _ (c : CatalogueView) (h : History) where
  -- what an update leaves that has its line
  abbrev done : (ℕ → Effect StoreState → List ℕ) → Operation → Turn
  done line op = record { text = option_map_or (line (length h)) (effect_at store_meaning c h (length h) op) []; history = with_operation h op }

  one_more : (op : Operation) → length (with_operation h op) ≡ length h + 1
  one_more op = length-append h (record { author = 0; seq = length h; op = op } ∷ [])

  -- ---- a line drops no record, and adds one at most

  abbrev Grows : Turn → Type 0
  Grows turn = (length h ≤ length turn.history) × (length turn.history ≤ length h + 1)

  stays : (length h ≤ length h) × (length h ≤ length h + 1)
  stays = (omega arith, omega arith)

  module _ (limit : ℕ) where
    submitted_grows : (line : ℕ → Effect StoreState → List ℕ) (op : Operation) → Grows (submitted limit line c h op)
    submitted_grows line op = by_room (ltb (length h) limit)
      where
        by_room : (b : Bool) → Grows (cond b (done line op) (refused h Ended))
        by_room true = let size = one_more op in (omega (arith, size), omega (arith, size))
        by_room false = stays

    performed_grows : (op : Operation) (mode : Mode) → Grows (performed limit c h op mode)
    performed_grows op Update = submitted_grows update_told op
    performed_grows op Read = stays

    by_grows : (call : TheCall) (o : Option Checked) → Grows (performed_by limit c h call o)
    by_grows call None = stays
    by_grows call (Some program) = by_length (length call.argument == program.arg_len)
      where
        by_length : (b : Bool) → Grows (cond b (performed limit c h (Run call) program.mode) (refused h ArgumentLength))
        by_length true = performed_grows (Run call) program.mode
        by_length false = stays

    numbered_grows : (argument : List ℕ) (k : Option ℕ) → Grows (option_map_or (numbered limit c h argument) k (refused h UnknownProgram))
    numbered_grows argument None = stays
    numbered_grows argument (Some k) = by_grows (record { program = k; argument = argument }) (program_at c k)

    unless_grows : (turn : Turn) (o : Option StoreRefused) → Grows turn → Grows (option_map_or (refused h) o turn)
    unless_grows turn None grows = grows
    unless_grows turn (Some why) grows = stays

    pub grows : (m : Meaning) → Grows (taken limit c h m)
    unfolding called
    grows Comment = stays
    grows (Call call) = numbered_grows call.argument (number_named c.programs call.name)
    grows (InvokeAt call) = unless_grows (performed limit c h (Run call) Update) (early_refusal c Update call.program call.argument) (performed_grows (Run call) Update)
    grows (ReadAt call) = unless_grows (performed limit c h (Run call) Read) (early_refusal c Read call.program call.argument) (performed_grows (Run call) Read)
    grows (Install new) = unless_grows (submitted limit install_told c h (AnInstall new)) (install_refusal c.shapes c.long new) (submitted_grows install_told (AnInstall new))

  -- ---- and does the same under both limits

  module _ (limit greater : ℕ) (le : limit ≤ greater) where
    abbrev IsWithin : Turn → Type 0
    IsWithin turn = length turn.history ≤ limit

    submitted_alike : (line : ℕ → Effect StoreState → List ℕ) (op : Operation) → IsWithin (submitted greater line c h op) → submitted limit line c h op ≡ submitted greater line c h op
    submitted_alike line op = by_room (ltb (length h) limit) (ltb (length h) greater) refl refl
      where
        by_room : (a b : Bool) → ltb (length h) limit ≡ a → ltb (length h) greater ≡ b → IsWithin (cond b (done line op) (refused h Ended))
            → cond a (done line op) (refused h Ended) ≡ cond b (done line op) (refused h Ended)
        by_room true true low high within = refl
        by_room false false low high within = refl
        by_room true false low high within = let less = ltb-true _ _ low in let full = ltb-false _ _ high in absurd (omega (arith, le, less, full))
        by_room false true low high within = let full = ltb-false _ _ low in let size = one_more op in absurd (omega (arith, within, full, size))

    performed_alike : (op : Operation) (mode : Mode) → IsWithin (performed greater c h op mode) → performed limit c h op mode ≡ performed greater c h op mode
    performed_alike op Update within = submitted_alike update_told op within
    performed_alike op Read within = refl

    by_alike : (call : TheCall) (o : Option Checked) → IsWithin (performed_by greater c h call o) → performed_by limit c h call o ≡ performed_by greater c h call o
    by_alike call None within = refl
    by_alike call (Some program) within = by_length (length call.argument == program.arg_len) within
      where
        by_length : (b : Bool) → IsWithin (cond b (performed greater c h (Run call) program.mode) (refused h ArgumentLength))
            → cond b (performed limit c h (Run call) program.mode) (refused h ArgumentLength) ≡ cond b (performed greater c h (Run call) program.mode) (refused h ArgumentLength)
        by_length true within = performed_alike (Run call) program.mode within
        by_length false within = refl

    numbered_alike : (argument : List ℕ) (k : Option ℕ) → IsWithin (option_map_or (numbered greater c h argument) k (refused h UnknownProgram))
        → option_map_or (numbered limit c h argument) k (refused h UnknownProgram) ≡ option_map_or (numbered greater c h argument) k (refused h UnknownProgram)
    numbered_alike argument None within = refl
    numbered_alike argument (Some k) within = by_alike (record { program = k; argument = argument }) (program_at c k) within

    unless_alike : (few more : Turn) (o : Option StoreRefused) → (IsWithin more → few ≡ more) → IsWithin (option_map_or (refused h) o more) → option_map_or (refused h) o few ≡ option_map_or (refused h) o more
    unless_alike few more None same within = same within
    unless_alike few more (Some why) same within = refl

    alike : (m : Meaning) → IsWithin (taken greater c h m) → taken limit c h m ≡ taken greater c h m
    unfolding called
    alike Comment within = refl
    alike (Call call) within = numbered_alike call.argument (number_named c.programs call.name) within
    alike (InvokeAt call) within = unless_alike _ _ (early_refusal c Update call.program call.argument) (performed_alike (Run call) Update) within
    alike (ReadAt call) within = refl
    alike (Install new) within = unless_alike _ _ (install_refusal c.shapes c.long new) (submitted_alike install_told (AnInstall new)) within

-- ---- the lines

-- how far lines come: they drop no record, and add one each at most
abbrev Between : ℕ → CatalogueView → List (List ℕ) → History → Type 0
Between limit c ls h = (length h ≤ length (lines_reached limit c h ls)) × (length (lines_reached limit c h ls) ≤ length h + length ls)

module _ (limit : ℕ) (c : CatalogueView) (h : History) (ls : List (List ℕ)) (more : (g : History) → Between limit c ls g) where
  abbrev come_to : Option Meaning → History
  come_to o = option_map_or (λ turn. lines_reached limit c turn.history ls) (option_map (taken limit c h) o) h

  line_reaches : (o : Option Meaning) → (length h ≤ length (come_to o)) × (length (come_to o) ≤ length h + (length ls + 1))
  line_reaches None = (omega arith, omega arith)
  line_reaches (Some m) =
      let one = grows c h limit m in
      let rest = more (taken limit c h m).history in
      (omega (arith, one.0, rest.0), omega (arith, one.1, rest.1))

reached_on : (limit : ℕ) (c : CatalogueView) (ls : List (List ℕ)) (h : History) → Between limit c ls h
unfolding lines_reached line_turn
reached_on limit c [] h = (omega arith, omega arith)
reached_on limit c (l ∷ ls) h =
    let line = line_reaches limit c h ls (λ g. reached_on limit c ls g) (line_meaning l) in
    (line.0, omega (arith, line.1))

module _ (limit greater : ℕ) (le : limit ≤ greater) (c : CatalogueView) (n : ℕ) (h : History) (ls : List (List ℕ))
    (more : (g : History) → length (lines_reached greater c g ls) ≤ limit → lines_answer limit c (next_line n) g ls ≡ lines_answer greater c (next_line n) g ls) where
  -- what a line writes, and the lines behind it
  abbrev next : ℕ → Turn → Answer
  next most turn = behind turn.text (lines_answer most c (next_line n) turn.history ls)

  line_alike : (o : Option Meaning) → length (option_map_or (λ turn. lines_reached greater c turn.history ls) (option_map (taken greater c h) o) h) ≤ limit
      → option_map_or (next limit) (option_map (taken limit c h) o) (bad_line n) ≡ option_map_or (next greater) (option_map (taken greater c h) o) (bad_line n)
  line_alike None within = refl
  line_alike (Some m) within =
      let turn : Turn = taken greater c h m in
      let rest = reached_on greater c ls turn.history in
      ap (next limit) (alike c h limit greater le m (omega (arith, rest.0, within))) ∙ ap (behind turn.text) (more turn.history within)

pub limit_is_unfelt : LimitIsUnfelt
unfolding lines_answer lines_reached line_turn
limit_is_unfelt limit greater c n h [] le within = refl
limit_is_unfelt limit greater c n h (l ∷ ls) le within =
    line_alike limit greater le c n h ls (λ g w. limit_is_unfelt limit greater c (next_line n) g ls le w) (line_meaning l) within

pub few_lines_are_alike : FewLinesAreAlike
few_lines_are_alike limit greater c n h ls le few =
    let reached = reached_on greater c ls h in
    limit_is_unfelt limit greater c n h ls le (omega (arith, reached.1, few))
