-- Lines on two catalogues that differ in what a store opens on, behind histories that leave the same state.
use Rattle.std.proofs.Common.{◌≡◌, ℕ, ◌+◌, ◌<◌, ◌≤◌, Bool, true, false, cond, List, [], ◌∷◌, ◌++◌, length, Option, Some, None, Result, Ok, Err, refl, sym, ap, ap₂, ◌∙◌, arith, subst, append_assoc}
use Rattle.std.specs.Prelude.{option_map, option_and_then, ◌==◌}
use Rattle.std.specs.Option.{option_map_or}
use Rattle.std.proofs.lemmas.Bool.{lt-ltb, eqb-true}
use Rattle.std.proofs.lemmas.List.{length-append}
use Rattle.text.specs.Lines.{lines_of, next_line}
use Rattle.verifier.specs.declared.refusal.Mode.{Mode}
use Rattle.verifier.specs.declared.refusal.Mode.TheVariants.{Update, Read}
use Rattle.verifier.specs.Accepted.{Checked}
use Rattle.loader.specs.StoreState.{StateSizes, StoreState, IsState, with_room, opened_state}
use Rattle.loader.specs.CatalogueView.{CatalogueView, IsCatalogue, number_named, opening_state, sizes_for}
use Rattle.loader.specs.Loading.{Outcome as Loads}
use Rattle.dumps.specs.Dumping.{dump}
use Rattle.dumps.specs.Loading.{Outcome, loaded_state, after_lines}
use Rattle.dumps.proofs.Export.{dump_is_read}
use Rattle.dumps.specs.Laws.{EmptyIsNew}
use Rattle.oplog.specs.Operations.{Operation}
use Rattle.oplog.specs.declared.records.Op.TheVariants.{Run, Install as AnInstall}
use Rattle.oplog.specs.declared.records.Record.{Record}
use Rattle.oplog.specs.History.{Effect, ReadEffect, History, left_by, after}
use Rattle.replica.specs.StoreMeaning.{program_at, store_meaning, AreUpdates, updated, read_of}
use Rattle.replica.specs.Refusals.{early_refusal, install_refusal}
use Rattle.replica.specs.declared.refusals.StoreRefused.{StoreRefused}
use Rattle.replica.specs.declared.refusals.StoreRefused.TheVariants.{UnknownProgram, ArgumentLength}
use Rattle.replica.proofs.Export.{have_effects}
use Rattle.engine.specs.Answer.{Answer}
use Rattle.engine.specs.Opening.{opening_of_long, with_places_for}
use Rattle.engine.specs.StateAnswer.{on_text, opened_by}
use Rattle.engine.specs.Reading.{limits_of, loaded_by, long_of}
use Rattle.engine.proofs.Export.{are_limits, on_loaded}
use Rattle.oplog.specs.declared.configuration.TheConstants.{MAX_LIMIT}
use Rattle.running.specs.declared.single_node.TheConstants.{RUN_PLACES}
use Rattle.scripts.specs.Script.{ProgramCall, Meaning, Comment, Call, InvokeAt, ReadAt, Install, line_meaning}
use Rattle.running.specs.RunAnswer.{Turn, refused, refused_text, with_operation, read_text, state_of, submitted, performed, numbered, called, taken, line_turn, behind, bad_line, lines_answer}
use Rattle.running.specs.KeptRun.{lines_left, script_kept}
use Rattle.running.specs.CutLaws.{SameLine, SameLines, IsCut, lines_kept, LinesMayBeCut, ScriptsMayBeCut}
use Rattle.running.specs.CutLaws as cuts
use Rattle.running.proofs.Turns.{after_append, whole, update_told, install_told}
use Rattle.running.proofs.RunsOfLines.{line_turns_are_runs, loaded_is_catalogue, opened_is_catalogue, placed_for}
use Rattle.running.proofs.UnderLimits.{grows}

-- the catalogue, except that its stores open on something else
abbrev pub on : CatalogueView → Option StoreState → CatalogueView
on c opening = record c { opening = opening }

-- ---- what operations do there

same_update : (c : CatalogueView) (o : Option StoreState) (op : Operation) (s : StoreState) → updated (on c o) op s ≡ updated c op s
same_update c o (Run call) s = refl
same_update c o (AnInstall new) s = refl

same_read : (c : CatalogueView) (o : Option StoreState) (op : Operation) (s : StoreState) → read_of (on c o) op s ≡ read_of c op s
same_read c o (Run call) s = refl
same_read c o (AnInstall new) s = refl

-- the state after one more operation
state_grown : (c : CatalogueView) (h : History) (op : Operation) → state_of c (with_operation h op) ≡ left_by (updated c op (state_of c h)) (state_of c h)
state_grown c h op =
    let r : Record = record { author = 0; seq = length h; op = op } in
    whole c (with_operation h op) ∙ after_append store_meaning c (opening_state c) h (r ∷ []) ∙ ap (λ (s : StoreState). after store_meaning c s (r ∷ [])) (sym (whole c h))

one_longer : (h : History) (op : Operation) → length (with_operation h op) ≡ length h + 1
one_longer h op = length-append h (record { author = 0; seq = length h; op = op } ∷ [])

-- ---- one line

module _ (before limit : ℕ) (c : CatalogueView) (o p : Option StoreState) where
  -- the histories of the two runs leave the same state, and the first is longer by what was before
  pub record Same (h g : History) : Type 0 where
    pub longer : length h ≡ before + length g
    pub state : state_of (on c o) h ≡ state_of (on c p) g

  record SameTurn (h g : History) (first second : Turn) : Type 0 where
    text : SameLine before first.text second.text
    same : Same first.history second.history
    more : length first.history ≤ length h + 1

  -- the histories stay
  still : (h g : History) (text text' : List ℕ) → Same h g → SameLine before text text' → SameTurn h g (record { text = text; history = h }) (record { text = text'; history = g })
  still h g text text' s is = record { text = is; same = s; more = omega arith }

  stops : (h g : History) (why : StoreRefused) → Same h g → SameTurn h g (refused h why) (refused g why)
  stops h g why s = still h g (refused_text why) (refused_text why) s (cuts.SameLine.refusal why)

  -- a line of an effect
  abbrev Shifts : {X : Type 0} → (ℕ → X → List ℕ) → Type 0
  Shifts {X} line = (index : ℕ) (e : X) → SameLine before (line (before + index) e) (line index e)

  effect_line : {X : Type 0} (line : ℕ → X → List ℕ) (i j : ℕ) (e : Option X) → Shifts line → i ≡ before + j → SameLine before (option_map_or (line i) e []) (option_map_or (line j) e [])
  effect_line line i j None shifts is = cuts.SameLine.nothing
  effect_line line i j (Some e) shifts is = subst (λ n. SameLine before (line n e) (line j e)) (sym is) (shifts j e)

  grown : (h g : History) (op : Operation) → Same h g → Same (with_operation h op) (with_operation g op)
  grown h g op s = record {
    longer = let a = one_longer h op in let b = one_longer g op in let l = s.longer in omega arith;
    state =
        state_grown (on c o) h op
        ∙ ap (λ (x : StoreState). left_by (updated (on c o) op x) x) s.state
        ∙ ap (λ e. left_by e (state_of (on c p) g)) (same_update c o op (state_of (on c p) g) ∙ sym (same_update c p op (state_of (on c p) g)))
        ∙ sym (state_grown (on c p) g op);
  }

  submitted_same : (line : ℕ → Effect StoreState → List ℕ) (h g : History) (op : Operation) → Shifts line → Same h g → length h < limit → SameTurn h g (submitted limit line (on c o) h op) (submitted limit line (on c p) g op)
  submitted_same line h g op shifts s room =
      let low : length g < limit = let l = s.longer in omega arith in
      let effects : updated (on c o) op (state_of (on c o) h) ≡ updated (on c p) op (state_of (on c p) g) =
      ap (updated (on c o) op) s.state ∙ same_update c o op (state_of (on c p) g) ∙ sym (same_update c p op (state_of (on c p) g)) in
      let text : SameLine before (option_map_or (line (length h)) (updated (on c o) op (state_of (on c o) h)) []) (option_map_or (line (length g)) (updated (on c p) op (state_of (on c p) g)) []) =
      subst (λ e. SameLine before (option_map_or (line (length h)) e []) (option_map_or (line (length g)) (updated (on c p) op (state_of (on c p) g)) [])) (sym effects)
      (effect_line line (length h) (length g) (updated (on c p) op (state_of (on c p) g)) shifts s.longer) in
      rw (lt-ltb (length h) limit room, lt-ltb (length g) limit low) (record { text = text; same = grown h g op s; more = let a = one_longer h op in omega arith })

  update_shifts : Shifts update_told
  update_shifts index e = cuts.SameLine.update index e.reply e.steps

  install_shifts : Shifts install_told
  install_shifts index e = cuts.SameLine.install index e.reply

  abbrev read_told : ℕ → ReadEffect → List ℕ
  read_told point e = read_text point e.reply e.steps

  performed_same : (h g : History) (op : Operation) (mode : Mode) → Same h g → length h < limit → SameTurn h g (performed limit (on c o) h op mode) (performed limit (on c p) g op mode)
  performed_same h g op Update s room = submitted_same update_told h g op update_shifts s room
  performed_same h g op Read s room =
      let effects : read_of (on c o) op (state_of (on c o) h) ≡ read_of (on c p) op (state_of (on c p) g) =
      ap (read_of (on c o) op) s.state ∙ same_read c o op (state_of (on c p) g) ∙ sym (same_read c p op (state_of (on c p) g)) in
      still h g _ _ s
      (subst (λ e. SameLine before (option_map_or (read_told (length h)) e []) (option_map_or (read_told (length g)) (read_of (on c p) op (state_of (on c p) g)) [])) (sym effects)
      (effect_line read_told (length h) (length g) (read_of (on c p) op (state_of (on c p) g)) (λ index e. cuts.SameLine.read index e.reply e.steps) s.longer))

  numbered_same : (h g : History) (argument : List ℕ) (k : ℕ) → Same h g → length h < limit → SameTurn h g (numbered limit (on c o) h argument k) (numbered limit (on c p) g argument k)
  numbered_same h g argument k s room = by (program_at c k)
    where
      fits : (program : Checked) (b : Bool)
          → SameTurn h g (cond b (performed limit (on c o) h (Run (record { program = k; argument = argument })) program.mode) (refused h ArgumentLength)) (cond b (performed limit (on c p) g (Run (record { program = k; argument = argument })) program.mode) (refused g ArgumentLength))
      fits program true = performed_same h g (Run (record { program = k; argument = argument })) program.mode s room
      fits program false = stops h g ArgumentLength s

      turn : CatalogueView → History → Option Checked → Turn
      turn d f x = option_map_or (λ program. cond (length argument == program.arg_len) (performed limit d f (Run (record { program = k; argument = argument })) program.mode) (refused f ArgumentLength)) x (refused f UnknownProgram)

      by : (x : Option Checked) → SameTurn h g (turn (on c o) h x) (turn (on c p) g x)
      by None = stops h g UnknownProgram s
      by (Some program) = fits program (length argument == program.arg_len)

  unless_same : (h g : History) (why : Option StoreRefused) (first second : Turn) → Same h g → SameTurn h g first second → SameTurn h g (option_map_or (refused h) why first) (option_map_or (refused g) why second)
  unless_same h g None first second s is = is
  unless_same h g (Some why) first second s is = stops h g why s

  called_same : (h g : History) (call : ProgramCall) → Same h g → length h < limit → SameTurn h g (called limit (on c o) h call) (called limit (on c p) g call)
  unfolding called
  called_same h g call s room = by (number_named c.programs call.name)
    where
      by : (k : Option ℕ) → SameTurn h g (option_map_or (numbered limit (on c o) h call.argument) k (refused h UnknownProgram)) (option_map_or (numbered limit (on c p) g call.argument) k (refused g UnknownProgram))
      by None = stops h g UnknownProgram s
      by (Some k) = numbered_same h g call.argument k s room

  taken_same : (h g : History) (m : Meaning) → Same h g → length h < limit → SameTurn h g (taken limit (on c o) h m) (taken limit (on c p) g m)
  taken_same h g Comment s room = still h g [] [] s cuts.SameLine.nothing
  taken_same h g (Call call) s room = called_same h g call s room
  taken_same h g (InvokeAt call) s room = unless_same h g (early_refusal c Update call.program call.argument) _ _ s (performed_same h g (Run call) Update s room)
  taken_same h g (ReadAt call) s room = unless_same h g (early_refusal c Read call.program call.argument) _ _ s (performed_same h g (Run call) Read s room)
  taken_same h g (Install new) s room = unless_same h g (install_refusal c.shapes c.long new) _ _ s (submitted_same install_told h g (AnInstall new) install_shifts s room)

  -- ---- lines

  pub record SameRuns (n m : ℕ) (h g : History) (ls : List (List ℕ)) : Type 0 where
    pub text : SameLines before (lines_answer limit (on c o) n h ls) (lines_answer limit (on c p) m g ls)
    pub state : option_map (state_of (on c o)) (lines_left limit (on c o) h ls) ≡ option_map (state_of (on c p)) (lines_left limit (on c p) g ls)

  pub same_runs : (n m : ℕ) (h g : History) (ls : List (List ℕ)) → Same h g → length h + length ls ≤ limit → SameRuns n m h g ls
  unfolding lines_answer lines_left line_turn
  same_runs n m h g [] s room = record { text = cuts.SameLines.ends; state = ap Some s.state }
  same_runs n m h g (l ∷ ls) s room = let b = both (λ f e s room. same_runs (next_line n) (next_line m) f e ls s room) (line_meaning l) in record { text = b.0; state = b.1 }
    where
      next : CatalogueView → ℕ → Turn → Answer
      next d k turn = behind turn.text (lines_answer limit d (next_line k) turn.history ls)

      left : CatalogueView → Turn → Option History
      left d turn = lines_left limit d turn.history ls

      both : ((f e : History) → Same f e → length f + length ls ≤ limit → SameRuns (next_line n) (next_line m) f e ls) → (x : Option Meaning) → SameLines before (option_map_or (next (on c o) n) (option_map (taken limit (on c o) h) x) (bad_line n)) (option_map_or (next (on c p) m) (option_map (taken limit (on c p) g) x) (bad_line m))
          × (option_map (state_of (on c o)) (option_and_then (left (on c o)) (option_map (taken limit (on c o) h) x)) ≡ option_map (state_of (on c p)) (option_and_then (left (on c p)) (option_map (taken limit (on c p) g) x)))
      both more None = (cuts.SameLines.bad n m, refl)
      both more (Some meaning) =
          let turn = taken_same h g meaning s (omega arith) in
          let fits : length (taken limit (on c o) h meaning).history + length ls ≤ limit = let most = turn.more in omega arith in
          let rest = more (taken limit (on c o) h meaning).history (taken limit (on c p) g meaning).history turn.same fits in
          (cuts.SameLines.line _ _ _ _ turn.text rest.text, rest.state)

-- ---- a cut

-- lines that are good, and then others
record Split (limit : ℕ) (c : CatalogueView) (n : ℕ) (h g : History) (ls ms : List (List ℕ)) : Type 0 where
  next : ℕ
  answer : lines_answer limit c n h (ls ++ ms) ≡ behind (lines_answer limit c n h ls).text (lines_answer limit c next g ms)
  left : lines_left limit c h (ls ++ ms) ≡ lines_left limit c g ms
  updates : AreUpdates c g
  few : length g ≤ length h + length ls

line_grows : (limit : ℕ) (c : CatalogueView) (h : History) (l : List ℕ) (turn : Turn) → line_turn limit c h l ≡ Some turn → length turn.history ≤ length h + 1
unfolding line_turn
line_grows limit c h l turn e = by (line_meaning l) e
  where
    by : (x : Option Meaning) → option_map (taken limit c h) x ≡ Some turn → length turn.history ≤ length h + 1
    by None p = absurd cc
    by (Some m) p = let is : taken limit c h m ≡ turn = cc in subst (λ (x : Turn). length x.history ≤ length h + 1) is (grows c h limit m).1

split : (limit : ℕ) (c : CatalogueView) → IsCatalogue c → (n : ℕ) (h g : History) (ls ms : List (List ℕ)) → AreUpdates c h → lines_left limit c h ls ≡ Some g → Split limit c n h g ls ms
unfolding lines_answer lines_left
split limit c is n h g [] ms updates e =
    let same : h ≡ g = cc in
    subst (λ f. Split limit c n h f [] ms) same (record { next = n; answer = refl; left = refl; updates = updates; few = omega arith })
split limit c is n h g (l ∷ ls) ms updates e = by (λ f updates e. split limit c is (next_line n) f g ls ms updates e) (line_turn limit c h l) refl e
  where
    by : ((f : History) → AreUpdates c f → lines_left limit c f ls ≡ Some g → Split limit c (next_line n) f g ls ms) → (x : Option Turn) → line_turn limit c h l ≡ x → option_and_then (λ turn. lines_left limit c turn.history ls) x ≡ Some g
        → Split limit c n h g (l ∷ ls) ms
    by more None read p = absurd cc
    by more (Some turn) read p =
        let rest = more turn.history (line_turns_are_runs limit c h l turn is updates read).1 p in
        let last : Answer = lines_answer limit c rest.next g ms in
        let own : Answer = lines_answer limit c (next_line n) turn.history ls in
        let one = line_grows limit c h l turn read in
        let few = rest.few in
        record {
          next = rest.next;
          answer =
              ap (λ x. option_map_or (λ turn. behind turn.text (lines_answer limit c (next_line n) turn.history (ls ++ ms))) x (bad_line n)) read
              ∙ ap (behind turn.text) rest.answer
              ∙ ap (λ (text : List ℕ). record { text = text; verdict = last.verdict }) (sym (append_assoc turn.text own.text last.text))
              ∙ sym (ap (λ x. behind (option_map_or (λ turn. behind turn.text (lines_answer limit c (next_line n) turn.history ls)) x (bad_line n)).text last) read);
          left = ap (λ x. option_and_then (λ turn. lines_left limit c turn.history (ls ++ ms)) x) read ∙ rest.left;
          updates = rest.updates;
          few = omega arith;
        }

pub no_updates : (c : CatalogueView) → AreUpdates c []
no_updates c k r e = absurd cc

roomed : (s : StoreState) (z : StateSizes) → s.places ≡ z.places → s.long ≡ z.long → with_room s z ≡ s
roomed s z e l = ap₂ (λ n m. record s { places = n; long = m }) (sym e) (sym l)

-- the state that a history leaves
left_is : (c : CatalogueView) (h : History) → IsCatalogue c → AreUpdates c h → IsState (sizes_for c) (state_of c h)
left_is c h is updates = (have_effects c is h updates).states (length h)

-- the catalogue may be opened anew, on what leaves the same state
cut_at : (limit : ℕ) (c : CatalogueView) (o p : Option StoreState) (h : History) (ls ms : List (List ℕ)) → IsCatalogue (on c o) → lines_left limit (on c o) [] ls ≡ Some h → length h + length ms ≤ limit → state_of (on c o) h ≡ opening_state (on c p)
    → IsCut (length h) (lines_kept limit (on c o) ls) (lines_kept limit (on c p) ms) (lines_kept limit (on c o) (ls ++ ms))
cut_at limit c o p h ls ms is e room state =
    let s = split limit (on c o) is 1 [] h ls ms (no_updates (on c o)) e in
    let same : Same (length h) limit c o p h [] = record { longer = omega arith; state = state } in
    let runs = same_runs (length h) limit c o p s.next 1 h [] ms same room in
    record {
      rest = lines_answer limit (on c o) s.next h ms;
      writes = s.answer;
      replies = runs.text;
      leaves = ap (option_map (state_of (on c o))) s.left ∙ runs.state;
    }

pub lines_cut : LinesMayBeCut
lines_cut limit c h ls ms is e room =
    let s = split limit c is 1 [] h ls ms (no_updates c) e in
    let state = left_is c h is s.updates in
    cut_at limit c c.opening (Some (with_room (state_of c h) (sizes_for c))) h ls ms is e room (sym (roomed (state_of c h) (sizes_for c) state.places state.long))

-- ---- scripts

empty_is_new : EmptyIsNew
unfolding loaded_state after_lines
empty_is_new z = refl

-- a catalogue that was opened by a text, and on what
record OpenedBy (c : CatalogueView) (text : List ℕ) (on_it : CatalogueView) : Type 0 where
  opening : Option StoreState
  is : on c opening ≡ on_it
  catalogue : IsCatalogue on_it

opened_is : (c : CatalogueView) (text : List ℕ) (on_it : CatalogueView) → IsCatalogue c → opened_by c text ≡ Ok on_it → OpenedBy c text on_it
opened_is c text on_it whole e = by (length text == 0) refl e
  where
    on_state : (x : Outcome) → on_loaded c x ≡ Ok on_it → (o : Option StoreState) × (on c o ≡ on_it)
    on_state (Ok s) p = (Some (with_room s (sizes_for c)), cc)
    on_state (Err refusal) p = absurd cc

    by : (b : Bool) → (length text == 0) ≡ b → cond b (Ok c) (on_text c text) ≡ Ok on_it → OpenedBy c text on_it
    by true is p = let same : c ≡ on_it = cc in record { opening = c.opening; is = same; catalogue = subst IsCatalogue same whole }
    by false is p = let x = on_state (loaded_state (sizes_for c) text) p in record { opening = x.0; is = x.1; catalogue = opened_is_catalogue c on_it text whole p }

-- on what a state is dumped as, a catalogue opens on that state
record OpensOn (c : CatalogueView) (s : StoreState) : Type 0 where
  opening : Option StoreState
  is : opened_by c (dump s) ≡ Ok (on c opening)
  state : opening_state (on c opening) ≡ s

opens : (c : CatalogueView) (s : StoreState) → c.opening ≡ None → IsState (sizes_for c) s → OpensOn c s
opens c s new state = by (length (dump s) == 0) refl
  where
    read : loaded_state (sizes_for c) (dump s) ≡ Ok s
    read = dump_is_read (sizes_for c) s state

    nothing : (text : List ℕ) → length text ≡ 0 → text ≡ []
    nothing [] e = refl
    nothing (x ∷ xs) e = absurd (omega arith)

    by : (b : Bool) → (length (dump s) == 0) ≡ b → OpensOn c s
    by true e =
        let none = nothing (dump s) (eqb-true (length (dump s)) 0 e) in
        let fresh : Ok (opened_state (sizes_for c)) ≡ Ok s = sym (empty_is_new (sizes_for c)) ∙ ap (loaded_state (sizes_for c)) (sym none) ∙ read in
        record {
          opening = None;
          is = ap (λ b. cond b (Ok c) (on_text c (dump s))) e ∙ ap (λ (o : Option StoreState). Ok (on c o)) new;
          state = cc;
        }
    by false e = record {
      opening = Some (with_room s (sizes_for c));
      is = ap (λ b. cond b (Ok c) (on_text c (dump s))) e ∙ ap (on_loaded c) read;
      state = roomed s (sizes_for c) state.places state.long;
    }

module _ (whole first second state : List ℕ) (s : StoreState) (same : lines_of whole ≡ lines_of first ++ lines_of second) (few : length (lines_of whole) ≤ MAX_LIMIT) where
  abbrev Cut : Result CatalogueView Answer → Result CatalogueView Answer → Type 0
  Cut r q = (before : ℕ) × IsCut before (script_kept first r) (script_kept second q) (script_kept whole r)

  left_some : (c : CatalogueView) (x : Option History) → option_map (state_of c) x ≡ Some s → (h : History) × (x ≡ Some h) × (state_of c h ≡ s)
  left_some c None e = absurd cc
  left_some c (Some h) e = (h, refl, cc)

  on_catalogue : (c : CatalogueView) (o : Option StoreState) → c.opening ≡ None → IsCatalogue (on c o) → (script_kept first (Ok (on c o))).state ≡ Some s → Cut (Ok (on c o)) (opened_by c (dump s))
  on_catalogue c o new is e =
      let h = left_some (on c o) (lines_left MAX_LIMIT (on c o) [] (lines_of first)) e in
      let cuts = split MAX_LIMIT (on c o) is 1 [] h.0 (lines_of first) (lines_of second) (no_updates (on c o)) h.1 in
      let fits : length h.0 + length (lines_of second) ≤ MAX_LIMIT =
      (let short = cuts.few in let long = length-append (lines_of first) (lines_of second) in let size = ap (λ xs. length xs) same in omega arith) in
      let d = opens c s new (subst (IsState (sizes_for c)) h.2 (left_is (on c o) h.0 is cuts.updates)) in
      let cut = cut_at MAX_LIMIT c o d.opening h.0 (lines_of first) (lines_of second) is h.1 fits (h.2 ∙ sym d.state) in (
        length h.0,
        subst (λ q. IsCut (length h.0) (script_kept first (Ok (on c o))) (script_kept second q) (script_kept whole (Ok (on c o)))) (sym d.is)
            (subst (λ ls. IsCut (length h.0) (lines_kept MAX_LIMIT (on c o) (lines_of first)) (lines_kept MAX_LIMIT (on c d.opening) (lines_of second)) (lines_kept MAX_LIMIT (on c o) ls)) (sym same) cut),
      )

  on_opened : (c : CatalogueView) (r : Result CatalogueView Answer) → c.opening ≡ None → IsCatalogue c → opened_by c state ≡ r → (script_kept first r).state ≡ Some s → Cut r (opened_by c (dump s))
  on_opened c (Err a) new is opened e = absurd cc
  on_opened c (Ok on_it) new is opened e =
      let x = opened_is c state on_it is opened in
      subst (λ r. Cut (Ok r) (opened_by c (dump s))) x.is
      (on_catalogue c x.opening new (subst IsCatalogue (sym x.is) x.catalogue) (ap (λ (r : CatalogueView). (script_kept first (Ok r)).state) x.is ∙ e))

pub scripts_cut : ScriptsMayBeCut
scripts_cut t whole first second s same few e = by (loaded_by t) refl e
  where
    opens_at : Loads → List ℕ → Result CatalogueView Answer
    opens_at o state = opening_of_long (Some RUN_PLACES) (long_of t.sizes) o state

    by : (o : Loads) → loaded_by t ≡ o → (script_kept first (opens_at o t.state)).state ≡ Some s → Cut whole first second t.state s same few (opens_at o t.state) (opens_at o (dump s))
    by (Err refusal) is p = absurd cc
    by (Ok c) is p =
        on_opened whole first second t.state s same few (with_places_for t.sizes c RUN_PLACES) (opened_by (with_places_for t.sizes c RUN_PLACES) t.state) refl
        (placed_for t.sizes c RUN_PLACES (loaded_is_catalogue (limits_of t.sizes) t.manifest t.files c RUN_PLACES (are_limits t.sizes) is (omega arith))) refl p
