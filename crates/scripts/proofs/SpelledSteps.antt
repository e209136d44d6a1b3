-- A line of a list of steps says what it spells.
use Rattle.std.proofs.Common.{◌≡◌, ◌⊎◌, inl, inr, ℕ, ◌≤◌, true, false, eqb, List, [], ◌∷◌, ◌++◌, length, codes, decimal, Some, refl, sym, ap, subst, ◌∙◌}
use Rattle.std.specs.Prelude.{option_map, option_and_then}
use Rattle.std.proofs.lemmas.Option.{same_Some, cond_some}
use Rattle.text.specs.declared.lines.TheConstants.{LINE_BYTES}
use Rattle.text.specs.Fields.{has_no_space, split_at_space}
use Rattle.text.specs.Words.{number_of}
use Rattle.text.proofs.Export.{IsSilent, by_kind_from, by_words, by_hash, by_empty, steps, split_from, split_to}
use Rattle.loader.specs.Spelling.{mode_word}
use Rattle.oplog.specs.Calls.{NewProgram}
use Rattle.scripts.specs.Script.{KeyedCall, keyed_call, new_program}
use Rattle.scripts.specs.StepLine.{StepMeaning, Comment, Post, Install, ReadBegin, Collect, ReadAnswer, Claim, Append, Replay, Finish, Reply, Reclaim, Rebase, is_named_so, slot_at, call_at, install_at, node_step, step_words, step_meaning, step_line_meaning}
use Rattle.scripts.specs.declared.step_lines.SlotAt.{SlotAt}
use Rattle.scripts.specs.LineSpelling.{IsNumber, IsKey, SpellsBytes, SpellsStep, EachStepIsItsSpelling, key_text}
use Rattle.loader.proofs.Export.{no_space_in_number}
use Rattle.scripts.proofs.Fields.{key_plain, keyed_from, keyed_to, new_from, new_to, number_from, number_to}
use Rattle.scripts.proofs.SpelledScripts.{by_word}
use Rattle.encoding.proofs.Export.{mapped}

-- ---- read

slot_from : (t : List ℕ) (at : SlotAt) → slot_at t ≡ Some at → (t ≡ decimal at.node ++ 32 ∷ decimal at.slot) × IsNumber at.node × IsNumber at.slot
unfolding slot_at
slot_from t at e =
    let field = steps (split_at_space t) _ at e in
    let node = steps (number_of field.0.0) _ at field.2 in
    let slot = steps (number_of field.0.1) _ at node.2 in
    let n = number_from field.0.0 node.0 node.1 in
    let s = number_from field.0.1 slot.0 slot.1 in
    subst (λ (a : SlotAt). (t ≡ decimal a.node ++ 32 ∷ decimal a.slot) × IsNumber a.node × IsNumber a.slot) (same_Some _ at slot.2)
    (split_from t field.0 field.1 ∙ (λ i. n.0 i ++ 32 ∷ s.0 i), n.1, s.1)

-- N S NAME HEX
abbrev IsCallAt : ℕ → List ℕ → SlotAt × KeyedCall → Type 0
IsCallAt n t at =
    (digits : List ℕ) × (t ≡ decimal at.0.node ++ 32 ∷ (decimal at.0.slot ++ 32 ∷ (key_text at.1.key ++ 32 ∷ digits))) × IsKey at.1.key × SpellsBytes at.1.argument digits
    × IsNumber at.0.node × IsNumber at.0.slot × (is_named_so n at.1.key ≡ true)

at_from : (n : ℕ) (t : List ℕ) (at : SlotAt × KeyedCall) → call_at n t ≡ Some at → IsCallAt n t at
unfolding call_at
at_from n t at e =
    let first = steps (split_at_space t) _ at e in
    let second = steps (split_at_space first.0.1) _ at first.2 in
    let third = steps (split_at_space second.0.1) _ at second.2 in
    let node = steps (number_of first.0.0) _ at third.2 in
    let slot = steps (number_of second.0.0) _ at node.2 in
    let call = steps (keyed_call third.0.0 third.0.1) _ at slot.2 in
    let last = cond_some (is_named_so n call.0.key) (record { node = node.0; slot = slot.0 }, call.0) at call.2 in
    let a = number_from first.0.0 node.0 node.1 in
    let s = number_from second.0.0 slot.0 slot.1 in
    let k = keyed_from third.0.0 third.0.1 call.0 call.1 in
    let behind : second.0.1 ≡ key_text call.0.key ++ 32 ∷ third.0.1 = split_from second.0.1 third.0 third.1 ∙ ap (λ w. w ++ 32 ∷ third.0.1) k.0 in
    let rest : first.0.1 ≡ decimal slot.0 ++ 32 ∷ (key_text call.0.key ++ 32 ∷ third.0.1) = split_from first.0.1 second.0 second.1 ∙ (λ i. s.0 i ++ 32 ∷ behind i) in
    subst (λ (x : SlotAt × KeyedCall). IsCallAt n t x) last.1
    (third.0.1, split_from t first.0 first.1 ∙ (λ i. a.0 i ++ 32 ∷ rest i), k.1, k.2, a.1, s.1, last.0)

-- N S MODE ARGLEN HEX
abbrev IsInstallAt : List ℕ → SlotAt × NewProgram → Type 0
IsInstallAt t at =
    (rest : List ℕ) × (t ≡ decimal at.0.node ++ 32 ∷ (decimal at.0.slot ++ 32 ∷ rest)) × (new_program rest ≡ Some at.1) × IsNumber at.0.node × IsNumber at.0.slot

install_from : (t : List ℕ) (at : SlotAt × NewProgram) → install_at t ≡ Some at → IsInstallAt t at
unfolding install_at
install_from t at e =
    let first = steps (split_at_space t) _ at e in
    let second = steps (split_at_space first.0.1) _ at first.2 in
    let node = steps (number_of first.0.0) _ at second.2 in
    let slot = steps (number_of second.0.0) _ at node.2 in
    let program = steps (new_program second.0.1) _ at slot.2 in
    let a = number_from first.0.0 node.0 node.1 in
    let s = number_from second.0.0 slot.0 slot.1 in
    let rest : first.0.1 ≡ decimal slot.0 ++ 32 ∷ second.0.1 = split_from first.0.1 second.0 second.1 ∙ ap (λ w. w ++ 32 ∷ second.0.1) s.0 in
    subst (λ (x : SlotAt × NewProgram). IsInstallAt t x) (same_Some _ at program.2)
    (second.0.1, split_from t first.0 first.1 ∙ (λ i. a.0 i ++ 32 ∷ rest i), program.1, a.1, s.1)

abbrev post_said : SlotAt × KeyedCall → StepMeaning
post_said at = Post at.0 at.1

abbrev read_said : SlotAt × KeyedCall → StepMeaning
read_said at = ReadBegin at.0 at.1

abbrev install_said : SlotAt × NewProgram → StepMeaning
install_said at = Install at.0 at.1

-- by the word
module _ (n : ℕ) (word rest : List ℕ) (m : StepMeaning) where
  abbrev Spelled : Type 0
  Spelled = SpellsStep n m (word ++ 32 ∷ rest)

  of_call : (w : List ℕ) (make : SlotAt × KeyedCall → StepMeaning) → ((at : SlotAt × KeyedCall) → IsCallAt n rest at → SpellsStep n (make at) (w ++ 32 ∷ rest)) → (word ≡ w) × (option_map make (call_at n rest) ≡ Some m) → Spelled
  of_call w make spells h =
      let x = mapped make (call_at n rest) m h.1 in
      subst (λ l. SpellsStep n m (l ++ 32 ∷ rest)) (sym h.0) (subst (λ said. SpellsStep n said (w ++ 32 ∷ rest)) x.2 (spells x.0 (at_from n rest x.0 x.1)))

  of_slot : (w : List ℕ) (make : SlotAt → StepMeaning) → ((at : SlotAt) → (rest ≡ decimal at.node ++ 32 ∷ decimal at.slot) × IsNumber at.node × IsNumber at.slot → SpellsStep n (make at) (w ++ 32 ∷ rest)) → (word ≡ w) × (option_map make (slot_at rest) ≡ Some m) → Spelled
  of_slot w make spells h =
      let x = mapped make (slot_at rest) m h.1 in
      subst (λ l. SpellsStep n m (l ++ 32 ∷ rest)) (sym h.0) (subst (λ said. SpellsStep n said (w ++ 32 ∷ rest)) x.2 (spells x.0 (slot_from rest x.0 x.1)))

  of_install : (word ≡ codes "install") × (option_map install_said (install_at rest) ≡ Some m) → Spelled
  of_install h =
      let x = mapped install_said (install_at rest) m h.1 in
      let at = install_from rest x.0 x.1 in
      let new = new_from at.0 x.0.1 at.2 in
      subst (λ l. SpellsStep n m (l ++ 32 ∷ rest)) (sym h.0) (subst (λ said. SpellsStep n said (codes "install" ++ 32 ∷ rest)) x.2
      ((new.0, ap (λ l. codes "install" ++ 32 ∷ l) (at.1 ∙ ap (λ l. decimal x.0.0.node ++ 32 ∷ (decimal x.0.0.slot ++ 32 ∷ l)) new.1), new.2, new.3), at.3, at.4))

  -- of a node
  module _ (node : ℕ) (is : rest ≡ decimal node) (lt : IsNumber node) where
    of_node : (w : List ℕ) (said : StepMeaning) → SpellsStep n said (w ++ 32 ∷ rest) → (word ≡ w) × (Some said ≡ Some m) → Spelled
    of_node w said spells h = subst (λ l. SpellsStep n m (l ++ 32 ∷ rest)) (sym h.0) (subst (λ s. SpellsStep n s (w ++ 32 ∷ rest)) (same_Some said m h.1) spells)

    line : (w : List ℕ) → w ++ 32 ∷ rest ≡ w ++ 32 ∷ decimal node
    line w = ap (λ l. w ++ 32 ∷ l) is

    node_from : node_step word node ≡ Some m → Spelled
    node_from e =
        elim (by_word word (codes "claim") _ _ m e) [
          | inl h ↦ of_node (codes "claim") (Claim node) (line (codes "claim"), lt) h
          | inr e ↦ elim (by_word word (codes "append") _ _ m e) [
            | inl h ↦ of_node (codes "append") (Append node) (line (codes "append"), lt) h
            | inr e ↦ elim (by_word word (codes "replay") _ _ m e) [
              | inl h ↦ of_node (codes "replay") (Replay node) (line (codes "replay"), lt) h
              | inr e ↦ elim (by_word word (codes "finish") _ _ m e) [
                | inl h ↦ of_node (codes "finish") (Finish node) (line (codes "finish"), lt) h
                | inr e ↦ elim (by_word word (codes "reply") _ _ m e) [
                  | inl h ↦ of_node (codes "reply") (Reply node) (line (codes "reply"), lt) h
                  | inr e ↦ elim (by_word word (codes "reclaim") _ _ m e) [
                    | inl h ↦ of_node (codes "reclaim") (Reclaim node) (line (codes "reclaim"), lt) h
                    | inr e ↦ elim (by_word word (codes "rebase") _ _ m e) [
                      | inl h ↦ of_node (codes "rebase") (Rebase node) (line (codes "rebase"), lt) h
                      | inr none ↦ absurd cc
                    ]
                  ]
                ]
              ]
            ]
          ]
        ]

  node_words_from : option_and_then (node_step word) (number_of rest) ≡ Some m → Spelled
  node_words_from e =
      let node = steps (number_of rest) _ m e in
      let number = number_from rest node.0 node.1 in
      node_from node.0 number.0 number.1 node.2

  step_from : step_words n word rest ≡ Some m → Spelled
  step_from e =
      elim (by_word word (codes "post") _ _ m e) [
        | inl h ↦ of_call (codes "post") post_said (λ at k. ((k.0, ap (λ l. codes "post" ++ 32 ∷ l) k.1, k.2, k.3), k.4, k.5, k.6)) h
        | inr e ↦ elim (by_word word (codes "install") _ _ m e) [
          | inl h ↦ of_install h
          | inr e ↦ elim (by_word word (codes "readbegin") _ _ m e) [
            | inl h ↦ of_call (codes "readbegin") read_said (λ at k. ((k.0, ap (λ l. codes "readbegin" ++ 32 ∷ l) k.1, k.2, k.3), k.4, k.5, k.6)) h
            | inr e ↦ elim (by_word word (codes "collect") _ _ m e) [
              | inl h ↦ of_slot (codes "collect") Collect (λ at k. (ap (λ l. codes "collect" ++ 32 ∷ l) k.0, k.1, k.2)) h
              | inr e ↦ elim (by_word word (codes "readanswer") _ _ m e) [
                | inl h ↦ of_slot (codes "readanswer") ReadAnswer (λ at k. (ap (λ l. codes "readanswer" ++ 32 ∷ l) k.0, k.1, k.2)) h
                | inr e ↦ node_words_from e
              ]
            ]
          ]
        ]
      ]

words_from : (n : ℕ) (line : List ℕ) (m : StepMeaning) → step_meaning n line ≡ Some m → SpellsStep n m line
unfolding step_meaning
words_from n line m e =
    let word = steps (split_at_space line) _ m e in
    subst (λ l. SpellsStep n m l) (sym (split_from line word.0 word.1)) (step_from n word.0.0 word.0.1 m word.2)

pub spelled : (n : ℕ) (line : List ℕ) (m : StepMeaning) → step_line_meaning n line ≡ Some m → (length line ≤ LINE_BYTES) × SpellsStep n m line
unfolding step_line_meaning
spelled n line m e = let read = by_kind_from Comment (step_meaning n line) line m e in (read.0, by read.1)
  where
    by : (IsSilent line × (Comment ≡ m)) ⊎ (step_meaning n line ≡ Some m) → SpellsStep n m line
    by (inl silent) = subst (λ said. SpellsStep n said line) silent.1 silent.0
    by (inr words) = words_from n line m words

-- ---- spelled

module _ (n : ℕ) where
  of_words : (c : ℕ) (cs : List ℕ) (m : StepMeaning) → length (c ∷ cs) ≤ LINE_BYTES → eqb c 35 ≡ false → step_meaning n (c ∷ cs) ≡ Some m → step_line_meaning n (c ∷ cs) ≡ Some m
  unfolding step_line_meaning
  of_words c cs m le other e = by_words Comment (step_meaning n (c ∷ cs)) c cs le other ∙ e

  comment_to : (cs : List ℕ) → length (35 ∷ cs) ≤ LINE_BYTES → step_line_meaning n (35 ∷ cs) ≡ Some Comment
  unfolding step_line_meaning
  comment_to cs le = by_hash Comment (step_meaning n (35 ∷ cs)) cs le

  empty_to : step_line_meaning n [] ≡ Some Comment
  unfolding step_line_meaning
  empty_to = by_empty Comment (step_meaning n [])

  word_to : (word rest : List ℕ) (m : StepMeaning) → has_no_space word ≡ true → step_words n word rest ≡ Some m → step_meaning n (word ++ 32 ∷ rest) ≡ Some m
  unfolding step_meaning
  word_to word rest m plain e = rw (split_to word rest plain) e

  slot_to : (at : SlotAt) → IsNumber at.node → IsNumber at.slot → slot_at (decimal at.node ++ 32 ∷ decimal at.slot) ≡ Some at
  unfolding slot_at
  slot_to at a s = rw (split_to (decimal at.node) (decimal at.slot) (no_space_in_number at.node a), number_to at.node a, number_to at.slot s) refl

  at_to : (at : SlotAt) (call : KeyedCall) (digits : List ℕ) → IsKey call.key → SpellsBytes call.argument digits → IsNumber at.node → IsNumber at.slot → is_named_so n call.key ≡ true
      → call_at n (decimal at.node ++ 32 ∷ (decimal at.slot ++ 32 ∷ (key_text call.key ++ 32 ∷ digits))) ≡ Some (at, call)
  unfolding call_at
  at_to at call digits key bytes a s so =
      rw (
        split_to (decimal at.node) (decimal at.slot ++ 32 ∷ (key_text call.key ++ 32 ∷ digits)) (no_space_in_number at.node a),
        split_to (decimal at.slot) (key_text call.key ++ 32 ∷ digits) (no_space_in_number at.slot s),
        split_to (key_text call.key) digits (key_plain call.key key),
        number_to at.node a,
        number_to at.slot s,
        keyed_to call digits key bytes,
        so,
      ) refl

  install_to : (at : SlotAt) (new : NewProgram) (rest : List ℕ) → new_program rest ≡ Some new → IsNumber at.node → IsNumber at.slot → install_at (decimal at.node ++ 32 ∷ (decimal at.slot ++ 32 ∷ rest)) ≡ Some (at, new)
  unfolding install_at
  install_to at new rest program a s =
      rw (
        split_to (decimal at.node) (decimal at.slot ++ 32 ∷ rest) (no_space_in_number at.node a),
        split_to (decimal at.slot) rest (no_space_in_number at.slot s),
        number_to at.node a,
        number_to at.slot s,
        program,
      ) refl

  node_to : (word : List ℕ) (node : ℕ) (m : StepMeaning) → IsNumber node → node_step word node ≡ Some m → option_and_then (node_step word) (number_of (decimal node)) ≡ Some m
  node_to word node m lt e = rw (number_to node lt) e

  pub respelled : (line : List ℕ) (m : StepMeaning) → length line ≤ LINE_BYTES → SpellsStep n m line → step_line_meaning n line ≡ Some m
  respelled line Comment le (inl empty) = subst (λ l. step_line_meaning n l ≡ Some Comment) (sym empty) empty_to
  respelled line Comment le (inr (rest, whole)) = subst (λ l. length l ≤ LINE_BYTES → step_line_meaning n l ≡ Some Comment) (sym whole) (comment_to rest) le
  respelled line (Post at call) le h =
      let said = word_to (codes "post") (decimal at.node ++ 32 ∷ (decimal at.slot ++ 32 ∷ (key_text call.key ++ 32 ∷ h.0.0))) (Post at call) refl (ap (option_map post_said) (at_to at call h.0.0 h.0.2 h.0.3 h.1 h.2 h.3)) in
      subst (λ l. length l ≤ LINE_BYTES → step_line_meaning n l ≡ Some (Post at call)) (sym h.0.1) (λ s. of_words _ _ _ s refl said) le
  respelled line (Install at new) le h =
      let said = word_to (codes "install") (decimal at.node ++ 32 ∷ (decimal at.slot ++ 32 ∷ (mode_word new.mode ++ 32 ∷ (decimal new.arg_len ++ 32 ∷ h.0.0)))) (Install at new) refl (ap (option_map install_said) (install_to at new _ (new_to new h.0.0 h.0.2 h.0.3) h.1 h.2)) in
      subst (λ l. length l ≤ LINE_BYTES → step_line_meaning n l ≡ Some (Install at new)) (sym h.0.1) (λ s. of_words _ _ _ s refl said) le
  respelled line (ReadBegin at call) le h =
      let said = word_to (codes "readbegin") (decimal at.node ++ 32 ∷ (decimal at.slot ++ 32 ∷ (key_text call.key ++ 32 ∷ h.0.0))) (ReadBegin at call) refl (ap (option_map read_said) (at_to at call h.0.0 h.0.2 h.0.3 h.1 h.2 h.3)) in
      subst (λ l. length l ≤ LINE_BYTES → step_line_meaning n l ≡ Some (ReadBegin at call)) (sym h.0.1) (λ s. of_words _ _ _ s refl said) le
  respelled line (Collect at) le h =
      let said = word_to (codes "collect") (decimal at.node ++ 32 ∷ decimal at.slot) (Collect at) refl (ap (option_map Collect) (slot_to at h.1 h.2)) in
      subst (λ l. length l ≤ LINE_BYTES → step_line_meaning n l ≡ Some (Collect at)) (sym h.0) (λ s. of_words _ _ _ s refl said) le
  respelled line (ReadAnswer at) le h =
      let said = word_to (codes "readanswer") (decimal at.node ++ 32 ∷ decimal at.slot) (ReadAnswer at) refl (ap (option_map ReadAnswer) (slot_to at h.1 h.2)) in
      subst (λ l. length l ≤ LINE_BYTES → step_line_meaning n l ≡ Some (ReadAnswer at)) (sym h.0) (λ s. of_words _ _ _ s refl said) le
  respelled line (Claim node) le h =
      let said = word_to (codes "claim") (decimal node) (Claim node) refl (node_to (codes "claim") node (Claim node) h.1 refl) in
      subst (λ l. length l ≤ LINE_BYTES → step_line_meaning n l ≡ Some (Claim node)) (sym h.0) (λ s. of_words _ _ _ s refl said) le
  respelled line (Append node) le h =
      let said = word_to (codes "append") (decimal node) (Append node) refl (node_to (codes "append") node (Append node) h.1 refl) in
      subst (λ l. length l ≤ LINE_BYTES → step_line_meaning n l ≡ Some (Append node)) (sym h.0) (λ s. of_words _ _ _ s refl said) le
  respelled line (Replay node) le h =
      let said = word_to (codes "replay") (decimal node) (Replay node) refl (node_to (codes "replay") node (Replay node) h.1 refl) in
      subst (λ l. length l ≤ LINE_BYTES → step_line_meaning n l ≡ Some (Replay node)) (sym h.0) (λ s. of_words _ _ _ s refl said) le
  respelled line (Finish node) le h =
      let said = word_to (codes "finish") (decimal node) (Finish node) refl (node_to (codes "finish") node (Finish node) h.1 refl) in
      subst (λ l. length l ≤ LINE_BYTES → step_line_meaning n l ≡ Some (Finish node)) (sym h.0) (λ s. of_words _ _ _ s refl said) le
  respelled line (Reply node) le h =
      let said = word_to (codes "reply") (decimal node) (Reply node) refl (node_to (codes "reply") node (Reply node) h.1 refl) in
      subst (λ l. length l ≤ LINE_BYTES → step_line_meaning n l ≡ Some (Reply node)) (sym h.0) (λ s. of_words _ _ _ s refl said) le
  respelled line (Reclaim node) le h =
      let said = word_to (codes "reclaim") (decimal node) (Reclaim node) refl (node_to (codes "reclaim") node (Reclaim node) h.1 refl) in
      subst (λ l. length l ≤ LINE_BYTES → step_line_meaning n l ≡ Some (Reclaim node)) (sym h.0) (λ s. of_words _ _ _ s refl said) le
  respelled line (Rebase node) le h =
      let said = word_to (codes "rebase") (decimal node) (Rebase node) refl (node_to (codes "rebase") node (Rebase node) h.1 refl) in
      subst (λ l. length l ≤ LINE_BYTES → step_line_meaning n l ≡ Some (Rebase node)) (sym h.0) (λ s. of_words _ _ _ s refl said) le

pub each_step : EachStepIsItsSpelling
each_step n line m = (spelled n line m, λ h. respelled n line m h.0 h.1)
