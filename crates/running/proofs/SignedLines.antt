-- The reply that a line of `run` tells.
use Rattle.std.proofs.Common.{◌≡◌, ℕ, ◌^◌, ◌<◌, true, false, ltb, List, [], ◌∷◌, ◌++◌, length, codes, decimal, Option, Some, None, refl, sym, ap, ◌∙◌, append_assoc, arith}
use Rattle.std.specs.List.{position_or_len}
use Rattle.std.specs.Option.{option_and_then}
use Rattle.std.proofs.lemmas.Bool.{le-ltb, and_parts}
use Rattle.std.proofs.lemmas.List.{append-nil, append_cancel_right}
use Rattle.text.specs.Fields.{is_space, has_no_space, split_at_space}
use Rattle.text.specs.Words.{number_of}
use Rattle.text.proofs.Export.{split_to, numerals_are_decimals}
use Rattle.loader.proofs.Export.{no_space_in_number}
use Rattle.running.specs.Signed.{first_word, reply_in}
use Rattle.running.specs.SignedLaws.{Tells, RepliesAreTold}

-- ---- the first word

no_space_at : (w : List ℕ) → has_no_space w ≡ true → position_or_len is_space w ≡ length w
no_space_at [] h = refl
no_space_at (b ∷ w) h =
    let both = and_parts _ (has_no_space w) h in
    rw (both.0, no_space_at w both.1) (omega arith)

not_cut : (w : List ℕ) → has_no_space w ≡ true → split_at_space w ≡ None
not_cut w h =
    let off : ltb (length w) (length w) ≡ false = le-ltb _ _ (omega arith) in
    rw (no_space_at w h, off) refl

alone : (w : List ℕ) → has_no_space w ≡ true → first_word (w ++ []) ≡ w
alone w h = rw (append-nil w, not_cut w h) refl

before_more : (w more : List ℕ) → has_no_space w ≡ true → first_word (w ++ 32 ∷ more) ≡ w
before_more w more h = rw (split_to w more h) refl

-- ---- a line

step : {A B : Type 0} (f : A → Option B) (o : Option A) (a : A) (b : B) → o ≡ Some a → f a ≡ Some b → option_and_then f o ≡ Some b
step f o a b is next = ap (option_and_then f) is ∙ next

module _ (index reply : ℕ) (few : index < 2 ^ 64) (small : reply < 2 ^ 64) (rest : List ℕ) where
  abbrev behind_reply : List ℕ
  behind_reply = decimal reply ++ rest

  abbrev behind_index : List ℕ
  behind_index = codes "reply" ++ 32 ∷ behind_reply

  abbrev behind_call : List ℕ
  behind_call = decimal index ++ 32 ∷ behind_index

  found : (call : List ℕ) → has_no_space call ≡ true → first_word behind_reply ≡ decimal reply → reply_in (call ++ 32 ∷ behind_call) ≡ Some reply
  unfolding reply_in
  found call plain first =
      let number : number_of (first_word behind_reply) ≡ Some reply = ap number_of first ∙ (numerals_are_decimals (decimal reply) reply).1 (refl, small) in
      step _ _ _ _ (split_to call behind_call plain) (step _ _ _ _ (split_to (decimal index) behind_index (no_space_in_number index few)) (step _ _ _ _ (split_to (codes "reply") behind_reply refl) number))

  -- the line feed stands behind all of it
  ended : behind_call ++ codes "\n" ≡ decimal index ++ (codes " reply " ++ (decimal reply ++ (rest ++ codes "\n")))
  ended = append_assoc (decimal index) (32 ∷ behind_index) (codes "\n") ∙ ap (λ x. decimal index ++ (codes " reply " ++ x)) (append_assoc (decimal reply) rest (codes "\n"))

  told : (call : List ℕ) → has_no_space call ≡ true → first_word behind_reply ≡ decimal reply
      → Tells (call ++ (32 ∷ (decimal index ++ (codes " reply " ++ (decimal reply ++ (rest ++ codes "\n")))))) reply
  told call plain first line is =
      let whole : (call ++ 32 ∷ behind_call) ++ codes "\n" ≡ line ++ codes "\n" = append_assoc call (32 ∷ behind_call) (codes "\n") ∙ ap (λ x. call ++ 32 ∷ x) ended ∙ is in
      ap reply_in (sym (append_cancel_right _ _ (codes "\n") whole)) ∙ found call plain first

pub replies_are_told : RepliesAreTold
replies_are_told = record {
  update = λ index reply steps few small. told index reply few small (codes " steps " ++ decimal steps) (codes "update") refl (before_more (decimal reply) (codes "steps " ++ decimal steps) (no_space_in_number reply small));
  read = λ index reply steps few small. told index reply few small (codes " steps " ++ decimal steps) (codes "read") refl (before_more (decimal reply) (codes "steps " ++ decimal steps) (no_space_in_number reply small));
  install = λ index reply few small. told index reply few small [] (codes "install") refl (alone (decimal reply) (no_space_in_number reply small));
}
