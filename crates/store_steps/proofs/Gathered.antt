-- What a desk has of the requests and answers of several sessions.
use Rattle.std.proofs.Common.{◌≡◌, ◌≢◌, ℕ, zero, suc, ◌+◌, ◌*◌, ◌<◌, ◌==◌, List, [], ◌∷◌, length, map, set, sym, refl, ap, ◌∙◌, subst, arith, eq-eqb, if◌then◌else◌, ⊎_elim, Option, Some, None, slice_get}
use mathlib.Core.Bool.{Bool, true, false, ◌||◌}
use mathlib.Core.Option.{some-injective}
use Rattle.std.proofs.lemmas.Bool.{cases_lt, eqb-true, false≢true}
use Rattle.std.proofs.lemmas.Option.{same_Some}
use Rattle.combiner.specs.declared.slots.DeskRefused.TheVariants.{CombinerAtWork, NothingPosted}
use Rattle.std.specs.Prelude.{is_some}
use Rattle.std.specs.List.{list_any}
use Rattle.std.specs.Option.{option_and_then, option_map}
use Rattle.atomic_table.proofs.Lists.{set_else, set_here}
use Rattle.ownlock.specs.Seats.{At}
use Rattle.machine.specs.declared.running.Outcome.{Outcome}
use Rattle.oplog.specs.History.{History}
use Rattle.oplog.specs.Operations.{Operation}
use Rattle.oplog.specs.declared.records.Record.{Record}
use Rattle.combiner.specs.Desks.{BatchView, DeskView, IsAnswered, IsBatchOf, answer_for, answer_in, batch_of, claim_refusal, claimed_from, collected, first_author, has_combiner, has_request, posted, replied, with_slot}
use Rattle.combiner.specs.Slots.{answered_slot, answered_stage, counted, is_claimed, is_posted, requested, requests_from, slot as slot_with}
use Rattle.combiner.specs.declared.slots.Reply.{Reply}
use Rattle.combiner.specs.declared.slots.Reply.TheVariants.{Placed, Ended}
use Rattle.combiner.specs.declared.slots.Slot.{Slot}
use Rattle.combiner.specs.declared.slots.Stage.{Stage}
use Rattle.combiner.specs.declared.slots.Stage.TheVariants.{Empty, Posted, Claimed, Answered}
use Rattle.accounts.proofs.Export.{answered_at, answered_long, at_below, at_map, at_none, at_one, collected_is, get_of, posted_is, some_none}
use Rattle.accounts.specs.Batches.{Ascend}
use Rattle.node.specs.Answering.{answered_batch, answers_from}
use Rattle.replica.specs.Views.{RepliesView}
use Rattle.store_steps.specs.AtDesk.{IsTurn}
use Rattle.store_steps.specs.EachMember.{HasRecordOf}
use Rattle.store_steps.specs.Pipelines.{AnswerWaits, Asks}
use Rattle.store_steps.specs.declared.desks.Turn.{Turn}
use Rattle.store_steps.specs.declared.desks.Turn.TheVariants.{Collects, Combines, Waits}
use Rattle.store_steps.specs.Standing.{SessionKnown}

abbrev K : Type 0
K = SessionKnown

abbrev IsEmpty : Stage → Type 0
IsEmpty Empty = Unit {0}
IsEmpty (Posted o) = ⊥
IsEmpty Claimed = ⊥
IsEmpty (Answered r) = ⊥

-- ---- a post

none_set : (xs : List Slot) (s : ℕ) (z : Slot) → list_any (λ (x : Slot). is_claimed x.stage) xs ≡ false → is_claimed z.stage ≡ false → list_any (λ (x : Slot). is_claimed x.stage) (set xs s z) ≡ false
none_set [] s z none new = none
none_set (x ∷ xs) zero z none new = ap (λ b. b || list_any (λ (y : Slot). is_claimed y.stage) xs) new ∙ rest (is_claimed x.stage) none
  where
    rest : (b : Bool) → (b || list_any (λ (y : Slot). is_claimed y.stage) xs) ≡ false → list_any (λ (y : Slot). is_claimed y.stage) xs ≡ false
    rest false e = e
    rest true e = absurd (false≢true (sym e))
none_set (x ∷ xs) (suc s) z none new = both (is_claimed x.stage) (λ e. none_set xs s z e new) none
  where
    both : (b : Bool) → (list_any (λ (y : Slot). is_claimed y.stage) xs ≡ false → list_any (λ (y : Slot). is_claimed y.stage) (set xs s z) ≡ false) → (b || list_any (λ (y : Slot). is_claimed y.stage) xs) ≡ false → (b || list_any (λ (y : Slot). is_claimed y.stage) (set xs s z)) ≡ false
    both false rest e = rest e
    both true rest e = absurd (false≢true (sym e))

pub post_leaves_free : (s : ℕ) (op : Operation) (x y : DeskView) → posted s op x ≡ Some y → has_combiner x ≡ false → has_combiner y ≡ false
post_leaves_free s op x y h none = let p = posted_is s op x y h in ap has_combiner p.3 ∙ none_set x.slots s (slot_with (Posted op) p.0.count) none refl

set_long : (xs : List Slot) (s : ℕ) (z : Slot) → length (set xs s z) ≡ length xs
set_long [] s z = refl
set_long (x ∷ xs) zero z = refl
set_long (x ∷ xs) (suc s) z = ap suc (set_long xs s z)

pub post_keeps_author : (s : ℕ) (op : Operation) (x y : DeskView) → posted s op x ≡ Some y → first_author y ≡ first_author x
post_keeps_author s op x y h = let p = posted_is s op x y h in ap first_author p.3 ∙ ap (λ n. x.node * n) (set_long x.slots s (slot_with (Posted op) p.0.count))

-- another session's request stays, whose slot was not empty
pub post_keeps : (f : K) (s : ℕ) (op : Operation) (x y : DeskView) → posted s op x ≡ Some y → Asks x f → Asks y f
post_keeps f s op x y h a =
    let p = posted_is s op x y h in
    let away : a.0 ≢ s = λ same. not_empty (at_one x.slots s p.0 (slot_with (Posted a.1) a.2) p.1 (subst (λ i. At i (slot_with (Posted a.1) a.2) x.slots) same a.3)) p.2 in
    (a.0, a.1, a.2, subst (λ (z : DeskView). At a.0 (slot_with (Posted a.1) a.2) z.slots) (sym p.3) (set_else x.slots s a.0 (slot_with (Posted op) p.0.count) away ∙ a.3), a.4 ∙ ap (λ n. n + a.0) (sym (post_keeps_author s op x y h)))
  where
    not_empty : {q : Slot} {o : Operation} {n : ℕ} → q ≡ slot_with (Posted o) n → q.stage ≡ Empty → ⊥
    not_empty same empty = subst IsEmpty (sym (ap (λ (z : Slot). z.stage) (sym same) ∙ empty)) tt

-- what was posted is there
pub post_asks : (f : K) (s : ℕ) (op : Operation) (x y : DeskView) → posted s op x ≡ Some y → f.session ≡ first_author x + s → Asks y f
post_asks f s op x y h own =
    let p = posted_is s op x y h in
    (s, op, p.0.count, subst (λ (z : DeskView). At s (slot_with (Posted op) p.0.count) z.slots) (sym p.3) (set_here x.slots s (slot_with (Posted op) p.0.count) (at_below x.slots s p.0 p.1)), own ∙ ap (λ n. n + s) (sym (post_keeps_author s op x y h)))

-- ---- a claim

-- a posted request is among the requests
asked_from : (a : ℕ) (xs : List Slot) (s : ℕ) (op : Operation) (count : ℕ) → At s (slot_with (Posted op) count) xs → HasRecordOf (requests_from a xs) (a + s)
asked_from a [] s op count at = absurd (at_none s _ at)
asked_from a (x ∷ xs) zero op count at =
    subst (λ st. HasRecordOf (requested a x.count st (requests_from (suc a) xs)) (a + 0)) (sym (ap (λ (z : Slot). z.stage) (some-injective x _ at))) (0, record { author = a; seq = x.count; op = op }, refl, omega arith)
asked_from a (x ∷ xs) (suc s) op count at = let r = asked_from (suc a) xs s op count at in by x.stage (r.0, r.1, r.2, let e = r.3 in omega (arith, e))
  where
    by : (st : Stage) → HasRecordOf (requests_from (suc a) xs) (a + suc s) → HasRecordOf (requested a x.count st (requests_from (suc a) xs)) (a + suc s)
    by Empty r = r
    by Claimed r = r
    by (Answered reply) r = r
    by (Posted op2) r = (suc r.0, r.1, r.2, r.3)

pub claimed_of : (x : DeskView) (f : K) → Asks x f → HasRecordOf (batch_of x).records f.session
claimed_of x f a = subst (HasRecordOf (batch_of x).records) (sym a.4) (asked_from (first_author x) x.slots a.0 a.1 a.2 a.3)

-- ---- answers

-- each claimed session has a claimed slot
claimed_there : (a : ℕ) (xs : List Slot) (i b : ℕ) → At i b (claimed_from a xs) → (s : ℕ) × (z : Slot) × At s z xs × (z.stage ≡ Claimed) × (b ≡ a + s)
claimed_there a [] i b at = absurd (at_none i b at)
claimed_there a (x ∷ xs) i b at = by x.stage refl (λ j h. let r = claimed_there (suc a) xs j b h in (suc r.0, r.1, r.2, r.3, let e = r.4 in omega (arith, e))) i at
  where
    by : (st : Stage) → x.stage ≡ st → ((j : ℕ) → At j b (claimed_from (suc a) xs) → (s : ℕ) × (z : Slot) × At s z (x ∷ xs) × (z.stage ≡ Claimed) × (b ≡ a + s)) → (j : ℕ) → At j b (if is_claimed st then a ∷ claimed_from (suc a) xs else claimed_from (suc a) xs)
        → (s : ℕ) × (z : Slot) × At s z (x ∷ xs) × (z.stage ≡ Claimed) × (b ≡ a + s)
    by Claimed e later zero h = (0, x, refl, e, let same = some-injective a b h in omega (arith, same))
    by Claimed e later (suc j) h = later j h
    by Empty e later j h = later j h
    by (Posted op) e later j h = later j h
    by (Answered reply) e later j h = later j h

-- the answer to a session's request
answer_there : (rs : List Record) (answers : List (Option Reply)) (a i : ℕ) (r : Record) → At i r rs → r.author ≡ a → ((k : ℕ) → k < length rs → (reply : Reply) × (slice_get answers k ≡ Some (Some reply))) → (reply : Reply) × (answer_for a rs answers ≡ Some reply)
answer_there [] answers a i r at is all = absurd (at_none i r at)
answer_there (q ∷ rs) [] a i r at is all = let n = all 0 (omega arith) in absurd (some_none _ None n.1 refl)
answer_there (q ∷ rs) (o ∷ os) a i r at is all = by (q.author == a) refl (λ j h. answer_there rs os a j r h is (λ k lt. all (suc k) (omega (arith, lt)))) i at
  where
    by : (b : Bool) → (q.author == a) ≡ b → ((j : ℕ) → At j r rs → (reply : Reply) × (answer_for a rs os ≡ Some reply)) → (j : ℕ) → At j r (q ∷ rs) → (reply : Reply) × ((if b then o else answer_for a rs os) ≡ Some reply)
    by true e rest j h = let n = all 0 (omega arith) in (n.0, same_Some o (Some n.0) n.1)
    by false e rest (suc j) h = rest j h
    by false e rest zero h = absurd (false≢true (sym e ∙ eq-eqb q.author a (ap (λ (z : Record). z.author) (some-injective q r h) ∙ is)))

-- the request that an answer is for
answer_at : (rs : List Record) (answers : List (Option Reply)) (a : ℕ) (reply : Reply) → answer_for a rs answers ≡ Some reply → (i : ℕ) × (r : Record) × At i r rs × (r.author ≡ a) × (slice_get answers i ≡ Some (Some reply))
answer_at [] answers a reply e = absurd (some_none reply None e refl)
answer_at (q ∷ rs) [] a reply e = absurd (some_none reply None e refl)
answer_at (q ∷ rs) (o ∷ os) a reply e = by (q.author == a) refl (λ d. answer_at rs os a reply d) e
  where
    by : (b : Bool) → (q.author == a) ≡ b → (answer_for a rs os ≡ Some reply → (i : ℕ) × (r : Record) × At i r rs × (r.author ≡ a) × (slice_get os i ≡ Some (Some reply))) → (if b then o else answer_for a rs os) ≡ Some reply
        → (i : ℕ) × (r : Record) × At i r (q ∷ rs) × (r.author ≡ a) × (slice_get (o ∷ os) i ≡ Some (Some reply))
    by true t rest e = (0, q, refl, eqb-true q.author a t, ap Some e)
    by false t rest e = let r = rest e in (suc r.0, r.1, r.2, r.3, r.4)

abbrev index_or : Reply → ℕ
index_or (Placed n x) = n
index_or Ended = 0

abbrev IsEnded : Reply → Type 0
IsEnded Ended = Unit {0}
IsEnded (Placed i y) = ⊥

-- what came too late has no index
no_place : (index : ℕ) (rs : History) (i n x : ℕ) → slice_get (answers_from index [] rs) i ≡ Some (Some (Placed n x)) → ⊥
no_place index [] i n x e = some_none _ None e refl
no_place index (r ∷ rs) zero n x e = subst IsEnded (same_Some Ended (Placed n x) (same_Some (Some Ended) (Some (Placed n x)) e)) tt
no_place index (r ∷ rs) (suc i) n x e = no_place index rs i n x e

-- the index of an answer
placed_at : (index : ℕ) (outcomes : List (Option Outcome)) (rs : History) (i n x : ℕ) → slice_get (answers_from index outcomes rs) i ≡ Some (Some (Placed n x)) → n ≡ index + i
placed_at index outcomes [] i n x e = absurd (some_none _ None e refl)
placed_at index [] (r ∷ rs) i n x e = absurd (no_place index (r ∷ rs) i n x e)
placed_at index (None ∷ outcomes) (r ∷ rs) zero n x e = absurd (some_none (Placed n x) None (same_Some None (Some (Placed n x)) e) refl)
placed_at index (Some o ∷ outcomes) (r ∷ rs) zero n x e = let same = ap index_or (same_Some (Placed index o.reply) (Placed n x) (same_Some (Some (Placed index o.reply)) (Some (Placed n x)) e)) in omega (arith, same)
placed_at index (o ∷ outcomes) (r ∷ rs) (suc i) n x e = let same = placed_at (index + 1) outcomes rs i n x e in omega (arith, same)

-- among the answers of a batch those of later sessions have higher indexes
pub in_order : (b : BatchView) (kept : RepliesView) → Ascend b.records → (a c i n x y : ℕ) → a < c → answer_for a b.records (answered_batch kept b).answers ≡ Some (Placed i x) → answer_for c b.records (answered_batch kept b).answers ≡ Some (Placed n y) → i < n
in_order b kept up a c i n x y lt first second =
    let p = answer_at b.records (answered_batch kept b).answers a (Placed i x) first in
    let q = answer_at b.records (answered_batch kept b).answers c (Placed n y) second in
    let one = placed_at kept.first kept.outcomes b.records p.0 i x p.4 in
    let two = placed_at kept.first kept.outcomes b.records q.0 n y q.4 in
    ⊎_elim (λ before. omega (arith, one, two, before))
    (λ not. ⊎_elim (λ after. let back = up q.0 p.0 q.1 p.1 q.2 p.2 after in let ea = p.3 in let ec = q.3 in absurd (omega (arith, back, ea, ec, lt)))
    (λ neither. let same : p.0 ≡ q.0 = omega (arith, not, neither) in
    let one_record = at_one b.records q.0 p.1 q.1 (subst (λ z. At z p.1 b.records) same p.2) q.2 in
    let authors = ap (λ (z : Record). z.author) one_record in let ea = p.3 in let ec = q.3 in absurd (omega (arith, authors, ea, ec, lt)))
    (cases_lt q.0 p.0))
    (cases_lt p.0 q.0)

-- ---- once a batch is answered

pub reply_waits : (x : DeskView) (b : BatchView) (f : K) → IsBatchOf x b → IsAnswered b → HasRecordOf b.records f.session → (reply : Reply) × AnswerWaits (replied b x) f reply × (answer_for f.session b.records b.answers ≡ Some reply)
reply_waits x b f of all has =
    let a = answer_there b.records b.answers f.session has.0 has.1 has.2 has.3 all in
    let there : At has.0 f.session (claimed_from (first_author x) x.slots) = subst (λ z. At has.0 f.session z) of (subst (λ n. At has.0 n (map (λ (r : Record). r.author) b.records)) has.3 (at_map (λ (r : Record). r.author) b.records has.0 has.1 has.2)) in
    let s = claimed_there (first_author x) x.slots has.0 f.session there in
    let set = answered_at (first_author x) b x.slots s.0 s.1 s.2 in
    let becomes : answered_slot (answer_for (first_author x + s.0) b.records b.answers) s.1 ≡ slot_with (Answered a.0) s.1.count =
    ap (λ n. answered_slot (answer_for n b.records b.answers) s.1) (sym s.4) ∙ (ap (λ o. answered_slot o s.1) a.1 ∙ ap (λ st. slot_with (answered_stage (Some a.0) st) s.1.count) s.3) in (
      a.0,
      (s.0, s.1.count, subst (λ z. At s.0 z (replied b x).slots) becomes set, s.4 ∙ ap (λ n. x.node * n + s.0) (sym (answered_long (first_author x) b x.slots))),
      a.1,
    )

-- ---- a collect

abbrev reply_or : Reply → Stage → Reply
reply_or r (Answered q) = q
reply_or r Empty = r
reply_or r (Posted op) = r
reply_or r Claimed = r

-- an answer waits for a session once
pub one_answer : (x : DeskView) (f : K) (r q : Reply) → AnswerWaits x f r → AnswerWaits x f q → r ≡ q
one_answer x f r q a b =
    let same : a.0 ≡ b.0 = let ea = a.3 in let eb = b.3 in omega (arith, ea, eb) in
    let one = at_one x.slots b.0 (slot_with (Answered r) a.1) (slot_with (Answered q) b.1) (subst (λ i. At i (slot_with (Answered r) a.1) x.slots) same a.2) b.2 in
    ap (λ (z : Slot). reply_or r z.stage) one

-- the answer that waits in the session's own slot
own_answer : (s : ℕ) (x : DeskView) (f : K) (reply : Reply) (a : AnswerWaits x f reply) → f.session ≡ first_author x + s → At s (slot_with (Answered reply) a.1) x.slots
own_answer s x f reply a own = let e = a.3 in let same : a.0 ≡ s = omega (arith, e, own) in subst (λ i. At i (slot_with (Answered reply) a.1) x.slots) same a.2

found : (s : ℕ) (x : DeskView) (f : K) (reply : Reply) (a : AnswerWaits x f reply) → f.session ≡ first_author x + s → collected s x ≡ Some (record { reply = reply; desk = with_slot x s (slot_with Empty (counted reply a.1)) })
found s x f reply a own = ap (option_and_then (λ (z : Slot). option_map (λ r. record { reply = r; desk = with_slot x s (slot_with Empty (counted r z.count)) }) (answer_in z.stage))) (get_of x.slots s (slot_with (Answered reply) a.1) (own_answer s x f reply a own))

-- who has a turn collects it
pub turn_collects : (s : ℕ) (x y : DeskView) (f : K) (reply : Reply) (batch : BatchView) (turn : Turn) → AnswerWaits x f reply → f.session ≡ first_author x + s → IsTurn s x y batch turn → turn ≡ Collects reply
turn_collects s x y f reply batch (Collects r) a own t =
    let was = collected_is s r x y t in
    let one = at_one x.slots s was.0 (slot_with (Answered reply) a.1) was.1 (own_answer s x f reply a own) in
    ap Collects (ap (reply_or r) (sym was.2 ∙ ap (λ (z : Slot). z.stage) one))
turn_collects s x y f reply batch Combines a own t = absurd (some_none _ (collected s x) (found s x f reply a own) t.0)
turn_collects s x y f reply batch Waits a own t = absurd (some_none _ (collected s x) (found s x f reply a own) t.0)

-- and leaves the answers of others
pub collect_keeps : (s : ℕ) (x y : DeskView) (f g : K) (r q : Reply) → collected s x ≡ Some (record { reply = r; desk = y }) → f.session ≡ first_author x + s → f.session ≢ g.session → AnswerWaits x g q → AnswerWaits y g q
collect_keeps s x y f g r q e own apart a =
    let was = collected_is s r x y e in
    let away : a.0 ≢ s = λ same. apart (own ∙ (ap (λ n. first_author x + n) (sym same) ∙ sym a.3)) in
    let new = slot_with Empty (counted r was.0.count) in
    (a.0, a.1, subst (λ (z : DeskView). At a.0 (slot_with (Answered q) a.1) z.slots) (sym was.3) (set_else x.slots s a.0 new away ∙ a.2), a.3 ∙ sym (ap (λ n. n + a.0) (ap first_author was.3 ∙ ap (λ n. x.node * n) (set_long x.slots s new))))

-- ---- a claim of what was posted just now

posted_there : (xs : List Slot) (s : ℕ) (op : Operation) (count : ℕ) → At s (slot_with (Posted op) count) xs → list_any (λ (x : Slot). is_posted x.stage) xs ≡ true
posted_there [] s op count at = absurd (at_none s _ at)
posted_there (x ∷ xs) zero op count at = ap (λ (z : Slot). is_posted z.stage || list_any (λ (y : Slot). is_posted y.stage) xs) (some-injective x _ at)
posted_there (x ∷ xs) (suc s) op count at = by (is_posted x.stage) (posted_there xs s op count at)
  where
    by : (b : Bool) → list_any (λ (y : Slot). is_posted y.stage) xs ≡ true → (b || list_any (λ (y : Slot). is_posted y.stage) xs) ≡ true
    by true rest = refl
    by false rest = rest

abbrev IsPostedStage : Stage → Type 0
IsPostedStage Empty = ⊥
IsPostedStage (Posted op) = Unit {0}
IsPostedStage Claimed = ⊥
IsPostedStage (Answered q) = ⊥

not_answered : {op : Operation} {q : Reply} → Posted op ≡ Answered q → ⊥
not_answered same = subst IsPostedStage same tt

-- who has posted where nobody combines claims
pub turn_claims : (s : ℕ) (x y : DeskView) (f : K) (batch : BatchView) (turn : Turn) → Asks x f → f.session ≡ first_author x + s → has_combiner x ≡ false → IsTurn s x y batch turn → (turn ≡ Combines) × (batch ≡ batch_of x)
turn_claims s x y f batch (Collects r) a own none t =
    let was = collected_is s r x y t in
    let e = a.4 in let same : a.0 ≡ s = omega (arith, e, own) in
    let one = at_one x.slots s was.0 (slot_with (Posted a.1) a.2) was.1 (subst (λ i. At i (slot_with (Posted a.1) a.2) x.slots) same a.3) in
    absurd (not_answered (sym (ap (λ (z : Slot). z.stage) one) ∙ was.2))
turn_claims s x y f batch Combines a own none t = (refl, t.4)
turn_claims s x y f batch Waits a own none t =
    let free : claim_refusal x ≡ None =
    ap (λ b. if b then Some CombinerAtWork else if has_request x then None else Some NothingPosted) none
    ∙ ap (λ b. if b then None else Some NothingPosted) (posted_there x.slots a.0 a.1 a.2 a.3) in
    absurd (false≢true (sym (ap is_some free) ∙ t.1))
