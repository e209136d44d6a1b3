-- Slots as they lie in memory.
use Rattle.std.proofs.Common.{inl, inr, ◌+◌, ◌*◌, ◌≡◌, ℕ, zero, suc, ◌<◌, ◌≤◌, Bool, true, false, List, [], ◌∷◌, ◌++◌, length, map, take, replicate, Option, Some, None, refl, sym, ap, ap₂, ◌∙◌, subst, arith, if◌then◌else◌}
use Rattle.std.specs.Prelude.{slice_get, slice_set, slice_index_or, MatchOption}
use Rattle.std.specs.Option.{option_and_then, option_map}
use Rattle.std.proofs.lemmas.Option.{none-some, same_Some}
use Rattle.std.proofs.lemmas.List.{map-set, length-map, length-set, length-take-le, take_at}
use Rattle.maps.specs.declared.shapes.TheConstants.{MOST_ARG_LEN}
use Rattle.oplog.specs.Operations.{Operation}
use Rattle.oplog.specs.declared.laid.LaidOp.{LaidOp}
use Rattle.oplog.specs.declared.laid.LaidOp.TheVariants.{Short, Long, Install}
use Rattle.oplog.specs.Laid.{op_in, IsFrom, IsWithin, IsApart, KeepsApart}
use Rattle.oplog.proofs.Export.{within_more}
use Rattle.combiner.specs.declared.slots.Reply.{Reply}
use Rattle.combiner.specs.declared.slots.Stage.TheVariants.{Empty, Posted}
use Rattle.combiner.specs.declared.slots.Slot.{Slot}
use Rattle.combiner.specs.declared.places.Place.{Place}
use Rattle.combiner.specs.declared.desks.Desk.TheInside.{Inside}
use Rattle.combiner.specs.declared.places.PlaceStage.{PlaceStage}
use Rattle.combiner.specs.declared.places.PlaceStage.TheVariants as places
use Rattle.combiner.specs.Slots.{slot, is_empty, is_claimed, counted}
use Rattle.combiner.specs.Desks.{DeskView, Collection, with_slot, posted, answer_in, collected, TakesAnswer}
use Rattle.combiner.specs.Places.{slot_in, stage_in, posted_slot, IsPlaced, ArePlaced}
use Rattle.combiner.proofs.Claims.{put_same}

abbrev pub desk_of : ℕ → List Slot → DeskView
desk_of node xs = record { node = node; slots = xs }

-- the desk whose slots lie in these places
abbrev pub desk_in : Inside → DeskView
desk_in a = desk_of a.node (map (slot_in a.beside.items) (take a.count a.places))

slot_there : (f : Place → Slot) (ps : List Place) (s : ℕ) (o : Place) → s < length (map f ps) → slice_get (map f ps) s ≡ Some (f (slice_index_or ps s o))
slot_there f [] s o h = absurd (omega arith)
slot_there f (p ∷ ps) zero o h = refl
slot_there f (p ∷ ps) (suc s) o h = slot_there f ps s o (omega arith)

-- the desk has the place
pub low_in : (a : Inside) (s : ℕ) (d : DeskView) → desk_in a ≡ d → a.count ≤ length a.places → s < length d.slots → s < a.count
low_in a s d is fits low =
    let same : length (map (slot_in a.beside.items) (take a.count a.places)) ≡ length d.slots = ap (λ e. length e.slots) is in
    let all : length (map (slot_in a.beside.items) (take a.count a.places)) ≡ a.count = length-map (take a.count a.places) (slot_in a.beside.items) ∙ length-take-le a.count a.places fits in
    omega (arith, same, all, low)

pub low_taken : (a : Inside) (s : ℕ) (d : DeskView) → desk_in a ≡ d → s < length d.slots → s < length (take a.count a.places)
low_taken a s d is low =
    let same : length (map (slot_in a.beside.items) (take a.count a.places)) ≡ length d.slots = ap (λ e. length e.slots) is in
    let all = length-map (take a.count a.places) (slot_in a.beside.items) in
    omega (arith, same, all, low)

-- the place that is meant
abbrev pub place_of : Inside → ℕ → Place → Place
place_of a s o = slice_index_or (take a.count a.places) s o

-- the slot that lies in the s-th place of a desk
pub place_there : (a : Inside) (s : ℕ) (o : Place) (d : DeskView) → desk_in a ≡ d → s < length d.slots
    → slice_get d.slots s ≡ Some (slot_in a.beside.items (slice_index_or (take a.count a.places) s o))
place_there a s o d is =
    let ps : List Place = take a.count a.places in
    let f : Place → Slot = slot_in a.beside.items in
    subst (λ e. s < length e.slots → slice_get e.slots s ≡ Some (f (slice_index_or ps s o))) is (slot_there f ps s o)

-- the desk once its s-th place is written
pub put_place : (a : Inside) (rest : List Place) (s : ℕ) (p : Place) (d : DeskView) → desk_in a ≡ d → a.count ≤ length a.places
    → desk_of a.node (map (slot_in a.beside.items) (take a.count (slice_set (take a.count a.places) s p ++ rest))) ≡ with_slot d s (slot_in a.beside.items p)
put_place a rest s p d is fits =
    let ps : List Place = take a.count a.places in
    let f : Place → Slot = slot_in a.beside.items in
    let front : length (slice_set ps s p) ≡ a.count = length-set ps s p ∙ length-take-le a.count a.places fits in
    ap (λ qs. desk_of a.node (map f qs)) (take_at (slice_set ps s p) rest a.count front)
    ∙ ap (desk_of a.node) (map-set f ps s p)
    ∙ ap (λ e. with_slot e s (f p)) is

pub all_opened : (f : Place → Slot) (n : ℕ) (p : Place) (x : Slot) → f p ≡ x → map f (replicate n p) ≡ replicate n x
all_opened f zero p x is = refl
all_opened f (suc n) p x is = ap₂ (λ y ys. y ∷ ys) is (all_opened f n p x is)

-- a place is claimed whatever bytes are next to it
claimed_by : (stage : PlaceStage) (x y : Operation) (reply : Reply) → is_claimed (stage_in stage x reply) ≡ is_claimed (stage_in stage y reply)
claimed_by places.Empty x y reply = refl
claimed_by places.Posted x y reply = refl
claimed_by places.Claimed x y reply = refl
claimed_by places.Answered x y reply = refl

pub claimed_any : (b c : List ℕ) (p : Place) → is_claimed (slot_in b p).stage ≡ is_claimed (slot_in c p).stage
claimed_any b c p = claimed_by p.stage (op_in b p.op) (op_in c p.op) p.reply

-- ---- rooms

pub placed_opened : (m n : ℕ) (p : Place) → ((k : ℕ) → IsPlaced m k p) → (k : ℕ) → ArePlaced m k (replicate n p)
placed_opened m zero p is k = _
placed_opened m (suc n) p is k = (is k, placed_opened m n p is (suc k))

pub placed_at : (n k s : ℕ) (ps : List Place) (o : Place) → s < length ps → ArePlaced n k ps → IsPlaced n (k + s) (slice_index_or ps s o)
placed_at n k s [] o low h = absurd (omega (arith, low))
placed_at n k zero (p ∷ ps) o low h = let same : k ≡ k + 0 = omega arith in subst (λ i. IsPlaced n i p) same h.0
placed_at n k (suc s) (p ∷ ps) o low h =
    let same : suc k + s ≡ k + suc s = omega arith in
    subst (λ i. IsPlaced n i (slice_index_or ps s o)) same (placed_at n (suc k) s ps o (omega (arith, low)) h.1)

pub placed_set : (n k s : ℕ) (ps : List Place) (p : Place) → IsPlaced n (k + s) p → ArePlaced n k ps → ArePlaced n k (slice_set ps s p)
placed_set n k s [] p is h = h
placed_set n k zero (q ∷ ps) p is h = let same : k + 0 ≡ k = omega arith in (subst (λ i. IsPlaced n i p) same is, h.1)
placed_set n k (suc s) (q ∷ ps) p is h =
    let same : k + suc s ≡ suc k + s = omega arith in
    (h.0, placed_set n (suc k) s ps p (subst (λ i. IsPlaced n i p) same is) h.1)

pub placed_more : (m n k : ℕ) (ps : List Place) → m ≤ n → ArePlaced m k ps → ArePlaced n k ps
placed_more m n k [] le h = h
placed_more m n k (p ∷ ps) le h = ((h.0.0, within_more m n p.op le h.0.1), placed_more m n (suc k) ps le h.1)

-- a place is written whose argument lies in its own room
pub placed_put : (a : Inside) (rest : List Place) (s n : ℕ) (p : Place) → a.count ≤ length a.places → length a.beside.items ≤ n → IsPlaced n s p → ArePlaced (length a.beside.items) 0 (take a.count a.places)
    → ArePlaced n 0 (take a.count (slice_set (take a.count a.places) s p ++ rest))
placed_put a rest s n p fits le is h =
    let ps : List Place = take a.count a.places in
    let front : length (slice_set ps s p) ≡ a.count = length-set ps s p ∙ length-take-le a.count a.places fits in
    let zeroth : s ≡ 0 + s = omega arith in
    subst (ArePlaced n 0) (sym (take_at (slice_set ps s p) rest a.count front)) (placed_set n 0 s ps p (subst (λ i. IsPlaced n i p) zeroth is) (placed_more (length a.beside.items) n 0 ps le h))

-- the place with the operation that it had
pub placed_still : (a : Inside) (rest : List Place) (s : ℕ) (o p : Place) → a.count ≤ length a.places → s < a.count → p.op ≡ (slice_index_or (take a.count a.places) s o).op
    → ArePlaced (length a.beside.items) 0 (take a.count a.places) → ArePlaced (length a.beside.items) 0 (take a.count (slice_set (take a.count a.places) s p ++ rest))
placed_still a rest s o p fits low same h =
    let n : ℕ = length a.beside.items in
    let long : length (take a.count a.places) ≡ a.count = length-take-le a.count a.places fits in
    let zeroth : 0 + s ≡ s = omega arith in
    let there : IsPlaced n s (slice_index_or (take a.count a.places) s o) = subst (λ i. IsPlaced n i (slice_index_or (take a.count a.places) s o)) zeroth (placed_at n 0 s (take a.count a.places) o (omega (arith, low, long)) h) in
    placed_put a rest s n p fits (omega arith) (subst (λ op. IsFrom (s * MOST_ARG_LEN) op) (sym same) there.0, subst (λ op. IsWithin n op) (sym same) there.1) h

-- ---- the others keep what they have, as an argument is written in a room

apart_after : (j k : ℕ) (op : LaidOp) → j < k → IsFrom (k * MOST_ARG_LEN) op → IsApart (j * MOST_ARG_LEN) op
apart_after j k (Short call) lt h = _
apart_after j k (Long call) lt h = let begins = h.0 in inr (omega (arith, lt, begins))
apart_after j k (Install new) lt h = _

apart_before : (j k : ℕ) (op : LaidOp) → k < j → IsFrom (k * MOST_ARG_LEN) op → IsApart (j * MOST_ARG_LEN) op
apart_before j k (Short call) lt h = _
apart_before j k (Long call) lt h = let begins = h.0 in let few = h.1 in inl (omega (arith, lt, begins, few))
apart_before j k (Install new) lt h = _

abbrev with_op : Place → Operation → Slot
with_op p op = slot (stage_in p.stage op p.reply) p.count

others_same : (old new : List ℕ) (j k : ℕ) (ps : List Place) → j < k → ArePlaced (length old) k ps → KeepsApart (j * MOST_ARG_LEN) old new → map (slot_in new) ps ≡ map (slot_in old) ps
others_same old new j k [] lt h keeps = refl
others_same old new j k (p ∷ ps) lt h keeps =
    ap₂ (λ x xs. x ∷ xs) (ap (with_op p) (keeps p.op h.0.1 (apart_after j k p.op lt h.0.0))) (others_same old new j (suc k) ps (omega (arith, lt)) h.1 keeps)

one_written : (old new : List ℕ) (k s : ℕ) (ps : List Place) (p : Place) → ArePlaced (length old) k ps → KeepsApart ((k + s) * MOST_ARG_LEN) old new
    → map (slot_in new) (slice_set ps s p) ≡ slice_set (map (slot_in old) ps) s (slot_in new p)
one_written old new k s [] p h keeps = refl
one_written old new k zero (q ∷ ps) p h keeps = ap (λ xs. slot_in new p ∷ xs) (others_same old new (k + 0) (suc k) ps (omega arith) h.1 keeps)
one_written old new k (suc s) (q ∷ ps) p h keeps =
    let same : (k + suc s) * MOST_ARG_LEN ≡ (suc k + s) * MOST_ARG_LEN = omega arith in
    ap₂ (λ x xs. x ∷ xs) (ap (with_op q) (keeps q.op h.0.1 (apart_before (k + suc s) k q.op (omega arith) h.0.0)))
    (one_written old new (suc k) s ps p h.1 (subst (λ n. KeepsApart n old new) same keeps))

-- the slots once a place is written, with an argument in its own room
pub slots_posted : (a : Inside) (rest : List Place) (s : ℕ) (p : Place) (new : List ℕ) → a.count ≤ length a.places → ArePlaced (length a.beside.items) 0 (take a.count a.places)
    → KeepsApart (s * MOST_ARG_LEN) a.beside.items new
    → map (slot_in new) (take a.count (slice_set (take a.count a.places) s p ++ rest)) ≡ slice_set (map (slot_in a.beside.items) (take a.count a.places)) s (slot_in new p)
slots_posted a rest s p new fits h keeps =
    let ps : List Place = take a.count a.places in
    let front : length (slice_set ps s p) ≡ a.count = length-set ps s p ∙ length-take-le a.count a.places fits in
    let zeroth : s * MOST_ARG_LEN ≡ (0 + s) * MOST_ARG_LEN = omega arith in
    ap (map (slot_in new)) (take_at (slice_set ps s p) rest a.count front) ∙ one_written a.beside.items new 0 s ps p h (subst (λ n. KeepsApart n a.beside.items new) zeroth keeps)

-- the desk then
pub post_place : (a : Inside) (rest : List Place) (s : ℕ) (p : Place) (new : List ℕ) (d : DeskView) → desk_in a ≡ d → a.count ≤ length a.places → ArePlaced (length a.beside.items) 0 (take a.count a.places)
    → KeepsApart (s * MOST_ARG_LEN) a.beside.items new
    → desk_of a.node (map (slot_in new) (take a.count (slice_set (take a.count a.places) s p ++ rest))) ≡ with_slot d s (slot_in new p)
post_place a rest s p new d is fits h keeps = ap (desk_of a.node) (slots_posted a rest s p new fits h keeps) ∙ ap (λ e. with_slot e s (slot_in new p)) is

-- ---- post

post_at : (b : Bool) (d : DeskView) (s : ℕ) (x y : Slot) → (if b then Some x else None) ≡ Some y → (if b then Some (with_slot d s x) else None) ≡ Some (with_slot d s y)
post_at true d s x y h = ap (λ z. Some (with_slot d s z)) (same_Some x y h)
post_at false d s x y h = absurd (none-some y h)

abbrev posts : DeskView → ℕ → Operation → Slot → Option DeskView
posts d s op x = if is_empty x.stage then Some (with_slot d s (slot (Posted op) x.count)) else None

-- an operation is posted in a slot
pub posts_there : (d new : DeskView) (s : ℕ) (op : Operation) (x y : Slot) → slice_get d.slots s ≡ Some x → new ≡ with_slot d s y → posted_slot op x ≡ Some y → posted s op d ≡ Some new
posts_there d new s op x y at is h =
    ap (option_and_then (posts d s op)) at ∙ post_at (is_empty x.stage) d s (slot (Posted op) x.count) y h ∙ ap Some (sym is)

-- ---- collect

abbrev takes : DeskView → ℕ → Slot → Reply → Collection
takes d s x reply = record { reply = reply; desk = with_slot d s (slot Empty (counted reply x.count)) }

abbrev with_desk : Reply → DeskView → Option Collection
with_desk reply d = Some (record { reply = reply; desk = d })

-- the answer that waits in a place, if one does
pub collects_there : (b : List ℕ) (answer : Option Reply) (d new : DeskView) (s : ℕ) (p q : Place) → slice_get d.slots s ≡ Some (slot_in b p) → new ≡ with_slot d s (slot_in b q)
    → answer ≡ answer_in (slot_in b p).stage → MatchOption answer (q ≡ p) (λ reply. slot_in b q ≡ slot Empty (counted reply p.count)) → TakesAnswer s d new answer
collects_there b None d new s p q at is from left =
    let none : collected s d ≡ None = ap (option_and_then (λ x. option_map (takes d s x) (answer_in x.stage))) at ∙ ap (option_map (takes d s (slot_in b p))) (sym from) in
    (none, is ∙ ap (λ z. with_slot d s (slot_in b z)) left ∙ sym (put_same d s (slot_in b p) at))
collects_there b (Some reply) d new s p q at is from left =
    ap (option_and_then (λ x. option_map (takes d s x) (answer_in x.stage))) at
    ∙ ap (option_map (takes d s (slot_in b p))) (sym from)
    ∙ ap (with_desk reply) (sym (is ∙ ap (with_slot d s) left))
