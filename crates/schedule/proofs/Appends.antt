-- A batch is appended to the history, request by request.
use Rattle.std.proofs.Common.{◌≡◌, ◌≢◌, ℕ, zero, suc, ◌+◌, ◌<◌, ◌≤◌, List, [], ◌∷◌, ◌++◌, length, map, take, Option, Some, None, refl, sym, ap, ◌∙◌, ⊎_elim, arith, subst, length-append, append_assoc}
use Rattle.std.specs.Prelude.{slice_get, nat_eq, nat_lt, replicate, if◌then◌else◌, option_map}
use Rattle.std.proofs.lemmas.Option.{none-some, same_Some, slice_get-map, slice_get_within}
use Rattle.std.proofs.lemmas.Bool.{cases_lt, cases_eq, lt-ltb, le-ltb, ne_eqb, eq-eqb}
use Rattle.std.proofs.lemmas.List.{append-nil}
use Rattle.verifier.specs.declared.refusal.Mode.TheVariants.{Update}
use Rattle.machine.specs.declared.running.Outcome.{Outcome}
use Rattle.oplog.specs.declared.records.Record.{Record}
use Rattle.oplog.specs.History.{History}
use Rattle.oplog.specs.Sessions.{session}
use Rattle.combiner.specs.declared.slots.Stage.TheVariants.{Claimed}
use Rattle.combiner.specs.declared.slots.Slot.{Slot}
use Rattle.combiner.specs.Desks.{BatchView, first_author, claimed_from, IsBatchOf}
use Rattle.replica.specs.Views.{no_replies}
use Rattle.schedule.specs.declared.parts.BegunRead.{BegunRead}
use Rattle.node.specs.declared.parts.NodeBatch.{NodeBatch}
use Rattle.node.specs.declared.parts.NodeBatch.TheVariants.{Held, InLog}
use Rattle.schedule.specs.Trace.{Call, Trace, Positions}
use Rattle.schedule.specs.declared.parts.Opening.{Opening}
use Rattle.schedule.specs.Explains.{Explains, count_of}
use Rattle.schedule.specs.Worlds.{NodeView, WorldView}
use Rattle.schedule.specs.Stands.{OpenAt, StageStands, Stands, batch_in, index_in}
use Rattle.schedule.proofs.Slots.{claimed_get, claimed_once}
use Rattle.schedule.proofs.Explained.{explains_entry}
use Rattle.schedule.proofs.Seats.{other_slot, other_node, stage_entry, stage_batch, count_self}
use Rattle.schedule.proofs.Calls.{session_is}
use Rattle.maps.proofs.Export.{at_end}
use Rattle.machine.proofs.Export.{get_inside}

-- ---- lists

pub take_length : {A : Type 0} (n : ℕ) (xs : List A) → n ≤ length xs → length (take n xs) ≡ n
take_length zero [] l = refl
take_length (suc n) [] l = absurd (omega arith)
take_length zero (x ∷ xs) l = refl
take_length (suc n) (x ∷ xs) l = ap suc (take_length n xs (omega arith))

pub take_snoc : {A : Type 0} (n : ℕ) (xs : List A) (v : A) → slice_get xs n ≡ Some v → take (suc n) xs ≡ take n xs ++ v ∷ []
take_snoc n [] v g = absurd (none-some v g)
take_snoc zero (x ∷ []) v g = ap (λ y. y ∷ []) (same_Some x v g)
take_snoc zero (x ∷ (y ∷ xs)) v g = ap (λ z. z ∷ []) (same_Some x v g)
take_snoc (suc n) (x ∷ xs) v g = ap (λ ys. x ∷ ys) (take_snoc n xs v g)

take_zero : {A : Type 0} (xs : List A) → take 0 xs ≡ []
take_zero [] = refl
take_zero (x ∷ xs) = refl

-- ---- one record after another

-- the batch, with its first j requests at the positions from first on
abbrev pub placed : ℕ → BatchView → ℕ → NodeBatch
placed first b j = InLog (record { batch = b; replies = no_replies first j })

-- so many outcomes are kept, none of them yet
pub none_kept : (n : ℕ) → length (replicate n (let v : Option Outcome = None in v)) ≡ n
none_kept zero = refl
none_kept (suc n) = ap suc (none_kept n)

-- the index of its k-th request
placed_at : (first : ℕ) (b : BatchView) (j k : ℕ) → index_in (placed first b j) k ≡ (if nat_lt k j then Some (first + k) else None)
placed_at first b j k = ap (λ n. if nat_lt k n then Some (first + k) else None) (none_kept j)

no_index : (first : ℕ) (b : BatchView) (j : ℕ) → index_in (placed first b j) j ≡ None
no_index first b j = placed_at first b j j ∙ ap (λ v. if v then Some (first + j) else None) (le-ltb j j (omega arith))

has_index : (first : ℕ) (b : BatchView) (j : ℕ) → index_in (placed first b (suc j)) j ≡ Some (first + j)
has_index first b j = placed_at first b (suc j) j ∙ ap (λ v. if v then Some (first + j) else None) (lt-ltb j (suc j) (omega arith))

other_index : (first : ℕ) (b : BatchView) (j k : ℕ) → k ≢ j → index_in (placed first b j) k ≡ index_in (placed first b (suc j)) k
other_index first b j k ne = placed_at first b j k ∙ ap (λ v. if v then Some (first + k) else None) same ∙ sym (placed_at first b (suc j) k)
  where
    same : nat_lt k j ≡ nat_lt k (suc j)
    same = ⊎_elim
        (λ lt. lt-ltb k j lt ∙ sym (lt-ltb k (suc j) (omega arith)))
        (λ ge. le-ltb k j ge ∙ sym (le-ltb k (suc j) (omega arith)))
        (cases_lt k j)

abbrev pub AllSeats : Opening → ℕ → History → Positions → Trace → (ℕ → NodeView → NodeBatch) → List NodeView → Type 0
AllSeats m done h positions t batch nodes =
    (k : ℕ) (node : NodeView) → slice_get nodes k ≡ Some node → (s : ℕ) (x : Slot) (read : Option BegunRead) → slice_get node.desk.slots s ≡ Some x → slice_get node.reads s ≡ Some read
    → StageStands m done h positions t (session m.config k s) (batch k node) x.count x.stage read

-- the batch of each node, once j requests of the batch of node n are appended
abbrev pub batches : ℕ → ℕ → BatchView → ℕ → ℕ → NodeView → NodeBatch
batches n first b j k node = if nat_eq k n then placed first b j else node.batch

pub record Grown (m : Opening) (w : WorldView) (h : History) (positions : Positions) (t : Trace) (n : ℕ) (b : BatchView) (j : ℕ) : Type 0 where
  pub positions_then : Positions
  pub more : Positions
  pub begins : positions_then ≡ positions ++ more
  pub explains : Explains m (h ++ take j b.records) positions_then t
  pub seats : AllSeats m w.log.done (h ++ take j b.records) positions_then t (batches n (length h) b j) w.nodes

-- a claimed slot has no read, and its request is in the batch
pub claimed_waits : (m : Opening) (done : ℕ) (h : History) (positions : Positions) (t : Trace) (x : ℕ) (batch : NodeBatch) (count : ℕ) (read : Option BegunRead) → StageStands m done h positions t x batch count Claimed read
    → (read ≡ None) × ((c k : ℕ) × (r : Record) × (slice_get (batch_in batch).records k ≡ Some r) × (r.author ≡ x) × (r.seq ≡ count) × OpenAt m h positions t x count Update r.op (index_in batch k) c)
claimed_waits m done h positions t x batch count None p = (refl, p)
claimed_waits m done h positions t x batch count (Some read) p = absurd p

pub met : {A : Type 0} {a b c : A} → a ≡ b → c ≡ b → a ≡ c
met e f = e ∙ sym f

pub same_at : (rs : List Record) {i j : ℕ} {p r : Record} → slice_get rs i ≡ Some p → i ≡ j → slice_get rs j ≡ Some r → p ≡ r
same_at rs {i} {j} {p} {r} g same f = same_Some p r (sym g ∙ ap (λ k. slice_get rs k) same ∙ f)

also_none : (o : Option (Option BegunRead)) (a c : Option BegunRead) → o ≡ Some a → o ≡ Some c → a ≡ None → c ≡ None
also_none o a c is also nothing = same_Some c a (sym also ∙ is) ∙ nothing

module _ (m : Opening) (w : WorldView) (h : History) (positions : Positions) (t : Trace) (n : ℕ) (node : NodeView) (b : BatchView) (at_n : slice_get w.nodes n ≡ Some node) (is_b : node.batch ≡ Held b)
    (x : Stands m w h positions t) where
  own : map (λ (r : Record). r.author) b.records ≡ claimed_from (first_author node.desk) node.desk.slots
  own = subst (λ y. IsBatchOf node.desk (batch_in y)) is_b ((x.nodes n node at_n).desk).own

  author_at : (k : ℕ) (r : Record) → slice_get b.records k ≡ Some r → slice_get (claimed_from (first_author node.desk) node.desk.slots) k ≡ Some r.author
  author_at k r g = ap (λ rs. slice_get rs k) (sym own) ∙ slice_get-map (λ (r : Record). r.author) b.records k ∙ ap (option_map (λ (r : Record). r.author)) g

  once : (j k : ℕ) (q r : Record) → slice_get b.records j ≡ Some q → slice_get b.records k ≡ Some r → q.author ≡ r.author → j ≡ k
  once j k q r f g same = claimed_once node.desk.slots (first_author node.desk) j k r.author (author_at j q f ∙ ap Some same) (author_at k r g)

  none_yet : (k : ℕ) → index_in (placed (length h) b 0) k ≡ None
  none_yet k = let no = le-ltb k 0 (omega arith) in rw no refl

  slot_in : (k : ℕ) (old : NodeView) (s : ℕ) (y : Slot) → slice_get w.nodes k ≡ Some old → slice_get old.desk.slots s ≡ Some y → s < m.config.slots
  slot_in k old s y g there = let a = slice_get_within old.desk.slots s y there in let d = ((x.nodes k old g).desk).slots in omega arith

  grown_none : Grown m w h positions t n b 0
  grown_none =
      let e : h ++ take 0 b.records ≡ h = ap (λ rs. h ++ rs) (take_zero b.records) ∙ append-nil h in
      record {
        positions_then = positions;
        more = [];
        begins = sym (append-nil positions);
        explains = subst (λ g. Explains m g positions t) (sym e) x.explains;
        seats = subst (λ g. AllSeats m w.log.done g positions t (batches n (length h) b 0) w.nodes) (sym e)
            (λ k other g s y read there begun. ⊎_elim
            (λ same. let yes = eq-eqb k n same in
            let is_node : other ≡ node = same_Some other node (sym g ∙ ap (λ i. slice_get w.nodes i) same ∙ at_n) in
            let old = (x.nodes k other g).seats s y read there begun in
            let taken : other.batch ≡ Held b = ap (λ y. y.batch) is_node ∙ is_b in
            rw yes (stage_batch m w.log.done h positions t (session m.config k s) (Held b) (placed (length h) b 0) y.count y.stage read (λ i q f by. (f, sym (none_yet i)))
            (subst (λ v. StageStands m w.log.done h positions t (session m.config k s) v y.count y.stage read) taken old)))
            (λ ne. let no = ne_eqb k n ne in rw no ((x.nodes k other g).seats s y read there begun))
            (cases_eq k n));
      }

  records_next : (j : ℕ) (r : Record) → slice_get b.records j ≡ Some r → h ++ take (suc j) b.records ≡ (h ++ take j b.records) ++ r ∷ []
  records_next j r g = ap (λ rs. h ++ rs) (take_snoc j b.records r g) ∙ sym (append_assoc h (take j b.records) (r ∷ []))

  pub grown_length : (j : ℕ) → j ≤ length b.records → length (h ++ take j b.records) ≡ length h + j
  grown_length j l = length-append h (take j b.records) ∙ ap (λ i. length h + i) (take_length j b.records l)

  -- the slot of the j-th request, and its open call, which has no index yet
  record Waits (j : ℕ) (r : Record) (y : Grown m w h positions t n b j) : Type 0 where
    s : ℕ
    slot : Slot
    there : slice_get node.desk.slots s ≡ Some slot
    stage : slot.stage ≡ Claimed
    by : r.author ≡ session m.config n s
    count : r.seq ≡ slot.count
    c : ℕ
    open_at : OpenAt m (h ++ take j b.records) y.positions_then t r.author slot.count Update r.op None c
    no_read : (read : Option BegunRead) → slice_get node.reads s ≡ Some read → read ≡ None

  -- what stands of a slot of the node itself
  own_seat : (j : ℕ) (y : Grown m w h positions t n b j) (s : ℕ) (z : Slot) (read : Option BegunRead) → slice_get node.desk.slots s ≡ Some z → slice_get node.reads s ≡ Some read
      → StageStands m w.log.done (h ++ take j b.records) y.positions_then t (session m.config n s) (placed (length h) b j) z.count z.stage read
  own_seat j y s z read there begun =
      let yes = eq-eqb n n refl in
      subst (λ v. StageStands m w.log.done (h ++ take j b.records) y.positions_then t (session m.config n s) (if v then placed (length h) b j else node.batch) z.count z.stage read) yes (y.seats n node at_n s z read there begun)

  waits : (j : ℕ) (r : Record) → slice_get b.records j ≡ Some r → (y : Grown m w h positions t n b j) → Waits j r y
  waits j r at_j y =
      let o = x.nodes n node at_n in
      let c = claimed_get node.desk.slots (first_author node.desk) j r.author (author_at j r at_j) in
      let by : r.author ≡ session m.config n c.0 = c.2 ∙ session_is m n node c.0 o.desk in
      let inside = slot_in n node c.0 c.1 at_n c.3 in
      let begun : (read : Option BegunRead) × (slice_get node.reads c.0 ≡ Some read) = get_inside node.reads c.0 (let d = o.desk.reads in omega arith) in
      let st = claimed_waits m w.log.done (h ++ take j b.records) y.positions_then t (session m.config n c.0) (placed (length h) b j) (c.1).count begun.0
      (subst (λ v. StageStands m w.log.done (h ++ take j b.records) y.positions_then t (session m.config n c.0) (placed (length h) b j) (c.1).count v begun.0) c.4 (own_seat j y c.0 c.1 begun.0 c.3 begun.1)) in
      let q = st.1 in
      let is_j : q.1 ≡ j = once q.1 j q.2 r q.3 at_j (met q.4 by) in
      let is_r : q.2 ≡ r = same_at b.records q.3 is_j at_j in
      record {
        s = c.0;
        slot = c.1;
        there = c.3;
        stage = c.4;
        by = by;
        count = subst (λ z. z.seq ≡ (c.1).count) is_r q.5;
        c = q.0;
        open_at = subst (λ v. OpenAt m (h ++ take j b.records) y.positions_then t v (c.1).count Update r.op None q.0) (sym by)
            (subst (λ v. OpenAt m (h ++ take j b.records) y.positions_then t (session m.config n c.0) (c.1).count Update r.op v q.0) (no_index (length h) b j)
            (subst (λ i. OpenAt m (h ++ take j b.records) y.positions_then t (session m.config n c.0) (c.1).count Update r.op (index_in (placed (length h) b j) i) q.0) is_j
            (subst (λ z. OpenAt m (h ++ take j b.records) y.positions_then t (session m.config n c.0) (c.1).count Update z.op (index_in (placed (length h) b j) q.1) q.0) is_r q.6)));
        no_read = λ read again. also_none (slice_get node.reads c.0) begun.0 read begun.1 again st.0;
      }

  grown_next : (j : ℕ) (r : Record) → slice_get b.records j ≡ Some r → length h + j < m.config.limit → Grown m w h positions t n b j → Grown m w h positions t n b (suc j)
  grown_next j r at_j room_left y =
      let inside = slice_get_within b.records j r at_j in
      let len : length (h ++ take j b.records) ≡ length h + j = grown_length j (omega arith) in
      let mine = waits j r at_j y in
      let c = mine.c in
      let free = mine.open_at in
      let called : slice_get t c ≡ Some (Call r.author Update r.op) = (free.is_open).call in
      let done = x.log.done in
      let seq : r.seq ≡ count_of r.author (h ++ take j b.records) = (let f = free.counts in let g = mine.count in omega arith) in
      let grew : Explains m ((h ++ take j b.records) ++ r ∷ []) (y.positions_then ++ c ∷ []) t
      = explains_entry r c y.explains free.may called free.has seq (omega arith) (λ e z a g. let l = x.stamps e z a g in omega arith) in
      let index : length y.positions_then ≡ length h + j = (y.explains).each_placed ∙ len in
      let next = records_next j r at_j in
      let opened : OpenAt m ((h ++ take j b.records) ++ r ∷ []) (y.positions_then ++ c ∷ []) t r.author (mine.slot).count Update r.op (Some (length h + j)) c = record {
        is_open = free.is_open;
        may = free.may;
        has = subst (λ i. slice_get (y.positions_then ++ c ∷ []) i ≡ Some c) index (at_end y.positions_then c);
        counts = count_self (h ++ take j b.records) r ∙ (let f = free.counts in omega arith);
      } in
      let opened2 = subst (λ v. OpenAt m ((h ++ take j b.records) ++ r ∷ []) (y.positions_then ++ c ∷ []) t r.author (mine.slot).count Update r.op v c) (sym (has_index (length h) b j)) opened in
      let opened3 : OpenAt m ((h ++ take j b.records) ++ r ∷ []) (y.positions_then ++ c ∷ []) t (session m.config n mine.s) (mine.slot).count Update r.op (index_in (placed (length h) b (suc j)) j) c =
      subst (λ v. OpenAt m ((h ++ take j b.records) ++ r ∷ []) (y.positions_then ++ c ∷ []) t v (mine.slot).count Update r.op (index_in (placed (length h) b (suc j)) j) c) mine.by opened2 in
      let own_stage : StageStands m w.log.done ((h ++ take j b.records) ++ r ∷ []) (y.positions_then ++ c ∷ []) t (session m.config n mine.s) (placed (length h) b (suc j)) (mine.slot).count Claimed None =
      (c, j, r, at_j, mine.by, mine.count, opened3) in
      record {
        positions_then = y.positions_then ++ c ∷ [];
        more = y.more ++ c ∷ [];
        begins = ap (λ ps. ps ++ c ∷ []) y.begins ∙ append_assoc positions y.more (c ∷ []);
        explains = subst (λ g. Explains m g (y.positions_then ++ c ∷ []) t) (sym next) grew;
        seats = subst (λ g. AllSeats m w.log.done g (y.positions_then ++ c ∷ []) t (batches n (length h) b (suc j)) w.nodes) (sym next)
            (λ k other g s z read there begun. ⊎_elim
            (λ same. let is_n = eq-eqb k n same in
            let is_node : other ≡ node = same_Some other node (sym g ∙ ap (λ i. slice_get w.nodes i) same ∙ at_n) in
            let there2 : slice_get node.desk.slots s ≡ Some z = ap (λ v. slice_get v.desk.slots s) (sym is_node) ∙ there in
            let begun2 : slice_get node.reads s ≡ Some read = ap (λ v. slice_get v.reads s) (sym is_node) ∙ begun in
            rw is_n (subst (λ i. StageStands m w.log.done ((h ++ take j b.records) ++ r ∷ []) (y.positions_then ++ c ∷ []) t (session m.config i s) (placed (length h) b (suc j)) z.count z.stage read) (sym same)
            (own_next j r at_j y mine own_stage s z read there2 begun2)))
            (λ ne. let no_n = ne_eqb k n ne in
            let old : StageStands m w.log.done (h ++ take j b.records) y.positions_then t (session m.config k s) other.batch z.count z.stage read
            = subst (λ v. StageStands m w.log.done (h ++ take j b.records) y.positions_then t (session m.config k s) (if v then placed (length h) b j else other.batch) z.count z.stage read) no_n (y.seats k other g s z read there begun) in
            rw no_n (stage_entry m w.log.done (h ++ take j b.records) y.positions_then t (session m.config k s) other.batch z.count z.stage read r c called
            (λ e. other_node m.config n k mine.s s (slot_in n node mine.s mine.slot at_n mine.there) (slot_in k other s z g there) ne (sym mine.by ∙ e)) (omega arith) old))
            (cases_eq k n));
      }
    where
      own_next : (j : ℕ) (r : Record) → slice_get b.records j ≡ Some r → (y : Grown m w h positions t n b j) → (mine : Waits j r y)
          → StageStands m w.log.done ((h ++ take j b.records) ++ r ∷ []) (y.positions_then ++ mine.c ∷ []) t (session m.config n mine.s) (placed (length h) b (suc j)) (mine.slot).count Claimed None
          → (s : ℕ) (z : Slot) (read : Option BegunRead) → slice_get node.desk.slots s ≡ Some z → slice_get node.reads s ≡ Some read
          → StageStands m w.log.done ((h ++ take j b.records) ++ r ∷ []) (y.positions_then ++ mine.c ∷ []) t (session m.config n s) (placed (length h) b (suc j)) z.count z.stage read
      own_next j r at_j y mine stage s z read there begun =
          let inside = slice_get_within b.records j r at_j in
          let len : length (h ++ take j b.records) ≡ length h + j = grown_length j (omega arith) in
          let done = x.log.done in
          ⊎_elim
          (λ slot.
          let is_slot : mine.slot ≡ z = same_Some mine.slot z (sym mine.there ∙ ap (λ i. slice_get node.desk.slots i) (sym slot) ∙ there) in
          let nothing : None ≡ read = sym (mine.no_read read (ap (λ i. slice_get node.reads i) (sym slot) ∙ begun)) in
          subst (λ i. StageStands m w.log.done ((h ++ take j b.records) ++ r ∷ []) (y.positions_then ++ mine.c ∷ []) t (session m.config n i) (placed (length h) b (suc j)) z.count z.stage read) (sym slot)
          (subst (λ v. StageStands m w.log.done ((h ++ take j b.records) ++ r ∷ []) (y.positions_then ++ mine.c ∷ []) t (session m.config n mine.s) (placed (length h) b (suc j)) v.count v.stage read) is_slot
          (subst (λ v. StageStands m w.log.done ((h ++ take j b.records) ++ r ∷ []) (y.positions_then ++ mine.c ∷ []) t (session m.config n mine.s) (placed (length h) b (suc j)) (mine.slot).count v read) (sym mine.stage)
          (subst (λ v. StageStands m w.log.done ((h ++ take j b.records) ++ r ∷ []) (y.positions_then ++ mine.c ∷ []) t (session m.config n mine.s) (placed (length h) b (suc j)) (mine.slot).count Claimed v) nothing stage))))
          (λ ne.
          stage_batch m w.log.done ((h ++ take j b.records) ++ r ∷ []) (y.positions_then ++ mine.c ∷ []) t (session m.config n s) (placed (length h) b j) (placed (length h) b (suc j)) z.count z.stage read
          (λ i p f by. (
            f,
            other_index (length h) b j i (λ e.
                let is_p : p ≡ r = same_Some p r (sym f ∙ ap (λ i. slice_get b.records i) e ∙ at_j) in
                other_slot m.config n n mine.s s (slot_in n node mine.s mine.slot at_n mine.there) (slot_in n node s z at_n there) ne (sym mine.by ∙ ap (λ v. v.author) (sym is_p) ∙ by)),
          ))
          (stage_entry m w.log.done (h ++ take j b.records) y.positions_then t (session m.config n s) (placed (length h) b j) z.count z.stage read r mine.c ((mine.open_at).is_open).call
          (λ e. other_slot m.config n n mine.s s (slot_in n node mine.s mine.slot at_n mine.there) (slot_in n node s z at_n there) ne (sym mine.by ∙ e)) (omega arith) (own_seat j y s z read there begun)))
          (cases_eq s mine.s)

  pub grown_to : (j : ℕ) → j ≤ length b.records → length h + j ≤ m.config.limit → Grown m w h positions t n b j
  grown_to zero l r = grown_none
  grown_to (suc j) l r = let q = get_inside b.records j (omega arith) in grown_next j q.0 q.1 (omega arith) (grown_to j (omega arith) (omega arith))
