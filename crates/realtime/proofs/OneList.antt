-- One list of operations, from what calls are told one after the other.
use Rattle.std.proofs.Common.{◌≡◌, ⊎_elim, ℕ, zero, suc, ◌≤◌, List, [], ◌∷◌, ◌++◌, map, length, take, Option, Some, None, refl, sym, ap, subst, ◌∙◌, arith}
use Rattle.std.specs.Prelude.{slice_get, option_map}
use Rattle.std.specs.List.{cons_option, take-map}
use Rattle.std.proofs.lemmas.Option.{none-some, same_Some, slice_get_within}
use Rattle.std.proofs.lemmas.List.{append_assoc, append-nil, length-append, length-map, map-append, take-append-le}
use Rattle.verifier.specs.declared.refusal.Mode.{Mode}
use Rattle.verifier.specs.declared.refusal.Mode.TheVariants.{Update, Read}
use Rattle.loader.specs.CatalogueView.{CatalogueView}
use Rattle.loader.specs.StoreState.{StoreState}
use Rattle.oplog.specs.declared.records.Record.{Record}
use Rattle.oplog.specs.Operations.{Operation}
use Rattle.oplog.specs.History.{Effect, ReadEffect, History, after, left_by, state_after, reply_at, read_reply_at}
use Rattle.combiner.specs.declared.slots.Reply.TheVariants as replies
use Rattle.replica.specs.StoreMeaning.{store_meaning}
use Rattle.schedule.specs.Trace.{Answer, Updated, ReadBack, Positions}
use Rattle.schedule.specs.Explains.{count_of}
use Rattle.schedule.proofs.Export.{get_snoc, take_all_front}
use Rattle.realtime.specs.declared.histories.Timed.{Timed}
use Rattle.realtime.specs.Linearizable.{TranscriptCall, if_placed, operations_of}
use Rattle.realtime.proofs.Agreeing.{Replies, AllReply}
use Rattle.maps.proofs.Export.{in_front, at_end}

-- ---- histories of the same operations

abbrev pub op_of : Record → Operation
op_of r = r.op

abbrev first_op : Operation → List Operation → Operation
first_op d [] = d
first_op d (x ∷ xs) = x

abbrev other_ops : List Operation → List Operation
other_ops [] = []
other_ops (x ∷ xs) = xs

same_after : (c : CatalogueView) (g h : History) (s : StoreState) → map op_of g ≡ map op_of h → after store_meaning c s g ≡ after store_meaning c s h
same_after c [] [] s e = refl
same_after c [] (q ∷ h) s e = absurd (let n = ap length e in omega (arith, n))
same_after c (r ∷ g) [] s e = absurd (let n = ap length e in omega (arith, n))
same_after c (r ∷ g) (q ∷ h) s e =
    ap (λ op. after store_meaning c (left_by (store_meaning.update c op s) s) g) (ap (first_op r.op) e)
    ∙ same_after c g h (left_by (store_meaning.update c q.op s) s) (ap other_ops e)

module _ (c : CatalogueView) (g h : History) (same : map op_of g ≡ map op_of h) where
  pub same_length : length g ≡ length h
  same_length = sym (length-map g op_of) ∙ ap length same ∙ length-map h op_of

  same_state : (k : ℕ) → state_after store_meaning c g k ≡ state_after store_meaning c h k
  same_state k = same_after c (take k g) (take k h) (store_meaning.opening c) (sym (take-map op_of k g) ∙ ap (take k) same ∙ take-map op_of k h)

  pub same_reply : (op : Operation) → reply_at store_meaning c g (length g) op ≡ reply_at store_meaning c h (length h) op
  same_reply op =
      ap (λ k. reply_at store_meaning c g k op) same_length
      ∙ ap (λ state. option_map (λ (e : Effect StoreState). e.reply) (store_meaning.update c op state)) (same_state (length h))

  pub same_read : (op : Operation) → read_reply_at store_meaning c g (length g) op ≡ read_reply_at store_meaning c h (length h) op
  same_read op =
      ap (λ k. read_reply_at store_meaning c g k op) same_length
      ∙ ap (λ state. option_map (λ (e : ReadEffect). e.reply) (store_meaning.read c op state)) (same_state (length h))

-- ---- calls with what is told of them

pub record Made : Type 0 where
  pub told : TranscriptCall
  pub call : Timed

abbrev pub made : List TranscriptCall → List Timed → List Made
made [] ts = []
made (a ∷ told) [] = []
made (a ∷ told) (t ∷ ts) = record { told = a; call = t } ∷ made told ts

-- the call z is one of zs
abbrev pub Has : List Made → Made → Type 0
Has zs z = (k : ℕ) × (slice_get zs k ≡ Some z)

pub made_at : (told : List TranscriptCall) (ts : List Timed) (k : ℕ) (a : TranscriptCall) (t : Timed) → slice_get told k ≡ Some a → slice_get ts k ≡ Some t
    → slice_get (made told ts) k ≡ Some (record { told = a; call = t })
made_at [] ts k a t f g = absurd (none-some a f)
made_at (b ∷ told) [] k a t f g = absurd (none-some t g)
made_at (b ∷ told) (u ∷ ts) zero a t f g = ap (λ x. Some (record { told = x; call = u })) (same_Some b a f) ∙ ap (λ x. Some (record { told = a; call = x })) (same_Some u t g)
made_at (b ∷ told) (u ∷ ts) (suc k) a t f g = made_at told ts k a t f g

pub at_made : (told : List TranscriptCall) (ts : List Timed) (k : ℕ) (z : Made) → slice_get (made told ts) k ≡ Some z → (slice_get told k ≡ Some z.told) × (slice_get ts k ≡ Some z.call)
at_made [] ts k z e = absurd (none-some z e)
at_made (b ∷ told) [] k z e = absurd (none-some z e)
at_made (b ∷ told) (u ∷ ts) zero z e = let same = same_Some (record { told = b; call = u }) z e in (ap (λ (x : Made). Some x.told) same, ap (λ (x : Made). Some x.call) same)
at_made (b ∷ told) (u ∷ ts) (suc k) z e = at_made told ts k z e

-- ---- their places

-- what stands at a place is the call that has it
pub record Owner (h : History) (zs : List Made) (i p : ℕ) : Type 0 where
  pub of : Made
  pub has : Has zs of
  pub begun : of.call.begun ≡ p
  pub reply : ℕ
  pub answer : of.told.answer ≡ Updated (replies.Placed i reply)
  pub mode : of.told.mode ≡ Update
  pub entry : Record
  pub there : slice_get h i ≡ Some entry
  pub author : entry.author ≡ of.call.session
  pub op : entry.op ≡ of.told.op

-- the answer is right of a call that began at this number
abbrev pub Right : CatalogueView → History → Positions → ℕ → Mode → Operation → Answer → Type 0
Right c h ps begun mode op (Updated (replies.Placed i reply)) = (mode ≡ Update) × (slice_get ps i ≡ Some begun) × (reply_at store_meaning c h i op ≡ Some reply)
Right c h ps begun mode op (Updated replies.Ended) = mode ≡ Update
Right c h ps begun mode op (ReadBack a) = (mode ≡ Read) × (a.point ≤ length h) × (read_reply_at store_meaning c h a.point op ≡ Some a.reply)

pub record Places (c : CatalogueView) (h : History) (ps : Positions) (zs : List Made) : Type 0 where
  pub long : length ps ≡ length h
  pub owner : (i p : ℕ) → slice_get ps i ≡ Some p → Owner h zs i p
  pub seqs : (i : ℕ) (r : Record) → slice_get h i ≡ Some r → r.seq ≡ count_of r.author (take i h)
  pub right : (z : Made) → Has zs z → Right c h ps z.call.begun z.told.mode z.told.op z.told.answer

pub no_places : (c : CatalogueView) → Places c [] [] []
no_places c = record {
  long = refl;
  owner = λ i p e. absurd (none-some p e);
  seqs = λ i r e. absurd (none-some r e);
  right = λ z has. absurd (none-some z has.1);
}

owner_more : (h more : History) (zs : List Made) (z : Made) (i p : ℕ) → Owner h zs i p → Owner (h ++ more) (zs ++ z ∷ []) i p
owner_more h more zs z i p o = record {
  of = o.of;
  has = ((o.has).0, in_front zs (z ∷ []) (o.has).0 o.of (o.has).1);
  begun = o.begun;
  reply = o.reply;
  answer = o.answer;
  mode = o.mode;
  entry = o.entry;
  there = in_front h more i o.entry o.there;
  author = o.author;
  op = o.op;
}

right_more : (c : CatalogueView) (h more : History) (ps ends : Positions) (begun : ℕ) (mode : Mode) (op : Operation) (a : Answer) → length ps ≡ length h
    → Right c h ps begun mode op a → Right c (h ++ more) (ps ++ ends) begun mode op a
right_more c h more ps ends begun mode op (Updated (replies.Placed i reply)) long r =
    let l = slice_get_within ps i begun r.1 in
    (r.0, in_front ps ends i begun r.1, reply_more_at c h more i op (omega (arith, l, long)) ∙ r.2)
  where
    reply_more_at : (c : CatalogueView) (h more : History) (k : ℕ) (op : Operation) → k ≤ length h → reply_at store_meaning c (h ++ more) k op ≡ reply_at store_meaning c h k op
    reply_more_at c h more k op le = ap (λ state. option_map (λ (e : Effect StoreState). e.reply) (store_meaning.update c op state)) (ap (after store_meaning c (store_meaning.opening c)) (take-append-le k h more le))
right_more c h more ps ends begun mode op (Updated replies.Ended) long r = r
right_more c h more ps ends begun mode op (ReadBack a) long r =
    let le = r.1 in (
      r.0,
      omega (arith, length-append h more, le),
      ap (λ state. option_map (λ (e : ReadEffect). e.reply) (store_meaning.read c op state))
          (ap (after store_meaning c (store_meaning.opening c)) (take-append-le a.point h more le)) ∙ r.2,
    )

-- ---- one more call

-- there are a list and positions that fit these calls, of these operations
pub record Fitting (c : CatalogueView) (zs : List Made) (ops : List Operation) (last : History) : Type 0 where
  pub list : History
  pub positions : Positions
  pub places : Places c list positions zs
  pub own : map op_of list ≡ ops
  pub same : map op_of last ≡ map op_of list

module _ (c : CatalogueView) (g h : History) (ps : Positions) (zs : List Made) (x : Places c h ps zs) (same : map op_of g ≡ map op_of h) (call : Timed) where
  abbrev with_call : Mode → Operation → Answer → Made
  with_call mode op answer = record { told = record { mode = mode; op = op; answer = answer }; call = call }

  abbrev ops_then : Operation → Answer → List Operation
  ops_then op answer = map op_of h ++ cons_option (if_placed op answer) []

  -- a call that leaves the history
  stays : (mode : Mode) (op : Operation) (answer : Answer) → Right c h ps call.begun mode op answer → Places c h ps (zs ++ with_call mode op answer ∷ [])
  stays mode op answer right = record {
    long = x.long;
    owner = λ i p e. subst (λ (k : History). Owner k (zs ++ with_call mode op answer ∷ []) i p) (append-nil h) (owner_more h [] zs (with_call mode op answer) i p (x.owner i p e));
    seqs = x.seqs;
    right = λ z has. ⊎_elim
        (λ old. x.right z (has.0, old))
        (λ new. subst (λ (y : Made). Right c h ps y.call.begun y.told.mode y.told.op y.told.answer) new.1 right)
        (get_snoc zs (with_call mode op answer) has.0 z has.1);
  }

  module _ (op : Operation) (i reply : ℕ) where
    abbrev entry : Record
    entry = record { author = call.session; seq = count_of call.session h; op = op }

    abbrev one : Made
    one = with_call Update op (Updated (replies.Placed i reply))

    added : i ≡ length h → reply_at store_meaning c h (length h) op ≡ Some reply → Places c (h ++ entry ∷ []) (ps ++ call.begun ∷ []) (zs ++ one ∷ [])
    added here replies_so = record {
      long = let l = x.long in omega (arith, l, length-append ps (call.begun ∷ []), length-append h (entry ∷ []));
      owner = λ j p e. ⊎_elim
          (λ old. owner_more h (entry ∷ []) zs one j p (x.owner j p old))
          (λ new. let at : j ≡ i = new.0 ∙ x.long ∙ sym here in record {
            of = one;
            has = (length zs, at_end zs one);
            begun = new.1;
            reply = reply;
            answer = ap (λ k. Updated (replies.Placed k reply)) (sym at);
            mode = refl;
            entry = entry;
            there = ap (slice_get (h ++ entry ∷ [])) (at ∙ here) ∙ at_end h entry;
            author = refl;
            op = refl;
          })
          (get_snoc ps call.begun j p e);
      seqs = λ j r e. ⊎_elim
          (λ old. let l = slice_get_within h j r old in x.seqs j r old ∙ ap (λ es. count_of r.author es) (sym (take-append-le j h (entry ∷ []) (omega (arith, l)))))
          (λ new. subst (λ (y : Record). y.seq ≡ count_of y.author (take j (h ++ entry ∷ []))) new.1
          (ap (λ es. count_of call.session es) (sym (ap (λ k. take k (h ++ entry ∷ [])) new.0 ∙ take_all_front h (entry ∷ [])))))
          (get_snoc h entry j r e);
      right = λ z has. ⊎_elim
          (λ old. right_more c h (entry ∷ []) ps (call.begun ∷ []) z.call.begun z.told.mode z.told.op z.told.answer x.long (x.right z (has.0, old)))
          (λ new. subst (λ (y : Made). Right c (h ++ entry ∷ []) (ps ++ call.begun ∷ []) y.call.begun y.told.mode y.told.op y.told.answer) new.1 (
            refl,
            ap (slice_get (ps ++ call.begun ∷ [])) (here ∙ sym x.long) ∙ at_end ps call.begun,
            ap (λ k. reply_at store_meaning c (h ++ entry ∷ []) k op) here ∙ reply_stays ∙ replies_so,
          ))
          (get_snoc zs one has.0 z has.1);
    }
      where
        reply_stays : reply_at store_meaning c (h ++ entry ∷ []) (length h) op ≡ reply_at store_meaning c h (length h) op
        reply_stays = ap (λ state. option_map (λ (e : Effect StoreState). e.reply) (store_meaning.update c op state))
            (ap (after store_meaning c (store_meaning.opening c)) (take-append-le (length h) h (entry ∷ []) (omega arith)))

  pub one_call : (mode : Mode) (op : Operation) (answer : Answer) (next : History) → Replies c g mode op answer next → Fitting c (zs ++ with_call mode op answer ∷ []) (ops_then op answer) next
  one_call mode op (Updated (replies.Placed i reply)) next r = record {
    list = h ++ entry op i reply ∷ [];
    positions = ps ++ call.begun ∷ [];
    places = subst (λ m. Places c (h ++ entry op i reply ∷ []) (ps ++ call.begun ∷ []) (zs ++ with_call m op (Updated (replies.Placed i reply)) ∷ [])) (sym r.0)
        (added op i reply (r.1 ∙ same_length c g h same) (sym (same_reply c g h same op) ∙ r.2));
    own = map-append op_of h (entry op i reply ∷ []);
    same = ap (map op_of) r.3 ∙ map-append op_of g _ ∙ ap (λ xs. xs ++ op ∷ []) same ∙ sym (map-append op_of h (entry op i reply ∷ []));
  }
  one_call mode op (Updated replies.Ended) next r = record {
    list = h;
    positions = ps;
    places = stays mode op (Updated replies.Ended) r.0;
    own = sym (append-nil (map op_of h));
    same = ap (map op_of) r.1 ∙ same;
  }
  one_call mode op (ReadBack a) next r = record {
    list = h;
    positions = ps;
    places = stays mode op (ReadBack a) (
      r.0,
      (let l = same_length c g h same in let point = r.1 in omega (arith, l, point)),
      ap (λ k. read_reply_at store_meaning c h k op) (r.1 ∙ same_length c g h same) ∙ sym (same_read c g h same op) ∙ r.2,
    );
    own = sym (append-nil (map op_of h));
    same = ap (map op_of) r.3 ∙ same;
  }

-- ---- all calls

pub all_calls : (c : CatalogueView) (told : List TranscriptCall) (ts : List Timed) (g h : History) (ps : Positions) (zs : List Made) (last : History) → length told ≡ length ts
    → Places c h ps zs → map op_of g ≡ map op_of h → AllReply c g told last → Fitting c (zs ++ made told ts) (map op_of h ++ operations_of told) last
all_calls c [] [] g h ps zs last even x same r = record {
  list = h;
  positions = ps;
  places = subst (Places c h ps) (sym (append-nil zs)) x;
  own = sym (append-nil (map op_of h));
  same = ap (map op_of) r ∙ same;
}
all_calls c [] (t ∷ ts) g h ps zs last even x same r = absurd (omega (arith, even))
all_calls c (a ∷ told) [] g h ps zs last even x same r = absurd (omega (arith, even))
all_calls c (a ∷ told) (t ∷ ts) g h ps zs last even x same r =
    let z : Made = record { told = a; call = t } in
    let first = one_call c g h ps zs x same t a.mode a.op a.answer r.0 r.1 in
    let rest = all_calls c told ts r.0 first.list first.positions (zs ++ z ∷ []) last (omega (arith, even)) first.places first.same r.2 in
    subst (λ ops. Fitting c (zs ++ made (a ∷ told) (t ∷ ts)) ops last) (ops_in_turn a.op a.answer (map op_of first.list) first.own)
    (subst (λ all. Fitting c all (map op_of first.list ++ operations_of told) last) (append_assoc zs (z ∷ []) (made told ts)) rest)
  where
    ops_in_turn : (op : Operation) (answer : Answer) (ops : List Operation) → ops ≡ map op_of h ++ cons_option (if_placed op answer) []
        → ops ++ operations_of told ≡ map op_of h ++ cons_option (if_placed op answer) (operations_of told)
    ops_in_turn op answer ops e = ap (λ xs. xs ++ operations_of told) e ∙ append_assoc (map op_of h) (cons_option (if_placed op answer) []) (operations_of told)
        ∙ ap (λ xs. map op_of h ++ xs) (joined (if_placed op answer))
      where
        joined : (o : Option Operation) → cons_option o [] ++ operations_of told ≡ cons_option o (operations_of told)
        joined None = refl
        joined (Some x) = refl
