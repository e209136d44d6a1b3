-- A history of operations: what each leaves of the state, and what it replies (Calciu et al., ASPLOS 2017: the log's order is the
-- order of the operations, and each replica is the outcome of a beginning of it).
use Rattle.std.specs.Prelude.{◌≡◌, ℕ, Bool, List, [], ◌∷◌, take, slice_get, Option, Some, None, option_map}
use Rattle.oplog.specs.Operations.{Operation, FitsIn}
use Rattle.oplog.specs.declared.records.Record.{Record}

-- what an update does, once: how many steps it takes, what it replies, and the state that it leaves
pub record Effect (S : Type 0) : Type 0 where
  pub steps : ℕ
  pub reply : ℕ
  pub left : S

-- what a read answers: how many steps it takes, and what it replies; the state stays
pub record ReadEffect : Type 0 where
  pub steps : ℕ
  pub reply : ℕ

-- what operations mean under a catalogue C, on states S
pub record Meaning (C S : Type 0) : Type 1 where
  -- the state that a store opens with
  pub opening : C → S
  -- what an operation does as an update, and as a read; None where it has no run
  pub update : C → Operation → S → Option (Effect S)
  pub read : C → Operation → S → Option ReadEffect
  -- a history may have this operation; a read may ask it
  pub is_update : C → Operation → Bool
  pub is_read : C → Operation → Bool

-- the operations that all replicas apply, in order
abbrev pub History : Type 0
History = List Record

-- each operation fits where what is too long for a record may have so many bytes
abbrev pub AllFit : ℕ → History → Type 0
AllFit long records = (k : ℕ) (r : Record) → slice_get records k ≡ Some r → FitsIn long r.op

-- the state that an update leaves: without an effect it stays
abbrev pub left_by : {S : Type 0} → Option (Effect S) → S → S
left_by (Some e) state = e.left
left_by None state = state

module _ {C S : Type 0} (E : Meaning C S) where
  -- the state after these records, from that state on
  abbrev pub after : C → S → History → S
  after c state [] = state
  after c state (r ∷ rs) = after c (left_by (E.update c r.op state) state) rs

  -- the opening state after the first k records
  abbrev pub state_after : C → History → ℕ → S
  state_after c history k = after c (E.opening c) (take k history)

  -- what an update does after the first k records
  abbrev pub effect_at : C → History → ℕ → Operation → Option (Effect S)
  effect_at c history k op = E.update c op (state_after c history k)

  -- what it replies there
  abbrev pub reply_at : C → History → ℕ → Operation → Option ℕ
  reply_at c history k op = option_map (λ e. e.reply) (effect_at c history k op)

  -- what a read answers there
  abbrev pub read_at : C → History → ℕ → Operation → Option ReadEffect
  read_at c history k op = E.read c op (state_after c history k)

  -- what it replies there
  abbrev pub read_reply_at : C → History → ℕ → Operation → Option ℕ
  read_reply_at c history k op = option_map (λ e. e.reply) (read_at c history k op)
