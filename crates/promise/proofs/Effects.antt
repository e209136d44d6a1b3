-- What the functions of a store's meaning do is what the relations say.
use Rattle.std.proofs.Common.{◌≡◌, ℕ, zero, suc, ◌+◌, ◌<◌, ◌≤◌, Bool, true, false, List, length, take, arith, subst}
use Rattle.std.proofs.Common.{Option, Some, None, Result, Ok, Err, refl, sym, ap, ◌∙◌}
use Rattle.std.specs.Prelude.{◌&&◌, nat_eq, nat_lt, if◌then◌else◌}
use Rattle.std.specs.Option.{option_map}
use Rattle.std.proofs.lemmas.Bool.Decides.{nat_tests}
use Rattle.std.proofs.lemmas.Option.{same_Some}
use Rattle.insn.proofs.Export.{read_is_spelled}
use Rattle.maps.specs.Maps.{AreBytes}
use Rattle.verifier.specs.declared.refusal.Mode.{Mode}
use Rattle.verifier.specs.declared.refusal.Mode.TheVariants.{Update, Read}
use Rattle.verifier.specs.Accepted.{Checked, checked}
use Rattle.verifier.specs.Signature.{Signature, signature}
use Rattle.verifier.proofs.Export.{accepts}
use Rattle.machine.specs.Effects.{effect, effect_of, Effect as RunEffect}
use Rattle.machine.specs.Soundness.{TypableProgramsRun}
use Rattle.machine.proofs.Export.{are_runs, get_inside}
use Rattle.loader.specs.CatalogueView.{CatalogueView, IsCatalogue, opening_state}
use Rattle.loader.specs.Installed.{installed_program}
use Rattle.loader.specs.declared.installed.InstallRefusal.{InstallRefusal}
use Rattle.loader.specs.StoreState.{StoreState}
use Rattle.loader.proofs.Export.{installed_reads}
use Rattle.oplog.specs.Calls.{Call, NewProgram}
use Rattle.oplog.specs.Operations.{Operation}
use Rattle.oplog.specs.declared.records.Op.TheVariants.{Run, Install}
use Rattle.oplog.specs.History.{Effect, History, ReadEffect, effect_at, left_by, read_reply_at, reply_at, state_after}
use Rattle.replica.specs.StoreMeaning.{AreUpdates, as_read, as_update, is_mode, is_operation, no_place, no_program}
use Rattle.replica.specs.StoreMeaning.{placed, placed_read, program_in, run_in, run_of, store_meaning, suits}
use Rattle.replica.proofs.Export.{after_suc, are_tested, suits_so, takes_effect}
use Rattle.schedule.proofs.Export.{take_snoc}
use Rattle.promise.specs.Operations.{After, CallDoes, Called, Encodes, Exits, Installed, Looked, NoPlace, NoProgram}
use Rattle.promise.specs.Operations.{Opened, ReadRepliesAt, RepliesAt, Fits, Then, UpdateDoes, with_program}

-- ---- a call

takes_by : (own mode : Mode) (argument : List ℕ) (arg_len : ℕ)
    → (is_mode own mode && nat_eq (length argument) arg_len) ≡ true
    → (own ≡ mode) × (length argument ≡ arg_len)
takes_by Update Update argument arg_len is = let e : nat_eq (length argument) arg_len ≡ true = is in (refl, grind (arith, nat_tests))
takes_by Read Read argument arg_len is = let e : nat_eq (length argument) arg_len ≡ true = is in (refl, grind (arith, nat_tests))
takes_by Update Read argument arg_len is = absurd cc
takes_by Read Update argument arg_len is = absurd cc

takes_none : (mode : Mode) (argument : List ℕ) (p : Checked) → suits mode argument p ≡ false → Fits mode argument p → ⊥
takes_none mode argument p other takes = let e = suits_so mode argument p takes.0 takes.1 in absurd cc

-- in this state
module _ (mode : Mode) (c : CatalogueView) (s : StoreState) (call : Call) (e : RunEffect) where
  -- the effect of a program that suits, or the reply that there is none
  abbrev chosen : Checked → Bool → Option RunEffect
  chosen p b = if b then effect p.program s.maps call.argument else Some (effect_of 0 no_program s.maps)

  none_does : ((p : Checked) → program_in c s call.program ≡ Some p → Fits mode call.argument p → ⊥)
      → Some (effect_of 0 no_program s.maps) ≡ Some e → CallDoes mode c s call e.reply e.maps
  none_does lacks is = subst (λ (z : RunEffect). CallDoes mode c s call z.reply z.maps) (same_Some _ _ is) (NoProgram lacks)

  unsuited : (p q : Checked) → program_in c s call.program ≡ Some p → program_in c s call.program ≡ Some q
      → suits mode call.argument p ≡ false → suits mode call.argument q ≡ false
  unsuited p q named there other =
      subst (λ (x : Checked). suits mode call.argument x ≡ false) (same_Some p q (sym named ∙ there)) other

  by_suits : (p : Checked) → program_in c s call.program ≡ Some p → (b : Bool) → suits mode call.argument p ≡ b
      → chosen p b ≡ Some e → CallDoes mode c s call e.reply e.maps
  by_suits p named true suitable ran =
      let takes = takes_by p.mode mode call.argument p.arg_len suitable in
      Exits p e.steps e.reply e.maps named takes ((are_runs p.program s.maps call.argument e).0 ran).runs
  by_suits p named false other ran =
      none_does (λ q there takes. takes_none mode call.argument q (unsuited p q named there other) takes) ran

  by_program : (o : Option Checked) → program_in c s call.program ≡ o → run_in mode call.argument s.maps o ≡ Some e
      → CallDoes mode c s call e.reply e.maps
  by_program (Some p) named ran = by_suits p named (suits mode call.argument p) refl ran
  by_program None missing ran =
      none_does (λ q there takes. absurd (let different : None ≡ Some q = sym missing ∙ there in cc)) ran

  pub call_does : run_of mode c call s ≡ Some e → CallDoes mode c s call e.reply e.maps
  call_does ran = by_program (program_in c s call.program) refl ran

-- ---- an update

module _ (always : TypableProgramsRun) (c : CatalogueView) (s : StoreState) (e : Effect StoreState) where
  does_same : {op : Operation} {z : Effect StoreState} → Some z ≡ Some e → UpdateDoes c s op z.reply z.left
      → UpdateDoes c s op e.reply e.left
  does_same {op} is does = subst (λ (z : Effect StoreState). UpdateDoes c s op z.reply z.left) (same_Some _ _ is) does

  by_run : (call : Call) (o : Option RunEffect) → run_of Update c call s ≡ o → option_map (as_update s) o ≡ Some e
      → UpdateDoes c s (Run call) e.reply e.left
  by_run call None run is = absurd cc
  by_run call (Some r) run is = does_same is (Called call r.reply r.maps (call_does Update c s call r run))

  abbrev installed_as : Checked → Bool → Effect StoreState
  installed_as p b =
      if b
      then (record { steps = 0; reply = length c.programs + length s.programs; left = with_program s p })
      else (record { steps = 0; reply = no_place; left = s })

  by_place : (new : NewProgram) (p : Checked) → Encodes c new p → (b : Bool) → nat_lt (length s.programs) s.places ≡ b
      → Some (installed_as p b) ≡ Some e → UpdateDoes c s (Install new) e.reply e.left
  by_place new p encodes true free is =
      let under : length s.programs < s.places = grind (arith, nat_tests) in does_same is (Installed new p encodes under)
  by_place new p encodes false full is =
      let over : s.places ≤ length s.programs = grind (arith, nat_tests) in does_same is (NoPlace new over)

  by_bytes : (new : NewProgram) (r : Result Checked InstallRefusal) → AreBytes new.bytes
      → installed_program c.shapes new.mode new.arg_len new.bytes ≡ r → placed_read c s r ≡ Some e
      → UpdateDoes c s (Install new) e.reply e.left
  by_bytes new (Err why) bytes read is = absurd cc
  by_bytes new (Ok p) bytes read is =
      let l : Signature = signature c.shapes new.arg_len new.mode in
      let x = installed_reads c.shapes new.mode new.arg_len new.bytes p read in
      let spelled = read_is_spelled new.bytes x.program bytes x.read in
      let q : Checked = checked x.program c.shapes new.arg_len new.mode in
      let encodes : Encodes c new q = (refl, spelled, always x.program l spelled.each (accepts x.program l x.passed)) in
      let placed_so = ap (λ (z : Checked). Some (placed c s z)) (sym x.same) ∙ is in
      by_place new q encodes (nat_lt (length s.programs) s.places) refl placed_so

  pub update_does : (op : Operation) → is_operation Update c op ≡ true → store_meaning.update c op s ≡ Some e
      → UpdateDoes c s op e.reply e.left
  update_does (Run call) is done = by_run call (run_of Update c call s) refl done
  update_does (Install new) is done =
      let bytes = ((are_tested Update c (Install new)).0 is).bytes in
      by_bytes new (installed_program c.shapes new.mode new.arg_len new.bytes) bytes refl done

-- ---- after the first operations of a history

module _ (always : TypableProgramsRun) (c : CatalogueView) (whole : IsCatalogue c) (h : History) (updates : AreUpdates c h) where
  abbrev state : ℕ → StoreState
  state k = state_after store_meaning c h k

  pub state_is : (k : ℕ) → k ≤ length h → After c (take k h) (state k)
  state_is zero le = Opened
  state_is (suc k) le =
      let r = get_inside h k (omega arith) in
      let is = updates k r.0 r.1 in
      let e = takes_effect c whole h k r.0.op updates is in
      let left = after_suc store_meaning c (opening_state c) h k r.0 r.1 in
      let next : state (suc k) ≡ e.0.left = left ∙ ap (λ o. left_by o (state k)) e.1 in
      let does = update_does always c (state k) e.0 r.0.op is e.1 in
      let after = Then (take k h) (state k) e.0.left r.0 e.0.reply (state_is k (omega arith)) does in
      subst (λ (z : StoreState). After c (take (suc k) h) z) (sym next)
      (subst (λ (z : History). After c z e.0.left) (sym (take_snoc k h r.0 r.1)) after)

  by_effect : (i : ℕ) (op : Operation) (reply : ℕ) → i ≤ length h → is_operation Update c op ≡ true
      → (o : Option (Effect StoreState)) → effect_at store_meaning c h i op ≡ o
      → option_map (λ (e : Effect StoreState). e.reply) o ≡ Some reply → RepliesAt c h i op reply
  by_effect i op reply le is None done e = absurd cc
  by_effect i op reply le is (Some x) done e =
      let does = update_does always c (state i) x op is done in
      subst (λ (z : ℕ). RepliesAt c h i op z) (same_Some _ _ e) (state i, x.left, state_is i le, does)

  pub replies_at : (i : ℕ) (op : Operation) (reply : ℕ) → i ≤ length h → is_operation Update c op ≡ true
      → reply_at store_meaning c h i op ≡ Some reply → RepliesAt c h i op reply
  replies_at i op reply le is replied = by_effect i op reply le is (effect_at store_meaning c h i op) refl replied

  by_look : (i : ℕ) (call : Call) (reply : ℕ) → i ≤ length h → (o : Option RunEffect) → run_of Read c call (state i) ≡ o
      → option_map (λ (e : ReadEffect). e.reply) (option_map as_read o) ≡ Some reply
      → ReadRepliesAt c h i (Run call) reply
  by_look i call reply le None run e = absurd cc
  by_look i call reply le (Some r) run e =
      let does = call_does Read c (state i) call r run in
      let looked = Looked call r.reply (state i) r.maps (state_is i le) does in
      subst (λ (z : ℕ). ReadRepliesAt c h i (Run call) z) (same_Some _ _ e) looked

  pub read_replies_at : (i : ℕ) (op : Operation) (reply : ℕ) → i ≤ length h
      → read_reply_at store_meaning c h i op ≡ Some reply
      → ReadRepliesAt c h i op reply
  read_replies_at i (Install new) reply le replied = absurd cc
  read_replies_at i (Run call) reply le replied = by_look i call reply le (run_of Read c call (state i)) refl replied
