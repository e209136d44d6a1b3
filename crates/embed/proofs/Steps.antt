-- The names that walks cite.
pub use Rattle.std.proofs.Common.{◌≡◌, ℕ, List, [], ◌∷◌, ◌++◌, refl, ap, MutBor, w32, subst, sym, None}
pub use base.Fraction.{full_share}
pub use base.Logic.{ent, id⊢, ex, ex_i, snd∗, sep, emp, SProp, fst∗, via, wand, wand_i, apply∗, comm∗, mono_l, emp∗}
pub use contract.Monad.{fact, fact_i, top, Fun}
pub use base.Fml.{Fml, ftrue, fat, flft, flent, froom, fsep, GName}
pub use mir.Syntax.{named, Fn, Ty, Callee, Place, Opd, Body, seq, call, local, ty_unit, ty_ptr, ty_ref, erased, mut, value_local, assign, place, rv_opd, copy, addr_of, deref, opd_unit, return, Local}
pub use mir.Val.{Val, vunit, vptr, has_ty, WT}
pub use contract.Running.{tables, Running}
pub use prog.Wp.{WpFn, Closed, Env, Calls, Loops}
pub use types.Kit.{‵, raw, ◌⊛◌, some, later, prop, ◌$◌, ◌∵◌, !, qed, done, move, keep, drop, use0, use1, use2, use3, split, join, fsplit, feq_i, feq_l, pick, await, regoal, suffices, Item, Goal, by, Post, Seq, Step, step, updating, now, show, frame, lands, runs, pop, push, ⋆, Soaks, fjoin, assume, rewrite}
pub use types.Logic.{Logic, sem}
pub use types.Run.{enter, of_opd, unit_lit, addr, init, stop, no_more, and_then, assigns, returns, from, fld, hop, Opds}
pub use types.ByLocal.{alloc_all, pass_all, free_all, look_at, get, through, sets, lands_as, get_in, look_in_at}
pub use types.Tokens.{lft_new, lft_end}
pub use borrow.Table.OneValue.{One, part_in, part_out}
pub use seplogic.Ra.Ura.{Ura}
pub use denote.Builtin.{unit, u8, u64}
pub use denote.Exit.{yes, left}
pub use denote.Laws.{Is, Tells, shows, Spells, Tellss, Ises, Are, valss, Lawful, Typed}
pub use denote.Lend.{lends_ref, ref_back}
pub use denote.Memory.{mem, pointee}
pub use denote.Param.{layout}
pub use denote.RattleType.{RattleType, flat, Denots, Valss, owns}
pub use denote.RawPtr.{Ptr, RawPtr, block_ptr, lies_at, room_at, in_a_block, rawptr_vals, rawptr_Tells}
pub use denote.Ref.{MutRef, mut_vals, shr_vals, shr_Tells}
pub use denote.Signature.{named_lft, plain, Slot, types_at, mut_ref_to}
pub use denote.Steps.{nothing, heard, only, peeks, said}
pub use denote.Struct.Laws.{val, tells}
pub use denote.Triple.Call.{calls_from}
pub use denote.Triple.Clauses.{lasts, Ended, Clauses, closing}
pub use denote.Triple.Entry.{on_entry, Args, Vals}
pub use denote.Triple.Spec.{triple_of, Meets}
pub use denote.Triple.Table.{framed, entered, enters}
pub use types.Part.{agg, whole, sub}
pub use denote.Plain.{uint_vals, uint_Tells}
pub use denote.Slice.{mut_slice_vals, mut_slice_Tells, shr_slice_vals, shr_slice_Tells}
pub use lib.Dec.{T}
pub use Prim.Native.Nat.{zero, suc, ◌+◌}
pub use prog.Model.{Model}
pub use sound.WpLaws.{FmC}
pub use contract.Lifetimes.{Lfts, Shares, Outlives, AllOutlive, toks}
pub use denote.Triple.Statement.{Contract, FmF, Triple}
pub use denote.Triple.End.{Kepts, Fins, outs, lasts_of, Outs}
pub use denote.Shadow.{Pure, shadow, pure_i}
pub use Rattle.std.specs.contracts.alloc.Global.{the_row as A, the_type as global}
