-- What the walks of exports by pointers begin with: the names that they cite.
pub use Rattle.std.proofs.Common.{◌≡◌, ◌∙◌, ℕ, List, [], ◌∷◌, ◌++◌, length, refl, sym, ap, subst, w32, w64, MutBor}
pub use Rattle.std.proofs.raw_atomic.Walks.{proved_at}
pub use Rattle.std.proofs.alloc.Calls.{handle_tells}
pub use base.Fraction.{full_share}
pub use base.Logic.{id⊢, ent, sep, ex}
pub use base.Fml.{ftrue, flft, flent, fsep}
pub use contract.Monad.{fact}
pub use contract.Running.{tables}
pub use mir.Syntax.{named}
pub use mir.Val.{Val, vint, vptr, vunit}
pub use prog.Wp.{WpFn}
pub use types.Logic.{sem}
pub use types.SemTy.{Body}
pub use types.Tokens.{lft_new, lft_end}
pub use types.Kit.{at_ret, Item, ⋆, some, later, pick, use1, use2, use3, await, rewrite, show, suffices, group, done, keep, ‵, raw, ◌⊛◌, ◌$◌, ◌∵◌, !, qed, by, move, drop, split, join, fsplit, fjoin, fpick, feq_l, feq_i}
pub use types.Part.{agg, sub, whole}
pub use types.Run.{unit_lit, of_opd, addr, stop, from, fld, hop, no_more, and_then, first, blocks, exec, returns, enter}
pub use types.ByLocal.{free_all, look_at, look_in_at, get, get_in, through, sets, sets_last, lands_as, env, alloc_all, pass_all}
pub use denote.Exit.{yes}
pub use denote.Builtin.{u8, u32, u64, usize, unit}
pub use denote.Laws.{Is, shows}
pub use denote.Lend.{lends_ref, ref_back}
pub use denote.Memory.{mem, part_at}
pub use denote.Plain.{uint_Lawful}
pub use denote.RattleType.{RattleType, owns}
pub use denote.RawPtr.{Ptr, RawPtr, block_ptr, in_a_block, lies_at, ptr_val}
pub use denote.Ref.{MutRef, ShrRef}
pub use denote.Slice.{MutSlice, ShrSlice, slice_val}
pub use denote.Signature.{plain, shr_ref_to, shr_slice_of}
pub use denote.Steps.{nothing, heard, only, peeks}
pub use denote.Triple.Call.{calls_at}
pub use denote.Triple.Clauses.{lasts}
pub use denote.Triple.Spec.{triple_of}
pub use denote.Triple.Table.{framed}
pub use denote.Triple.Walked.{Stays, walk_of, stay_dropped, Goes-dropped, gave_ref, gave_slice, Goes-gave_ref, Goes-gave_slice, ends_at, says}
pub use Rattle.std.specs.Prelude.{Option, None}
