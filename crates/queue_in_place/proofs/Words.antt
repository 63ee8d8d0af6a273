-- What the walks take from the kit: its words for steps, contracts and machine values, passed on from one place.
-- Assumes nothing.
pub use mathlib.Core.Path.{◌≡◌, refl}
pub use Prim.Native.Nat.{ℕ, ◌<◌, ◌^◌}
pub use mathlib.Core.List.{[], ◌∷◌, List}
pub use native.Mathlib.Omega.{arith}
pub use seplogic.Ra.Ura.{Ura}
pub use mir.Syntax.{named, w32, w64}
pub use mir.Val.{Val, vint, vptr, vunit}
pub use base.Logic.{SProp, ent, emp, via, fst∗, snd∗, ex_e, id⊢}
pub use base.Fml.{GName, Lft, Share, ftrue, flft}
pub use prog.Memory.{Memory}
pub use prog.Routine.{Routine}
pub use prog.Wp.{Heap, Calls, Loops, WpFn}
pub use ghost.Atoms.{Atoms}
pub use contract.Monad.{Fun, fact}
unfoldable pub use contract.Running.{tables_of}
pub use sound.WpLaws.{FmC}
pub use types.Kit.{Item, ‵, ⋆, ◌⊛◌, ◌$◌, ◌∵◌, !, qed, by, move, keep, drop, split, join, fsplit, fsplit3, fjoin, suffices, frame}
pub use types.Kit.{done, split3, feq_i}
pub use types.Run.{look, look_raw, init, stop, hop, fld, from, load, lit, of_opd, and_then, no_more, assigns, land, returns, enter}
pub use types.Run.{alloc1, alloc0, params1, pass1, pass0, free0, unit_lit}
pub use types.Part.{agg, whole, sub, look_in}
pub use denote.RattleType.{owns}
pub use denote.Laws.{Is}
pub use denote.Plain.{uint_Makes, uint_vals, uint_Tells}
pub use denote.Builtin.{u32, u64}
pub use denote.Ref.{Bor, MutBor, MutRef, shr_vals, mut_vals, mut_Tells}
pub use denote.Steps.{owned, nothing}
pub use denote.Struct.Declared.{row}
pub use denote.Triple.Statement.{Contract, Triple}
pub use denote.Triple.Clauses.{ensured, lasts}
pub use denote.Triple.Entry.{on_entry}
pub use denote.Triple.Spec.{triple_of}
pub use denote.Triple.Walked.{says, Stays, walk_of, AllGo, Walks, ends_at, walked}
