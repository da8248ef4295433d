use mir.Raw.{raw}
use base.Shift.{Keyless}
use denote.Memory.{lone}
use base.Fraction.{full_share}
use denote.Exit.{Exit, unchanged, leaves, hidden, under}
use denote.RattleType.{RattleType}
use denote.RawPtr.{Ptr, block_ptr, null_ptr, lies_at}
use denote.Struct.Struct.{exits_of}
use denote.Struct.Owning.{shape, fields, to}
use denote.Param.Send.{IsSend, Quiet, AllSend, part_keyless, owning_send, struct_send, sendable}
use Rattle.std.specs.Prelude.{Option, Some, None}
use Rattle.std.specs.Global.{Global}
use Rattle.std.proofs.Crossing as heap
use Rattle.std.proofs.alloc.Global.TheSendSync as handle
use Rattle.cf_handles.specs.Seats.{seat_owns}
use Rattle.cf_handles.specs.contracts.seat.Seat.{the_row, the_type}

quiet : {D X : Type 0} (to : D → X) (e : Exit X) → Quiet e → Quiet (hidden (under to e))
quiet to unchanged q = λ x w. tt
quiet to (leaves L l S s r₀) q = λ d. q (to d)

lies : (R : RattleType) → IsSend R → (p : Ptr) (x : R.Denot) → Keyless (lies_at R full_share p x)
lies R s (block_ptr b o) x = part_keyless R s full_share x b o
lies R s null_ptr x = tt

owned : (R : RattleType) → IsSend R → (a : Global) (p : Ptr) (o : Option R.Denot) → Keyless (seat_owns R a p o)
owned R s a p None = tt
owned R s a p (Some x) = (lies R s p x, heap.frees.frees a (raw (lone R.mir)) p)

pub send : (T : RattleType) → IsSend T → IsSend (the_row T)
send T s =
    let all : AllSend (fields (the_type T)) = (search sendable, (handle.the_field_send, tt)) in
    owning_send (the_type T) all (λ d. owned T s d.alloc d.ptr d.held)
    (λ k. quiet (to (the_type T)) (exits_of k (fields (the_type T))) ((struct_send (shape (the_type T)) all).leaving k))
