-- The bytes of a handle that lie somewhere, with what they own, are a handle of such a value that lies there, and back.
use Rattle.std.proofs.Common.{◌≡◌, ◌≢◌, ℕ, [], ◌∷◌, refl}
use mathlib.Core.Bool.{Bool, true, false}
use seplogic.Ra.Ura.{Ura}
use base.Fraction.{full_share}
use mir.Syntax.{Ty}
use mir.Val.{Val}
use base.Logic.{ent, ex, sep, id⊢}
use base.Fml.{fsep, fat, feq, ftrue}
use contract.Monad.{fact}
use types.Logic.{Logic, sem}
use types.Kit.{‵, ◌⊛◌, some, ◌$◌, ◌∵◌, !, qed, move, drop, use1, use2, split, pick, show, fsplit, fjoin, fpick, fpack, feq_l, feq_i, done}
use denote.Memory.{part_at, lone}
use denote.RattleType.{RattleType, Valss}
use denote.RawPtr.{Ptr, block_ptr}
use denote.Struct.Struct.{within}
use denote.Struct.Declared.{shape}
use denote.Steps.{nothing}
use denote.Triple.Walked.{says}
use borrow.Table.OneValue.{part_out, part_in, part_out_at, part_in_at}
use Rattle.std.specs.Prelude.{Option, Some, None, IsTrue, ◌↔◌}
use Rattle.std.specs.Global.{Global}
use Rattle.std.specs.Ptr.{points_to}
use Rattle.confluo_c.proofs.Options.{none_ties, some_ties, ties_none, ties_some}
use Rattle.confluo_c.specs.Leads.{handle_owns, leads_to}
use Rattle.cf_handles.specs.Seats.{seat_owns}
use Rattle.confluo_c.specs.contracts.raw.RawHandle as Bytes
use Rattle.confluo_c.specs.contracts.raw.RawSeat as SeatBytes
use Rattle.cf_handles.specs.contracts.handle.Handle as Handle
use Rattle.cf_handles.specs.contracts.seat.Seat as Seat

module _ (X : RattleType) where
  abbrev pub bytes_of : (Handle.the_row X).Denot → Bytes.the_row.Denot
  bytes_of k = record { full = k.full; seat = record { at = k.seat.ptr; alloc = k.seat.alloc } }

  abbrev δ : Ty
  δ = lone (Handle.the_row X).mir

  module _ {M : Type 1} {𝓤 : Ura M} (𝓛 : Logic 𝓤) (b o : ℕ) where
    in_one : (k : (Handle.the_row X).Denot) → ent 𝓤 (sem 𝓛 (fsep (part_at Bytes.the_row full_share (bytes_of k) b o) (seat_owns X k.seat.alloc k.seat.ptr k.seat.held)))
        (sem 𝓛 (part_at (Handle.the_row X) full_share k b o))
    in_one k = qed 𝓛 (‵ (fsep (part_at Bytes.the_row full_share (bytes_of k) b o) (seat_owns X k.seat.alloc k.seat.ptr k.seat.held)) ∷ []) ∵ fsplit ! $
        use1 𝓛 (some (λ (v : Val). ‵ (fat full_share δ b o v) ⊛ ‵ (Bytes.the_row.own_val (bytes_of k) (v ∷ []))))
        (part_out_at 𝓛 Bytes.the_row refl full_share (bytes_of k) b o δ refl) $
        pick ! (λ v. split ! $ move ! (1 ∷ 2 ∷ []) $ fpick ! (λ vss. fsplit ! $ move ! (1 ∷ []) $ fsplit ! $ move ! (1 ∷ []) $ fsplit ! $
        -- [the seat's bytes; true; the bool; the word; the box; the cell]
        move ! (0 ∷ 4 ∷ []) $ fjoin ! $ use1 𝓛 (‵ ((Seat.the_row X).own_val k.seat vss.1.0)) (id⊢ 𝓤 _) $ fjoin ! $ move ! (1 ∷ 0 ∷ []) $ fjoin ! $ move !
        (1 ∷ 0 ∷ []) $ fjoin ! $
        fpack ! (Valss (shape (Handle.the_type X)).fields) (within (shape (Handle.the_type X)) ((Handle.the_type X).to k) (v ∷ [])) vss $
        use1 𝓛 (‵ ((Handle.the_row X).own_val k (v ∷ []))) (id⊢ 𝓤 _) $ move ! (1 ∷ 0 ∷ []) $
        use2 𝓛 (‵ (part_at (Handle.the_row X) full_share k b o)) (part_in 𝓛 (Handle.the_row X) refl full_share k b o v) $ done !))

    out_one : (k : (Handle.the_row X).Denot) → ent 𝓤 (sem 𝓛 (part_at (Handle.the_row X) full_share k b o))
        (sem 𝓛 (fsep (part_at Bytes.the_row full_share (bytes_of k) b o) (seat_owns X k.seat.alloc k.seat.ptr k.seat.held)))
    out_one k = qed 𝓛 (‵ (part_at (Handle.the_row X) full_share k b o) ∷ []) ∵
        use1 𝓛 (some (λ (v : Val). ‵ (fat full_share δ b o v) ⊛ ‵ ((Handle.the_row X).own_val k (v ∷ [])))) (part_out 𝓛 (Handle.the_row X) refl full_share k b o) $
        pick ! (λ v. split ! $ move ! (1 ∷ []) $ fpick ! (λ vss. fsplit ! $ move ! (1 ∷ []) $ fsplit ! $ move ! (1 ∷ []) $ fsplit ! $
        use1 𝓛 (‵ (fsep (SeatBytes.the_row.own_val (bytes_of k).seat vss.1.0) (seat_owns X k.seat.alloc k.seat.ptr k.seat.held))) (id⊢ 𝓤 _) $ fsplit ! $
        move ! (0 ∷ 2 ∷ []) $ fjoin ! $ move ! (2 ∷ 0 ∷ []) $ fjoin ! $ move ! (2 ∷ 0 ∷ []) $ fjoin ! $
        fpack ! (Valss (shape Bytes.the_type).fields) (within (shape Bytes.the_type) (Bytes.the_type.to (bytes_of k)) (v ∷ [])) vss $ move ! (2 ∷ 0 ∷ []) $
        use2 𝓛 (‵ (part_at Bytes.the_row full_share (bytes_of k) b o)) (part_in_at 𝓛 Bytes.the_row refl full_share (bytes_of k) b o δ refl v) $ fjoin ! $ done !))

    pub opens : (h : Bytes.the_row.Denot) (x : Option X.Denot)
        → ent 𝓤 (sem 𝓛 (fsep (part_at Bytes.the_row full_share h b o) (handle_owns X h x)))
        (ex 𝓤 (λ (k : (Handle.the_row X).Denot). sep 𝓤 (sem 𝓛 (part_at (Handle.the_row X) full_share k b o)) (fact 𝓤 (k.seat.held ≡ x))))
    opens h None = qed 𝓛 (‵ (fsep (part_at Bytes.the_row full_share h b o) (feq Bool h.full false)) ∷ []) ∵ fsplit ! $ move ! (1 ∷ []) $ feq_l ! (λ e.
        let k : (Handle.the_row X).Denot =
        record { full = h.full; seat = record { ptr = h.seat.at; alloc = h.seat.alloc; held = None }; tied = ties_none X.Denot h.full e } in
        nothing ! $ move ! (1 ∷ 0 ∷ []) $ fjoin ! $ use1 𝓛 (‵ (part_at (Handle.the_row X) full_share k b o)) (in_one k) $
        show ! (λ (k : (Handle.the_row X).Denot). sep 𝓤 (sem 𝓛 (part_at (Handle.the_row X) full_share k b o)) (fact 𝓤 (k.seat.held ≡ None))) k $ says ! refl $ done !)
    opens h (Some x) =
        qed 𝓛 (‵ (fsep (part_at Bytes.the_row full_share h b o) (handle_owns X h (Some x))) ∷ []) ∵ fsplit ! $ move ! (1 ∷ []) $ fsplit ! $ feq_l !
        (λ e.
        let k : (Handle.the_row X).Denot =
        record { full = h.full; seat = record { ptr = h.seat.at; alloc = h.seat.alloc; held = Some x }; tied = ties_some x h.full e } in
        move ! (1 ∷ 0 ∷ []) $ fjoin ! $ use1 𝓛 (‵ (part_at (Handle.the_row X) full_share k b o)) (in_one k) $
        show ! (λ (k : (Handle.the_row X).Denot). sep 𝓤 (sem 𝓛 (part_at (Handle.the_row X) full_share k b o)) (fact 𝓤 (k.seat.held ≡ Some x))) k $ says ! refl $ done !)

    owns_of : (full : Bool) (p : Ptr) (a : Global) (x : Option X.Denot) → IsTrue full ↔ (x ≢ None)
        → ent 𝓤 (sem 𝓛 (seat_owns X a p x)) (sem 𝓛 (handle_owns X (record { full = full; seat = record { at = p; alloc = a } }) x))
    owns_of full p a None t = qed 𝓛 (‵ ftrue ∷ []) ∵ drop ! $ feq_i ! Bool full false (none_ties X.Denot full t) $ done !
    owns_of full p a (Some x) t = qed 𝓛 (‵ (seat_owns X a p (Some x)) ∷ []) ∵ feq_i ! Bool full true (some_ties x full t) $ fjoin ! $ done !

    pub closes : (k : (Handle.the_row X).Denot) → ent 𝓤 (sem 𝓛 (part_at (Handle.the_row X) full_share k b o)) (sem 𝓛 (leads_to X (block_ptr b o) k.seat.held))
    closes k = qed 𝓛 (‵ (part_at (Handle.the_row X) full_share k b o) ∷ []) ∵
        use1 𝓛 (‵ (fsep (part_at Bytes.the_row full_share (bytes_of k) b o) (seat_owns X k.seat.alloc k.seat.ptr k.seat.held))) (out_one k) $ fsplit ! $ move !
        (1 ∷ []) $
        use1 𝓛 (‵ (handle_owns X (bytes_of k) k.seat.held)) (owns_of k.full k.seat.ptr k.seat.alloc k.seat.held k.tied) $ move !
        (1 ∷ 0 ∷ []) $ fjoin ! $
        fpack ! Bytes.the_row.Denot (λ h. fsep (points_to Bytes.the_row (block_ptr b o) h) (handle_owns X h k.seat.held)) (bytes_of k) $ done !
