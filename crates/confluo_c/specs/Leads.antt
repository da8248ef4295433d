-- What lies at a pointer to a handle, and what is owned there: the bytes of the handle, and the box that they lead to.
use base.Fml.{Fml, feq, fex, fsep}
use denote.RattleType.{RattleType}
use denote.RawPtr.{Ptr}
use Rattle.std.specs.Prelude.{Bool, true, false, Option, Some, None}
use Rattle.std.specs.Ptr.{points_to}
use Rattle.std.specs.Box.Ownership.{box_owns}
use Rattle.std.specs.contracts.impls.GlobalAllocator.TheImpl.{ghosts}
use Rattle.cf_store.specs.contracts.held.Log.{the_row as log_row}
use Rattle.cf_store.specs.contracts.held.Writer.{the_row as writer_row}
use Rattle.cf_store.specs.contracts.held.Reader.{the_row as reader_row}
use Rattle.cf_store.specs.contracts.span.Span.{the_row as span_row}
use Rattle.confluo_c.specs.declared.raw.RawHandle.{RawHandle}
use Rattle.confluo_c.specs.contracts.raw.RawHandle.{the_row as handle_row}

-- what is owned by a handle of these bytes: nothing, or the box at its pointer
abbrev pub handle_owns : (R : RattleType) → RawHandle → Option R.Denot → Fml
handle_owns R h None = feq Bool h.full false
handle_owns R h (Some x) = fsep (feq Bool h.full true) (box_owns (ghosts.dealloc_token h.seat.alloc) R h.seat.at x)

-- at the pointer lies a handle, and it owns that
abbrev pub leads_to : (R : RattleType) → Ptr → Option R.Denot → Fml
leads_to R p held = fex RawHandle (λ h. fsep (points_to handle_row p h) (handle_owns R h held))

abbrev pub log_at : Ptr → Option log_row.Denot → Fml
log_at = leads_to log_row

abbrev pub writer_at : Ptr → Option writer_row.Denot → Fml
writer_at = leads_to writer_row

abbrev pub reader_at : Ptr → Option reader_row.Denot → Fml
reader_at = leads_to reader_row

abbrev pub span_at : Ptr → Option span_row.Denot → Fml
span_at = leads_to span_row
