use Rattle.std.proofs.Common.{◌∙◌, ◌+◌, sym, ap, arith, ◌++◌, ◌∷◌, [], List}
use Rattle.cf_law.specs.Events.{no_book}
use Rattle.cf_table.specs.declared.pass.Note.{Note}
use Rattle.cf_table.specs.Moves.{note_of}
use Rattle.cf_table.proofs.Notes.{no_notes, next_note}
use Rattle.cf_table.proofs.log.first_notes.Goals as goal

pub loop-writer-init : goal.loop-writer-init
loop-writer-init c = let e = c.in_ok-notes.ensures in record { items = e.items ∙ sym no_notes; long = e.len; room = e.capacity }

pub loop-writer-preserved : goal.loop-writer-preserved
loop-writer-preserved c =
    let w = c.loop-writer.writer in
    let i = c.loop-writer.invariant in
    let e = c.push_reserved.ensures in
    let l = i.long in let r = i.room in let n = e.len in let cap = e.capacity in record {
      items = e.items ∙ (ap (λ (xs : List Note). xs ++ note_of (no_book w) ∷ []) i.items ∙ sym (next_note w (w + 1) (omega arith)));
      long = omega (arith, n, l);
      room = omega (arith, cap, r);
    }
