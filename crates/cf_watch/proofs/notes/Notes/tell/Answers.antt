use Rattle.std.proofs.Common.{sym, subst}
use Rattle.cf_watch.specs.Notes.{AreNotes, NotesValue}
use Rattle.cf_watch.proofs.Noted.{notes_first, notes_next}
use Rattle.cf_watch.proofs.notes.Notes.tell.Goals as goal
use Rattle.cf_watch.proofs.notes.Notes.tell.Goals.{then-self, else-self}

pub returns : goal.returns
returns c = λ pairs are quiet.
    let was : NotesValue = record {
      changed = c.self.inside.is_changed;
      told = c.self.inside.told;
      noting = c.self.inside.is_noting;
      before = c.self.inside.before;
      places = c.self.inside.places.items;
    } in
    let known : AreNotes was pairs = subst (λ (n : NotesValue). AreNotes n pairs) (sym c.self.view_is) are in
    elim c.if-self.branch [
      | then-self w ↦ rw (w.self-inside-is, c.from.ensures) (notes_first was pairs c.args.trigger.now c.args.place known quiet)
      | else-self w ↦ rw (w.self-inside-is, c.from.ensures) (notes_next was pairs c.args.trigger.now c.args.place w.if-self.false known quiet)
    ]
