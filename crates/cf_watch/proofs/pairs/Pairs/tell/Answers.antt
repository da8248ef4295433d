use Rattle.std.proofs.Common.{◌≡◌, ◌∙◌, ℕ, sym, ap, subst, List, map, false}
use Rattle.std.proofs.lemmas.List.{with_items_is}
use Rattle.std.specs.BTreeMap.{BTreeMap}
use Rattle.std.specs.List.{list_any}
use Rattle.cf_fold.specs.declared.trigger.Trigger.{Trigger}
use Rattle.cf_watch.specs.Kept.{BucketValue}
use Rattle.cf_watch.specs.Marks.{is_untold, with_told}
use Rattle.cf_watch.specs.Notes.{AreNotes, NotesValue}
use Rattle.cf_watch.specs.Pairs.{IsIndexed}
use Rattle.cf_watch.proofs.Distinct.{numbers}
use Rattle.cf_watch.proofs.Indexed.{indexed_same}
use Rattle.cf_watch.proofs.Told.{told_numbers}
use Rattle.cf_watch.proofs.pairs.Pairs.tell.Goals as goal
use Rattle.cf_watch.proofs.pairs.Pairs.tell.Goals.{in-Some, in-None}

pub tell_at-requires-clause-within : goal.tell_at-requires-clause-within
tell_at-requires-clause-within c = rw c.deref_mut.ensures.value (c.in-Some.ensures c.self.inside.items.items c.self.invariant.1).1

pub tell_at-requires-clause-untold : goal.tell_at-requires-clause-untold
tell_at-requires-clause-untold c = rw c.deref_mut.ensures.value (c.in-Some.ensures c.self.inside.items.items c.self.invariant.1).0

told_pairs : (places : BTreeMap ℕ ℕ) (items new : List BucketValue) (trigger : Trigger) (place : ℕ) (was now : NotesValue)
    → new ≡ map (with_told trigger place) items → list_any (is_untold trigger place) new ≡ false → IsIndexed places items × AreNotes was items
    → ((pairs : List BucketValue) → AreNotes was pairs → list_any (is_untold trigger place) (map (with_told trigger place) pairs) ≡ false
    → AreNotes now (map (with_told trigger place) pairs)) → IsIndexed places new × AreNotes now new
told_pairs places items new trigger place was now told quiet are tell =
    let same : numbers items ≡ numbers new = sym (told_numbers trigger place items) ∙ ap numbers (sym told) in
    let none : list_any (is_untold trigger place) (map (with_told trigger place) items) ≡ false = ap (list_any (is_untold trigger place)) (sym told) ∙ quiet in
    (indexed_same places items new same are.0, subst (AreNotes now) (sym told) (tell items are.1 none))

pub invariant_of-self : goal.invariant_of-self
invariant_of-self c =
    let items : List BucketValue = c.self.inside.items.items in
    elim c.match-untold_places.branch [
      | in-Some w ↦
          let new : List BucketValue = w.tell_at.new.pairs in
          let told : new ≡ map (with_told c.args.trigger.now c.args.place) items = rw w.deref_mut.ensures.value at w.tell_at.ensures.told in
          let whole = with_items_is c.self.inside.items new (w.tell_at.auto.pairs ∙ w.deref_mut.ensures.len) in
          let tell = rw w.self-inside-is at c.tell.ensures in
          rw (w.self-inside-is, whole)
          (told_pairs c.self.inside.places items new c.args.trigger.now c.args.place c.self.inside.notes c.tell.new.self told w.tell_at.ensures.quiet c.self.invariant tell)
      | in-None w ↦
          let new : List BucketValue = w.tell_all.new.pairs in
          let told : new ≡ map (with_told c.args.trigger.now c.args.place) items = rw w.deref_mut-in-None.ensures.value at w.tell_all.ensures.told in
          let whole = with_items_is c.self.inside.items new (w.tell_all.auto.pairs ∙ w.deref_mut-in-None.ensures.len) in
          let tell = rw w.self-inside-is at c.tell.ensures in
          rw (w.self-inside-is, whole)
          (told_pairs c.self.inside.places items new c.args.trigger.now c.args.place c.self.inside.notes c.tell.new.self told w.tell_all.ensures.quiet c.self.invariant tell)
    ]
