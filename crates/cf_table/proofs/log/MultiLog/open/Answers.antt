use Rattle.std.proofs.Common.{◌≡◌, ◌∙◌, List, ℕ, [], ◌∷◌, ap, map, sym, subst, replicate, arith}
use Rattle.cf_shape.specs.Places.{word_total, sizes_of}
use Rattle.cf_law.specs.Lawful.{Lawful}
use Rattle.cf_law.specs.Shapes.{layout}
use Rattle.cf_law.proofs.Runs.{opening_lawful}
use Rattle.cf_law.specs.Passes.{Book}
use Rattle.cf_law.specs.Events.{tabulated, no_book}
use Rattle.cf_table.specs.Rule.{root_pass, SeatView}
use Rattle.cf_table.specs.Moves.{note_of, AreNoted, HoldsAllBooks}
use Rattle.cf_table.proofs.Homing.{opened}
use Rattle.cf_table.proofs.Notes.{first_noted}
use Rattle.cf_table.proofs.log.MultiLog.open.Goals as goal

pub of_words-requires : goal.of_words-requires
of_words-requires c =
    let s = c.args.shape in
    let items : c.as_slice.result.now ≡ replicate (word_total (sizes_of s)) 0 = c.as_slice.ensures.value
    ∙ (c.in_ok-words.ensures.items_if_clones_equal (λ y h. h) ∙ ap (λ (n : ℕ). replicate n 0) c.word_total.ensures.total) in
    subst (λ (ws : List ℕ). Lawful (layout s) ws (root_pass s ∷ [])) (sym items) (opening_lawful (layout s))

pub invariant_of-result : goal.invariant_of-result
invariant_of-result c =
    let s = c.args.shape in
    let e = c.in_ok-notes.ensures in
    let lawful = c.lanes-lawful.ensures.lawful in
    let n = c.nodes-nodes.ensures.nodes in
    let few = lawful.writers in
    let low = lawful.nodes in
    let noted = first_noted c.in_ok-notes.notes.items s.writers c.nodes-nodes.result
    (e.notes ∙ ap (λ (k : ℕ). map note_of (tabulated no_book k)) c.writers.ensures.writers) few.1 (omega (arith, n, low)) in (
      subst (λ (bs : List Book). AreNoted c.in_ok-notes.notes.items bs c.nodes-nodes.result)
          (sym (ap (λ (m : SeatView). (m.0).books) c.in_ok-table.ensures.4)) noted,
      e.room,
    )

pub returns-clause-home : goal.returns-clause-home
returns-clause-home c = subst (λ (m : SeatView). HoldsAllBooks c.args.shape m.0) (sym c.in_ok-table.ensures.4) (opened c.args.shape)
