use Rattle.std.proofs.Common.{◌≡◌, ◌∙◌, ℕ, Bool, List, length, map, take, ap, arith, refl, subst, sym}
use Rattle.std.proofs.Math.Dec.{ltb}
use Rattle.std.proofs.lemmas.Bool.{ltb-true, ltb-false}
use Rattle.std.proofs.lemmas.List.{length-map, take-map}
use Rattle.std.proofs.lemmas.List.Elements.{All-same, All-take}
use Rattle.cf_row.specs.Row.{Fits, RowValue}
use Rattle.cf_project.specs.Projected.{row_kept}
use Rattle.cf_intake.specs.Reads.{numbered_on}
use Rattle.cf_long.specs.Longs.{MayFollow, shape_in}
use Rattle.cf_long.proofs.Ends.{may_follow, taken_so, untaken_so}
use Rattle.cf_long.proofs.KeptRows.{follow_left}
use Rattle.cf_long.proofs.reads.take.Goals as goal

-- what is left of the first rows is the first of what is left
cut_left : (marks : List Bool) (room : ℕ) (left given : List RowValue) → left ≡ map (row_kept marks) given → take room left ≡ map (row_kept marks) (take room given)
cut_left marks room left given is = ap (λ (rs : List RowValue). take room rs) is ∙ take-map (row_kept marks) room given

pub take_left-requires-clause-may : goal.take_left-requires-clause-may
take_left-requires-clause-may g c κs within =
    let given = c.requires.numbered in
    let log = c.args.long.now in
    let rows = numbered_on (length given.0) given.1 in
    let room = c.room-room.result in
    let cut = c.truncate.ensures.items ∙ cut_left log.kept room c.args.left.items rows given.3 in record {
      some = c.requires.long;
      fit = All-same (Fits (shape_in log.long).schema) c.truncate.new.self.items (take room c.args.left.items) c.truncate.ensures.items
          (All-take (Fits (shape_in log.long).schema) room c.args.left.items c.requires.fit);
      follow = subst (λ (rs : List RowValue). MayFollow log.long rs) (sym cut)
          (follow_left log.kept log.long (take room rows) (may_follow log given.0 given.1 rows room given.2 refl c.room-room.ensures));
    }

pub returns-in-Ok-clause-taken : goal.returns-in-Ok-clause-taken
returns-in-Ok-clause-taken g c = λ before more is left_is.
    let room = c.room-room.result in
    let count = c.len.result in
    let size = c.len.ensures in
    let log = c.args.long.now in
    let rows = numbered_on (length before) more in
    let cut = c.truncate.ensures.items ∙ cut_left log.kept room c.args.left.items rows left_is in
    let many : length c.args.left.items ≡ length rows = ap (λ (rs : List RowValue). length rs) left_is ∙ length-map rows (row_kept log.kept) in
    taken_so log before more rows room is refl c.room-room.ensures c.take_left.new.self (take room rows) (ltb room count) refl
    (c.in-Ok.ensures.takes (numbered_on 0 before) (take room rows) is cut)
    (λ e. let low = ltb-true room count e in omega (arith, low, size, many)) (λ e. let high = ltb-false room count e in omega (arith, high, size, many))

pub returns-clause-taken : goal.returns-clause-taken
returns-clause-taken g c = λ before more is left_is.
    let room = c.room-room.result in
    let log = c.args.long.now in
    let rows = numbered_on (length before) more in
    let cut = c.truncate.ensures.items ∙ cut_left log.kept room c.args.left.items rows left_is in
    rw c.halt.ensures
    (untaken_so log before more rows room is refl c.room-room.ensures c.take_left.new.self (take room rows) c.nodes-nodes.result c.in-Err.why refl
    c.take_left.ensures.keeps.shape c.nodes-nodes.ensures (c.in-Err.ensures.takes (numbered_on 0 before) (take room rows) is cut))
