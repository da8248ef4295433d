use Rattle.std.proofs.Common.{◌≡◌, ◌∙◌, ◌<◌, ◌++◌, Err, List, ap, ap₂, arith, length, rules, subst, sym, take}
use Rattle.std.proofs.lemmas.List.{length-take, take-append-drop}
use Rattle.cf_row.specs.Row.{RowValue}
use Rattle.cf_shape.specs.Lanes.{ShapeValue}
use Rattle.cf_long.specs.Growing.{count_in}
use Rattle.cf_long.specs.Longs.{IsLong, LongValue, count_of, shape_in}
use Rattle.cf_long.proofs.Longs.{follows, takes_front, takes_some}
use Rattle.cf_long.proofs.Nodes.{unmade_on}
use Rattle.cf_long.proofs.long.Long.take_some.Goals as goal

pub returns-in_err-make_room-clause-unmade : goal.returns-in_err-make_room-clause-unmade
returns-in_err-make_room-clause-unmade g c =
    let why = c.in_err-make_room.field-0.0 in
    let same : c.from_residual.result ≡ Err why = search rules in
    rw same (λ before is. unmade_on (shape_in c.args.self.now) before c.args.rows.now.items why (c.in_err-make_room.ensures.unmade before is))

pub take_rows-requires-clause-taken : goal.take_rows-requires-clause-taken
take_rows-requires-clause-taken g c κs within =
    let rows = c.requires.long.0 in
    let at = subst (λ (l : LongValue). IsLong l rows) (sym c.self.view_is) (c.in_ok-make_room.ensures.long rows c.requires.long.1) in
    (at.here, at.taken)

pub take_rows-requires-clause-room : goal.take_rows-requires-clause-room
take_rows-requires-clause-room g c =
    let i = c.self.inside in
    let v : LongValue = record { plan = i.plan; small = i.small; segment = i.segment; found = i.found.items; gone = i.gone } in
    let all = c.args.rows.now.items in
    let front = c.split_off.new.self.items in
    let most = c.min-most.result in
    let size : length front ≡ length (take most all) = ap (λ (rs : List RowValue). length rs) c.in_ok-rest.ensures.items in
    let short = length-take most all in
    let least = c.min-most.ensures in
    let cap : c.capacity.result ≡ (shape_in v).capacity = c.capacity.ensures.capacity ∙ ap (λ (h : ShapeValue). h.capacity) c.shape.ensures.shape in
    let has = c.count.ensures in
    let low = subst (λ (l : LongValue). count_in l.segment < (shape_in l).capacity) (sym c.self.view_is) c.in_ok-make_room.ensures.room in
    omega (arith, size, short, least, cap, has, low)

pub returns-clause-takes : goal.returns-clause-takes
returns-clause-takes g c =
    let old = c.args.self.now in
    let i = c.self.inside in
    let v : LongValue = record { plan = i.plan; small = i.small; segment = i.segment; found = i.found.items; gone = i.gone } in
    let all = c.args.rows.now.items in
    let front = c.split_off.new.self.items in
    let rest = c.in_ok-rest.rest.items in
    let most = c.min-most.result in
    let keep : (rows : List RowValue) → IsLong old rows → IsLong v rows =
    λ rows is. subst (λ (l : LongValue). IsLong l rows) (sym c.self.view_is) (c.in_ok-make_room.ensures.long rows is) in
    let count : count_of v ≡ count_of old = ap count_of c.self.view_is ∙ c.in_ok-make_room.ensures.count in
    let split : front ++ rest ≡ all =
    ap₂ (λ (xs ys : List RowValue). xs ++ ys) c.in_ok-rest.ensures.items c.in_ok-rest.ensures.tail ∙ take-append-drop most all in
    takes_some old v keep count all front rest c.requires.follow split c.take_rows.new.self c.take_rows.ensures.shape
    c.in_ok-take_rows.ensures.taken

pub returns-clause-some : goal.returns-clause-some
returns-clause-some g c =
    let old = c.args.self.now in
    let i = c.self.inside in
    let v : LongValue = record { plan = i.plan; small = i.small; segment = i.segment; found = i.found.items; gone = i.gone } in
    let all = c.args.rows.now.items in
    let front = c.split_off.new.self.items in
    let rest = c.in_ok-rest.rest.items in
    let most = c.min-most.result in
    let keep : (rows : List RowValue) → IsLong old rows → IsLong v rows =
    λ rows is. subst (λ (l : LongValue). IsLong l rows) (sym c.self.view_is) (c.in_ok-make_room.ensures.long rows is) in
    let count : count_of v ≡ count_of old = ap count_of c.self.view_is ∙ c.in_ok-make_room.ensures.count in
    let split : front ++ rest ≡ all =
    ap₂ (λ (xs ys : List RowValue). xs ++ ys) c.in_ok-rest.ensures.items c.in_ok-rest.ensures.tail ∙ take-append-drop most all in (
      c.requires.long.0 ++ front,
      takes_front old v keep count all front rest c.requires.follow split c.take_rows.new.self c.take_rows.ensures.shape
          c.in_ok-take_rows.ensures.taken c.requires.long.0 c.requires.long.1,
    )

pub returns-clause-follow : goal.returns-clause-follow
returns-clause-follow g c =
    let old = c.args.self.now in
    let i = c.self.inside in
    let v : LongValue = record { plan = i.plan; small = i.small; segment = i.segment; found = i.found.items; gone = i.gone } in
    let all = c.args.rows.now.items in
    let front = c.split_off.new.self.items in
    let rest = c.in_ok-rest.rest.items in
    let most = c.min-most.result in
    let keep : (rows : List RowValue) → IsLong old rows → IsLong v rows =
    λ rows is. subst (λ (l : LongValue). IsLong l rows) (sym c.self.view_is) (c.in_ok-make_room.ensures.long rows is) in
    let count : count_of v ≡ count_of old = ap count_of c.self.view_is ∙ c.in_ok-make_room.ensures.count in
    let split : front ++ rest ≡ all =
    ap₂ (λ (xs ys : List RowValue). xs ++ ys) c.in_ok-rest.ensures.items c.in_ok-rest.ensures.tail ∙ take-append-drop most all in
    follows old v keep count all front rest c.requires.follow split c.take_rows.new.self c.take_rows.ensures.shape
    c.in_ok-take_rows.ensures.taken c.requires.long.0 c.requires.long.1
