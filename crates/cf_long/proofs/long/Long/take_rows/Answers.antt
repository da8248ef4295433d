use Rattle.std.proofs.Common.{◌≡◌, ◌∙◌, [], ◌∷◌, ◌++◌, Err, List, append_assoc, ap, length, refl, rules, subst}
use Rattle.cf_row.specs.Row.{RowValue}
use Rattle.cf_shape.specs.Lanes.{ShapeValue}
use Rattle.cf_fill.specs.Logs.{IsUnmade}
use Rattle.cf_long.specs.Longs.{shape_in}
use Rattle.cf_long.proofs.Longs.{takes_all, takes_none, takes_then}
use Rattle.cf_long.proofs.Takes.{waits_few}
use Rattle.cf_long.proofs.long.Long.take_rows.Goals as goal

none_left : (rows : List RowValue) → length rows ≡ 0 → rows ≡ []
none_left [] zero = refl
none_left (row ∷ rows) zero = absurd (cc zero)

pub loop-self-init : goal.loop-self-init
loop-self-init g c = record {
  some = c.requires.long;
  fit = c.requires.fit;
  follow = c.requires.follow;
  keeps = record { shape = refl; plan = refl };
  takes = takes_none c.args.self.now c.args.rows.now.items;
}

pub loop-self-preserved : goal.loop-self-preserved
loop-self-preserved g c =
    let v = c.loop-self.invariant in
    let e = c.in_ok-take_some.ensures in
    let keeps = c.take_some.ensures.keeps in
    record {
      some = e.some;
      fit = e.fit;
      follow = e.follow;
      keeps = record { shape = keeps.shape ∙ v.keeps.shape; plan = keeps.plan ∙ v.keeps.plan };
      takes = takes_then c.args.self.now c.loop-self.self c.take_some.new.self c.args.rows.now.items c.loop-self.rows.items c.take_some.new.rows.items
          v.takes e.takes;
    }

pub returns-clause-long : goal.returns-clause-long
returns-clause-long g c = λ before is.
    let zero : length c.loop-self.rows.items ≡ 0 = search rules in
    let none : c.loop-self.rows.items ≡ [] = none_left c.loop-self.rows.items zero in
    takes_all c.args.self.now c.loop-self.self c.args.rows.now.items c.loop-self.rows.items before c.loop-self.invariant.takes none is

pub returns-clause-few : goal.returns-clause-few
returns-clause-few g c = let some = c.loop-self.invariant.some in waits_few c.loop-self.self.plan c.loop-self.self.segment some.1.here some.1.taken

pub returns-in_err-take_some-clause-unmade : goal.returns-in_err-take_some-clause-unmade
returns-in_err-take_some-clause-unmade g c =
    let why = c.in_err-take_some.field-0.0 in
    let same : c.from_residual.result ≡ Err why = search rules in
    let v = c.loop-self.invariant in
    let left = c.loop-self.rows.items in
    rw same (λ before is.
    subst (λ (h : ShapeValue). IsUnmade h (before ++ c.args.rows.now.items) why) v.keeps.shape
    (subst (λ (rs : List RowValue). IsUnmade (shape_in c.loop-self.self) rs why)
    (append_assoc before v.takes.taken left ∙ ap (λ (rs : List RowValue). before ++ rs) v.takes.split)
    (c.in_err-take_some.ensures.unmade (before ++ v.takes.taken) (v.takes.long before is))))
