use Rattle.std.proofs.Common.{◌∙◌, Bool, not, ap, ap₂, sym, subst}
use Rattle.cf_row.specs.Row.{RowValue}
use Rattle.std.proofs.Common.{List}
use Rattle.cf_shape.specs.Lanes.{ShapeValue}
use Rattle.cf_plain.specs.Asks.{rows_in}
use Rattle.cf_window.specs.Segments.{IsWindowSegment, WindowSegmentValue, with_nodes, with_row}
use Rattle.cf_window.specs.Windows.{takes}
use Rattle.cf_window.proofs.Fewer.{takes_same}
use Rattle.cf_window.proofs.Taken.{taken, taken_all, taken_answer, taken_rows}
use Rattle.cf_window.proofs.segment.WindowSegment.take.Goals as goal

pub invariant_of-self : goal.invariant_of-self
invariant_of-self c =
    let i = c.self.inside in
    let row = c.args.row.now in
    let t = c.append.new.self in
    let come = c.append.ensures.come in
    let open_so = ap (λ (s : WindowSegmentValue). s.is_spent) c.self.view_is ∙ c.requires.«open» in
    let has = taken row i.solo t (c.self.invariant.needed open_so) c.append.result come in
    subst (λ (b : Bool). IsWindowSegment t i.nodes (not b)) (sym c.is_ok-taken.ensures.value)
    (taken_all row i.solo t i.nodes c.append.result c.self.invariant.enough come.shape has)

pub returns-clause-taken : goal.returns-clause-taken
returns-clause-taken c =
    let i = c.self.inside in
    let row = c.args.row.now in
    let t = c.append.new.self in
    let open_so = ap (λ (s : WindowSegmentValue). s.is_spent) c.self.view_is ∙ c.requires.«open» in
    let has = taken row i.solo t (c.self.invariant.needed open_so) c.append.result c.append.ensures.come in
    c.is_ok-taken.ensures.value
    ∙ (taken_answer row i.solo t c.append.result has
    ∙ (takes_same (i.solo).shape i.nodes c.self.invariant.enough (rows_in (i.solo).entries) row
    ∙ ap (λ (s : WindowSegmentValue). takes s.shape s.rows row) c.self.view_is))

pub returns-clause-segment : goal.returns-clause-segment
returns-clause-segment c =
    let i = c.self.inside in
    let row = c.args.row.now in
    let t = c.append.new.self in
    let b = c.is_ok-taken.result in
    let open_so = ap (λ (s : WindowSegmentValue). s.is_spent) c.self.view_is ∙ c.requires.«open» in
    let has = taken row i.solo t (c.self.invariant.needed open_so) c.append.result c.append.ensures.come in
    let rows = taken_rows row i.solo t c.append.result has
    ∙ ap (λ (x : Bool). with_row (rows_in (i.solo).entries) row x) (sym c.is_ok-taken.ensures.value) in
    ap₂ (λ (h : ShapeValue) (rs : List RowValue). record { shape = with_nodes h i.nodes; rows = rs; is_spent = not b }) c.append.ensures.come.shape rows
    ∙ ap (λ (s : WindowSegmentValue). record { shape = s.shape; rows = with_row s.rows row b; is_spent = not b }) c.self.view_is
