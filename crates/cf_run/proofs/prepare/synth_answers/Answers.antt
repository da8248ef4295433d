use Rattle.std.proofs.Common.{◌≡◌, ◌∙◌, true, false, ap, arith, rules}
use Rattle.std.proofs.lemmas.Result.{err_from_is_err_and}
use Rattle.cf_command.specs.Call.{synth_by}
use Rattle.cf_shape.specs.Lanes.{ShapeValue}
use Rattle.cf_row.specs.declared.packet6.PacketSchema.TheVariants.{Packet}
use Rattle.cf_fill.specs.Work.{draws, drawn_rows}
use Rattle.cf_run.proofs.Coming.{synth_unset, synth_other, synth_full, synth_sealed, synth_stopped, synth_unmade, unmade_unfailed}
use Rattle.cf_fill.proofs.Drawing.{drawn_many, draws_packets}
use Rattle.cf_fill.proofs.Filled.{filled_few, filled_on}
use Rattle.cf_run.proofs.prepare.synth_answers.Goals as goal

pub returns-in_err-setup-clause-ends : goal.returns-in_err-setup-clause-ends
returns-in_err-setup-clause-ends g c =
    let p = err_from_is_err_and c.from_residual.result c.from_residual.ensures.1 in
    rw (p.1, p.2)
    (synth_unset (g.F.Shelf.files c.args.shelf.now) (synth_by c.args.command.now) (g.F.Shelf.rest c.args.shelf.now)
    (g.F.Shelf.rest c.read_setup.new.shelf) _ c.in_err-setup.ensures.read)

pub returns-then-not-draws-clause-ends : goal.returns-then-not-draws-clause-ends
returns-then-not-draws-clause-ends g c =
    let records : draws c.in_ok-setup.setup.source ≡ false = search rules in
    rw c.schema_line-line.ensures
    (synth_other (g.F.Shelf.files c.args.shelf.now) (synth_by c.args.command.now) (g.F.Shelf.rest c.args.shelf.now)
    (g.F.Shelf.rest c.read_setup.new.shelf) c.in_ok-setup.setup c.in_ok-setup.ensures.read records)

pub returns-then-command-most-clause-ends : goal.returns-then-command-most-clause-ends
returns-then-command-most-clause-ends g c =
    let packets : draws c.in_ok-setup.setup.source ≡ true = search rules in
    let most = c.most-most.ensures in
    rw most (synth_full (g.F.Shelf.files c.args.shelf.now) (synth_by c.args.command.now) (g.F.Shelf.rest c.args.shelf.now)
    (g.F.Shelf.rest c.read_setup.new.shelf) c.in_ok-setup.setup c.in_ok-setup.ensures.read packets
    (omega (arith, most, c.if-command-most.true)))

pub returns-in_err-filling-clause-ends : goal.returns-in_err-filling-clause-ends
returns-in_err-filling-clause-ends g c =
    let p = err_from_is_err_and c.from_residual-in_err-filling.result c.from_residual-in_err-filling.ensures.1 in
    rw (p.1, p.2)
    (synth_stopped (g.F.Shelf.files c.args.shelf.now) (synth_by c.args.command.now) (g.F.Shelf.rest c.args.shelf.now)
    (g.F.Shelf.rest c.read_setup.new.shelf) c.in_ok-setup.setup c.in_ok-setup.ensures.read)

pub fill_drawn-requires-clause-attrs : goal.fill_drawn-requires-clause-attrs
fill_drawn-requires-clause-attrs g c κs within =
    let packets : draws c.in_ok-setup.setup.source ≡ true = search rules in
    ap (λ (s : ShapeValue). s.schema) c.in_ok-filling.ensures.shape
    ∙ c.in_ok-setup.ensures.lawful.schema Packet (draws_packets c.in_ok-setup.setup.source packets)

pub returns-in_err-fill_drawn-clause-ends : goal.returns-in_err-fill_drawn-clause-ends
returns-in_err-fill_drawn-clause-ends g c =
    let p = err_from_is_err_and c.from_residual-in_err-fill_drawn.result c.from_residual-in_err-fill_drawn.ensures.1 in
    rw (p.1, p.2)
    (synth_stopped (g.F.Shelf.files c.args.shelf.now) (synth_by c.args.command.now) (g.F.Shelf.rest c.args.shelf.now)
    (g.F.Shelf.rest c.read_setup.new.shelf) c.in_ok-setup.setup c.in_ok-setup.ensures.read)

pub final_of-requires-clause-filled : goal.final_of-requires-clause-filled
final_of-requires-clause-filled g c κs within =
    let command = synth_by c.args.command.now in
    let old = c.in_ok-filling.filling in
    let new = c.fill_drawn.new.filling in (
      command.sizes,
      0,
      drawn_rows command,
      c.requires.sizes,
      filled_on c.in_ok-setup.setup command.sizes 0 old new
          (drawn_rows command) c.in_ok-filling.ensures c.fill_drawn.ensures.keeps c.in_ok-fill_drawn.ensures.filled,
    )

pub final_of-requires-clause-few : goal.final_of-requires-clause-few
final_of-requires-clause-few g c κs within =
    let command = synth_by c.args.command.now in
    let old = c.in_ok-filling.filling in
    let new = c.fill_drawn.new.filling in
    let is = filled_on c.in_ok-setup.setup command.sizes 0 old new
    (drawn_rows command) c.in_ok-filling.ensures c.fill_drawn.ensures.keeps c.in_ok-fill_drawn.ensures.filled in
    let size = drawn_many command in
    let most = c.most-most.ensures in
    filled_few c.in_ok-setup.setup command.sizes 0 new (drawn_rows command) is (omega (arith, size, most, c.if-command-most.false))

pub returns-in-Ok-clause-ends : goal.returns-in-Ok-clause-ends
returns-in-Ok-clause-ends g c =
    let packets : draws c.in_ok-setup.setup.source ≡ true = search rules in
    let command = synth_by c.args.command.now in
    let old = c.in_ok-filling.filling in
    let new = c.fill_drawn.new.filling in
    let is = filled_on c.in_ok-setup.setup command.sizes 0 old new
    (drawn_rows command) c.in_ok-filling.ensures c.fill_drawn.ensures.keeps c.in_ok-fill_drawn.ensures.filled in
    let size = drawn_many command in
    let most = c.most-most.ensures in
    synth_sealed (g.F.Shelf.files c.args.shelf.now) command (g.F.Shelf.rest c.args.shelf.now)
    (g.F.Shelf.rest c.read_setup.new.shelf) c.in_ok-setup.setup c.in_ok-setup.ensures.read packets
    c.in-Ok.product.text.items c.in-Ok.product.seals.items (omega (arith, size, most, c.if-command-most.false))
    (c.in-Ok.ensures command.sizes (drawn_rows command) c.requires.sizes is)

pub returns-clause-ends : goal.returns-clause-ends
returns-clause-ends g c =
    let packets : draws c.in_ok-setup.setup.source ≡ true = search rules in
    let command = synth_by c.args.command.now in
    let old = c.in_ok-filling.filling in
    let new = c.fill_drawn.new.filling in
    let is = filled_on c.in_ok-setup.setup command.sizes 0 old new
    (drawn_rows command) c.in_ok-filling.ensures c.fill_drawn.ensures.keeps c.in_ok-fill_drawn.ensures.filled in
    let size = drawn_many command in
    let most = c.most-most.ensures in
    rw c.halt.ensures (synth_unmade (g.F.Shelf.files c.args.shelf.now) command (g.F.Shelf.rest c.args.shelf.now) (g.F.Shelf.rest c.read_setup.new.shelf)
    c.in_ok-setup.setup c.in_ok-setup.ensures.read packets
    c.in-Err.why (omega (arith, size, most, c.if-command-most.false)) (c.in-Err.ensures command.sizes (drawn_rows command) c.requires.sizes is))

pub returns-clause-cause : goal.returns-clause-cause
returns-clause-cause g c =
    rw c.halt.ensures
    (record { later = c.in_ok-setup.ensures.cause.later; failed = λ e. absurd (unmade_unfailed c.args.command.now.sizes.nodes c.in-Err.why e) })
