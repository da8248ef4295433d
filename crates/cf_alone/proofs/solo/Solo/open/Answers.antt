use Rattle.std.proofs.Common.{◌≡◌, ◌∙◌, Some, slice_get, ap, sym, arith}
use Rattle.std.proofs.lemmas.Option.{slice_get-get_or}
use Rattle.cf_shape.specs.Lanes.{ShapeValue}
use Rattle.cf_table.specs.Values.{PassValue, book_of}
use Rattle.cf_alone.proofs.Alone.{empty_by, opened, opened_count, opened_seen, opened_used}
use Rattle.cf_alone.proofs.solo.Solo.open.Goals as goal

pub swap_remove-pass-requires : goal.swap_remove-pass-requires
swap_remove-pass-requires c =
    let o = c.in_ok-log.ensures in
    let view = ap (λ (h : PassValue). h.view) o.root in
    let many = opened_count c.in_ok-log.log c.in_ok-log.root c.deal.new.root c.in_ok-passes.passes.items view c.in_ok-passes.ensures.dealt in
    let one = ap (λ (s : ShapeValue). s.writers) o.shape ∙ c.requires.one in
    omega (arith, many, one)

pub invariant_of-result : goal.invariant_of-result
invariant_of-result c =
    let o = c.in_ok-log.ensures in
    let items = c.in_ok-passes.passes.items in
    let pass = c.swap_remove-pass.result in
    let view = ap (λ (h : PassValue). h.view) o.root in
    let one = ap (λ (s : ShapeValue). s.writers) o.shape ∙ c.requires.one in
    let many = opened_count c.in_ok-log.log c.in_ok-log.root c.deal.new.root items view c.in_ok-passes.ensures.dealt in
    let at : slice_get items 0 ≡ Some pass = slice_get-get_or items 0 pass (omega (arith, many, one))
    ∙ ap (λ (h : PassValue). Some h) (sym c.swap_remove-pass.ensures.value) in
    record {
      alone = opened c.in_ok-log.log c.in_ok-log.root c.deal.new.root pass items one view c.in_ok-passes.ensures.dealt at;
      near = c.new.ensures (c.in_ok-log.log).shape pass.view;
    }

pub returns : goal.returns
returns c =
    let o = c.in_ok-log.ensures in
    let items = c.in_ok-passes.passes.items in
    let pass = c.swap_remove-pass.result in
    let view = ap (λ (h : PassValue). h.view) o.root in
    let one = ap (λ (s : ShapeValue). s.writers) o.shape ∙ c.requires.one in
    let many = opened_count c.in_ok-log.log c.in_ok-log.root c.deal.new.root items view c.in_ok-passes.ensures.dealt in
    let at : slice_get items 0 ≡ Some pass = slice_get-get_or items 0 pass (omega (arith, many, one))
    ∙ ap (λ (h : PassValue). Some h) (sym c.swap_remove-pass.ensures.value) in
    empty_by (c.in_ok-log.log).shape c.args.shape (pass.view).seen (book_of pass.view).used o.shape
    (opened_seen c.in_ok-log.log c.in_ok-log.root c.deal.new.root pass items view c.in_ok-passes.ensures.dealt at)
    (opened_used c.in_ok-log.log c.in_ok-log.root c.deal.new.root pass items one view c.in_ok-passes.ensures.dealt at)
