use Rattle.std.proofs.Common.{◌≡◌, ◌*◌}
use Rattle.cf_shape.specs.Places.{sizes_of, word_total}
use Rattle.cf_store.specs.Opens.{sized}
use Rattle.cf_store.proofs.Opened.{by_setup}
use Rattle.cf_store.proofs.log.measure.Goals as goal

pub returns : goal.returns
returns c =
    by_setup (λ setup bytes. bytes ≡ 8 * word_total (sizes_of (sized setup c.args.sizes))) c.args.text.now c.args.sizes c.in_ok-setup.setup c.bytes_of.result
    c.in_ok-setup.ensures c.bytes_of.ensures.ok c.bytes_of.ensures.refused
