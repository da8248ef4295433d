use Rattle.std.proofs.Common.{◌%◌, ap, sym, ◌∙◌}
use Rattle.cf_shape.specs.Lanes.{ShapeValue}
use Rattle.cf_shape.specs.Places.{place_of}
use Rattle.cf_shape.specs.Places.WordName.{root_child}
use Rattle.cf_law.proofs.Nibbles.{length-nibbles}
use Rattle.cf_append.proofs.Pathing.{first_child}
use Rattle.cf_append.proofs.paths.first_node.Goals as goal

pub take_child-requires : goal.take_child-requires
take_child-requires g c κs within =
    let at = c.args.at in (
      within,
      (
        c.requires.ready,
        (
          first_child c.args.log.now.shape c.args.pass.now.view at c.requires.prefix c.requires.one,
          (
            c.place_root-place.ensures ∙ ap (λ (s : ShapeValue). place_of s (root_child at.lane (at.front % 16))) c.shape.ensures.shape,
            sym (length-nibbles at.level at.front),
          ),
        ),
      ),
    )
