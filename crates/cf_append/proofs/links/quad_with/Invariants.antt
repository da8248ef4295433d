use Rattle.cf_shape.specs.Lanes.{key_of}
use Rattle.cf_append.specs.Linking.{key_path}
use Rattle.cf_append.proofs.links.quad_with.Given as goal

abbrev pub ghost-cell_quad : goal.ghost-cell_quad
ghost-cell_quad g a = key_path a.log.now.shape a.lane (key_of a.log.now.shape a.lane a._row.now)
