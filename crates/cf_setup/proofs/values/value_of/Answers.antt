use Rattle.cf_filter.proofs.ValueLaws.{value_found}
use Rattle.cf_setup.proofs.Taken.{value_is}
use Rattle.cf_setup.proofs.values.value_of.Goals as goal

pub returns : goal.returns
returns c = value_is c.args.kind c.args.text.now c.read_value.result c.read_value.ensures.found c.read_value.ensures.none
    (value_found c.args.kind c.args.text.now)
