use Rattle.std.proofs.Common.{List, sym, subst}
use Rattle.cf_table.specs.Values.{PassValue}
use Rattle.cf_store.specs.Homes.{MayCome}
use Rattle.cf_store.proofs.way.Way.send.Goals as goal

pub push_reserved-requires : goal.push_reserved-requires
push_reserved-requires c = (c.self.invariant, subst (λ (w : List PassValue). MayCome w c.args.pass) (sym c.self.view_is) c.requires)
