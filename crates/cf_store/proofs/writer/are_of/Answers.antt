use Rattle.std.proofs.Common.{◌∙◌, map, sym}
use Rattle.std.proofs.lemmas.List.{length-map}
use Rattle.cf_row.specs.declared.row.Value.TheVariants.{Num}
use Rattle.cf_row.proofs.Fitting.{values_apart}
use Rattle.cf_store.proofs.writer.are_of.Goals as goal

pub returns-then-attrs-numbers : goal.returns-then-attrs-numbers
returns-then-attrs-numbers c =
    sym (values_apart c.args.attrs.now (map (λ n. Num n) c.args.numbers.now)
    (λ same. c.if-attrs-numbers.true (same ∙ length-map c.args.numbers.now (λ n. Num n))))
