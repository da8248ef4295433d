use Rattle.std.proofs.Common.{string_bytes}
use Rattle.cf_rounds.proofs.Told.{numbers_are}
use Rattle.cf_rounds.proofs.body.push_numbers.Goals as goal

pub returns : goal.returns
returns c =
    numbers_are c.args.from c.args.places.now (string_bytes c.args.text.now) (string_bytes c.write.new.self) (string_bytes c.push_each.new.text)
    c.in_ok-write.ensures.bytes c.in_ok-push_each.ensures
