use Rattle.std.proofs.Common.{rules, ◌≡◌, ◌∙◌, ◌++◌, ◌∷◌, [], codes, decimal, string_bytes}
use Rattle.std.specs.List.{insert_slice}
use Rattle.cf_report.proofs.Listed.{headed}
use Rattle.cf_report.proofs.listing.Listing.into_text.Goals as goal

pub returns : goal.returns
returns c = λ attrs rows is.
    headed attrs rows (string_bytes c.args.self.lines) (string_bytes c.in_ok-head.head) c.into_bytes.result.items c.args.self.count
    (search rules) (search rules) is.lines is.count
