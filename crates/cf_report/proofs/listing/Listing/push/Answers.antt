use Rattle.std.proofs.Common.{◌≡◌, ◌++◌, ◌∙◌, List, ℕ, ap, sym, arith, length-append}
use Rattle.std.specs.List.{flat_map}
use Rattle.std.proofs.lemmas.Grind.{flat_map-append}
use Rattle.cf_report.specs.Dump.{row_line}
use Rattle.cf_report.proofs.listing.Listing.push.Goals as goal

pub returns-clause-listed : goal.returns-clause-listed
returns-clause-listed c = λ before is.
    let attrs = c.args.schema.now in
    let rows = c.args.rows.now in
    let counted = is.count in
    let sum = length-append before rows in
    record {
      lines = c.in_ok-push_rows.ensures ∙ ap (λ (lines : List ℕ). lines ++ flat_map (row_line attrs) rows) is.lines
          ∙ sym (flat_map-append (row_line attrs) before rows);
      count = omega (arith, counted, sum);
    }
