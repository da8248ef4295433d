use Rattle.std.proofs.Common.{◌≡◌, List, sym, ap, subst, ◌∙◌}
use Rattle.cf_row.specs.declared.row.Entry.{Entry}
use Rattle.cf_shape.specs.Lanes.{ShapeValue}
use Rattle.cf_plain.specs.Asks.{rows_in}
use Rattle.cf_plain.specs.Segments.{finding_in}
use Rattle.cf_query.specs.Stretches.{IsStretch, stretch}
use Rattle.cf_table.specs.Moves.{IsReading}
use Rattle.cf_table.specs.Values.{LogValue, PassValue}
use Rattle.cf_scan.proofs.Joining.{found_ok, log_at, place_low}
use Rattle.cf_scan.proofs.parts.Part.scan_counted.Goals as goal

pub finding_stretch-found-requires-clause-reads : goal.finding_stretch-found-requires-clause-reads
finding_stretch-found-requires-clause-reads g c =
    let part = c.requires.part in
    let place = c.args.self.now.place in
    let one = c.index-logs-self.result in
    let same = log_at c.args.logs.now place one part.log part.at (place_low c.args.logs.now place part.log part.at) c.index-logs-self.is in
    subst (λ (log : LogValue). IsReading log c.args.self.now.reader) (sym same) part.reads

pub returns : goal.returns
returns g c =
    let part = c.requires.part in
    let self = c.args.self.now in
    let shape = c.args.shape.now in
    let ask = c.args.ask.now in
    let one = c.index-logs-self.result in
    let same = log_at c.args.logs.now self.place one part.log part.at (place_low c.args.logs.now self.place part.log part.at) c.index-logs-self.is in
    let shape_is : (one.now).shape ≡ shape = ap (λ (log : LogValue). log.shape) same ∙ part.shape_is in
    let seen = ap (λ (h : PassValue). (h.view).seen) c.finding_stretch-found.ensures.looked.only in
    record {
      scanned = record {
        is = record {
          within = subst (IsStretch self.from self.to) (sym seen) part.within;
          found = found_ok c.finding_stretch-found.result c.ok.result _ _ c.finding_stretch-found.ensures.found c.ok.ensures.value
              (λ f is. is ∙ (ap (λ (h : ShapeValue). finding_in h ask (rows_in (stretch self.from self.to (self.reader.view).seen))) shape_is
              ∙ ap (λ (es : List Entry). finding_in shape ask (rows_in (stretch self.from self.to es))) (sym seen)));
        };
        entries = ap (stretch self.from self.to) seen;
      };
    }
