use Rattle.std.proofs.Common.{◌∙◌, ap, sym}
use Rattle.cf_table.specs.Values.{PassValue}
use Rattle.cf_table.proofs.Reading.{looked_then, taken_more}
use Rattle.cf_table.proofs.reads.entries_counted.Goals as goal

pub loop-offset-preserved : goal.loop-offset-preserved
loop-offset-preserved g c =
    let v = c.loop-offset.invariant in
    record {
      read = taken_more c.args.root.now.view.seen c.loop-offset.entries.items c.push.new.self.items c.loop-offset.offset c.in_ok-entry.entry v.read
          (ap (λ (h : PassValue). Rattle.std.proofs.Common.slice_get (h.view).seen c.loop-offset.offset) (sym v.looked) ∙ c.in_ok-entry.ensures.entry)
          c.in_ok-push.ensures.items;
      looked = looked_then c.args.root.now c.loop-offset.root c.load_entry.new.pass v.looked c.load_entry.ensures.looked;
    }
