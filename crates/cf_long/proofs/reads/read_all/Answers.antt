use Rattle.std.proofs.Common.{[], ◌∙◌, ap, refl, sym}
use Rattle.cf_row.specs.Schema6.{attrs_by}
use Rattle.cf_row.specs.declared.packet6.PacketSchema.{PacketSchema}
use Rattle.cf_long.proofs.reads.read_all.Goals as goal

pub loop-made-init : goal.loop-made-init
loop-made-init g c =
    let reads = c.in_ok-ahead.ensures.ahead in
    let series = c.in_ok-ahead.ensures.series in record {
      read = record {
        rows = [];
        is = c.requires.long;
        behind = reads.behind [] c.requires.begun;
        kind = c.requires.kind ∙ ap (λ (s : PacketSchema). attrs_by s) (sym series.schema);
        fit = reads.fit;
        few = reads.few;
      };
      series = series;
      keeps = record { kept = refl; shape = refl; plan = refl };
      files = c.in_ok-ahead.ensures.files;
      later = c.in_ok-ahead.ensures.cause.later;
    }
