use Rattle.std.proofs.Common.{◌≡◌, ◌++◌, string_bytes}
use Rattle.std.specs.List.{flat_map, range_with_len}
use Rattle.cf_fill.specs.Work.{shape_for}
use Rattle.cf_run.specs.Hosts.{host_lines_at, rows_covered}
use Rattle.cf_run.proofs.snapshot.push_hosts.Given as goal

abbrev pub invariant-loop-host : goal.invariant-loop-host
invariant-loop-host l =
    string_bytes l.text ≡ string_bytes l.fn.text ++ flat_map
    (host_lines_at (shape_for l.log.setup.now l.log.sizes) l.log.setup.now l.taken.cut.items (rows_covered l.hosts.courses.items) l.hosts.ends.items)
    (range_with_len 0 l.host)
