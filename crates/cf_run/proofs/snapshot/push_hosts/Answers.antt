use Rattle.std.proofs.Common.{◌∙◌, ◌<◌, ◌++◌, ℕ, List, None, length, map, take, string_bytes, ap, arith}
use Rattle.std.proofs.lemmas.List.{get_or_read, length-map}
use Rattle.cf_fill.specs.Work.{shape_for}
use Rattle.cf_report.specs.Snapshot.{rows_of_cut}
use Rattle.cf_report.specs.Tags.{bare_entry}
use Rattle.cf_row.specs.Row.{RowValue}
use Rattle.cf_run.specs.Hosts.{host_lines_at, rows_covered}
use Rattle.cf_snapshot.specs.Courses.{CourseValue}
use Rattle.cf_row.proofs.Ranges.{step_range}
use Rattle.cf_run.proofs.Taken.{answers_within, host_answered, host_lines, rows_front}
use Rattle.cf_run.proofs.snapshot.push_hosts.Goals as goal

pub push_host_by_tags-requires-clause-places : goal.push_host_by_tags-requires-clause-places
push_host_by_tags-requires-clause-places c =
    let setup = c.args.log.now.setup.now in
    let shape = shape_for setup c.args.log.now.sizes in
    let courses = c.args.hosts.now.courses.items in
    let taken = c.args.taken.now in
    let host = c.loop-host.host in
    let there : host < length courses = omega (arith, c.loop-host-test.true, c.len-host-end.ensures) in
    let long = length-map courses (λ (x : CourseValue). x.task.rows) in
    let rows = rows_of_cut taken.cut.items (rows_covered courses) host in
    let cuts = c.requires.told.cuts in
    let count = get_or_read taken.cut.items host c.index-in-loop-host.result.now (omega (arith, there, long, cuts)) c.index-in-loop-host.ensures 0 in
    let tags = c.in_ok-tags.ensures ∙ ap (λ (rs : List RowValue). map (λ row. bare_entry row.num 0) rs)
    (ap (λ (n : ℕ). take n c.rows-rows.result.now) count
    ∙ rows_front taken.cut.items courses host c.index.result.now c.rows-rows.result.now there c.index.ensures c.rows-rows.ensures) in
    answers_within shape rows setup.asks c.deref.result.now (length c.in_ok-tags.tags)
    (c.deref.ensures.value ∙ ap (λ given. given.items) c.index-in-loop-host-2.ensures
    ∙ c.requires.told.each host c.index-in-loop-host-2.result.now (omega (arith, there, long)))
    (ap (λ tags. length tags) tags ∙ length-map rows (λ row. bare_entry row.num 0))

pub loop-host-preserved : goal.loop-host-preserved
loop-host-preserved c =
    let setup = c.args.log.now.setup.now in
    let shape = shape_for setup c.args.log.now.sizes in
    let courses = c.args.hosts.now.courses.items in
    let ends = c.args.hosts.now.ends.items in
    let cut = c.args.taken.now.cut.items in
    let host = c.loop-host.host in
    let there : host < length courses = omega (arith, c.loop-host-test.true, c.len-host-end.ensures) in
    let size = c.requires.size in
    let long = length-map courses (λ (x : CourseValue). x.task.rows) in
    let rows = rows_of_cut cut (rows_covered courses) host in
    let cuts = c.requires.told.cuts in
    let count = get_or_read cut host c.index-in-loop-host.result.now (omega (arith, there, long, cuts)) c.index-in-loop-host.ensures 0 in
    let tags = c.in_ok-tags.ensures ∙ ap (λ (rs : List RowValue). map (λ row. bare_entry row.num 0) rs)
    (ap (λ (n : ℕ). take n c.rows-rows.result.now) count
    ∙ rows_front cut courses host c.index.result.now c.rows-rows.result.now there c.index.ensures c.rows-rows.ensures) in
    let answers = c.deref.ensures.value ∙ ap (λ given. given.items) c.index-in-loop-host-2.ensures
    ∙ c.requires.told.each host c.index-in-loop-host-2.result.now (omega (arith, there, long)) in
    let told = c.in_ok-push_host_by_tags.ensures
    ∙ ap (λ (part : List ℕ). string_bytes c.loop-host.text ++ part) (host_answered shape rows setup host c.in_ok-tags.tags c.deref.result.now tags answers) in
    let end = get_or_read ends host c.index-in-loop-host-3.result.now (omega (arith, there, size)) c.index-in-loop-host-3.ensures None in
    step_range (host_lines_at shape setup cut (rows_covered courses) ends) host (string_bytes c.args.text.now) (string_bytes c.loop-host.text)
    (string_bytes c.push_truncated.new.text) c.loop-host.invariant
    (host_lines shape setup cut (rows_covered courses) ends host (string_bytes c.loop-host.text) (string_bytes c.push_host_by_tags.new.text)
    (string_bytes c.push_truncated.new.text) c.index-in-loop-host-3.result.now told c.in_ok-push_truncated.ensures end)
