use Rattle.std.proofs.Common.{◌∙◌, List, ap, sym, subst, rules}
use Rattle.cf_shape.specs.Lanes.{ShapeValue}
use Rattle.cf_law.specs.Shapes.{layout}
use Rattle.cf_table.specs.Values.{PassValue}
use Rattle.cf_table.specs.Moves.{AreAll}
use Rattle.cf_log_tests.proofs.Writers.{forked_first, appended, all_one, home_same}
use Rattle.cf_log_tests.proofs.tests.two_readers.Goals as goal

pub append-requires : goal.append-requires
append-requires g c =
    let o = c.in_ok-log.ensures in
    let ready = forked_first c.in_ok-shape.shape c.in_ok-log.log c.in_ok-log.root c.fork-first.new.root c.fork-second.new.root c.deal.new.root
    c.first_of-writer.result c.in_ok-deal.field-0.items c.first_of-writer.ensures.0 o.shape o.root c.fork-first.ensures.root c.fork-second.ensures.root
    c.in_ok-deal.ensures.dealt c.first_of-writer.ensures.1 in
    record { may = record { of = ready.of; fits = search rules; rest = ready.rest } }

pub gather-requires-clause-all : goal.gather-requires-clause-all
gather-requires-clause-all g c =
    let log = c.in_ok-log.log in
    let o = c.in_ok-log.ensures in
    let e = c.append.ensures.appended in
    let ready = forked_first c.in_ok-shape.shape log c.in_ok-log.root c.fork-first.new.root c.fork-second.new.root c.deal.new.root c.first_of-writer.result
    c.in_ok-deal.field-0.items c.first_of-writer.ensures.0 o.shape o.root c.fork-first.ensures.root c.fork-second.ensures.root c.in_ok-deal.ensures.dealt
    c.first_of-writer.ensures.1 in
    let one = ap (λ (s : ShapeValue). s.writers) o.shape ∙ c.in_ok-shape.ensures in
    let all = all_one log c.append.new.pass one
    (appended log 0 c.in_ok-sent.sent c.first_of-writer.result c.append.new.pass c.append.result ready e.goes_on e.rest e.answer) in
    subst (λ (hs : List PassValue). AreAll log hs) (sym c.in_ok-vec.ensures.items) all

pub close-requires-clause-home : goal.close-requires-clause-home
close-requires-clause-home g c =
    home_same (layout c.in_ok-log.log.shape) (c.gather.new.root).view (c.fold_back-2.new.root).view (c.fold_back-2.ensures.books ∙ c.fold_back.ensures.books)
    ((c.gather.ensures).settled).home
