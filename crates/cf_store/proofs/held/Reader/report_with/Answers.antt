use Rattle.std.proofs.Common.{◌≡◌, IfOk, refl, subst}
use Rattle.std.specs.Arc.{arc_value}
use Rattle.cf_store.specs.Ends.{seen_of}
use Rattle.cf_store.specs.Seen.{seen_text}
use Rattle.cf_store.specs.declared.held.Shared.{Shared}
use Rattle.cf_store.proofs.Aware.{walked_aware}
use Rattle.cf_store.proofs.Reported.{reports_with}
use Rattle.cf_store.proofs.held.Reader.report_with.Goals as goal

pub invariant_of-self : goal.invariant_of-self
invariant_of-self c = record {
  aware = walked_aware (arc_value c.args.self.now.of).log c.args.self.now.pass c.report_seen.new.pass c.args.self.now.aware c.report_seen.ensures.walked.0;
}

pub returns : goal.returns
returns c =
    let m = c.args.self.now in
    let ms = c.args.rest.now in
    let r = c.report_seen.result in
    reports_with m _ ms c.report_seen.new.rest r
    record { first = record { of = refl; words = refl; walked = c.report_seen.ensures.walked.0 }; others = c.report_seen.ensures.walked.1 }
    (subst (λ (s : Shared). IfOk r (λ text. text.items ≡ seen_text s.log.shape s.setup (seen_of s m.pass ms))) c.deref.ensures c.report_seen.ensures.text)
