use Rattle.std.proofs.Common.{◌∙◌, sym}
use Rattle.cf_handles.proofs.Called.{if_lent, if_not_lent}
use Rattle.cf_handles.proofs.spans.confluo_span_words.Goals as goal

pub returns-in_default-clause-same : goal.returns-in_default-clause-same
returns-in_default-clause-same c = if_not_lent c.get_mut.result c.in_default.is c.get_mut.follows.holds-at-none ∙ sym c.in_default.ensures.value

pub returns-clause-same : goal.returns-clause-same
returns-clause-same c = if_lent c.get_mut.result c.in-Some.span c.in-Some.is (c.get_mut.follows.holds c.in-Some.span.now) ∙ sym c.in-Some.ensures.value
