use Rattle.std.proofs.Common.{◌≡◌, ◌<◌, ◌++◌, ◌-◌, length, take, ap, ◌∙◌, is_some, false, rules}
use Rattle.cf_pcapng.specs.Blocks.{head_of}
use Rattle.cf_pcapng.specs.Reading.{size_by}
use Rattle.cf_pcapng.proofs.Passing.{missing_is}
use Rattle.cf_pcapng.proofs.passed.missing.Goals as goal

pub returns : goal.returns
returns c =
    let held = c.args.held.now in
    let more = c.args.more.now in
    let none : is_some c.args.passed ≡ false = search rules in
    let some : 0 < length held = search rules in
    let first : c.cut_at.result.0.now ≡ take (12 - length held) more = search rules in
    let seen : c.deref.result.now ≡ take 12 held ++ take (12 - length held) more = c.deref.ensures.value ∙ c.in_ok-seen.ensures
    ∙ ap (λ xs. xs ++ c.cut_at.result.0.now) c.cut_at-2.ensures.first ∙ ap (λ xs. take 12 held ++ xs) first in
    let size : c.saturating_sub-3.result ≡ size_by (head_of c.args.section c.deref.result.now) - length held = search rules in
    missing_is c.args.section c.args.passed held more c.deref.result.now c.saturating_sub-3.result none some seen size
