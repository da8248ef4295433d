use Rattle.std.proofs.Common.{◌≡◌, ◌∙◌, [], rules, string_bytes}
use Rattle.cf_long.proofs.Texts.{final_is}
use Rattle.cf_long.proofs.text.final_text.Goals as goal

pub returns : goal.returns
returns c shape rows numbered are =
    let t₃ = string_bytes c.push_alerts.new.text in
    let out : c.into_bytes.result.items ≡ t₃ = search rules in
    let none : string_bytes c.new-text.result ≡ [] = search rules in
    out
    ∙ final_is shape rows numbered c.args.setup.now c.args.answers.now (string_bytes c.new-text.result) (string_bytes c.push_count.new.text)
    (string_bytes c.push_asks.new.text) t₃ c.deref.result.now c.deref-2.result.now are c.deref.ensures.value c.deref-2.ensures.value none
    c.in_ok-push_count.ensures c.in_ok-push_asks.ensures c.in_ok-push_alerts.ensures
