use Rattle.std.proofs.Common.{ℕ, List, ◌++◌, codes, string_bytes, ap, ◌∙◌}
use Rattle.std.proofs.lemmas.List.{append_assoc}
use Rattle.std.proofs.lemmas.Result.{on_ok_weaker}
use Rattle.std.specs.Int.{w64, to_be_bytes}
use Rattle.std.specs.List.{flat_map}
use Rattle.cf_report.specs.Dump.{byte_text}
use Rattle.cf_report.proofs.value.push_half.Goals as goal

pub returns : goal.returns
returns c =
    let digits : List ℕ = flat_map byte_text (to_be_bytes w64 c.args.half) in
    on_ok_weaker c.push_bytes.result (λ pushed. pushed
    ∙ ap (λ (bytes : List ℕ). string_bytes c.push_str.new.self ++ flat_map byte_text bytes) c.to_be_bytes.ensures
    ∙ ap (λ (front : List ℕ). front ++ digits) c.in_ok-push_str.ensures.bytes
    ∙ append_assoc (string_bytes c.args.text.now) (codes "0x") digits) c.push_bytes.ensures
