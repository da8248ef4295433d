use Rattle.std.proofs.Common.{◌≡◌, ◌≤◌, take, Option, Result, Ok, Err, ℕ, sym, ap, subst, ◌∙◌, arith}
use Rattle.cf_pcap.specs.declared.form.Order.{Order}
use Rattle.cf_pcapng.specs.declared.head.BlockHead.TheVariants.{Short, Flawed, Stands}
use Rattle.cf_pcapng.specs.Blocks.{least, head_of, content_of}
use Rattle.cf_pcapng.specs.Position.{interfaces_of, state_of}
use Rattle.cf_pcapng.specs.Reading.{LiesIn, block_next}
use Rattle.cf_pcapng.proofs.Heads.{standing, at_least, least_12}
use Rattle.cf_pcapng.proofs.Nexts.{next_by_head, next_part, next_whole}
use Rattle.cf_pcapng.proofs.blocks.next_of.Goals as goal

pub returns-in-Short-clause-value : goal.returns-in-Short-clause-value
returns-in-Short-clause-value c =
    let bytes = c.args.bytes.now in
    let head : head_of c.args.position.now.order bytes ≡ Short = sym (c.in-Short.ensures ∙ ap (λ (o : Option Order). head_of o bytes) c.order.ensures) in
    sym (next_by_head c.args.scope (state_of c.args.position.now) bytes Short head)

pub returns-in-Flawed-clause-value : goal.returns-in-Flawed-clause-value
returns-in-Flawed-clause-value c =
    let bytes = c.args.bytes.now in
    let head : head_of c.args.position.now.order bytes ≡ Flawed c.in-Flawed.flaw =
    sym (c.in-Flawed.ensures ∙ ap (λ (o : Option Order). head_of o bytes) c.order.ensures) in
    sym (next_by_head c.args.scope (state_of c.args.position.now) bytes (Flawed c.in-Flawed.flaw) head)

pub returns-then-bytes-total-clause-value : goal.returns-then-bytes-total-clause-value
returns-then-bytes-total-clause-value c =
    let bytes = c.args.bytes.now in
    let at = c.in-Stands in
    let head : head_of c.args.position.now.order bytes ≡ Stands at.order at.kind at.total =
    sym (at.ensures ∙ ap (λ (o : Option Order). head_of o bytes) c.order.ensures) in
    sym (next_part c.args.scope (state_of c.args.position.now) bytes at.order at.kind at.total head (omega arith))

pub content_of-requires-clause-least : goal.content_of-requires-clause-least
content_of-requires-clause-least c =
    let bytes = c.args.bytes.now in
    let at = c.in-Stands in
    let head : head_of c.args.position.now.order bytes ≡ Stands at.order at.kind at.total =
    sym (at.ensures ∙ ap (λ (o : Option Order). head_of o bytes) c.order.ensures) in
    let size : least at.kind ≤ at.total = at_least at.kind at.total (standing c.args.position.now.order bytes at.order at.kind at.total head).lawful in
    omega (arith, size, c.split_at.ensures.front_len)

pub returns-in-Ok-clause-value : goal.returns-in-Ok-clause-value
returns-in-Ok-clause-value c =
    let bytes = c.args.bytes.now in
    let at = c.in-Stands in
    let head : head_of c.args.position.now.order bytes ≡ Stands at.order at.kind at.total =
    sym (at.ensures ∙ ap (λ (o : Option Order). head_of o bytes) c.order.ensures) in
    let content : Ok c.in-Ok.content ≡ content_of c.args.scope (interfaces_of c.args.position.now.listed) at.order at.kind (take at.total bytes) =
    c.in-Ok.ensures.value ∙ ap (λ l. content_of c.args.scope (interfaces_of l) at.order at.kind c.split_at.result.0.now) c.interfaces.ensures
    ∙ ap (λ xs. content_of c.args.scope (interfaces_of c.args.position.now.listed) at.order at.kind xs) c.split_at.ensures.front in
    ap (λ (x : Result _ _). block_next at.total x) content
    ∙ sym (next_whole c.args.scope (state_of c.args.position.now) bytes at.order at.kind at.total head (omega arith))

pub returns-in-Ok-clause-within : goal.returns-in-Ok-clause-within
returns-in-Ok-clause-within c =
    let bytes = c.args.bytes.now in
    let at = c.in-Stands in
    let head : head_of c.args.position.now.order bytes ≡ Stands at.order at.kind at.total =
    sym (at.ensures ∙ ap (λ (o : Option Order). head_of o bytes) c.order.ensures) in
    let size : least at.kind ≤ at.total = at_least at.kind at.total (standing c.args.position.now.order bytes at.order at.kind at.total head).lawful in
    let some : 12 ≤ least at.kind = least_12 at.kind in
    (omega (arith, size, some), omega arith, subst (λ (n : ℕ). LiesIn n c.in-Ok.content) c.split_at.ensures.front_len c.in-Ok.ensures.fits)

pub returns-in-Err-clause-value : goal.returns-in-Err-clause-value
returns-in-Err-clause-value c =
    let bytes = c.args.bytes.now in
    let at = c.in-Stands in
    let head : head_of c.args.position.now.order bytes ≡ Stands at.order at.kind at.total =
    sym (at.ensures ∙ ap (λ (o : Option Order). head_of o bytes) c.order.ensures) in
    let content : Err c.in-Err.flaw ≡ content_of c.args.scope (interfaces_of c.args.position.now.listed) at.order at.kind (take at.total bytes) =
    c.in-Err.ensures.value ∙ ap (λ l. content_of c.args.scope (interfaces_of l) at.order at.kind c.split_at.result.0.now) c.interfaces.ensures
    ∙ ap (λ xs. content_of c.args.scope (interfaces_of c.args.position.now.listed) at.order at.kind xs) c.split_at.ensures.front in
    ap (λ (x : Result _ _). block_next at.total x) content
    ∙ sym (next_whole c.args.scope (state_of c.args.position.now) bytes at.order at.kind at.total head (omega arith))
