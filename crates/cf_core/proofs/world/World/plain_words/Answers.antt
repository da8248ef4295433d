use Rattle.std.proofs.Common.{◌≡◌, ◌+◌, ℕ, List, take, drop, ap, ap₂, sym, ◌∙◌, arith}
use Rattle.cf_law.specs.Shapes.{layout}
use Rattle.cf_row.specs.Words.{word_count}
use Rattle.cf_core.proofs.Tables.{plain_range, plain_room}
use Rattle.cf_core.proofs.world.World.plain_words.Goals as goal

pub part-requires : goal.part-requires
part-requires c =
    let room = plain_room c.args.self.now c.args.offset c.words.ensures.lawful c.requires in
    let count : c.word_count-count.result ≡ word_count c.args.self.now.shape.schema = c.word_count-count.ensures.count
    ∙ (ap word_count c.schema.ensures ∙ ap (λ (s : Rattle.cf_shape.specs.Lanes.ShapeValue). word_count s.schema) c.shape.ensures.shape) in
    rw c.words.ensures.words (omega (arith, room, count, c.ticket_place-start.ensures.at))

pub returns : goal.returns
returns c =
    let room = plain_room c.args.self.now c.args.offset c.words.ensures.lawful c.requires in
    let count : c.word_count-count.result ≡ word_count c.args.self.now.shape.schema = c.word_count-count.ensures.count
    ∙ (ap word_count c.schema.ensures ∙ ap (λ (s : Rattle.cf_shape.specs.Lanes.ShapeValue). word_count s.schema) c.shape.ensures.shape) in
    c.part.ensures ∙ (ap (λ (ws : List ℕ). take (c.word_count-count.result + 1) (drop c.ticket_place-start.result ws)) c.words.ensures.words
    ∙ (ap₂ (λ (n s : ℕ). take (n + 1) (drop s c.args.self.now.words)) count c.ticket_place-start.ensures.at
    ∙ sym (plain_range (layout c.args.self.now.shape) c.args.self.now.words c.args.offset (word_count c.args.self.now.shape.schema + 1) room)))
