use Rattle.std.proofs.Common.{◌≡◌, ◌+◌, ◌++◌, ◌∷◌, [], suc, ℕ, List, ap, ap₂, sym, ◌∙◌, arith, rules}
use Rattle.cf_law.specs.Events.{plain_at}
use Rattle.cf_law.specs.Shapes.{layout}
use Rattle.cf_row.specs.declared.row.Entry.{Entry}
use Rattle.cf_pass.proofs.Books.{table_none, table_more}
use Rattle.cf_core.proofs.world.World.entries.Goals as goal

pub loop-offset-init : goal.loop-offset-init
loop-offset-init c =
    search (rules, sym (table_none (λ o. (layout c.args.self.now.shape).reads (plain_at (layout c.args.self.now.shape) c.args.self.now.words o))))

pub loop-offset-preserved : goal.loop-offset-preserved
loop-offset-preserved c =
    let sh = layout c.args.self.now.shape in
    let f : ℕ → Entry = λ o. sh.reads (plain_at sh c.args.self.now.words o) in
    let entry : c.in_ok-entry.field-0 ≡ f c.loop-offset.offset = search (rules, c.in_ok-entry.ensures) in
    let items : c.push.new.self.items ≡ c.loop-offset.entries.items ++ c.in_ok-entry.field-0 ∷ [] = search (rules, c.in_ok-push.ensures.items) in
    let next : suc c.loop-offset.offset ≡ c.loop-offset.offset + 1 = omega arith in
    items ∙ (ap₂ (λ (xs : List Entry) (e : Entry). xs ++ e ∷ []) c.loop-offset.invariant entry
    ∙ (sym (table_more f c.loop-offset.offset) ∙ ap (Rattle.cf_law.specs.Events.tabulated f) next))
