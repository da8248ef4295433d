use Rattle.std.proofs.Common.{◌≡◌, ℕ, List, Some, None, ap₂, arith, ◌∙◌, rules}
use Rattle.cf_fold.specs.Quads.{quad_of}
use Rattle.cf_law.specs.Words.{spot, link_to_newest}
use Rattle.cf_law.specs.Passes.{Own}
use Rattle.cf_law.specs.Steps.{mine_chain}
use Rattle.cf_law.specs.Shapes.{layout, path_in}
use Rattle.cf_core.specs.Worlds.{amounts_with_row}
use Rattle.cf_core.proofs.Versions.{quad_few, quad_lawful, top_low, version_is_word, version_none}
use Rattle.cf_core.proofs.cells.version.Goals as goal

pub returns-in_default : goal.returns-in_default
returns-in_default c =
    let none : path_in c.args.shape.now c.args.row.now c.args.lane ≡ None = rw c.in_default.is at c.in_ok-path.ensures in
    version_none c.args.shape.now c.args.book.now c.args.row.now c.args.lane c.args.index none

pub cell_word-requires-clause-previous : goal.cell_word-requires-clause-previous
cell_word-requires-clause-previous c =
    let sh = layout c.args.shape.now in
    let s = spot c.args.lane c.in-Some.path.items in
    let previous : c.in_ok-previous.previous ≡ link_to_newest (mine_chain sh s c.args.book.now.mine) =
    (let g : c.in_ok-previous.previous ≡ link_to_newest (mine_chain sh (spot c.args.lane c.deref.result.now) c.mine.result.now) = search
    (rules, c.in_ok-previous.ensures.previous) in
    g ∙ ap₂ (λ (q : List ℕ) (xs : List Own). link_to_newest (mine_chain sh (spot c.args.lane q) xs)) c.deref.ensures.value c.mine.ensures) in
    let quad : c.in_ok-previous.quad ≡ quad_of (amounts_with_row c.args.shape.now c.args.lane c.args.row.now (mine_chain sh s c.args.book.now.mine)) =
    (let g : c.in_ok-previous.quad ≡ quad_of
    (amounts_with_row c.args.shape.now c.args.lane c.args.row.now (mine_chain sh (spot c.args.lane c.deref.result.now) c.mine.result.now)) =
    search (rules, c.in_ok-previous.ensures.quad) in
    g ∙ ap₂ (λ (q : List ℕ) (xs : List Own). quad_of
    (amounts_with_row c.args.shape.now c.args.lane c.args.row.now (mine_chain sh (spot c.args.lane q) xs))) c.deref.ensures.value c.mine.ensures) in
    omega (arith, previous, top_low sh s c.args.book.now.mine c.args.shape.now c.requires.own)

pub cell_word-requires-clause-few : goal.cell_word-requires-clause-few
cell_word-requires-clause-few c =
    let sh = layout c.args.shape.now in
    let s = spot c.args.lane c.in-Some.path.items in
    let previous : c.in_ok-previous.previous ≡ link_to_newest (mine_chain sh s c.args.book.now.mine) =
    (let g : c.in_ok-previous.previous ≡ link_to_newest (mine_chain sh (spot c.args.lane c.deref.result.now) c.mine.result.now) = search
    (rules, c.in_ok-previous.ensures.previous) in
    g ∙ ap₂ (λ (q : List ℕ) (xs : List Own). link_to_newest (mine_chain sh (spot c.args.lane q) xs)) c.deref.ensures.value c.mine.ensures) in
    let quad : c.in_ok-previous.quad ≡ quad_of (amounts_with_row c.args.shape.now c.args.lane c.args.row.now (mine_chain sh s c.args.book.now.mine)) =
    (let g : c.in_ok-previous.quad ≡ quad_of
    (amounts_with_row c.args.shape.now c.args.lane c.args.row.now (mine_chain sh (spot c.args.lane c.deref.result.now) c.mine.result.now)) =
    search (rules, c.in_ok-previous.ensures.quad) in
    g ∙ ap₂ (λ (q : List ℕ) (xs : List Own). quad_of
    (amounts_with_row c.args.shape.now c.args.lane c.args.row.now (mine_chain sh (spot c.args.lane q) xs))) c.deref.ensures.value c.mine.ensures) in
    quad_few c.args.shape.now c.args.lane c.args.row.now s c.args.book.now.mine 0 c.in_ok-previous.quad quad c.requires.own.few

pub cell_word-requires-clause-quad : goal.cell_word-requires-clause-quad
cell_word-requires-clause-quad c =
    let sh = layout c.args.shape.now in
    let s = spot c.args.lane c.in-Some.path.items in
    let previous : c.in_ok-previous.previous ≡ link_to_newest (mine_chain sh s c.args.book.now.mine) =
    (let g : c.in_ok-previous.previous ≡ link_to_newest (mine_chain sh (spot c.args.lane c.deref.result.now) c.mine.result.now) = search
    (rules, c.in_ok-previous.ensures.previous) in
    g ∙ ap₂ (λ (q : List ℕ) (xs : List Own). link_to_newest (mine_chain sh (spot c.args.lane q) xs)) c.deref.ensures.value c.mine.ensures) in
    let quad : c.in_ok-previous.quad ≡ quad_of (amounts_with_row c.args.shape.now c.args.lane c.args.row.now (mine_chain sh s c.args.book.now.mine)) =
    (let g : c.in_ok-previous.quad ≡ quad_of
    (amounts_with_row c.args.shape.now c.args.lane c.args.row.now (mine_chain sh (spot c.args.lane c.deref.result.now) c.mine.result.now)) =
    search (rules, c.in_ok-previous.ensures.quad) in
    g ∙ ap₂ (λ (q : List ℕ) (xs : List Own). quad_of
    (amounts_with_row c.args.shape.now c.args.lane c.args.row.now (mine_chain sh (spot c.args.lane q) xs))) c.deref.ensures.value c.mine.ensures) in
    quad_lawful c.args.shape.now c.args.lane c.args.row.now s c.args.book.now.mine c.in_ok-previous.quad c.lanes-held.ensures.lawful c.requires.exists
    c.requires.fits c.requires.own quad

pub returns : goal.returns
returns c =
    let sh = layout c.args.shape.now in
    let s = spot c.args.lane c.in-Some.path.items in
    let previous : c.in_ok-previous.previous ≡ link_to_newest (mine_chain sh s c.args.book.now.mine) =
    (let g : c.in_ok-previous.previous ≡ link_to_newest (mine_chain sh (spot c.args.lane c.deref.result.now) c.mine.result.now) = search
    (rules, c.in_ok-previous.ensures.previous) in
    g ∙ ap₂ (λ (q : List ℕ) (xs : List Own). link_to_newest (mine_chain sh (spot c.args.lane q) xs)) c.deref.ensures.value c.mine.ensures) in
    let quad : c.in_ok-previous.quad ≡ quad_of (amounts_with_row c.args.shape.now c.args.lane c.args.row.now (mine_chain sh s c.args.book.now.mine)) =
    (let g : c.in_ok-previous.quad ≡ quad_of
    (amounts_with_row c.args.shape.now c.args.lane c.args.row.now (mine_chain sh (spot c.args.lane c.deref.result.now) c.mine.result.now)) =
    search (rules, c.in_ok-previous.ensures.quad) in
    g ∙ ap₂ (λ (q : List ℕ) (xs : List Own). quad_of
    (amounts_with_row c.args.shape.now c.args.lane c.args.row.now (mine_chain sh (spot c.args.lane q) xs))) c.deref.ensures.value c.mine.ensures) in
    let leads : path_in c.args.shape.now c.args.row.now c.args.lane ≡ Some c.in-Some.path.items = rw c.in-Some.is at c.in_ok-path.ensures in
    version_is_word c.args.shape.now c.args.book.now c.args.row.now c.args.lane c.args.index c.cell_word.result c.in-Some.path.items c.measures.result
    c.in_ok-previous.previous c.in_ok-previous.quad leads c.measures.ensures previous quad c.cell_word.ensures
