use Rattle.std.proofs.Common.{◌≡◌, ◌≤◌, ◌+◌, ap, refl, sym, subst, ◌∙◌, arith, List, ℕ, Option, length, take, drop}
use Rattle.std.proofs.lemmas.List.{take_at}
use Rattle.std.proofs.lemmas.Result.{err_from_is_err_and}
use Rattle.std.specs.Vec.{with_items}
use Rattle.cf_intake.specs.declared.pieces.Pieces.{Pieces}
use Rattle.cf_intake.specs.Devices.{TakesUpTo, TakesAtMost}
use Rattle.cf_intake.proofs.Piecewise.{gone_on, stopped_next, stopped_then, piece_few, piece_long}
use Rattle.cf_intake.proofs.pieces.Pieces.next.Goals as goal

pub returns-in_err-count-clause-stopped : goal.returns-in_err-count-clause-stopped
returns-in_err-count-clause-stopped g c =
    let p = err_from_is_err_and c.from_residual.result c.from_residual.ensures.1 in
    let mid : Option (List ℕ) = g.F.Shelf.rest c.args.shelf.now in
    let now : Option (List ℕ) = g.F.Shelf.rest c.read_piece.new.shelf in
    let takes : TakesAtMost mid now (length c.args.self.now.buf.items) =
    subst (λ (n : ℕ). TakesAtMost mid now n) (ap (λ (xs : List ℕ). length xs) c.deref_mut.ensures.value) c.in_err-count.ensures.stopped in
    rw p.1 (λ before rows on. stopped_then c.args.self.now before mid now rows on c.requires.more.1 takes)

pub returns-in_err-rows-clause-stopped : goal.returns-in_err-rows-clause-stopped
returns-in_err-rows-clause-stopped g c =
    let p = err_from_is_err_and c.from_residual-in_err-rows.result c.from_residual-in_err-rows.ensures.1 in
    let mid : Option (List ℕ) = g.F.Shelf.rest c.args.shelf.now in
    let now : Option (List ℕ) = g.F.Shelf.rest c.read_piece.new.shelf in
    let piece : List ℕ = take c.in_ok-count.count c.read_piece.new.buf in
    let takes : TakesUpTo mid now (length c.args.self.now.buf.items) piece =
    subst (λ (n : ℕ). TakesUpTo mid now n piece) (ap (λ (xs : List ℕ). length xs) c.deref_mut.ensures.value) c.in_ok-count.ensures.taken in
    rw p.1 (λ before rows on. stopped_next c.args.self.now before mid now rows piece on c.requires.more.1 takes)

pub returns-clause-read : goal.returns-clause-read
returns-clause-read g c = λ before rows on.
    let mid : Option (List ℕ) = g.F.Shelf.rest c.args.shelf.now in
    let now : Option (List ℕ) = g.F.Shelf.rest c.read_piece.new.shelf in
    let ok = c.in_ok-count.ensures in
    let count = c.in_ok-count.count in
    let buf : List ℕ = c.read_piece.new.buf in
    let room : length c.deref_mut.result.now ≡ 65536 = ap (λ (xs : List ℕ). length xs) c.deref_mut.ensures.value ∙ on.size in
    let takes : TakesUpTo mid now 65536 (take count buf) = subst (λ (n : ℕ). TakesUpTo mid now n (take count buf)) room ok.taken in
    let within : count ≤ length c.deref_mut.result.now = ok.within in
    let long : length buf ≡ c.args.self.now.buf.len = ok.size ∙ ap (λ (xs : List ℕ). length xs) c.deref_mut.ensures.value ∙ sym c.args.self.now.buf.ok.0 in
    let same : (with_items c.args.self.now.buf buf).items ≡ buf = take_at buf (drop (length buf) c.args.self.now.buf.items) c.args.self.now.buf.len long in
    let fed = rw (c.deref.ensures.value ∙ same) at c.in_ok-rows.ensures.fed in
    let new : Pieces =
    record {
      schema = c.args.self.now.schema;
      reader = c.feed_rows.new.reader;
      buf = with_items c.args.self.now.buf buf;
      count = count;
      number = c.args.self.now.number + 1;
    } in
    gone_on c.args.self.now new before mid now
    (take count buf) rows c.in_ok-rows.rows.items fed.0 on refl c.requires.more.0 c.requires.more.1 c.in_ok-rows.ensures.blocks c.in_ok-rows.ensures.scope
    (ap (λ (xs : List ℕ). length xs) same ∙ ok.size ∙ room) refl takes (piece_long count (length c.deref_mut.result.now) buf ok.size within) fed.2 fed.1

pub returns-clause-few : goal.returns-clause-few
returns-clause-few g c = λ before rows on.
    let ok = c.in_ok-count.ensures in
    let count = c.in_ok-count.count in
    let buf : List ℕ = c.read_piece.new.buf in
    let room : length c.deref_mut.result.now ≡ 65536 = ap (λ (xs : List ℕ). length xs) c.deref_mut.ensures.value ∙ on.size in
    let within : count ≤ length c.deref_mut.result.now = ok.within in
    let long : length buf ≡ c.args.self.now.buf.len = ok.size ∙ ap (λ (xs : List ℕ). length xs) c.deref_mut.ensures.value ∙ sym c.args.self.now.buf.ok.0 in
    let same : (with_items c.args.self.now.buf buf).items ≡ buf = take_at buf (drop (length buf) c.args.self.now.buf.items) c.args.self.now.buf.len long in
    let few = rw (c.deref.ensures.value ∙ same) at c.in_ok-rows.ensures.few in
    let size = piece_long count (length c.deref_mut.result.now) buf ok.size within in
    piece_few (take count buf) c.in_ok-rows.rows.items (omega (arith, size, room, within)) (few on.stream on.frames on.at)
