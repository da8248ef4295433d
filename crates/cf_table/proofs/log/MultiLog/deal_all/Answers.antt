use Rattle.std.proofs.Common.{◌≡◌, ◌∙◌, ◌+◌, ◌<◌, suc, List, ◌++◌, ◌∷◌, [], length, Some, slice_get, false, ap, sym, arith}
use Rattle.std.proofs.lemmas.Option.{slice_get-get_or}
use Rattle.cf_law.specs.Passes.{Book}
use Rattle.cf_law.specs.Steps.{new_pass}
use Rattle.cf_table.specs.Values.{PassValue}
use Rattle.cf_table.specs.Moves.{note_of}
use Rattle.cf_table.proofs.Leaving.{left_with, book_at, first_is, noted_at, as_many, still_of, dealt_more, next_left}
use Rattle.cf_table.proofs.log.MultiLog.deal_all.Goals as goal

pub deal_first-requires-clause-of : goal.deal_first-requires-clause-of
deal_first-requires-clause-of c = still_of c.args.self.now c.args.token.now c.loop-note.token c.loop-note.note-index c.requires.of c.loop-note.invariant.token

pub deal_first-requires-clause-held : goal.deal_first-requires-clause-held
deal_first-requires-clause-held c =
    let m = c.args.token.now in
    let many = as_many c.args.notes.now m c.requires.noted in
    let lt : c.loop-note.note-index < length (m.view).books = (let t = c.loop-note-test.true in omega (arith, many)) in
    let f = first_is m c.loop-note.token c.loop-note.note-index lt c.loop-note.invariant.token in
    f.1 ∙ ap (λ (b : Book). Some b) (sym f.0)

pub deal_first-requires-clause-noted : goal.deal_first-requires-clause-noted
deal_first-requires-clause-noted c =
    let m = c.args.token.now in
    let i = c.loop-note.note-index in
    let many = as_many c.args.notes.now m c.requires.noted in
    let lt : i < length (m.view).books = (let t = c.loop-note-test.true in omega (arith, many)) in
    noted_at c.args.notes.now m i _ c.requires.noted lt
    (slice_get-get_or c.args.notes.now i (record { writer = 0; over = false; used = 0 }) c.loop-note-test.true)
    ∙ ap note_of (sym (first_is m c.loop-note.token i lt c.loop-note.invariant.token).0)

pub deal_first-requires-clause-bounds : goal.deal_first-requires-clause-bounds
deal_first-requires-clause-bounds c =
    let m = c.args.token.now in
    let i = c.loop-note.note-index in
    let many = as_many c.args.notes.now m c.requires.noted in
    let lt : i < length (m.view).books = (let t = c.loop-note-test.true in omega (arith, many)) in
    let f = first_is m c.loop-note.token i lt c.loop-note.invariant.token in
    let b = c.requires.noted.bounds i (book_at m i) (slice_get-get_or (m.view).books i _ lt) in
    let nodes = ap (λ (h : PassValue). h.nodes) c.loop-note.invariant.token in
    let few = c.requires.noted.few in
    let writer = ap (λ (x : Book). x.writer) f.0 in
    let used = ap (λ (x : Book). length x.used) f.0 in
    (omega (arith, nodes, few), omega (arith, writer, b.0), omega (arith, used, b.1, nodes))

pub loop-note-preserved : goal.loop-note-preserved
loop-note-preserved c =
    let m = c.args.token.now in
    let i = c.loop-note.note-index in
    let v = c.loop-note.invariant in
    let many = as_many c.args.notes.now m c.requires.noted in
    let lt : i < length (m.view).books = (let t = c.loop-note-test.true in omega (arith, many)) in
    let f = first_is m c.loop-note.token i lt v.token in
    let e = c.push_reserved.ensures in
    let next : suc i ≡ i + 1 = omega arith in
    let seen = ap (λ (h : PassValue). (h.view).seen) v.token in
    let items : c.push_reserved.new.self.items ≡ c.loop-note.passes.items ++ c.deal_first.result ∷ [] = e.items in
    let view : (c.deal_first.result).view ≡ new_pass (book_at m i ∷ []) (m.view).seen = rw (sym f.0, sym seen) c.deal_first.ensures.view in
    let l = v.len in let n = e.len in let count = v.count in let room = v.room in let cap = e.capacity in record {
      token = next_left m c.loop-note.token c.deal_first.new.token i lt v.token c.deal_first.ensures.stays ∙ ap (left_with m) next;
      count = ap (λ (xs : List PassValue). length xs) items
          ∙ (let k = Rattle.std.proofs.lemmas.List.length_push c.loop-note.passes.items c.deal_first.result in omega (arith, k, count));
      len = omega (arith, n, l);
      room = omega (arith, room, cap);
      each = λ k h at. dealt_more c.args.self.now m i c.loop-note.passes.items c.deal_first.result lt count c.deal_first.ensures.of view v.each k h
          (ap (λ (xs : List PassValue). slice_get xs k) (sym items) ∙ at);
    }
