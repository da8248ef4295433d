use Rattle.std.proofs.Common.{◌≡◌, ◌∷◌, ◌++◌, [], List, length, map, rules, arith, sym, ap, ◌∙◌, length-append}
use Rattle.std.proofs.lemmas.List.{length-map, map_push}
use Rattle.cf_table.specs.Moves.{SealValue}
use Rattle.cf_segments.specs.Segments.{SegmentsValue, all_of, sealed, segments_of}
use Rattle.cf_segments.proofs.Chains.{closed_are, current_is}
use Rattle.cf_segments.proofs.segments.Segments.into_seals.Goals as goal

pub push_seals-requires-clause-each : goal.push_seals-requires-clause-each
push_seals-requires-clause-each c =
    ((c.self.inside.current.log).shape, closed_are (segments_of c.self.inside.most c.self.inside.closed.items c.self.inside.current) c.self.invariant.0)

pub push_seals-requires-clause-room : goal.push_seals-requires-clause-room
push_seals-requires-clause-room c =
    let none = ap (λ (xs : List SealValue). length xs) c.requires.none in
    let wide = c.requires.room in
    let same : length c.self.inside.closed.items ≡ length c.args.self.closed = ap (λ (s : SegmentsValue). length s.closed) c.self.view_is in
    omega (arith, none, wide, same)

pub seal-requires : goal.seal-requires
seal-requires c =
    ((c.self.inside.current.log).shape, current_is (segments_of c.self.inside.most c.self.inside.closed.items c.self.inside.current) c.self.invariant.0)

pub push_reserved-requires : goal.push_reserved-requires
push_reserved-requires c =
    let none = ap (λ (xs : List SealValue). length xs) c.requires.none in
    let wide = c.requires.room in
    let same : length c.self.inside.closed.items ≡ length c.args.self.closed = ap (λ (s : SegmentsValue). length s.closed) c.self.view_is in
    let now = c.push_seals.new.seals in
    let len : now.len ≡ length now.items = search rules in
    let all = ap (λ (xs : List SealValue). length xs) c.push_seals.ensures.seals in
    let sum = length-append c.args.seals.items (map sealed c.self.inside.closed.items) in
    let each = length-map c.self.inside.closed.items sealed in
    let capacity = c.push_seals.ensures.room in
    omega (arith, none, wide, same, len, all, sum, each, capacity)

pub returns : goal.returns
returns c =
    let now : SegmentsValue = segments_of c.self.inside.most c.self.inside.closed.items c.self.inside.current in
    c.push_reserved.ensures.items
    ∙ (ap (λ (x : SealValue). c.push_seals.new.seals.items ++ x ∷ []) c.seal.ensures
    ∙ (ap (λ (xs : List SealValue). xs ++ sealed c.self.inside.current ∷ [])
    (c.push_seals.ensures.seals ∙ ap (λ (xs : List SealValue). xs ++ map sealed c.self.inside.closed.items) c.requires.none)
    ∙ (sym (map_push sealed c.self.inside.closed.items c.self.inside.current)
    ∙ ap (λ (s : SegmentsValue). map sealed (all_of s)) c.self.view_is)))
