-- What is made of the entries of segments, end to end.
use Rattle.std.proofs.Common.{◌≡◌, ◌∙◌, ◌+◌, ◌<◌, ℕ, List, [], ◌++◌, length, map, take, get_or, ap, sym, append_assoc}
use Rattle.std.specs.List.{flat_map}
use Rattle.std.proofs.lemmas.List.{map-append, flat_map_more, take_more}
use Rattle.cf_row.specs.declared.row.Entry.{Entry}
use Rattle.cf_segments.specs.Segments.{seen_of}
use Rattle.cf_segments.specs.declared.segments.Segment.{Segment}

-- those of one more segment, behind others
pub maps_more : {X : Type 0} (f : Entry → X) (before now after : List X) (old : List Segment) (i : ℕ) (d : Segment) → i < length old
    → now ≡ before ++ map f (flat_map seen_of (take i old)) → after ≡ now ++ map f (seen_of (get_or old i d))
    → after ≡ before ++ map f (flat_map seen_of (take (i + 1) old))
maps_more f before now after old i d lt is push =
    let s = get_or old i d in
    let all = flat_map seen_of (take i old) in
    let more : all ++ seen_of s ≡ flat_map seen_of (take (i + 1) old) =
    flat_map_more seen_of [] (take i old) s ∙ ap (λ (gs : List Segment). flat_map seen_of gs) (sym (take_more old i d lt)) in
    push
    ∙ (ap (λ xs. xs ++ map f (seen_of s)) is
    ∙ (append_assoc before (map f all) (map f (seen_of s)) ∙ ap (λ xs. before ++ xs) (sym (map-append f all (seen_of s)) ∙ ap (map f) more)))
