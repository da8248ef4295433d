-- The tag of an entry that was seen is loaded.
use Rattle.std.proofs.Common.{◌≡◌, ◌∙◌, ◌+◌, ◌-◌, ◌*◌, ◌/◌, ◌%◌, ◌<◌, ◌^◌, ℕ, List, [], ◌∷◌, ◌++◌, length, map, min, take, get_or, Some, slice_get, refl, ap, sym, arith, append_assoc}
use Rattle.std.proofs.lemmas.List.{map_push, take_more}
use Rattle.std.proofs.lemmas.Option.{slice_get-get_or}
use Rattle.cf_row.specs.Words.{IsEntry, word_count, values_words, spelled, tag_of}
use Rattle.cf_row.specs.declared.schema.Attr.{Attr}
use Rattle.cf_row.specs.declared.row.Entry.{Entry}
use Rattle.cf_row.proofs.Spelling.{values_long}
use Rattle.cf_shape.specs.Lanes.{ShapeValue, IsShape}
use Rattle.cf_table.specs.Effects.{HasStepped, word_effect}
use Rattle.cf_table.specs.Moves.{OnlyLooked}
use Rattle.cf_table.specs.Values.{PassValue}
use Rattle.cf_table.proofs.Reading.{no_entry, entry_at, loaded}

last_of : (xs : List ℕ) (x : ℕ) → get_or (xs ++ x ∷ []) (length xs) 0 ≡ x
last_of [] x = refl
last_of (y ∷ xs) x = last_of xs x

-- the word behind the values is the tag
tag_last : (attrs : List Attr) (e : Entry) → IsEntry attrs e → get_or (spelled e) (word_count attrs) 0 ≡ tag_of e
tag_last attrs e is = ap (λ (k : ℕ). get_or (spelled e) k 0) (sym (values_long attrs e.row.values is.fits)) ∙ last_of (values_words e.row.values) (tag_of e)

-- the word tells the number and the writer of the entry
pub record IsTag (m n : PassValue) (o found : ℕ) : Type 0 where
  pub num : found / 16 ≡ (entry_at m.view o).row.num
  pub writer : found % 16 ≡ (entry_at m.view o).writer
  pub low : found / 16 < 2 ^ 32
  pub looked : OnlyLooked m n

pub tag_read : (shape : ShapeValue) (m n : PassValue) (o place i found : ℕ) → IsShape shape → place ≡ min o (shape.capacity - 1) → o < length (m.view).seen
    → i ≡ word_count shape.schema → HasStepped shape (word_effect shape m.view place i) m found n → IsTag m n o found
tag_read shape m n o place i found is at lt last made =
    let all = loaded shape m n o place i found is at lt (omega (arith, last)) made in
    let e = entry_at m.view o in
    let tag : found ≡ e.row.num * 16 + e.writer = all.word ∙ (ap (λ (k : ℕ). get_or (spelled e) k 0) last ∙ tag_last shape.schema e all.lawful) in
    let num = all.lawful.num in
    let low = all.lawful.writer in
    record {
      num = omega (arith, tag, low);
      writer = omega (arith, tag, low);
      low = omega (arith, tag, low, num);
      looked = all.looked;
    }

-- it is the entry at that place
pub entry_is : (m : PassValue) (o : ℕ) (e : Entry) → o < length (m.view).seen → slice_get (m.view).seen o ≡ Some e → entry_at m.view o ≡ e
entry_is m o e lt at = (let both = sym (slice_get-get_or (m.view).seen o no_entry lt) ∙ at in cc both)

-- one more of what is made of each, behind others
pub more_of : {X : Type 0} (f : Entry → X) (es : List Entry) (before now after : List X) (o : ℕ) (x : X) → o < length es
    → now ≡ before ++ map f (take o es) → after ≡ now ++ x ∷ [] → x ≡ f (get_or es o no_entry) → after ≡ before ++ map f (take (o + 1) es)
more_of f es before now after o x lt is push one = push
    ∙ (ap (λ xs. xs ++ x ∷ []) is
    ∙ (append_assoc before (map f (take o es)) (x ∷ [])
    ∙ ap (λ xs. before ++ xs)
    (ap (λ y. map f (take o es) ++ y ∷ []) one ∙ (sym (map_push f (take o es) (get_or es o no_entry)) ∙ ap (map f) (sym (take_more es o no_entry lt))))))
