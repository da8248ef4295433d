-- The text of a question's answer. Numbers are decimal, and a line ends with byte 10.
use Rattle.std.specs.Prelude.{ℕ, ◌==◌, List, [], ◌∷◌, ◌++◌, length, map, codes, decimal, Option, Some, None, if◌then◌else◌}
use Rattle.std.specs.List.{flat_map}
use Rattle.cf_row.specs.Row.{RowValue}
use Rattle.cf_fold.specs.Quads.{QuadValue}
use Rattle.cf_plain.specs.Asks.{row_at}
use Rattle.cf_plain.specs.Groups.{first_key, other_key}
use Rattle.cf_plain.specs.declared.ask.Ask.{Ask}
use Rattle.cf_plain.specs.declared.ask.Ask.TheVariants as asks
use Rattle.cf_plain.specs.declared.answer.Body.{Body}
use Rattle.cf_plain.specs.declared.answer.Body.TheVariants as bodies
use Rattle.cf_plain.specs.declared.answer.Fired.{Fired}

-- a text and the end of its line
abbrev pub line : List ℕ → List ℕ
line text = text ++ 10 ∷ []

-- the numbers in the input of the rows at some places
abbrev pub nums_at : List RowValue → List ℕ → List ℕ
nums_at rows places = map (λ place. (row_at rows place).num) places

-- a space and the number
abbrev pub number_text : ℕ → List ℕ
number_text n = codes " " ++ decimal n

-- ` K:` and then each of the K numbers
abbrev pub numbers_text : List ℕ → List ℕ
numbers_text ns = codes " " ++ decimal (length ns) ++ codes ":" ++ flat_map number_text ns

-- of no number, the least and the greatest are `-`
abbrev pub bound_text : ℕ → ℕ → List ℕ
bound_text count bound = if count == 0 then codes "-" else decimal bound

-- ` count C sum S least L greatest G`
abbrev pub quad_text : QuadValue → List ℕ
quad_text quad =
    codes " count " ++ decimal quad.count ++ codes " sum " ++ decimal quad.sum ++ codes " least " ++ bound_text quad.count
    quad.least ++ codes " greatest " ++ bound_text quad.count quad.greatest

-- `BUCKET` or `KEY`; `BUCKET/KEY` where another value keeps the rows of a bucket apart
abbrev pub keys_text : ℕ → Option ℕ → List ℕ
keys_text key None = decimal key
keys_text key (Some by) = decimal key ++ codes "/" ++ decimal by

-- ` BUCKET=VALUE`, ` BUCKET/KEY=VALUE`, or ` KEY=VALUE` of a key among the first
abbrev pub mark_text : Fired → List ℕ
mark_text mark = codes " " ++ keys_text mark.bucket mark.key ++ codes "=" ++ decimal mark.value

-- ` K:` and then each of the K marks
abbrev pub marks_text : List Fired → List ℕ
marks_text marks = codes " " ++ decimal (length marks) ++ codes ":" ++ flat_map mark_text marks

-- `COUNT/SUM/LEAST/GREATEST` of some numbers
abbrev pub parts_text : QuadValue → List ℕ
parts_text quad = decimal quad.count ++ codes "/" ++ decimal quad.sum ++ codes "/" ++ decimal quad.least ++ codes "/" ++ decimal quad.greatest

-- ` KEY=COUNT/SUM/LEAST/GREATEST`: a key, a bucket or `BUCKET/KEY`, and the quad of its rows
abbrev pub group_text : ℕ × QuadValue → List ℕ
group_text group = codes " " ++ keys_text (first_key group.0) (other_key group.0) ++ codes "=" ++ parts_text group.1

-- ` K:` and then each of the K groups
abbrev pub groups_text : List (ℕ × QuadValue) → List ℕ
groups_text groups = codes " " ++ decimal (length groups) ++ codes ":" ++ flat_map group_text groups

-- the word of a question's kind
abbrev pub word_of : Ask → List ℕ
word_of (asks.List expr) = codes "list"
word_of (asks.Find lane low high) = codes "find"
word_of (asks.Between lane low high) = codes "between"
word_of (asks.Measure lane low high) = codes "measure"
word_of (asks.Fired trigger) = codes "fired"
word_of (asks.Top lane part count) = codes "top"
word_of (asks.Groups lane) = codes "groups"
word_of (asks.Total attr expr) = codes "total"

-- the places of rows that the body is; none if it is of another kind
abbrev pub places_in : Body → List ℕ
places_in (bodies.Places places) = places
places_in (bodies.Total quad) = []
places_in (bodies.Marks marks) = []
places_in (bodies.Tops tops) = []
places_in (bodies.Groups groups) = []

-- what is shown of a body, where places are shown as these numbers
abbrev pub shown : (List ℕ → List ℕ) → Body → List ℕ
shown nums (bodies.Places places) = numbers_text (nums places)
shown nums (bodies.Total quad) = quad_text quad
shown nums (bodies.Marks marks) = marks_text marks
shown nums (bodies.Tops tops) = marks_text tops
shown nums (bodies.Groups groups) = groups_text groups
