-- Lines, and the words of a line.
use Rattle.std.specs.Prelude.{ℕ, Bool, true, ◌&&◌, ◌==◌, List, [], ◌∷◌, ◌++◌, length, Option, Some, None, if◌then◌else◌}
use Rattle.std.specs.Str.Lines.{strip_carriage_return}
use Rattle.cf_filter.specs.declared.bytes.Class.TheVariants as classes
use Rattle.cf_filter.specs.Tokens.{passes, run, past, unspaced}
use Rattle.cf_filter.specs.Reading.{begins_with}
use Rattle.cf_filter.specs.Values.{◌>>=◌, is_run_of}

-- The lines of a text, after the bytes of a line that has begun. An empty piece after the last end is no line.
unfoldable pub lines_after : List ℕ → List ℕ → List (List ℕ)
lines_after [] [] = []
lines_after (c ∷ cs) [] = (c ∷ cs) ∷ []
lines_after begun (b ∷ bs) = if passes (classes.Except 10) b then lines_after (begun ++ b ∷ []) bs else strip_carriage_return begun ∷ lines_after [] bs

-- the lines, which end with LF or CR LF
abbrev pub lines_of : List ℕ → List (List ℕ)
lines_of bytes = lines_after [] bytes

-- an empty line, and one that begins with a hash, says nothing
abbrev pub is_silent : List ℕ → Bool
is_silent [] = true
is_silent (b ∷ bs) = b == 35

-- the word after spaces, which is empty at the end of the line, and what follows it
abbrev pub word_at : List ℕ → List ℕ × List ℕ
word_at text = (run (classes.Except 32) (unspaced text), past (classes.Except 32) (unspaced text))

-- nothing but spaces
abbrev pub is_blank : List ℕ → Bool
is_blank text = length (unspaced text) == 0

-- a word, and what follows it
abbrev pub next_word : List ℕ → Option (List ℕ × List ℕ)
next_word text = if length (word_at text).0 == 0 then None else Some (word_at text)

-- a word that nothing follows
abbrev pub last_word : List ℕ → Option (List ℕ)
last_word text = do
  word ← next_word text
  if is_blank word.1 then Some word.0 else None

-- a letter a to z, and then letters a to z, digits and underscores, of at most that many bytes
abbrev pub is_name : ℕ → List ℕ → Bool
is_name most word = begins_with classes.Letter word && is_run_of classes.Name 1 most word

-- a name for something new, and what follows it
abbrev pub new_name : List ℕ → Option (List ℕ × List ℕ)
new_name text = do
  word ← next_word text
  if is_name 32 word.0 then Some word else None
