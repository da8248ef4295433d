-- What a text is, as a setup or by its first faulty line.
use Rattle.std.specs.Prelude.{◌≡◌, ℕ, ◌+◌, ◌≤◌, ◌<◌, Bool, true, false, not, List, [], ◌∷◌, ◌++◌, length, Some, None, Result, Ok, Err, is_some, if◌then◌else◌}
use Rattle.std.specs.List.{list_all}
use Rattle.cf_row.specs.declared.schema.Attr.{Attr}
use Rattle.cf_filter.specs.declared.bytes.Class.TheVariants as classes
use Rattle.cf_filter.specs.Tokens.{passes, unspaced}
use Rattle.cf_setup.specs.declared.statement.Statement.{Statement}
use Rattle.cf_setup.specs.declared.statement.Statement.TheVariants as statements
use Rattle.cf_lines.specs.Lines.{lines_of, is_silent, word_at}
use Rattle.cf_setup.specs.Drafts.{DraftValue, nothing_stated}
use Rattle.cf_setup.specs.Forms.{StatementFormValue, statement_named, form_at}
use Rattle.cf_setup.specs.Rules.{rules, IsBroken}
use Rattle.cf_setup.specs.Adds.{Adds}
use Rattle.cf_setup.specs.Setups.{SetupValue, settled}

-- it states the schema
abbrev pub is_schema_statement : Statement → Bool
is_schema_statement statements.Schema = true
is_schema_statement _ = false

-- after the schema there is no other, and one width
abbrev pub is_later : DraftValue → Statement → Bool
is_later before statements.Schema = false
is_later before statements.Width = not (is_some before.width)
is_later before _ = true

-- the first statement is the schema's
abbrev pub is_in_place : DraftValue → Statement → Bool
is_in_place before statement = if is_some before.schema then is_later before statement else is_schema_statement statement

-- the line breaks the rule of this code, after what is stated before
pub data Breaks (before : DraftValue) (line : List ℕ) (code : ℕ) : Type 0 where
  not_text : code ≡ 1 → list_all (passes classes.Text) line ≡ false → Breaks before line code
  unknown : code ≡ 2 → statement_named (word_at line).0 ≡ None → Breaks before line code
  misplaced : (statement : Statement) → code ≡ 2 → statement_named (word_at line).0 ≡ Some statement → is_in_place before statement ≡ false
      → Breaks before line code
  misformed : (statement : Statement) → code ≡ 3 → statement_named (word_at line).0 ≡ Some statement → form_at statement (word_at line).1 ≡ None
      → Breaks before line code
  ruled : (statement : Statement) (form : StatementFormValue) → statement_named (word_at line).0 ≡ Some statement
      → form_at statement (word_at line).1 ≡ Some form → IsBroken before code (rules form) → Breaks before line code

-- the least code of a rule that the line breaks
pub record HasCode (before : DraftValue) (line : List ℕ) (code : ℕ) : Type 0 where
  pub breaks : Breaks before line code
  pub least : (other : ℕ) → Breaks before line other → code ≤ other

-- the line of that number breaks no rule, and leads to what is stated then
pub record States (number : ℕ) (before : DraftValue) (line : List ℕ) (new : DraftValue) : Type 0 where
  pub lawful : (code : ℕ) → Breaks before line code → ⊥
  pub statement : Statement
  pub form : StatementFormValue
  pub statement_is : statement_named (word_at line).0 ≡ Some statement
  pub form_is : form_at statement (word_at line).1 ≡ Some form
  pub adds : Adds number before form new

-- what a line states, or its code
abbrev pub LineRead : ℕ → DraftValue → List ℕ → Result DraftValue ℕ → Type 0
LineRead number before line (Ok new) = States number before line new
LineRead number before line (Err code) = HasCode before line code

-- a line states nothing where it is empty or begins with a hash, after spaces
pub data LineSaid (number : ℕ) (before : DraftValue) (line : List ℕ) (read : Result DraftValue ℕ) : Type 0 where
  silent : is_silent (unspaced line) ≡ true → read ≡ Ok before → LineSaid number before line read
  spoken : is_silent (unspaced line) ≡ false → LineRead number before (unspaced line) read → LineSaid number before line read

-- the lines, the first of which has that number, break no rule, and lead from what is stated before to what is stated then
abbrev pub AllSaid : ℕ → DraftValue → List (List ℕ) → DraftValue → Type 0
AllSaid number before [] new = new ≡ before
AllSaid number before (line ∷ lines) new = (next : DraftValue) × LineSaid number before line (Ok next) × AllSaid (number + 1) next lines new

-- a setup, or the number of the first faulty line and its code
pub data SetupText (bytes : List ℕ) (read : Result SetupValue (ℕ × ℕ)) : Type 0 where
  whole : (stated : DraftValue) (attrs : List Attr) → length bytes ≤ 65536 → AllSaid 1 nothing_stated (lines_of bytes) stated → stated.schema ≡ Some attrs
      → read ≡ Ok (settled stated attrs) → SetupText bytes read
  faulty : (front rest : List (List ℕ)) (line : List ℕ) (before : DraftValue) (code : ℕ) → length bytes ≤ 65536 → lines_of bytes ≡ front ++ line ∷ rest
      → AllSaid 1 nothing_stated front before → LineSaid (length front + 1) before line (Err code) → read ≡ Err (length front + 1, code) → SetupText bytes read
  empty : (stated : DraftValue) → length bytes ≤ 65536 → AllSaid 1 nothing_stated (lines_of bytes) stated → stated.schema ≡ None
      → read ≡ Err (length (lines_of bytes) + 1, 2) → SetupText bytes read
  large : 65536 < length bytes → read ≡ Err (0, 9) → SetupText bytes read
