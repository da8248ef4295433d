-- The text of answers about rows that are numbered from 0, where the places of rows are their numbers.
use Rattle.std.specs.Prelude.{ℕ, List, [], ◌++◌, codes, slice_index_or}
use Rattle.cf_plain.specs.declared.answer.Body.{Body}
use Rattle.cf_plain.specs.declared.answer.Body.TheVariants as bodies
use Rattle.cf_report.specs.Answered.{ask_at}
use Rattle.cf_report.specs.Bodies.{line, shown, word_of}
use Rattle.cf_report.specs.Report.{ask_name}
use Rattle.cf_setup.specs.Setups.{SetupValue}

-- stands in for an answer where there is none
abbrev pub no_body : Body
no_body = bodies.Places []

-- `ask NAME WORD BODY`, of the question at a place
abbrev pub placed_line : SetupValue → ℕ → Body → List ℕ
placed_line setup place body =
    line (codes "ask " ++ ask_name setup place ++ codes " " ++ word_of (ask_at setup place) ++ shown (λ places. places) body)

-- the same of its answer among all
abbrev pub placed_line_at : SetupValue → List Body → ℕ → List ℕ
placed_line_at setup finals place = placed_line setup place (slice_index_or finals place no_body)
