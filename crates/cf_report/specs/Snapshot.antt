-- The text of a snapshot over several hosts: how many rows are in the cut, and of each host how many of its rows, and its answers
-- on them.
use Rattle.std.specs.Prelude.{ℕ, List, [], ◌++◌, length, take, slice_index_or, codes, decimal}
use Rattle.std.specs.List.{flat_map, range_with_len}
use Rattle.cf_row.specs.Row.{RowValue}
use Rattle.cf_plain.specs.History.{AskReply}
use Rattle.cf_plain.specs.declared.ask.Ask.{Ask}
use Rattle.cf_plain.specs.declared.answer.Body.{Body}
use Rattle.cf_setup.specs.Setups.{SetupValue}
use Rattle.cf_shape.specs.Lanes.{ShapeValue}
use Rattle.cf_report.specs.Bodies.{line}
use Rattle.cf_report.specs.Meaning.{finals_on}
use Rattle.cf_report.specs.Report.{ask_line_at}

-- `cut K`
abbrev pub cut_line : ℕ → List ℕ
cut_line total = line (codes "cut " ++ decimal total)

-- a line for each question
abbrev pub ask_lines : SetupValue → List RowValue → List (AskReply Ask Body) → List ℕ
ask_lines setup rows finals = flat_map (ask_line_at setup rows finals) (range_with_len 0 (length setup.asks))

-- `host H @C`, and the answers on these rows, of which there are C
abbrev pub host_part : SetupValue → ℕ → List RowValue → List (AskReply Ask Body) → List ℕ
host_part setup host rows finals = line (codes "host " ++ decimal host ++ codes " @" ++ decimal (length rows)) ++ ask_lines setup rows finals

-- the same where the answers are what the questions mean on these rows
abbrev pub host_text : ShapeValue → SetupValue → ℕ → List RowValue → List ℕ
host_text shape setup host rows = host_part setup host rows (finals_on shape setup rows)

-- the rows of a host that are in the cut: so many of its first ones
abbrev pub rows_of_cut : List ℕ → List (List RowValue) → ℕ → List RowValue
rows_of_cut cut hosts host = take (slice_index_or cut host 0) (slice_index_or hosts host [])

-- the part of a host at a cut
abbrev pub host_text_at : ShapeValue → SetupValue → List ℕ → List (List RowValue) → ℕ → List ℕ
host_text_at shape setup cut hosts host = host_text shape setup host (rows_of_cut cut hosts host)
