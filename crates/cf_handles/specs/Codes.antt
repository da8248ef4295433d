-- The codes that calls answer, their numbers and their texts.
use Rattle.std.specs.Prelude.{ℕ, ◌==◌, List, Option, Some, None, codes, if◌then◌else◌}
use Rattle.cf_handles.specs.declared.code.Code.{Code}
use Rattle.cf_handles.specs.declared.code.Code.TheVariants.{Done, Memory, Sizes, Setup, Nothing, NoWriter, Full, Nodes, Unfit, Frame, NoQuestion, NoLane, NoRow, NoName, NoGroups, Busy, Unlike, OneLog}
use Rattle.cf_store.specs.declared.refusals.OpenRefusal.{OpenRefusal}
use Rattle.cf_store.specs.declared.refusals.OpenRefusal.TheVariants as opens
use Rattle.cf_store.specs.declared.refusals.TakeRefusal.{TakeRefusal}
use Rattle.cf_store.specs.declared.refusals.TakeRefusal.TheVariants as takes
use Rattle.cf_store.specs.declared.refusals.AppendRefusal.{AppendRefusal}
use Rattle.cf_store.specs.declared.refusals.AppendRefusal.TheVariants as appends
use Rattle.cf_store.specs.declared.refusals.AskRefusal.{AskRefusal}
use Rattle.cf_store.specs.declared.refusals.AskRefusal.TheVariants as asks
use Rattle.cf_store.specs.declared.refusals.LineRefusal.{LineRefusal}
use Rattle.cf_store.specs.declared.refusals.LineRefusal.TheVariants as lines
use Rattle.cf_store.specs.declared.refusals.LaneRefusal.{LaneRefusal}
use Rattle.cf_store.specs.declared.refusals.LaneRefusal.TheVariants as lanes
use Rattle.cf_store.specs.declared.refusals.MergeRefusal.{MergeRefusal}
use Rattle.cf_store.specs.declared.refusals.MergeRefusal.TheVariants as merges
use Rattle.cf_store.specs.declared.refusals.CloseRefusal.{CloseRefusal}
use Rattle.cf_store.specs.declared.refusals.CloseRefusal.TheVariants as closes
use Rattle.cf_store.specs.declared.refusals.AddRefusal.{AddRefusal}
use Rattle.cf_store.specs.declared.refusals.AddRefusal.TheVariants as adds
use Rattle.cf_store.specs.declared.refusals.RowRefusal.{RowRefusal}
use Rattle.cf_store.specs.declared.refusals.RowRefusal.TheVariants as rows

abbrev pub code_number : Code → ℕ
code_number Done = 0
code_number Memory = 1
code_number Sizes = 2
code_number Setup = 3
code_number Nothing = 4
code_number NoWriter = 5
code_number Full = 6
code_number Nodes = 7
code_number Unfit = 8
code_number Frame = 9
code_number NoQuestion = 10
code_number NoLane = 11
code_number NoRow = 12
code_number NoName = 13
code_number NoGroups = 14
code_number Busy = 15
code_number Unlike = 16
code_number OneLog = 17

-- the code of a setup or a log that was refused
abbrev pub open_code : OpenRefusal → Code
open_code opens.Memory = Memory
open_code opens.Sizes = Sizes
open_code (opens.Setup line code) = Setup

-- the code of a writer that was not taken
abbrev pub take_code : TakeRefusal → Code
take_code takes.NoWriter = NoWriter
take_code takes.Memory = Memory

-- the code of a row that was not appended
abbrev pub append_code : AppendRefusal → Code
append_code appends.Full = Full
append_code appends.Nodes = Nodes
append_code appends.Unfit = Unfit
append_code appends.Frame = Frame
append_code appends.Memory = Memory

-- the code of a batch that stopped there, or did not
abbrev pub stop_code : Option AppendRefusal → Code
stop_code (Some refusal) = append_code refusal
stop_code None = Done

-- the code of a line whose question was not answered
abbrev pub line_code : LineRefusal → Code
line_code (lines.Setup number code) = Setup
line_code lines.NoQuestion = NoQuestion
line_code lines.Memory = Memory

-- the code of groups that were not told
abbrev pub lane_code : LaneRefusal → Code
lane_code lanes.NoLane = NoLane
lane_code lanes.Memory = Memory

-- the code of groups that were not merged
abbrev pub merge_code : MergeRefusal → Code
merge_code merges.NoGroups = NoGroups
merge_code merges.Memory = Memory

-- the code of a log that was not closed
abbrev pub close_code : CloseRefusal → Code
close_code closes.Busy = Busy
close_code closes.Memory = Memory

-- the code of a reader that was not added to a span
abbrev pub add_code : AddRefusal → Code
add_code adds.Unlike = Unlike
add_code adds.Full = Full
add_code adds.Memory = Memory

-- the code of a row that was not read
abbrev pub row_code : RowRefusal → Code
row_code rows.NoRow = NoRow
row_code rows.Memory = Memory

-- the code of a question that was not answered
abbrev pub ask_code : AskRefusal → Code
ask_code asks.NoQuestion = NoQuestion
ask_code asks.Memory = Memory

-- the text of the code of a number
abbrev pub text_of : ℕ → List ℕ
text_of n =
    if n == 0 then codes "done"
    else (if n == 1 then codes "out of memory"
    else (if n == 2 then codes "a size is out of range, or an array is too short"
    else (if n == 3 then codes "the setup is faulty"
    else (if n == 4 then codes "the handle leads to nothing"
    else (if n == 5 then codes "all writers are taken"
    else (if n == 6 then codes "the log is full"
    else (if n == 7 then codes "the writer's nodes are used"
    else (if n == 8 then codes "the row does not fit the log's schema"
    else (if n == 9 then codes "the frame is too long, not in the buffer, or of a link not read"
    else (if n == 10 then codes "the setup has no such question, or the line says none"
    else (if n == 11 then codes "the setup has no such lane, it measures nothing or is by a key"
    else (if n == 12 then codes "the reader has seen no record at that offset"
    else (if n == 13 then codes "the setup has nothing of that sort and number"
    else (if n == 14 then codes "the words are no groups, or of too many numbers"
    else (if n == 15 then codes "a writer of the log is taken"
    else (if n == 16 then codes "the reader's log has another setup or size than the span's"
    else (if n == 17 then codes "the span has one log, which stays"
    else codes "no code of confluo")))))))))))))))))
