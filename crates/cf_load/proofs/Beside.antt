-- A batch is done: the writers and the reader came home.
use Rattle.std.proofs.Common.{◌≡◌, ◌≤◌, ◌+◌, ℕ, Bool, true, List, [], Option, Some, None, ◌++◌, length, append-nil, refl, ap, ◌∙◌, Result, Ok, Err, IfOk, MatchResult}
use Rattle.std.specs.List.{AllZip}
use Rattle.cf_row.specs.Row.{RowValue}
use Rattle.cf_shape.specs.Lanes.{IsShape}
use Rattle.cf_law.specs.Passes.{Pass}
use Rattle.cf_table.specs.Values.{PassValue, LogValue, IsOf}
use Rattle.cf_table.specs.Moves.{AreDealt, HasFolded, HasGathered, HoldsAllBooks}
use Rattle.std.specs.declared.alloc.AllocError.{AllocError}
use Rattle.cf_segments.specs.Loaded.{HasLoaded}
use Rattle.cf_load.specs.Loading.{IsShort, StayInBatch}
use Rattle.cf_load.specs.Loads.{outcome_of}
use Rattle.cf_load.specs.declared.loads.LoadFault.{LoadFault}
use Rattle.cf_load.specs.declared.loads.LoadFault.TheVariants.{NodesFull, Memory}
use Rattle.cf_load.specs.Writing.{HasWritten}
use Rattle.cf_load.proofs.Batches.{batch_loaded, told_same, short_kept}
use Rattle.cf_segments.proofs.Loaded.{still_loaded}

-- what a batch comes to
pub ok_answers : {T : Type 0} (out : Option ℕ) (answers : Result T AllocError) (Q : T → Type 0) → IfOk answers Q → IfOk (outcome_of out answers) Q
ok_answers (Some w) answers Q q = tt
ok_answers None (Ok x) Q q = q
ok_answers None (Err e) Q q = tt

pub outcome_by : {T : Type 0} (out : Option ℕ) (answers : Result T AllocError) (P : Type 0) (H : LoadFault → Type 0) → (out ≡ None → P)
    → (out ≡ None → H Memory) → ((w : ℕ) → out ≡ Some w → H (NodesFull w)) → MatchResult (outcome_of out answers) (λ x. P) H
outcome_by (Some w) answers P H loaded memory nodes = nodes w refl
outcome_by None (Ok x) P H loaded memory nodes = loaded refl
outcome_by None (Err e) P H loaded memory nodes = memory refl

-- the root, when the reader has come home too
pub batch_home : (log : LogValue) (first : ℕ) (rows batch : List RowValue) (m r n o : PassValue) (q : Pass) (passes after : List PassValue)
    → IsShape log.shape → HasLoaded log first rows m → StayInBatch log.shape (length rows) (length batch) → length rows + length batch ≤ (log.shape).capacity
    → AreDealt log m passes r → AllZip (HasWritten true log (first + length rows) batch) passes after → HasGathered log.shape r after n
    → HasFolded log.shape n q o
    → (o.view).books ≡ (n.view).books → (HoldsAllBooks log.shape n.view → (o.view).seen ≡ (n.view).seen)
    → HasLoaded log first (rows ++ batch) o
batch_home log first rows batch m r n o q passes after shape has few room dealt wrote gathered folded books stays =
    let loaded = batch_loaded log first rows batch m r n passes after shape has few room dealt wrote gathered in
    let same = folded.made.same in
    let of : IsOf o log =
    record { table = ap (λ (h : PassValue). h.table) same ∙ loaded.of.table; nodes = ap (λ (h : PassValue). h.nodes) same ∙ loaded.of.nodes } in
    still_loaded log first (rows ++ batch) n o loaded of books (stays loaded.settled)

-- what the root was told by then
pub batch_told : (whole : Bool) (log : LogValue) (first : ℕ) (batch : List RowValue) (m r n o : PassValue) (q : Pass) (passes after : List PassValue)
    → AreDealt log m passes r → AllZip (HasWritten whole log first batch) passes after → HasGathered log.shape r after n → HasFolded log.shape n q o
    → q.told ≡ []
    → (o.view).told ≡ (m.view).told ++ q.tails
batch_told whole log first batch m r n o q passes after dealt wrote gathered folded none =
    folded.told ∙ ap (λ ts. ts ++ q.tails)
    (ap (λ ts. (n.view).told ++ ts) none ∙ (append-nil (n.view).told ∙ told_same whole log first batch m r n passes after dealt wrote gathered))

-- after a writer ran out of nodes
pub out_home : (log : LogValue) (first : ℕ) (rows : List RowValue) (w : ℕ) (n o : PassValue) (q : Pass) → IsShort log first rows w n
    → HasFolded log.shape n q o → (o.view).books ≡ (n.view).books → (HoldsAllBooks log.shape n.view → (o.view).seen ≡ (n.view).seen)
    → IsShort log first rows w o
out_home log first rows w n o q lacks folded books stays =
    let same = folded.made.same in
    let of : IsOf o log =
    record { table = ap (λ (h : PassValue). h.table) same ∙ lacks.of.table; nodes = ap (λ (h : PassValue). h.nodes) same ∙ lacks.of.nodes } in
    short_kept log first rows w n o lacks of books (stays lacks.settled)
