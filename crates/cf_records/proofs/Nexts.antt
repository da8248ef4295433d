-- What reading one more record tells.
use Rattle.std.proofs.Common.{Bor, List, ℕ, ◌≡◌, ◌∙◌, Bool, true, false, inl, Some, ◌++◌, ◌∷◌, []}
use Rattle.csv.specs.Reading.{ReadRecord, default_config, strip_bom, took_first}
use Rattle.csv.specs.declared.parser.State.TheVariants as st
use Rattle.csv.specs.declared.reader.Reader.{Reader}
use Rattle.csv.specs.declared.reader.Trim.TheVariants as trim
use Rattle.csv.proofs.ReadFacts.{rows-end, rows-more}
use Rattle.cf_records.specs.Records.{HasRead, ReadsOn}
use Rattle.cf_records.proofs.Reading.{read_whole}

pub reads_on : (old new : Reader (Bor (List ℕ))) (fields : List (List ℕ)) (found : Bool) (text : List ℕ) (records : List (List (List ℕ)))
    → HasRead text records old → took_first new ≡ true → ReadRecord (λ s. Some s.now) old new found fields → ReadsOn text records new fields found
reads_on old new fields true text records has first read =
    let more = rows-more (λ (s : Bor (List ℕ)). Some s.now) old new fields default_config st.StartRecord
    (strip_bom text) has.left records has.config has.source has.reached read in
    record { trim_is = read.3 ∙ has.trim_is; ready = inl first; config = read.2 ∙ has.config; left = more.0; source = more.1; reached = more.2 }
reads_on old new fields false text records has first read =
    read_whole text old.state has.left records has.reached
    (rows-end (λ (s : Bor (List ℕ)). Some s.now) old new fields default_config has.left has.config has.source read)
