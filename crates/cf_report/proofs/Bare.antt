-- A text tells nothing of entries but their numbers and writers.
use Rattle.std.proofs.Common.{◌≡◌, ◌<◌, ◌∙◌, ℕ, zero, suc, List, [], ◌∷◌, ◌++◌, length, map, get_or, codes, decimal, refl, ap, ap₂, arith}
use Rattle.std.specs.List.{range_with_len, flat_map}
use Rattle.cf_row.specs.declared.row.Entry.{Entry}
use Rattle.cf_fold.specs.Sort.{sort}
use Rattle.cf_plain.specs.History.{AskReply}
use Rattle.cf_plain.specs.Order.{order_of}
use Rattle.cf_plain.specs.Answered.{LoadedValue}
use Rattle.cf_plain.specs.Asks.{rows_in, row_at}
use Rattle.cf_plain.specs.declared.ask.Ask.{Ask}
use Rattle.cf_plain.specs.declared.answer.Body.{Body}
use Rattle.cf_plain.specs.declared.answer.Body.TheVariants as bodies
use Rattle.cf_plain.specs.declared.answer.Fired.{Fired}
use Rattle.cf_plain.specs.declared.loaded.Live.{Live}
use Rattle.cf_setup.specs.Setups.{SetupValue}
use Rattle.cf_report.specs.Answered.{told_live, tolds_of}
use Rattle.cf_report.specs.Bodies.{line, nums_at, numbers_text, shown, word_of}
use Rattle.cf_report.specs.Report.{alert_lines_at, ask_line_at, ask_name, final_part, live_head, live_line, live_lines, new_line, nothing_told, order_line}
use Rattle.cf_report.specs.Runs.{IsWriterAt}
use Rattle.cf_report.specs.Snapshot.{ask_lines, host_part}
use Rattle.cf_report.specs.Tags.{bare, bare_log}
use Rattle.cf_report.specs.Text.{text_of}
use Rattle.cf_report.specs.declared.text.Form.{Form}
use Rattle.cf_report.specs.declared.text.Form.TheVariants.{Whole, Final}
use Rattle.cf_report.proofs.Same.{flat_agree}

-- Entries with these numbers and writers.
pub log_long : (nums writers : List ℕ) → length writers ≡ length nums → length (bare_log nums writers) ≡ length nums
log_long [] writers same = refl
log_long (n ∷ nums) [] same = absurd (omega (arith, same))
log_long (n ∷ nums) (w ∷ writers) same = ap suc (log_long nums writers (omega (arith, same)))

pub log_num : (nums writers : List ℕ) (place d : ℕ) → length writers ≡ length nums → place < length nums
    → get_or nums place d ≡ (row_at (rows_in (bare_log nums writers)) place).num
log_num [] writers place d same low = absurd (omega (arith, low))
log_num (n ∷ nums) [] place d same low = absurd (omega (arith, same))
log_num (n ∷ nums) (w ∷ writers) zero d same low = refl
log_num (n ∷ nums) (w ∷ writers) (suc place) d same low = log_num nums writers place d (omega (arith, same)) (omega (arith, low))

pub log_writer : (nums writers : List ℕ) (place d : ℕ) → length writers ≡ length nums → place < length nums
    → IsWriterAt (bare_log nums writers) place (get_or writers place d)
log_writer [] writers place d same low = absurd (omega (arith, low))
log_writer (n ∷ nums) [] place d same low = absurd (omega (arith, same))
log_writer (n ∷ nums) (w ∷ writers) zero d same low = λ e. refl
log_writer (n ∷ nums) (w ∷ writers) (suc place) d same low = log_writer nums writers place d (omega (arith, same)) (omega (arith, low))

-- they are the entries without values that have them
pub bare_of : (es : List Entry) → bare_log (map (λ (e : Entry). e.row.num) es) (order_of es) ≡ bare es
bare_of [] = refl
bare_of (e ∷ es) = ap (λ (xs : List Entry). record { writer = e.writer; row = record { num = e.row.num; values = [] } } ∷ xs) (bare_of es)

-- What is told of entries without values is told of the entries.
bare_at : (es : List Entry) (place : ℕ) → (row_at (rows_in (bare es)) place).num ≡ (row_at (rows_in es) place).num
bare_at [] place = refl
bare_at (e ∷ es) zero = refl
bare_at (e ∷ es) (suc place) = bare_at es place

bare_nums : (es : List Entry) (places : List ℕ) → nums_at (rows_in (bare es)) places ≡ nums_at (rows_in es) places
bare_nums es [] = refl
bare_nums es (place ∷ places) = ap₂ (λ (n : ℕ) (ns : List ℕ). n ∷ ns) (bare_at es place) (bare_nums es places)

shown_agree : (f g : List ℕ → List ℕ) → ((ps : List ℕ) → f ps ≡ g ps) → (body : Body) → shown f body ≡ shown g body
shown_agree f g same (bodies.Places places) = ap numbers_text (same places)
shown_agree f g same (bodies.Total quad) = refl
shown_agree f g same (bodies.Marks marks) = refl
shown_agree f g same (bodies.Tops tops) = refl
shown_agree f g same (bodies.Groups groups) = refl

pub bare_long : (es : List Entry) → length (bare es) ≡ length es
bare_long [] = refl
bare_long (e ∷ es) = ap suc (bare_long es)

rows_long : (es : List Entry) → length (rows_in (bare es)) ≡ length (rows_in es)
rows_long [] = refl
rows_long (e ∷ es) = ap suc (rows_long es)

bare_order : (es : List Entry) → order_of (bare es) ≡ order_of es
bare_order [] = refl
bare_order (e ∷ es) = ap (λ (ws : List ℕ). e.writer ∷ ws) (bare_order es)

module _ (setup : SetupValue) (es : List Entry) where
  bare_ask : (finals : List (AskReply Ask Body)) (place : ℕ) → ask_line_at setup (rows_in (bare es)) finals place ≡ ask_line_at setup (rows_in es) finals place
  bare_ask finals place =
      let told : AskReply Ask Body = get_or finals place nothing_told in
      ap (λ (text : List ℕ). line (codes "ask " ++ ask_name setup place ++ codes " " ++ word_of told.ask ++ text))
      (shown_agree (λ ps. sort (nums_at (rows_in (bare es)) ps)) (λ ps. sort (nums_at (rows_in es) ps)) (λ ps. ap sort (bare_nums es ps)) told.body)

  bare_asks : (finals : List (AskReply Ask Body)) → ask_lines setup (rows_in (bare es)) finals ≡ ask_lines setup (rows_in es) finals
  bare_asks finals = flat_agree (ask_line_at setup (rows_in (bare es)) finals) (ask_line_at setup (rows_in es) finals) (bare_ask finals)
      (range_with_len 0 (length setup.asks))

  bare_final : (finals : List (AskReply Ask Body)) (alerts : List (List Fired))
      → final_part setup (rows_in (bare es)) finals alerts ≡ final_part setup (rows_in es) finals alerts
  bare_final finals alerts =
      ap₂ (λ (n : ℕ) (lines : List ℕ). line (codes "records " ++ decimal n) ++ lines
      ++ flat_map (alert_lines_at setup alerts) (range_with_len 0 (length setup.triggers))) (rows_long es) (bare_asks finals)

  bare_lives : (earlier lives : List Live) → live_lines setup (rows_in (bare es)) earlier lives ≡ live_lines setup (rows_in es) earlier lives
  bare_lives earlier [] = refl
  bare_lives earlier (live ∷ lives) =
      let one : live_line setup (rows_in (bare es)) live ≡ live_line setup (rows_in es) live =
      ap (λ (text : List ℕ). line (live_head setup (codes "live") live ++ text))
      (shown_agree (nums_at (rows_in (bare es))) (nums_at (rows_in es)) (bare_nums es) (told_live setup live).body) in
      ap₂ (λ (x y : List ℕ). x ++ new_line setup earlier live live.answer.body ++ y) one (bare_lives (earlier ++ live ∷ []) lives)

  pub text_bare : (form : Form) (answered : LoadedValue) → text_of form setup (bare es) answered ≡ text_of form setup es answered
  text_bare Whole answered =
      ap₂ (λ (x y : List ℕ). x ++ y)
      (ap₂ (λ (x y : List ℕ). x ++ y) (bare_final (tolds_of setup.asks answered.finals) answered.alerts) (bare_lives [] answered.lives))
      (ap order_line (bare_order es))
  text_bare Final answered = bare_final (tolds_of setup.asks answered.finals) answered.alerts

  pub host_bare : (host : ℕ) (finals : List (AskReply Ask Body)) → host_part setup host (rows_in (bare es)) finals ≡ host_part setup host (rows_in es) finals
  host_bare host finals =
      ap₂ (λ (n : ℕ) (lines : List ℕ). line (codes "host " ++ decimal host ++ codes " @" ++ decimal n) ++ lines) (rows_long es) (bare_asks finals)
