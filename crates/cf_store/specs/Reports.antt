-- The report of what a reader has seen.
use Rattle.std.specs.Prelude.{◌≡◌, ℕ, Result, Ok, Err, Vec}
use Rattle.std.specs.Arc.{arc_value}
use Rattle.std.specs.Global.{Global}
use Rattle.std.specs.declared.alloc.AllocError.{AllocError}
use Rattle.cf_query.specs.Walks.{OnlyWalked}
use Rattle.cf_store.specs.Seen.{seen_text}
use Rattle.cf_store.specs.declared.held.Reader.{Reader}

-- the reader walked the log, has seen as much, and keeps its words
pub record HasWalked (before after : Reader) : Type 0 where
  pub of : after.of ≡ before.of
  pub words : after.words ≡ before.words
  pub walked : OnlyWalked before.pass after.pass

-- The text is that of the report of what the reader has seen; or there was no memory.
abbrev pub Reports : Reader → Reader → Result (Vec ℕ Global) AllocError → Type 0
Reports m n (Ok text) = HasWalked m n × (text.items ≡ seen_text (arc_value m.of).log.shape (arc_value m.of).setup (m.pass.view).seen)
Reports m n (Err e) = HasWalked m n
