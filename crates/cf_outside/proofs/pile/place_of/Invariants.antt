use Rattle.std.proofs.Common.{◌≡◌, drop}
use Rattle.cf_outside.specs.Files.{file_named}
use Rattle.cf_outside.proofs.pile.place_of.Given as goal

abbrev pub invariant-loop-place : goal.invariant-loop-place
invariant-loop-place l = file_named l.files l.name ≡ file_named (drop l.place l.files) l.name
