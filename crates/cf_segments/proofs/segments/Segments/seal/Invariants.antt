use Rattle.cf_segments.proofs.segments.Segments.seal.Given as goal

abbrev pub ghosts-read_columns : goal.ghosts-read_columns
ghosts-read_columns a = record { name = a.blank.name; parts = a.blank.parts }
