-- The two formats of captures.
use Rattle.std.specs.Prelude.{ℕ, Bool, List, [], ◌∷◌, nat_eq}
use Rattle.std.specs.List.{starts_with}

-- the first four bytes are those of the type of a section header, with which a file of PCAP Next Generation begins
-- (draft-ietf-opsawg-pcapng)
unfoldable pub begins_section : List ℕ → Bool
begins_section bytes = starts_with nat_eq bytes (0x0a ∷ 0x0d ∷ 0x0d ∷ 0x0a ∷ [])
