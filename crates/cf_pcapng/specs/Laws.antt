-- Each file has one meaning.
use Rattle.std.specs.Prelude.{ℕ, List}
use Rattle.cf_pcap.specs.declared.scope.Scope.{Scope}
use Rattle.cf_pcap.specs.Kinds as kinds
use Rattle.cf_pcap.specs.Streams.{OneGift as OneGiftOf}
use Rattle.cf_pcapng.specs.File.{pcapng}
use Rattle.cf_pcapng.specs.Rules.{blocks}

-- a file is a capture or has a fault, never both, and of one list of frames or by one fault alone
abbrev pub OneCase : Scope → List ℕ → Type 0
OneCase scope file = kinds.OneCase (blocks scope) file

-- a stream gives one list of frames
abbrev pub OneGift : Scope → List ℕ → Type 0
OneGift scope stream = OneGiftOf (pcapng scope) stream
