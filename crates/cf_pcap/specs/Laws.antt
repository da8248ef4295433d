-- Each file has one meaning.
use Rattle.std.specs.Prelude.{ℕ, List}
use Rattle.cf_pcap.specs.Streams.{OneGift as OneGiftOf}
use Rattle.cf_pcap.specs.declared.scope.Scope.{Scope}
use Rattle.cf_pcap.specs.declared.fault.PcapFault.{PcapFault}
use Rattle.cf_pcap.specs.declared.fault.PcapFault.TheVariants.{Cut}
use Rattle.cf_pcap.specs.Capture.{IsCapture, HasPcapFault}
use Rattle.cf_pcap.specs.File.{pcap}
use Rattle.cf_pcap.specs.Kinds.{Kind}
use Rattle.cf_pcap.specs.Kinds as kinds

-- captures of records, of this scope
abbrev pub records : Scope → Kind PcapFault
records scope = record { longest = scope.length; Is = IsCapture scope; Has = HasPcapFault scope; cut = Cut }

-- a file is a capture or has a fault, never both, and of one list of frames or by one fault alone
abbrev pub OneCase : Scope → List ℕ → Type 0
OneCase scope file = kinds.OneCase (records scope) file

-- a stream gives one list of frames
abbrev pub OneGift : Scope → List ℕ → Type 0
OneGift scope stream = OneGiftOf (pcap scope) stream

-- by its units a file is whole, or has a fault, just where it is a capture, or has that fault
abbrev pub JudgedAlike : Scope → List ℕ → Type 0
JudgedAlike scope file = kinds.JudgedAlike (records scope) (pcap scope) file
