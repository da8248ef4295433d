-- Captures as units end to end: a file header, and then records. `IsCapture` says without units what a capture is.
use Rattle.std.specs.Prelude.{ℕ, ◌+◌, ◌==◌, ◌&&◌, nat_lt, if◌then◌else◌, Bool, is_some, List, [], ◌∷◌, length, drop, Option, Some, None}
use Rattle.cf_pcap.specs.declared.limit.Length.{Length}
use Rattle.cf_pcap.specs.Limits.{count_on, num_of}
use Rattle.cf_pcap.specs.Format.{Found, Wants, Bad, Takes, Format}
use Rattle.cf_pcap.specs.declared.form.Layout.{Layout}
use Rattle.cf_pcap.specs.declared.form.FileHeader.{FileHeader}
use Rattle.cf_pcap.specs.declared.links.LinkSet.{LinkSet}
use Rattle.cf_pcap.specs.declared.scope.Scope.{Scope}
use Rattle.cf_pcap.specs.declared.fault.PcapFault.{PcapFault}
use Rattle.cf_pcap.specs.declared.fault.PcapFault.TheVariants.{BadMagic, BadVersion, BadLink, FrameTooLong, Cut, TooManyBytes}
use Rattle.cf_pcap.specs.declared.head.HeaderShown.{HeaderShown}
use Rattle.cf_pcap.specs.declared.head.HeaderShown.TheVariants.{Short, Faulty, Stands}
use Rattle.cf_pcap.specs.Capture.{FrameValue, number_in, layout_of, link_at, caplen_at, frame_at}
use Rattle.cf_pcap.specs.Links.{is_link, longest}

-- how far a file was read: what its header states, once that was read, and how many frames came
pub record State : Type 0 where
  pub header : Option FileHeader
  pub count : ℕ

-- the version is 2.4
abbrev pub is_version : Layout → List ℕ → Bool
is_version layout bytes = (number_in layout.order 2 (drop 4 bytes) == 2) && (number_in layout.order 2 (drop 6 bytes) == 4)

-- what a file header shows whose version is right: its link after 24 bytes
abbrev pub by_link : LinkSet → Layout → List ℕ → HeaderShown
by_link links layout bytes =
    if nat_lt (length bytes) 24 then Short
    else (if is_link links (link_at layout bytes) then Stands (record { layout = layout; link = link_at layout bytes }) else Faulty BadLink)

-- what one shows by its magic: its version after 8 bytes
abbrev pub by_layout : LinkSet → Option Layout → List ℕ → HeaderShown
by_layout links None bytes = Faulty BadMagic
by_layout links (Some layout) bytes =
    if nat_lt (length bytes) 8 then Short
    else (if is_version layout bytes then by_link links layout bytes else Faulty BadVersion)

-- what the first bytes of a file show of its header: the magic after 4 bytes
unfoldable pub head_of : LinkSet → List ℕ → HeaderShown
head_of links bytes = if nat_lt (length bytes) 4 then Short else by_layout links (layout_of bytes) bytes

-- a file header gives no frame
abbrev pub head_found : ℕ → HeaderShown → Found State FrameValue PcapFault
head_found k Short = Wants
head_found k (Faulty fault) = Bad fault
head_found k (Stands header) = Takes 24 [] (record { header = Some header; count = k })

-- a record gives one, after k others: its captured length is known after 16 bytes
abbrev pub record_found : Length → FileHeader → ℕ → List ℕ → Found State FrameValue PcapFault
record_found limit header k bytes =
    if nat_lt (length bytes) 16 then Wants
    else (if nat_lt longest (caplen_at header bytes) then Bad (FrameTooLong k)
    else (if nat_lt (length bytes) (16 + caplen_at header bytes) then Wants
    else Takes (16 + caplen_at header bytes) (frame_at header (num_of limit k) bytes ∷ []) (record { header = Some header; count = count_on limit k 1 })))

-- a file begins with its header
abbrev pub found_at : Scope → Option FileHeader → ℕ → List ℕ → Found State FrameValue PcapFault
found_at scope None k bytes = head_found k (head_of scope.links bytes)
found_at scope (Some header) k bytes = record_found scope.length header k bytes

-- what the bytes at the front show in a state: no whole header or record yet, a fault, or one of these
unfoldable pub step : Scope → State → List ℕ → Found State FrameValue PcapFault
step scope s bytes = found_at scope s.header s.count bytes

-- pcap of this scope: a file header, and then records end to end
abbrev pub pcap : Scope → Format State FrameValue PcapFault
pcap scope = record {
  length = scope.length;
  start = record { header = None; count = 0 };
  step = step scope;
  count = λ s. s.count;
  may_end = λ s. is_some s.header;
  cut = λ s. Cut s.count;
  too_many = TooManyBytes;
}
