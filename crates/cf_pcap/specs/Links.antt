-- The links of captures, by the registry of link-layer header types (tcpdump.org/linktypes.html).
use Rattle.std.specs.Prelude.{ℕ, ◌==◌, Bool, true, false, if◌then◌else◌, Option, Some, None}
use Rattle.cf_pcap.specs.declared.links.Link.{Link}
use Rattle.cf_pcap.specs.declared.links.Link.TheVariants.{Ethernet, LinuxCooked, LinuxCookedV2, RawIp, Ipv4, Ipv6, Null, Loop}
use Rattle.cf_pcap.specs.declared.links.LinkSet.{LinkSet}
use Rattle.cf_pcap.specs.declared.links.LinkSet.TheVariants.{Basic, All}
use Rattle.cf_pcap.specs.declared.scope.Scope.{Scope}
use Rattle.cf_pcap.specs.declared.limit.Length.TheVariants.{Limited, Any}

-- LINKTYPE_ETHERNET, _LINUX_SLL, _LINUX_SLL2, _RAW, _IPV4, _IPV6, _NULL, _LOOP
abbrev pub number_of : Link → ℕ
number_of Ethernet = 1
number_of LinuxCooked = 113
number_of LinuxCookedV2 = 276
number_of RawIp = 101
number_of Ipv4 = 228
number_of Ipv6 = 229
number_of Null = 0
number_of Loop = 108

-- the link of a number
abbrev pub link_of : ℕ → Option Link
link_of n =
    if n == 1 then Some Ethernet
    else (if n == 113 then Some LinuxCooked
    else (if n == 276 then Some LinuxCookedV2
    else (if n == 101 then Some RawIp
    else (if n == 228 then Some Ipv4
    else (if n == 229 then Some Ipv6
    else (if n == 0 then Some Null
    else (if n == 108 then Some Loop
    else None)))))))

-- the two links of the packet schema, or all
abbrev pub has : LinkSet → Link → Bool
has All link = true
has Basic Ethernet = true
has Basic LinuxCooked = true
has Basic LinuxCookedV2 = false
has Basic RawIp = false
has Basic Ipv4 = false
has Basic Ipv6 = false
has Basic Null = false
has Basic Loop = false

-- it has one of these
abbrev pub has_some : LinkSet → Option Link → Bool
has_some links None = false
has_some links (Some link) = has links link

-- frames of the link of a number are read
unfoldable pub is_link : LinkSet → ℕ → Bool
is_link links n = has_some links (link_of n)

-- captures of these links below 2^32 bytes
abbrev pub limited : LinkSet → Scope
limited links = record { links = links; length = Limited }

-- captures of these links of any length
abbrev pub unlimited : LinkSet → Scope
unlimited links = record { links = links; length = Any }

-- captures of all links, as long as these may be
abbrev pub widened : Scope → Scope
widened scope = record { links = All; length = scope.length }

-- the most bytes that a record may hold of its frame: libpcap's MAXIMUM_SNAPLEN
abbrev pub longest : ℕ
longest = 262144
