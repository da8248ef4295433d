-- What the network header at a place of a frame says of what it carries.
use Rattle.std.specs.Prelude.{ℕ, ◌+◌, ◌≤◌, Bool, true, false, ◌==◌, List, length, slice_index, if◌then◌else◌, Option, Some, None}
use Rattle.cf_headers.specs.declared.carried.Carried.{Carried}
use Rattle.cf_headers.specs.declared.transport.Transport.{Transport}
use Rattle.cf_headers.specs.declared.transport.Transport.TheVariants.{Unread, Tcp, Udp}
use Rattle.cf_headers.specs.Ipv4.{has_ipv4, total_length, transport_at, carries, transport4_in}
use Rattle.cf_headers.specs.Ipv6.{payload_length, packet6_end, upper_of, brings, transport6_in}

-- `wire` is how many bytes the frame had before it was captured.

-- what an IPv4 header says of what it carries: the protocol, the transport header that is read, the place of an ICMP message (protocol
-- 1) of which the type and the code are there, and where the packet ends by its own length, captured or not
unfoldable pub carried4 : ℕ → ℕ → List ℕ → Carried
carried4 place wire frame = record {
  protocol = slice_index frame (place + 9);
  transport = transport4_in place frame;
  message = if carries 1 2 place frame then Some (transport_at place frame) else None;
  stop = if total_length place frame == 0 then wire else place + total_length place frame;
}

-- what an IPv6 header and the headers behind it say; ICMP is 58 there
unfoldable pub carried6 : ℕ → ℕ → List ℕ → Carried
carried6 place wire frame = record {
  protocol = (upper_of place frame).protocol;
  transport = transport6_in (upper_of place frame) (packet6_end place frame);
  message = if brings 58 2 (upper_of place frame) (packet6_end place frame) then Some (upper_of place frame).place else None;
  stop = if payload_length place frame == 0 then wire else place + 40 + payload_length place frame;
}

-- that of the IPv6 header, or of the IPv4 header if there is one
abbrev pub carried_in : Bool → ℕ → ℕ → ℕ → List ℕ → Option Carried
carried_in true etype place wire frame = Some (carried6 place wire frame)
carried_in false etype place wire frame = if has_ipv4 etype place frame then Some (carried4 place wire frame) else None

-- the transport header behind it, if one is read
abbrev pub transport_behind : Option Carried → Transport
transport_behind None = Unread
transport_behind (Some carried) = carried.transport

-- the header of that transport is within the frame
abbrev pub IsWithin : Transport → List ℕ → Type 0
IsWithin Unread frame = Unit {0}
IsWithin (Tcp place) frame = place + 20 ≤ length frame
IsWithin (Udp place) frame = place + 8 ≤ length frame

-- the kind of a packet: 2 for TCP, 3 for UDP, 1 for another one whose network header is read, 0 for the rest
abbrev pub kind_by : Transport → ℕ
kind_by Unread = 1
kind_by (Tcp place) = 2
kind_by (Udp place) = 3

abbrev pub kind_of : Option Carried → ℕ
kind_of None = 0
kind_of (Some carried) = kind_by carried.transport
