-- The IPv6 header (RFC 8200, section 3), which would stand at a place, and the headers behind it: hop-by-hop options (0), routing (43),
-- fragment (44) and destination options (60) of RFC 8200, section 4, and the authentication header (51) of RFC 4302, section 2.
use Rattle.std.specs.Prelude.{ℕ, zero, suc, ◌+◌, ◌*◌, ◌/◌, ◌%◌, Bool, true, false, ◌&&◌, ◌||◌, ◌==◌, not, nat_le, min, List, length, drop, slice_index, if◌then◌else◌}
use Rattle.byteorder.specs.Endian.{big_number}
use Rattle.cf_headers.specs.declared.extension.Upper.{Upper}
use Rattle.cf_headers.specs.declared.transport.Transport.{Transport}
use Rattle.cf_headers.specs.declared.transport.Transport.TheVariants.{Unread, Tcp, Udp}

-- it stands there whole: type 86dd, version 6
unfoldable pub has_ipv6 : ℕ → ℕ → List ℕ → Bool
has_ipv6 etype place frame = nat_le (place + 40) (length frame) && (etype == 0x86dd) && (slice_index frame place / 16 == 6)

-- the eight bits of its traffic class
abbrev pub traffic_class : ℕ → List ℕ → ℕ
traffic_class place frame = slice_index frame place % 16 * 16 + slice_index frame (place + 1) / 16

-- the length of what comes behind its 40 bytes
abbrev pub payload_length : ℕ → List ℕ → ℕ
payload_length place frame = big_number 2 (drop (place + 4) frame)

-- where its packet ends: by its payload length, if that isn't 0, and within the frame
unfoldable pub packet6_end : ℕ → List ℕ → ℕ
packet6_end place frame = if payload_length place frame == 0 then length frame else min (length frame) (place + 40 + payload_length place frame)

-- the header type of an extension header that is passed over
abbrev pub is_extension : ℕ → Bool
is_extension n = (n == 0) || ((n == 43) || ((n == 60) || ((n == 51) || (n == 44))))

-- how many bytes an extension header of that type takes at a place: its second byte counts units of 8 bytes but the first, that
-- of an authentication header units of 4 bytes but the first two; a fragment header has 8 bytes
abbrev pub extension_length : ℕ → ℕ → List ℕ → ℕ
extension_length n place frame =
    if n == 44 then 8
    else if n == 51 then 4 * (slice_index frame (place + 1) + 2)
    else 8 * (slice_index frame (place + 1) + 1)

-- an extension header of that type stands whole at a place before the end
unfoldable pub has_extension : ℕ → ℕ → ℕ → List ℕ → Bool
has_extension n place end frame = is_extension n && nat_le (place + 8) end && nat_le (place + extension_length n place frame) end

-- a fragment header, whose offset (13 bits) isn't 0: what follows is the later part of a packet
unfoldable pub is_later_part : ℕ → ℕ → List ℕ → Bool
is_later_part n place frame = (n == 44) && not (big_number 2 (drop (place + 2) frame) / 8 == 0)

-- the header of that type at a place, after at most so many extension headers more
abbrev pub upper_after : ℕ → ℕ → ℕ → ℕ → List ℕ → Upper
upper_after zero n place end frame = record { protocol = n; place = place; begins = true }
upper_after (suc k) n place end frame =
    if has_extension n place end frame
    then (if is_later_part n place frame
    then record { protocol = slice_index frame place; place = place + 8; begins = false }
    else upper_after k (slice_index frame place) (place + extension_length n place frame) end frame)
    else record { protocol = n; place = place; begins = true }

-- the header behind the IPv6 header at a place and at most eight extension headers
unfoldable pub upper_of : ℕ → List ℕ → Upper
upper_of place frame = upper_after 8 (slice_index frame (place + 6)) (place + 40) (packet6_end place frame) frame

-- the upper header is that of the protocol, of a packet that begins with it, and has so many bytes before the end
abbrev pub brings : ℕ → ℕ → Upper → ℕ → Bool
brings protocol bytes upper end = upper.begins && (upper.protocol == protocol) && nat_le (upper.place + bytes) end

-- the transport header that is read: TCP (6, 20 bytes), UDP (17, 8 bytes), or none
unfoldable pub transport6_in : Upper → ℕ → Transport
transport6_in upper end = if brings 6 20 upper end then Tcp upper.place else if brings 17 8 upper end then Udp upper.place else Unread
