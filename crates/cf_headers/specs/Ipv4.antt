-- The IPv4 header (RFC 791), which would stand at a place, and the TCP (RFC 9293) or UDP (RFC 768) header that it carries. Numbers have
-- their highest byte first (RFC 791, appendix B).
use Rattle.std.specs.Prelude.{ℕ, ◌+◌, ◌*◌, ◌/◌, ◌%◌, ◌^◌, Bool, ◌&&◌, ◌==◌, nat_le, min, List, length, drop, slice_index, if◌then◌else◌}
use Rattle.byteorder.specs.Endian.{big_number}
use Rattle.cf_headers.specs.declared.transport.Transport.{Transport}
use Rattle.cf_headers.specs.declared.transport.Transport.TheVariants.{Unread, Tcp, Udp}

-- its length in words of 4 bytes: the low half of its first byte
abbrev pub header_words : ℕ → List ℕ → ℕ
header_words place frame = slice_index frame place % 16

-- where what it carries begins
abbrev pub transport_at : ℕ → List ℕ → ℕ
transport_at place frame = place + 4 * header_words place frame

-- it stands there whole: type 0800, version 4, 5 words or more
unfoldable pub has_ipv4 : ℕ → ℕ → List ℕ → Bool
has_ipv4 etype place frame =
    nat_le (place + 20) (length frame) && (etype == 0x0800) && (slice_index frame place / 16 == 4)
    && nat_le 5 (header_words place frame) && nat_le (transport_at place frame) (length frame)

-- the total length of its packet (RFC 791, section 3.1)
abbrev pub total_length : ℕ → List ℕ → ℕ
total_length place frame = big_number 2 (drop (place + 2) frame)

-- where its packet ends: by its total length, if that isn't 0, and within the frame
unfoldable pub packet_end : ℕ → List ℕ → ℕ
packet_end place frame = if total_length place frame == 0 then length frame else min (length frame) (place + total_length place frame)

-- the packet carries that protocol (1 byte of the IPv4 header), from the beginning of it (the fragment offset, 13 bits,
-- is 0), and holds a header of that many bytes
unfoldable pub carries : ℕ → ℕ → ℕ → List ℕ → Bool
carries protocol bytes place frame =
    (big_number 2 (drop (place + 6) frame) % 2 ^ 13 == 0) && (slice_index frame (place + 9) == protocol)
    && nat_le (transport_at place frame + bytes) (packet_end place frame)

-- the transport header that is read: TCP (6, 20 bytes), UDP (17, 8 bytes), or none
unfoldable pub transport4_in : ℕ → List ℕ → Transport
transport4_in place frame =
    if carries 6 20 place frame then Tcp (transport_at place frame)
    else if carries 17 8 place frame then Udp (transport_at place frame) else Unread
