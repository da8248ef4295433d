-- Generated captures: files of the libpcap format 2.4 (pcap-savefile(5)) whose packets take their fields from the numbers of
-- a linear congruential generator.
use Rattle.std.specs.Prelude.{ℕ, zero, suc, ◌+◌, ◌-◌, ◌*◌, ◌/◌, ◌%◌, ◌^◌, ◌==◌, Bool, List, [], ◌∷◌, ◌++◌, map, flat_map, if◌then◌else◌}
use Rattle.std.specs.List.{range_with_len}
use Rattle.byteorder.specs.Endian.{little_bytes, big_bytes}
use Rattle.cf_pcap.specs.Capture.{FrameValue}

-- a step of the generator, modulo 2^64; the multiplier and the increment are those of MMIX (D. E. Knuth, The Art of Computer
-- Programming, volume 2, section 3.3.4)
abbrev pub next_state : ℕ → ℕ
next_state x = (x * 6364136223846793005 + 1442695040888963407) % 2 ^ 64

-- the state after k steps from the seed
unfoldable pub state : ℕ → ℕ → ℕ
state seed zero = seed
state seed (suc k) = next_state (state seed k)

-- what packet k is made from: the high half of the state after k + 1 steps
unfoldable pub draw_of : ℕ → ℕ → ℕ
draw_of seed k = state seed (suc k) / 2 ^ 32

-- What the bits of a draw say. One packet of four is UDP, the others are TCP.
abbrev pub is_udp : ℕ → Bool
is_udp draw = draw / 2 ^ 8 % 4 == 0

-- the length of the frame on the wire
abbrev pub wire_length : ℕ → ℕ
wire_length draw = 64 + draw / 2 ^ 20 % 1024

-- the source port, from 40000 to 40255
abbrev pub source_port : ℕ → ℕ
source_port draw = 40000 + draw / 2 ^ 10 % 256

-- the port of a service (IANA): 53 domain, 80 http, 443 https, 8080 http-alt
abbrev pub port_of_service : ℕ → ℕ
port_of_service service = if service == 0 then 53 else if service == 1 then 80 else if service == 2 then 443 else 8080

-- the destination port, one of the four services'
abbrev pub destination_port : ℕ → ℕ
destination_port draw = port_of_service (draw / 2 ^ 18 % 4)

-- the protocol (RFC 791, and the numbers of IANA)
abbrev pub protocol : ℕ → ℕ
protocol draw = if is_udp draw then 17 else 6

-- the captured bytes: the headers alone, of 14, 20, and 8 or 20 bytes
abbrev pub captured_length : ℕ → ℕ
captured_length draw = if is_udp draw then 42 else 54

-- little-endian, times in microseconds, version 2.4, time zone 0, accuracy 0, snapshot length 65535, LINKTYPE_ETHERNET
unfoldable pub file_header : List ℕ
file_header =
    little_bytes 4 0xa1b2c3d4 ++ little_bytes 2 2 ++ little_bytes 2 4
    ++ little_bytes 4 0 ++ little_bytes 4 0 ++ little_bytes 4 65535 ++ little_bytes 4 1

-- the header of record k: seconds, microseconds, captured length, length on the wire
unfoldable pub record_header : ℕ → ℕ → List ℕ
record_header k draw =
    little_bytes 4 (1 + k / 1000) ++ little_bytes 4 (k % 1000 * 1000)
    ++ little_bytes 4 (captured_length draw) ++ little_bytes 4 (wire_length draw)

-- Ethernet II: destination and source 02:00:00:00:00:01 and 02:00:00:00:00:02, type IPv4
unfoldable pub link_header : List ℕ
link_header = (2 ∷ 0 ∷ 0 ∷ 0 ∷ 0 ∷ 1 ∷ []) ++ (2 ∷ 0 ∷ 0 ∷ 0 ∷ 0 ∷ 2 ∷ []) ++ big_bytes 2 0x0800

-- IPv4 (RFC 791): 5 words, total length, no fragments, 64 hops, no checksum, from 10.0.0.x to 10.0.1.y
unfoldable pub network_header : ℕ → List ℕ
network_header draw =
    (0x45 ∷ 0 ∷ []) ++ big_bytes 2 (wire_length draw - 14)
    ++ (0 ∷ 0 ∷ 0 ∷ 0 ∷ []) ++ (64 ∷ protocol draw ∷ 0 ∷ 0 ∷ [])
    ++ (10 ∷ 0 ∷ 0 ∷ draw % 16 ∷ []) ++ (10 ∷ 0 ∷ 1 ∷ draw / 16 % 16 ∷ [])

-- the first 4 bytes of TCP and UDP (RFC 9293, RFC 768): source port, destination port
unfoldable pub ports : ℕ → List ℕ
ports draw = big_bytes 2 (source_port draw) ++ big_bytes 2 (destination_port draw)

-- UDP (RFC 768): ports, length, no checksum
unfoldable pub datagram_header : ℕ → List ℕ
datagram_header draw = ports draw ++ big_bytes 2 (wire_length draw - 34) ++ (0 ∷ 0 ∷ [])

-- TCP (RFC 9293): ports, sequence number k, acknowledgement 0, 5 words and ACK, window 1024, no checksum, nothing urgent
unfoldable pub segment_header : ℕ → ℕ → List ℕ
segment_header k draw =
    ports draw ++ big_bytes 4 k ++ big_bytes 4 0 ++ (0x50 ∷ 0x10 ∷ []) ++ big_bytes 2 1024 ++ (0 ∷ 0 ∷ 0 ∷ 0 ∷ [])

-- the header of the protocol
unfoldable pub transport_header : ℕ → ℕ → List ℕ
transport_header k draw = if is_udp draw then datagram_header draw else segment_header k draw

-- the captured bytes of packet k: its headers
unfoldable pub packet_of : ℕ → ℕ → List ℕ
packet_of k draw = link_header ++ network_header draw ++ transport_header k draw

-- record k, by its draw
unfoldable pub record_of : ℕ → ℕ → List ℕ
record_of k draw = record_header k draw ++ packet_of k draw

-- record k of a seed's capture
unfoldable pub record_at : ℕ → ℕ → List ℕ
record_at seed k = record_of k (draw_of seed k)

-- the file header, and records 0 to count - 1 end to end
unfoldable pub generated_bytes : ℕ → ℕ → List ℕ
generated_bytes seed count = file_header ++ flat_map (record_at seed) (range_with_len 0 count)

-- The frames that a reader finds there.

-- packet k, which comes k milliseconds after the first second, of Ethernet
unfoldable pub frame_of : ℕ → ℕ → FrameValue
frame_of k draw = record {
  num = k;
  ts = 10 ^ 9 + k * 10 ^ 6;
  caplen = captured_length draw;
  len = wire_length draw;
  link = 1;
  bytes = packet_of k draw;
}

-- frame k of a seed's capture
unfoldable pub frame_from : ℕ → ℕ → FrameValue
frame_from seed k = frame_of k (draw_of seed k)

-- frames 0 to count - 1
unfoldable pub generated_frames : ℕ → ℕ → List FrameValue
generated_frames seed count = map (frame_from seed) (range_with_len 0 count)
