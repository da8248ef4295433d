-- Captured frames.
use Rattle.std.specs.Prelude.{ℕ, List}
use Rattle.cf_pcap.specs.Capture.{FrameValue}
use Rattle.cf_headers.specs.declared.frame.FrameInfo.{FrameInfo}

-- the frame of these bytes
abbrev pub frame_of : FrameInfo → List ℕ → FrameValue
frame_of info bytes = record { num = info.num; ts = info.ts; caplen = info.caplen; len = info.len; link = info.link; bytes = bytes }
