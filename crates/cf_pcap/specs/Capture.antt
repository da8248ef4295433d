-- Captures in the libpcap file format 2.4 (pcap savefile, pcap-savefile(5)), as whole files.
use Rattle.std.specs.Prelude.{◌≡◌, ◌⊎◌, ℕ, ◌+◌, ◌*◌, ◌^◌, ◌%◌, ◌<◌, ◌≤◌, ◌==◌, true, false, if◌then◌else◌, List, [], ◌∷◌, length, drop, slice_range, Option, Some, None}
use Rattle.cf_pcap.specs.declared.limit.Length.{Length}
use Rattle.cf_pcap.specs.Limits.{IsShort, IsLong, count_on, number_of, num_of}
use Rattle.cf_pcap.specs.Format.{seen}
use Rattle.byteorder.specs.Endian.{little_number, big_number}
use Rattle.cf_pcap.specs.declared.form.Order.{Order}
use Rattle.cf_pcap.specs.declared.form.Order.TheVariants.{Little, Big}
use Rattle.cf_pcap.specs.declared.form.Precision.{Precision}
use Rattle.cf_pcap.specs.declared.form.Precision.TheVariants.{Micro, Nano}
use Rattle.cf_pcap.specs.declared.form.Layout.{Layout}
use Rattle.cf_pcap.specs.declared.links.LinkSet.{LinkSet}
use Rattle.cf_pcap.specs.declared.scope.Scope.{Scope}
use Rattle.cf_pcap.specs.Links.{is_link, longest}
use Rattle.cf_pcap.specs.declared.form.FileHeader.{FileHeader}
use Rattle.cf_pcap.specs.declared.fault.PcapFault.{PcapFault}
use Rattle.cf_pcap.specs.declared.fault.PcapFault.TheVariants.{BadMagic, BadVersion, BadLink, FrameTooLong, Cut, TooManyBytes, Memory}

-- a frame as contracts see it
pub record FrameValue : Type 0 where
  pub num : ℕ
  pub ts : ℕ
  pub caplen : ℕ
  pub len : ℕ
  pub link : ℕ
  pub bytes : List ℕ

-- the number in the first n bytes, in this byte order
abbrev pub number_in : Order → ℕ → List ℕ → ℕ
number_in Little n bytes = little_number n bytes
number_in Big n bytes = big_number n bytes

-- the nanoseconds of a unit of the fraction of a second
abbrev pub tick_of : Precision → ℕ
tick_of Micro = 1000
tick_of Nano = 1

-- the byte order and the unit that the magic in the first four bytes states: 0xa1b2c3d4 in the file's byte order for
-- microseconds, 0xa1b23c4d for nanoseconds
unfoldable pub layout_of : List ℕ → Option Layout
layout_of bytes =
    if little_number 4 bytes == 0xa1b2c3d4 then Some (record { order = Little; precision = Micro })
    else (if little_number 4 bytes == 0xa1b23c4d then Some (record { order = Little; precision = Nano })
    else (if big_number 4 bytes == 0xa1b2c3d4 then Some (record { order = Big; precision = Micro })
    else (if big_number 4 bytes == 0xa1b23c4d then Some (record { order = Big; precision = Nano })
    else None)))

-- the major and the minor version of the file header are 2 and 4
pub record IsVersion (layout : Layout) (bytes : List ℕ) : Type 0 where
  pub major : number_in layout.order 2 (drop 4 bytes) ≡ 2
  pub minor : number_in layout.order 2 (drop 6 bytes) ≡ 4

-- the link: the low 16 bits of the file header's last field
abbrev pub link_at : Layout → List ℕ → ℕ
link_at layout bytes = number_in layout.order 4 (drop 20 bytes) % 2 ^ 16

-- a file header of 24 bytes stands at the front, of one of these links. The time zone, the accuracy and the snapshot length are ignored.
pub record IsFileHeader (links : LinkSet) (header : FileHeader) (bytes : List ℕ) : Type 0 where
  pub size : 24 ≤ length bytes
  pub magic : layout_of bytes ≡ Some header.layout
  pub version : IsVersion header.layout bytes
  pub link : header.link ≡ link_at header.layout bytes
  pub lawful : is_link links header.link ≡ true

-- the captured length that the record header at the front states
abbrev pub caplen_at : FileHeader → List ℕ → ℕ
caplen_at header bytes = number_in header.layout.order 4 (drop 8 bytes)

-- a lawful record stands whole at the front: a header of 16 bytes, and as many bytes as it states
pub record HasRecord (header : FileHeader) (bytes : List ℕ) : Type 0 where
  pub short : caplen_at header bytes ≤ longest
  pub whole : 16 + caplen_at header bytes ≤ length bytes

-- a record header that states more bytes than a record may hold
pub record HasLongRecord (header : FileHeader) (bytes : List ℕ) : Type 0 where
  pub head : 16 ≤ length bytes
  pub long : longest < caplen_at header bytes

-- the frame of the record at the front, as number k: seconds and their fraction, the captured length, the length on the
-- wire, the link of the file, the captured bytes
abbrev pub frame_at : FileHeader → ℕ → List ℕ → FrameValue
frame_at header k bytes = record {
  num = k;
  ts = number_in header.layout.order 4 bytes * 10 ^ 9 + number_in header.layout.order 4 (drop 4 bytes) * tick_of header.layout.precision;
  caplen = caplen_at header bytes;
  len = number_in header.layout.order 4 (drop 12 bytes);
  link = header.link;
  bytes = slice_range bytes 16 (16 + caplen_at header bytes);
}

-- the bytes are the records of these frames end to end, the first of them after k others, and then the rest
abbrev pub AreRecordsThen : Length → FileHeader → ℕ → List FrameValue → List ℕ → List ℕ → Type 0
AreRecordsThen limit header k [] bytes rest = bytes ≡ rest
AreRecordsThen limit header k (frame ∷ frames) bytes rest =
    HasRecord header bytes × (frame ≡ frame_at header (num_of limit k) bytes)
    × AreRecordsThen limit header (count_on limit k 1) frames (drop (16 + caplen_at header bytes) bytes) rest

-- a file header, the records of these frames, and then the rest
pub record IsReadTo (scope : Scope) (header : FileHeader) (bytes : List ℕ) (frames : List FrameValue) (rest : List ℕ) : Type 0 where
  pub begin : IsFileHeader scope.links header bytes
  pub records : AreRecordsThen scope.length header 0 frames (drop 24 bytes) rest

-- a file of this scope is a capture of these frames: a file header and their records, and nothing else
pub record IsCapture (scope : Scope) (file : List ℕ) (frames : List FrameValue) : Type 0 where
  pub size : IsShort scope.length (length file)
  pub header : FileHeader
  pub whole : IsReadTo scope header file frames []

-- Faults. The magic is found false after 4 bytes, the version after 8, the link after 24, and a captured length after
-- the 16 bytes of its record header.

-- the magic is none of the four
pub record HasBadMagic (bytes : List ℕ) : Type 0 where
  pub size : 4 ≤ length bytes
  pub magic : layout_of bytes ≡ None

-- the version is none that is read
pub record HasBadVersion (bytes : List ℕ) : Type 0 where
  pub size : 8 ≤ length bytes
  pub layout : Layout
  pub magic : layout_of bytes ≡ Some layout
  pub version : IsVersion layout bytes → ⊥

-- the link is none of those that are read
pub record HasBadLink (links : LinkSet) (bytes : List ℕ) : Type 0 where
  pub size : 24 ≤ length bytes
  pub layout : Layout
  pub magic : layout_of bytes ≡ Some layout
  pub version : IsVersion layout bytes
  pub link : is_link links (link_at layout bytes) ≡ false

-- after k whole records
pub record HasLongFrame (scope : Scope) (k : ℕ) (bytes : List ℕ) : Type 0 where
  pub header : FileHeader
  pub frames : List FrameValue
  pub rest : List ℕ
  pub read : IsReadTo scope header bytes frames rest
  pub number_is : k ≡ number_of scope.length (length frames)
  pub long : HasLongRecord header rest

-- a fault that these bytes show, whatever comes after them
abbrev pub Shows : Scope → List ℕ → PcapFault → Type 0
Shows scope bytes BadMagic = HasBadMagic bytes
Shows scope bytes BadVersion = HasBadVersion bytes
Shows scope bytes BadLink = HasBadLink scope.links bytes
Shows scope bytes (FrameTooLong k) = HasLongFrame scope k bytes
Shows scope bytes (Cut k) = ⊥
Shows scope bytes TooManyBytes = ⊥
Shows scope bytes Memory = ⊥

-- too many bytes, 2^32 or more, and those that count show no fault
pub record HasTooManyBytes (scope : Scope) (file : List ℕ) : Type 0 where
  pub size : IsLong scope.length (length file)
  pub first : (fault : PcapFault) → Shows scope (seen scope.length file) fault → ⊥

-- fewer bytes than a file header has
pub record EndsInHeader (k : ℕ) (file : List ℕ) : Type 0 where
  pub size : length file < 24
  pub number_is : k ≡ 0

-- after k whole records something is left, which is no whole record
pub record EndsInRecord (scope : Scope) (k : ℕ) (file : List ℕ) : Type 0 where
  pub header : FileHeader
  pub frames : List FrameValue
  pub rest : List ℕ
  pub read : IsReadTo scope header file frames rest
  pub number_is : k ≡ number_of scope.length (length frames)
  pub left : 0 < length rest
  pub part : HasRecord header rest → ⊥

-- a file that is no longer than it may be, and shows no fault, ends too early
pub record IsCut (scope : Scope) (k : ℕ) (file : List ℕ) : Type 0 where
  pub size : IsShort scope.length (length file)
  pub first : (fault : PcapFault) → Shows scope (seen scope.length file) fault → ⊥
  pub ends : EndsInHeader k file ⊎ EndsInRecord scope k file

-- why a file is no capture. Each file is a capture of some frames or has one fault (`OneCase`).
abbrev pub HasPcapFault : Scope → List ℕ → PcapFault → Type 0
HasPcapFault scope file BadMagic = Shows scope (seen scope.length file) BadMagic
HasPcapFault scope file BadVersion = Shows scope (seen scope.length file) BadVersion
HasPcapFault scope file BadLink = Shows scope (seen scope.length file) BadLink
HasPcapFault scope file (FrameTooLong k) = Shows scope (seen scope.length file) (FrameTooLong k)
HasPcapFault scope file (Cut k) = IsCut scope k file
HasPcapFault scope file TooManyBytes = HasTooManyBytes scope file
HasPcapFault scope file Memory = ⊥
