-- Where all links are read.
use Rattle.std.proofs.Common.{◌≡◌, ℕ, true, List, Option, Some, None, refl}
use Rattle.cf_pcap.specs.declared.links.Link.{Link}
use Rattle.cf_pcap.specs.declared.links.LinkSet.{LinkSet}
use Rattle.cf_pcap.specs.declared.links.LinkSet.TheVariants.{All}
use Rattle.cf_pcap.specs.declared.scope.Scope.{Scope}
use Rattle.cf_pcap.specs.Links.{link_of, has_some, is_link, widened}
use Rattle.cf_pcap.specs.Capture.{FrameValue, IsCapture}

some_link : (links : LinkSet) (found : Option Link) → has_some links found ≡ true → has_some All found ≡ true
some_link links None h = h
some_link links (Some link) h = refl

pub link_of_all : (links : LinkSet) (n : ℕ) → is_link links n ≡ true → is_link All n ≡ true
unfolding is_link
link_of_all links n h = some_link links (link_of n) h

pub capture_of_all : (scope : Scope) (file : List ℕ) (frames : List FrameValue) → IsCapture scope file frames → IsCapture (widened scope) file frames
capture_of_all scope file frames h =
    let begin = h.whole.begin in record {
      size = h.size;
      header = h.header;
      whole = record {
        begin = record {
          size = begin.size;
          magic = begin.magic;
          version = begin.version;
          link = begin.link;
          lawful = link_of_all scope.links h.header.link begin.lawful;
        };
        records = h.whole.records;
      };
    }
