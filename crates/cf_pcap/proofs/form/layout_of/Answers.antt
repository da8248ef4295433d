use Rattle.std.proofs.Common.{rules}
use Rattle.cf_pcap.specs.Capture.{layout_of}
use Rattle.cf_pcap.proofs.form.layout_of.Goals as goal

pub returns-then-little : goal.returns-then-little
unfolding layout_of
returns-then-little c = search rules

pub returns-then-little-2 : goal.returns-then-little-2
unfolding layout_of
returns-then-little-2 c = search rules

pub returns-then-big : goal.returns-then-big
unfolding layout_of
returns-then-big c = search rules

pub returns-then-big-2 : goal.returns-then-big-2
unfolding layout_of
returns-then-big-2 c = search rules

pub returns : goal.returns
unfolding layout_of
returns c = search rules
