use Rattle.cf_make.proofs.Reading.{made_is_capture, frames_many}
use Rattle.cf_make.proofs.laws.each_generated_file_is_a_capture.Goals as goal

pub returns : goal.returns
returns c = record { capture = made_is_capture; many = frames_many }
