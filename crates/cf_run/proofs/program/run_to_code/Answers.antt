use Rattle.std.proofs.Common.{rules}
use Rattle.cf_run.proofs.program.run_to_code.Goals as goal

pub returns-clause-ended : goal.returns-clause-ended
returns-clause-ended g c =
    let ran = c.run-outcome.ensures in record {
      status = c.run-outcome.result.status;
      seals = c.run-outcome.result.seals.items;
      number_is = search rules;
      written = ran.written;
      by_command = ran.by_command;
      no_seals = ran.no_seals;
      decided = ran.decided;
      complete = ran.complete;
      words = ran.words;
      no_words_front = ran.no_words_front;
    }
