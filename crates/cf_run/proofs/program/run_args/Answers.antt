use Rattle.cf_run.proofs.program.run_args.Goals as goal

pub returns : goal.returns
returns g c = (_, c.run_words.ensures.by_command)
