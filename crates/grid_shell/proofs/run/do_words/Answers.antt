use Rattle.std.proofs.Common.{◌≡◌, inl, inr, refl}
use Rattle.grid_shell.proofs.run.do_words.Goals as goal

pub returns-in-Ok-clause-came : goal.returns-in-Ok-clause-came
returns-in-Ok-clause-came g c = inr (record { command = c.in-Ok.command; meant = c.in-Ok.ensures.meant; done = c.do_command.ensures.does; elsewhere = c.do_command.ensures.elsewhere })

pub returns-in-Err-Words-clause-came : goal.returns-in-Err-Words-clause-came
returns-in-Err-Words-clause-came g c = inl (record {
  ends = inl (refl, λ command offered means. c.in-Err-Words.ensures.nothing c.in-Err-Words.field-0-is command means);
  untouched = record { bay_same = refl; nothing = record { input_same = refl; silent = refl } };
})

pub returns-in-Err-Memory-clause-came : goal.returns-in-Err-Memory-clause-came
returns-in-Err-Memory-clause-came g c = inl (record {
  ends = inr refl;
  untouched = record { bay_same = refl; nothing = record { input_same = refl; silent = refl } };
})
