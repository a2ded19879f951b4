use Rattle.checkpoints.proofs.tests.a_root_step_is_cut_off.Given as goal

abbrev pub ghosts-try_all : goal.ghosts-try_all
ghosts-try_all g a = record { name = a.blank.name; parts = a.blank.parts }
