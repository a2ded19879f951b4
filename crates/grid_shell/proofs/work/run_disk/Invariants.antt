use Rattle.grid_shell.proofs.work.run_disk.Given as goal

abbrev pub ghosts-run_shaped : goal.ghosts-run_shaped
ghosts-run_shaped g a = record { name = a.blank.name; parts = a.blank.parts }
