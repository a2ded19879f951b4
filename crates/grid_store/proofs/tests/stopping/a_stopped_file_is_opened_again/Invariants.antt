use Rattle.grid_store.proofs.tests.stopping.a_stopped_file_is_opened_again.Given as goal

abbrev pub ghosts-first_lost : goal.ghosts-first_lost
ghosts-first_lost g a = record { name = a.blank.name; parts = a.blank.parts }
