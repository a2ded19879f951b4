use Rattle.file_roots.proofs.tests.roots_are_written_read_and_kept.Given as goal

abbrev pub ghosts-try_all : goal.ghosts-try_all
ghosts-try_all g a = record { name = a.blank.name; parts = a.blank.parts }
