use Rattle.query_paths.proofs.tests.rows_are_found.Given as goal

abbrev pub ghosts-find_rows : goal.ghosts-find_rows
ghosts-find_rows g a = record { name = a.blank.name; parts = a.blank.parts }
