use Rattle.query_paths.proofs.tests.damaged_pages_are_named.Given as goal

abbrev pub ghosts-name_pages : goal.ghosts-name_pages
ghosts-name_pages g a = record { name = a.blank.name; parts = a.blank.parts }
