use Rattle.disk_doubles.proofs.tests.bytes_read.Given as goal

abbrev pub ghosts-bytes_read_with : goal.ghosts-bytes_read_with
ghosts-bytes_read_with a = record { name = a.blank.name; parts = a.blank.parts }
