use Rattle.shadow_directory.proofs.tests.changed.boxes_are_patched.Given as goal

abbrev pub ghosts-they_are_patched : goal.ghosts-they_are_patched
ghosts-they_are_patched g a = record { name = a.blank.name; parts = a.blank.parts }
