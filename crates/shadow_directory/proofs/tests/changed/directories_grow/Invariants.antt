use Rattle.shadow_directory.proofs.tests.changed.directories_grow.Given as goal

abbrev pub ghosts-they_grow : goal.ghosts-they_grow
ghosts-they_grow g a = record { name = a.blank.name; parts = a.blank.parts }

abbrev pub ghosts-they_grow_in_space : goal.ghosts-they_grow_in_space
ghosts-they_grow_in_space g a = record { name = a.blank.name; parts = a.blank.parts }
