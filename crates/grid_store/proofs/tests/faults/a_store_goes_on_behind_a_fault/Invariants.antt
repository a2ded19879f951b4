use Rattle.grid_store.proofs.tests.faults.a_store_goes_on_behind_a_fault.Given as goal

abbrev pub ghosts-first_wrong : goal.ghosts-first_wrong
ghosts-first_wrong g a = record { name = a.blank.name; parts = a.blank.parts }
