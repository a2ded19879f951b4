use Rattle.std.proofs.Common.{[], ◌∷◌, ◌++◌}
use Rattle.grid_file.proofs.writing.GridFileChangePages.write_new.Given as goal

abbrev pub ghosts-with_one : goal.ghosts-with_one
ghosts-with_one g a = record { value = record { pages = a.before.now.value.pages ++ (a.owner, a.page.now) ∷ [] } }
