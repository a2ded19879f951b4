use Rattle.grid_shell.proofs.work.present_law.Goals as goal

pub returns : goal.returns
returns g c = λ disk image told left. g.met.D.Disk.only_now disk image told left
