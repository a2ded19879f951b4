use Rattle.file_trials.proofs.tell_kind.Given as goal

abbrev pub ghosts-try_kind : goal.ghosts-try_kind
ghosts-try_kind a = record { name = a.blank.name; parts = a.blank.parts }
