use Rattle.grid_script.proofs.text.print_refusal.Goals as goal

pub returns-in-Unsure-clause-items : goal.returns-in-Unsure-clause-items
returns-in-Unsure-clause-items c = rw c.in-Unsure.is c.print_pair.ensures.items

pub returns-in-Stopped-clause-items : goal.returns-in-Stopped-clause-items
returns-in-Stopped-clause-items c = rw c.in-Stopped.is c.print_pair-in-Stopped.ensures.items

pub returns-in-NoCut-clause-items : goal.returns-in-NoCut-clause-items
returns-in-NoCut-clause-items c = rw (c.in-NoCut.is, ← c.into-in-NoCut.ensures, ← c.into-in-NoCut-2.ensures) c.print_pair-in-NoCut.ensures.items
