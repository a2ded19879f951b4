use Rattle.std.proofs.Common.{ap, ◌∙◌, List, ℕ}
use Rattle.std.proofs.lemmas.List.{take-replicate}
use Rattle.grid_types.specs.Halves.{half_number}
use Rattle.grid_model.specs.Spellings.{gate_spelling}
use Rattle.file_making.proofs.journal.encode_shut.Goals as goal

pub returns : goal.returns
returns c = c.encode_gates.ensures ∙ ap (λ (gates : List ℕ). gate_spelling (half_number c.args.half) gates) (take-replicate c.args.slots 4000 0 c.requires.few)
