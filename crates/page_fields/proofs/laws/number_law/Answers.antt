use Rattle.page_fields.proofs.BytesOf.{number-back, length-bytes_of, length-numbers, length-padded}
use Rattle.page_fields.proofs.laws.number_law.Goals as goal

pub returns : goal.returns
returns c = record { read = number-back; size = length-bytes_of; sizes = length-numbers; filled = length-padded }
