use Rattle.std.proofs.Common.{sym, ap, ◌∙◌, arith}
use Rattle.std.proofs.lemmas.List.{take_all}
use Rattle.grid_types.proofs.Places.{within-limits}
use Rattle.file_making.specs.Contents.{content_bytes}
use Rattle.file_making.proofs.pages.encode_content.Goals as goal

pub encode_shut-requires : goal.encode_shut-requires
encode_shut-requires c = record { few = omega (arith, (within-limits c.args.geometry.now.shape c.args.geometry.now.lawful).few_slots) }

pub encode_bucket-requires-clause-some : goal.encode_bucket-requires-clause-some
encode_bucket-requires-clause-some c = omega (arith, (within-limits c.args.geometry.now.shape c.args.geometry.now.lawful).some_attributes)

pub encode_bucket-requires-clause-few : goal.encode_bucket-requires-clause-few
encode_bucket-requires-clause-few c = omega (arith, (within-limits c.args.geometry.now.shape c.args.geometry.now.lawful).few_attributes)

pub returns-in-Zeros : goal.returns-in-Zeros
returns-in-Zeros c = sym (take_all 4096 c.put_zeros.new.page (omega (arith, c.put_zeros.array_long))) ∙ c.put_zeros.ensures.front ∙ sym (ap (content_bytes c.args.geometry.now.shape.k c.args.geometry.now.shape) c.in-Zeros.is)
