use Rattle.std.proofs.Common.{arith}
use Rattle.page_fields.specs.Fields.{bytes_of}
use Rattle.page_fields.proofs.BytesOf.{length-bytes_of}
use Rattle.page_fields.proofs.Parts.{put_field, front_of}
use Rattle.page_fields.proofs.numbers.set_u64.Goals as goal

pub returns-clause-written : goal.returns-clause-written
unfolding bytes_of
returns-clause-written c = put_field c.args.at 8 _ c.args.page.now (bytes_of 8 c.args.v) c.write_u64.new.buf (length-bytes_of 8 c.args.v) (omega arith) c.write_u64.ensures

pub returns-clause-front : goal.returns-clause-front
returns-clause-front c = front_of c.args.at 8 c.args.page.now _ (bytes_of 8 c.args.v) (returns-clause-written c) (length-bytes_of 8 c.args.v) (omega (arith, c.told-page))
