use Rattle.std.proofs.Common.{arith}
use Rattle.page_fields.specs.Fields.{bytes_of}
use Rattle.page_fields.proofs.BytesOf.{length-bytes_of}
use Rattle.page_fields.proofs.Parts.{put_field, front_of}
use Rattle.root_pages.proofs.header_writing.put_u64.Goals as goal

pub returns : goal.returns
unfolding bytes_of
returns c =
    let n = length-bytes_of 8 c.args.v in
    front_of c.args.at 8 c.args.bytes.now _ (bytes_of 8 c.args.v) (put_field c.args.at 8 _ c.args.bytes.now (bytes_of 8 c.args.v) c.write_u64.new.buf n (omega arith) c.write_u64.ensures) n (omega (arith, c.told-bytes))
