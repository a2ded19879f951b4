use Rattle.std.proofs.Common.{[], ◌∷◌, ◌++◌, refl, ap, ◌∙◌, arith}
use Rattle.grid_types.proofs.Places.{within-limits}
use Rattle.page_fields.proofs.Joining.{filled_up}
use Rattle.page_fields.specs.Padded.{padded}
use Rattle.grid_model.specs.Spellings.{shape_bytes, root_bytes}
use Rattle.file_images.specs.NewFiles.{new_fields}
use Rattle.file_making.proofs.FieldByField.{root_written}
use Rattle.file_making.proofs.headers.encode_root.Goals as goal

pub first_fields-requires : goal.first_fields-requires
first_fields-requires c = omega (arith, (within-limits c.args.geometry.now.shape c.args.geometry.now.lawful).few_attributes)

pub returns : goal.returns
returns c =
    let s = c.args.geometry.now.shape in
    let known = root_written s.k s c.encode_header.new.page c.put_bytes.new.page c.put_bytes-2.new.page c.encode_fields.new.bytes c.encode_header.ensures.front c.put_bytes.ensures.front c.put_bytes-2.ensures.front c.encode_fields.array_long (c.encode_fields.ensures ∙ ap root_bytes c.first_fields.ensures) in
    filled_up 4096 128 0 [] (shape_bytes s ++ (padded 8 (1 ∷ []) ++ root_bytes (new_fields s.k))) c.put_bytes-2.new.page c.put_zeros.new.page known refl (omega (arith, c.put_bytes-2.array_long)) (omega arith) c.put_zeros.ensures.front c.put_zeros.array_long
