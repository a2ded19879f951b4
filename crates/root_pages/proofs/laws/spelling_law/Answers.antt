use Rattle.std.proofs.Common.{◌≡◌, ◌∙◌, sym, [], ◌++◌, codes, drop}
use Rattle.std.proofs.lemmas.List.{append-nil}
use Rattle.grid_model.specs.Spellings.{root_bytes, scale_spelling, list_spelling, bucket_table_spelling}
use Rattle.root_pages.proofs.ShapePlaces.{shape_there, one_shape}
use Rattle.root_pages.proofs.RootPlaces.{fields_there, one_root}
use Rattle.root_pages.proofs.KindsOfPages.{scales, lists, tables, one_list_of}
use Rattle.root_pages.proofs.laws.spelling_law.Goals as goal

pub returns-clause-shapes : goal.returns-clause-shapes
returns-clause-shapes c = λ page s t x y. one_shape page s t (shape_there page s x) (shape_there page t y)

pub returns-clause-roots : goal.returns-clause-roots
returns-clause-roots c = λ K r q few x y e.
    let page = root_bytes r in
    let first : drop 0 page ≡ root_bytes r ++ [] = sym (append-nil page) in
    let second : drop 0 page ≡ root_bytes q ++ [] = e ∙ sym (append-nil (root_bytes q)) in
    one_root 0 page r q (x.attributes ∙ sym y.attributes) (fields_there 0 page r [] first K few x) (fields_there 0 page q [] second K few y)

pub returns-clause-scales : goal.returns-clause-scales
returns-clause-scales c = one_list_of 8 (codes "GFS1") scale_spelling 500 64 scales

pub returns-clause-lists : goal.returns-clause-lists
returns-clause-lists c = one_list_of 4 (codes "GFL1") list_spelling 1000 32 lists

pub returns-clause-tables : goal.returns-clause-tables
returns-clause-tables c = one_list_of 4 (codes "GFT1") bucket_table_spelling 1000 32 tables
