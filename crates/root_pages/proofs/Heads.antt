-- The head of a page of a table area, and the page that it begins.
use Rattle.std.proofs.Common.{◌≡◌, ◌-◌, ℕ, List, ◌∷◌, ◌++◌, length, codes, replicate, refl, ap, sym, ◌∙◌, append_assoc, length-append, arith}
use Rattle.page_fields.specs.Fields.{bytes_of}
use Rattle.page_fields.specs.Padded.{padded, numbers}
use Rattle.page_fields.proofs.BytesOf.{length-bytes_of, length-padded}
use Rattle.grid_model.specs.Spellings.{area_head, scale_spelling, list_spelling, bucket_table_spelling}
use Rattle.root_pages.specs.Areas.{entries_page}

pub length-area_head : (kind : List ℕ) (index count root : ℕ) → length kind ≡ 4 → length (area_head kind index count root) ≡ 24
unfolding area_head
length-area_head kind index count root four =
    let a = bytes_of 4 index in
    let b = bytes_of 4 count in
    let r = 0 ∷ 0 ∷ 0 ∷ 0 ∷ bytes_of 8 root in
    length-append kind (a ++ (b ++ r)) ∙ omega (arith, four, length-append a (b ++ r), length-append b r, length-bytes_of 4 index, length-bytes_of 4 count, length-bytes_of 8 root)

pub length-head : (kind : List ℕ) (index count root : ℕ) → length kind ≡ 4 → length (padded 96 (area_head kind index count root)) ≡ 96
length-head kind index count root four = length-padded 96 (area_head kind index count root) (omega (arith, length-area_head kind index count root four))

-- the head, field by field
pub head_is : (kind : List ℕ) (index count root : ℕ) → length kind ≡ 4 → padded 96 (area_head kind index count root) ≡ kind ++ (bytes_of 4 index ++ (bytes_of 4 count ++ (replicate 4 0 ++ (bytes_of 8 root ++ replicate 72 0))))
unfolding padded area_head
head_is kind index count root four =
    let left : 96 - length (area_head kind index count root) ≡ 72 = omega (arith, length-area_head kind index count root four) in
    ap (λ (n : ℕ). area_head kind index count root ++ replicate n 0) left ∙ simp append_assoc

-- the front of a page once a head was written, field by field
pub head_written : (kind : List ℕ) (index count root : ℕ) (a1 a2 a3 a4 a5 a6 : List ℕ) → length kind ≡ 4 → a1 ≡ kind → a2 ≡ a1 ++ bytes_of 4 index → a3 ≡ a2 ++ bytes_of 4 count → a4 ≡ a3 ++ replicate 4 0 → a5 ≡ a4 ++ bytes_of 8 root → a6 ≡ a5 ++ replicate 72 0
    → a6 ≡ padded 96 (area_head kind index count root)
head_written kind index count root a1 a2 a3 a4 a5 a6 four e1 e2 e3 e4 e5 e6 =
    let joined : ((((kind ++ bytes_of 4 index) ++ bytes_of 4 count) ++ replicate 4 0) ++ bytes_of 8 root) ++ replicate 72 0 ≡ kind ++ (bytes_of 4 index ++ (bytes_of 4 count ++ (replicate 4 0 ++ (bytes_of 8 root ++ replicate 72 0)))) = simp append_assoc in
    e6 ∙ rw (e5, e4, e3, e2, e1) joined ∙ sym (head_is kind index count root four)

-- the kinds of pages are pages of entries
pub scale_is : (root index : ℕ) (entries : List ℕ) → scale_spelling root index entries ≡ entries_page 8 (codes "GFS1") root index entries
unfolding scale_spelling entries_page numbers
scale_is root index entries = refl

pub list_is : (root index : ℕ) (entries : List ℕ) → list_spelling root index entries ≡ entries_page 4 (codes "GFL1") root index entries
unfolding list_spelling entries_page numbers
list_is root index entries = refl

pub table_is : (root index : ℕ) (entries : List ℕ) → bucket_table_spelling root index entries ≡ entries_page 4 (codes "GFT1") root index entries
unfolding bucket_table_spelling entries_page numbers
table_is root index entries = refl
