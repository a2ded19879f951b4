-- A page whose fields are those of a page of a table area is the spelling of the entries that it has.
use Rattle.std.proofs.Common.{◌≡◌, ◌≤◌, ◌+◌, ◌*◌, ℕ, List, ◌++◌, length, drop, replicate, sym, ap, ◌∙◌, append_assoc, arith, refl}
use Rattle.std.specs.List.{flat_map}
use Rattle.std.proofs.lemmas.List.{take-append-drop}
use Rattle.page_fields.specs.Fields.{bytes_of}
use Rattle.page_fields.specs.Padded.{padded}
use Rattle.page_fields.proofs.Bodies.{zeros_left, body_read}
use Rattle.page_fields.proofs.Entries.{AreBytes, number_is, entries_in, length-entries_in}
use Rattle.page_fields.proofs.ZeroParts.{zeros_are}
use Rattle.grid_model.specs.Spellings.{area_head}
use Rattle.root_pages.specs.Areas.{entries_page}
use Rattle.root_pages.specs.Reading.{IsAreaHead, IsPageUpTo}
use Rattle.root_pages.proofs.Heads.{head_is}
use Rattle.root_pages.proofs.Standing.{page_is}

head_joined : (kind : List ℕ) (root index count : ℕ) (page : List ℕ) → length kind ≡ 4 → IsAreaHead kind root index count page → 96 ≤ length page → AreBytes page → page ≡ padded 96 (area_head kind index count root) ++ drop 96 page
head_joined kind root index count page four h low fits =
    let body = drop 96 page in
    let at24 : drop 24 page ≡ replicate 72 0 ++ body = zeros_are 24 96 page (omega arith) low h.rest in
    let from16 = bytes_of 8 root ++ (replicate 72 0 ++ body) in
    let at16 : drop 16 page ≡ from16 = number_is 8 16 24 page (omega arith) fits refl ∙ ap (λ (n : ℕ). bytes_of 8 n ++ drop 24 page) h.root_is ∙ ap (λ (r : List ℕ). bytes_of 8 root ++ r) at24 in
    let at12 : drop 12 page ≡ replicate 4 0 ++ from16 = zeros_are 12 16 page (omega arith) (omega arith) h.gap ∙ ap (λ (r : List ℕ). replicate 4 0 ++ r) at16 in
    let at8 : drop 8 page ≡ bytes_of 4 count ++ (replicate 4 0 ++ from16) = number_is 4 8 12 page (omega arith) fits refl ∙ ap (λ (n : ℕ). bytes_of 4 n ++ drop 12 page) h.count_is ∙ ap (λ (r : List ℕ). bytes_of 4 count ++ r) at12 in
    let at4 : drop 4 page ≡ bytes_of 4 index ++ (bytes_of 4 count ++ (replicate 4 0 ++ from16)) = number_is 4 4 8 page (omega arith) fits refl ∙ ap (λ (n : ℕ). bytes_of 4 n ++ drop 8 page) h.index_is ∙ ap (λ (r : List ℕ). bytes_of 4 index ++ r) at8 in
    let fields : page ≡ kind ++ (bytes_of 4 index ++ (bytes_of 4 count ++ (replicate 4 0 ++ from16))) = sym (take-append-drop 4 page) ∙ ap (λ (k : List ℕ). k ++ drop 4 page) h.kind_is ∙ ap (λ (r : List ℕ). kind ++ r) at4 in
    let joined : (kind ++ (bytes_of 4 index ++ (bytes_of 4 count ++ (replicate 4 0 ++ (bytes_of 8 root ++ replicate 72 0))))) ++ body ≡ kind ++ (bytes_of 4 index ++ (bytes_of 4 count ++ (replicate 4 0 ++ from16))) = simp append_assoc in
    fields ∙ sym joined ∙ ap (λ (k : List ℕ). k ++ body) (sym (head_is kind index count root four))

-- a page with that head, and zeros behind so many entries, is the page of the entries that stand in it
pub entries_page-from_parts : (w : ℕ) (kind : List ℕ) (root index count : ℕ) (page : List ℕ) → length kind ≡ 4 → w * count ≤ 4000 → length page ≡ 4096 → AreBytes page → IsPageUpTo kind root index count (96 + w * count) page → page ≡ entries_page w kind root index (entries_in w 96 count page)
entries_page-from_parts w kind root index count page four few long fits p =
    let entries = entries_in w 96 count page in
    let spelled : page ≡ padded 96 (area_head kind index count root) ++ (flat_map (bytes_of w) entries ++ zeros_left w count) = head_joined kind root index count page four p.head (omega (arith, long)) fits ∙ ap (λ (r : List ℕ). padded 96 (area_head kind index count root) ++ r) (body_read w count page few p.zeros long fits) in
    spelled
    ∙ ap (λ (n : ℕ). padded 96 (area_head kind index n root) ++ (flat_map (bytes_of w) entries ++ zeros_left w n)) (sym (length-entries_in w 96 count page))
    ∙ sym (page_is w kind root index entries)
