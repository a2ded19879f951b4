-- A page whose fields are those of a directory page is the spelling of the cells that it has.
use Rattle.std.proofs.Common.{◌≡◌, ◌≤◌, ◌+◌, ◌*◌, ◌^◌, ◌<◌, ℕ, List, ◌++◌, length, drop, replicate, sym, ap, subst, ◌∙◌, append_assoc, arith, codes, refl}
use Rattle.std.proofs.lemmas.List.{take-append-drop}
use Rattle.page_fields.specs.Fields.{bytes_of, AreZeros}
use Rattle.page_fields.specs.Padded.{numbers}
use Rattle.page_fields.proofs.Bodies.{zeros_left, body_read}
use Rattle.page_fields.proofs.Entries.{AreBytes, number_is, entries_in, length-entries_in, entries_fit}
use Rattle.page_fields.proofs.ZeroParts.{zeros_are}
use Rattle.directory_pages.specs.Spelling.{part_head, IsDirectoryPage}
use Rattle.directory_pages.specs.Reading.{IsPartHead}
use Rattle.directory_pages.proofs.Standing.{head_is, page_is, part_there}

head_joined : (part count : ℕ) (page : List ℕ) → IsPartHead part count page → 96 ≤ length page → AreBytes page → page ≡ part_head part count ++ drop 96 page
head_joined part count page h low fits =
    let body = drop 96 page in
    let at12 : drop 12 page ≡ replicate 84 0 ++ body = zeros_are 12 96 page (omega arith) low h.rest in
    let at8 : drop 8 page ≡ bytes_of 4 count ++ (replicate 84 0 ++ body) = number_is 4 8 12 page (omega arith) fits refl ∙ ap (λ (n : ℕ). bytes_of 4 n ++ drop 12 page) h.count_is ∙ ap (λ (r : List ℕ). bytes_of 4 count ++ r) at12 in
    let at4 : drop 4 page ≡ bytes_of 4 part ++ (bytes_of 4 count ++ (replicate 84 0 ++ body)) = number_is 4 4 8 page (omega arith) fits refl ∙ ap (λ (n : ℕ). bytes_of 4 n ++ drop 8 page) h.part_is ∙ ap (λ (r : List ℕ). bytes_of 4 part ++ r) at8 in
    let fields : page ≡ codes "GFD1" ++ (bytes_of 4 part ++ (bytes_of 4 count ++ (replicate 84 0 ++ body))) = sym (take-append-drop 4 page) ∙ ap (λ (k : List ℕ). k ++ drop 4 page) h.kind ∙ ap (λ (r : List ℕ). codes "GFD1" ++ r) at4 in
    let joined : (codes "GFD1" ++ (bytes_of 4 part ++ (bytes_of 4 count ++ replicate 84 0))) ++ body ≡ codes "GFD1" ++ (bytes_of 4 part ++ (bytes_of 4 count ++ (replicate 84 0 ++ body))) = simp append_assoc in
    fields ∙ sym joined ∙ ap (λ (k : List ℕ). k ++ body) (sym (head_is part count))

body_joined : (count : ℕ) (page : List ℕ) → count ≤ 1000 → AreZeros (96 + 4 * count) 4096 page → length page ≡ 4096 → AreBytes page → drop 96 page ≡ numbers 4 (entries_in 4 96 count page) ++ zeros_left 4 count
unfolding numbers
body_joined count page few zeros long fits = body_read 4 count page (omega (arith, few)) zeros long fits

-- a page with that head, and zeros behind so many cells, is the page of that part
pub directory_page-from_parts : (part count : ℕ) (page : List ℕ) → part < 2 ^ 32 → count ≤ 1000 → length page ≡ 4096 → AreBytes page → IsPartHead part count page → AreZeros (96 + 4 * count) 4096 page → IsDirectoryPage part count page
directory_page-from_parts part count page fit few long fits h zeros =
    let cells = entries_in 4 96 count page in
    let size : length cells ≡ count = length-entries_in 4 96 count page in
    let spelled : page ≡ part_head part count ++ (numbers 4 cells ++ zeros_left 4 count) = head_joined part count page h (omega arith) fits ∙ ap (λ (r : List ℕ). part_head part count ++ r) (body_joined count page few zeros long fits) in
    record {
      cells = cells;
      count_is = size;
      spelled = record {
        part_in_range = fit;
        in_range = entries_fit 4 96 count page fits;
        few = omega (arith, size);
        bytes = spelled ∙ ap (λ (n : ℕ). part_head part n ++ (numbers 4 cells ++ zeros_left 4 n)) (sym size) ∙ sym (page_is part cells);
      };
    }

-- the page of that part has that head
pub head_there : (part count : ℕ) (page : List ℕ) → IsDirectoryPage part count page → IsPartHead part count page
head_there part count page p = subst (λ (n : ℕ). IsPartHead part n page) p.count_is (part_there part page p.cells p.spelled).front

-- behind its cells stand zeros
pub zeros_there : (part count : ℕ) (page : List ℕ) → IsDirectoryPage part count page → AreZeros (96 + 4 * count) 4096 page
zeros_there part count page p = subst (λ (n : ℕ). AreZeros (96 + 4 * n) 4096 page) p.count_is (part_there part page p.cells p.spelled).zeros
