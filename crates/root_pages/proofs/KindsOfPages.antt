-- The three kinds of pages of a table area, as pages of entries.
use Rattle.std.proofs.Common.{◌≡◌, ◌<◌, ◌≤◌, ◌+◌, ◌*◌, ◌^◌, ℕ, List, length, slice_index, refl, sym, subst, ◌∙◌, codes, arith}
use Rattle.page_fields.proofs.Entries.{AreBytes, entries_in, length-entries_in, entries_fit}
use Rattle.grid_model.specs.Spellings.{scale_spelling, list_spelling, bucket_table_spelling}
use Rattle.root_pages.specs.Areas.{SpellsEntries, SpellsScale, SpellsList, SpellsTable, HasEntries, entries_page}
use Rattle.root_pages.specs.Reading.{IsPageUpTo, AreOn}
use Rattle.root_pages.specs.Laws.{IsOneList}
use Rattle.root_pages.proofs.Heads.{scale_is, list_is, table_is}
use Rattle.root_pages.proofs.Standing.{Fits, PageAt, page_there, one_list}
use Rattle.root_pages.proofs.Joining.{entries_page-from_parts}

-- a spelling makes pages of entries of this kind, and their most entries have room
pub record IsKind (w : ℕ) (kind : List ℕ) (spelling : ℕ → ℕ → List ℕ → List ℕ) (most bits : ℕ) : Type 0 where
  pub four : length kind ≡ 4
  pub same : (root index : ℕ) (entries : List ℕ) → spelling root index entries ≡ entries_page w kind root index entries
  pub room : (n : ℕ) → n ≤ most → w * n ≤ 4000
  pub few : most ≤ 4000
  pub width : 2 ^ bits ≡ 256 ^ w

pub scales : IsKind 8 (codes "GFS1") scale_spelling 500 64
scales = record { four = refl; same = scale_is; room = λ n le. omega arith; few = omega arith; width = refl }

pub lists : IsKind 4 (codes "GFL1") list_spelling 1000 32
lists = record { four = refl; same = list_is; room = λ n le. omega arith; few = omega arith; width = refl }

pub tables : IsKind 4 (codes "GFT1") bucket_table_spelling 1000 32
tables = record { four = refl; same = table_is; room = λ n le. omega arith; few = omega arith; width = refl }

module _ (w : ℕ) (kind : List ℕ) (spelling : ℕ → ℕ → List ℕ → List ℕ) (most bits : ℕ) (k : IsKind w kind spelling most bits) where
  -- entries stand where they are spelled
  pub entries_there : (root index : ℕ) (page entries : List ℕ) → SpellsEntries spelling most bits root index page entries → PageAt w kind root index page entries
  entries_there root index page entries s =
      let fits : Fits w kind root index entries = record {
        four = k.four;
        root_in_range = s.root_in_range;
        index_in_range = s.index_in_range;
        in_range = λ i. subst (λ (n : ℕ). slice_index entries i < n) k.width (s.in_range i);
        room = k.room (length entries) s.few;
        few = omega (arith, s.few, k.few);
      } in
      page_there w kind root index page entries fits (s.bytes ∙ k.same root index entries)

  -- a page spells one list
  pub one_list_of : (root other index place : ℕ) (page entries more : List ℕ) → SpellsEntries spelling most bits root index page entries → SpellsEntries spelling most bits other place page more → IsOneList root other index place entries more
  one_list_of root other index place page entries more s t =
      let one = one_list w kind root other index place page entries more (entries_there root index page entries s) (entries_there other place page more t) in
      record { root_is = one.0; index_is = one.1; entries_are = one.2 }

  -- a page with such a head and zeros behind so many entries has so many entries
  pub has_entries : (root index count : ℕ) (page : List ℕ) → root < 2 ^ 64 → index < 2 ^ 32 → count ≤ most → length page ≡ 4096 → AreBytes page → IsPageUpTo kind root index count (96 + w * count) page → HasEntries (SpellsEntries spelling most bits root index) count page
  has_entries root index count page fr fi le long fits p =
      let entries = entries_in w 96 count page in
      let size : length entries ≡ count = length-entries_in w 96 count page in
      record {
        entries = entries;
        count_is = size;
        spelled = record {
          root_in_range = fr;
          index_in_range = fi;
          in_range = λ i. subst (λ (n : ℕ). slice_index entries i < n) (sym k.width) (entries_fit w 96 count page fits i);
          few = omega (arith, size, le);
          bytes = entries_page-from_parts w kind root index count page k.four (k.room count le) long fits p ∙ sym (k.same root index entries);
        };
      }

  -- and the other way round
  pub page_up_to : (root index count : ℕ) (page : List ℕ) → HasEntries (SpellsEntries spelling most bits root index) count page → IsPageUpTo kind root index count (96 + w * count) page
  page_up_to root index count page h =
      let at = entries_there root index page h.entries h.spelled in
      subst (λ (n : ℕ). IsPageUpTo kind root index n (96 + w * n) page) h.count_is (record { head = at.front; zeros = at.zeros })

-- entries that are spelled stand on their page
pub scale_entries : (root index count : ℕ) (page xs : List ℕ) → SpellsScale root index page xs → length xs ≡ count → AreOn 8 count page xs
scale_entries root index count page xs s is = record { count_is = is; each = (entries_there 8 (codes "GFS1") scale_spelling 500 64 scales root index page xs s).each }

pub list_entries : (root index count : ℕ) (page xs : List ℕ) → SpellsList root index page xs → length xs ≡ count → AreOn 4 count page xs
list_entries root index count page xs s is = record { count_is = is; each = (entries_there 4 (codes "GFL1") list_spelling 1000 32 lists root index page xs s).each }

pub table_entries : (root index count : ℕ) (page xs : List ℕ) → SpellsTable root index page xs → length xs ≡ count → AreOn 4 count page xs
table_entries root index count page xs s is = record { count_is = is; each = (entries_there 4 (codes "GFT1") bucket_table_spelling 1000 32 tables root index page xs s).each }

-- and are the only ones
pub one_scale_spelled : (root index : ℕ) (page xs ys : List ℕ) → SpellsScale root index page xs → SpellsScale root index page ys → xs ≡ ys
one_scale_spelled root index page xs ys s t = (one_list_of 8 (codes "GFS1") scale_spelling 500 64 scales root root index index page xs ys s t).entries_are

pub one_list_spelled : (root index : ℕ) (page xs ys : List ℕ) → SpellsList root index page xs → SpellsList root index page ys → xs ≡ ys
one_list_spelled root index page xs ys s t = (one_list_of 4 (codes "GFL1") list_spelling 1000 32 lists root root index index page xs ys s t).entries_are

pub one_table_spelled : (root index : ℕ) (page xs ys : List ℕ) → SpellsTable root index page xs → SpellsTable root index page ys → xs ≡ ys
one_table_spelled root index page xs ys s t = (one_list_of 4 (codes "GFT1") bucket_table_spelling 1000 32 tables root root index index page xs ys s t).entries_are
