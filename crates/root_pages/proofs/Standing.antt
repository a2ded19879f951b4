-- What stands in a page of a table area where entries are spelled: the head, each entry at its offset, and zeros behind them.
use Rattle.std.proofs.Common.{◌≡◌, ◌<◌, ◌≤◌, ◌+◌, ◌-◌, ◌*◌, ◌^◌, ℕ, List, [], ◌++◌, length, take, drop, slice_index, replicate, refl, sym, ap, ◌∙◌, append_assoc, arith}
use Rattle.std.specs.List.{flat_map}
use Rattle.std.proofs.lemmas.List.{take_at, append-nil, same_lists, get_or_default}
use Rattle.page_fields.specs.Fields.{number, bytes_of, AreZeros}
use Rattle.page_fields.specs.Padded.{padded}
use Rattle.page_fields.proofs.Bodies.{zeros_left, body_spelled}
use Rattle.page_fields.proofs.BytesOf.{number-back, length-bytes_of}
use Rattle.page_fields.proofs.Entries.{length-entries, entry_there}
use Rattle.page_fields.proofs.Places.{behind}
use Rattle.page_fields.proofs.ZeroParts.{zeros_spelled}
use Rattle.grid_model.specs.Spellings.{area_head, page}
use Rattle.root_pages.specs.Areas.{entries_page}
use Rattle.root_pages.specs.Reading.{IsAreaHead}
use Rattle.root_pages.proofs.Heads.{head_is}

-- a page of entries is its head, its entries and zeros
pub page_is : (w : ℕ) (kind : List ℕ) (root index : ℕ) (entries : List ℕ)
    → entries_page w kind root index entries ≡ padded 96 (area_head kind index (length entries) root) ++ (flat_map (bytes_of w) entries ++ zeros_left w (length entries))
unfolding entries_page page
page_is w kind root index entries = ap (λ (body : List ℕ). padded 96 (area_head kind index (length entries) root) ++ body) (body_spelled w entries)

-- the numbers of such a page are in their ranges, and its entries fit on it
pub record Fits (w : ℕ) (kind : List ℕ) (root index : ℕ) (entries : List ℕ) : Type 0 where
  pub four : length kind ≡ 4
  pub root_in_range : root < 2 ^ 64
  pub index_in_range : index < 2 ^ 32
  pub in_range : (i : ℕ) → slice_index entries i < 256 ^ w
  pub room : w * length entries ≤ 4000
  pub few : length entries ≤ 4000

-- each field of such a page stands at its offset
pub record PageAt (w : ℕ) (kind : List ℕ) (root index : ℕ) (page entries : List ℕ) : Type 0 where
  pub front : IsAreaHead kind root index (length entries) page
  pub each : (i : ℕ) → i < length entries → slice_index entries i ≡ number w (drop (96 + w * i) page)
  pub zeros : AreZeros (96 + w * length entries) 4096 page

-- fields stand where they are spelled
pub page_there : (w : ℕ) (kind : List ℕ) (root index : ℕ) (page entries : List ℕ) → Fits w kind root index entries → page ≡ entries_page w kind root index entries → PageAt w kind root index page entries
page_there w kind root index page entries f is =
    let n = length entries in
    let flat = flat_map (bytes_of w) entries in
    let body = flat ++ zeros_left w n in
    let from24 = replicate 72 0 ++ body in
    let from16 = bytes_of 8 root ++ from24 in
    let from12 = replicate 4 0 ++ from16 in
    let from8 = bytes_of 4 n ++ from12 in
    let from4 = bytes_of 4 index ++ from8 in
    let at0 : page ≡ kind ++ from4 = is ∙ page_is w kind root index entries ∙ ap (λ (h : List ℕ). h ++ body) (head_is kind index n root f.four) ∙ simp append_assoc in
    let at4 : drop 4 page ≡ from4 = behind 0 4 4 page kind from4 at0 f.four refl in
    let at8 : drop 8 page ≡ from8 = behind 4 4 8 page (bytes_of 4 index) from8 at4 (length-bytes_of 4 index) refl in
    let at12 : drop 12 page ≡ from12 = behind 8 4 12 page (bytes_of 4 n) from12 at8 (length-bytes_of 4 n) refl in
    let at16 : drop 16 page ≡ from16 = behind 12 4 16 page (replicate 4 0) from16 at12 refl refl in
    let at24 : drop 24 page ≡ from24 = behind 16 8 24 page (bytes_of 8 root) from24 at16 (length-bytes_of 8 root) refl in
    let at96 : drop 96 page ≡ body = behind 24 72 96 page (replicate 72 0) body at24 refl refl in
    let end : drop (96 + w * n) page ≡ zeros_left w n = behind 96 (w * n) (96 + w * n) page flat (zeros_left w n) at96 (length-entries w entries) refl in
    record {
      front = record {
        kind_is = ap (take 4) at0 ∙ take_at kind from4 4 f.four;
        index_is = ap (number 4) at4 ∙ number-back 4 index from8 (omega (arith, f.index_in_range));
        count_is = ap (number 4) at8 ∙ number-back 4 n from12 (omega (arith, f.few));
        gap = zeros_spelled 12 16 4 page from16 at12 (omega arith);
        root_is = ap (number 8) at16 ∙ number-back 8 root from24 (omega (arith, f.root_in_range));
        rest = zeros_spelled 24 96 72 page body at24 (omega arith);
      };
      each = entry_there w 96 page entries (zeros_left w n) at96 f.in_range;
      zeros = zeros_spelled (96 + w * n) 4096 (4000 - w * n) page [] (end ∙ sym (append-nil (zeros_left w n))) (omega (arith, f.room));
    }

-- in a page stand entries of one root, at one index, and one list of them
pub one_list : (w : ℕ) (kind : List ℕ) (root other index place : ℕ) (page entries more : List ℕ) → PageAt w kind root index page entries → PageAt w kind other place page more → (root ≡ other) × (index ≡ place) × (entries ≡ more)
one_list w kind root other index place page entries more x y =
    let long : length entries ≡ length more = sym x.front.count_is ∙ y.front.count_is in (
      sym x.front.root_is ∙ y.front.root_is,
      sym x.front.index_is ∙ y.front.index_is,
      same_lists entries more long (λ i d lt.
          let low : i < length more = omega (arith, long, lt) in
          get_or_default entries i d 0 lt ∙ x.each i lt ∙ sym (y.each i low) ∙ get_or_default more i 0 d low),
    )
