-- Where the numbers of a root stand in a header page.
use Rattle.std.proofs.Common.{◌≡◌, ◌<◌, ◌≤◌, ◌+◌, ◌-◌, ◌*◌, ◌^◌, ℕ, List, ◌++◌, length, take, drop, slice_index, replicate, refl, sym, ap, ◌∙◌, append_assoc, arith}
use Rattle.std.specs.List.{flat_map}
use Rattle.std.proofs.lemmas.List.{take-append-drop, drop-drop, same_lists, get_or_default}
use Rattle.page_fields.specs.Fields.{number, bytes_of}
use Rattle.page_fields.specs.Padded.{padded, numbers}
use Rattle.page_fields.proofs.BytesOf.{number-back, length-bytes_of, length-padded, length-numbers}
use Rattle.page_fields.proofs.Entries.{entry_there}
use Rattle.page_fields.proofs.Places.{behind}
use Rattle.grid_model.specs.Spellings.{RootFields, root_bytes}
use Rattle.root_pages.specs.Headers.{AreInRange}
use Rattle.root_pages.specs.Reading.{FieldsAt}

-- numbers of four bytes with zeros behind them, from a known offset on
words_there : (at n : ℕ) (page ns rest : List ℕ) → drop at page ≡ padded n (numbers 4 ns) ++ rest → ((i : ℕ) → slice_index ns i < 2 ^ 32) → (i : ℕ) → i < length ns → slice_index ns i ≡ number 4 (drop (at + 4 * i) page)
unfolding padded numbers
words_there at n page ns rest e fits i lt =
    let zeros = replicate (n - length (flat_map (bytes_of 4) ns)) 0 in
    entry_there 4 at page ns (zeros ++ rest) (e ∙ append_assoc (flat_map (bytes_of 4) ns) zeros rest) fits i lt

module _ (at : ℕ) (page : List ℕ) (r : RootFields) (rest : List ℕ) (is : drop at page ≡ root_bytes r ++ rest) where
  abbrev from52 : List ℕ
  from52 = bytes_of 4 r.buckets ++ rest

  abbrev from48 : List ℕ
  from48 = bytes_of 4 r.parts ++ from52

  abbrev from32 : List ℕ
  from32 = padded 16 (numbers 4 r.boundaries) ++ from48

  abbrev from24 : List ℕ
  from24 = bytes_of 8 r.records ++ from32

  abbrev from16 : List ℕ
  from16 = bytes_of 8 r.front ++ from24

  abbrev from8 : List ℕ
  from8 = bytes_of 8 r.session ++ from16

  at0 : drop at page ≡ bytes_of 8 r.number ++ from8
  unfolding root_bytes
  at0 = is ∙ simp append_assoc

  at8 : drop (at + 8) page ≡ from8
  at8 = behind at 8 (at + 8) page (bytes_of 8 r.number) _ at0 (length-bytes_of 8 r.number) refl

  at16 : drop (at + 16) page ≡ from16
  at16 = behind (at + 8) 8 (at + 16) page (bytes_of 8 r.session) _ at8 (length-bytes_of 8 r.session) (omega arith)

  at24 : drop (at + 24) page ≡ from24
  at24 = behind (at + 16) 8 (at + 24) page (bytes_of 8 r.front) _ at16 (length-bytes_of 8 r.front) (omega arith)

  at32 : drop (at + 32) page ≡ from32
  at32 = behind (at + 24) 8 (at + 32) page (bytes_of 8 r.records) _ at24 (length-bytes_of 8 r.records) (omega arith)

  -- the number of the root stands first
  pub number_there : r.number < 2 ^ 64 → r.number ≡ number 8 (drop at page)
  number_there fit = sym (ap (number 8) at0 ∙ number-back 8 r.number _ (omega (arith, fit)))

  -- the numbers stand where they are spelled
  pub fields_there : (K : ℕ) → K ≤ 4 → AreInRange K r → FieldsAt at page r
  fields_there K few fit =
      let sixteen : length (padded 16 (numbers 4 r.boundaries)) ≡ 16 = length-padded 16 (numbers 4 r.boundaries) (omega (arith, length-numbers 4 r.boundaries, fit.attributes, few)) in
      let at48 : drop (at + 48) page ≡ from48 = behind (at + 32) 16 (at + 48) page (padded 16 (numbers 4 r.boundaries)) _ at32 sixteen (omega arith) in
      let at52 : drop (at + 52) page ≡ from52 = behind (at + 48) 4 (at + 52) page (bytes_of 4 r.parts) _ at48 (length-bytes_of 4 r.parts) (omega arith) in
      record {
        number_is = number_there fit.number;
        session = sym (ap (number 8) at8 ∙ number-back 8 r.session _ (omega (arith, fit.session)));
        front = sym (ap (number 8) at16 ∙ number-back 8 r.front _ (omega (arith, fit.front)));
        records = sym (ap (number 8) at24 ∙ number-back 8 r.records _ (omega (arith, fit.records)));
        boundaries = words_there (at + 32) 16 page r.boundaries from48 at32 fit.boundaries;
        parts = sym (ap (number 4) at48 ∙ number-back 4 r.parts _ (omega (arith, fit.parts)));
        buckets = sym (ap (number 4) at52 ∙ number-back 4 r.buckets _ (omega (arith, fit.buckets)));
      }

-- in a page stand the numbers of one root
pub one_root : (at : ℕ) (page : List ℕ) (r q : RootFields) → length r.boundaries ≡ length q.boundaries → FieldsAt at page r → FieldsAt at page q → r ≡ q
one_root at page r q long x y =
    let number_is = x.number_is ∙ sym y.number_is in
    let session = x.session ∙ sym y.session in
    let front = x.front ∙ sym y.front in
    let records = x.records ∙ sym y.records in
    let boundaries : r.boundaries ≡ q.boundaries = same_lists r.boundaries q.boundaries long (λ a d h.
    let low : a < length q.boundaries = omega (arith, long, h) in
    get_or_default r.boundaries a d 0 h ∙ x.boundaries a h ∙ sym (y.boundaries a low) ∙ get_or_default q.boundaries a 0 d low) in
    let parts = x.parts ∙ sym y.parts in
    let buckets = x.buckets ∙ sym y.buckets in
    λ i. record { number = number_is i; session = session i; front = front i; records = records i; boundaries = boundaries i; parts = parts i; buckets = buckets i }

-- the fields of a header page, and what stands behind them
pub on_header : (page : List ℕ) (r : RootFields) → take 56 (drop 72 page) ≡ root_bytes r → drop 72 page ≡ root_bytes r ++ drop 128 page
on_header page r e =
    sym (take-append-drop 56 (drop 72 page)) ∙ ap (λ (xs : List ℕ). xs ++ drop 56 (drop 72 page)) e ∙ ap (λ (xs : List ℕ). root_bytes r ++ xs) (drop-drop 56 72 page)
