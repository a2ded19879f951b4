-- From pages as they were judged to what a path says of them.
use Rattle.std.proofs.Common.{◌≡◌, ◌<◌, ◌≤◌, ◌*◌, ◌^◌, ℕ, true, false, List, length, slice_index, IsTrue, sym, ap, ◌∙◌, subst, arith, true≢false}
use Rattle.grid_types.specs.declared.owner.Owner.TheVariants.{Bucket, Part}
use Rattle.grid_types.specs.declared.sizes.TheConstants.{MOST_ATTRIBUTES, MOST_RECORDS, WORDS_ON_PAGE}
use Rattle.grid_types.specs.Regions.{contains}
use Rattle.grid_model.specs.Lists.{is_among}
use Rattle.grid_model.specs.Cells.{dims, cells, cell_of, part_of}
use Rattle.grid_model.specs.ScaleLaws.{IsCell}
use Rattle.grid_model.specs.Spellings.{BucketOf, directory_spelling}
use Rattle.grid_model.specs.Buckets.{SpellsBucket}
use Rattle.grid_model.specs.Expected.{Sought, SoughtKey, IsSought, IsExpectedPart, IsExpectedBucket}
use Rattle.grid_model.proofs.Indices.{cell_index-below}
use Rattle.history_pages.specs.SpellingLaws.{cells_in_part}
use Rattle.bucket_page.specs.declared.head.Head.{Head}
use Rattle.bucket_page.specs.OnPage.{head_told, bucket_told}
use Rattle.bucket_page.proofs.Standing.{one_bucket_spelled}
use Rattle.directory_pages.specs.Spelling.{SpellsPart, IsDirectoryPage}
use Rattle.directory_pages.proofs.Standing.{part_there, one}
use Rattle.query_paths.specs.Pinned.{Place}
use Rattle.query_paths.specs.Paths.{index_in_part, IsPage, NamesBucket, HasBucket, IsUnexpected, AsPart, AsBucket}
use Rattle.query_paths.specs.Finding.{IsBucketFound}
use Rattle.query_paths.specs.Readings.{IsGoodPart, IsBadPart, IsGoodBucket, IsBadBucket}

-- a cell's index in its part is one of the part's
pub index-inside : (scales : List (List ℕ)) (cell : List ℕ) → IsCell (dims scales) cell → index_in_part scales cell < cells_in_part scales (part_of scales cell)
index-inside scales cell c = omega (arith, cell_index-below (dims scales) cell c)

-- the part of a cell is one of the directory's
pub part-inside : (scales : List (List ℕ)) (cell : List ℕ) → IsCell (dims scales) cell → WORDS_ON_PAGE * part_of scales cell < cells scales
part-inside scales cell c = omega (arith, cell_index-below (dims scales) cell c)

-- what a page spells as cells of a part, where each is a number of 32 bits
pub spells-part : (part count read : ℕ) (numbers bytes names : List ℕ) → part < 2 ^ 32 → count ≤ 1000 → IsExpectedPart bytes part count numbers read names → ((i : ℕ) → slice_index names i < 2 ^ 32) → SpellsPart part bytes names
spells-part part count read numbers bytes names low few e r = record { part_in_range = low; in_range = r; few = omega (arith, few, e.count_is); bytes = e.spelled }

-- a page spells one list of cells
pub one-part : (part : ℕ) (bytes names more : List ℕ) → SpellsPart part bytes names → SpellsPart part bytes more → names ≡ more
one-part part bytes names more x y = (one part part bytes names more (part_there part bytes names x) (part_there part bytes more y)).cells_are

-- the number at an index of a part's page
abbrev pub IsNumberAt : ℕ → List ℕ → ℕ → Type 0
IsNumberAt index bytes number = (part : ℕ) (names : List ℕ) → SpellsPart part bytes names → index < length names → number ≡ slice_index names index

module _ (p : Place) (cell : List ℕ) (part : ℕ) (bytes : List ℕ) (at : ℕ) (is : part ≡ part_of p.scales cell) (low : part < 2 ^ 32) where
  few : cells_in_part p.scales part ≤ 1000
  few = omega arith

  -- a page that is bad is not the expected one
  pub bad-part : (K : ℕ) (sought : Sought) (other : List ℕ) → IsBadPart p part bytes at → IsUnexpected K p cell sought bytes other at
  bad-part K sought other bad = AsPart (subst (λ (q : ℕ). IsPage p (Part q) bytes at) is bad.page) (λ names e. bad.not_spelled (subst (λ (q : ℕ). IsDirectoryPage q (cells_in_part p.scales q) bytes) (sym is) (record {
    cells = names;
    count_is = e.part.count_is;
    spelled = spells-part (part_of p.scales cell) (cells_in_part p.scales (part_of p.scales cell)) (index_in_part p.scales cell) p.numbers bytes names (omega (arith, low, is)) (omega arith) e.part e.in_range;
  })))

  module _ (good : IsGoodPart p part bytes at) (c : IsCell (dims p.scales) cell) (number : ℕ) (read : IsNumberAt (index_in_part p.scales cell) bytes number) where
    abbrev names : List ℕ
    names = good.spelled.cells

    inside : index_in_part p.scales cell < length names
    inside =
        let h = index-inside p.scales cell c in
        let n : length names ≡ cells_in_part p.scales (part_of p.scales cell) = good.spelled.count_is ∙ ap (cells_in_part p.scales) is in
        omega (arith, h, n)

    here : number ≡ slice_index names (index_in_part p.scales cell)
    here = read part names good.spelled.spelled inside

    -- a good page whose number at the cell is one of the place names it
    pub names-bucket : IsTrue (is_among p.numbers number) → NamesBucket p cell number
    names-bucket among = record {
      bytes = bytes;
      at = at;
      page = subst (λ (q : ℕ). IsPage p (Part q) bytes at) is good.page;
      names = names;
      expected = record {
        part = record {
          spelled = good.spelled.spelled.bytes ∙ ap (λ (q : ℕ). directory_spelling q names) is;
          count_is = good.spelled.count_is ∙ ap (cells_in_part p.scales) is;
          inside = index-inside p.scales cell c;
          named = subst (λ (n : ℕ). IsTrue (is_among p.numbers n)) here among;
        };
        in_range = good.spelled.spelled.in_range;
      };
      named = here;
    }

    -- a good page whose number at the cell is none of the place is not the expected one
    pub nameless : (K : ℕ) (sought : Sought) (other : List ℕ) → (IsTrue (is_among p.numbers number) → ⊥) → IsUnexpected K p cell sought bytes other at
    nameless K sought other none = AsPart (subst (λ (q : ℕ). IsPage p (Part q) bytes at) is good.page) (λ more e. none (
        let whole : SpellsPart (part_of p.scales cell) bytes more = spells-part (part_of p.scales cell) (cells_in_part p.scales (part_of p.scales cell)) (index_in_part p.scales cell) p.numbers bytes more (omega (arith, low, is)) (omega arith) e.part e.in_range in
        let same : more ≡ names = one-part (part_of p.scales cell) bytes more names whole (subst (λ (q : ℕ). SpellsPart q bytes names) is good.spelled.spelled) in
        subst (λ (n : ℕ). IsTrue (is_among p.numbers n)) (ap (λ (ns : List ℕ). slice_index ns (index_in_part p.scales cell)) same ∙ sym here) e.part.named))

module _ {K : ℕ} (p : Place) (number : ℕ) (sought : Sought) (bytes : List ℕ) (at : ℕ) where
  -- the page of a good bucket whose region has what is sought is the expected one
  pub has-bucket : (head : Head K) → IsGoodBucket K p number bytes at head → ((k : List ℕ) → IsSought K sought k → IsTrue (contains head.region k)) → HasBucket p number sought bytes (bucket_told K bytes)
  has-bucket head good inside = record {
    at = at;
    page = good.page;
    expected = record {
      spelled = good.spelled;
      number_is = ap (λ (h : Head K). h.number) (sym good.head_is) ∙ good.number_is;
      inside = λ k s. subst (λ (h : Head K). IsTrue (contains h.region k)) good.head_is (inside k s);
    };
  }

  -- a bad bucket's page is not the expected one
  pub bad-bucket : (cell part_bytes : List ℕ) → NamesBucket p cell number → IsBadBucket K p number bytes at → IsUnexpected K p cell sought part_bytes bytes at
  bad-bucket cell part_bytes named bad = AsBucket number named bad.page (λ b e. bad.not_spelled b e.spelled e.number_is)

  -- a good bucket's page is not the expected one where its region lacks a key that is sought
  pub not-expected : (head : Head K) → K ≤ MOST_ATTRIBUTES → IsGoodBucket K p number bytes at head → (k : List ℕ) → IsSought K sought k → contains head.region k ≡ false → (b : BucketOf K) → IsExpectedBucket p.shape bytes number sought b → ⊥
  not-expected head few good k s out b e =
      let same : b ≡ bucket_told K bytes = one_bucket_spelled p.shape.capacity bytes b (bucket_told K bytes) few good.few e.spelled good.spelled in
      let has : contains (bucket_told K bytes).box.region k ≡ true = ap (λ (x : BucketOf K). contains x.box.region k) (sym same) ∙ e.inside k s in
      true≢false (sym has ∙ ap (λ (h : Head K). contains h.region k) (sym good.head_is) ∙ out)

  pub wrong-bucket : (cell part_bytes : List ℕ) (head : Head K) → K ≤ MOST_ATTRIBUTES → NamesBucket p cell number → IsGoodBucket K p number bytes at head → (k : List ℕ) → IsSought K sought k → contains head.region k ≡ false → IsUnexpected K p cell sought part_bytes bytes at
  wrong-bucket cell part_bytes head few named good k s out = AsBucket number named good.page (not-expected head few good k s out)

module _ {K : ℕ} (p : Place) (number : ℕ) (bytes : List ℕ) (at capacity : ℕ) (is : capacity ≡ p.shape.capacity) (named : IsTrue (is_among p.numbers number)) (page : IsPage p (Bucket number) bytes at) where
  -- a page that spells no bucket is bad
  pub spells-none : ((b : BucketOf K) → SpellsBucket capacity bytes b → ⊥) → IsBadBucket K p number bytes at
  spells-none none = record { named = named; page = page; not_spelled = λ b s n. none b (subst (λ (c : ℕ). SpellsBucket c bytes b) (sym is) s) }

  -- and so is one that spells a bucket of another number
  pub spells-other : (head : Head K) → K ≤ MOST_ATTRIBUTES → capacity ≤ MOST_RECORDS → SpellsBucket capacity bytes (bucket_told K bytes) → head ≡ head_told K bytes → (head.number ≡ number → ⊥) → IsBadBucket K p number bytes at
  spells-other head few low s told other = record {
    named = named;
    page = page;
    not_spelled = λ b t n.
        let same : b ≡ bucket_told K bytes = one_bucket_spelled capacity bytes b (bucket_told K bytes) few low (subst (λ (c : ℕ). SpellsBucket c bytes b) (sym is) t) s in
        other (ap (λ (h : Head K). h.number) told ∙ ap (λ (x : BucketOf K). x.number) (sym same) ∙ n);
  }

-- a good bucket that the directory names at a key's cell, and whose region has the key, is that of the key
pub key-found : {K : ℕ} (p : Place) (key bytes : List ℕ) (number at : ℕ) (head : Head K) → IsGoodBucket K p number bytes at head → NamesBucket p (cell_of p.scales key) number → IsTrue (contains head.region key) → IsBucketFound p key bytes head
key-found {K} p key bytes number at head good named inside = record {
  names = subst (NamesBucket p (cell_of p.scales key)) (sym good.number_is) named;
  among = subst (λ (n : ℕ). IsTrue (is_among p.numbers n)) (sym good.number_is) good.named;
  has = subst (λ (n : ℕ). HasBucket p n (SoughtKey key) bytes (bucket_told K bytes)) (sym good.number_is) (has-bucket p number (SoughtKey key) bytes at head good (λ k e. subst (λ (x : List ℕ). IsTrue (contains head.region x)) (sym e) inside));
  head_is = good.head_is;
  inside = inside;
  count = good.rows;
  fits = good.fits;
  few = good.few;
}
