-- A layout divides the table over which it stands into lawful buckets.
use Rattle.std.proofs.Common.{◌≡◌, ℕ, true, List, [], ◌∷◌, map, length, sum, All, Some, refl, sym, ap, subst, ◌∙◌, arith}
use Rattle.std.proofs.lemmas.List.{length-map}
use Rattle.std.proofs.lemmas.List.Elements.{All-map, filter_passes}
use Rattle.std.proofs.lemmas.List.Sums.{sum_by-cons}
use Rattle.std.specs.FinMap.Entries.{is_sorted-where_key}
use Rattle.grid_types.specs.declared.shape.Shape.{Shape}
use Rattle.grid_types.specs.declared.update.Record.{Record}
use Rattle.grid_types.specs.Keys.{key_cmp, IsKey}
use Rattle.grid_types.specs.Regions.{contains}
use Rattle.grid_types.proofs.Places.{within-limits}
use Rattle.grid_model.specs.Tables.{Table, IsTable, IsData, get, pairs_of}
use Rattle.grid_model.specs.Layouts.{BucketBox, Layout, box, records_inside}
use Rattle.grid_model.specs.LayoutLaws.{StandsOver}
use Rattle.grid_model.specs.Lone.{record_of}
use Rattle.grid_model.specs.Spellings.{BucketOf}
use Rattle.grid_model.specs.Buckets.{IsBucket}
use Rattle.grid_model.specs.Images.{bucket_on, AreRecordsOf}
use Rattle.grid_model.specs.BucketLaws.{DividesTable}
use Rattle.grid_model.proofs.Gathered.{each-inside, gathered}
use Rattle.grid_model.proofs.Summed.{records_in_all, all-counted}

-- the pairs of the records of some entries are the entries
pub pairs-of-records : (K : ℕ) (s : Table) → pairs_of (map (record_of {K = K}) s) ≡ s
pairs-of-records K [] = refl
pairs-of-records K (e ∷ s) = ap (λ es. e ∷ es) (pairs-of-records K s)

module _ {K : ℕ} where
  -- the buckets have as many records together as the regions of their boxes
  pub sum-of-rows : (t : Table) (es : List (ℕ × BucketBox K)) → sum (map (λ b. length b.rows) (map (bucket_on t) es)) ≡ records_in_all t es
  sum-of-rows t [] = refl
  sum-of-rows t (e ∷ es) =
      omega (
        arith,
        sum_by-cons (λ n. n) (length (map (record_of {K = K}) (records_inside t e.1.region))) (map (λ (b : BucketOf K). length b.rows) (map (bucket_on t) es)),
        length-map (records_inside t e.1.region) (record_of {K = K}),
        sum_by-cons (λ (x : ℕ × BucketBox K). length (records_inside t x.1.region)) e es,
        sum-of-rows t es,
      )

  -- the buckets of a layout's boxes have the records of the table over which it stands, each once
  pub records-together : (shape : Shape) (L : Layout K) (t : Table) → StandsOver shape L t → AreRecordsOf (map (bucket_on t) L.boxes) t
  records-together shape L t h = record { all = gathered shape L t h; once = sum-of-rows t L.boxes ∙ all-counted shape L t h }

  -- each box with the records of its region is a lawful bucket
  pub lawful-bucket : (shape : Shape) (L : Layout K) (t : Table) (n : ℕ) (b : BucketBox K) → StandsOver shape L t → box L n ≡ Some b → IsBucket shape.capacity (bucket_on t (n, b))
  lawful-bucket shape L t n b h there = record {
    number = let few = (within-limits shape h.lawful).few_pages in let low = h.sound.below_pages n b there in omega (arith, few, low);
    turn = h.sound.turns n b there;
    region = h.sound.regions n b there;
    count = let as_many : length (map (record_of {K = K}) inside) ≡ length inside = length-map inside record_of in let room = h.sound.room n b there in omega (arith, as_many, room);
    ascending = subst IsTable (sym (pairs-of-records K inside)) (is_sorted-where_key key_cmp (contains b.region) t h.table);
    keys = All-map (λ (r : Record K). IsKey K r.key.numbers) record_of inside (λ i d l. h.keys _ _ (entries i d l));
    inside = All-map (λ (r : Record K). contains b.region r.key.numbers ≡ true) record_of inside (filter_passes (λ (e : List ℕ × List ℕ). contains b.region e.0) t);
    values = All-map (λ (r : Record K). IsData r.value) record_of inside (λ i d l. h.values _ _ (entries i d l));
  }
    where
      inside : Table
      inside = records_inside t b.region

      entries : All (λ e. get t e.0 ≡ Some e.1) (records_inside t b.region)
      entries = each-inside t b.region h.table

  -- a layout divides its table into lawful buckets
  pub divides-table : DividesTable K
  divides-table = record { together = records-together; lawful = lawful-bucket }
