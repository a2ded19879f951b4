-- An image that shows what a file keeps has the standing to which that leads, or the one behind the batch in doubt.
use Rattle.std.proofs.Common.{◌≡◌, ◌≢◌, ◌<◌, ◌≤◌, inl, inr, ℕ, List, [], ◌∷◌, length, map, get_or, cond, refl, ap, subst, ◌∙◌, arith, lt-ltb}
use Rattle.std.specs.Prelude.{slice_index, Option, Some, None}
use Rattle.std.specs.Option.{option_map}
use Rattle.std.specs.Ordering.{nat_cmp}
use Rattle.std.specs.Cmp.{nat_cmp_total}
use Rattle.std.specs.FinMap.{nat_cmp-IsAntisymmetric}
use Rattle.std.proofs.lemmas.List.Elements.{All-map}
use Rattle.grid_types.specs.declared.owner.Owner.TheVariants.{Bucket, Part}
use Rattle.grid_model.specs.Tables.{Table}
use Rattle.grid_model.specs.Cells.{parts}
use Rattle.grid_model.specs.Layouts.{BucketBox, Layout, box, directory_part}
use Rattle.grid_model.specs.Buckets.{SpellsBucket}
use Rattle.grid_model.specs.Spellings.{BucketOf, bucket_spelling, directory_spelling}
use Rattle.grid_model.specs.Images.{bucket_on, HasBuckets, PagesSpell, entry_page, open_slots, written_slots, Found, IsFound, Reads, RootSpells, AreWritten}
use Rattle.grid_model.specs.Roots.{WholeRoot, IsNewestWhole}
use Rattle.grid_model.proofs.Ascending.{each-found}
use Rattle.grid_model.proofs.Divided.{records-together, lawful-bucket}
use Rattle.history_pages.specs.OwnerPages.{as_bucket, numbered_bucket, owner_page}
use Rattle.file_images.specs.Kept.{Counting, Barred, NextSlot, Shut, Flying, Kept}
use Rattle.file_images.specs.Shows.{Shows}
use Rattle.file_images.specs.Steps.{with_slot, with_barred, with_next_shut}
use Rattle.file_images.specs.Leads.{Standing, HasStanding, behind, RootHolds, reach, IsKnown, Lineage, and_then, LeadsAlong, Leads, HasStandingOrBehind}
use Rattle.file_images.proofs.Found.{gates, batch_at, has_gates, opened_there, written_there, written_all, joins}
use Rattle.file_images.proofs.Newest.{newest_of}
use Rattle.file_images.proofs.Resolving.{resolved_by}
use Rattle.file_images.proofs.Histories.{leads_shut, leads_barred, leads_placed}

numbers_same : {K : ℕ} (t : Table) (es : List (ℕ × BucketBox K)) → map (λ (b : BucketOf K). b.number) (map (bucket_on t) es) ≡ map (λ e. e.0) es
numbers_same t [] = refl
numbers_same t (e ∷ es) = ap (λ (ns : List ℕ). e.0 ∷ ns) (numbers_same t es)

-- the pages of owners
pub bucket_of_owner : {K : ℕ} (L : Layout K) (t : Table) (n : ℕ) (b : BucketBox K) → box L n ≡ Some b → owner_page L t (Bucket n) ≡ Some (bucket_spelling (bucket_on t (n, b)))
unfolding owner_page numbered_bucket
bucket_of_owner {K} L t n b is = ap (λ (o : Option (BucketBox K)). option_map bucket_spelling (option_map (as_bucket t n) o)) is

pub part_of_owner : {K : ℕ} (L : Layout K) (t : Table) (p : ℕ) → p < parts L.scales → owner_page L t (Part p) ≡ Some (directory_spelling p (directory_part L p))
unfolding owner_page
part_of_owner L t p lt = ap (λ b. cond b (Some (directory_spelling p (directory_part L p))) None) (lt-ltb p (parts L.scales) lt)

module _ {K : ℕ} (k : Kept K) (image : List ℕ) (was : Shows k image) (w : WholeRoot) (L : Layout K) (t : Table) (holds : RootHolds k w L t) where
  bucket_there : (n : ℕ) (b : BucketBox K) → box L n ≡ Some b → SpellsBucket k.shape.capacity (entry_page k.shape image w.area.table n) (bucket_on t (n, b))
  bucket_there n b is = record {
    lawful = lawful-bucket k.shape L t n b holds.stands is;
    bytes = was.pages (slice_index w.area.table n) (bucket_spelling (bucket_on t (n, b))) (holds.pages (Bucket n) (bucket_spelling (bucket_on t (n, b))) (bucket_of_owner L t n b is));
  }

  part_there : (p : ℕ) → p < parts L.scales → entry_page k.shape image w.area.parts p ≡ directory_spelling p (directory_part L p)
  part_there p lt = was.pages (slice_index w.area.parts p) (directory_spelling p (directory_part L p)) (holds.pages (Part p) (directory_spelling p (directory_part L p)) (part_of_owner L t p lt))

  pub has_buckets : HasBuckets k.shape image w.area.table (map (bucket_on t) L.boxes)
  has_buckets = record {
    numbers = numbers_same t L.boxes ∙ holds.numbers;
    each = All-map (λ (b : BucketOf K). SpellsBucket k.shape.capacity (entry_page k.shape image w.area.table b.number) b) (bucket_on t) L.boxes
        (λ i d lt. let e = get_or L.boxes i d in bucket_there e.0 e.1 (each-found nat_cmp nat_cmp_total nat_cmp-IsAntisymmetric L.boxes holds.stands.sound.numbered i d lt));
  }

  pub pages_spell : PagesSpell k.shape image w.area.parts w.area.table L t
  pages_spell = record { count = holds.directory; directory = part_there; numbers = holds.numbers; buckets = bucket_there }

-- where nothing is on the next slot, it has the standing to which its newest root leads
module _ {K : ℕ} (k : Kept K) (image : List ℕ) (was : Shows k image) (shut : k.next ≡ Shut) (w : WholeRoot) (whole : IsNewestWhole k.shape w image) (m : Standing K) (x : Lineage K) (c : LeadsAlong k w m x) where
  abbrev found : Found K
  found = record {
    shape = k.shape;
    root = w.fields;
    area = w.area;
    gates = gates k image was shut;
    batches = map (batch_at k) (open_slots (gates k image was shut));
    taken = x.taken;
    buckets = map (bucket_on x.table) x.layout.boxes;
    table = x.table;
  }

  is_found : IsFound image found m.place
  is_found =
      let far : reach k.next m.place ≡ m.place = ap (λ (n : NextSlot K). reach n m.place) shut in
      record {
        shape = was.shape;
        root = whole.newest;
        area = whole.area;
        gates = has_gates k image was shut;
        batches = opened_there k image was shut;
        taken = joins k image was shut w.fields.session w.fields.front m.place x.taken c.chain c.there (λ h i p two is mine. subst (λ (n : ℕ). IsKnown k w.fields.front x.taken m.place n h i p) far (c.known h i p two is mine));
      }

  abbrev reads : Reads K image m.place m.table
  reads = record {
    found = found;
    makes = record { is_found = is_found; buckets = has_buckets k image was w x.layout x.table c.holds; records = records-together k.shape x.layout x.table c.holds.stands; table = c.makes_table };
  }

  root_spells : RootSpells image found x.layout
  root_spells = record { scales = c.holds.scales; pages = pages_spell k image was w x.layout x.table c.holds; sound = c.holds.stands.sound; records = c.holds.records }

  are_written : AreWritten image found
  are_written = record {
    batches = map (batch_at k) (written_slots (gates k image was shut));
    slots = written_there k image was shut;
    sessions = written_all k image was shut (λ b. b.session ≤ w.fields.session) c.sessions;
  }

  pub stands_shut : HasStanding image m
  stands_shut = record {
    stands = record { reads = reads; written = are_written; layout = x.layout; root = root_spells; updates = c.may };
    shaped = record { place = m.place; table = m.table; reads = reads; layout = x.layout; root = root_spells; after = c.makes_layout };
  }

-- an image has the standing, or that behind the batch in doubt, be the newest root the kept one or the one that was tried
pub shows_stands : {K : ℕ} (k : Kept K) (image : List ℕ) (m : Standing K) → Shows k image → k.next ≢ Flying → Leads k m → HasStandingOrBehind k image m
shows_stands {K = K} k image m was still leads =
    let newest = newest_of k.shape k.root k.other image was.roots in
    let w = newest.newest in
    let r = leads w newest.is in
    let x = r.lineage in
    let c = r.along in
    elim (resolved_by k image was k.next refl still) [
      | inl plain ↦ inl (stands_shut (with_next_shut k) image plain refl w newest.whole m x (leads_shut k w m x c))
      | inr more ↦
          let d = more.0 in
          let some : 0 < length d.updates = omega (arith, more.1.spelled.lawful.some) in
          elim more.1.how [
            | inl barred ↦ inl (stands_shut (with_barred k d) image barred refl w newest.whole m x (leads_barred k w m x c d more.1.is was.sizes.two Barred refl))
            | inr counts ↦ inr (d, more.1.is, stands_shut (with_slot k d) image counts refl w newest.whole (behind m d) (and_then x d) (leads_placed k w m x c d more.1.is was.sizes.two Counting some refl))
          ]
    ]
