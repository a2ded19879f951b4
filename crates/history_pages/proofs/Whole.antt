-- An image's pages spell a layout and a table exactly where it has each owner's page.
use Rattle.std.proofs.Common.{◌≡◌, ◌↔◌, ◌<◌, ◌⊎◌, inl, inr, ◌==◌, not, ℕ, Bool, true, false, cond, List, map, length, slice_index, Option, Some, None, is_some, refl, sym, ap, ◌∙◌, arith, true≢false, option_map, nat_lt, ltb-true, lt-ltb}
use Rattle.std.proofs.lemmas.Bool.{cases_order, le-ltb}
use Rattle.grid_types.specs.declared.owner.Owner.{Owner}
use Rattle.grid_types.specs.declared.owner.Owner.TheVariants.{Bucket, Part}
use Rattle.grid_types.specs.declared.shape.Shape.{Shape}
use Rattle.grid_model.specs.Lists.{is_among}
use Rattle.grid_model.specs.Cells.{parts}
use Rattle.grid_model.specs.Tables.{Table}
use Rattle.grid_model.specs.Layouts.{BucketBox, Layout, box, directory_part}
use Rattle.grid_model.specs.LayoutLaws.{StandsOver}
use Rattle.grid_model.specs.Lawful.{nowhere}
use Rattle.grid_model.specs.Spellings.{bucket_spelling, directory_spelling}
use Rattle.grid_model.specs.Buckets.{SpellsBucket}
use Rattle.grid_model.specs.Images.{bucket_on, numbers_of, entry_page}
use Rattle.grid_model.proofs.Boxes.{one-value}
use Rattle.history_pages.specs.OwnerPages.{as_bucket, numbered_bucket, owner_page, ImagePages, page_in}
use Rattle.history_pages.specs.SpellingLaws.{ImageSpells}
use Rattle.history_pages.proofs.Ascending.{same-numbers, entries-ascend, passing-ascend}
use Rattle.history_pages.proofs.Named.{some-if, bucket-named, part-named}
use Rattle.history_pages.proofs.Numbers.{found-where}
use Rattle.history_pages.proofs.Spelled.{bucket-spelled}

-- two numbers that have the same numbers below them are one
same-bound : (m n : ℕ) → ((p : ℕ) → nat_lt p m ≡ nat_lt p n) → m ≡ n
same-bound m n same = by (cases_order m n)
  where
    by : (m ≡ n) ⊎ ((m < n) ⊎ (n < m)) → m ≡ n
    by (inl e) = e
    by (inr (inl l)) = absurd (true≢false (sym (lt-ltb m n l) ∙ sym (same m) ∙ le-ltb m m (omega arith)))
    by (inr (inr l)) = absurd (true≢false (sym (lt-ltb n m l) ∙ same n ∙ le-ltb n n (omega arith)))

module _ {K : ℕ} (shape : Shape) (L : Layout K) (t : Table) (pages : ImagePages) where
  -- the data page of a bucket, and that of a part
  abbrev bucket_in : ℕ → List ℕ
  bucket_in n = entry_page shape pages.image pages.table n

  abbrev part_in : ℕ → List ℕ
  part_in p = entry_page shape pages.image pages.parts_at p

  -- an image whose pages spell a layout and a table has each owner's page
  module _ (h : ImageSpells shape pages L t) where
    -- that of a bucket
    has-bucket : (n : ℕ) → page_in shape pages (Bucket n) ≡ owner_page L t (Bucket n)
    unfolding page_in owner_page numbered_bucket
    has-bucket n = ap (λ b. cond b (Some (bucket_in n)) None) (ap (λ ns. is_among ns n) (sym h.numbers) ∙ sym (found-where L.boxes n)) ∙ by (box L n) refl
      where
        by : (o : Option (BucketBox K)) → box L n ≡ o → cond (is_some o) (Some (bucket_in n)) None ≡ option_map bucket_spelling (option_map (as_bucket t n) o)
        by None e = refl
        by (Some b) e = ap Some (h.buckets n b e).bytes

    -- that of a part
    has-part : (p : ℕ) → page_in shape pages (Part p) ≡ owner_page L t (Part p)
    unfolding page_in owner_page
    has-part p = ap (λ m. cond (nat_lt p m) (Some (part_in p)) None) h.count ∙ by (nat_lt p (parts L.scales)) refl
      where
        by : (b : Bool) → nat_lt p (parts L.scales) ≡ b → cond b (Some (part_in p)) None ≡ cond b (Some (directory_spelling p (directory_part L p))) None
        by true e = ap Some (h.directory p (ltb-true p (parts L.scales) e))
        by false e = refl

    has-each : (o : Owner) → page_in shape pages o ≡ owner_page L t o
    has-each (Bucket n) = has-bucket n
    has-each (Part p) = has-part p

  -- and the pages of an image that has each owner's page spell the layout and the table
  module _ (stands : StandsOver shape L t) (has : (o : Owner) → page_in shape pages o ≡ owner_page L t o) where
    -- it has as many parts
    as-many-parts : length pages.parts_at ≡ parts L.scales
    unfolding page_in
    as-many-parts = same-bound (length pages.parts_at) (parts L.scales) (λ p. sym (some-if (nat_lt p (length pages.parts_at)) (part_in p)) ∙ ap is_some (has (Part p)) ∙ part-named L t p)

    -- each part's page spells the part
    part-is : (p : ℕ) → p < parts L.scales → part_in p ≡ directory_spelling p (directory_part L p)
    unfolding page_in owner_page
    part-is p l = one-value (part_in p) (directory_spelling p (directory_part L p)) (
        sym (ap (λ b. cond b (Some (part_in p)) None) (ap (nat_lt p) as-many-parts ∙ lt-ltb p (parts L.scales) l))
        ∙ has (Part p)
        ∙ ap (λ b. cond b (Some (directory_spelling p (directory_part L p))) None) (lt-ltb p (parts L.scales) l))

    -- a number is one of the table's exactly where a box has it
    number-is : (n : ℕ) → is_among (numbers_of pages.table) n ≡ is_some (box L n)
    unfolding page_in
    number-is n = sym (some-if (is_among (numbers_of pages.table) n) (bucket_in n)) ∙ ap is_some (has (Bucket n)) ∙ bucket-named L t n

    -- so the table has the boxes' numbers
    numbers-are : map (λ e. e.0) L.boxes ≡ numbers_of pages.table
    numbers-are = same-numbers (map (λ e. e.0) L.boxes) (numbers_of pages.table) (entries-ascend L.boxes stands.sound.numbered)
        (passing-ascend (λ n. not (slice_index pages.table n == nowhere)) 0 (length pages.table)) (λ q. sym (found-where L.boxes q) ∙ sym (number-is q))

    -- and each bucket's page spells the bucket
    bucket-is : (m : ℕ) (b : BucketBox K) → box L m ≡ Some b → SpellsBucket shape.capacity (bucket_in m) (bucket_on t (m, b))
    unfolding page_in
    bucket-is m b there = bucket-spelled shape L t m b (bucket_in m) stands there (sym (has (Bucket m)) ∙ ap (λ s. cond s (Some (bucket_in m)) None) (number-is m ∙ ap is_some there))

    image-spells : ImageSpells shape pages L t
    image-spells = record { count = as-many-parts; directory = part-is; numbers = numbers-are; buckets = bucket-is }

  -- an image's pages spell a layout and a table exactly where it has each owner's page
  pub whole : StandsOver shape L t → ImageSpells shape pages L t ↔ ((o : Owner) → page_in shape pages o ≡ owner_page L t o)
  whole stands = (has-each, image-spells stands)
