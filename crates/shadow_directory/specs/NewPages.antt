-- What was written of a change: the pages of its buckets, then those of directory parts.
use Rattle.std.specs.Prelude.{◌≡◌, ◌++◌, ℕ, List, map}
use Rattle.grid_types.specs.declared.owner.Owner.{Owner}
use Rattle.grid_types.specs.declared.owner.Owner.TheVariants.{Bucket, Part}
use Rattle.grid_model.specs.Spellings.{directory_spelling}
use Rattle.shadow_directory.specs.declared.buckets.NewBucket.{NewBucket}

-- the pages of buckets that are handed in
abbrev pub bucket_pages : List NewBucket → List (Owner × List ℕ)
bucket_pages buckets = map (λ b. (Bucket b.number, b.page.now)) buckets

-- the pages of parts with these cells
abbrev pub part_pages : (ℕ → List ℕ) → List ℕ → List (Owner × List ℕ)
part_pages cells parts = map (λ p. (Part p, directory_spelling p (cells p))) parts

-- a page was written for each of these parts, in their order, and nothing else
pub record WroteParts (parts : List ℕ) (old new : List (Owner × List ℕ)) : Type 0 where
  pub more : List (Owner × List ℕ)
  pub is : new ≡ old ++ more
  pub order : map (λ w. w.0) more ≡ map Part parts

-- the pages of the buckets were written, then a page for each of these parts, in their order, and nothing else
pub record WroteChange (buckets : List NewBucket) (parts : List ℕ) (old new : List (Owner × List ℕ)) : Type 0 where
  pub more : List (Owner × List ℕ)
  pub is : new ≡ old ++ (bucket_pages buckets ++ more)
  pub order : map (λ w. w.0) more ≡ map Part parts
