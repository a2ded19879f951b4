-- Exactly the owners of a layout have a page.
use Rattle.std.proofs.Common.{◌≡◌, ◌↔◌, ℕ, Bool, true, false, cond, Option, Some, None, IsSome, IsTrue, is_some, refl, sym, ◌∙◌, option_map, nat_lt}
use Rattle.grid_types.specs.declared.owner.Owner.{Owner}
use Rattle.grid_types.specs.declared.owner.Owner.TheVariants.{Bucket, Part}
use Rattle.grid_model.specs.Cells.{parts}
use Rattle.grid_model.specs.Tables.{Table}
use Rattle.grid_model.specs.Layouts.{Layout, box, directory_part}
use Rattle.grid_model.specs.Lone.{owners}
use Rattle.grid_model.specs.Spellings.{bucket_spelling, directory_spelling}
use Rattle.history_pages.specs.OwnerPages.{has_owner, as_bucket, numbered_bucket, owner_page}
use Rattle.history_pages.proofs.Numbers.{found-where, below-where}

-- there is an image exactly where there is something
pub some-mapped : {X Y : Type 0} (f : X → Y) (o : Option X) → is_some (option_map f o) ≡ is_some o
some-mapped f None = refl
some-mapped f (Some x) = refl

-- what stands under a test is there exactly where the test is true
pub some-if : {X : Type 0} (b : Bool) (x : X) → is_some (cond b (Some x) None) ≡ b
some-if true x = refl
some-if false x = refl

-- a bucket has a page exactly where a box has its number
pub bucket-named : {K : ℕ} (L : Layout K) (t : Table) (n : ℕ) → is_some (owner_page L t (Bucket n)) ≡ is_some (box L n)
unfolding owner_page numbered_bucket
bucket-named L t n = some-mapped bucket_spelling (option_map (as_bucket t n) (box L n)) ∙ some-mapped (as_bucket t n) (box L n)

-- a part has a page exactly where it is one of the directory's
pub part-named : {K : ℕ} (L : Layout K) (t : Table) (p : ℕ) → is_some (owner_page L t (Part p)) ≡ nat_lt p (parts L.scales)
unfolding owner_page
part-named L t p = some-if (nat_lt p (parts L.scales)) (directory_spelling p (directory_part L p))

-- an owner has a page exactly where it is one of the layout's
pub has-page : {K : ℕ} (L : Layout K) (t : Table) (o : Owner) → is_some (owner_page L t o) ≡ has_owner (owners L) o
has-page L t (Bucket n) = bucket-named L t n ∙ found-where L.boxes n
has-page L t (Part p) = part-named L t p ∙ below-where (parts L.scales) p

-- so exactly the owners have one
pub named : {K : ℕ} (L : Layout K) (t : Table) (o : Owner) → IsSome (owner_page L t o) ↔ IsTrue (has_owner (owners L) o)
named L t o = (λ h. sym (has-page L t o) ∙ h, λ h. has-page L t o ∙ h)
