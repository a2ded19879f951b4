-- The bucket that an update does not touch.
use Rattle.std.proofs.Common.{◌≡◌, ◌≢◌, ℕ, ap, option_map}
use Rattle.grid_types.specs.declared.owner.Owner.TheVariants.{Bucket}
use Rattle.grid_types.specs.declared.update.Update.{Update}
use Rattle.grid_model.specs.Tables.{Table, IsTable, effect}
use Rattle.grid_model.specs.Layouts.{Layout, box, Apart}
use Rattle.grid_model.specs.Notes.{updated_key}
use Rattle.grid_model.specs.Spellings.{bucket_spelling}
use Rattle.grid_model.proofs.TableLaws.{effect-table}
use Rattle.history_pages.specs.OwnerPages.{numbered_bucket, owner_page}
use Rattle.history_pages.proofs.Agreeing.{agree-outside, same-bucket}
use Rattle.history_pages.proofs.Names.{Has, lacks}

-- a bucket whose box stays, and which is not the one that has the key, stays
pub bucket-stays : {K : ℕ} (M L : Layout K) (t : Table) (u : Update K) (n m : ℕ) → IsTable t → Apart L → Has L (updated_key u) n → m ≢ n → box M m ≡ box L m → numbered_bucket M (effect t u) m ≡ numbered_bucket L t m
bucket-stays M L t u n m sorted apart h other same =
    same-bucket M L (effect t u) t m same (effect-table t u sorted) sorted (λ d there. agree-outside d.region t u (lacks L (updated_key u) n m d apart h other there))

-- and so does its page
pub bucket-page : {K : ℕ} (M L : Layout K) (s t : Table) (m : ℕ) → numbered_bucket M s m ≡ numbered_bucket L t m → owner_page M s (Bucket m) ≡ owner_page L t (Bucket m)
unfolding owner_page
bucket-page M L s t m same = ap (option_map bucket_spelling) same
