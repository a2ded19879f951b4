-- What is answered in one history is answered in another that has its places, tables and entries.
use Rattle.std.proofs.Common.{◌≡◌, ◌-◌, ℕ, List, map, length, Option, Some, None, sym, ap, ◌∙◌}
use Rattle.grid_types.specs.declared.update.Update.{Update}
use Rattle.grid_types.specs.declared.update.Update.TheVariants.{Put, Remove}
use Rattle.grid_types.specs.declared.request.Request.{Request}
use Rattle.grid_types.specs.declared.request.Request.TheVariants as ask
use Rattle.grid_types.specs.declared.request.Reply.{Reply}
use Rattle.grid_types.specs.declared.request.Reply.TheVariants as told
use Rattle.grid_model.specs.Tables.{Table, get}
use Rattle.grid_model.specs.Listings.{rows}
use Rattle.grid_model.specs.Lone.{record_of}
use Rattle.grid_model.specs.Histories.{History, IsPlace, entry_at, state_at}
use Rattle.grid_model.specs.Answers.{IsReading, IsUpdate, IsRemoval, IsAnswer}

-- a caller's entry at a place of one history is another's at that place of the other, and the tables before it are the same
pub record CarriesEntry {K : ℕ} (h g : History K) (caller other : ℕ) (n : ℕ) (u : Update K) : Type 0 where
  pub there : entry_at g n ≡ Some (record { caller = other; update = u })
  pub table : state_at g (n - 1) ≡ state_at h (n - 1)

module _ {K : ℕ} (h g : History K) (caller other : ℕ) (place : (n : ℕ) → IsPlace h n → IsPlace g n) (table : (n : ℕ) → IsPlace h n → state_at g n ≡ state_at h n)
    (entry : (n : ℕ) (u : Update K) → entry_at h n ≡ Some (record { caller = caller; update = u }) → CarriesEntry h g caller other n u) where
  reading : {V : Type 0} (at : ℕ) (value : V) (of : Table → V) → IsReading h at value of → IsReading g at value of
  reading at value of r = record { place = place at r.place; answer = r.answer ∙ ap of (sym (table at r.place)) }

  update : (u : Update K) (k : List ℕ) (at : ℕ) (value : Option (List ℕ)) → IsUpdate h caller u k at value → IsUpdate g other u k at value
  update u k at value r = let e = entry at u r.there in record { there = e.there; answer = r.answer ∙ ap (λ t. get t k) (sym e.table) }

  removal : (u : Update K) (k : List ℕ) (at : ℕ) (value : Option (List ℕ)) → IsRemoval h caller u k at value → IsRemoval g other u k at value
  removal u k at None r = reading at None (λ t. get t k) r
  removal u k at (Some d) r = update u k at (Some d) r

  -- an answer of the one caller in the one history is an answer of the other in the other
  pub carried : (r : Request K) (reply : Reply K) → IsAnswer h caller r reply → IsAnswer g other r reply
  carried (ask.Put r) (told.Put a) is = update (Put r) r.key.numbers a.at a.value is
  carried (ask.Remove k) (told.Removed a) is = removal (Remove k) k.numbers a.at a.value is
  carried (ask.Get k) (told.Got a) is = reading a.at a.value (λ t. get t k.numbers) is
  carried (ask.List q) (told.Listed a) is = reading a.at a.value (λ t. map record_of (rows t q)) is
  carried (ask.Count q) (told.Counted a) is = reading a.at a.value (λ t. length (rows t q)) is
  carried ask.Stat (told.Stood a) is = reading a.at a.value.records (λ t. length t) is
  carried ask.Checkpoint (told.Rooted at) is = place at is
  carried _ _ is = absurd is
