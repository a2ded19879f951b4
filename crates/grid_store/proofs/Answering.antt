-- A call that only reads a store's file, as an answer at a point of its client's session.
use Rattle.std.proofs.Common.{◌≡◌, ◌⊎◌, inl, inr, ℕ, Bool, false, List, [], ◌∷◌, map, is_some, IsTrue, refl, sym, ap, subst, ◌∙◌}
use Rattle.grid_types.specs.declared.refusal.Refusal.{Refusal}
use Rattle.grid_types.specs.declared.refusal.Refusal.TheVariants.{BadQuery, NoMemory, ReadFault}
use Rattle.grid_types.specs.declared.request.Reply.{Reply}
use Rattle.grid_types.specs.declared.request.Request.{Request}
use Rattle.grid_types.specs.declared.update.Record.{Record}
use Rattle.disk_trait.specs.declared.disk.Disk.{Ghosts}
use Rattle.grid_model.specs.Lone.{record_of}
use Rattle.grid_model.specs.Tables.{Table, pairs_of}
use Rattle.query_paths.specs.Paths.{IsFaultOrLack}
use Rattle.grid_file.specs.Keeping.{ReadsFile}
use Rattle.client_sessions.specs.Points.{Point}
use Rattle.client_sessions.specs.Told.{Told}
use Rattle.grid_store.specs.Stores.{OpenStore, IsStoreAt}
use Rattle.grid_store.specs.Answered.{IsAnswered}
use Rattle.grid_store.proofs.Pinning.{reads_at, moments_at}

module _ {K : ℕ} {D : Type 0} (g : Ghosts D) (old new : OpenStore K D) (reads : ReadsFile K g old.file new.file) (stop : new.stop ≡ old.stop) where
  -- it answers what is told there, and leads nowhere else
  pub read_answered : (p : Point K) (r : Request K) (reply : Reply K) → IsStoreAt g old p → Told old.file.books.shape p r reply p → IsAnswered g p r reply old new
  read_answered p r reply is told = record {
    point = p;
    told = told;
    stands = record { file = reads_at g old.file new.file p reads is.file; stop = ap is_some stop ∙ is.stop };
    moments = moments_at g old.file.books p old.file.disk new.file.disk reads.disk is.file;
  }

-- what is answered by a store as it is inside is answered by it as it is seen
pub seen_answered : {K : ℕ} {D : Type 0} (g : Ghosts D) (seen inside new : OpenStore K D) (r : Request K) (reply : Reply K) → inside ≡ seen → (IsTrue (g.honest inside.file.disk) → (p : Point K) → IsStoreAt g inside p → IsAnswered g p r reply inside new) → IsTrue (g.honest seen.file.disk) → (p : Point K) → IsStoreAt g seen p → IsAnswered g p r reply seen new
seen_answered {K} {D} g seen inside new r reply same answers = subst (λ (old : OpenStore K D). IsTrue (g.honest old.file.disk) → (p : Point K) → IsStoreAt g old p → IsAnswered g p r reply old new) same answers

-- records whose pairs are a table's are its entries as records
pub rows_of_pairs : {K : ℕ} (rs : List (Record K)) (t : Table) → pairs_of rs ≡ t → rs ≡ map record_of t
rows_of_pairs rs t same = sym (records_back rs) ∙ ap (map record_of) same
  where
    records_back : {K : ℕ} (rs : List (Record K)) → map record_of (pairs_of rs) ≡ rs
    records_back [] = refl
    records_back (r ∷ rs) = λ i. r ∷ records_back rs i

-- a fault or a lack is what a listing may be refused for
pub fault_or_lack : (lawful : Bool) (e : Refusal) → IsFaultOrLack e → (e ≡ ReadFault) ⊎ (e ≡ NoMemory) ⊎ ((e ≡ BadQuery) × (lawful ≡ false))
fault_or_lack lawful e (inl fault) = inl fault
fault_or_lack lawful e (inr lack) = inr (inl lack)
