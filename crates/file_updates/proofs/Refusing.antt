-- Why new pages are not written, as a file tells it.
use Rattle.std.proofs.Common.{◌≡◌, ◌<◌, ◌*◌, ℕ, List, sym, ap, ◌∙◌, subst}
use Rattle.std.specs.Prelude.{Result, Ok, Err, IfErr}
use Rattle.grid_types.specs.declared.owner.Owner.TheVariants.{Part}
use Rattle.grid_types.specs.declared.refusal.Refusal.{Refusal}
use Rattle.grid_types.specs.declared.refusal.Refusal.TheVariants as why
use Rattle.grid_model.specs.Cells.{dims}
use Rattle.grid_model.specs.Lists.{product}
use Rattle.disk_trait.specs.declared.disk.Disk.{Ghosts}
use Rattle.disk_trait.specs.Causes.{Rose}
use Rattle.directory_pages.specs.Spelling.{IsDirectoryPage}
use Rattle.directory_pages.specs.CellBoxes.{cells_on}
use Rattle.shadow_directory.specs.declared.pages.ChangePages as pages
use Rattle.shadow_directory.specs.Calls.{IsCause}
use Rattle.grid_file.specs.Files.{OpenFile, IsOpenFile, with_claim, without_claim}
use Rattle.grid_file.specs.Pages.{file_page}
use Rattle.query_paths.specs.Pinned.{Place}
use Rattle.file_updates.proofs.Places.{claim_place}
use Rattle.file_updates.specs.Writing.{IsWriteRefusal}

-- the members of a file as pages of a change, as far as refusals speak of them
pub record TellsOf {D : Type 0} (g : Ghosts D) (p : pages.Ghosts (OpenFile D)) : Type 0 where
  pub lies : (f : OpenFile D) (part page : ℕ) → p.lies_at f part page → page ≡ file_page f.books (Part part)
  pub reads : (f : OpenFile D) → p.read_count f ≡ g.read_count f.disk
  pub writes : (f : OpenFile D) → p.write_count f ≡ g.write_count f.disk

module _ {D : Type 0} (g : Ghosts D) {p : pages.Ghosts (OpenFile D)} (tells : TellsOf g p) (ns : List ℕ) (old new : OpenFile D) (bytes : List ℕ) (same : ns ≡ dims old.books.scales) where
  told : (e : Refusal) → IsCause p ns old new bytes e → IsWriteRefusal g old new bytes e
  told why.ReadFault is = subst (λ (z : ℕ × ℕ). Rose z.0 z.1) (λ i. (tells.reads old i, tells.reads new i)) is
  told why.WriteFault is = subst (λ (z : ℕ × ℕ). Rose z.0 z.1) (λ i. (tells.writes old i, tells.writes new i)) is
  told (why.Damaged page) is = record {
    part = is.part;
    below = subst (λ (ms : List ℕ). 1000 * is.part < product ms) same is.below;
    stands = tells.lies old is.part page is.lies;
    not_spelled = subst (λ (ms : List ℕ). IsDirectoryPage is.part (cells_on ms is.part) bytes → ⊥) same is.not_spelled;
  }
  told why.NoMemory is = is
  told (why.Unsure faults before) is = is
  told (why.Stopped faults opened) is = is
  told (why.Full free need) is = is
  told (why.NoCut cells boundaries) is = is
  told why.Foreign is = is
  told (why.Version found) is = is
  told why.Seats is = is
  told why.BadShape is = is
  told why.BadQuery is = is
  told (why.Worn count) is = is
  told (why.Arity found) is = is

  pub refusal_told : {T : Type 0} (r : Result T Refusal) → IfErr r (IsCause p ns old new bytes) → IfErr r (IsWriteRefusal g old new bytes)
  refusal_told (Ok x) is = is
  refusal_told (Err e) is = told e is

-- what is told of a file with claimed pages is told of it without these
module _ {K : ℕ} {D : Type 0} (g : Ghosts D) (f : OpenFile D) (is : IsOpenFile K g f) (count : ℕ) where
  of_file : (failed : OpenFile D) (bytes : List ℕ) (e : Refusal) → IsWriteRefusal g (with_claim count f) failed bytes e → IsWriteRefusal g f (without_claim failed) bytes e
  of_file failed bytes why.ReadFault told = told
  of_file failed bytes why.WriteFault told = told
  of_file failed bytes (why.Damaged page) told = record {
    part = told.part;
    below = told.below;
    stands = told.stands ∙ ap (λ (p : Place). p.file_page (Part told.part)) (claim_place g f is.books_are.owners count);
    not_spelled = told.not_spelled;
  }
  of_file failed bytes why.NoMemory told = told
  of_file failed bytes (why.Unsure faults before) told = told
  of_file failed bytes (why.Stopped faults opened) told = told
  of_file failed bytes (why.Full free need) told = told
  of_file failed bytes (why.NoCut cells boundaries) told = told
  of_file failed bytes why.Foreign told = told
  of_file failed bytes (why.Version found) told = told
  of_file failed bytes why.Seats told = told
  of_file failed bytes why.BadShape told = told
  of_file failed bytes why.BadQuery told = told
  of_file failed bytes (why.Worn n) told = told
  of_file failed bytes (why.Arity found) told = told

  pub refusal_claimed : (claimed failed new : OpenFile D) → claimed ≡ with_claim count f → new ≡ without_claim failed → (bytes : List ℕ) (e : Refusal) → IsWriteRefusal g claimed failed bytes e → IsWriteRefusal g f new bytes e
  refusal_claimed claimed failed new was back bytes e told =
      subst (λ (h : OpenFile D). IsWriteRefusal g f h bytes e) (sym back) (of_file failed bytes e (subst (λ (h : OpenFile D). IsWriteRefusal g h failed bytes e) was told))
