-- What the calls of a change leave, by the clauses of what they call.
use Rattle.std.proofs.Common.{◌≡◌, ◌<◌, ◌≤◌, ◌*◌, ◌+◌, ◌-◌, ℕ, List, [], ◌∷◌, ◌++◌, refl, sym, ap, ◌∙◌, subst, length, arith}
use Rattle.std.specs.Prelude.{slice_index}
use Rattle.grid_types.specs.declared.owner.Owner.{Owner}
use Rattle.grid_types.specs.declared.owner.Owner.TheVariants.{Part}
use Rattle.grid_types.specs.declared.shape.Shape.{Shape}
use Rattle.grid_types.specs.Shapes.{data_page}
use Rattle.disk_trait.specs.declared.disk.Disk.{Ghosts}
use Rattle.disk_trait.specs.Calls.{OnlyReads, Changes}
use Rattle.disk_trait.specs.Disk.{Agrees}
use Rattle.grid_model.specs.Cells.{parts}
use Rattle.shadow_directory.specs.Pages.{LeavesPages}
use Rattle.file_images.specs.Kept.{Kept}
use Rattle.file_images.specs.Meets.{Meets}
use Rattle.file_images.specs.Steps.{with_page, without_page}
use Rattle.file_images.proofs.Halves.{length_added}
use Rattle.file_sections.specs.Sections.{StaysShown, IsUnkept}
use Rattle.file_books.specs.Books.{Books}
use Rattle.grid_file.specs.Files.{OpenFile, IsOpenFile}
use Rattle.grid_file.specs.Pages.{pages_given, file_page}
use Rattle.grid_file.specs.Keeping.{ReadsFile, KeepsFile}
use Rattle.grid_file.proofs.Keeping.{reading_keeps, reading_gives, writing_gives, failed_keeps, written_keeps}

-- what a call of a change leaves of a file
abbrev pub LeavesFile : (K : ℕ) {D : Type 0} → Ghosts D → OpenFile D → OpenFile D → Type 0
LeavesFile K {D} g old new = LeavesPages {D = OpenFile D} (λ f. pages_given g f) (λ f. parts f.books.scales) (λ f part page. page ≡ file_page f.books (Part part)) (λ f h. KeepsFile K {D = D} g f h) old new

module _ {K : ℕ} {D : Type 0} (g : Ghosts D) where
  keeping_leaves : (old new : OpenFile D) → pages_given g new ≡ pages_given g old → KeepsFile K g old new → LeavesFile K g old new
  keeping_leaves old new told keeps = record {
    told = told;
    count = ap (λ (b : Books). parts b.scales) keeps.books;
    lies = λ part page at. at ∙ ap (λ (b : Books). file_page b (Part part)) keeps.books;
    rest = keeps;
  }

  -- a reading of a file whose disk was this one
  pub read_leaves : (f now : OpenFile D) → f ≡ now → (from disk : D) → from ≡ f.disk → OnlyReads g from disk → ((k : Kept K) → Meets g k from → Meets g k disk) → ((k : Kept K) → Meets g k from → StaysShown g k from disk)
      → LeavesFile K g now (record { disk = disk; books = f.books; claimed = f.claimed; written = f.written })
  read_leaves f now view from disk e same kept moments =
      let new : OpenFile D = record { disk = disk; books = f.books; claimed = f.claimed; written = f.written } in
      let reads : ReadsFile K g f new = record {
        books = refl;
        claimed = refl;
        written = refl;
        disk = subst (λ (d : D). OnlyReads g d disk) e same;
        kept = λ k. subst (λ (d : D). Meets g k d → Meets g k disk) e (kept k);
        moments = λ k. subst (λ (d : D). Meets g k d → StaysShown g k d disk) e (moments k);
      } in
      subst (λ (x : OpenFile D). LeavesFile K g x new) view (keeping_leaves f new (reading_gives reads) (reading_keeps reads))

  -- a write of the next new page, where the disk was this one, the shape is this one and the page has this number
  module _ (f : OpenFile D) (sound : IsOpenFile K g f) (done : ℕ) (is : done ≡ length f.written) (more : done < length f.claimed) (from disk : D) (s : Shape) (p : ℕ) (before : from ≡ f.disk) (shape : s ≡ f.books.shape) (next : p ≡ slice_index f.claimed done)
      (changes : Changes g (Agrees (data_page s p * 4096) 4096) from disk) (moments : (k : Kept K) → IsUnkept k s p → Meets g k from → StaysShown g k from disk) where
    abbrev page : ℕ
    page = slice_index f.claimed (length f.written)

    there : p ≡ page
    there = next ∙ ap (slice_index f.claimed) is

    low : length f.written < length f.claimed
    low = subst (λ (n : ℕ). n < length f.claimed) is more

    changes_there : Changes g (Agrees (data_page f.books.shape page * 4096) 4096) f.disk disk
    changes_there = subst (λ (z : Shape × ℕ × D). Changes g (Agrees (data_page z.0 z.1 * 4096) 4096) z.2 disk) (λ i. (shape i, there i, before i)) changes

    moments_there : (k : Kept K) → IsUnkept k f.books.shape page → Meets g k f.disk → StaysShown g k f.disk disk
    moments_there k = subst (λ (z : Shape × ℕ × D). IsUnkept k z.0 z.1 → Meets g k z.2 → StaysShown g k z.2 disk) (λ i. (shape i, there i, before i)) (moments k)

    pub failed_leaves : (now : OpenFile D) → f ≡ now → ((k : Kept K) → IsUnkept k s p → Meets g k from → Meets g (without_page k p) disk)
        → LeavesFile K g now (record { disk = disk; books = f.books; claimed = f.claimed; written = f.written })
    failed_leaves now view failed =
        let new : OpenFile D = record { disk = disk; books = f.books; claimed = f.claimed; written = f.written } in
        let keeps : KeepsFile K g f new = failed_keeps g f sound low disk changes_there moments_there
        (λ k. subst (λ (z : Shape × ℕ × D). IsUnkept k z.0 z.1 → Meets g k z.2 → Meets g (without_page k z.1) disk) (λ i. (shape i, there i, before i)) (failed k)) in
        subst (λ (x : OpenFile D). LeavesFile K g x new) view (keeping_leaves f new (writing_gives g f new sound.claimed_are keeps) keeps)

    pub written_leaves : (now : OpenFile D) → f ≡ now → (owner : Owner) (bytes : List ℕ) (ws : List (Owner × List ℕ)) → ws ≡ f.written ++ (owner, bytes) ∷ [] → ((k : Kept K) → IsUnkept k s p → Meets g k from → Meets g (with_page k p bytes) disk)
        → LeavesFile K g now (record { disk = disk; books = f.books; claimed = f.claimed; written = ws })
    written_leaves now view owner bytes ws one written =
        let new : OpenFile D = record { disk = disk; books = f.books; claimed = f.claimed; written = f.written ++ (owner, bytes) ∷ [] } in
        let keeps : KeepsFile K g f new = written_keeps g f sound low disk changes_there moments_there owner bytes
        (λ k. subst (λ (z : Shape × ℕ × D). IsUnkept k z.0 z.1 → Meets g k z.2 → Meets g (with_page k z.1 bytes) disk) (λ i. (shape i, there i, before i)) (written k)) in
        subst (λ (z : OpenFile D × List (Owner × List ℕ)). LeavesFile K g z.0 (record { disk = disk; books = f.books; claimed = f.claimed; written = z.1 })) (λ i. (view i, sym one i))
        (keeping_leaves f new (writing_gives g f new sound.claimed_are keeps) keeps)

  -- a file stays sound where one page more is written
  pub written_sound : (f : OpenFile D) → IsOpenFile K g f → (done : ℕ) → done ≡ length f.written → done < length f.claimed → (from disk : D) → from ≡ f.disk → g.extent disk ≡ g.extent from → (w : Owner × List ℕ) (ws : List (Owner × List ℕ)) → ws ≡ f.written ++ w ∷ []
      → IsOpenFile K g (record { disk = disk; books = f.books; claimed = f.claimed; written = ws }) × (done + 1 ≡ length ws)
  written_sound f sound done is more from disk before extent w ws one =
      let long : length ws ≡ length f.written + 1 = ap length one ∙ length_added f.written w in (
        record {
          books_are = sound.books_are;
          size = omega (arith, sound.size, extent, ap g.extent before);
          claimed_are = sound.claimed_are;
          few = omega (arith, long, is, more);
        },
        omega (arith, long, is),
      )

module _ {D : Type 0} (f now : OpenFile D) (view : f ≡ now) (done : ℕ) (is : done ≡ length f.written) where
  -- where there is room for a page, there is a page
  pub more_pages : 1 ≤ length now.claimed - length now.written → done < length f.claimed
  more_pages room = let here : 1 ≤ length f.claimed - length f.written = subst (λ (x : OpenFile D). 1 ≤ length x.claimed - length x.written) (sym view) room in omega (arith, here, is)

  -- and once it is written there is room for one page less
  pub room_left : done < length f.claimed → (w : Owner × List ℕ) (ws : List (Owner × List ℕ)) → ws ≡ f.written ++ w ∷ [] → length f.claimed - length ws + 1 ≡ length now.claimed - length now.written
  room_left more w ws one =
      let long : length ws ≡ length f.written + 1 = ap length one ∙ length_added f.written w in
      let left : length f.claimed - length ws + 1 ≡ length f.claimed - length f.written = omega (arith, long, is, more) in
      left ∙ ap (λ (x : OpenFile D). length x.claimed - length x.written) view
