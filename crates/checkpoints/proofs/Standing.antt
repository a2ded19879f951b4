-- What a disk that meets what is kept on a file stands for, at each moment of a section and behind one.
use Rattle.std.proofs.Common.{◌≡◌, ◌≢◌, ◌==◌, inl, inr, ℕ, List, Bool, true, false, cond, sym, ap, ◌∙◌, true≢false}
use Rattle.disk_trait.specs.declared.disk.Disk.{Ghosts}
use Rattle.disk_trait.proofs.Moments.{joined, weakened}
use Rattle.file_images.specs.Kept.{NextSlot, Shut, Flying, InDoubt, Kept}
use Rattle.file_images.specs.Leads.{Standing, HasStanding}
use Rattle.file_images.specs.Meets.{Meets}
use Rattle.file_images.specs.Shows.{Shows}
use Rattle.file_images.specs.Steps.{with_turned, with_shut}
use Rattle.file_images.proofs.Covering.{turned_meets}
use Rattle.file_images.proofs.Histories.{shut_no_doubt}
use Rattle.file_images.proofs.Standings.{shows_stands}
use Rattle.file_sections.specs.Sections.{StaysShown}
use Rattle.file_books.specs.Books.{Books}
use Rattle.file_books.specs.Effects.{used_of, idle_half}
use Rattle.file_standing.specs.Files.{IsFile}
use Rattle.file_standing.specs.Open.{StaysStanding}
use Rattle.file_standing.specs.Steps.{turned_kept, cleaned_kept}
use Rattle.file_standing.proofs.Leading.{files-lead}

is_flying : {K : ℕ} → NextSlot K → Bool
is_flying Shut = false
is_flying Flying = true
is_flying (InDoubt d) = false

shut-not-flying : {K : ℕ} (n : NextSlot K) → n ≡ Shut → n ≢ Flying
unfolding is_flying
shut-not-flying n shut flying = true≢false (sym (ap is_flying flying) ∙ ap is_flying shut)

-- an image that shows what a file keeps has the standing of the file
file-stands : {K : ℕ} (b : Books) (k : Kept K) (m : Standing K) (image : List ℕ) → IsFile b k m → Shows k image → HasStanding image m
file-stands b k m image is shows = elim (shows_stands k image m shows (shut-not-flying k.next is.shut) (files-lead b k m is)) [
  | inl here ↦ here
  | inr more ↦ shut_no_doubt more.0 (sym is.shut ∙ more.1)
]

module _ {K : ℕ} {D : Type 0} (g : Ghosts D) where
  -- so it stays at each moment
  pub stays-standing : (b : Books) (k : Kept K) (m : Standing K) {old new : D} → IsFile b k m → StaysShown g k old new → StaysStanding g m old new
  stays-standing b k m {old} {new} is shown told = weakened g.moment g.left_since old new (Shows k) (λ (c : List ℕ). HasStanding c m) (shown told) (λ c shows. file-stands b k m c is shows)

  -- two sections show what one of both would
  pub shown-then : (k : Kept K) {old mid new : D} → g.honest mid ≡ g.honest old → StaysShown g k old mid → StaysShown g k mid new → StaysShown g k old new
  shown-then k {old} {mid} {new} same first second told = joined g.moment g.left_since old mid new (Shows k) (Shows k) (Shows k) (first told) (second (same ∙ told)) (λ c p. p) (λ c p. p)

  -- and leave the standing that one of both would
  pub standing-then : (m : Standing K) {old mid new : D} → g.honest mid ≡ g.honest old → StaysStanding g m old mid → StaysStanding g m mid new → StaysStanding g m old new
  standing-then m {old} {mid} {new} same first second told =
      let P : List ℕ → Type 0 = λ c. HasStanding c m in
      joined g.moment g.left_since old mid new P P P (first told) (second (same ∙ told)) (λ c p. p) (λ c p. p)

  -- the halves' roles may be exchanged where the other one is clear
  pub turned-kept-meets : (b : Books) (k : Kept K) (d : D) → k.next ≡ Shut → Meets g k d → Meets g (turned_kept b k) d
  turned-kept-meets b k d shut was = by (used_of b (idle_half b) == 0)
    where
      by : (t : Bool) → Meets g (cond t (with_turned k) k) d
      by true = turned_meets g k d shut was
      by false = was

  -- and where a full one gives its role to a clear one
  pub cleaned-kept-meets : (b : Books) (k : Kept K) (d : D) → k.next ≡ Shut → Meets g (with_shut k (idle_half b)) d → Meets g (cleaned_kept b k) d
  cleaned-kept-meets b k d shut was = by (used_of b b.half == b.shape.slots)
    where
      by : (t : Bool) → Meets g (cond t (with_turned (with_shut k (idle_half b))) (with_shut k (idle_half b))) d
      by true = turned_meets g (with_shut k (idle_half b)) d shut was
      by false = was
