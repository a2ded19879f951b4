-- What the write of a data page leaves of what a file keeps.
use Rattle.std.proofs.Common.{◌≡◌, ◌≢◌, inr, ◌*◌, ℕ, List, slice_index, IsTrue, sym, ap, ◌∙◌, arith}
use Rattle.std.specs.Prelude.{slice_get, slice_set, Option, Some}
use Rattle.grid_types.specs.Pages.{page_of}
use Rattle.grid_types.specs.Shapes.{header_page, data_page}
use Rattle.disk_trait.specs.declared.disk.Disk.{Ghosts}
use Rattle.disk_trait.specs.Calls.{Changes}
use Rattle.disk_trait.specs.Disk.{Agrees}
use Rattle.grid_model.specs.Images.{header_gate}
use Rattle.file_roots.proofs.Headers.{header_two}
use Rattle.file_images.specs.Kept.{Kept, next_number}
use Rattle.file_images.specs.Shows.{Shows}
use Rattle.file_images.specs.Meets.{IsLooseUnder, Meets}
use Rattle.file_images.specs.Apart.{IsFreePage}
use Rattle.file_images.proofs.PagesApart.{data_apart}
use Rattle.file_images.proofs.Frames.{page_stays, kept_pages_stay, shows_apart, loose_stays}
use Rattle.file_images.proofs.Settling.{holds_set, data_is_free}
use Rattle.file_sections.specs.Sections.{StaysShown}
use Rattle.file_sections.proofs.Meeting.{told, shown_after, shown_meanwhile, loose_after}

-- what fresh pages read as is nothing to an image
fresh_shows : {K : ℕ} (k : Kept K) (fresh : List (Option (List ℕ))) (image : List ℕ) → Shows k image → Shows (record k { fresh = fresh }) image
fresh_shows k fresh image was = record {
  sizes = record { two = was.sizes.two; first = was.sizes.first; second = was.sizes.second };
  shape = was.shape;
  roots = was.roots;
  pages = was.pages;
  formed = was.formed;
  slots = was.slots;
  unused = λ h i is. was.unused h i (record { two = is.two; inside = is.inside; behind = is.behind; apart = is.apart });
  next = was.next;
}

module _ {K : ℕ} {D : Type 0} {g : Ghosts D} (k : Kept K) (p : ℕ) (unkept : (bytes : List ℕ) → slice_get k.always p ≢ Some (Some bytes)) {old new : D} (r : Changes g (Agrees (data_page k.shape p * 4096) 4096) old new) (was : Meets g k old) where
  abbrev q : ℕ
  q = data_page k.shape p

  free : (c : List ℕ) → Shows k c → IsFreePage k q
  free c shows = data_is_free k p shows.shape.lawful shows.sizes unkept

  shown : (c d : List ℕ) → Shows k c → Agrees (q * 4096) 4096 c d → Shows k d
  shown c d shows a = shows_apart q (q * 4096) 4096 c d (omega arith) (omega arith) a k (free c shows) shows

  gate : (c d : List ℕ) → Shows k c → Agrees (q * 4096) 4096 c d → header_gate d (header_page (next_number k)) ≡ header_gate c (header_page (next_number k))
  gate c d shows a = ap (λ (x : List ℕ). slice_index x 64) ((kept_pages_stay q (q * 4096) 4096 c d (omega arith) (omega arith) a k (free c shows)).headers (header_page (next_number k)) (header_two (next_number k)))

  under : (c d : List ℕ) → Shows k c → Agrees (q * 4096) 4096 c d → IsLooseUnder k k.other c → IsLooseUnder k k.other d
  under c d shows a = let stay = kept_pages_stay q (q * 4096) 4096 c d (omega arith) (omega arith) a k (free c shows) in loose_stays k k.other c d stay.headers (λ w m i lt. stay.areas w i (inr m) lt)

  pub data_shown : StaysShown g k old new
  data_shown = shown_meanwhile k k r was shown

  -- afterwards the page reads as it is told, if it is, and the other pages as before
  pub data_meets : (IsTrue (g.honest old) → g.may_leave old (g.seen old)) → (o : Option (List ℕ)) → (IsTrue (g.honest old) → (bytes : List ℕ) → Some bytes ≡ o → page_of q (g.seen new) ≡ bytes) → Meets g (record k { fresh = slice_set k.fresh p o }) new
  data_meets law o reads_as = record {
    crash = λ h d now. fresh_shows k (slice_set k.fresh p o) d (shown_after k k r was shown h d now);
    loose = λ h. loose_after k k r was gate under law h;
    fresh = λ h. holds_set k.shape k.fresh p o (g.seen new)
        (λ i bytes apart is. page_stays q (q * 4096) 4096 (g.seen old) (g.seen new) (omega arith) (omega arith) (r.outside (told k k r was h)) (data_page k.shape i) (data_apart k.shape i p (λ e. apart (sym e))) ∙ was.fresh (told k k r was h) i bytes is)
        (reads_as (told k k r was h));
    reads = omega (arith, was.reads, r.reads);
    writes = omega (arith, was.writes, r.writes);
    size = omega (arith, was.size, r.extent);
  }
