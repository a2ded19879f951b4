-- What meets what was asked meets what is covered by it.
use Rattle.std.proofs.Common.{◌≡◌, ◌<◌, inl, inr, ℕ, zero, suc, List, refl, sym, subst, ◌∙◌, arith}
use Rattle.disk_trait.specs.declared.disk.Disk.{Ghosts}
use Rattle.disk_trait.specs.Calls.{IsSynced}
use Rattle.file_images.specs.Kept.{NextSlot, Shut, Kept, used}
use Rattle.file_images.specs.Shows.{HoldsPages, ShowsNext, Shows}
use Rattle.file_images.specs.Meets.{Meets, Covers}
use Rattle.file_images.specs.Steps.{with_settled, other_half, with_turned}
use Rattle.file_images.proofs.Settling.{holds_settled}
use Rattle.file_images.proofs.Found.{zero_behind}

-- what is kept, with less said of data pages, another next slot and other counts
abbrev with_less : {K : ℕ} → Kept K → Kept K → Kept K
with_less then now = record then { always = now.always; fresh = now.fresh; next = now.next; reads = now.reads; writes = now.writes }

module _ {K : ℕ} (then now : Kept K) (c : Covers then now) where
  -- what is covered is that
  covered_is : now ≡ with_less then now
  covered_is = λ i. record {
    shape = c.shape i;
    always = now.always;
    fresh = now.fresh;
    root = c.root i;
    other = c.other i;
    first = c.first i;
    second = c.second i;
    half = c.half i;
    next = now.next;
    reads = now.reads;
    writes = now.writes;
  }

  next_shows : (h i : ℕ) (image : List ℕ) → ShowsNext then.shape h i then.next image → ShowsNext then.shape h i now.next image
  next_shows h i image was = elim c.next [
    | inl same ↦ subst (λ (n : NextSlot K). ShowsNext then.shape h i n image) (sym same) was
    | inr flying ↦ subst (λ (n : NextSlot K). ShowsNext then.shape h i n image) (sym flying) tt
  ]

  less_shows : (image : List ℕ) → Shows then image → Shows (with_less then now) image
  less_shows image was = record {
    sizes = record { two = was.sizes.two; first = was.sizes.first; second = was.sizes.second };
    shape = was.shape;
    roots = was.roots;
    pages = λ p bytes is. was.pages p bytes (c.always p bytes is);
    formed = was.formed;
    slots = was.slots;
    unused = λ h i is. was.unused h i (record { two = is.two; inside = is.inside; behind = is.behind; apart = is.apart });
    next = λ lt. next_shows then.half (used then then.half) image (was.next lt);
  }

  -- an image that shows what was asked shows what is covered
  pub covers_shows : (image : List ℕ) → Shows then image → Shows now image
  covers_shows image was = subst (λ (k : Kept K). Shows k image) (sym covered_is) (less_shows image was)

  -- and a disk that meets what was asked meets it
  pub covers_meets : {D : Type 0} (g : Ghosts D) (d : D) → Meets g then d → Meets g now d
  covers_meets g d was = subst (λ (k : Kept K). Meets g k d) (sym covered_is) (record {
    crash = λ h image may. less_shows image (was.crash h image may);
    loose = was.loose;
    fresh = λ h p bytes is. was.fresh h p bytes (c.fresh p bytes is);
    reads = omega (arith, was.reads, c.reads);
    writes = omega (arith, was.writes, c.writes);
    size = was.size;
  })

-- more may be covered by what covers
pub covers_itself : {K : ℕ} (k : Kept K) → Covers k k
covers_itself k = record {
  shape = refl;
  always = λ p bytes is. is;
  fresh = λ p bytes is. is;
  root = refl;
  other = refl;
  first = refl;
  second = refl;
  half = refl;
  next = inl refl;
  reads = omega arith;
  writes = omega arith;
}

pub covers_then : {K : ℕ} (a b c : Kept K) → Covers a b → Covers b c → Covers a c
covers_then a b c x y = record {
  shape = y.shape ∙ x.shape;
  always = λ p bytes is. x.always p bytes (y.always p bytes is);
  fresh = λ p bytes is. x.fresh p bytes (y.fresh p bytes is);
  root = y.root ∙ x.root;
  other = y.other ∙ x.other;
  first = y.first ∙ x.first;
  second = y.second ∙ x.second;
  half = y.half ∙ x.half;
  next = elim y.next [ inr flying ↦ inr flying | inl same ↦ elim x.next [ inl as_before ↦ inl (same ∙ as_before) | inr flying ↦ inr (same ∙ flying) ] ];
  reads = omega (arith, x.reads, y.reads);
  writes = omega (arith, x.writes, y.writes);
}

-- pages that read as what is known always hold it, where reads give what is on the disk
pub settled_shows : {K : ℕ} (k : Kept K) (pages : List ℕ) (image : List ℕ) → Shows k image → HoldsPages k.shape k.fresh image → Shows (with_settled k pages) image
settled_shows k pages image was now = record {
  sizes = record { two = was.sizes.two; first = was.sizes.first; second = was.sizes.second };
  shape = was.shape;
  roots = was.roots;
  pages = holds_settled k.shape k.fresh k.always pages image now was.pages;
  formed = was.formed;
  slots = was.slots;
  unused = λ h i is. was.unused h i (record { two = is.two; inside = is.inside; behind = is.behind; apart = is.apart });
  next = was.next;
}

pub settled_meets : {K : ℕ} {D : Type 0} (g : Ghosts D) (k : Kept K) (pages : List ℕ) (d : D) → Meets g k d → IsSynced g d → Meets g (with_settled k pages) d
settled_meets g k pages d was synced = record {
  crash = λ h image may. settled_shows k pages image (was.crash h image may) (subst (HoldsPages k.shape k.fresh) (sym (synced.only h image may)) (was.fresh h));
  loose = was.loose;
  fresh = was.fresh;
  reads = was.reads;
  writes = was.writes;
  size = was.size;
}

-- where nothing is on the next slot, the halves' roles may be exchanged
pub turned_shows : {K : ℕ} (k : Kept K) (image : List ℕ) → k.next ≡ Shut → Shows k image → Shows (with_turned k) image
turned_shows {K} k image shut was =
    let two = other_two k.half in
    record {
      sizes = record { two = two; first = was.sizes.first; second = was.sizes.second };
      shape = was.shape;
      roots = was.roots;
      pages = was.pages;
      formed = was.formed;
      slots = was.slots;
      unused = λ h i is. zero_behind k image was shut h i is.two is.inside is.behind;
      next = λ lt. subst (λ (n : NextSlot K). ShowsNext k.shape (other_half k.half) (used k (other_half k.half)) n image) (sym shut) (zero_behind k image was shut (other_half k.half) (used k (other_half k.half)) two lt (omega arith));
    }
  where
    other_two : (h : ℕ) → other_half h < 2
    other_two zero = omega arith
    other_two (suc h) = omega arith

pub turned_meets : {K : ℕ} {D : Type 0} (g : Ghosts D) (k : Kept K) (d : D) → k.next ≡ Shut → Meets g k d → Meets g (with_turned k) d
turned_meets g k d shut was = record {
  crash = λ h image may. turned_shows k image shut (was.crash h image may);
  loose = was.loose;
  fresh = was.fresh;
  reads = was.reads;
  writes = was.writes;
  size = was.size;
}
