-- An image has one answer: what is found in it, or its first fault.
use Rattle.std.proofs.Common.{◌≡◌, ◌⊎◌, inl, inr, ◌<◌, ◌≤◌, ◌+◌, ◌*◌, ◌++◌, ℕ, List, [], ◌∷◌, length, take, drop, slice_index, flat_map, codes, refl, sym, ap, subst, ◌∙◌, arith, length-append, IsTrue}
use Rattle.std.proofs.lemmas.List.{take-take, take-append-drop}
use Rattle.grid_types.specs.declared.shape.Shape.{Shape}
use Rattle.grid_types.specs.declared.refusal.Refusal.{Refusal}
use Rattle.grid_types.specs.declared.refusal.Refusal.TheVariants as refusal
use Rattle.grid_types.specs.Pages.{page_of}
use Rattle.grid_types.specs.Shapes.{file_pages, is_shape}
use Rattle.grid_types.specs.Shapes as places
use Rattle.page_fields.specs.Fields.{number, bytes_of}
use Rattle.page_fields.specs.Padded.{padded}
use Rattle.grid_model.specs.Spellings.{LoggedBatch, shape_bytes}
use Rattle.grid_model.specs.Images.{HasShape, Join, Found, IsFound}
use Rattle.grid_model.specs.Roots.{WholeRoot, IsNewestWhole}
use Rattle.root_pages.specs.Headers.{SpellsShape}
use Rattle.root_pages.proofs.ShapePlaces.{shape_there, shape_again}
use Rattle.journal_slots.specs.Scans.{IsFirstBadPage, IsBadSlot, SpellsSome}
use Rattle.journal_slots.proofs.OneScan.{the_gates}
use Rattle.journal_slots.proofs.GoodHalves.{found_good}
use Rattle.file_roots.specs.Damage.{IsRootDamage}
use Rattle.file_roots.proofs.Headers.{header_inside}
use Rattle.file_roots.proofs.Naming.{one_is_damaged}
use Rattle.file_roots.proofs.Unique.{undamaged, one_file_shape}
use Rattle.recovery.specs.Beginnings.{version_on, BeginsAsGrid, IsForeign, IsOurs, HasUnknownVersion, IsShapeless, IsShort, IsUneven, BeginsWhole, IsShapeFault}
use Rattle.recovery.specs.Faults.{IsOtherArity, IsJournalDamage, HasBadJournal, IsDamagedBehind, IsFirstFault}
use Rattle.recovery.specs.Laws.{HasOneAnswer, CountsUpdates}

-- the bytes of a shape begin with the kind of a grid file, and with the known version behind it
kind_first : (s : Shape) → take 8 (shape_bytes s) ≡ codes "GRIDFILE"
unfolding shape_bytes padded
kind_first s = refl

version_behind : (s : Shape) (rest : List ℕ) → version_on (shape_bytes s ++ rest) ≡ 1
unfolding shape_bytes padded bytes_of number
version_behind s rest = refl

-- a page that spells a shape begins so
spelled_kind : (page : List ℕ) (s : Shape) → SpellsShape page s → BeginsAsGrid page
spelled_kind page s is = sym (take-take 8 64 page (omega arith)) ∙ ap (take 8) is.bytes ∙ kind_first s

-- a page spells one shape
pub one_shape_spelled : (page : List ℕ) (s t : Shape) → SpellsShape page s → SpellsShape page t → s ≡ t
one_shape_spelled page s t x y = shape_again page s t x (shape_there page t y)

spelled_version : (page : List ℕ) (s : Shape) → SpellsShape page s → version_on page ≡ 1
spelled_version page s is = ap version_on (sym (take-append-drop 64 page) ∙ ap (λ front. front ++ drop 64 page) is.bytes) ∙ version_behind s (drop 64 page)

module _ (image : List ℕ) where
  -- what begins with a shape and has two pages is one of ours
  ours_of : (s : Shape) → SpellsShape (page_of 0 image) s → 2 * 4096 ≤ length image → IsOurs image
  ours_of s spelled two = record { two = two; kind = spelled_kind (page_of 0 image) s spelled }

  two_pages : (s : Shape) → IsTrue (is_shape s) → file_pages s * 4096 ≤ length image → 2 * 4096 ≤ length image
  two_pages s lawful long = omega (arith, header_inside s 1 (length image) lawful (omega arith) long)

  not_foreign : IsOurs image → IsForeign image → ⊥
  not_foreign ours (inl few) = absurd (omega (arith, few, ours.two))
  not_foreign ours (inr none) = none ours.kind

  not_unknown : (version : ℕ) → version_on (page_of 0 image) ≡ 1 → HasUnknownVersion image version → ⊥
  not_unknown version known bad = bad.unknown (sym bad.version_is ∙ known)

  -- why an image has no shape, as far as damage goes
  abbrev IsShapeDamage : ℕ → Type 0
  IsShapeDamage page = IsShapeless image page ⊎ (IsShort image page ⊎ IsUneven image page)

  -- what is damaged so is one of ours, of the known version
  damaged_ours : (page : ℕ) → IsShapeDamage page → IsOurs image
  damaged_ours page (inl bad) = bad.ours
  damaged_ours page (inr (inl bad)) = ours_of bad.shape bad.spelled bad.two
  damaged_ours page (inr (inr bad)) = ours_of bad.shape bad.begins.spelled (two_pages bad.shape bad.begins.spelled.lawful bad.begins.long)

  damaged_known : (page : ℕ) → IsShapeDamage page → version_on (page_of 0 image) ≡ 1
  damaged_known page (inl bad) = bad.version
  damaged_known page (inr (inl bad)) = spelled_version (page_of 0 image) bad.shape bad.spelled
  damaged_known page (inr (inr bad)) = spelled_version (page_of 0 image) bad.shape bad.begins.spelled

  -- an image that begins with a shape, and has all its pages, is not short
  not_short : (s : Shape) (page : ℕ) → BeginsWhole image s → IsShort image page → ⊥
  not_short s page begins bad =
      let same : file_pages bad.shape ≡ file_pages s = ap file_pages (one_shape_spelled (page_of 0 image) bad.shape s bad.spelled begins.spelled) in
      absurd (omega (arith, bad.inside, bad.cut, begins.long, same))

  -- one page is named where an image has no shape
  one_shape_damage : (p q : ℕ) → IsShapeDamage p → IsShapeDamage q → p ≡ q
  one_shape_damage p q (inl x) (inl y) = x.page_is ∙ sym y.page_is
  one_shape_damage p q (inl x) (inr (inl y)) = absurd (x.none y.shape y.spelled)
  one_shape_damage p q (inl x) (inr (inr y)) = absurd (x.none y.shape y.begins.spelled)
  one_shape_damage p q (inr (inl x)) (inl y) = absurd (y.none x.shape x.spelled)
  one_shape_damage p q (inr (inl x)) (inr (inl y)) = omega (arith, x.whole, x.cut, y.whole, y.cut)
  one_shape_damage p q (inr (inl x)) (inr (inr y)) = absurd (not_short y.shape p y.begins x)
  one_shape_damage p q (inr (inr x)) (inl y) = absurd (y.none x.shape x.begins.spelled)
  one_shape_damage p q (inr (inr x)) (inr (inl y)) = absurd (not_short x.shape q x.begins y)
  one_shape_damage p q (inr (inr x)) (inr (inr y)) = x.page_is ∙ sym y.page_is

  module _ (K : ℕ) (s : Shape) (has : HasShape K image s) where
    has_spelled : SpellsShape (page_of 0 image) s
    has_spelled = record { lawful = has.lawful; bytes = has.first }

    has_ours : IsOurs image
    has_ours = ours_of s has_spelled (two_pages s has.lawful has.long)

    has_known : version_on (page_of 0 image) ≡ 1
    has_known = spelled_version (page_of 0 image) s has_spelled

    -- an image with a shape is not damaged so
    has_undamaged : (page : ℕ) → IsShapeDamage page → ⊥
    has_undamaged page (inl bad) = bad.none s has_spelled
    has_undamaged page (inr (inl bad)) = not_short s page (record { spelled = has_spelled; long = has.long }) bad
    has_undamaged page (inr (inr bad)) = bad.other (has.second ∙ sym has.first)

    pub no_shape_fault : (e : Refusal) → IsShapeFault image e → ⊥
    no_shape_fault refusal.Foreign bad = not_foreign has_ours bad
    no_shape_fault (refusal.Version version) bad = not_unknown version has_known bad
    no_shape_fault (refusal.Damaged page) bad = has_undamaged page bad
    no_shape_fault other bad = absurd bad

    -- it has one number of attributes
    one_arity : (J : ℕ) (t : Shape) → HasShape J image t → J ≡ K
    one_arity J t other = sym other.attributes ∙ ap (λ (r : Shape). r.k) (one_file_shape J K image t s other has) ∙ has.attributes

-- a half has one first bad page
module _ (K : ℕ) (s : Shape) (image : List ℕ) (half : ℕ) where
  -- of two open slots that are the first bad ones neither is before the other
  not_before : (p q : ℕ) (x : IsBadSlot K s image half p) (y : IsBadSlot K s image half q) → x.first.slot < y.first.slot → ⊥
  not_before p q x y lt =
      let same : x.gates ≡ y.gates = the_gates s image half x.gates x.spelled ∙ sym (the_gates s image half y.gates y.spelled) in
      let some = y.first.before x.first.slot lt (ap (λ gates. slice_index gates x.first.slot) (sym same) ∙ x.first.opened) in
      x.first.none (subst (λ page. SpellsSome K (page_of page image)) (sym x.first.page_is) some)

  one_bad_page : (p q : ℕ) → IsFirstBadPage K s image half p → IsFirstBadPage K s image half q → p ≡ q
  one_bad_page p q (inl x) (inl y) = x.page_is ∙ sym y.page_is
  one_bad_page p q (inl x) (inr y) = absurd (x.none y.gates y.spelled)
  one_bad_page p q (inr x) (inl y) = absurd (y.none x.gates x.spelled)
  one_bad_page p q (inr x) (inr y) = elim (order x.first.slot y.first.slot) [
    | inl lt ↦ absurd (not_before p q x y lt)
    | inr (inl gt) ↦ absurd (not_before q p y x gt)
    | inr (inr same) ↦ x.first.page_is ∙ ap (places.slot_page s half) same ∙ sym y.first.page_is
  ]
    where
      order : (a b : ℕ) → (a < b) ⊎ ((b < a) ⊎ (a ≡ b))
      order a b = grind arith

module _ (K : ℕ) (s : Shape) (image : List ℕ) where
  -- a journal has one page that is named
  one_journal_damage : (p q : ℕ) → IsJournalDamage K s image p → IsJournalDamage K s image q → p ≡ q
  one_journal_damage p q (inl x) (inl y) = one_bad_page K s image 0 p q x y
  one_journal_damage p q (inl x) (inr y) = absurd (y.0 p x)
  one_journal_damage p q (inr x) (inl y) = absurd (x.0 q y)
  one_journal_damage p q (inr x) (inr y) = one_bad_page K s image 1 p q x.1 y.1

  -- where the newest root is whole the roots are not damaged
  whole_undamaged : (w : WholeRoot) (page : ℕ) → IsTrue (is_shape s) → IsNewestWhole s w image → IsRootDamage s image page → ⊥
  whole_undamaged w page lawful whole damage = undamaged s image lawful w.fields whole.newest w.area whole.area page damage

  one_damage_behind : (p q : ℕ) → IsTrue (is_shape s) → IsRootDamage s image p ⊎ HasBadJournal K s image p → IsRootDamage s image q ⊎ HasBadJournal K s image q → p ≡ q
  one_damage_behind p q lawful (inl x) (inl y) = one_is_damaged s image p q lawful x y
  one_damage_behind p q lawful (inl x) (inr y) = absurd (whole_undamaged y.root p lawful y.whole x)
  one_damage_behind p q lawful (inr x) (inl y) = absurd (whole_undamaged x.root q lawful x.whole y)
  one_damage_behind p q lawful (inr x) (inr y) = one_journal_damage p q x.damage y.damage

-- the point at which an image is refused
data Point (K : ℕ) (image : List ℕ) : Type 0 where
  AtKind : IsForeign image → Point K image
  AtVersion : (version : ℕ) → HasUnknownVersion image version → Point K image
  AtShape : (page : ℕ) → IsShapeDamage image page → Point K image
  AtArity : (found : ℕ) → IsOtherArity K image found → Point K image
  Behind : (page : ℕ) → IsDamagedBehind K image page → Point K image

refusal_at : {K : ℕ} {image : List ℕ} → Point K image → Refusal
refusal_at (AtKind bad) = refusal.Foreign
refusal_at (AtVersion version bad) = refusal.Version version
refusal_at (AtShape page bad) = refusal.Damaged page
refusal_at (AtArity found bad) = refusal.Arity found
refusal_at (Behind page bad) = refusal.Damaged page

module _ (K : ℕ) (image : List ℕ) where
  -- a first fault is told at a point
  point_of : (e : Refusal) → IsFirstFault K image e → (p : Point K image) × (refusal_at p ≡ e)
  unfolding refusal_at
  point_of refusal.Foreign bad = (AtKind bad, refl)
  point_of (refusal.Version version) bad = (AtVersion version bad, refl)
  point_of (refusal.Damaged page) (inl bad) = (AtShape page bad, refl)
  point_of (refusal.Damaged page) (inr bad) = (Behind page bad, refl)
  point_of (refusal.Arity found) bad = (AtArity found bad, refl)
  point_of other bad = absurd bad

  kind_alone : (bad : IsForeign image) (q : Point K image) → refusal.Foreign ≡ refusal_at q
  unfolding refusal_at
  kind_alone bad (AtKind other) = refl
  kind_alone bad (AtVersion version other) = absurd (not_foreign image other.ours bad)
  kind_alone bad (AtShape page other) = absurd (not_foreign image (damaged_ours image page other) bad)
  kind_alone bad (AtArity found other) = absurd (not_foreign image (has_ours image found other.shape other.has) bad)
  kind_alone bad (Behind page other) = absurd (not_foreign image (has_ours image K other.shape other.has) bad)

  version_alone : (version : ℕ) (bad : HasUnknownVersion image version) (q : Point K image) → refusal.Version version ≡ refusal_at q
  unfolding refusal_at
  version_alone version bad (AtKind other) = absurd (not_foreign image bad.ours other)
  version_alone version bad (AtVersion found other) = ap (λ v. refusal.Version v) (sym bad.version_is ∙ other.version_is)
  version_alone version bad (AtShape page other) = absurd (not_unknown image version (damaged_known image page other) bad)
  version_alone version bad (AtArity found other) = absurd (not_unknown image version (has_known image found other.shape other.has) bad)
  version_alone version bad (Behind page other) = absurd (not_unknown image version (has_known image K other.shape other.has) bad)

  shape_alone : (page : ℕ) (bad : IsShapeDamage image page) (q : Point K image) → refusal.Damaged page ≡ refusal_at q
  unfolding refusal_at
  shape_alone page bad (AtKind other) = absurd (not_foreign image (damaged_ours image page bad) other)
  shape_alone page bad (AtVersion version other) = absurd (not_unknown image version (damaged_known image page bad) other)
  shape_alone page bad (AtShape named other) = ap (λ p. refusal.Damaged p) (one_shape_damage image page named bad other)
  shape_alone page bad (AtArity found other) = absurd (has_undamaged image found other.shape other.has page bad)
  shape_alone page bad (Behind named other) = absurd (has_undamaged image K other.shape other.has page bad)

  arity_alone : (found : ℕ) (bad : IsOtherArity K image found) (q : Point K image) → refusal.Arity found ≡ refusal_at q
  unfolding refusal_at
  arity_alone found bad (AtKind other) = absurd (not_foreign image (has_ours image found bad.shape bad.has) other)
  arity_alone found bad (AtVersion version other) = absurd (not_unknown image version (has_known image found bad.shape bad.has) other)
  arity_alone found bad (AtShape page other) = absurd (has_undamaged image found bad.shape bad.has page other)
  arity_alone found bad (AtArity told other) = ap (λ k. refusal.Arity k) (one_arity image told other.shape other.has found bad.shape bad.has)
  arity_alone found bad (Behind page other) = absurd (bad.other (one_arity image K other.shape other.has found bad.shape bad.has))

  behind_alone : (page : ℕ) (bad : IsDamagedBehind K image page) (q : Point K image) → refusal.Damaged page ≡ refusal_at q
  unfolding refusal_at
  behind_alone page bad (AtKind other) = absurd (not_foreign image (has_ours image K bad.shape bad.has) other)
  behind_alone page bad (AtVersion version other) = absurd (not_unknown image version (has_known image K bad.shape bad.has) other)
  behind_alone page bad (AtShape named other) = absurd (has_undamaged image K bad.shape bad.has named other)
  behind_alone page bad (AtArity found other) = absurd (other.other (one_arity image K bad.shape bad.has found other.shape other.has))
  behind_alone page bad (Behind named other) =
      let same : other.shape ≡ bad.shape = one_file_shape K K image other.shape bad.shape other.has bad.has in
      ap (λ p. refusal.Damaged p) (one_damage_behind K bad.shape image page named bad.has.lawful bad.damage (subst (λ s. IsRootDamage s image named ⊎ HasBadJournal K s image named) same other.damage))

  -- all points at which an image is refused have one refusal
  one_refusal : (p q : Point K image) → refusal_at p ≡ refusal_at q
  unfolding refusal_at
  one_refusal (AtKind bad) q = kind_alone bad q
  one_refusal (AtVersion version bad) q = version_alone version bad q
  one_refusal (AtShape page bad) q = shape_alone page bad q
  one_refusal (AtArity found bad) q = arity_alone found bad q
  one_refusal (Behind page bad) q = behind_alone page bad q

  one_fault : (d e : Refusal) → IsFirstFault K image d → IsFirstFault K image e → d ≡ e
  one_fault d e x y = let p = point_of d x in let q = point_of e y in sym p.1 ∙ one_refusal p.0 q.0 ∙ q.1

  -- where all that a survey looks for is found, there is no fault
  module _ (f : Found K) (n : ℕ) (is : IsFound image f n) where
    no_point : Point K image → ⊥
    no_point (AtKind bad) = not_foreign image (has_ours image K f.shape is.shape) bad
    no_point (AtVersion version bad) = not_unknown image version (has_known image K f.shape is.shape) bad
    no_point (AtShape page bad) = has_undamaged image K f.shape is.shape page bad
    no_point (AtArity found bad) = bad.other (one_arity image K f.shape is.shape found bad.shape bad.has)
    no_point (Behind page bad) =
        let same : bad.shape ≡ f.shape = one_file_shape K K image bad.shape f.shape bad.has is.shape in
        behind_none page (subst (λ s. IsRootDamage s image page ⊎ HasBadJournal K s image page) same bad.damage)
      where
        behind_none : (page : ℕ) → IsRootDamage f.shape image page ⊎ HasBadJournal K f.shape image page → ⊥
        behind_none page (inl bad) = undamaged f.shape image is.shape.lawful f.root is.root f.area is.area page bad
        behind_none page (inr bad) = journal_none bad.damage
          where
            journal_none : IsJournalDamage K f.shape image page → ⊥
            journal_none (inl bad) = found_good image f n is 0 (omega arith) page bad
            journal_none (inr bad) = found_good image f n is 1 (omega arith) page bad.1

-- an image has one answer
pub one_answer : (K : ℕ) → HasOneAnswer K
one_answer K = record {
  shape = λ image s e has bad. no_shape_fault image K s has e bad;
  found = λ image f n e is bad. no_point K image f n is (point_of K image e bad).0;
  fault = λ image d e x y. one_fault K image d e x y;
}

-- the place that batches reach counts their updates
join_counts : {K : ℕ} (batches : List (LoggedBatch K)) (place : ℕ) (xs : List (LoggedBatch K)) (n : ℕ) → Join batches place xs n → n ≡ place + length (flat_map (λ b. b.updates) xs)
join_counts batches place [] n join = omega (arith, join.0)
join_counts batches place (b ∷ bs) n join =
    omega (arith, join_counts batches (place + length b.updates) bs n join.1, length-append b.updates (flat_map (λ c. c.updates) bs))

pub counts_updates : (K : ℕ) → CountsUpdates K
counts_updates K image f n is = join_counts _ f.root.front f.taken n is.taken
