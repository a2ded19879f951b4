-- What a change does to the scales and to the directory parts, and that the scale of a fresh boundary takes it.
use Rattle.std.proofs.Common.{◌≡◌, ◌⊎◌, inl, inr, ℕ, zero, suc, ◌+◌, ◌/◌, ◌<◌, ◌≤◌, List, [], ◌∷◌, Bool, true, false, ◌||◌, cond, refl, sym, ◌∙◌, ap, subst, filter, replicate, length, get_or, arith, true≢false, IsTrue, eq-eqb}
use Rattle.std.specs.Prelude.{◌==◌, not, nat_lt, slice_set, slice_index_or}
use Rattle.std.proofs.lemmas.Bool.{lt-ltb, ltb-true, or_cases}
use Rattle.std.proofs.lemmas.List.{length-map, get_or-map, get_or-replicate, get_or-set_same}
use Rattle.std.proofs.lemmas.List.Folds.{list_any-append}
use Rattle.std.specs.Cmp.{both_ways}
use Rattle.grid_types.specs.declared.cell_box.CellBox.{CellBox}
use Rattle.grid_types.specs.declared.layout_change.Cut.{Cut}
use Rattle.grid_types.specs.declared.layout_change.LayoutChange.{LayoutChange}
use Rattle.grid_types.specs.declared.layout_change.LayoutChange.TheVariants as note
use Rattle.grid_model.specs.Lists.{is_among, product}
use Rattle.grid_model.specs.Scales.{scale_of, is_scale, refined}
use Rattle.grid_model.specs.Cells.{dims, parts}
use Rattle.grid_model.proofs.Truths.{or-left, or-right}
use Rattle.grid_model.proofs.Boundaries.{among-index}
use Rattle.grid_model.proofs.ScaleLaws.{each-from, refined-longer}
use Rattle.grid_model.proofs.Refining.{parts-grow}
use Rattle.linear_scales.specs.Limited.{LimitedScale, scales_of, limits_of}
use Rattle.linear_scales.specs.Refusals.{IsCause}
use Rattle.linear_scales.specs.declared.refused.ScaleRefused.{ScaleRefused}
use Rattle.linear_scales.specs.declared.refused.ScaleRefused.TheVariants.{Present, Limit}
use Rattle.directory_changes.specs.Changes.{IsChangeOf, parts_after, parts_changed, grown}
use Rattle.directory_changes.specs.declared.change.DirectoryChange.{DirectoryChange}
use Rattle.directory_changes.specs.declared.change.DirectoryChange.TheVariants.{Nothing, Patch, Grow}
use Rattle.directory_changes.proofs.Growing.{dims-refined}
use Rattle.directory_changes.proofs.Counted.{changed-below}
use Rattle.file_books.specs.Books.{AreScalesOf}
use Rattle.file_books.specs.Effects.{scales_after_change, AreOfOneKind, NotesFresh}
use Rattle.file_state.specs.Publishings.{TakesCut, TakesNote}
use Rattle.file_state.proofs.Filters.{among_below}
use Rattle.grid_types.specs.declared.shape.Shape.{Shape}

-- a refused boundary is one that the scale does not take
pub not_refused : (K : ℕ) (scales : List LimitedScale) (c : Cut) (e : ScaleRefused) → TakesCut K scales c → ((d : LimitedScale) → IsCause (slice_index_or scales c.attribute d) c.value e) → ⊥
not_refused K scales c Present takes cause =
    let d : LimitedScale = record { boundaries = []; limit = 0 } in
    true≢false (sym (cause d) ∙ (takes.takes d).fresh)
not_refused K scales c Limit takes cause =
    let d : LimitedScale = record { boundaries = []; limit = 0 } in
    let room : length (slice_index_or scales c.attribute d).boundaries < (slice_index_or scales c.attribute d).limit = (takes.takes d).room in
    let full : (slice_index_or scales c.attribute d).limit ≤ length (slice_index_or scales c.attribute d).boundaries = (cause d).1 in
    omega (arith, room, full)

module _ {K : ℕ} (shape : Shape) (scales : List (List ℕ)) (old : AreScalesOf K shape scales) where
  inside : (c : Cut) (i : ℕ) → i < length (dims scales) → i < length scales
  inside c i low = omega (arith, low, length-map scales (λ (s : List ℕ). length s + 1))

  -- the directory's parts after a change of both are the same
  pub parts_agree : (n : LayoutChange) (d : DirectoryChange K) → AreOfOneKind n d → NotesFresh scales n → IsChangeOf (dims scales) d → parts (scales_after_change scales n) ≡ parts_after (dims scales) d
  parts_agree note.Plain Nothing kind fresh change = refl
  parts_agree note.Plain (Patch b x) kind fresh change = absurd kind
  parts_agree note.Plain (Grow a i b x) kind fresh change = absurd kind
  parts_agree (note.Cut c right) Nothing kind fresh change = absurd kind
  parts_agree (note.Cut c right) (Patch b x) kind fresh change = ap (λ (t : Bool). parts (cond t (slice_set scales c.attribute (refined (scale_of scales c.attribute) c.value)) scales)) (not_fresh c.fresh kind)
    where
      not_fresh : (t : Bool) → IsTrue (not t) → t ≡ false
      not_fresh true e = absurd (true≢false (sym e))
      not_fresh false e = refl
  parts_agree (note.Cut c right) (Grow a i b x) kind fresh change =
      let low : a < length scales = omega (arith, change.attribute, length-map scales (λ (s : List ℕ). length s + 1)) in
      let here : c.attribute < length scales = omega (arith, low, kind.1) in
      let attribute : c.attribute < K = omega (arith, here, old.attributes) in
      ap (λ (t : Bool). parts (cond t (slice_set scales c.attribute (refined (scale_of scales c.attribute) c.value)) scales)) kind.0
      ∙ ap (λ (ns : List ℕ). (product ns + 999) / 1000) (dims-refined scales c.attribute c.value here (old.ascend c.attribute attribute) (fresh kind.0))
      ∙ ap (λ (j : ℕ). (product (grown (dims scales) j) + 999) / 1000) (sym kind.1)
  parts_agree (note.Merge m) Nothing kind fresh change = absurd kind
  parts_agree (note.Merge m) (Patch b x) kind fresh change = refl
  parts_agree (note.Merge m) (Grow a i b x) kind fresh change = absurd kind

  -- parts are not fewer after a change
  pub no_fewer : (n : LayoutChange) (d : DirectoryChange K) → AreOfOneKind n d → IsChangeOf (dims scales) d → parts scales ≤ parts (scales_after_change scales n)
  no_fewer note.Plain d kind change = omega arith
  no_fewer (note.Cut c right) Nothing kind change = absurd kind
  no_fewer (note.Cut c right) (Patch b x) kind change = absurd_or (c.fresh) refl
    where
      absurd_or : (t : Bool) → c.fresh ≡ t → parts scales ≤ parts (cond t (slice_set scales c.attribute (refined (scale_of scales c.attribute) c.value)) scales)
      absurd_or false e = omega arith
      absurd_or true e = absurd (true≢false (sym (ap not (sym e) ∙ sym (sym kind)) ∙ refl))
  no_fewer (note.Cut c right) (Grow a i b x) kind change =
      let low : a < length scales = omega (arith, change.attribute, length-map scales (λ (s : List ℕ). length s + 1)) in
      let attribute : c.attribute < K = omega (arith, low, kind.1, old.attributes) in
      parts-grow scales c (old.ascend c.attribute attribute)
  no_fewer (note.Merge m) d kind change = omega arith

  lower_or_renewed : (d : DirectoryChange K) (p : ℕ) → p < parts_after (dims scales) d → (nat_lt p (parts scales) || is_among (parts_changed (dims scales) d) p) ≡ true
  unfolding parts_changed
  lower_or_renewed Nothing p low = or-left (nat_lt p (parts scales)) false (lt-ltb p (parts scales) low)
  lower_or_renewed (Patch b x) p low = or-left (nat_lt p (parts scales)) (is_among (parts_changed (dims scales) (Patch b x)) p) (lt-ltb p (parts scales) low)
  lower_or_renewed (Grow a i b x) p low = or-right (nat_lt p (parts scales)) (is_among (parts_changed (dims scales) (Grow a i b x)) p)
      (among_below (parts_after (dims scales) (Grow a i b x)) p ∙ lt-ltb p (parts_after (dims scales) (Grow a i b x)) low)

  -- a part has a page then where it had one or got one: where it is a part of the directory then
  pub parts_renewed : (n : LayoutChange) (d : DirectoryChange K) → AreOfOneKind n d → NotesFresh scales n → IsChangeOf (dims scales) d → (p : ℕ)
      → (nat_lt p (parts scales) || is_among (parts_changed (dims scales) d) p) ≡ nat_lt p (parts (scales_after_change scales n))
  parts_renewed n d kind fresh change p = both_ways (nat_lt p (parts scales) || is_among (parts_changed (dims scales) d) p) (nat_lt p (parts (scales_after_change scales n)))
      (λ e. there (or_cases (nat_lt p (parts scales)) (is_among (parts_changed (dims scales) d) p) e))
      (λ e. lower_or_renewed d p (let low : p < parts (scales_after_change scales n) = ltb-true p (parts (scales_after_change scales n)) e in omega (arith, low, parts_agree n d kind fresh change)))
    where
      there : (nat_lt p (parts scales) ≡ true) ⊎ (is_among (parts_changed (dims scales) d) p ≡ true) → nat_lt p (parts (scales_after_change scales n)) ≡ true
      there (inl e) = let low : p < parts scales = ltb-true p (parts scales) e in lt-ltb p (parts (scales_after_change scales n)) (omega (arith, low, no_fewer n d kind change))
      there (inr e) = lt-ltb p (parts (scales_after_change scales n)) (omega (arith, changed-below (dims scales) d p e, parts_agree n d kind fresh change))

-- the least boundary is above zero
boundary_above : (s : List ℕ) (v : ℕ) → IsTrue (is_scale s) → is_among s v ≡ true → 1 ≤ v
boundary_above s v lawful there =
    let w = among-index s v there in
    omega (arith, each-from 1 s w.0 lawful w.1, w.2)

-- a boundary is one of the refined scale
refined_has : (s : List ℕ) (v : ℕ) → is_among (refined s v) v ≡ true
refined_has s v =
    list_any-append (λ m. m == v) (filter (λ b. nat_lt b v) s) (v ∷ filter (λ b. nat_lt v b) s)
    ∙ or-right (is_among (filter (λ b. nat_lt b v) s) v) (is_among (v ∷ filter (λ b. nat_lt v b) s) v) (or-left (v == v) (is_among (filter (λ b. nat_lt v b) s) v) (eq-eqb v v refl))

-- the boundaries and the limit of a scale
boundaries_at : (ss : List LimitedScale) (i : ℕ) (d : LimitedScale) → i < length ss → (get_or ss i d).boundaries ≡ scale_of (scales_of ss) i
boundaries_at ss i d low = sym (get_or-map (λ (t : LimitedScale). t.boundaries) ss i d [] low)

limit_at : (K b : ℕ) (ss : List LimitedScale) (i : ℕ) (d : LimitedScale) → i < length ss → i < K → limits_of ss ≡ replicate K b → (get_or ss i d).limit ≡ b
limit_at K b ss i d inside low limits = sym (get_or-map (λ (t : LimitedScale). t.limit) ss i d 0 inside) ∙ ap (λ (ns : List ℕ). get_or ns i 0) limits ∙ get_or-replicate K i b 0 low

module _ {K : ℕ} (shape : Shape) (ss : List LimitedScale) (c : Cut) (right a i : ℕ) (b : CellBox K) (x : ℕ) (old : AreScalesOf K shape (scales_of ss)) (limits : limits_of ss ≡ replicate K shape.boundaries)
    (is : IsTrue c.fresh) (same : a ≡ c.attribute) (fresh : NotesFresh (scales_of ss) (note.Cut c right)) (change : IsChangeOf (dims (scales_of ss)) (Grow a i b x))
    (after : AreScalesOf K shape (scales_after_change (scales_of ss) (note.Cut c right))) where
  scale : List ℕ
  scale = scale_of (scales_of ss) c.attribute

  inside_scales : c.attribute < length (scales_of ss)
  inside_scales = omega (arith, change.attribute, length-map (scales_of ss) (λ (s : List ℕ). length s + 1), same)

  inside_ss : c.attribute < length ss
  inside_ss = omega (arith, inside_scales, length-map ss (λ (t : LimitedScale). t.boundaries))

  attribute : c.attribute < K
  attribute = omega (arith, inside_scales, old.attributes)

  there : scale_of (scales_after_change (scales_of ss) (note.Cut c right)) c.attribute ≡ refined scale c.value
  unfolding scale
  there =
      ap (λ (t : Bool). scale_of (cond t (slice_set (scales_of ss) c.attribute (refined scale c.value)) (scales_of ss)) c.attribute) is
      ∙ get_or-set_same (scales_of ss) c.attribute (refined scale c.value) [] inside_scales

  takes_cut : TakesCut K ss c
  unfolding scale
  takes_cut = record {
    attribute = attribute;
    low = boundary_above (refined scale c.value) c.value (subst (λ (s : List ℕ). IsTrue (is_scale s)) there (after.ascend c.attribute attribute)) (refined_has scale c.value);
    takes = λ d. record {
      fresh = ap (λ (s : List ℕ). is_among s c.value) (boundaries_at ss c.attribute d inside_ss) ∙ fresh is;
      room =
          let short : length (scale_of (scales_after_change (scales_of ss) (note.Cut c right)) c.attribute) ≤ shape.boundaries = after.few_boundaries c.attribute attribute in
          let longer : length (refined scale c.value) ≡ length scale + 1 = refined-longer c.value 1 scale (old.ascend c.attribute attribute) (fresh is) in
          let limit : (get_or ss c.attribute d).limit ≡ shape.boundaries = limit_at K shape.boundaries ss c.attribute d inside_ss attribute limits in
          let here : length (get_or ss c.attribute d).boundaries ≡ length scale = ap length (boundaries_at ss c.attribute d inside_ss) in
          let same_length : length (scale_of (scales_after_change (scales_of ss) (note.Cut c right)) c.attribute) ≡ length (refined scale c.value) = ap length there in
          omega (arith, short, longer, same_length, here, limit);
    };
  }

-- the scale of a change that may be published takes its boundary
pub takes_note : {K : ℕ} (shape : Shape) (ss : List LimitedScale) (n : LayoutChange) (d : DirectoryChange K) → AreScalesOf K shape (scales_of ss) → limits_of ss ≡ replicate K shape.boundaries
    → AreOfOneKind n d → NotesFresh (scales_of ss) n → IsChangeOf (dims (scales_of ss)) d → AreScalesOf K shape (scales_after_change (scales_of ss) n) → TakesNote K ss n
takes_note shape ss note.Plain d old limits kind fresh change after = tt
takes_note shape ss (note.Merge m) d old limits kind fresh change after = tt
takes_note shape ss (note.Cut c right) Nothing old limits kind fresh change after = absurd kind
takes_note shape ss (note.Cut c right) (Patch b x) old limits kind fresh change after = λ is. absurd (true≢false (sym (ap not (sym is) ∙ kind)))
takes_note shape ss (note.Cut c right) (Grow a i b x) old limits kind fresh change after = λ is. takes_cut shape ss c right a i b x old limits is kind.1 fresh change after

-- the limits of scales without boundaries
pub limits_there : (n limit : ℕ) → limits_of (replicate n (record { boundaries = []; limit = limit })) ≡ replicate n limit
limits_there zero limit = refl
limits_there (suc n) limit = ap (λ (ns : List ℕ). limit ∷ ns) (limits_there n limit)
