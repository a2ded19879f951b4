-- An image has one shape, and one newest root with one table area, and is then not damaged.
use Rattle.std.proofs.Common.{◌≡◌, ◌≢◌, ◌<◌, inl, inr, ◌+◌, ◌*◌, ◌/◌, ◌%◌, ◌++◌, ℕ, List, [], length, take, drop, IsTrue, refl, sym, ap, ◌∙◌, subst, arith}
use Rattle.std.specs.Prelude.{Option, Some, None}
use Rattle.std.proofs.lemmas.Bool.{cases_eq}
use Rattle.std.proofs.lemmas.List.{same_lists, get_or_default}
use Rattle.grid_types.specs.declared.shape.Shape.{Shape}
use Rattle.grid_types.specs.Pages.{page_of}
use Rattle.grid_types.specs.Shapes.{is_shape, area_pages, header_page, table_page}
use Rattle.grid_types.proofs.Places.{within-limits, one-of-two}
use Rattle.page_fields.specs.Fields.{number}
use Rattle.grid_model.specs.Scales.{scale_of}
use Rattle.grid_model.specs.Spellings.{RootFields}
use Rattle.grid_model.specs.Lawful.{IsRootOn, Area}
use Rattle.grid_model.specs.Images.{header_gate, IsOpenOver, IsNewest, HasArea}
use Rattle.root_pages.proofs.ShapePlaces.{shape_there, one_shape}
use Rattle.root_pages.proofs.RootPlaces.{number_there, fields_there, on_header}
use Rattle.root_pages.proofs.Roots.{few_attributes, in_range, root_again}
use Rattle.file_roots.specs.Damage.{SpellsUpTo, AreAlike, IsFirstMisspelt, HasBadAreaPage, IsRootDamage}
use Rattle.grid_model.specs.Roots.{WholeRoot, IsNewestWhole, ShowsOld, ShowsOldOrTried}
use Rattle.file_roots.specs.Uniqueness.{HasOneShape, HasOneNewest, HasOneArea, HasOneWhole}
use Rattle.file_roots.specs.Replacing.{IsOldOrTried, NewestIsAmong}
use Rattle.file_roots.proofs.Pieces.{piece_last}
use Rattle.root_pages.proofs.KindsOfPages.{one_scale_spelled, one_list_spelled}
use Rattle.file_roots.proofs.Spelled.{few, scale_there, list_there}
use Rattle.file_roots.proofs.Agreeing.{one_table_of}
use Rattle.file_roots.proofs.Whole.{pages_of_area}
use Rattle.file_roots.proofs.Cutting.{none_bad}

module _ (s : Shape) (image : List ℕ) (lawful : IsTrue (is_shape s)) where
  -- a header page is open over one root
  pub one_open : (header : ℕ) (r q : RootFields) → IsOpenOver s image header r → IsOpenOver s image header q → r ≡ q
  one_open header r q x y =
      let page = page_of header image in
      root_again s header s.k page r q lawful refl (record { lawful = x.lawful; bytes = x.spelled })
      (fields_there 72 page q (drop 128 page) (on_header page q y.spelled) s.k (few_attributes s s.k lawful refl) (in_range s header s.k q lawful refl y.lawful)) y.lawful.attributes

  -- another newest root would have a lower number
  second_is_lower : (r q : RootFields) → IsNewest s image r → IsNewest s image q → header_page (r.number + 1) ≡ header_page q.number → q.number < r.number
  second_is_lower r q x y e = elim x.other [
    | inl shut ↦ absurd (shut (ap (header_gate image) e ∙ y.opens.gate))
    | inr older ↦
        let same = one_open (header_page q.number) older.0 q (subst (λ h. IsOpenOver s image h older.0) e older.1) y.opens in
        omega (arith, older.2, ap (λ f. f.number) same)
  ]

  -- there is one newest root
  pub one_newest : (r q : RootFields) → IsNewest s image r → IsNewest s image q → r ≡ q
  one_newest r q x y = elim (cases_eq (header_page r.number) (header_page q.number)) [
    | inl same ↦ one_open (header_page q.number) r q (subst (λ h. IsOpenOver s image h r) same x.opens) y.opens
    | inr other ↦
        let up : header_page (r.number + 1) ≡ header_page q.number = grind (arith, other) in
        let down : header_page (q.number + 1) ≡ header_page r.number = grind (arith, other) in
        absurd (omega (arith, second_is_lower r q x y up, second_is_lower q r y x down))
  ]

  module _ (r : RootFields) (root : IsRootOn s (header_page r.number) r) (a b : Area) (x : SpellsUpTo s image r (area_pages s) a) (y : SpellsUpTo s image r (area_pages s) b) where
    half_same : (i : ℕ) → i < 8 → take 500 (drop (500 * (i % 2)) (scale_of a.scales (i / 2))) ≡ take 500 (drop (500 * (i % 2)) (scale_of b.scales (i / 2)))
    half_same i lt = one_scale_spelled r.number i (page_of (table_page s (header_page r.number) i) image) _ _
        (scale_there s image r lawful root (area_pages s) a x i (omega (arith, lt)) lt) (scale_there s image r lawful root (area_pages s) b y i (omega (arith, lt)) lt)

    scale_same : (i : ℕ) → i < 4 → scale_of a.scales i ≡ scale_of b.scales i
    scale_same i lt =
        let Same : ℕ → ℕ → Type 0 = λ j h. take 500 (drop (500 * h) (scale_of a.scales j)) ≡ take 500 (drop (500 * h) (scale_of b.scales j)) in
        let at_even : (2 * i) / 2 ≡ i = omega arith in
        let even : (2 * i) % 2 ≡ 0 = omega arith in
        let at_odd : (2 * i + 1) / 2 ≡ i = omega arith in
        let odd : (2 * i + 1) % 2 ≡ 1 = omega arith in
        let low : take 500 (scale_of a.scales i) ≡ take 500 (scale_of b.scales i) = subst (Same i) even (subst (λ j. Same j ((2 * i) % 2)) at_even (half_same (2 * i) (omega (arith, lt)))) in
        let high : take 500 (drop 500 (scale_of a.scales i)) ≡ take 500 (drop 500 (scale_of b.scales i)) = subst (Same i) odd (subst (λ j. Same j ((2 * i + 1) % 2)) at_odd (half_same (2 * i + 1) (omega (arith, lt)))) in
        piece_last 500 500 (scale_of a.scales i) (omega (arith, x.boundaries i, few s image r lawful root i))
        ∙ ap (λ ys. ys ++ take 500 (drop 500 (scale_of a.scales i))) low ∙ ap (λ ys. take 500 (scale_of b.scales i) ++ ys) high
        ∙ sym (piece_last 500 500 (scale_of b.scales i) (omega (arith, y.boundaries i, few s image r lawful root i)))

    scales_same : a.scales ≡ b.scales
    scales_same = same_lists a.scales b.scales (x.attributes ∙ sym y.attributes) (λ k d lt.
        let w = within-limits s lawful in
        let inside : k < length b.scales = omega (arith, lt, x.attributes, y.attributes) in
        get_or_default a.scales k d [] lt ∙ scale_same k (omega (arith, lt, x.attributes, root.attributes, w.few_attributes)) ∙ get_or_default b.scales k [] d inside)

    -- a root has one table area
    pub one_area : a ≡ b
    one_area =
        let scales = scales_same in
        let parts = one_list_spelled r.number 8 (page_of (table_page s (header_page r.number) 8) image) _ _ (list_there s image r lawful root (area_pages s) a x (omega arith)) (list_there s image r lawful root (area_pages s) b y (omega arith)) in
        let table = one_table_of s image r lawful root (area_pages s) a b (omega arith) x y in
        λ i. record { scales = scales i; parts = parts i; table = table i }

  module _ (r : RootFields) (newest : IsNewest s image r) where
    -- a header page that is open is open over a root
    open_over_some : (header : ℕ) → header < 2 → header_gate image header ≡ 1 → (q : RootFields) × IsOpenOver s image header q
    open_over_some header two gate = elim (cases_eq (header_page r.number) header) [
      | inl same ↦ (r, subst (λ h. IsOpenOver s image h r) same newest.opens)
      | inr other ↦
          let next : header_page (r.number + 1) ≡ header = grind (arith, other, two) in
          elim newest.other [
            | inl shut ↦ absurd (shut (ap (header_gate image) next ∙ gate))
            | inr older ↦ (older.0, subst (λ h. IsOpenOver s image h older.0) next older.1)
          ]
    ]

    -- its root stands there with its number
    number_and_parity : (header : ℕ) (q : RootFields) → IsOpenOver s image header q → (q.number ≡ number 8 (drop 72 (page_of header image))) × (q.number % 2 ≡ header)
    number_and_parity header q opens =
        let page = page_of header image in
        (number_there 72 page q (drop 128 page) (on_header page q opens.spelled) (omega (arith, opens.lawful.number)), opens.lawful.parity)

    pub one_open_at_least : header_gate image 0 ≢ 1 → header_gate image 1 ≢ 1 → ⊥
    one_open_at_least zeroth first = elim (one-of-two (header_page r.number) (omega arith)) [
      | inl is ↦ zeroth (ap (header_gate image) (sym is) ∙ newest.opens.gate)
      | inr is ↦ first (ap (header_gate image) (sym is) ∙ newest.opens.gate)
    ]

    pub none_alike : (p : ℕ) → AreAlike image p → ⊥
    none_alike p alike =
        let z = open_over_some 0 (omega arith) alike.zeroth in
        let f = open_over_some 1 (omega arith) alike.first in
        let x = number_and_parity 0 z.0 z.1 in
        let y = number_and_parity 1 f.0 f.1 in
        absurd (omega (arith, x.0, y.0, x.1, y.1, alike.numbers))

    pub none_misspelt : (p : ℕ) → IsFirstMisspelt s image p → ⊥
    none_misspelt p bad = let o = open_over_some p bad.two bad.misspelt.gate in bad.misspelt.none o.0 o.1

    -- the roots of an image with a newest root and its table area are not damaged
    pub undamaged : (a : Area) → HasArea s image r a → (p : ℕ) → IsRootDamage s image p → ⊥
    undamaged a area p (inl none) = one_open_at_least none.zeroth none.first
    undamaged a area p (inr (inl alike)) = none_alike p alike
    undamaged a area p (inr (inr (inl bad))) = none_misspelt p bad
    undamaged a area p (inr (inr (inr found))) =
        let same : found.0 ≡ r = one_newest found.0 r found.1 newest in
        let bad : HasBadAreaPage s image r p = subst (λ q. HasBadAreaPage s image q p) same found.2 in
        let more = none_bad s image r a lawful newest.opens.lawful (area_pages s) (omega arith) (pages_of_area s image r a lawful newest.opens.lawful area) bad.index bad.bad.inside in
        bad.bad.no_more more.0 more.1

-- an image has one newest root
pub one_newest_root : HasOneNewest
one_newest_root s image r q lawful x y = one_newest s image lawful r q x y

-- a root has one table area
pub one_table_area : HasOneArea
one_table_area s image r a b lawful root x y = one_area s image lawful r root a b (pages_of_area s image r a lawful root x).spelled (pages_of_area s image r b lawful root y).spelled

-- an image has one newest root with its whole table area
pub one_newest_whole : HasOneWhole
one_newest_whole s image w v lawful x y =
    let same : w.fields ≡ v.fields = one_newest s image lawful w.fields v.fields x.newest y.newest in
    let other : HasArea s image v.fields w.area = subst (λ f. HasArea s image f w.area) same x.area in
    let area : w.area ≡ v.area = one_table_area s image v.fields w.area v.area lawful y.newest.opens.lawful other y.area in
    λ i. record { fields = same i; area = area i }

-- an image has one shape
pub one_file_shape : HasOneShape
one_file_shape K J image s t x y =
    let page = page_of 0 image in
    one_shape page s t (shape_there page s (record { lawful = x.lawful; bytes = x.first })) (shape_there page t (record { lawful = y.lawful; bytes = y.first }))

-- the newest root is one of those of which one is the newest
module _ (s : Shape) (image : List ℕ) (lawful : IsTrue (is_shape s)) (r : RootFields) (newest : IsNewest s image r) where
  -- a whole root is the newest with its area
  same_whole : (w : WholeRoot) → IsNewestWhole s w image → HasArea s image r w.area × (record { fields = r; area = w.area } ≡ w)
  same_whole w whole =
      let same : w.fields ≡ r = one_newest s image lawful w.fields r whole.newest newest in
      (subst (λ f. HasArea s image f w.area) same whole.area, λ i. record { fields = sym same i; area = w.area })

  some_whole : (w v : WholeRoot) → v ≡ w → Some w ≡ Some v
  some_whole w v is = λ i. Some (sym is i)

  newest_is_old : (old : Option WholeRoot) → ShowsOld s old image → (a : Area) × HasArea s image r a × (old ≡ Some (record { fields = r; area = a }))
  newest_is_old None none = absurd (one_open_at_least s image lawful r newest none.zeroth none.first)
  newest_is_old (Some old) whole = let is = same_whole old whole in (old.area, is.0, some_whole old _ is.1)

  newest_among : (old tried : Option WholeRoot) → ShowsOldOrTried s old tried image → (a : Area) × HasArea s image r a × IsOldOrTried old tried (record { fields = r; area = a })
  newest_among old None shows = let is = newest_is_old old shows in (is.0, is.1, inl is.2)
  newest_among old (Some w) (inl whole) = let is = same_whole w whole in (w.area, is.0, inr (some_whole w _ is.1))
  newest_among old (Some w) (inr shows) = let is = newest_is_old old shows in (is.0, is.1, inl is.2)

pub newest_is_among : NewestIsAmong
newest_is_among s old tried image r lawful shows newest = newest_among s image lawful r newest old tried shows
