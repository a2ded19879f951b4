-- All pages of a table area are spelled exactly where the area is.
use Rattle.std.proofs.Common.{◌≡◌, ◌<◌, inl, inr, ◌-◌, ◌*◌, ℕ, List, [], map, length, slice_index, IsTrue, refl, sym, ap, ◌∙◌, subst, arith}
use Rattle.std.specs.Prelude.{min}
use Rattle.std.proofs.lemmas.Bool.{cases_lt}
use Rattle.std.proofs.lemmas.List.{ext_get_or, get_or-map, get_or_past, length-map}
use Rattle.std.proofs.lemmas.List.Elements.{All-get_or, All-from_get_or}
use Rattle.grid_types.specs.declared.shape.Shape.{Shape}
use Rattle.grid_types.specs.Shapes.{is_shape, area_pages, header_page}
use Rattle.grid_types.proofs.Places.{within-limits}
use Rattle.grid_model.specs.Scales.{is_scale}
use Rattle.grid_model.specs.Spellings.{RootFields}
use Rattle.grid_model.specs.Lawful.{IsRootOn, Area}
use Rattle.grid_model.specs.Images.{HasArea}
use Rattle.file_roots.specs.Damage.{HasAreaUpTo, AreAllSpelled}
use Rattle.file_roots.proofs.Spelled.{few}

module _ (s : Shape) (image : List ℕ) (r : RootFields) (a : Area) (lawful : IsTrue (is_shape s)) (root : IsRootOn s (header_page r.number) r) where
  abbrev all_pages : ℕ
  all_pages = area_pages s

  -- all_pages boundaries of an attribute stand on all_pages pages
  all_boundaries : (i : ℕ) → min (500 * (all_pages - 2 * i)) (slice_index r.boundaries i) ≡ slice_index r.boundaries i
  all_boundaries i = elim (cases_lt i (length r.boundaries)) [
    | inl lt ↦ let w = within-limits s lawful in omega (arith, few s image r lawful root i, lt, root.attributes, w.few_attributes)
    | inr ge ↦ omega (arith, get_or_past r.boundaries i 0 ge)
  ]

  all_parts : min (1000 * (all_pages - 8)) r.parts ≡ r.parts
  all_parts = let w = within-limits s lawful in omega (arith, root.parts, root.few_cells, w.few_cells, w.some_pages)

  all_numbers : min (1000 * (all_pages - 9)) s.pages ≡ s.pages
  all_numbers = omega arith

  pub area_of_pages : HasAreaUpTo s image r all_pages a → HasArea s image r a
  area_of_pages h =
      let count : length a.scales ≡ length r.boundaries = h.spelled.attributes in
      record {
        lawful = record {
          boundaries = ext_get_or 0 (map length a.scales) r.boundaries (length-map a.scales length ∙ count) (λ i lt.
              let inside : i < length a.scales = omega (arith, lt, length-map a.scales length) in
              get_or-map length a.scales i [] 0 inside ∙ h.spelled.boundaries i ∙ all_boundaries i);
          scales = All-from_get_or (λ scale. IsTrue (is_scale scale)) a.scales [] (λ i lt. h.spelled.scales i);
          parts = h.spelled.parts ∙ all_parts;
          numbers = h.spelled.numbers ∙ all_numbers;
          buckets = h.buckets (omega arith);
          pages = h.spelled.named;
          distinct = h.spelled.distinct;
        };
        pages = h.spelled.pages;
      }

  pub pages_of_area : HasArea s image r a → HasAreaUpTo s image r all_pages a
  pages_of_area h =
      let count : length a.scales ≡ length r.boundaries = sym (length-map a.scales length) ∙ ap length h.lawful.boundaries in
      record {
        spelled = record {
          attributes = count;
          boundaries = λ i. (elim (cases_lt i (length a.scales)) [
            | inl lt ↦ sym (get_or-map length a.scales i [] 0 lt) ∙ ap (λ ns. slice_index ns i) h.lawful.boundaries
            | inr ge ↦ ap length (get_or_past a.scales i [] ge) ∙ sym (get_or_past r.boundaries i 0 (omega (arith, count, ge)))
          ]) ∙ sym (all_boundaries i);
          parts = h.lawful.parts ∙ sym all_parts;
          numbers = h.lawful.numbers ∙ sym all_numbers;
          scales = λ i. elim (cases_lt i (length a.scales)) [
            | inl lt ↦ All-get_or (λ scale. IsTrue (is_scale scale)) a.scales i [] lt h.lawful.scales
            | inr ge ↦ subst (λ ys. IsTrue (is_scale ys)) (sym (get_or_past a.scales i [] ge)) refl
          ];
          named = h.lawful.pages;
          distinct = h.lawful.distinct;
          pages = h.pages;
        };
        buckets = λ le. h.lawful.buckets;
      }

pub all_spelled : AreAllSpelled
all_spelled s image r a lawful root = (area_of_pages s image r a lawful root, pages_of_area s image r a lawful root)
