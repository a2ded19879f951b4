-- What a root that has a spelling may be written with.
use Rattle.std.proofs.Common.{inl, inr, ◌≡◌, ◌≤◌, ℕ, [], map, length, get_or, IsTrue, sym, ap, ◌∙◌, arith}
use Rattle.std.proofs.lemmas.Bool.{cases_lt}
use Rattle.std.proofs.lemmas.List.{get_or-map, get_or_past, length-map}
use Rattle.std.proofs.lemmas.List.Elements.{All-get_or}
use Rattle.grid_types.specs.declared.shape.Shape.{Shape}
use Rattle.grid_types.specs.Shapes.{is_shape}
use Rattle.grid_types.proofs.Places.{within-limits}
use Rattle.grid_model.specs.Scales.{scale_of}
use Rattle.linear_scales.specs.Limited.{scales_of}
use Rattle.linear_scales.specs.declared.root.Root.{Root}
use Rattle.linear_scales.specs.Roots.{IsRoot}

-- how long the lists of a root are
pub record HasLengths (K : ℕ) (root : Root K) : Type 0 where
  pub scales : length root.scales ≡ K
  pub boundaries : (a : ℕ) → length (scale_of (scales_of root.scales) a) ≤ 1000
  pub parts : length root.parts.items ≤ 1000
  pub numbers : length root.table.items ≤ 65536

module _ {K : ℕ} (s : Shape) (root : Root K) (lawful : IsTrue (is_shape s)) (attributes : s.k ≡ K) (is : IsRoot s root) where
  at_most_1000 : (a : ℕ) → length (scale_of (scales_of root.scales) a) ≤ 1000
  at_most_1000 a = elim (cases_lt a (length (scales_of root.scales))) [
    | inl lt ↦
        let w = within-limits s lawful in
        let few : get_or (map length (scales_of root.scales)) a 0 ≤ s.boundaries = All-get_or (λ n. n ≤ s.boundaries) (map length (scales_of root.scales)) a 0 (omega (arith, lt, length-map (scales_of root.scales) length)) is.fields.few_boundaries in
        omega (arith, few, get_or-map length (scales_of root.scales) a [] 0 lt, w.few_boundaries)
    | inr ge ↦ let none : scale_of (scales_of root.scales) a ≡ [] = get_or_past (scales_of root.scales) a [] ge in omega (arith, ap length none)
  ]

  pub lengths : HasLengths K root
  lengths =
      let w = within-limits s lawful in
      record {
        scales = sym (length-map (scales_of root.scales) length ∙ length-map root.scales (λ t. t.boundaries)) ∙ is.fields.attributes ∙ attributes;
        boundaries = at_most_1000;
        parts = omega (arith, is.fields.parts, is.fields.few_cells, w.few_cells);
        numbers = omega (arith, is.area.numbers, w.few_pages);
      }
