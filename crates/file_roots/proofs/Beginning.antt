-- What is gathered before the first page.
use Rattle.std.proofs.Common.{◌≡◌, ◌<◌, ◌++◌, ℕ, zero, suc, false, List, [], ◌∷◌, length, replicate, IsTrue, refl, sym, ap, ◌∙◌, subst, arith}
use Rattle.std.specs.Prelude.{slice_index_or, All}
use Rattle.grid_model.specs.Lists.{is_among, AreDistinct}
use Rattle.std.proofs.lemmas.List.{length-map, length-replicate}
use Rattle.std.proofs.lemmas.List.Elements.{All-nil}
use Rattle.grid_types.specs.declared.shape.Shape.{Shape}
use Rattle.grid_types.specs.Shapes.{header_page}
use Rattle.grid_model.specs.Scales.{is_scale, scale_of}
use Rattle.grid_model.specs.Spellings.{RootFields}
use Rattle.grid_model.specs.Lawful.{IsRootOn, pages_named}
use Rattle.linear_scales.specs.Limited.{LimitedScale, scales_of, limits_of}
use Rattle.file_roots.specs.declared.gathering.Gathered.{Gathered}
use Rattle.file_roots.specs.Gathering.{HasRoom, HasGathered}

-- a scale without boundaries
abbrev pub bare_scale : ℕ → LimitedScale
bare_scale limit = record { boundaries = []; limit = limit }

no_boundaries : (n limit i : ℕ) → scale_of (scales_of (replicate n (bare_scale limit))) i ≡ []
no_boundaries zero limit i = refl
no_boundaries (suc n) limit zero = refl
no_boundaries (suc n) limit (suc i) = no_boundaries n limit i

limits_there : (n limit : ℕ) → limits_of (replicate n (bare_scale limit)) ≡ replicate n limit
limits_there zero limit = refl
limits_there (suc n) limit = ap (λ ns. limit ∷ ns) (limits_there n limit)

no_marks : (n p : ℕ) → slice_index_or (replicate n false) p false ≡ false
no_marks zero p = refl
no_marks (suc n) zero = refl
no_marks (suc n) (suc p) = no_marks n p

module _ {K : ℕ} (s : Shape) (g : Gathered K) (scales : g.scales ≡ replicate K (bare_scale s.boundaries)) (parts : g.parts.items ≡ []) (table : g.table.items ≡ []) (marks : g.marks.items ≡ replicate s.pages false) where
  pub has_room : HasRoom s g
  has_room = record {
    scales = ap length scales ∙ length-replicate K (bare_scale s.boundaries);
    limits = ap limits_of scales ∙ limits_there K s.boundaries;
    marks = ap length marks ∙ length-replicate s.pages false;
  }

  empty_scales : (i : ℕ) → scale_of (scales_of g.scales) i ≡ []
  empty_scales i = ap (λ ss. scale_of (scales_of ss) i) scales ∙ no_boundaries K s.boundaries i

  pub nothing_gathered : (image : List ℕ) (r : RootFields) → s.k ≡ K → IsRootOn s (header_page r.number) r → HasGathered s image r 0 g
  nothing_gathered image r attributes root =
      let none : g.parts.items ++ pages_named g.table.items ≡ [] = ap (λ ys. ys ++ pages_named g.table.items) parts ∙ ap pages_named table in
      record {
        area = record {
          spelled = record {
            attributes = length-map g.scales (λ t. t.boundaries) ∙ ap length scales ∙ length-replicate K (bare_scale s.boundaries) ∙ sym (root.attributes ∙ attributes);
            boundaries = λ i. ap length (empty_scales i) ∙ omega arith;
            parts = ap length parts ∙ omega arith;
            numbers = ap length table ∙ omega arith;
            scales = λ i. subst (λ ys. IsTrue (is_scale ys)) (sym (empty_scales i)) refl;
            named = subst (All (λ p. p < s.pages)) (sym none) (All-nil (λ p. p < s.pages));
            distinct = subst AreDistinct (sym none) (λ n. omega arith);
            pages = λ i lt. absurd (omega (arith, lt));
          };
          buckets = λ le. absurd (omega (arith, le));
        };
        marked = record {
          each = λ p. ap (λ ms. slice_index_or ms p false) marks ∙ no_marks s.pages p ∙ ap (λ ns. is_among ns p) (sym none);
          distinct = subst AreDistinct (sym none) (λ n. omega arith);
        };
      }
