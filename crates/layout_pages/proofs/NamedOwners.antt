-- The owners for whom a table area names pages.
use Rattle.std.proofs.Common.{◌≡◌, ◌++◌, ℕ, zero, suc, List, [], ◌∷◌, map, length, Option, Some, refl, sym, ap, subst, ◌∙◌}
use Rattle.std.specs.Prelude.{slice_get}
use Rattle.std.proofs.lemmas.List.{map-append}
use Rattle.std.proofs.lemmas.Option.{same_Some}
use Rattle.grid_types.specs.declared.owner.Owner.{Owner}
use Rattle.grid_types.specs.declared.owner.Owner.TheVariants.{Bucket, Part}
use Rattle.grid_model.specs.Lawful.{Area}
use Rattle.grid_model.specs.Lists.{below}
use Rattle.grid_model.specs.Images.{numbers_of}
use Rattle.grid_model.specs.Layouts.{Layout}
use Rattle.grid_model.specs.Lone.{owners}
use Rattle.grid_model.specs.Tables.{Table}
use Rattle.history_pages.specs.KnownPages.{page_named, AreaHolds}
use Rattle.history_pages.specs.NewPages.{in_order}
use Rattle.page_states.specs.Changes.{Publication}
use Rattle.layout_pages.specs.Steps.{bucket_publication, part_publication, named_publications}
use Rattle.layout_pages.proofs.Ordered.{owners_of}

-- an element of one of two lists
of-two : {X : Type 0} (P : X → Type 0) (xs ys : List X) → ((i : ℕ) (x : X) → slice_get xs i ≡ Some x → P x) → ((i : ℕ) (x : X) → slice_get ys i ≡ Some x → P x) → (i : ℕ) (x : X) → slice_get (xs ++ ys) i ≡ Some x → P x
of-two P [] ys left right i x has = right i x has
of-two P (z ∷ xs) ys left right zero x has = left 0 x has
of-two P (z ∷ xs) ys left right (suc i) x has = of-two P xs ys (λ j y h. left (suc j) y h) right i x has

-- an element of images
of-images : {X Y : Type 0} (P : Y → Type 0) (f : X → Y) (xs : List X) → ((x : X) → P (f x)) → (i : ℕ) (y : Y) → slice_get (map f xs) i ≡ Some y → P y
of-images P f [] each i y has = absurd (cc)
of-images P f (x ∷ xs) each zero y has = subst P (same_Some (f x) y has) (each x)
of-images P f (x ∷ xs) each (suc i) y has = of-images P f xs each i y has

-- each page is the one that is named for its owner
pub named-for : (a : Area) (i : ℕ) (x : Publication) → slice_get (named_publications a) i ≡ Some x → page_named a x.owner ≡ x.page
named-for a = of-two (λ x. page_named a x.owner ≡ x.page) (map (bucket_publication a.table) (numbers_of a.table)) (map (part_publication a.parts) (below (length a.parts)))
    (of-images (λ x. page_named a x.owner ≡ x.page) (bucket_publication a.table) (numbers_of a.table) (λ n. refl))
    (of-images (λ x. page_named a x.owner ≡ x.page) (part_publication a.parts) (below (length a.parts)) (λ p. refl))

owners-of-each : (f : ℕ → Publication) (ns : List ℕ) → owners_of (map f ns) ≡ map (λ n. (f n).owner) ns
owners-of-each f [] = refl
owners-of-each f (n ∷ ns) = ap (λ (os : List Owner). (f n).owner ∷ os) (owners-of-each f ns)

-- the owners are those of the layout
pub named-owners : {K : ℕ} (always : List (Option (List ℕ))) (a : Area) (L : Layout K) (t : Table) → AreaHolds always a L t → owners_of (named_publications a) ≡ in_order (owners L)
named-owners always a L t holds =
    map-append (λ (x : Publication). x.owner) (map (bucket_publication a.table) (numbers_of a.table)) (map (part_publication a.parts) (below (length a.parts)))
    ∙ (λ i. owners-of-each (bucket_publication a.table) (numbers_of a.table) i ++ owners-of-each (part_publication a.parts) (below (length a.parts)) i)
    ∙ (λ i. map Bucket (sym holds.numbers i) ++ map Part (below (holds.directory i)))
