-- The owners of the pages of buckets.
use Rattle.std.proofs.Common.{◌≡◌, ◌<◌, ◌+◌, ◌∙◌, ◌++◌, ◌∷◌, [], ℕ, List, length, map, take, drop, get_or, sym, ap, refl}
use Rattle.std.proofs.lemmas.List.{map-append, drop_more, take-append-drop}
use Rattle.grid_types.specs.declared.owner.Owner.{Owner}
use Rattle.grid_types.specs.declared.owner.Owner.TheVariants.{Bucket}
use Rattle.shadow_directory.specs.declared.buckets.NewBucket.{NewBucket}
use Rattle.shadow_directory.specs.NewPages.{bucket_pages}

-- the owner of a bucket's page
abbrev pub owner : NewBucket → Owner
owner b = Bucket b.number

-- the owners of the first n buckets, that of the next one, and the rest
pub owners-split : (buckets : List NewBucket) (n : ℕ) (d : NewBucket) → n < length buckets → map owner buckets ≡ map owner (take n buckets) ++ owner (get_or buckets n d) ∷ map owner (drop (n + 1) buckets)
owners-split buckets n d lt =
    ap (map owner) (sym (take-append-drop n buckets) ∙ ap (λ xs. take n buckets ++ xs) (drop_more buckets n d lt))
    ∙ map-append owner (take n buckets) (get_or buckets n d ∷ drop (n + 1) buckets)

-- the owners of their pages
pub owners-of : (buckets : List NewBucket) → map (λ w. w.0) (bucket_pages buckets) ≡ map owner buckets
owners-of [] = refl
owners-of (b ∷ buckets) = ap (λ os. owner b ∷ os) (owners-of buckets)
