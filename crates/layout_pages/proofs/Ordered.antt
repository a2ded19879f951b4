-- Which owners are among some, in the order in which they are written.
use Rattle.std.proofs.Common.{◌≡◌, ◌||◌, ℕ, zero, suc, Bool, true, false, cond, List, [], ◌∷◌, map, Option, Some, refl, sym, ap, ◌∙◌}
use Rattle.std.specs.Prelude.{slice_get}
use Rattle.std.specs.List.{list_any}
use Rattle.std.proofs.lemmas.Bool.{or_left, or_right}
use Rattle.std.proofs.lemmas.List.Folds.{list_any-append}
use Rattle.std.proofs.lemmas.Option.{same_Some}
use Rattle.grid_types.specs.declared.owner.Owner.{Owner}
use Rattle.grid_types.specs.declared.owner.Owner.TheVariants.{Bucket, Part}
use Rattle.grid_types.specs.Owners.{same_owner}
use Rattle.grid_model.specs.Lists.{is_among}
use Rattle.grid_model.specs.Lone.{Owners}
use Rattle.grid_model.proofs.Counts.{swap-eq}
use Rattle.history_pages.specs.NewPages.{in_order}
use Rattle.history_pages.specs.OwnerPages.{has_owner}
use Rattle.page_states.specs.Changes.{Publication, with_pages}
use Rattle.page_states.specs.Laws.{with_content}
use Rattle.page_states.proofs.Endings.{same_owner_is, same_owner_refl}

-- an owner is one of these
abbrev pub is_one_of : List Owner → Owner → Bool
is_one_of os o = list_any (λ w. same_owner o w) os

bucket-of : (ns : List ℕ) (n : ℕ) → is_one_of (map Bucket ns) (Bucket n) ≡ is_among ns n
bucket-of [] n = refl
bucket-of (m ∷ ns) n = λ i. swap-eq n m i || bucket-of ns n i

no-bucket : (ns : List ℕ) (p : ℕ) → is_one_of (map Bucket ns) (Part p) ≡ false
no-bucket [] p = refl
no-bucket (m ∷ ns) p = no-bucket ns p

part-of : (ns : List ℕ) (p : ℕ) → is_one_of (map Part ns) (Part p) ≡ is_among ns p
part-of [] p = refl
part-of (m ∷ ns) p = λ i. swap-eq p m i || part-of ns p i

no-part : (ns : List ℕ) (n : ℕ) → is_one_of (map Part ns) (Bucket n) ≡ false
no-part [] n = refl
no-part (m ∷ ns) n = no-part ns n

or-none : (b : Bool) → (b || false) ≡ b
or-none true = refl
or-none false = refl

-- the owners in their order are those that there are
pub ordered-has : (these : Owners) (o : Owner) → is_one_of (in_order these) o ≡ has_owner these o
ordered-has these (Bucket n) =
    list_any-append (λ w. same_owner (Bucket n) w) (map Bucket these.buckets) (map Part these.parts)
    ∙ ap (λ (b : Bool). is_one_of (map Bucket these.buckets) (Bucket n) || b) (no-part these.parts n) ∙ or-none (is_one_of (map Bucket these.buckets) (Bucket n)) ∙ bucket-of these.buckets n
ordered-has these (Part p) =
    list_any-append (λ w. same_owner (Part p) w) (map Bucket these.buckets) (map Part these.parts)
    ∙ ap (λ (b : Bool). b || is_one_of (map Part these.parts) (Part p)) (no-bucket these.buckets p) ∙ part-of these.parts p

-- an owner at an index is one of all
pub one-at : (os : List Owner) (i : ℕ) (o : Owner) → slice_get os i ≡ Some o → is_one_of os o ≡ true
one-at [] i o has = absurd (cc)
one-at (w ∷ os) zero o has = or_left (same_owner o w) (is_one_of os o) (ap (same_owner o) (same_Some w o has) ∙ same_owner_refl o)
one-at (w ∷ os) (suc i) o has = or_right (same_owner o w) (is_one_of os o) (one-at os i o has)

-- the owners of publications
abbrev pub owners_of : List Publication → List Owner
owners_of xs = map (λ x. x.owner) xs

module _ (bytes : ℕ → List ℕ) (page : Owner → Option (List ℕ)) where
  -- each published page has the bytes of its owner's page
  abbrev pub ArePages : List Publication → Type 0
  ArePages xs = (i : ℕ) (x : Publication) → slice_get xs i ≡ Some x → Some (bytes x.page) ≡ page x.owner

  -- then the owners of publications have their pages, and the others what they had
  pub with-their-pages : (content : Owner → Option (List ℕ)) (xs : List Publication) → ArePages xs → (o : Owner) → with_pages content bytes xs o ≡ cond (is_one_of (owners_of xs) o) (page o) (content o)
  with-their-pages content [] each o = refl
  with-their-pages content (x ∷ xs) each o =
      with-their-pages (with_content content x.owner (Some (bytes x.page))) xs (λ i y has. each (suc i) y has) o ∙ by (same_owner o x.owner) (is_one_of (owners_of xs) o) refl
    where
      by : (s m : Bool) → same_owner o x.owner ≡ s → cond m (page o) (cond s (Some (bytes x.page)) (content o)) ≡ cond (s || m) (page o) (content o)
      by true true e = refl
      by true false e = each 0 x refl ∙ ap page (sym (same_owner_is o x.owner e))
      by false m e = refl
