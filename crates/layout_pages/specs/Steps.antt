-- What becomes of the states of data pages when a file is opened, when a change is published, and when pages are swept.
use Rattle.std.specs.Prelude.{ℕ, false, List, [], ◌∷◌, ◌++◌, map, filter, length, max, min, replicate, slice_get, slice_index}
use Rattle.std.specs.Option.{option_map_or}
use Rattle.grid_types.specs.declared.layout_change.LayoutChange.{LayoutChange}
use Rattle.grid_types.specs.declared.layout_change.LayoutChange.TheVariants as note
use Rattle.grid_types.specs.declared.owner.Owner.{Owner}
use Rattle.grid_types.specs.declared.owner.Owner.TheVariants.{Bucket, Part}
use Rattle.grid_model.specs.Lists.{below}
use Rattle.grid_model.specs.Lawful.{Area}
use Rattle.grid_model.specs.Images.{numbers_of}
use Rattle.page_states.specs.declared.page_state.PageState.{PageState}
use Rattle.page_states.specs.declared.page_state.PageState.TheVariants.{Free}
use Rattle.page_states.specs.Effects.{is_gone}
use Rattle.page_states.specs.Changes.{Publication, all_published, changed}

-- the page that a bucket table has for a number
abbrev pub bucket_publication : List ℕ → ℕ → Publication
bucket_publication table n = record { page = slice_index table n; owner = Bucket n }

-- the page that a list of the directory has for a part
abbrev pub part_publication : List ℕ → ℕ → Publication
part_publication parts p = record { page = slice_index parts p; owner = Part p }

-- the data pages that a table area names, each with its owner: those of the buckets, then those of the directory parts
abbrev pub named_publications : Area → List Publication
named_publications a = map (bucket_publication a.table) (numbers_of a.table) ++ map (part_publication a.parts) (below (length a.parts))

-- the states of so many data pages where those that a table area names are current from a place on, and all others are free
unfoldable pub opened_states : ℕ → ℕ → Area → List PageState
opened_states pages front a = all_published front (named_publications a) (replicate pages Free)

-- owners with the pages that they get, each in its place
abbrev pub publications : List Owner → List ℕ → List Publication
publications [] pages = []
publications (o ∷ os) [] = []
publications (o ∷ os) (p ∷ ps) = record { page = p; owner = o } ∷ publications os ps

-- the numbers of the buckets that get a new page by a change of a bucket
abbrev pub buckets_renewed : ℕ → LayoutChange → List ℕ
buckets_renewed b note.Plain = b ∷ []
buckets_renewed b (note.Cut c right) = b ∷ right ∷ []
buckets_renewed b (note.Merge m) = min b m ∷ []

-- the owners that get a new page by a change of a bucket that renews these directory parts, in the order in which their pages are written
abbrev pub owners_renewed : ℕ → LayoutChange → List ℕ → List Owner
owners_renewed b n parts = map Bucket (buckets_renewed b n) ++ map Part parts

-- the owners who vanish by a change of a bucket: of two that are joined the one of the higher number
abbrev pub owners_vanishing : ℕ → LayoutChange → List Owner
owners_vanishing b note.Plain = []
owners_vanishing b (note.Cut c right) = []
owners_vanishing b (note.Merge m) = Bucket (max b m) ∷ []

-- the states after a change of a bucket that renews these directory parts: each owner that it renews has the page of its place in the list from this place on, and those who vanish have none
unfoldable pub published_states : ℕ → ℕ → LayoutChange → List ℕ → List ℕ → List PageState → List PageState
published_states at b n parts pages states = changed at (publications (owners_renewed b n parts) pages) (owners_vanishing b n) states

-- the pages that a sweep frees which keeps what is current at these places
abbrev pub gone_pages : List ℕ → List PageState → List ℕ
gone_pages places states = filter (λ p. option_map_or (is_gone places) (slice_get states p) false) (below (length states))
