-- How many old parts are read, along the parts of a change.
use Rattle.std.proofs.Common.{◌≡◌, ◌≤◌, ◌+◌, ◌++◌, ◌∷◌, [], ℕ, List, length, flat_map, Option, Some, None, refl, sym, ap, ◌∙◌, arith}
use Rattle.std.specs.Prelude.{Result, Ok, Err, OnOk, IsErrAnd}
use Rattle.grid_types.specs.declared.refusal.Refusal.{Refusal}
use Rattle.grid_types.specs.Shapes.{word_pages}
use Rattle.grid_model.specs.Lists.{below, product}
use Rattle.directory_changes.specs.Changes.{grown, parts_of_box, parts_changed}
use Rattle.directory_changes.specs.declared.change.DirectoryChange.{DirectoryChange}
use Rattle.directory_changes.specs.declared.change.DirectoryChange.TheVariants.{Nothing, Patch, Grow}
use Rattle.shadow_directory.specs.Pages.{Ticks}
use Rattle.shadow_directory.specs.Reads.{sources, readings, last_held, page_reads, part_reads, held_after}
use Rattle.shadow_directory.proofs.Faults.{err-not-ok}

-- the first part, and those behind it
pub read-next : (held : Option ℕ) (part : ℕ) (parts : List ℕ) → readings held (part ∷ parts) ≡ readings held (part ∷ []) + readings (Some part) parts
read-next held part parts = omega arith

-- parts in front, and those behind them
readings-behind : (held : Option ℕ) (xs ys : List ℕ) → readings held (xs ++ ys) ≡ readings held xs + readings (last_held held xs) ys
readings-behind held [] ys = omega arith
readings-behind held (x ∷ xs) ys = omega (arith, readings-behind (Some x) xs ys)

module _ {K : ℕ} (ns : List ℕ) (change : DirectoryChange K) where
  -- how many pages are read for these parts, and what the buffer holds behind them
  abbrev pub reads_along : Option ℕ → List ℕ → ℕ
  reads_along held [] = 0
  reads_along held (p ∷ ps) = part_reads ns change held p + reads_along (held_after ns change held p) ps

  abbrev pub held_along : Option ℕ → List ℕ → Option ℕ
  held_along held [] = held
  held_along held (p ∷ ps) = held_along (held_after ns change held p) ps

  pub along-behind : (held : Option ℕ) (ps qs : List ℕ) → reads_along held (ps ++ qs) ≡ reads_along held ps + reads_along (held_along held ps) qs
  along-behind held [] qs = omega arith
  along-behind held (p ∷ ps) qs = omega (arith, along-behind (held_after ns change held p) ps qs)

  -- one part more
  pub along-more : (held : Option ℕ) (ps : List ℕ) (p : ℕ) → reads_along held (ps ++ p ∷ []) ≡ reads_along held ps + part_reads ns change (held_along held ps) p
  along-more held ps p = omega (arith, along-behind held ps (p ∷ []))

  -- those behind a part read more at most
  pub along-so-far : (held : Option ℕ) (ps : List ℕ) (p : ℕ) (rest : List ℕ) → reads_along held ps + part_reads ns change (held_along held ps) p ≤ reads_along held (ps ++ p ∷ rest)
  along-so-far held ps p rest = omega (arith, along-behind held ps (p ∷ rest))

  pub held-behind : (held : Option ℕ) (ps : List ℕ) (p : ℕ) → held_along held (ps ++ p ∷ []) ≡ held_after ns change (held_along held ps) p
  held-behind held [] p = refl
  held-behind held (q ∷ ps) p = held-behind (held_after ns change held q) ps p

-- a patch reads one page for each part
along-patch : {K : ℕ} (ns : List ℕ) (change : DirectoryChange K) → ((held : Option ℕ) (p : ℕ) → part_reads ns change held p ≡ 1) → (held : Option ℕ) (ps : List ℕ) → reads_along ns change held ps ≡ length ps
along-patch ns change one held [] = refl
along-patch ns change one held (p ∷ ps) = omega (arith, one held p, along-patch ns change one (held_after ns change held p) ps)

-- a growth reads the parts that each part's cells come from
along-growth : {K : ℕ} (ns : List ℕ) (change : DirectoryChange K) (a i : ℕ) → ((held : Option ℕ) (p : ℕ) → part_reads ns change held p ≡ readings held (sources ns a i p)) → ((held : Option ℕ) (p : ℕ) → held_after ns change held p ≡ last_held held (sources ns a i p))
    → (held : Option ℕ) (ps : List ℕ) → reads_along ns change held ps ≡ readings held (flat_map (sources ns a i) ps)
along-growth ns change a i some last held [] = refl
along-growth ns change a i some last held (p ∷ ps) =
    (λ j. some held p j + reads_along ns change (last held p j) ps)
    ∙ ap (λ n. readings held (sources ns a i p) + n) (along-growth ns change a i some last (last_held held (sources ns a i p)) ps)
    ∙ sym (readings-behind held (sources ns a i p) (flat_map (sources ns a i) ps))

-- along all parts of a change they are the pages that it reads
pub reads-all : {K : ℕ} (ns : List ℕ) (change : DirectoryChange K) → reads_along ns change None (parts_changed ns change) ≡ page_reads ns change
unfolding parts_changed page_reads
reads-all ns Nothing = refl
reads-all ns (Patch b x) = along-patch ns (Patch b x) (λ held p. refl) None (parts_of_box ns b)
reads-all ns (Grow a i b x) = along-growth ns (Grow a i b x) a i (λ held p. refl) (λ held p. refl) None (below (word_pages (product (grown ns a))))

-- a call is done after so many steps
pub ticks-done : {T E : Type 0} (count before now : ℕ) (r : Result T E) → now ≡ before + count → Ticks count before now r
ticks-done {T} {E} count before now r e = record { all = on-any r; least = omega (arith, e); most = omega (arith, e) }
  where
    on-any : (r : Result T E) → OnOk r (now ≡ before + count)
    on-any (Ok v) = e
    on-any (Err y) = tt

-- it has failed after at most as many
pub ticks-failed : {T : Type 0} (count before now : ℕ) (r : Result T Refusal) (e : Refusal) → IsErrAnd r (λ y. y ≡ e) → before ≤ now → now ≤ before + count → Ticks count before now r
ticks-failed count before now r e goes low high = record { all = err-not-ok r e (now ≡ before + count) goes; least = low; most = high }
