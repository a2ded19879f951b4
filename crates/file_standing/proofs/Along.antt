-- A lone caller's state behind updates that may be taken: its table, its layout and its front are those that the updates make.
use Rattle.std.proofs.Common.{◌≡◌, ◌≤◌, ◌+◌, ◌++◌, inl, inr, ℕ, zero, suc, true, List, [], ◌∷◌, length, fold, slice_index, nat_le, Option, Some, None, IsSome, refl, sym, ap, subst, ◌∙◌, arith, true≢false}
use Rattle.std.specs.Option.{option_map_or}
use Rattle.std.proofs.lemmas.Bool.{cases_lt}
use Rattle.std.proofs.lemmas.List.{length-append}
use Rattle.std.proofs.lemmas.List.Sums.{fold-append}
use Rattle.std.proofs.lemmas.Grind.{flat_map-append}
use lib.Pointwise.{pointwise}
use Rattle.grid_types.specs.declared.layout_change.LayoutChange.{LayoutChange}
use Rattle.grid_types.specs.declared.layout_change.LayoutChange.TheVariants as note
use Rattle.grid_types.specs.declared.layout_change.LoggedUpdate.{LoggedUpdate}
use Rattle.grid_types.specs.declared.region.Region.{Region}
use Rattle.grid_types.specs.declared.shape.Shape.{Shape}
use Rattle.grid_types.specs.declared.update.Update.{Update}
use Rattle.grid_types.specs.declared.update.Update.TheVariants.{Put, Remove}
use Rattle.grid_types.specs.Keys.{IsKey}
use Rattle.grid_types.specs.Regions.{contains, IsRegion}
use Rattle.grid_types.proofs.Numbers.{second, each-at-most, as-long}
use Rattle.grid_model.specs.Cells.{parts}
use Rattle.grid_model.specs.Tables.{Table, IsData, get}
use Rattle.grid_model.specs.Layouts.{BucketBox, Layout, holder}
use Rattle.grid_model.specs.LayoutLaws.{StandsOver}
use Rattle.grid_model.specs.LoneLaws.{IsState}
use Rattle.grid_model.specs.Notes.{updated_key, after_note_at, IsLawfulNote}
use Rattle.grid_model.specs.Lone.{State, opened, published, free, how_many, renewed, dropped, among, outside}
use Rattle.grid_model.specs.Images.{redo, logged_effect, layout_after, MayRedo, MayRedoAll}
use Rattle.grid_model.specs.Roots.{WholeRoot}
use Rattle.grid_model.specs.Spellings.{LoggedBatch, update_data}
use Rattle.grid_model.proofs.Holders.{after-there}
use Rattle.grid_model.proofs.LayoutKept.{PutBox, put-box}
use Rattle.grid_model.proofs.LeastUnused.{least-unused}
use Rattle.grid_model.proofs.Merged.{lawful-merge}
use Rattle.grid_model.proofs.States.{opened-state, published-state}
use Rattle.grid_model.proofs.Together.{sound-layouts}
use Rattle.file_images.specs.Kept.{Kept}
use Rattle.file_images.specs.Leads.{Standing, Chain, Lineage, and_then, updates_in, LeadsAlong}
use Rattle.file_standing.specs.Files.{state_along}
use Rattle.file_standing.proofs.Blank.{blank, bare_update, bare-key, effect-bare, stands-bare, lawful-bare}

-- past the end of a list of numbers there is 0
past-end : (xs : List ℕ) (a : ℕ) → length xs ≤ a → slice_index xs a ≡ 0
past-end [] a h = refl
past-end (x ∷ xs) zero h = absurd (omega (arith, h))
past-end (x ∷ xs) (suc a) h = past-end xs a (omega (arith, h))

-- a key that a region contains is one
contained-key : {K : ℕ} (r : Region K) (k : List ℕ) → IsRegion K r → contains r k ≡ true → IsKey K k
contained-key {K} r k region has =
    let up : pointwise nat_le k r.hi ≡ true = second (pointwise nat_le r.lo k) (pointwise nat_le k r.hi) has in
    record {
      count = as-long k r.hi up ∙ region.high.count;
      in_range = λ a. elim (cases_lt a (length k)) [
        | inl low ↦ omega (arith, each-at-most k r.hi a up low, region.high.in_range a)
        | inr high ↦ omega (arith, past-end k a high)
      ];
    }

-- a box of a layout has the key
pub record IsHeld {K : ℕ} (L : Layout K) (k : List ℕ) : Type 0 where
  pub box : ℕ × BucketBox K
  pub holds : holder L k ≡ Some box
  pub key : IsKey K k

module _ {K : ℕ} (shape : Shape) (L : Layout K) (t : Table) (stands : StandsOver shape L t) where
  key-held : (k : List ℕ) → IsSome (get t k) → IsHeld L k
  key-held k there = by (get t k) refl there
    where
      at : IsKey K k → (o : Option (ℕ × BucketBox K)) → holder L k ≡ o → IsSome o → IsHeld L k
      at key None e some = absurd (true≢false (sym some))
      at key (Some x) e some = record { box = x; holds = e; key = key }

      by : (o : Option (List ℕ)) → get t k ≡ o → IsSome o → IsHeld L k
      by None e some = absurd (true≢false (sym some))
      by (Some d) e some = let key = stands.keys k d e in at key (holder L k) refl (stands.sound.covers k key)

  -- the box of an update with a lawful note
  lawful-held : (u : Update K) (n : LayoutChange) → IsLawfulNote shape L t u n → IsHeld L (updated_key u)
  lawful-held (Put r) n is =
      let p : PutBox shape L t r.key.numbers n = put-box shape L t r.key.numbers n stands is in
      record { box = (p.number, p.here); holds = p.held; key = contained-key p.here.region r.key.numbers (stands.sound.regions p.number p.here p.there) p.has }
  lawful-held (Remove k) n is = key-held k.numbers is.0

bare-value : {K : ℕ} (u : Update K) → IsData (update_data (bare_update u))
bare-value (Put r) = omega arith
bare-value (Remove k) = omega arith

-- a change renews a page at least
some-renewed : {K : ℕ} (L : Layout K) (e : ℕ × BucketBox K) (n : LayoutChange) → 1 ≤ how_many (renewed L e n)
unfolding renewed
some-renewed L e note.Plain = omega arith
some-renewed L e (note.Cut c right) = omega arith
some-renewed L e (note.Merge m) = omega arith

-- a state without the data of its table
abbrev blank_state : {K : ℕ} → State K → State K
blank_state s = record s { table = blank s.table }

published-bare : {K : ℕ} (s : State K) (e : ℕ × BucketBox K) (u : Update K) (n : LayoutChange) → published e (bare_update u) n (blank_state s) ≡ blank_state (published e u n s)
unfolding published
published-bare s e u n = λ i. record {
  table = effect-bare s.table u i;
  layout = after_note_at s.layout e n;
  front = s.front + 1;
  rooted = outside (dropped s.layout e n) s.rooted;
  kept = s.kept + how_many (among (dropped s.layout e n) s.rooted);
  used = s.used + 1;
}

-- the layout of a state stands, whatever the data of its table, and it is a state where its pages fit
pub record IsBlankState {K : ℕ} (shape : Shape) (s : State K) : Type 0 where
  pub stands : StandsOver shape s.layout (blank s.table)
  pub fits : length s.layout.boxes + parts s.layout.scales + s.kept ≤ shape.pages → IsState shape (blank_state s)

module _ {K : ℕ} (shape : Shape) where
  opened-blank : (t : Table) (L : Layout K) (n : ℕ) → StandsOver shape L t → IsBlankState shape (opened t L n)
  opened-blank t L n stands = let bare = stands-bare shape L t stands in record { stands = bare; fits = λ f. opened-state shape (blank t) L n bare (omega (arith, f)) }

  module _ (s : State K) (u : Update K) (n : LayoutChange) (is : IsBlankState shape s) (lawful : IsLawfulNote shape s.layout s.table u n) where
    bare-held : IsHeld s.layout (updated_key (bare_update u))
    bare-held = lawful-held shape s.layout (blank s.table) is.stands (bare_update u) n (lawful-bare shape s.layout s.table u n lawful)

    -- an update that may be taken finds its box
    box-found : holder s.layout (updated_key u) ≡ Some bare-held.box
    box-found = ap (holder s.layout) (sym (bare-key u)) ∙ bare-held.holds

    published-blank : how_many (renewed s.layout bare-held.box n) ≤ free shape s → IsBlankState shape (published bare-held.box u n s)
    unfolding published
    published-blank room =
        let next : IsState shape (blank_state (published bare-held.box u n s)) =
        subst (λ (v : State K). IsState shape v) (published-bare s bare-held.box u n)
        (published-state shape sound-layouts least-unused (record { merge = lawful-merge }) (blank_state s) bare-held.box (bare_update u) n (is.fits (omega (arith, room, some-renewed s.layout bare-held.box n)))
        (record { key = bare-held.key; value = bare-value u }) bare-held.holds (lawful-bare shape s.layout s.table u n lawful) room) in
        record { stands = next.stands; fits = λ f. next }

-- the state after some updates has the table and the layout that they make, and its front is as many places later
pub record IsRedone {K : ℕ} (s : State K) (us : List (LoggedUpdate K)) : Type 0 where
  pub table : (fold redo s us).table ≡ fold logged_effect s.table us
  pub layout : (fold redo s us).layout ≡ layout_after s.layout us
  pub front : (fold redo s us).front ≡ s.front + length us

pub redone : {K : ℕ} (shape : Shape) (us : List (LoggedUpdate K)) (s : State K) → IsBlankState shape s → MayRedoAll shape s us → IsRedone s us
unfolding published layout_after
redone shape [] s is may = record { table = refl; layout = refl; front = omega arith }
redone {K} shape (u ∷ us) s is (may, rest) =
    let e : ℕ × BucketBox K = (bare-held shape s u.update u.note is may.lawful).box in
    let found : holder s.layout (updated_key u.update) ≡ Some e = box-found shape s u.update u.note is may.lawful in
    let next : redo s u ≡ published e u.update u.note s = ap (λ (o : Option (ℕ × BucketBox K)). option_map_or (λ x. published x u.update u.note s) o s) found in
    let later : IsRedone (published e u.update u.note s) us = redone shape us (published e u.update u.note s) (published-blank shape s u.update u.note is may.lawful (may.pages e found)) (subst (λ (t : State K). MayRedoAll shape t us) next rest) in
    record {
      table = ap (λ (t : State K). (fold redo t us).table) next ∙ later.table;
      layout = ap (λ (t : State K). (fold redo t us).layout) next ∙ later.layout ∙ ap (λ (M : Layout K). layout_after M us) (sym (after-there s.layout (updated_key u.update) e u.note found));
      front = omega (arith, ap (λ (t : State K). (fold redo t us).front) next, later.front);
    }

-- a chain is as long as its updates
chain-total : {K : ℕ} (from to : ℕ) (bs : List (LoggedBatch K)) → Chain from bs to → to ≡ from + length (updates_in bs)
chain-total from to [] chain = omega (arith, chain)
chain-total from to (b ∷ bs) chain = omega (arith, chain-total (from + length b.updates) to bs chain.2, length-append b.updates (updates_in bs))

-- a lone caller's state has the table and the layout of a standing, at its place
pub record IsAt {K : ℕ} (s : State K) (m : Standing K) : Type 0 where
  pub table : s.table ≡ m.table
  pub layout : s.layout ≡ m.layout
  pub front : s.front ≡ m.place

-- so has the state behind a lineage along which a root leads there
pub at-standing : {K : ℕ} (k : Kept K) (w : WholeRoot) (m : Standing K) (x : Lineage K) → LeadsAlong k w m x → IsAt (state_along w x) m
at-standing k w m x c =
    let r = redone k.shape (updates_in x.taken) (opened x.table x.layout w.fields.front) (opened-blank k.shape x.table x.layout w.fields.front c.holds.stands) c.may in
    record { table = r.table ∙ sym c.makes_table; layout = r.layout ∙ sym c.makes_layout; front = r.front ∙ sym (chain-total w.fields.front m.place x.taken c.chain) }

-- one more update may be taken where it may be behind the others
may-more : {K : ℕ} (shape : Shape) (us : List (LoggedUpdate K)) (s : State K) (u : LoggedUpdate K) → MayRedoAll shape s us → MayRedo shape (fold redo s us) u → MayRedoAll shape s (us ++ u ∷ [])
may-more shape [] s u may more = (more, tt)
may-more shape (v ∷ us) s u (may, rest) more = (may, may-more shape us (redo s v) u rest more)

module _ {K : ℕ} (w : WholeRoot) (x : Lineage K) (d : LoggedBatch K) (u : LoggedUpdate K) (one : d.updates ≡ u ∷ []) where
  one-more-update : updates_in (x.taken ++ d ∷ []) ≡ updates_in x.taken ++ u ∷ []
  one-more-update = flat_map-append (λ (b : LoggedBatch K). b.updates) x.taken (d ∷ []) ∙ ap (λ (us : List (LoggedUpdate K)). updates_in x.taken ++ (us ++ [])) one

  -- a batch of one update may be taken where its update may be
  pub may-follow : (shape : Shape) → MayRedoAll shape (opened x.table x.layout w.fields.front) (updates_in x.taken) → MayRedo shape (state_along w x) u → MayRedoAll shape (opened x.table x.layout w.fields.front) (updates_in (x.taken ++ d ∷ []))
  may-follow shape may more =
      subst (λ (us : List (LoggedUpdate K)). MayRedoAll shape (opened x.table x.layout w.fields.front) us) (sym one-more-update) (may-more shape (updates_in x.taken) (opened x.table x.layout w.fields.front) u may more)

  -- the state behind it is the one in which the update stands at the next place
  pub state-more : (e : ℕ × BucketBox K) → holder (state_along w x).layout (updated_key u.update) ≡ Some e → state_along w (and_then x d) ≡ published e u.update u.note (state_along w x)
  state-more e found =
      ap (fold redo (opened x.table x.layout w.fields.front)) one-more-update
      ∙ fold-append redo (opened x.table x.layout w.fields.front) (updates_in x.taken) (u ∷ [])
      ∙ ap (λ (o : Option (ℕ × BucketBox K)). option_map_or (λ y. published y u.update u.note (state_along w x)) o (state_along w x)) found
