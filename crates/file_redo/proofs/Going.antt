-- The next update may be redone.
use Rattle.std.proofs.Common.{◌≡◌, ◌≤◌, ◌++◌, ℕ, List, [], ◌∷◌, fold, Option, Some, sym, ap, subst, ◌∙◌, arith}
use Rattle.std.specs.List.{count_by}
use Rattle.grid_types.specs.declared.layout_change.LayoutChange.{LayoutChange}
use Rattle.grid_types.specs.declared.layout_change.LoggedUpdate.{LoggedUpdate}
use Rattle.grid_types.specs.declared.shape.Shape.{Shape}
use Rattle.grid_types.specs.declared.update.Update.{Update}
use Rattle.grid_types.specs.declared.update.Update.TheVariants.{Put, Remove}
use Rattle.grid_model.specs.Tables.{Table, get}
use Rattle.grid_model.specs.Layouts.{BucketBox, Layout, holder}
use Rattle.grid_model.specs.LayoutLaws.{StandsOver}
use Rattle.grid_model.specs.Lone.{State, opened, free, how_many, renewed}
use Rattle.grid_model.specs.Notes.{updated_key, IsLawfulNote}
use Rattle.grid_model.specs.Images.{redo, MayRedo, MayRedoAll}
use Rattle.grid_model.proofs.LayoutKept.{PutBox, put-box}
use Rattle.grid_model.proofs.States.{opened-state}
use Rattle.page_states.specs.States.{is_free, is_claimed}
use Rattle.page_states.specs.Effects.{swept}
use Rattle.layout_pages.specs.Holding.{HoldLayout}
use Rattle.layout_pages.proofs.Present.{value-of}
use Rattle.kept_pages.specs.CountLaws.{AreCounted}
use Rattle.kept_pages.proofs.FreePages.{free-count}
use Rattle.file_images.specs.Kept.{Kept}
use Rattle.file_images.specs.Leads.{Standing, Lineage}
use Rattle.file_books.specs.Books.{Books}
use Rattle.file_books.specs.Effects.{with_place, swept_books}
use Rattle.file_standing.proofs.Along.{IsAt, IsBlankState, IsRedone, redone}
use Rattle.file_standing.proofs.Blank.{blank, stands-bare}
use Rattle.file_redo.specs.Redoing.{as_read, standing_behind, state_behind, IsRedoing}
use Rattle.file_redo.specs.RedoLaws.{IsNextChange, RedoMayGoOn}

-- the box of an update with a lawful note
held-there : {K : ℕ} (shape : Shape) (L : Layout K) (t : Table) (u : Update K) (n : LayoutChange) → StandsOver shape L t → IsLawfulNote shape L t u n → (e : ℕ × BucketBox K) × (holder L (updated_key u) ≡ Some e)
held-there shape L t (Put r) n stands is =
    let p : PutBox shape L t r.key.numbers n = put-box shape L t r.key.numbers n stands is in
    ((p.number, p.here), p.held)
held-there shape L t (Remove k) n stands is =
    let d = value-of (get t k.numbers) is.0 in
    value-of (holder L k.numbers) (stands.sound.covers k.numbers (stands.keys k.numbers d.0 d.1))

-- where updates may be taken, the first of them may be, and then the others
may-first : {K : ℕ} (shape : Shape) (us vs : List (LoggedUpdate K)) (s : State K) → MayRedoAll shape s (us ++ vs) → MayRedoAll shape s us
may-first shape [] vs s may = tt
may-first shape (u ∷ us) vs s (may, rest) = (may, may-first shape us vs (redo s u) rest)

may-rest : {K : ℕ} (shape : Shape) (us vs : List (LoggedUpdate K)) (s : State K) → MayRedoAll shape s (us ++ vs) → MayRedoAll shape (fold redo s us) vs
may-rest shape [] vs s may = may
may-rest shape (u ∷ us) vs s (may, rest) = may-rest shape us vs (redo s u) rest

-- a file that was just opened stands, whatever the data of its table
opened-blank : {K : ℕ} (shape : Shape) (t : Table) (L : Layout K) (n : ℕ) → StandsOver shape L t → IsBlankState shape (opened t L n)
opened-blank shape t L n stands =
    let bare : StandsOver shape L (blank t) = stands-bare shape L t stands in
    record { stands = bare; fits = λ f. opened-state shape (blank t) L n bare (omega (arith, f)) }

module _ {K : ℕ} (b : Books) (k : Kept K) (m : Standing K) (x : Lineage K) (done rest : List (LoggedUpdate K)) (is : IsRedoing b k m x done rest) where
  abbrev pub at : Standing K
  at = standing_behind b.rooted_at x done

  abbrev pub state : State K
  state = state_behind b.rooted_at x done

  all-may : MayRedoAll b.shape (opened x.table x.layout b.rooted_at) (done ++ rest)
  all-may = subst (λ (p : Shape × ℕ × List (LoggedUpdate K)). MayRedoAll p.0 (opened x.table x.layout p.1) p.2) (λ i. (is.agree.shape i, is.agree.root i, is.parted i)) is.along.may

  -- the lone caller's state is where the redo stands
  pub state-at : IsAt state at
  state-at =
      let r : IsRedone (opened x.table x.layout b.rooted_at) done =
      redone b.shape done (opened x.table x.layout b.rooted_at) (opened-blank b.shape x.table x.layout b.rooted_at (subst (λ (s : Shape). StandsOver s x.layout x.table) is.agree.shape is.along.holds.stands))
      (may-first b.shape done rest (opened x.table x.layout b.rooted_at) all-may) in
      record { table = r.table; layout = r.layout; front = r.front }

  pub counted : AreCounted b.shape b.pages (as_read k) b.front b.rooted_at state
  counted = record {
    stands = subst (λ (p : Layout K × Table). StandsOver b.shape p.0 p.1) (λ i. (sym state-at.layout i, sym state-at.table i)) is.hold.stands;
    holds = subst (λ (p : Layout K × Table). HoldLayout b.pages (as_read k) b.front p.0 p.1) (λ i. (sym state-at.layout i, sym state-at.table i)) is.hold.holds;
    size = is.hold.size;
    counts = is.counts;
  }

  -- after a sweep where none is claimed as many pages are free as the lone caller counts
  free-counted : count_by is_claimed b.pages ≡ 0 → count_by is_free (swept_books b).pages ≡ free b.shape state
  free-counted none =
      ap (λ (o : Option ℕ). count_by is_free (swept (with_place b.rooted_at o) b.pages)) is.quiet
      ∙ free-count.exact b.shape b.pages (as_read k) b.front b.rooted_at state counted none

  rest-may : MayRedoAll b.shape state rest
  rest-may = may-rest b.shape done rest (opened x.table x.layout b.rooted_at) all-may

module _ {K : ℕ} (b : Books) (k : Kept K) (m : Standing K) (x : Lineage K) (done rest : List (LoggedUpdate K)) (u : LoggedUpdate K) (is : IsRedoing b k m x done (u ∷ rest)) where
  abbrev stand : Standing K
  stand = standing_behind b.rooted_at x done

  abbrev lone : State K
  lone = state_behind b.rooted_at x done

  lone-at : IsAt lone stand
  lone-at = state-at b k m x done (u ∷ rest) is

  may : MayRedo b.shape lone u
  may = (rest-may b k m x done (u ∷ rest) is).0

  lawful : IsLawfulNote b.shape stand.layout stand.table u.update u.note
  lawful = subst (λ (p : Layout K × Table). IsLawfulNote b.shape p.0 p.1 u.update u.note) (λ i. (lone-at.layout i, lone-at.table i)) may.lawful

  next-change : (e : ℕ × BucketBox K) × IsNextChange b x done u e
  next-change =
      let h = held-there b.shape stand.layout stand.table u.update u.note is.hold.stands lawful in
      let found : holder lone.layout (updated_key u.update) ≡ Some h.0 = ap (λ (L : Layout K). holder L (updated_key u.update)) lone-at.layout ∙ h.1 in
      let few : how_many (renewed stand.layout h.0 u.note) ≤ free b.shape lone = subst (λ (L : Layout K). how_many (renewed L h.0 u.note) ≤ free b.shape lone) lone-at.layout (may.pages h.0 found) in (
        h.0,
        record {
          change = record { stands = is.hold.stands; lawful = lawful; holds = h.1 };
          enough = λ none. omega (arith, few, free-counted b k m x done (u ∷ rest) is none);
        },
      )

pub redo-may-go-on : {K : ℕ} → RedoMayGoOn K
redo-may-go-on b k m x done rest u is = next-change b k m x done rest u is
