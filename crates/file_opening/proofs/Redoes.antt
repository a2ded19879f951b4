-- The redo of some updates behind that of others.
use Rattle.std.proofs.Common.{◌≡◌, ◌<◌, ◌≤◌, ◌+◌, ℕ, List, [], ◌∷◌, ◌++◌, IsTrue, refl, sym, ap, subst, ◌∙◌, map, length, get_or, drop, arith}
use Rattle.std.proofs.lemmas.List.{at_drop_more, at_drop_all, get_or-map, length-append, length-map}
use Rattle.std.specs.Prelude.{All, Contains}
use Rattle.std.proofs.lemmas.List.Elements.{All-get_or, Contains-get_or}
use Rattle.grid_types.specs.declared.layout_change.LoggedUpdate.{LoggedUpdate}
use Rattle.disk_trait.specs.declared.disk.Disk.{Ghosts}
use Rattle.disk_trait.proofs.Moments.{started}
use Rattle.grid_model.specs.Lawful.{IsLoggedUpdate, IsUpdateOf}
use Rattle.grid_model.specs.Spellings.{LoggedBatch}
use Rattle.journal_slots.specs.declared.batch.Batch.{Batch}
use Rattle.journal_slots.specs.Batches.{batch_of}
use Rattle.journal_slots.specs.Scans.{IsLawfulOf, AreLawfulOf}
use Rattle.checkpoints.proofs.Standing.{standing-then}
use Rattle.file_images.specs.Leads.{Standing, updates_in}
use Rattle.file_images.specs.Shows.{Shows}
use Rattle.file_standing.specs.Open.{StaysStanding}
use Rattle.grid_file.specs.Files.{OpenFile}
use Rattle.file_opening.specs.Redoing.{IsFirstOf}
use Rattle.file_opening.specs.UnderWay.{IsUnderWay}
use Rattle.file_opening.proofs.Redone.{shown-stands}

-- of a file that is opened the first of all updates that are left are redone up to the rest, and at each moment a crash leaves where all leads
pub record Redoes {K : ℕ} {D : Type 0} (g : Ghosts D) (old new : OpenFile D) (all rest : List (LoggedUpdate K)) : Type 0 where
  pub goes : IsTrue (g.honest old.disk) → (m : Standing K) → IsUnderWay g old.books old.disk m all → IsUnderWay g new.books new.disk m rest
  pub stays : (m : Standing K) → IsUnderWay g old.books old.disk m all → StaysStanding g m old.disk new.disk

module _ {K : ℕ} {D : Type 0} {g : Ghosts D} where
  -- what a call leaves behind those that are redone
  pub stays-then : {a b : OpenFile D} (c : OpenFile D) {all rest : List (LoggedUpdate K)} → Redoes g a b all rest → g.honest b.disk ≡ g.honest a.disk → ((m : Standing K) → IsUnderWay g b.books b.disk m rest → StaysStanding g m b.disk c.disk)
      → (m : Standing K) → IsUnderWay g a.books a.disk m all → StaysStanding g m a.disk c.disk
  stays-then c first same second m w told = standing-then g m same (first.stays m w) (second m (first.goes told m w)) told

  -- some updates more
  pub redoes-then : {a b c : OpenFile D} {all mid rest : List (LoggedUpdate K)} → Redoes g a b all mid → g.honest b.disk ≡ g.honest a.disk → Redoes g b c mid rest → Redoes g a c all rest
  redoes-then {c = c} first same second = record {
    goes = λ told m w. second.goes (same ∙ told) m (first.goes told m w);
    stays = stays-then c first same second.stays;
  }

  -- the rest by another name
  pub redoes-to : {a b : OpenFile D} {all rest other : List (LoggedUpdate K)} → Redoes g a b all rest → rest ≡ other → Redoes g a b all other
  redoes-to {a} {b} {all} first same = subst (λ us. Redoes g a b all us) same first

  -- before the first of them nothing is redone
  pub redoes-none : {a : OpenFile D} (all : List (LoggedUpdate K)) → ((c : List ℕ) → IsTrue (g.honest a.disk) → g.left_since a.disk (g.moment a.disk) c → g.may_leave a.disk c) → Redoes g a a all all
  redoes-none {a} all law = record {
    goes = λ told m w. w;
    stays = λ m w. shown-stands g a.books a.disk a.disk m all w (λ told. started g.moment g.left_since a.disk (Shows w.kept) (λ c left. w.meets.crash told c (law c told left)));
  }

-- the updates from one on are it and those behind it
pub from-update : {K : ℕ} (updates rest : List (LoggedUpdate K)) (i : ℕ) (u : LoggedUpdate K) → i < length updates → u ≡ get_or updates i u → drop i updates ++ rest ≡ u ∷ (drop (i + 1) updates ++ rest)
from-update updates rest i u low is =
    ap (λ xs. xs ++ rest) (at_drop_more (λ xs. xs) updates i u low) ∙ ap (λ x. x ∷ (drop (i + 1) updates ++ rest)) (sym is)

-- behind the last none is left
pub behind-updates : {K : ℕ} (updates rest : List (LoggedUpdate K)) (i : ℕ) → length updates ≤ i → drop i updates ++ rest ≡ rest
behind-updates updates rest i all = ap (λ xs. xs ++ rest) (at_drop_all (λ xs. xs) updates i all)

-- an update among lawful ones is lawful
pub lawful-update : {K : ℕ} (updates : List (LoggedUpdate K)) (i : ℕ) (u : LoggedUpdate K) → i < length updates → u ≡ get_or updates i u → All IsLoggedUpdate updates → IsUpdateOf K u.update
lawful-update updates i u low is all =
    let lawful : IsLoggedUpdate u = subst IsLoggedUpdate (sym is) (All-get_or IsLoggedUpdate updates i u low all) in
    lawful.update

-- where a batch stands among those that are taken, with its updates
module _ {K : ℕ} (items : List (Batch K)) (taken : List (LoggedBatch K)) (same : map batch_of items ≡ taken) (i : ℕ) (b : Batch K) (low : i < length items) (is : b ≡ get_or items i b) (updates : List (LoggedUpdate K)) (are : updates ≡ b.updates.items) where
  low-among : i < length (map batch_of items)
  low-among = omega (arith, low, length-map items batch_of)

  element-is : get_or (map batch_of items) i (batch_of b) ≡ batch_of b
  element-is = get_or-map batch_of items i b (batch_of b) low ∙ ap batch_of (sym is)

  -- the updates of the batches from it on are its own and those of the batches behind it
  pub from-batch : updates_in (drop i taken) ≡ updates ++ updates_in (drop (i + 1) taken)
  from-batch = subst (λ (bs : List (LoggedBatch K)). updates_in (drop i bs) ≡ updates ++ updates_in (drop (i + 1) bs)) same
      (at_drop_more updates_in (map batch_of items) i (batch_of b) low-among ∙ ap (λ (x : LoggedBatch K). x.updates ++ updates_in (drop (i + 1) (map batch_of items))) element-is ∙ ap (λ us. us ++ updates_in (drop (i + 1) (map batch_of items))) (sym are))

  -- they are as many together
  pub count-batch : length (updates_in (drop i taken)) ≡ length updates + length (updates_in (drop (i + 1) taken))
  count-batch = ap (λ us. length us) from-batch ∙ length-append updates (updates_in (drop (i + 1) taken))

  -- and its updates are lawful where all batches are
  pub lawful-updates : (session : ℕ) → AreLawfulOf session taken → All IsLoggedUpdate updates
  lawful-updates session all =
      let lawful : IsLawfulOf session (batch_of b) = subst (IsLawfulOf session) element-is (All-get_or (IsLawfulOf session) (map batch_of items) i (batch_of b) low-among (subst (AreLawfulOf session) (sym same) all)) in
      subst (λ us. All IsLoggedUpdate us) (sym are) lawful.lawful.updates

  -- so its place is that of one of them
  pub first-of : IsFirstOf taken b.first
  first-of = record {
    batch = batch_of b;
    among = subst (λ (z : List (LoggedBatch K) × LoggedBatch K). Contains z.0 z.1) (λ j. (same j, element-is j)) (Contains-get_or (map batch_of items) i (batch_of b) low-among);
    first_is = refl;
  }

-- behind the last batch no update is left
pub behind-batches : {K : ℕ} (items : List (Batch K)) (taken : List (LoggedBatch K)) (i : ℕ) → map batch_of items ≡ taken → length items ≤ i → updates_in (drop i taken) ≡ []
behind-batches items taken i same all = at_drop_all updates_in taken i (omega (arith, all, sym (ap (λ bs. length bs) same) ∙ length-map items batch_of))
