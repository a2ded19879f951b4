-- How the parts of an opening join.
use Rattle.std.proofs.Common.{◌≡◌, ◌≤◌, inl, inr, ℕ, List, Result, Ok, Err, length, refl, sym, ap, subst, ◌∙◌, arith}
use Rattle.std.specs.Prelude.{IsTrue, IfErr}
use Rattle.grid_types.proofs.Places.{within-limits}
use Rattle.grid_types.specs.declared.layout_change.LoggedUpdate.{LoggedUpdate}
use Rattle.grid_types.specs.declared.shape.Shape.{Shape}
use Rattle.grid_types.specs.declared.refusal.Refusal.{Refusal}
use Rattle.grid_types.specs.declared.refusal.Refusal.TheVariants as refusal
use Rattle.disk_trait.specs.declared.disk.Disk.{Ghosts}
use Rattle.disk_trait.specs.Calls.{OnlyReads, Changes, HasCauses}
use Rattle.disk_trait.specs.Disk.{Stays}
use Rattle.disk_trait.specs.Moments.{After}
use Rattle.disk_trait.proofs.Calls.{changes_read, changes_wider}
use Rattle.disk_trait.proofs.Moments.{joined, weakened}
use Rattle.shadow_directory.specs.Calls.{IsFault}
use Rattle.file_roots.specs.Refusals.{MayRefuseClosing}
use Rattle.file_books.specs.Books.{Books, AreBooksOf}
use Rattle.file_images.specs.Leads.{Standing, HasStanding}
use Rattle.file_standing.specs.Open.{StaysStanding}
use Rattle.checkpoints.specs.Disks.{KeepsLength}
use Rattle.grid_file.specs.Files.{OpenFile, opened_file}
use Rattle.file_opening.specs.declared.opened.Opened.{Opened}
use Rattle.file_opening.specs.declared.opened.Unopened.{Unopened}
use Rattle.file_opening.specs.Begun.{HasNoFault}
use Rattle.file_opening.specs.declared.redo_batches.Redo.{Redo}
use Rattle.file_opening.specs.declared.redo_batches.Redo.TheVariants.{All}
use Rattle.file_opening.specs.Opening.{IsUnopened, TellsUnfit, LeavesStanding, disk_after, with_refusal}
use Rattle.file_opening.specs.Redoing.{MayRefuseRedo}
use Rattle.file_opening.specs.Refusals.{IsRefused, IsNoDamage}
use Rattle.file_opening.specs.UnderWay.{IsUnderWay, IsRedone, IsReopened}

-- the books of a file bound its number of attributes
pub few-attributes : (K : ℕ) (b : Books) → AreBooksOf K b → K ≤ 4
few-attributes K b are = omega (arith, are.attributes, (within-limits b.shape are.lawful).few_attributes)

-- where a disk fails no damage is told
fault-no-damage : (e : Refusal) → IsFault e → IsNoDamage e
fault-no-damage refusal.ReadFault fault = tt
fault-no-damage refusal.WriteFault fault = tt
fault-no-damage other fault = absurd fault

-- a result that is an error has what the error has
pub at-err : {T : Type 0} (r : Result T Refusal) (P : Refusal → Type 0) (e : Refusal) → r ≡ Err e → P e → IfErr r P
at-err {T} r P e is has = subst (λ (x : Result T Refusal). IfErr x P) (sym is) has

-- where all is redone, only a disk fails
pub whole-fault : (K : ℕ) (s : Shape) (image : List ℕ) (session : ℕ) (r : Redo) (e : Refusal) → r ≡ All → TellsUnfit K s image session r e → IsFault e
whole-fault K s image session r e is told = subst (λ (x : Redo). TellsUnfit K s image session x e) is told

-- where a root is written, what may come is that a disk fails
pub closing-fault : (e : Refusal) → MayRefuseClosing e → IsFault e
closing-fault e (inl is) = subst IsFault (sym is) tt
closing-fault e (inr is) = subst IsFault (sym is) tt

-- what a redo tells is a fault of the disk, or damage of an image that stands for nothing
unopened : (K : ℕ) (image : List ℕ) (e : Refusal) → MayRefuseRedo e → ((m : Standing K) → HasStanding image m → IsFault e) → IsUnopened K image e
unopened K image refusal.ReadFault may fault = inl (inr (inl refl))
unopened K image refusal.WriteFault may fault = inl (inl refl)
unopened K image (refusal.Damaged page) may fault = inr (record { page = page; told = refl; nothing = fault })
unopened K image other may fault = absurd may

-- it says nothing that an image without a fault is refused for
never-refused : (K : ℕ) (image : List ℕ) (e : Refusal) → HasNoFault K image → MayRefuseRedo e → IsRefused K image e → ⊥
never-refused K image (refusal.Worn count) sound may bad = may
never-refused K image other sound may bad = sound other bad

module _ {D : Type 0} {g : Ghosts D} where
  -- where nothing changes the length stays
  pub stays-keep : {old new : D} → Changes g Stays old new → Changes g KeepsLength old new
  stays-keep r = changes_wider (λ x y same. ap (λ (xs : List ℕ). length xs) same) r

  -- so it does where a disk is only read
  pub reads-keep : {old new : D} → OnlyReads g old new → Changes g KeepsLength old new
  reads-keep r = stays-keep (changes_read r)

-- a file that begins as a disk and books, and its disk in other words
module _ {D : Type 0} (f : OpenFile D) (disk : D) (b : Books) (is : f ≡ opened_file disk b) where
  pub between : (P : D → D → Type 0) (new last : D) → last ≡ new → P f.disk new → P disk last
  between P new last same p = subst (λ (x : D). P disk x) (sym same) (subst (λ (x : OpenFile D). P x.disk new) is p)

  pub way-of : {K : ℕ} (g : Ghosts D) (m : Standing K) (rest : List (LoggedUpdate K)) → IsUnderWay g b disk m rest → IsUnderWay g f.books f.disk m rest
  way-of g m rest w = subst (λ (x : OpenFile D). IsUnderWay g x.books x.disk m rest) (sym is) w

  pub told-of : (g : Ghosts D) → IsTrue (g.honest disk) → IsTrue (g.honest f.disk)
  told-of g h = ap (λ (x : OpenFile D). g.honest x.disk) is ∙ h

  pub reopened-of : {K : ℕ} (g : Ghosts D) (m : Standing K) → IsReopened g b disk m → IsReopened g f.books f.disk m
  reopened-of g m o = subst (λ (x : OpenFile D). IsReopened g x.books x.disk m) (sym is) o

-- a redo has come to a standing: all is redone there, and each moment of it left that standing
pub record HasCome {K : ℕ} {D : Type 0} (g : Ghosts D) (m : Standing K) (old : D) (b : Books) (disk : D) (r : Redo) : Type 0 where
  pub whole : r ≡ All
  pub redone : IsRedone g b disk m
  pub stays : StaysStanding g m old disk

-- a file of a disk and books whose journal was redone, and then its parts
module _ {D : Type 0} (g : Ghosts D) (f new : OpenFile D) (old : D) (b : Books) (is : f ≡ opened_file old b) (c : Books) (disk : D) (c-is : c ≡ new.books) (disk-is : disk ≡ new.disk) where
  pub parts-change : Changes g KeepsLength f.disk new.disk → Changes g KeepsLength old disk
  parts-change changes = between f old b is (λ x y. Changes g KeepsLength x y) new.disk disk disk-is changes

  pub has-come : {K : ℕ} (m : Standing K) (rest : List (LoggedUpdate K)) (r : Redo) → (IsTrue (g.honest f.disk) → (n : Standing K) → IsUnderWay g f.books f.disk n rest → (r ≡ All) × IsRedone g new.books new.disk n)
      → ((n : Standing K) → IsUnderWay g f.books f.disk n rest → StaysStanding g n f.disk new.disk) → IsTrue (g.honest old) → IsUnderWay g b old m rest → HasCome g m old c disk r
  has-come m rest r redone moments told w =
      let way = way-of f old b is g m rest w in
      let all = redone (told-of f old b is g told) m way in
      record {
        whole = all.0;
        redone = subst (λ (x : Books). IsRedone g x disk m) (sym c-is) (subst (λ (x : D). IsRedone g new.books x m) (sym disk-is) all.1);
        stays = between f old b is (λ x y. StaysStanding g m x y) new.disk disk disk-is (moments m way);
      }

-- an opening that began, and what the rest of it came to
module _ {D : Type 0} (g : Ghosts D) (old : D) (told : IsTrue (g.honest old)) where
  -- where nothing was changed, a crash left what it might have left
  left-before : (c : List ℕ) → After Stays (g.may_leave old) c → g.may_leave old c
  left-before c from = subst (λ (x : List ℕ). g.may_leave old x) (sym from.2) from.1

  pub unbegun-leaves : {K : ℕ} (m : Standing K) (new : D) → Changes g Stays old new → LeavesStanding g m old new
  unbegun-leaves m new same = weakened g.moment g.left_since old new (After Stays (g.may_leave old)) _ (same.moments told) (λ c from. inl (left-before c from))

  pub begun-leaves : {K : ℕ} (m : Standing K) (mid new : D) → Changes g Stays old mid → StaysStanding g m mid new → LeavesStanding g m old new
  begun-leaves m mid new same stays =
      joined g.moment g.left_since old mid new (After Stays (g.may_leave old)) (λ (c : List ℕ). HasStanding c m) _ (same.moments told) (stays (same.honest ∙ told)) (λ c from. inl (left-before c from)) (λ c has. inr has)

-- why the rest of an opening failed
module _ {K : ℕ} {D : Type 0} (g : Ghosts D) (image : List ℕ) (mid : D) where
  pub rest-refused : (r : Result (Opened K D) (Unopened D)) → HasCauses g MayRefuseRedo mid (disk_after r) (with_refusal r) → ((m : Standing K) → HasStanding image m → IfErr r (λ n. IsFault n.refusal)) → IfErr r (λ n. IsUnopened K image n.refusal)
  rest-refused (Ok o) causes fault = tt
  rest-refused (Err n) causes fault = unopened K image n.refusal causes.no_other fault

  pub rest-untouched : (r : Result (Opened K D) (Unopened D)) (old : D) → HasNoFault K image → HasCauses g MayRefuseRedo mid (disk_after r) (with_refusal r) → IfErr r (λ n. IsRefused K image n.refusal → OnlyReads g old n.disk.value)
  rest-untouched (Ok o) old sound causes = tt
  rest-untouched (Err n) old sound causes = λ bad. absurd (never-refused K image n.refusal sound causes.no_other bad)

-- no damage is told where only a disk fails
pub rest-standing : {K : ℕ} {D : Type 0} (r : Result (Opened K D) (Unopened D)) → IfErr r (λ n. IsFault n.refusal) → IfErr r (λ n. IsNoDamage n.refusal)
rest-standing (Ok o) fault = tt
rest-standing (Err n) fault = fault-no-damage n.refusal fault
