-- What a root step leaves of a file, whether it was done or not.
use Rattle.std.proofs.Common.{◌≡◌, ◌≢◌, ◌<◌, ◌≤◌, ◌==◌, inl, inr, ℕ, zero, suc, List, Bool, true, false, cond, None, Result, Ok, Err, refl, sym, ap, subst, ◌∙◌, arith}
use Rattle.std.specs.Prelude.{OnOk, OnErr}
use Rattle.std.specs.List.{count_by}
use Rattle.std.proofs.lemmas.Bool.Decides.{eqb_tells}
use Rattle.disk_trait.specs.declared.disk.Disk.{Ghosts}
use Rattle.disk_trait.proofs.Moments.{started}
use Rattle.page_states.specs.declared.page_state.PageState.{PageState}
use Rattle.page_states.specs.States.{is_claimed}
use Rattle.file_images.specs.Leads.{Standing, HasStanding}
use Rattle.file_books.specs.Books.{Books, InRanges}
use Rattle.file_books.specs.Effects.{used_of, idle_half, with_used, rooted_books, cleaned_books, swept_books}
use Rattle.file_images.proofs.Crashes.{stands_there}
use Rattle.file_redo.proofs.Claims.{claims-count}
use Rattle.file_standing.specs.Open.{IsOpenAt, IsOpenInSession, StaysStanding}
use Rattle.file_standing.proofs.Leading.{files-lead}
use Rattle.file_standing.proofs.Books.{books_used, idle-half-apart, idle-half-two, used-form, used-here, used-other}
use Rattle.checkpoints.specs.Checkpoints.{AreBooksAfter, AreBooksBehind, StaysOpen, trying_books, standing_books, checkpointed_books}
use Rattle.grid_file.specs.CallLaws.{IsNow}

module _ {K : ℕ} {D : Type 0} (g : Ghosts D) (m : Standing K) where
  -- a file that is open in session is open
  pub open-at : (b : Books) (d : D) → IsOpenInSession g b m d → IsOpenAt g b m d
  open-at b d o = record { kept = o.kept; file = o.file; meets = o.meets }

  -- where there is no call a crash leaves where it stands
  pub stays-here : (b : Books) (d : D) → IsNow g d → IsOpenInSession g b m d → StaysStanding g m d d
  stays-here b d now o told = started g.moment g.left_since d (λ (c : List ℕ). HasStanding c m) (λ c left. stands_there o.kept m c o.file.shut (files-lead b o.kept m o.file) (o.meets.crash told c (now c told left)))

  -- it stays open through a root step, whether that was done or not
  pub step-stays : {T E : Type 0} (r : Result T E) (b c : Books) (old new : D) → (IsOpenAt g b m old → OnOk r (IsOpenInSession g c m new)) → OnErr r (StaysOpen g b c m old new) → IsOpenInSession g b m old → IsOpenInSession g c m new
  step-stays (Ok x) b c old new done behind o = done (open-at b old o)
  step-stays (Err e) b c old new done behind o = behind.in_session o

-- the clearing of a half leaves the pages
cleaned-pages : (b : Books) → (cleaned_books b).pages ≡ b.pages
cleaned-pages b = by (idle_half b) (used_of b b.half == b.shape.slots)
  where
    by : (h : ℕ) (t : Bool) → (cond t (record (with_used b h 0) { half = h }) (with_used b h 0)).pages ≡ b.pages
    by zero true = refl
    by zero false = refl
    by (suc h) true = refl
    by (suc h) false = refl

-- the pages behind a root step
pub checkpointed-pages : (b : Books) → (checkpointed_books b).pages ≡ (swept_books (rooted_books (trying_books b))).pages
checkpointed-pages b = cleaned-pages (standing_books b)

-- a root step leaves as many pages claimed
standing-claims : (b : Books) → count_by is_claimed (standing_books b).pages ≡ count_by is_claimed b.pages
standing-claims b = (claims-count {K = 0}).sweep (rooted_books (trying_books b))

behind-claims : (b c : Books) → AreBooksBehind b c → count_by is_claimed c.pages ≡ count_by is_claimed b.pages
behind-claims b c are = elim are [
  | inl same ↦ ap (λ (x : Books). count_by is_claimed x.pages) same
  | inr later ↦ elim later [
    | inl trying ↦ ap (λ (x : Books). count_by is_claimed x.pages) trying
    | inr standing ↦ ap (λ (x : Books). count_by is_claimed x.pages) standing ∙ standing-claims b
  ]
]

pub step-claims : {T E : Type 0} (r : Result T E) (b c : Books) → AreBooksAfter r b c → count_by is_claimed c.pages ≡ count_by is_claimed b.pages
step-claims (Ok x) b c are = ap (λ (x : Books). count_by is_claimed x.pages) are ∙ ap (λ (xs : List PageState). count_by is_claimed xs) (checkpointed-pages b) ∙ standing-claims b
step-claims (Err e) b c are = behind-claims b c are

-- the books whose other half is clear, and where a full one has given its role to it or not
cleaned-as : (b : Books) (t : Bool) → (used_of b b.half == b.shape.slots) ≡ t → cleaned_books b ≡ record (books_used b (idle_half b) 0) { half = cond t (idle_half b) b.half }
cleaned-as b t is = ap (λ (x : Bool). cond x (record (with_used b (idle_half b) 0) { half = idle_half b }) (with_used b (idle_half b) 0)) is ∙ by t
  where
    by : (x : Bool) → cond x (record (with_used b (idle_half b) 0) { half = idle_half b }) (with_used b (idle_half b) 0) ≡ record (books_used b (idle_half b) 0) { half = cond x (idle_half b) b.half }
    by true = ap (λ (c : Books). record c { half = idle_half b }) (used-form b (idle_half b) 0)
    by false = used-form b (idle_half b) 0

-- a half that is used as a whole gives its role to a clear one, so that there is a slot
abbrev HasSlot : Books → Type 0
HasSlot b = used_of b b.half < b.shape.slots

cleaned-slot : (b : Books) → b.half < 2 → used_of b b.half ≤ b.shape.slots → 1 ≤ b.shape.slots → HasSlot (cleaned_books b)
cleaned-slot b two most some = elim (eqb_tells (used_of b b.half) b.shape.slots) [
  | inl full ↦ subst HasSlot (sym (cleaned-as b true full.0)) (let none : used_of (books_used b (idle_half b) 0) (idle_half b) ≡ 0 = used-here b (idle_half b) 0 in at-least none)
  | inr left ↦ subst HasSlot (sym (cleaned-as b false left.0)) (let stays : used_of (books_used b (idle_half b) 0) b.half ≡ used_of b b.half = used-other b (idle_half b) b.half 0 (idle-half-two b) two (λ e. idle-half-apart b two (sym e)) in fewer stays left.1)
]
  where
    at-least : {n : ℕ} → n ≡ 0 → n < b.shape.slots
    at-least none = omega (arith, none, some)

    fewer : {n : ℕ} → n ≡ used_of b b.half → used_of b b.half ≢ b.shape.slots → n < b.shape.slots
    fewer stays apart = omega (arith, stays, apart, most)

used-most : (b : Books) (h : ℕ) → b.first_used ≤ b.shape.slots → b.second_used ≤ b.shape.slots → used_of b h ≤ b.shape.slots
used-most b zero first second = first
used-most b (suc h) first second = second

turned-two : (b : Books) (t : Bool) → b.half < 2 → cond t (idle_half b) b.half < 2
turned-two b true two = idle-half-two b
turned-two b false two = two

-- so there is one behind a root step
pub step-slot : {T E : Type 0} (r : Result T E) (b c : Books) → AreBooksAfter r b c → InRanges b → 1 ≤ b.shape.slots → OnOk r (used_of c c.half < c.shape.slots)
step-slot (Ok x) b c are ranges some =
    let s : Books = standing_books b in
    subst HasSlot (sym are) (cleaned-slot s (turned-two b (used_of (record b { trying_at = None }) (idle_half b) == 0) ranges.half) (used-most s s.half ranges.first ranges.second) some)
step-slot (Err e) b c are ranges some = tt
