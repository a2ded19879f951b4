-- Books that read alike: after a sweep, and after a root step, whether it is done or fails.
use Rattle.std.proofs.Common.{◌≡◌, ◌<◌, ◌≤◌, ◌&&◌, ◌||◌, ◌==◌, inl, inr, ℕ, zero, suc, Bool, true, false, not, cond, List, [], ◌∷◌, Option, Some, None, Result, Ok, Err, IsTrue, refl, sym, ap, ◌∙◌, subst, filter}
use Rattle.std.specs.Prelude.{slice_get, nat_le}
use Rattle.std.specs.List.{list_any}
use Rattle.std.specs.Option.{option_map, unwrap_or}
use Rattle.std.proofs.lemmas.Bool.{le-ltb}
use Rattle.grid_types.specs.declared.layout_change.LayoutChange.{LayoutChange}
use Rattle.grid_types.specs.declared.layout_change.LayoutChange.TheVariants.{Plain, Cut, Merge}
use Rattle.grid_types.specs.declared.owner.Owner.{Owner}
use Rattle.grid_types.specs.declared.owner.Owner.TheVariants.{Bucket}
use Rattle.grid_types.specs.Owners.{same_owner}
use Rattle.grid_types.specs.Pages.{page_of}
use Rattle.grid_types.specs.Shapes.{data_page}
use Rattle.disk_trait.specs.declared.disk.Disk.{Ghosts}
use Rattle.grid_model.specs.Lists.{below}
use Rattle.page_states.specs.declared.page_state.PageState.{PageState}
use Rattle.page_states.specs.declared.page_state.PageState.TheVariants.{Free, Claimed, Live}
use Rattle.page_states.specs.Effects.{freed, is_gone, swept}
use Rattle.page_states.specs.Laws.{Settled}
use Rattle.page_states.specs.States.{is_kept, shows}
use Rattle.page_states.proofs.Shown.{and_false}
use Rattle.file_books.specs.Books.{Books, has_page, numbers_now}
use Rattle.file_books.specs.Effects.{HasOther, idle_half, root_places, rooted_books, swept_books, used_of, with_used}
use Rattle.file_state.proofs.Kept.{filter_alike}
use Rattle.checkpoints.specs.Checkpoints.{AreBooksAfter, AreBooksBehind, checkpointed_books, standing_books, trying_books}
use Rattle.grid_file.specs.Files.{OpenFile}
use Rattle.grid_file.specs.Keeping.{KeepsReading}
use Rattle.grid_file.specs.Pages.{first_shown, front_place}

-- a page ended at the front or before
abbrev EndedBy : ℕ → List PageState → Type 0
EndedBy front states = (p : ℕ) (w : Owner) (from to : ℕ) → slice_get states p ≡ Some (Live w from (Some to)) → to ≤ front

-- a sweep frees no page that is an owner's at the front
module _ (places : List ℕ) (front : ℕ) (o : Owner) where
  swept_shown : (x : PageState) → ((w : Owner) (from to : ℕ) → x ≡ Live w from (Some to) → to ≤ front) → shows o front (freed (is_gone places) x) ≡ shows o front x
  swept_shown Free ended = refl
  swept_shown (Claimed s) ended = refl
  swept_shown (Live w from None) ended = refl
  swept_shown (Live w from (Some to)) ended = by (not (is_kept places (Live w from (Some to))))
    where
      unseen : shows o front (Live w from (Some to)) ≡ false
      unseen =
          ap (λ (b : Bool). same_owner w o && (nat_le from front && b)) (le-ltb front to (ended w from to refl))
          ∙ ap (λ (b : Bool). same_owner w o && b) (and_false (nat_le from front))
          ∙ and_false (same_owner w o)

      by : (gone : Bool) → shows o front (cond gone Free (Live w from (Some to))) ≡ shows o front (Live w from (Some to))
      by true = sym unseen
      by false = refl

  first_swept : (x : PageState) (xs : List PageState) → EndedBy front (x ∷ xs) → shows o front (freed (is_gone places) x) ≡ shows o front x
  first_swept x xs ended = swept_shown x (λ w from to e. ended 0 w from to (ap (λ (z : PageState). Some z) e))

  swept_any : (xs : List PageState) → EndedBy front xs → list_any (shows o front) (swept places xs) ≡ list_any (shows o front) xs
  swept_any [] ended = refl
  swept_any (x ∷ xs) ended =
      let first = first_swept x xs ended in
      let rest = swept_any xs (λ p. ended (suc p)) in
      λ i. first i || rest i

  swept_here : (xs : List PageState) → EndedBy front xs → first_shown o front (swept places xs) ≡ first_shown o front xs
  swept_here [] ended = refl
  swept_here (x ∷ xs) ended =
      let first = first_swept x xs ended in
      let rest = swept_here xs (λ p. ended (suc p)) in
      λ i. cond (first i) (Some 0) (option_map suc (rest i))

-- books read alike after one step and another
pub keeps-then : {a b c : Books} → KeepsReading a b → KeepsReading b c → KeepsReading a c
keeps-then p q = record {
  shape = q.shape ∙ p.shape;
  session = q.session ∙ p.session;
  front = q.front ∙ p.front;
  records = q.records ∙ p.records;
  buckets = q.buckets ∙ p.buckets;
  scales = q.scales ∙ p.scales;
  pages = λ o. q.pages o ∙ p.pages o;
  here = λ o. q.here o ∙ p.here o;
}

-- where roots and the journal are counted otherwise
pub roots-keep : (b : Books) (number rooted_at : ℕ) (trying_at : Option ℕ) (half first second : ℕ)
    → KeepsReading b (record b { number = number; rooted_at = rooted_at; trying_at = trying_at; half = half; first_used = first; second_used = second })
roots-keep b number rooted_at trying_at half first second = record {
  shape = refl;
  session = refl;
  front = refl;
  records = refl;
  buckets = refl;
  scales = refl;
  pages = λ o. refl;
  here = λ o. refl;
}

-- after a sweep
pub swept-keeps : (b : Books) → Settled b.front b.pages → KeepsReading b (swept_books b)
swept-keeps b settled = record {
  shape = refl;
  session = refl;
  front = refl;
  records = refl;
  buckets = refl;
  scales = refl;
  pages = λ o. swept_any (root_places b) b.front o b.pages settled.ended_by;
  here = λ o. swept_here (root_places b) b.front o b.pages settled.ended_by;
}

-- while the next root is written, once it stands, and once the half that is not current is clear
trying-keeps : (b : Books) → KeepsReading b (trying_books b)
trying-keeps b = roots-keep b b.number b.rooted_at (trying_books b).trying_at (trying_books b).half b.first_used b.second_used

standing-keeps : (b : Books) → Settled b.front b.pages → KeepsReading b (standing_books b)
standing-keeps b settled =
    let c : Books = rooted_books (trying_books b) in
    keeps-then (roots-keep b c.number c.rooted_at None c.half b.first_used b.second_used) (swept-keeps c settled)

cleaned-keeps : (b : Books) (full : Bool) (h : ℕ) → KeepsReading b (cond full (record (with_used b h 0) { half = h }) (with_used b h 0))
cleaned-keeps b true zero = roots-keep b b.number b.rooted_at b.trying_at 0 0 b.second_used
cleaned-keeps b true (suc h) = roots-keep b b.number b.rooted_at b.trying_at (suc h) b.first_used 0
cleaned-keeps b false zero = roots-keep b b.number b.rooted_at b.trying_at b.half 0 b.second_used
cleaned-keeps b false (suc h) = roots-keep b b.number b.rooted_at b.trying_at b.half b.first_used 0

-- after a root step
pub rooted-keeps : (b : Books) → Settled b.front b.pages → KeepsReading b (checkpointed_books b)
rooted-keeps b settled =
    let c : Books = standing_books b in
    keeps-then (standing-keeps b settled) (cleaned-keeps c (used_of c c.half == c.shape.slots) (idle_half c))

-- and after one that failed
pub behind-keeps : (b c : Books) → Settled b.front b.pages → AreBooksBehind b c → KeepsReading b c
behind-keeps b c settled are = elim are [
  | inl same ↦ subst (λ (x : Books). KeepsReading b x) (sym same) (roots-keep b b.number b.rooted_at b.trying_at b.half b.first_used b.second_used)
  | inr later ↦ elim later [
    | inl trying ↦ subst (λ (x : Books). KeepsReading b x) (sym trying) (trying-keeps b)
    | inr standing ↦ subst (λ (x : Books). KeepsReading b x) (sym standing) (standing-keeps b settled)
  ]
]

pub after-keeps : {T E : Type 0} (r : Result T E) (b c : Books) → Settled b.front b.pages → AreBooksAfter r b c → KeepsReading b c
after-keeps (Ok x) b c settled are = subst (λ (y : Books). KeepsReading b y) (sym are) (rooted-keeps b settled)
after-keeps (Err e) b c settled are = behind-keeps b c settled are

module _ {b c : Books} (keeps : KeepsReading b c) where
  -- books that read alike have pages of the same bucket numbers
  pub numbers-kept : numbers_now c ≡ numbers_now b
  numbers-kept = ap (λ (n : ℕ). filter (λ m. has_page c (Bucket m)) (below n)) (λ i. (keeps.shape i).pages)
      ∙ filter_alike (λ n. has_page c (Bucket n)) (λ n. has_page b (Bucket n)) (below b.shape.pages) (λ n. keeps.pages (Bucket n))

  -- an owner that has a page has one still
  pub page-kept : (o : Owner) → IsTrue (has_page b o) → IsTrue (has_page c o)
  page-kept o there = keeps.pages o ∙ there

  -- and the other bucket of a change is there, or not, as its note asks
  pub other-kept : (bucket : ℕ) (n : LayoutChange) → HasOther b bucket n → HasOther c bucket n
  other-kept bucket Plain other = other
  other-kept bucket (Cut cut right) other = (subst (λ (m : ℕ). right < m) (λ i. (sym keeps.shape i).pages) other.0, keeps.pages (Bucket right) ∙ other.1)
  other-kept bucket (Merge m) other = (other.0, keeps.pages (Bucket m) ∙ other.1)

-- on a disk that stays as it is a front reads as before
pub place-kept : {D : Type 0} (g : Ghosts D) (f : OpenFile D) (c : Books) → KeepsReading f.books c → front_place g (record f { books = c }) ≡ front_place g f
place-kept {D} g f c keeps =
    let numbers = numbers-kept keeps in
    λ i. record {
      shape = keeps.shape i;
      scales = keeps.scales i;
      numbers = numbers i;
      pages = cond (g.honest f.disk) (Some (λ o. option_map (λ p. page_of (data_page (keeps.shape i) p) (g.seen f.disk)) (keeps.here o i))) None;
      file_page = λ o. data_page (keeps.shape i) (unwrap_or (keeps.here o i) 0);
    }
