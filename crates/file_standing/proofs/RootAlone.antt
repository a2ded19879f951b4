-- A root step leaves a lone caller's state as the lone caller's root step does.
use Rattle.std.proofs.Common.{◌≡◌, ◌==◌, ℕ, true, false, refl, sym, ap, subst, ◌∙◌, arith, eq-eqb}
use Rattle.std.proofs.lemmas.Bool.{ne_eqb}
use Rattle.grid_types.proofs.Places.{within-limits}
use Rattle.grid_model.specs.Lone.{State, root, owners}
use Rattle.grid_model.specs.Roots.{WholeRoot}
use Rattle.file_images.specs.Kept.{Kept}
use Rattle.file_images.specs.Leads.{Standing, lineage_at}
use Rattle.file_images.specs.Steps.{with_turned, with_closed, with_root, with_shut}
use Rattle.file_books.specs.Books.{Books}
use Rattle.file_books.specs.Effects.{used_of, idle_half, closed_books, turned_books, rooted_books, cleaned_books}
use Rattle.file_standing.specs.Files.{state_along, Follows, IsFile, IsAlone}
use Rattle.file_standing.specs.Steps.{turned_kept, cleaned_kept, IsNextRoot}
use Rattle.file_standing.specs.FileLaws.{RootStepStands}
use Rattle.file_standing.proofs.Along.{at-standing}
use Rattle.file_standing.proofs.Books.{used-alike, used-here, used-other, idle-half-two, idle-half-apart}
use Rattle.file_standing.proofs.NextRoot.{new-follows}
use Rattle.file_standing.proofs.RootSteps.{closed-file, turned-file, exchanged-file, tried-file, rooted-file, loose-file, cleaned-file, turned_at, turned_with, rooted-follows, cleaned_at, cleaned_with, cleaned-form, cleaned-follows}

module _ {K : ℕ} (b : Books) (k : Kept K) (m : Standing K) (s : State K) (w : WholeRoot) (is : IsFile b k m) (alone : IsAlone b k m s) (next : IsNextRoot b w) where
  -- the books and what is kept, where the other header page is closed and the halves' roles are exchanged, as the other one is clear
  abbrev b2 : Books
  b2 = turned_at (closed_books b) (with_closed k) m true

  abbrev k2 : Kept K
  k2 = with_turned (with_closed k)

  abbrev b3 : Books
  b3 = rooted_books b2

  abbrev k3 : Kept K
  k3 = with_root k2 w

  clear-closed : used_of (closed_books b) (idle_half b) ≡ 0
  clear-closed = used-alike (closed_books b) b (idle_half b) refl refl ∙ alone.clear

  clear-rooted : used_of b3 (idle_half b) ≡ 0
  clear-rooted = used-alike b3 b (idle_half b) refl refl ∙ alone.clear

  turned-books : turned_books (closed_books b) ≡ b2
  turned-books = ap (turned_at (closed_books b) (with_closed k) m) (eq-eqb (used_of (closed_books b) (idle_half b)) 0 clear-closed)

  turned-kept : turned_kept b (with_closed k) ≡ k2
  turned-kept = ap (turned_with b (with_closed k) m) (eq-eqb (used_of b (idle_half b)) 0 alone.clear)

  file-turned : IsFile b2 k2 m
  file-turned = turned-file (closed_books b) (with_closed k) m true refl (closed-file b k m is)

  next-turned : IsNextRoot b2 w
  next-turned = record {
    number = next.number;
    session = next.session;
    front = next.front;
    records = next.records;
    scales = next.scales;
    numbers = next.numbers;
    buckets = next.buckets;
    count = next.count;
    directory = next.directory;
  }

  abbrev b4 : Books
  b4 = cleaned_at b3 k3 m false

  abbrev k4 : Kept K
  k4 = with_shut k3 (idle_half b3)

  some-slots : (used_of b3 b3.half == b.shape.slots) ≡ false
  some-slots = ne_eqb (used_of b3 b3.half) b.shape.slots (λ e. omega (arith, e, clear-rooted, (within-limits b.shape is.hold.stands.lawful).some_slots))

  cleaned-books : cleaned_books b3 ≡ b4
  cleaned-books = cleaned-form b3 k3 m ∙ ap (cleaned_at b3 k3 m) some-slots

  cleaned-kept : cleaned_kept b3 k3 ≡ k4
  cleaned-kept = ap (cleaned_with b3 k3 m) some-slots

  place : w.fields.front ≡ m.place
  place = next.front ∙ sym is.hold.place

  follows-cleaned : Follows b4 k4 m w (lineage_at m)
  follows-cleaned = cleaned-follows b3 k3 m false w (lineage_at m) place (rooted-follows b2 k2 m w (lineage_at m) (new-follows b2 k2 m w file-turned next-turned))

  used-now : used_of b4 b4.half ≡ 0
  used-now = used-other b3 (idle_half b3) b3.half 0 (idle-half-two b3) (idle-half-two b) (λ e. idle-half-apart b3 (idle-half-two b) (sym e)) ∙ clear-rooted

  state-now : root s ≡ record (state_along w (lineage_at m)) { used = used_of b4 b4.half }
  state-now =
      let at = at-standing k k.root m alone.lineage alone.follows.along in
      let t : s.table ≡ m.table = ap (λ (v : State K). v.table) alone.state ∙ at.table in
      let l : s.layout ≡ m.layout = ap (λ (v : State K). v.layout) alone.state ∙ at.layout in
      let f : s.front ≡ w.fields.front = ap (λ (v : State K). v.front) alone.state ∙ at.front ∙ sym place in
      λ i. record { table = t i; layout = l i; front = f i; rooted = owners (l i); kept = 0; used = sym used-now i }

  alone-now : IsAlone b4 k4 m (root s)
  alone-now = record { lineage = lineage_at m; follows = follows-cleaned; state = state-now; quiet = refl; clear = used-here b3 (idle_half b3) 0 }

  pub root-alone : IsAlone (cleaned_books (rooted_books (turned_books (closed_books b)))) (cleaned_kept (rooted_books (turned_books (closed_books b))) (with_root (turned_kept b (with_closed k)) w)) m (root s)
  root-alone =
      subst (λ (c : Books). IsAlone (cleaned_books (rooted_books c)) (cleaned_kept (rooted_books c) (with_root (turned_kept b (with_closed k)) w)) m (root s)) (sym turned-books)
      (subst (λ (j : Kept K). IsAlone (cleaned_books b3) (cleaned_kept b3 (with_root j w)) m (root s)) (sym turned-kept)
      (subst (λ (c : Books). IsAlone c (cleaned_kept b3 k3) m (root s)) (sym cleaned-books)
      (subst (λ (j : Kept K). IsAlone b4 j m (root s)) (sym cleaned-kept) alone-now)))

pub root-steps : {K : ℕ} → RootStepStands K
root-steps = record {
  closed = λ b k m is. closed-file b k m is;
  turned = λ b k m shut is. turned-file b k m (used_of b (idle_half b) == 0) shut is;
  exchanged = λ b k m quiet is. exchanged-file b k m (used_of b (idle_half b) == 0) quiet is;
  tried = λ b k m w shut trying next is. tried-file b k m w trying next is;
  rooted = λ b k m w shut trying next is. rooted-file b k m w trying next is;
  loosened = λ b k m loose front mine is. loose-file b k m loose front mine is;
  cleaned = λ b k m loose front is. cleaned-file b k m loose front is;
  alone = λ b k m s w is alone next. root-alone b k m s w is alone next;
}
