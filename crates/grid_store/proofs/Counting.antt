-- What is counted of a file that is open at a standing.
use Rattle.std.proofs.Common.{◌≡◌, ◌≤◌, ◌+◌, ◌-◌, ℕ, Bool, true, false, List, [], ◌∷◌, length, map, cond, Option, Some, None, is_some, IsTrue, refl, sym, ap, subst, ◌∙◌, arith}
use Rattle.std.specs.List.{count_by}
use Rattle.std.proofs.lemmas.List.Sums.{sum_by-cons}
use Rattle.grid_types.specs.declared.shape.Shape.{Shape}
use Rattle.grid_types.specs.declared.request.Reply.{Reply}
use Rattle.grid_types.specs.declared.request.Reply.TheVariants.{Stood}
use Rattle.grid_types.specs.declared.request.Request.TheVariants.{Stat}
use Rattle.disk_trait.specs.declared.disk.Disk.{Ghosts}
use Rattle.disk_trait.specs.Calls.{OnlyReads}
use Rattle.grid_model.specs.Cells.{cells, parts}
use Rattle.grid_model.specs.Lone.{State, opened, free, lone}
use Rattle.page_states.specs.declared.page_state.PageState.{PageState}
use Rattle.page_states.specs.declared.page_state.PageState.TheVariants.{Free, Claimed, Live}
use Rattle.page_states.specs.Counts.{once}
use Rattle.page_states.specs.Effects.{freed, is_gone, swept}
use Rattle.page_states.specs.States.{is_claimed, is_free}
use Rattle.kept_pages.specs.CountLaws.{AreCounted}
use Rattle.kept_pages.proofs.FreePages.{free-count}
use Rattle.kept_pages.proofs.Starts.{roots-count}
use Rattle.file_images.specs.Kept.{Kept}
use Rattle.file_images.specs.Leads.{Standing}
use Rattle.file_images.proofs.Covering.{covers_meets}
use Rattle.file_books.specs.Books.{Books}
use Rattle.file_books.specs.Effects.{swept_books}
use Rattle.file_standing.specs.Files.{BooksHold}
use Rattle.file_standing.specs.Open.{IsOpenInSession, IsOpenAlone}
use Rattle.file_standing.specs.Steps.{swept_kept}
use Rattle.file_standing.proofs.PageSteps.{page-steps}
use Rattle.file_redo.proofs.Claims.{claims-count}
use Rattle.grid_file.specs.CallLaws.{IsNow, reads_none}
use Rattle.grid_file.specs.Files.{OpenFile}
use Rattle.grid_file.specs.Keeping.{KeepsReading}
use Rattle.client_sessions.specs.Points.{Point, standing_of}
use Rattle.client_sessions.specs.Told.{Told}
use Rattle.durable_updates.specs.Points.{IsOpenAsAt, IsOpenBeside}
use Rattle.grid_store.specs.Stores.{OpenStore, IsStoreAlone, IsStoreAt, stat_of}
use Rattle.grid_store.specs.Answered.{IsAnswered, IsAnsweredLone}
use Rattle.grid_store.proofs.Pinning.{held_at, moments_at}

-- books read as themselves
pub reads_same : (b : Books) → KeepsReading b b
reads_same b = record { shape = refl; session = refl; front = refl; records = refl; buckets = refl; scales = refl; pages = λ o. refl; here = λ o. refl }

-- pages that become free are no fewer than those that were
module _ (test : PageState → Bool) where
  once_more : (x : PageState) → once is_free x ≤ once is_free (freed test x)
  once_more x = by (test x)
    where
      low : (y : PageState) → once is_free y ≤ 1
      low Free = omega arith
      low (Claimed s) = omega arith
      low (Live o from to) = omega arith

      by : (t : Bool) → once is_free x ≤ once is_free (cond t Free x)
      by true = low x
      by false = omega arith

  free_grows : (xs : List PageState) → count_by is_free xs ≤ count_by is_free (map (freed test) xs)
  free_grows [] = omega arith
  free_grows (x ∷ xs) = omega (arith, once_more x, free_grows xs, sum_by-cons (once is_free) x xs, sum_by-cons (once is_free) (freed test x) (map (freed test) xs))

module _ {K : ℕ} (b : Books) (k : Kept K) (m : Standing K) (hold : BooksHold b k m) where
  abbrev state : State K
  state = opened m.table m.layout b.front

  counted : AreCounted b.shape b.pages k.always b.front b.front state
  counted = record { stands = hold.stands; holds = hold.holds; size = hold.size; counts = roots-count b.shape b.pages k.always b.front m.layout m.table hold.stands hold.holds }

  -- beside boxes and directory parts there are all the free pages
  pub free_beside : count_by is_free b.pages + b.buckets + parts m.layout.scales ≤ b.shape.pages
  free_beside =
      let grows : count_by is_free b.pages ≤ count_by is_free (swept (b.front ∷ []) b.pages) = free_grows (is_gone (b.front ∷ [])) b.pages in
      let most : count_by is_free (swept (b.front ∷ []) b.pages) ≤ b.shape.pages - length m.layout.boxes - parts m.layout.scales - 0 = free-count.most b.shape b.pages k.always b.front b.front state (b.front ∷ []) (0, omega arith, refl) counted in
      let fit : length m.layout.boxes + parts m.layout.scales + 0 + count_by is_claimed b.pages ≤ b.shape.pages = free-count.fit b.shape b.pages k.always b.front b.front state counted in
      omega (arith, grows, most, fit, hold.buckets)

-- a sweep leaves a file open where it is
module _ {K : ℕ} {D : Type 0} (g : Ghosts D) (b : Books) (m : Standing K) (disk : D) where
  pub sweep_open : IsOpenInSession g b m disk → IsOpenInSession g (swept_books b) m disk
  sweep_open w = record {
    kept = swept_kept b w.kept;
    file = page-steps.sweep b w.kept m w.file;
    session = λ r newest. w.session r newest;
    meets = covers_meets w.kept (swept_kept b w.kept) (page-steps.covered b w.kept) g disk w.meets;
  }

  pub sweep_alone : (s : State K) → IsOpenAlone g b m s disk → IsOpenAlone g (swept_books b) m s disk
  sweep_alone s w = record {
    kept = swept_kept b w.kept;
    file = page-steps.sweep b w.kept m w.file;
    session = λ r newest. w.session r newest;
    alone = page-steps.sweep_alone b w.kept m s w.file w.alone;
    meets = covers_meets w.kept (swept_kept b w.kept) (page-steps.covered b w.kept) g disk w.meets;
  }

-- books that hold a point's standing count what is told of it
pub told_stat : {K : ℕ} (s : Shape) (b : Books) (k : Kept K) (p : Point K) → b.shape ≡ s → BooksHold b k p.at → Told s p Stat (Stood (stat_of b)) p
told_stat s b k p shape hold = (
  refl,
  sym hold.place,
  sym hold.records,
  record {
    cells = ap cells (sym hold.scales);
    buckets = sym hold.buckets;
    free = subst (λ (x : Shape). count_by is_free b.pages + b.buckets + parts p.at.layout.scales ≤ x.pages) shape (free_beside b k p.at hold);
  },
)

-- a store whose file was swept unless it is stopped
module _ {K : ℕ} {D : Type 0} (g : Ghosts D) (old new : OpenStore K D) (swept_file : is_some old.stop ≡ false → new.file ≡ record old.file { books = swept_books old.file.books }) (same_file : is_some old.stop ≡ true → new.file ≡ old.file) (disk : new.file.disk ≡ old.file.disk)
    (books : KeepsReading old.file.books new.file.books) (stop : new.stop ≡ old.stop) where
  -- is where it was
  pub swept_at : (p : Point K) → IsStoreAt g old p → IsOpenAsAt g new.file.books p new.file.disk
  swept_at p is = by p.beyond is.file is.stop
    where
      by : (o : Option (Standing K)) → IsOpenBeside g old.file.books p.at o old.file.disk → is_some old.stop ≡ is_some o → IsOpenBeside g new.file.books p.at o new.file.disk
      by None w none = subst (λ (f : OpenFile D). IsOpenInSession g f.books p.at f.disk) (sym (swept_file none)) (sweep_open g old.file.books p.at old.file.disk w)
      by (Some n) w some = subst (λ (f : OpenFile D). IsOpenBeside g f.books p.at (Some n) f.disk) (sym (same_file some)) w

  -- and answers what is counted there
  pub stat_answered : IsNow g old.file.disk → IsTrue (g.honest old.file.disk) → (p : Point K) → IsStoreAt g old p → IsAnswered g p Stat (Stood (stat_of new.file.books)) old new
  stat_answered now told p is =
      let there = swept_at p is in
      let held = held_at g new.file.books p new.file.disk there in
      let reads : OnlyReads g old.file.disk new.file.disk = subst (λ (d : D). OnlyReads g old.file.disk d) (sym disk) ((reads_none {K = K} {g = g} old.file now).disk) in
      record {
        point = p;
        told = told_stat old.file.books.shape new.file.books held.0 p books.shape held.1;
        stands = record { file = there; stop = ap is_some stop ∙ is.stop };
        moments = moments_at g old.file.books p old.file.disk new.file.disk reads is.file;
      }

  abbrev stood : OpenFile D → Reply K
  stood f = Stood (stat_of f.books)

  -- as a lone caller's
  pub stat_lone : (s : State K) → IsStoreAlone g old s → IsAnsweredLone g s Stat (Stood (stat_of new.file.books)) old new
  unfolding lone
  stat_lone s is =
      let none : is_some old.stop ≡ false = ap is_some is.stop in
      let b = swept_books old.file.books in
      let file = swept_file none in
      let open_there = sweep_alone g old.file.books (standing_of s) old.file.disk s is.file in
      let hold = open_there.file.hold in
      let free_is : count_by is_free b.pages ≡ free old.file.books.shape s = page-steps.counted old.file.books is.file.kept (standing_of s) s is.file.file is.file.alone is.unclaimed in
      record {
        reply_is = ap stood file ∙ (λ i. Stood (record {
          at = sym hold.place i;
          value = record { records = sym hold.records i; cells = cells (sym hold.scales i); buckets = sym hold.buckets i; free = free_is i };
        }));
        goes_on = record {
          file = subst (λ (f : OpenFile D). IsOpenAlone g f.books (standing_of s) s f.disk) (sym file) open_there;
          stop = stop ∙ is.stop;
          unclaimed = ap (λ (f : OpenFile D). count_by is_claimed f.books.pages) file ∙ (claims-count {K = K}).sweep old.file.books ∙ is.unclaimed;
        };
      }
