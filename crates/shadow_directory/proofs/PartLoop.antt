-- The loop over the parts that a change renews.
use Rattle.std.proofs.Common.{◌≡◌, ◌+◌, ◌++◌, ◌∷◌, [], ℕ, List, true, false, filter, length, Option, None, sym, ap, ◌∙◌, subst, arith, length-append}
use Rattle.grid_model.specs.Lists.{below, is_among}
use Rattle.directory_changes.specs.Changes.{parts_changed}
use Rattle.directory_changes.specs.declared.change.DirectoryChange.{DirectoryChange}
use Rattle.shadow_directory.specs.declared.pages.ChangePages.{Ghosts}
use Rattle.std.specs.Prelude.{Ok}
use Rattle.shadow_directory.specs.declared.room.PartRoom.{PartRoom}
use Rattle.shadow_directory.specs.Calls.{Keeps, Tells, Holds}
use Rattle.shadow_directory.specs.Directories.{AreAfter}
use Rattle.shadow_directory.specs.NewPages.{part_pages, WroteParts}
use Rattle.shadow_directory.specs.Reads.{part_reads, held_after}
use Rattle.shadow_directory.specs.WrittenParts.{WritesPart}
use Rattle.shadow_directory.proofs.Read.{reads_along, held_along, along-more, held-behind}
use Rattle.shadow_directory.proofs.Keeping.{keeps-on, tells-on}
use Rattle.shadow_directory.proofs.Written.{passed-over, taken-in, wrote-more, pages-more}

-- the parts below n that the change renews have been written
pub record PartsWritten {P : Type 0} (g : Ghosts P) {K : ℕ} (ns : List ℕ) (change : DirectoryChange K) (first now : P) (holding : Option ℕ) (bytes : List ℕ) (start steps n : ℕ) : Type 0 where
  pub keeps : Keeps g first now
  pub held : Holds g ns now holding bytes
  pub written : (D : List ℕ) (after : ℕ → List ℕ) → Tells g first ns D → AreAfter ns change D after → g.written now ≡ g.written first ++ part_pages after (filter (is_among (parts_changed ns change)) (below n))
  pub wrote : WroteParts (filter (is_among (parts_changed ns change)) (below n)) (g.written first) (g.written now)
  pub left : g.room now + length (filter (is_among (parts_changed ns change)) (below n)) ≡ g.room first
  pub reads : steps ≡ start + reads_along ns change None (filter (is_among (parts_changed ns change)) (below n))
  pub last : holding ≡ held_along ns change None (filter (is_among (parts_changed ns change)) (below n))

-- where the loop's variables are others that are the same
pub loop-at : {P : Type 0} {g : Ghosts P} {K : ℕ} (ns : List ℕ) (change : DirectoryChange K) (first a b : P) (held other : Option ℕ) (room next : PartRoom) (start steps count n : ℕ) → b ≡ a → other ≡ held → next ≡ room → count ≡ steps
    → PartsWritten g ns change first a held room.old_page start steps n → PartsWritten g ns change first b other next.old_page start count n
loop-at {P} {g} ns change first a b held other room next start steps count n p q r s w =
    subst (λ (x : P). PartsWritten g ns change first x other next.old_page start count n) (sym p)
    (subst (λ (x : Option ℕ). PartsWritten g ns change first a x next.old_page start count n) (sym q)
    (subst (λ (x : PartRoom). PartsWritten g ns change first a held x.old_page start count n) (sym r)
    (subst (λ (x : ℕ). PartsWritten g ns change first a held room.old_page start x n) (sym s) w)))

module _ {P : Type 0} {g : Ghosts P} {K : ℕ} (ns : List ℕ) (change : DirectoryChange K) (first now : P) (held : Option ℕ) (bytes : List ℕ) (start steps n : ℕ) (w : PartsWritten g ns change first now held bytes start steps n) where
  -- a part that it does not renew
  pub part-passed : is_among (parts_changed ns change) n ≡ false → PartsWritten g ns change first now held bytes start steps (n + 1)
  part-passed e =
      let same = passed-over (is_among (parts_changed ns change)) n e in
      record {
        keeps = w.keeps;
        held = w.held;
        written = λ D after tells are. w.written D after tells are ∙ ap (λ ps. g.written first ++ part_pages after ps) (sym same);
        wrote = subst (λ ps. WroteParts ps (g.written first) (g.written now)) (sym same) w.wrote;
        left = omega (arith, w.left, ap length same);
        reads = w.reads ∙ ap (λ ps. start + reads_along ns change None ps) (sym same);
        last = w.last ∙ ap (held_along ns change None) (sym same);
      }

  -- one that it renews
  pub part-more : {T : Type 0} (law : (a b c : P) → g.stays a b → g.stays b c → g.stays a c) (next : P) (held_next : Option ℕ) (bytes_next : List ℕ) (steps_next : ℕ) (v : T) → is_among (parts_changed ns change) n ≡ true → WritesPart {T = T} g ns change n (Ok v) now next bytes_next → Holds g ns next held_next bytes_next
      → held_next ≡ held_after ns change held n → steps_next ≡ steps + part_reads ns change held n → PartsWritten g ns change first next held_next bytes_next start steps_next (n + 1)
  part-more law next held_next bytes_next steps_next v e did holds last reads =
      let more = taken-in (is_among (parts_changed ns change)) n e in
      let done = filter (is_among (parts_changed ns change)) (below n) in
      record {
        keeps = keeps-on law w.keeps did.same;
        held = holds;
        written = λ D after tells are.
            pages-more after done n (g.written first) (g.written now) (g.written next) (w.written D after tells are) (did.written D (after n) (tells-on w.keeps tells) (are n e))
            ∙ ap (λ ps. g.written first ++ part_pages after ps) (sym more);
        wrote = subst (λ ps. WroteParts ps (g.written first) (g.written next)) (sym more) (wrote-more done n (g.written first) (g.written now) (g.written next) w.wrote did.wrote);
        left = omega (arith, w.left, did.left, ap length more, length-append done (n ∷ []));
        reads = omega (arith, w.reads, reads, ap (reads_along ns change None) more, along-more ns change None done n, ap (λ h. part_reads ns change h n) w.last);
        last = last ∙ ap (λ h. held_after ns change h n) w.last ∙ sym (held-behind ns change None done n) ∙ ap (held_along ns change None) (sym more);
      }
