-- In a page stands one batch at most, and one that stands there is lawful where its fields are.
use Rattle.std.proofs.Common.{◌≡◌, ◌<◌, ◌≤◌, ◌+◌, ◌*◌, ◌^◌, ℕ, Bool, true, false, List, length, drop, get_or, slice_index, refl, sym, ap, subst, ◌∙◌, arith}
use Rattle.grid_types.specs.declared.sizes.TheConstants.{HEAD_BYTES, LONGEST_DATA, UPDATE_BYTES}
use Rattle.std.specs.Prelude.{cond}
use Rattle.std.proofs.lemmas.List.{same_lists}
use Rattle.grid_types.specs.declared.layout_change.Cut.{Cut}
use Rattle.grid_types.specs.declared.layout_change.LayoutChange.{LayoutChange}
use Rattle.grid_types.specs.declared.layout_change.LayoutChange.TheVariants as note
use Rattle.grid_types.specs.declared.layout_change.LoggedUpdate.{LoggedUpdate}
use Rattle.grid_types.specs.declared.update.Update.{Update}
use Rattle.grid_types.specs.declared.update.Update.TheVariants.{Put, Remove}
use Rattle.page_fields.specs.Fields.{number}
use Rattle.page_fields.proofs.Places.{one_corner}
use Rattle.grid_model.proofs.Corners.{corner-is-key, few-taken}
use Rattle.grid_model.specs.Spellings.{LoggedBatch}
use Rattle.grid_model.specs.Lawful.{IsUpdateOf, StandsWith, IsBatch}
use Rattle.journal_slots.specs.Reading.{CutAt, NoteAt, ChangeAt, NotedAt, UpdatesAt, BatchAt, NoteFits, AreLawfulBatchFields}

-- the code of a cut tells whether its boundary is fresh
abbrev cut_code : Bool → ℕ
cut_code fresh = cond fresh 2 1

one_kind : (a b : Bool) → cut_code a ≡ cut_code b → a ≡ b
one_kind true true e = refl
one_kind false false e = refl
one_kind true false e = absurd (omega (arith, e))
one_kind false true e = absurd (omega (arith, e))

no_cut : (a : Bool) (n : ℕ) → n ≡ cut_code a → (1 ≤ n) × (n ≤ 2)
no_cut true n e = (omega (arith, e), omega (arith, e))
no_cut false n e = (omega (arith, e), omega (arith, e))

one_cut : (page : List ℕ) (at : ℕ) (c d : Cut) (right other : ℕ) → CutAt page at c right → CutAt page at d other → note.Cut c right ≡ note.Cut d other
one_cut page at c d right other x y =
    let attribute : c.attribute ≡ d.attribute = x.attribute ∙ sym y.attribute in
    let value : c.value ≡ d.value = x.boundary ∙ sym y.boundary in
    let fresh : c.fresh ≡ d.fresh = one_kind c.fresh d.fresh (sym x.kind ∙ y.kind) in
    let bucket : right ≡ other = x.bucket ∙ sym y.bucket in
    λ i. note.Cut (record { attribute = attribute i; value = value i; fresh = fresh i }) (bucket i)

one_note : (page : List ℕ) (at : ℕ) (n m : LayoutChange) → NoteAt page at n → NoteAt page at m → n ≡ m
one_note page at note.Plain note.Plain x y = refl
one_note page at note.Plain (note.Cut d other) x y = let k = no_cut d.fresh (slice_index page (at + 1)) y.kind in absurd (omega (arith, x, k.0))
one_note page at note.Plain (note.Merge m) x y = absurd (omega (arith, x, y.kind))
one_note page at (note.Cut c right) note.Plain x y = let k = no_cut c.fresh (slice_index page (at + 1)) x.kind in absurd (omega (arith, y, k.0))
one_note page at (note.Cut c right) (note.Cut d other) x y = one_cut page at c d right other x y
one_note page at (note.Cut c right) (note.Merge m) x y = let k = no_cut c.fresh (slice_index page (at + 1)) x.kind in absurd (omega (arith, y.kind, k.1))
one_note page at (note.Merge m) note.Plain x y = absurd (omega (arith, y, x.kind))
one_note page at (note.Merge m) (note.Cut d other) x y = let k = no_cut d.fresh (slice_index page (at + 1)) y.kind in absurd (omega (arith, x.kind, k.1))
one_note page at (note.Merge m) (note.Merge k) x y = ap note.Merge (x.bucket ∙ sym y.bucket)

one_change : (K : ℕ) (page : List ℕ) (at : ℕ) (u v : Update K) → ChangeAt K page at u → ChangeAt K page at v → u ≡ v
one_change K page at (Put r) (Put s) x y =
    let key : r.key.numbers ≡ s.key.numbers = one_corner K page (at + 16) s.key.numbers r.key.numbers y.key x.key in
    let value : r.value ≡ s.value = x.value ∙ sym y.value in
    λ i. Put (record { key = record { numbers = key i }; value = value i })
one_change K page at (Put r) (Remove k) x y = absurd (omega (arith, x.kind, y.kind))
one_change K page at (Remove k) (Put r) x y = absurd (omega (arith, x.kind, y.kind))
one_change K page at (Remove k) (Remove m) x y =
    let key : k.numbers ≡ m.numbers = one_corner K page (at + 16) m.numbers k.numbers y.key_is x.key_is in
    λ i. Remove (record { numbers = key i })

one_noted : (K : ℕ) (page : List ℕ) (at : ℕ) (u v : LoggedUpdate K) → NotedAt K page at u → NotedAt K page at v → u ≡ v
one_noted K page at u v x y =
    let update : u.update ≡ v.update = one_change K page at u.update v.update x.update y.update in
    let note : u.note ≡ v.note = one_note page at u.note v.note x.note y.note in
    λ i. record { update = update i; note = note i }

pub one_batch : (K : ℕ) (page : List ℕ) (a b : LoggedBatch K) → BatchAt K page a → BatchAt K page b → a ≡ b
one_batch K page a b x y =
    let session : a.session ≡ b.session = x.session ∙ sym y.session in
    let first : a.first ≡ b.first = x.first ∙ sym y.first in
    let long : length a.updates ≡ length b.updates = x.count ∙ sym y.count in
    let updates : a.updates ≡ b.updates = same_lists a.updates b.updates long (λ i d lt.
    one_noted K page (HEAD_BYTES + UPDATE_BYTES * i) (get_or a.updates i d) (get_or b.updates i d) (x.updates i d lt) (y.updates i d (omega (arith, long, lt)))) in
    λ i. record { session = session i; first = first i; updates = updates i }

-- a batch stands in a page where its fields were read
pub batch_read : (K : ℕ) (page : List ℕ) (session first count : ℕ) (updates : List (LoggedUpdate K)) → session ≡ number 8 (drop 8 page) → session < 2 ^ 64 → first ≡ number 8 (drop 16 page) → length updates ≡ count → count ≡ number 2 (drop 4 page) → UpdatesAt K page updates
    → BatchAt K page (record { session = session; first = first; updates = updates })
batch_read K page session first count updates session_is in_range first_is long count_is each = record { session = session_is; in_range = in_range; first = first_is; count = long ∙ count_is; updates = each }

-- lawful fields
change_fits : (K : ℕ) (page : List ℕ) (at : ℕ) (u : Update K) → ChangeAt K page at u → IsUpdateOf K u
change_fits K page at (Put r) x = record {
  key = corner-is-key K page (at + 16) r.key.numbers x.key;
  value = subst (λ (v : List ℕ). length v ≤ LONGEST_DATA) (sym x.value) (few-taken (slice_index page (at + 3)) LONGEST_DATA (drop (at + 48) page) x.short);
}
change_fits K page at (Remove k) x = record { key = corner-is-key K page (at + 16) k.numbers x.key_is; value = omega arith }

note_fits : (K : ℕ) (page : List ℕ) (at : ℕ) (u : Update K) (n : LayoutChange) → NoteAt page at n → NoteFits u n → StandsWith u n
note_fits K page at u note.Plain x f = tt
note_fits K page at (Put r) (note.Cut c right) x f = (f, x.in_range, x.bucket_in_range)
note_fits K page at (Remove k) (note.Cut c right) x f = absurd f
note_fits K page at (Put r) (note.Merge m) x f = absurd f
note_fits K page at (Remove k) (note.Merge m) x f = x.bucket_in_range

-- a batch that stands in a page is lawful where its fields are
pub read_batch_lawful : (K : ℕ) (page : List ℕ) (b : LoggedBatch K) → BatchAt K page b → length b.updates ≤ 16 → AreLawfulBatchFields b → IsBatch b
read_batch_lawful K page b read few lawful = record {
  some = lawful.some;
  few = few;
  session = read.in_range;
  first = lawful.first;
  last = lawful.last;
  updates = λ i d h.
      let at = read.updates i d h in
      record {
        update = change_fits K page (HEAD_BYTES + UPDATE_BYTES * i) (get_or b.updates i d).update at.update;
        note = note_fits K page (HEAD_BYTES + UPDATE_BYTES * i) (get_or b.updates i d).update (get_or b.updates i d).note at.note (lawful.notes i d h);
      };
}

fits_there : {K : ℕ} (u : Update K) (n : LayoutChange) → StandsWith u n → NoteFits u n
fits_there (Put r) note.Plain s = tt
fits_there (Remove k) note.Plain s = tt
fits_there (Put r) (note.Cut c right) s = s.0
fits_there (Remove k) (note.Cut c right) s = s
fits_there (Put r) (note.Merge m) s = s
fits_there (Remove k) (note.Merge m) s = tt

pub lawful_fields : {K : ℕ} (b : LoggedBatch K) → IsBatch b → AreLawfulBatchFields b
lawful_fields b fits = record { some = fits.some; first = fits.first; last = fits.last; notes = λ i d h. fits_there (get_or b.updates i d).update (get_or b.updates i d).note (fits.updates i d h).note }
