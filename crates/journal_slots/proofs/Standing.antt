-- What stands in a page where a batch is spelled: each field at its offset.
use Rattle.std.proofs.Common.{◌≡◌, ◌<◌, ◌≤◌, ◌+◌, ◌-◌, ◌*◌, ◌^◌, ℕ, List, [], ◌∷◌, ◌++◌, length, take, drop, get_or, slice_index, replicate, codes, refl, sym, ap, ◌∙◌, append_assoc, length-append, arith}
use Rattle.grid_types.specs.declared.sizes.TheConstants.{HEAD_BYTES, LONGEST_DATA, UPDATE_BYTES}
use Rattle.std.specs.List.{flat_map, All}
use Rattle.std.proofs.lemmas.List.{drop-drop, take_at}
use Rattle.grid_types.specs.declared.layout_change.LayoutChange.{LayoutChange}
use Rattle.grid_types.specs.declared.layout_change.LayoutChange.TheVariants as note
use Rattle.grid_types.specs.declared.layout_change.LoggedUpdate.{LoggedUpdate}
use Rattle.grid_types.specs.declared.update.Update.{Update}
use Rattle.grid_types.specs.declared.update.Update.TheVariants.{Put, Remove}
use Rattle.page_fields.specs.Fields.{number, bytes_of}
use Rattle.page_fields.specs.Padded.{padded, numbers}
use Rattle.page_fields.specs.Corners.{CornerAt}
use Rattle.page_fields.proofs.BytesOf.{number-back, length-bytes_of, length-padded}
use Rattle.page_fields.proofs.Places.{behind, byte_there, part_at, corner_there}
use Rattle.grid_model.specs.Notes.{updated_key}
use Rattle.grid_model.specs.Spellings.{LoggedBatch, update_code, note_code, note_attribute, note_bucket, note_boundary, update_data, update_bytes, slot_head, slot_spelling}
use Rattle.grid_model.proofs.Corners.{length-key}
use Rattle.grid_model.specs.Lawful.{IsLoggedUpdate, StandsWith, IsBatch}
use Rattle.journal_slots.specs.Reading.{NoteAt, ChangeAt, NotedAt, UpdatesAt, BatchAt}
use Rattle.journal_slots.proofs.Parts.{rest_bytes, update_is, head_is}

pub length_update : {K : ℕ} (u : LoggedUpdate K) → K ≤ 4 → IsLoggedUpdate u → length (update_bytes u) ≡ UPDATE_BYTES
length_update {K} u few fits =
    let k = padded 32 (numbers 8 (updated_key u.update)) in
    let v = padded LONGEST_DATA (update_data u.update) in
    let n4 = bytes_of 4 (note_bucket u.note) in
    let n8 = bytes_of 8 (note_boundary u.note) in
    let z : List ℕ = replicate rest_bytes 0 in
    let key : length k ≡ 32 = length-key K (updated_key u.update) few fits.update.key in
    let value : length v ≡ LONGEST_DATA = length-padded LONGEST_DATA (update_data u.update) fits.update.value in
    let tail : length (n4 ++ (n8 ++ (k ++ (v ++ z)))) ≡ UPDATE_BYTES - 4 = length-append n4 (n8 ++ (k ++ (v ++ z)))
    ∙ omega (arith, length-append n8 (k ++ (v ++ z)), length-append k (v ++ z), length-append v z, length-bytes_of 4 (note_bucket u.note), length-bytes_of 8 (note_boundary u.note), key, value) in
    ap length (update_is u key fits.update.value) ∙ omega (arith, tail)

-- the fields of an update in a page, whatever update and note they are of
record FieldsAt (K : ℕ) (page : List ℕ) (at : ℕ) (u : LoggedUpdate K) : Type 0 where
  kind : slice_index page at ≡ update_code u.update
  code : slice_index page (at + 1) ≡ note_code u.note
  attribute : slice_index page (at + 2) ≡ note_attribute u.note
  size : slice_index page (at + 3) ≡ length (update_data u.update)
  bucket : drop (at + 4) page ≡ bytes_of 4 (note_bucket u.note) ++ drop (at + 8) page
  boundary : drop (at + 8) page ≡ bytes_of 8 (note_boundary u.note) ++ drop (at + 16) page
  key : CornerAt K page (at + 16) (updated_key u.update)
  value : update_data u.update ≡ take (slice_index page (at + 3)) (drop (at + 48) page)

fields_there : (K : ℕ) (page : List ℕ) (at : ℕ) (u : LoggedUpdate K) (rest : List ℕ) → K ≤ 4 → IsLoggedUpdate u → drop at page ≡ update_bytes u ++ rest → FieldsAt K page at u
unfolding padded
fields_there K page at u rest few fits e =
    let key = padded 32 (numbers 8 (updated_key u.update)) in
    let value = update_data u.update in
    let n4 = bytes_of 4 (note_bucket u.note) in
    let n8 = bytes_of 8 (note_boundary u.note) in
    let zs : List ℕ = replicate (LONGEST_DATA - length value) 0 in
    let tail = value ++ (zs ++ (replicate rest_bytes 0 ++ rest)) in
    let at0 : drop at page ≡ update_code u.update ∷ note_code u.note ∷ note_attribute u.note ∷ length value ∷ (n4 ++ (n8 ++ (key ++ tail))) =
    e ∙ ap (λ (b : List ℕ). b ++ rest) (update_is u (length-key K (updated_key u.update) few fits.update.key) fits.update.value) ∙ simp append_assoc in
    let at1 : drop (at + 1) page ≡ note_code u.note ∷ note_attribute u.note ∷ length value ∷ (n4 ++ (n8 ++ (key ++ tail))) = behind at 1 (at + 1) page (update_code u.update ∷ []) _ at0 refl refl in
    let at2 : drop (at + 2) page ≡ note_attribute u.note ∷ length value ∷ (n4 ++ (n8 ++ (key ++ tail))) = behind (at + 1) 1 (at + 2) page (note_code u.note ∷ []) _ at1 refl (omega arith) in
    let at3 : drop (at + 3) page ≡ length value ∷ (n4 ++ (n8 ++ (key ++ tail))) = behind (at + 2) 1 (at + 3) page (note_attribute u.note ∷ []) _ at2 refl (omega arith) in
    let at4 : drop (at + 4) page ≡ n4 ++ (n8 ++ (key ++ tail)) = behind (at + 3) 1 (at + 4) page (length value ∷ []) _ at3 refl (omega arith) in
    let at8 : drop (at + 8) page ≡ n8 ++ (key ++ tail) = behind (at + 4) 4 (at + 8) page n4 _ at4 (length-bytes_of 4 (note_bucket u.note)) (omega arith) in
    let at16 : drop (at + 16) page ≡ key ++ tail = behind (at + 8) 8 (at + 16) page n8 _ at8 (length-bytes_of 8 (note_boundary u.note)) (omega arith) in
    let at48 : drop (at + 48) page ≡ tail = behind (at + 16) 32 (at + 48) page key tail at16 (length-key K (updated_key u.update) few fits.update.key) (omega arith) in
    let size : slice_index page (at + 3) ≡ length value = byte_there (at + 3) page (length value) _ at3 in
    record {
      kind = byte_there at page (update_code u.update) _ at0;
      code = byte_there (at + 1) page (note_code u.note) _ at1;
      attribute = byte_there (at + 2) page (note_attribute u.note) _ at2;
      size = size;
      bucket = at4 ∙ ap (λ (r : List ℕ). n4 ++ r) (sym at8);
      boundary = at8 ∙ ap (λ (r : List ℕ). n8 ++ r) (sym at16);
      key = corner_there K page (at + 16) (updated_key u.update) tail at16 fits.update.key.count fits.update.key.in_range;
      value = sym (ap (λ (n : ℕ). take n (drop (at + 48) page)) size ∙ ap (take (length value)) at48 ∙ take_at value (zs ++ (replicate rest_bytes 0 ++ rest)) (length value) refl);
    }

-- the change of an update stands where its fields do
change_there : (K : ℕ) (page : List ℕ) (at : ℕ) (update : Update K) (note : LayoutChange) → length (update_data update) ≤ LONGEST_DATA → FieldsAt K page at (record { update = update; note = note }) → ChangeAt K page at update
change_there K page at (Put r) note le f = record { kind = f.kind; key = f.key; value = f.value; short = omega (arith, f.size, le) }
change_there K page at (Remove k) note le f = record { kind = f.kind; key_is = f.key }

word_there : (page rest : List ℕ) (at x : ℕ) → drop at page ≡ bytes_of 4 x ++ rest → x < 2 ^ 32 → x ≡ number 4 (drop at page)
word_there page rest at x e lt = sym (ap (number 4) e ∙ number-back 4 x rest (omega (arith, lt)))

long_there : (page rest : List ℕ) (at x : ℕ) → drop at page ≡ bytes_of 8 x ++ rest → x < 2 ^ 64 → x ≡ number 8 (drop at page)
long_there page rest at x e lt = sym (ap (number 8) e ∙ number-back 8 x rest lt)

-- the note of an update stands where its fields do
note_there : (K : ℕ) (page : List ℕ) (at : ℕ) (update : Update K) (n : LayoutChange) → StandsWith update n → FieldsAt K page at (record { update = update; note = n }) → NoteAt page at n
note_there K page at update note.Plain s f = f.code
note_there K page at (Put r) (note.Cut c right) s f = record {
  kind = f.code;
  attribute = sym f.attribute;
  boundary = long_there page (drop (at + 16) page) (at + 8) c.value f.boundary s.1;
  in_range = s.1;
  bucket = word_there page (drop (at + 8) page) (at + 4) right f.bucket s.2;
  bucket_in_range = s.2;
}
note_there K page at (Remove k) (note.Cut c right) s f = absurd s
note_there K page at (Put r) (note.Merge m) s f = absurd s
note_there K page at (Remove k) (note.Merge m) s f = record { kind = f.code; bucket = word_there page (drop (at + 8) page) (at + 4) m f.bucket s; bucket_in_range = s }

-- an update stands where it was spelled
noted_there : (K : ℕ) (page : List ℕ) (at : ℕ) (u : LoggedUpdate K) (rest : List ℕ) → K ≤ 4 → IsLoggedUpdate u → drop at page ≡ update_bytes u ++ rest → NotedAt K page at u
noted_there K page at u rest few fits e =
    let f = fields_there K page at u rest few fits e in
    record { update = change_there K page at u.update u.note fits.update.value f; note = note_there K page at u.update u.note fits.note f }

updates_there : (K : ℕ) (page zs : List ℕ) (us : List (LoggedUpdate K)) → K ≤ 4 → All IsLoggedUpdate us → drop 96 page ≡ flat_map update_bytes us ++ zs → UpdatesAt K page us
updates_there K page zs us few fits e i d lt =
    let p = part_at update_bytes UPDATE_BYTES us zs i d (λ k h. length_update (get_or us k d) few (fits k d h)) lt in
    noted_there K page (HEAD_BYTES + UPDATE_BYTES * i) (get_or us i d) p.0 few (fits i d lt) (sym (drop-drop (UPDATE_BYTES * i) HEAD_BYTES page) ∙ ap (drop (UPDATE_BYTES * i)) e ∙ p.1)

-- the page of a batch is its head and its updates, filled up with zeros
pub page_is : {K : ℕ} (b : LoggedBatch K) → slot_spelling b ≡ slot_head b ++ padded 4000 (flat_map update_bytes b.updates)
unfolding slot_spelling
page_is b = refl

-- a batch stands where it is spelled
pub batch_there : (K : ℕ) (page : List ℕ) (b : LoggedBatch K) → K ≤ 4 → IsBatch b → page ≡ slot_spelling b → BatchAt K page b
unfolding padded
batch_there K page b few fits e =
    let n2 = bytes_of 2 (length b.updates) in
    let s8 = bytes_of 8 b.session in
    let f8 = bytes_of 8 b.first in
    let flat = flat_map update_bytes b.updates in
    let body = padded 4000 flat in
    let at0 : page ≡ codes "GFJ1" ++ (n2 ++ (0 ∷ 0 ∷ (s8 ++ (f8 ++ (replicate 72 0 ++ body))))) = e ∙ page_is b ∙ ap (λ (h : List ℕ). h ++ body) (head_is b) ∙ simp append_assoc in
    let at4 : drop 4 page ≡ n2 ++ (0 ∷ 0 ∷ (s8 ++ (f8 ++ (replicate 72 0 ++ body)))) = behind 0 4 4 page (codes "GFJ1") _ at0 refl refl in
    let at6 : drop 6 page ≡ 0 ∷ 0 ∷ (s8 ++ (f8 ++ (replicate 72 0 ++ body))) = behind 4 2 6 page n2 _ at4 (length-bytes_of 2 (length b.updates)) refl in
    let at8 : drop 8 page ≡ s8 ++ (f8 ++ (replicate 72 0 ++ body)) = behind 6 2 8 page (0 ∷ 0 ∷ []) (s8 ++ (f8 ++ (replicate 72 0 ++ body))) at6 refl refl in
    let at16 : drop 16 page ≡ f8 ++ (replicate 72 0 ++ body) = behind 8 8 16 page s8 (f8 ++ (replicate 72 0 ++ body)) at8 (length-bytes_of 8 b.session) refl in
    let at24 : drop 24 page ≡ replicate 72 0 ++ body = behind 16 8 24 page f8 (replicate 72 0 ++ body) at16 (length-bytes_of 8 b.first) refl in
    let at96 : drop 96 page ≡ body = behind 24 72 96 page (replicate 72 0) body at24 refl refl in
    record {
      session = long_there page _ 8 b.session at8 fits.session;
      in_range = fits.session;
      first = long_there page _ 16 b.first at16 (omega (arith, fits.last));
      count = sym (ap (number 2) at4 ∙ number-back 2 (length b.updates) _ (omega (arith, fits.few)));
      updates = updates_there K page (replicate (4000 - length flat) 0) b.updates few fits.updates at96;
    }
