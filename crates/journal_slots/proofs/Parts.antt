-- The parts of a slot page, one behind the other.
use Rattle.std.proofs.Common.{◌≡◌, ◌≤◌, ◌+◌, ◌-◌, ℕ, List, [], ◌∷◌, ◌++◌, length, refl, ap, ◌∙◌, append_assoc, length-append, arith, replicate, codes}
use Rattle.grid_types.specs.declared.sizes.TheConstants.{LONGEST_DATA, UPDATE_BYTES}
use Rattle.std.proofs.lemmas.List.{replicate-append-replicate}
use Rattle.grid_types.specs.declared.layout_change.LoggedUpdate.{LoggedUpdate}
use Rattle.page_fields.specs.Fields.{bytes_of}
use Rattle.page_fields.specs.Padded.{padded, numbers}
use Rattle.page_fields.proofs.BytesOf.{length-bytes_of, length-padded, filled_with}
use Rattle.grid_model.specs.Notes.{updated_key}
use Rattle.grid_model.specs.Spellings.{LoggedBatch, update_code, note_code, note_attribute, note_bucket, note_boundary, update_data, update_bytes, slot_head}

-- zeros behind a field that was filled up
zeros_behind : (n m : ℕ) (v : List ℕ) → length v ≤ n → padded n v ++ replicate m 0 ≡ v ++ replicate (n + m - length v) 0
unfolding padded
zeros_behind n m v le =
    let all : n - length v + m ≡ n + m - length v = omega arith in
    append_assoc v (replicate (n - length v) 0) (replicate m 0)
    ∙ ap (λ (z : List ℕ). v ++ z) (replicate-append-replicate {A = ℕ} (n - length v) m 0 ∙ ap (λ (k : ℕ). replicate {A = ℕ} k 0) all)

-- how many zeros stand behind the data of an update
abbrev pub rest_bytes : ℕ
rest_bytes = UPDATE_BYTES - (48 + LONGEST_DATA)

-- the fields of an update, and what stands behind them
abbrev pub fields_of : {K : ℕ} → LoggedUpdate K → List ℕ → List ℕ
fields_of u rest = update_code u.update ∷ note_code u.note ∷ note_attribute u.note ∷ length (update_data u.update)
    ∷ (bytes_of 4 (note_bucket u.note) ++ (bytes_of 8 (note_boundary u.note) ++ (padded 32 (numbers 8 (updated_key u.update)) ++ (padded LONGEST_DATA (update_data u.update) ++ rest))))

-- an update, field by field, and the zeros behind
pub update_is : {K : ℕ} (u : LoggedUpdate K) → length (padded 32 (numbers 8 (updated_key u.update))) ≡ 32 → length (update_data u.update) ≤ LONGEST_DATA → update_bytes u ≡ fields_of u (replicate rest_bytes 0)
unfolding update_bytes
update_is u key le =
    let k = padded 32 (numbers 8 (updated_key u.update)) in
    let v = padded LONGEST_DATA (update_data u.update) in
    let n4 = bytes_of 4 (note_bucket u.note) in
    let n8 = bytes_of 8 (note_boundary u.note) in
    let value : length v ≡ LONGEST_DATA = length-padded LONGEST_DATA (update_data u.update) le in
    let long : length (n4 ++ (n8 ++ (k ++ v))) ≡ 44 + LONGEST_DATA = length-append n4 (n8 ++ (k ++ v)) ∙ omega (arith, length-append n8 (k ++ v), length-append k v, length-bytes_of 4 (note_bucket u.note), length-bytes_of 8 (note_boundary u.note), key, value) in
    let four : List ℕ = update_code u.update ∷ note_code u.note ∷ note_attribute u.note ∷ length (update_data u.update) ∷ [] in
    filled_with UPDATE_BYTES rest_bytes (four ++ (n4 ++ (n8 ++ (k ++ v)))) (omega (arith, long)) ∙ simp append_assoc

-- the front of a page once an update was written behind it, field by field
pub update_written : {K : ℕ} (u : LoggedUpdate K) (front v a b c d e f : List ℕ) → length (padded 32 (numbers 8 (updated_key u.update))) ≡ 32 → length (update_data u.update) ≤ LONGEST_DATA → v ≡ update_data u.update
    → a ≡ front ++ update_code u.update ∷ note_code u.note ∷ note_attribute u.note ∷ length v ∷ [] → b ≡ a ++ bytes_of 4 (note_bucket u.note) → c ≡ b ++ bytes_of 8 (note_boundary u.note)
    → d ≡ c ++ padded 32 (numbers 8 (updated_key u.update)) → e ≡ d ++ v → f ≡ e ++ replicate (UPDATE_BYTES - 48 - length v) 0
    → f ≡ front ++ update_bytes u
update_written u front v a b c d e f key le ev ea eb ec ed ee ef =
    let tail : padded LONGEST_DATA (update_data u.update) ++ replicate rest_bytes 0 ≡ update_data u.update ++ replicate (UPDATE_BYTES - 48 - length (update_data u.update)) 0 = zeros_behind LONGEST_DATA rest_bytes (update_data u.update) le in
    let fields : f ≡ front ++ (update_code u.update ∷ note_code u.note ∷ note_attribute u.note ∷ length (update_data u.update)
    ∷ (bytes_of 4 (note_bucket u.note) ++ (bytes_of 8 (note_boundary u.note) ++ (padded 32 (numbers 8 (updated_key u.update)) ++ (update_data u.update ++ replicate (UPDATE_BYTES - 48 - length (update_data u.update)) 0))))) =
    ef ∙ rw (ee, ed, ec, eb, ea, ev) (simp append_assoc) in
    fields ∙ rw (update_is u key le, tail) refl

-- the head, field by field
pub head_is : {K : ℕ} (b : LoggedBatch K) → slot_head b ≡ codes "GFJ1" ++ (bytes_of 2 (length b.updates) ++ (0 ∷ 0 ∷ (bytes_of 8 b.session ++ (bytes_of 8 b.first ++ replicate 72 0))))
unfolding slot_head
head_is b =
    let n2 = bytes_of 2 (length b.updates) in
    let s8 = bytes_of 8 b.session in
    let f8 = bytes_of 8 b.first in
    let long : length (n2 ++ (0 ∷ 0 ∷ (s8 ++ f8))) ≡ 20 = length-append n2 (0 ∷ 0 ∷ (s8 ++ f8)) ∙ omega (arith, length-append s8 f8, length-bytes_of 2 (length b.updates), length-bytes_of 8 b.session, length-bytes_of 8 b.first) in
    filled_with 96 72 (codes "GFJ1" ++ (n2 ++ (0 ∷ 0 ∷ (s8 ++ f8)))) (omega (arith, long)) ∙ simp append_assoc

-- the front of a page once a head was written, field by field
pub head_written : {K : ℕ} (b : LoggedBatch K) (front a1 a2 a3 a4 a5 a6 : List ℕ) (count : ℕ) → count ≡ length b.updates
    → a1 ≡ front ++ codes "GFJ1" → a2 ≡ a1 ++ bytes_of 2 count → a3 ≡ a2 ++ 0 ∷ 0 ∷ [] → a4 ≡ a3 ++ bytes_of 8 b.session → a5 ≡ a4 ++ bytes_of 8 b.first → a6 ≡ a5 ++ replicate 72 0
    → a6 ≡ front ++ slot_head b
head_written b front a1 a2 a3 a4 a5 a6 count el e1 e2 e3 e4 e5 e6 = e6 ∙ rw (e5, e4, e3, e2, e1, el, head_is b) (simp append_assoc)
