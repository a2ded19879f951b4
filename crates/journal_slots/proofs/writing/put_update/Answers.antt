use Rattle.std.proofs.Common.{◌≡◌, ◌∙◌, ◌+◌, ◌-◌, ap, take, length, replicate, ℕ, List, [], ◌∷◌, ◌++◌, arith, length-append, refl}
use Rattle.grid_types.specs.declared.sizes.TheConstants.{UPDATE_BYTES}
use Rattle.std.proofs.lemmas.List.{length-take-le}
use Rattle.page_fields.specs.Fields.{bytes_of}
use Rattle.page_fields.specs.Padded.{padded, numbers}
use Rattle.grid_model.specs.Notes.{updated_key}
use Rattle.grid_model.specs.Spellings.{update_code, note_code, note_attribute, note_bucket, note_boundary}
use Rattle.journal_slots.proofs.Parts.{update_written}
use Rattle.journal_slots.proofs.writing.put_update.Goals as goal

pub returns : goal.returns
returns g c =
    let at = c.args.at in
    let u = c.args.noted.now in
    let v = c.bytes-data.result.now in
    let d : take (at + 48) c.put_corner.new.page ≡ take (at + 16) c.set_u64.new.page ++ padded 32 (numbers 8 (updated_key u.update)) =
    ap (λ (n : ℕ). take n c.put_corner.new.page) (omega arith) ∙ c.put_corner.ensures.front ∙ ap (λ (k : List ℕ). take (at + 16) c.set_u64.new.page ++ padded 32 (numbers 8 k)) c.key.ensures in
    let key : length (padded 32 (numbers 8 (updated_key u.update))) ≡ 32 =
    omega (arith, ap length d, length-append (take (at + 16) c.set_u64.new.page) (padded 32 (numbers 8 (updated_key u.update))), length-take-le (at + 48) c.put_corner.new.page (omega (arith, c.put_corner.array_long, c.requires.room)), length-take-le (at + 16) c.set_u64.new.page (omega (arith, c.set_u64.array_long, c.requires.room))) in
    let a : take (at + 4) c.put_bytes.new.page ≡ take at c.args.page.now ++ update_code u.update ∷ note_code u.note ∷ note_attribute u.note ∷ length v ∷ [] =
    c.put_bytes.ensures.front ∙ rw (c.kind.ensures, c.code.ensures, c.attribute.ensures) refl in
    let b : take (at + 8) c.set_u32.new.page ≡ take (at + 4) c.put_bytes.new.page ++ bytes_of 4 (note_bucket u.note) =
    ap (λ (n : ℕ). take n c.set_u32.new.page) (omega arith) ∙ c.set_u32.ensures.front ∙ ap (λ (n : ℕ). take (at + 4) c.put_bytes.new.page ++ bytes_of 4 n) c.bucket.ensures in
    let e : take (at + 16) c.set_u64.new.page ≡ take (at + 8) c.set_u32.new.page ++ bytes_of 8 (note_boundary u.note) =
    ap (λ (n : ℕ). take n c.set_u64.new.page) (omega arith) ∙ c.set_u64.ensures.front ∙ ap (λ (n : ℕ). take (at + 8) c.set_u32.new.page ++ bytes_of 8 n) c.boundary.ensures in
    let rest : at + UPDATE_BYTES - (at + 48 + length v) ≡ UPDATE_BYTES - 48 - length v = omega arith in
    record {
      front = update_written u (take at c.args.page.now) v _ _ _ _ (take (at + 48 + length v) c.put_bytes-2.new.page) (take (at + UPDATE_BYTES) c.put_zeros.new.page) key c.bytes-data.ensures.short c.bytes-data.ensures.value a b e d
          c.put_bytes-2.ensures.front (c.put_zeros.ensures.front ∙ ap (λ (n : ℕ). take (at + 48 + length v) c.put_bytes-2.new.page ++ replicate {A = ℕ} n 0) rest);
    }
