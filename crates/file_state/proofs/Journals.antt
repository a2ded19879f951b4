-- The journal's used slots, as the books have them.
use Rattle.std.proofs.Common.{◌≡◌, ℕ, zero, suc, Bool, cond, refl, sym, ◌∙◌, ap, arith}
use Rattle.std.specs.Prelude.{◌==◌, if◌then◌else◌}
use Rattle.std.proofs.lemmas.Bool.{eq-eqb, ne_eqb}
use Rattle.grid_types.specs.declared.half.Half.{Half}
use Rattle.grid_types.specs.Halves.{half_number}
use Rattle.file_books.specs.Books.{Books}
use Rattle.file_books.specs.Effects.{used_of, with_used, idle_half, cleaned_books}
use Rattle.file_state.specs.declared.memory.Journal.{Journal}
use Rattle.file_state.specs.declared.memory.Memory.{Memory}
use Rattle.file_state.specs.Journals.{used_slots, with_slots, other_number}
use Rattle.file_state.specs.Memories.{books_of}

pub used_same : {K : ℕ} (m : Memory K) (h : ℕ) → used_slots m.journal h ≡ used_of (books_of m) h
used_same m zero = refl
used_same m (suc h) = refl

pub with_same : {K : ℕ} (m : Memory K) (h n : ℕ) → books_of (record m { journal = with_slots m.journal h n }) ≡ with_used (books_of m) h n
with_same m zero n = refl
with_same m (suc h) n = refl

pub other_same : (h : ℕ) → other_number h ≡ (if h == 0 then 1 else 0)
other_same zero = refl
other_same (suc h) = sym (ap (λ (t : Bool). cond {A = ℕ} t 1 0) (ne_eqb (suc h) 0 (λ e. absurd (omega (arith, e)))))

-- clearing the other half leaves what is used of a half
kept_used : (j : Journal) (h : ℕ) → used_slots (with_slots j (other_number h) 0) h ≡ used_slots j h
kept_used j zero = refl
kept_used j (suc h) = refl

exchanged : {K : ℕ} (m : Memory K) (i : ℕ) (idle : Half) → books_of (record m { journal = record (with_slots m.journal i 0) { half = idle } }) ≡ record (with_used (books_of m) i 0) { half = half_number idle }
exchanged m zero idle = refl
exchanged m (suc i) idle = refl

module _ {K : ℕ} (m : Memory K) (idle : Half) (j : Journal) (other : half_number idle ≡ other_number (half_number m.journal.half)) (clear : j ≡ with_slots m.journal (half_number idle) 0) where
  is_idle : half_number idle ≡ idle_half (books_of m)
  is_idle = other ∙ other_same (half_number m.journal.half)

  same_used : used_slots j (half_number m.journal.half) ≡ used_of (books_of m) (half_number m.journal.half)
  same_used =
      ap (λ (k : Journal). used_slots k (half_number m.journal.half)) clear
      ∙ ap (λ (i : ℕ). used_slots (with_slots m.journal i 0) (half_number m.journal.half)) other
      ∙ kept_used m.journal (half_number m.journal.half) ∙ used_same m (half_number m.journal.half)

  -- a full half gives its role to the other one
  pub cleaned_full : used_slots j (half_number m.journal.half) ≡ m.geometry.shape.slots → books_of (record m { journal = record j { half = idle } }) ≡ cleaned_books (books_of m)
  cleaned_full full =
      ap (λ (k : Journal). books_of (record m { journal = record k { half = idle } })) clear
      ∙ exchanged m (half_number idle) idle
      ∙ ap (λ (i : ℕ). record (with_used (books_of m) i 0) { half = i }) is_idle
      ∙ sym (ap (λ (t : Bool). cond {A = Books} t (record (with_used (books_of m) (idle_half (books_of m)) 0) { half = idle_half (books_of m) }) (with_used (books_of m) (idle_half (books_of m)) 0))
      (eq-eqb (used_of (books_of m) (half_number m.journal.half)) m.geometry.shape.slots (sym same_used ∙ full)))

  -- and one that has a slot keeps it
  pub cleaned_not_full : (used_slots j (half_number m.journal.half) ≡ m.geometry.shape.slots → ⊥) → books_of (record m { journal = j }) ≡ cleaned_books (books_of m)
  cleaned_not_full room =
      ap (λ (k : Journal). books_of (record m { journal = k })) clear
      ∙ with_same m (half_number idle) 0
      ∙ ap (λ (i : ℕ). with_used (books_of m) i 0) is_idle
      ∙ sym (ap (λ (t : Bool). cond {A = Books} t (record (with_used (books_of m) (idle_half (books_of m)) 0) { half = idle_half (books_of m) }) (with_used (books_of m) (idle_half (books_of m)) 0))
      (ne_eqb (used_of (books_of m) (half_number m.journal.half)) m.geometry.shape.slots (λ e. room (same_used ∙ e))))
