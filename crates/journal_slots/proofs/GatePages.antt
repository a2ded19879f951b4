-- A page whose fields are those of a gate page is the spelling of the gates that it has.
use Rattle.std.proofs.Common.{◌≡◌, ◌≤◌, ◌<◌, ◌+◌, ◌-◌, ℕ, zero, suc, List, [], ◌∷◌, ◌++◌, length, take, drop, replicate, codes, refl, sym, ap, ◌∙◌, append_assoc, length-append, arith}
use Rattle.std.proofs.lemmas.List.{drop-drop, take-append-drop, append-nil, take_at, length-take-le, length-drop}
use Rattle.page_fields.specs.Fields.{bytes_of, AreZeros}
use Rattle.page_fields.specs.Padded.{padded}
use Rattle.page_fields.proofs.BytesOf.{length-bytes_of, filled_with}
use Rattle.page_fields.proofs.Places.{behind}
use Rattle.page_fields.proofs.ZeroParts.{zeros_are, zeros_spelled, zeros_to_end}
use Rattle.grid_model.specs.Spellings.{page, gate_spelling}
use Rattle.journal_slots.specs.Gates.{gates_in, IsGateHead}

-- the head of a gate page
abbrev pub gate_head : ℕ → List ℕ
gate_head half = padded 96 (codes "GFG1" ++ bytes_of 4 half)

pub gate_head_is : (half : ℕ) → gate_head half ≡ codes "GFG1" ++ (bytes_of 4 half ++ replicate 88 0)
gate_head_is half = filled_with 96 88 (codes "GFG1" ++ bytes_of 4 half) (omega (arith, length-bytes_of 4 half)) ∙ simp append_assoc

pub gate_page_is : (half : ℕ) (gates : List ℕ) → gate_spelling half gates ≡ gate_head half ++ padded 4000 gates
unfolding gate_spelling page
gate_page_is half gates = refl

pub length-gate_head : (half : ℕ) → length (gate_head half) ≡ 96
length-gate_head half = ap length (gate_head_is half) ∙ omega (arith, length-append (bytes_of 4 half) (replicate 88 0), length-bytes_of 4 half)

-- the number of a half in four bytes
half_bytes : (half : ℕ) → half < 2 → bytes_of 4 half ≡ 0 ∷ 0 ∷ 0 ∷ half ∷ []
unfolding bytes_of
half_bytes zero two = refl
half_bytes (suc zero) two = refl
half_bytes (suc (suc half)) two = absurd (omega (arith, two))

-- a page with that head, and zeros behind so many gates, is the gate page of its gates
pub gates_joined : (half slots : ℕ) (bytes : List ℕ) → half < 2 → slots ≤ 4000 → length bytes ≡ 4096 → IsGateHead half bytes → AreZeros (96 + slots) 4096 bytes → bytes ≡ gate_spelling half (gates_in slots bytes)
unfolding padded
gates_joined half slots bytes two few long h zeros =
    let gates = gates_in slots bytes in
    let size : length gates ≡ slots = length-take-le slots (drop 96 bytes) (simp length-drop (omega arith)) in
    let left : 4096 - (96 + slots) ≡ 4000 - length gates = omega (arith, size) in
    let tail : drop (96 + slots) bytes ≡ replicate (4000 - length gates) 0 = zeros_to_end (96 + slots) 4096 bytes (omega arith) long zeros ∙ ap (λ (n : ℕ). replicate n 0) left in
    let body : drop 96 bytes ≡ padded 4000 gates =
    sym (take-append-drop slots (drop 96 bytes)) ∙ ap (λ (r : List ℕ). gates ++ r) (drop-drop slots 96 bytes ∙ ap (λ (k : ℕ). drop k bytes) (omega arith) ∙ tail) in
    let rest : drop 8 bytes ≡ replicate 88 0 ++ padded 4000 gates = zeros_are 8 96 bytes (omega arith) (omega arith) h.rest ∙ ap (λ (r : List ℕ). replicate 88 0 ++ r) body in
    let front : take 8 bytes ≡ codes "GFG1" ++ bytes_of 4 half = h.front ∙ ap (λ (b : List ℕ). codes "GFG1" ++ b) (sym (half_bytes half two)) in
    let fields : bytes ≡ (codes "GFG1" ++ bytes_of 4 half) ++ (replicate 88 0 ++ padded 4000 gates) = sym (take-append-drop 8 bytes) ∙ ap (λ (f : List ℕ). f ++ drop 8 bytes) front ∙ ap (λ (r : List ℕ). (codes "GFG1" ++ bytes_of 4 half) ++ r) rest in
    let joined : (codes "GFG1" ++ bytes_of 4 half) ++ (replicate 88 0 ++ padded 4000 gates) ≡ (codes "GFG1" ++ (bytes_of 4 half ++ replicate 88 0)) ++ padded 4000 gates = simp append_assoc in
    fields ∙ joined ∙ ap (λ (f : List ℕ). f ++ padded 4000 gates) (sym (gate_head_is half)) ∙ sym (gate_page_is half gates)

-- what stands in a gate page
module _ (half : ℕ) (gates bytes : List ℕ) (e : bytes ≡ gate_spelling half gates) where
  at0 : bytes ≡ codes "GFG1" ++ (bytes_of 4 half ++ (replicate 88 0 ++ padded 4000 gates))
  at0 = e ∙ gate_page_is half gates ∙ ap (λ (f : List ℕ). f ++ padded 4000 gates) (gate_head_is half) ∙ simp append_assoc

  at8 : drop 8 bytes ≡ replicate 88 0 ++ padded 4000 gates
  at8 = behind 4 4 8 bytes (bytes_of 4 half) (replicate 88 0 ++ padded 4000 gates) (behind 0 4 4 bytes (codes "GFG1") _ at0 refl refl) (length-bytes_of 4 half) refl

  at96 : drop 96 bytes ≡ padded 4000 gates
  at96 = behind 8 88 96 bytes (replicate 88 0) (padded 4000 gates) at8 refl refl

  pub head_there : half < 2 → IsGateHead half bytes
  head_there two =
      let split : bytes ≡ (codes "GFG1" ++ bytes_of 4 half) ++ (replicate 88 0 ++ padded 4000 gates) = at0 ∙ sym (append_assoc (codes "GFG1") (bytes_of 4 half) (replicate 88 0 ++ padded 4000 gates)) in
      record {
        front = ap (take 8) split ∙ take_at (codes "GFG1" ++ bytes_of 4 half) (replicate 88 0 ++ padded 4000 gates) 8 (omega (arith, length-bytes_of 4 half)) ∙ ap (λ (b : List ℕ). codes "GFG1" ++ b) (half_bytes half two);
        rest = zeros_spelled 8 96 88 bytes (padded 4000 gates) at8 (omega arith);
      }

  pub zeros_there : length gates ≤ 4000 → AreZeros (96 + length gates) 4096 bytes
  unfolding padded
  zeros_there few =
      let end : drop (96 + length gates) bytes ≡ replicate (4000 - length gates) 0 = behind 96 (length gates) (96 + length gates) bytes gates (replicate (4000 - length gates) 0) at96 refl refl in
      zeros_spelled (96 + length gates) 4096 (4000 - length gates) bytes [] (end ∙ sym (append-nil (replicate (4000 - length gates) 0))) (omega (arith, few))

  -- the gates in the page are those that it spells
  pub gates_there : gates ≡ gates_in (length gates) bytes
  unfolding padded
  gates_there = sym (ap (take (length gates)) at96 ∙ take_at gates (replicate (4000 - length gates) 0) (length gates) refl)
