-- Bytes that go out piece by piece.
use Rattle.std.proofs.Common.{◌≡◌, ◌≤◌, ◌+◌, ◌-◌, ℕ, List, ◌++◌, length, take, drop, refl, sym, ap, ◌∙◌, append_assoc, arith}
use Rattle.std.proofs.lemmas.List.{take-append-drop, take-take, drop-take, take_rest, length-take, length-drop}

-- a front of a list, and behind it a front of the rest
pub take_split : (at n : ℕ) (xs : List ℕ) → take (at + n) xs ≡ take at xs ++ take n (drop at xs)
take_split at n xs = sym (take-append-drop at (take (at + n) xs)) ∙ rw (take-take at (at + n) xs (omega arith), drop-take at n xs) refl

-- what was received by one piece more
pub received_more : (first mid new bytes : List ℕ) (at n : ℕ) → mid ≡ first ++ take at bytes → new ≡ mid ++ take n (take (length bytes - at) (drop at bytes)) → new ≡ first ++ take (at + n) bytes
received_more first mid new bytes at n had now =
    let piece : take n (take (length bytes - at) (drop at bytes)) ≡ take n (drop at bytes) = ap (take n) (take_rest bytes at) in
    now ∙ rw (had, piece) (append_assoc first (take at bytes) (take n (drop at bytes))) ∙ ap (λ (p : List ℕ). first ++ p) (sym (take_split at n bytes))

pub piece_fits : (bytes : List ℕ) (at n : ℕ) → at ≤ length bytes → n ≤ length (take (length bytes - at) (drop at bytes)) → at + n ≤ length bytes
piece_fits bytes at n le h = omega (arith, le, simp (length-take, length-drop) at h)
