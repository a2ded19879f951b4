-- Numbers of four bytes that stand one behind the other.
use Rattle.std.proofs.Common.{◌≡◌, ℕ, List, ◌∷◌, ◌++◌, refl}
use Rattle.std.proofs.lemmas.Grind.{flat_map-append}
use Rattle.page_fields.specs.Fields.{bytes_of}
use Rattle.page_fields.specs.Padded.{numbers}

pub words-append : (ns ms : List ℕ) → numbers 4 (ns ++ ms) ≡ numbers 4 ns ++ numbers 4 ms
unfolding numbers
words-append ns ms = flat_map-append (bytes_of 4) ns ms

pub words-cons : (n : ℕ) (ns : List ℕ) → numbers 4 (n ∷ ns) ≡ bytes_of 4 n ++ numbers 4 ns
unfolding numbers
words-cons n ns = refl
