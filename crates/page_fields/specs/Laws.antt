-- What the definitions of fields promise.
use Rattle.std.specs.Prelude.{◌≡◌, ◌<◌, ◌≤◌, ◌^◌, ◌*◌, ℕ, List, ◌++◌, length}
use Rattle.page_fields.specs.Fields.{number, bytes_of}
use Rattle.page_fields.specs.Padded.{padded, numbers}

-- numbers have a spelling of known length, which reads as that number whatever stands behind it
pub record AreNumbers : Type 0 where
  pub read : (n x : ℕ) (rest : List ℕ) → x < 256 ^ n → number n (bytes_of n x ++ rest) ≡ x
  pub size : (n x : ℕ) → length (bytes_of n x) ≡ n
  pub sizes : (width : ℕ) (ns : List ℕ) → length (numbers width ns) ≡ width * length ns
  pub filled : (n : ℕ) (bytes : List ℕ) → length bytes ≤ n → length (padded n bytes) ≡ n
