-- Numbers and their bytes.
use Rattle.std.proofs.Common.{◌≡◌, ◌≤◌, ◌<◌, ◌+◌, ◌-◌, ◌*◌, ◌^◌, ℕ, List, [], ◌∷◌, ◌++◌, length, take, get_or, refl, sym, ap, ◌∙◌, length-append, arith}
use Rattle.std.specs.List.{flat_map}
use Rattle.std.specs.Prelude.{replicate}
use Rattle.std.proofs.lemmas.List.{take_more, flat_map_more, length-replicate}
use Rattle.byteorder.specs.Numbers.{big_number-reads_back, length-bytes_high_first}
use Rattle.page_fields.specs.Fields.{number, bytes_of}
use Rattle.page_fields.specs.Padded.{padded, numbers}

-- a number whose bytes are read is that number
pub number-back : (n x : ℕ) (rest : List ℕ) → x < 256 ^ n → number n (bytes_of n x ++ rest) ≡ x
unfolding number bytes_of
number-back n x rest fits = big_number-reads_back n x rest fits

pub length-bytes_of : (n x : ℕ) → length (bytes_of n x) ≡ n
unfolding bytes_of
length-bytes_of n x = length-bytes_high_first n x

-- so many numbers have so many bytes
pub length-numbers : (width : ℕ) (ns : List ℕ) → length (numbers width ns) ≡ width * length ns
unfolding numbers
length-numbers width [] = omega arith
length-numbers width (n ∷ ns) = length-append (bytes_of width n) (flat_map (bytes_of width) ns) ∙ grind (arith, length-bytes_of width n, length-numbers width ns)

pub numbers_none : (width : ℕ) → numbers width [] ≡ []
unfolding numbers
numbers_none width = refl

-- one number more
pub numbers_more : (width : ℕ) (ns : List ℕ) (i d : ℕ) → i < length ns → numbers width (take i ns) ++ bytes_of width (get_or ns i d) ≡ numbers width (take (i + 1) ns)
unfolding numbers
numbers_more width ns i d lt = flat_map_more (bytes_of width) [] (take i ns) (get_or ns i d) ∙ ap (λ (ys : List ℕ). flat_map (bytes_of width) ys) (sym (take_more ns i d lt))

-- a field with as many zeros behind it as make n bytes
pub padded_is : (n k : ℕ) (bytes : List ℕ) → k ≡ n - length bytes → bytes ++ replicate k 0 ≡ padded n bytes
unfolding padded
padded_is n k bytes is = ap (λ (m : ℕ). bytes ++ replicate m 0) is

pub filled_with : (n m : ℕ) (bytes : List ℕ) → length bytes + m ≡ n → padded n bytes ≡ bytes ++ replicate m 0
filled_with n m bytes e = sym (padded_is n m bytes (omega (arith, e)))

pub length-padded : (n : ℕ) (bytes : List ℕ) → length bytes ≤ n → length (padded n bytes) ≡ n
unfolding padded
length-padded n bytes le = length-append bytes (replicate (n - length bytes) 0) ∙ omega (arith, length-replicate {A = ℕ} (n - length bytes) 0)
