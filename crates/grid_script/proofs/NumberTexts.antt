-- The number that a word writes.
use Rattle.std.proofs.Common.{rules, ◌≡◌, ◌∙◌, ◌<◌, ◌≤◌, ◌^◌, ◌+◌, ◌-◌, ◌*◌, ◌&&◌, ℕ, Bool, true, false, cond, List, fold, Some, None, nat_le, refl, sym, ap, subst, arith, leb-true, le-leb}
use Rattle.std.specs.Prelude.{decimal}
use Rattle.std.specs.Str.{all_ascii_digits}
use Rattle.std.proofs.lemmas.Fmt.{digits_value-decimal}
use Rattle.std.proofs.lemmas.Str.Parse.{IsNumeralModel, numerals_by_fold, tells_all_ascii_digits}
use lib.Pointwise.{bytes_decides}
use Rattle.grid_types.proofs.Numbers.{first, second, both}
use Rattle.grid_types.specs.Keys.{top}
use Rattle.grid_model.specs.Script.{is_text, value, parsed_number}
use Rattle.std.specs.Prelude.{Result, Ok, Err}

abbrev value_after : ℕ → List ℕ → ℕ
value_after n w = fold (λ n b. n * 10 + (b - 48)) n w

digits_numeral : IsNumeralModel (λ ds. all_ascii_digits ds ≡ true) (value_after 0)
digits_numeral = numerals_by_fold _ tells_all_ascii_digits value_after (search rules)

value-decimal : (n : ℕ) → n < 2 ^ 64 → value (decimal n) ≡ n
value-decimal n h = digits_value-decimal digits_numeral n h

-- a word that is a number's print writes it
pub number-found : (word : List ℕ) (n : ℕ) → n < 2 ^ 64 → word ≡ decimal n → parsed_number word ≡ Some n
number-found word n h e = subst (λ w. parsed_number w ≡ Some n) (sym e)
    (ap (λ v. cond (is_text (decimal v) (decimal n) && nat_le v top) (Some v) None) (value-decimal n h)
    ∙ ap (λ t. cond t (Some n) None) (both (is_text (decimal n) (decimal n)) (nat_le n top) ((bytes_decides (decimal n) (decimal n)).1 refl) (le-leb n top (omega (arith, h)))))

-- any other word writes none
pub number-none : (word : List ℕ) → ((n : ℕ) → n < 2 ^ 64 → word ≡ decimal n → ⊥) → parsed_number word ≡ None
number-none word h = cases (is_text (decimal (value word)) word && nat_le (value word) top) refl
  where
    written : is_text (decimal (value word)) word ≡ true → word ≡ decimal (value word)
    written e = sym ((bytes_decides (decimal (value word)) word).0 e)

    cases : (t : Bool) → (is_text (decimal (value word)) word && nat_le (value word) top) ≡ t → cond t (Some (value word)) None ≡ None
    cases true e =
        let small : value word ≤ top = leb-true (value word) top (second (is_text (decimal (value word)) word) (nat_le (value word) top) e) in
        absurd (h (value word) (omega (arith, small)) (written (first (is_text (decimal (value word)) word) (nat_le (value word) top) e)))
    cases false e = refl

-- a result is not both
pub ok_or_err : {A E : Type 0} (r : Result A E) (x : A) (e : E) → r ≡ Ok x → r ≡ Err e → ⊥
ok_or_err r x e is not = cc
