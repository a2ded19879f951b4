-- Rules in their order.
use Rattle.std.proofs.Common.{◌≡◌, ◌<◌, ◌+◌, ◌∙◌, ◌⊎◌, inl, inr, ℕ, zero, suc, Option, Some, None, sym, ap, subst, refl, arith}
use Rattle.grid_check.specs.Verdicts.{order}
use Rattle.grid_check.specs.declared.verdict.Rule.{Rule}
use Rattle.grid_check.specs.declared.verdict.Rule.TheVariants.{Part, Cell, Bucket, Face, Cover, Records}

-- the rule at a place of the order
rule_at : ℕ → Rule
rule_at zero = Part
rule_at (suc zero) = Cell
rule_at (suc (suc zero)) = Bucket
rule_at (suc (suc (suc zero))) = Face
rule_at (suc (suc (suc (suc zero)))) = Cover
rule_at (suc (suc (suc (suc (suc n))))) = Records

it_is : (r : Rule) → rule_at (order r) ≡ r
unfolding rule_at
it_is Part = refl
it_is Cell = refl
it_is Bucket = refl
it_is Face = refl
it_is Cover = refl
it_is Records = refl

split : (n m : ℕ) → n < m + 1 → (n < m) ⊎ (m ≡ n)
split n m lt = grind (arith, lt)

-- what is so of each rule before one, and of that one, is so of each up to it
pub up_to : (P : Rule → Type 0) (r : Rule) → ((q : Rule) → order q < order r → P q) → P r → (q : Rule) → order q < order r + 1 → P q
up_to P r before here q lt = by (split (order q) (order r) lt)
  where
    by : (order q < order r) ⊎ (order r ≡ order q) → P q
    by (inl less) = before q less
    by (inr same) = subst P (sym (it_is r) ∙ ap rule_at same ∙ it_is q) here

-- none is before the first
pub before_first : (P : Rule → Type 0) (q : Rule) → order q < 0 → P q
before_first P q lt = absurd (omega (arith, lt))

-- each is before the end
pub before_end : (q : Rule) → order q < 6
before_end Part = omega arith
before_end Cell = omega arith
before_end Bucket = omega arith
before_end Face = omega arith
before_end Cover = omega arith
before_end Records = omega arith

-- where there is nothing, there is none
pub none_there : {X : Type 0} (o : Option X) → ((x : X) → o ≡ Some x → ⊥) → o ≡ None
none_there None out = refl
none_there (Some x) out = absurd (out x refl)
