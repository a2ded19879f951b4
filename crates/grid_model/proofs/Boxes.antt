-- The boxes of a layout by number.
use Rattle.std.proofs.Common.{◌≡◌, ◌≢◌, ℕ, Some, None, sym, ap, ◌∙◌}
use Rattle.grid_model.specs.Layouts.{BucketBox, Layout, box}

-- what is found in two ways is the same
pub one-value : {X : Type 0} (x y : X) → Some x ≡ Some y → x ≡ y
one-value x y e = cc

-- what is found is not nothing
pub some-not-none : {X : Type 0} (x : X) → Some x ≢ None
some-not-none x e = cc

-- a number has one box
pub one-box : {K : ℕ} (L : Layout K) (n m : ℕ) (b c : BucketBox K) → box L n ≡ Some b → box L m ≡ Some c → n ≡ m → b ≡ c
one-box L n m b c e f same = one-value b c (sym e ∙ ap (box L) same ∙ f)
