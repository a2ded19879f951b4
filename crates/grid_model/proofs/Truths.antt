-- What holds where tests are joined, and where a comparison passes one.
use Rattle.std.proofs.Common.{◌≡◌, Bool, true, false, not, ◌&&◌, ◌||◌, T, refl, sym, true≢false, is_eq, is_lt}
use Rattle.std.specs.declared.cmp.Ordering.{Ordering}
use Rattle.std.specs.declared.cmp.Ordering.TheVariants.{Less, Equal, Greater}

-- both tests pass exactly where each does
pub part-one : (a b : Bool) → T (a && b) → T a
part-one true b p = tt
part-one false b p = p

pub part-two : (a b : Bool) → T (a && b) → T b
part-two true b p = p
part-two false b p = absurd p

pub both-parts : (a b : Bool) → T a → T b → T (a && b)
both-parts true b p q = q
both-parts false b p q = p

-- one of two tests passes where the first does, and where the second does
pub or-left : (a b : Bool) → a ≡ true → (a || b) ≡ true
or-left true b e = refl
or-left false b e = absurd (true≢false (sym e))

pub or-right : (a b : Bool) → b ≡ true → (a || b) ≡ true
or-right true b e = refl
or-right false b e = e

pub not-true : (a : Bool) → not a ≡ true → a ≡ false
not-true true e = absurd (true≢false (sym e))
not-true false e = refl

-- what is less is nothing else
pub only-less : (o : Ordering) → T (is_lt o) → o ≡ Less
only-less Less p = refl
only-less Equal p = absurd p
only-less Greater p = absurd p

pub less-not-equal : (o : Ordering) → T (is_lt o) → is_eq o ≡ false
less-not-equal Less p = refl
less-not-equal Equal p = absurd p
less-not-equal Greater p = absurd p
