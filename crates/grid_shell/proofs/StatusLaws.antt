-- The statuses of replies, the greatest of some, and a fault beside them.
use Rattle.std.proofs.Common.{◌≡◌, ◌⊎◌, ◌<◌, ◌+◌, inl, inr, ℕ, List, [], ◌∷◌, ◌++◌, length, take, get_or, refl, sym, ap, subst, ◌∙◌, arith}
use Rattle.std.specs.Prelude.{max}
use Rattle.std.proofs.lemmas.List.{take_more}
use Rattle.grid_types.specs.declared.request.Reply.{Reply}
use Rattle.grid_shell.specs.declared.ending.Ending.{Ending}
use Rattle.grid_shell.specs.declared.ending.Ending.TheVariants.{Done, Damaged, Memory, Refused, Unsure}
use Rattle.grid_shell.specs.Statuses.{status_of_reply, greatest_status}
use Rattle.grid_shell.specs.Endings.{status_of, with_fault, IsOfLines}

max_regrouped : (a b c : ℕ) → max a (max b c) ≡ max (max a b) c
max_regrouped a b c = omega arith

max_none : (a : ℕ) → max a 0 ≡ max 0 a
max_none a = omega arith

greatest_status-push : {K : ℕ} (rs : List (Reply K)) (r : Reply K) → greatest_status (rs ++ r ∷ []) ≡ max (greatest_status rs) (status_of_reply r)
unfolding greatest_status
greatest_status-push [] r = max_none (status_of_reply r)
greatest_status-push (q ∷ qs) r = ap (max (status_of_reply q)) (greatest_status-push qs r) ∙ max_regrouped (status_of_reply q) (greatest_status qs) (status_of_reply r)

pub greatest_status-more : {K : ℕ} (rs : List (Reply K)) (i : ℕ) (d : Reply K) → i < length rs → greatest_status (take (i + 1) rs) ≡ max (greatest_status (take i rs)) (status_of_reply (get_or rs i d))
greatest_status-more rs i d lt = ap greatest_status (take_more rs i d lt) ∙ greatest_status-push (take i rs) (get_or rs i d)

pub greatest_status-none : (K : ℕ) → greatest_status {K = K} [] ≡ 0
unfolding greatest_status
greatest_status-none K = refl

-- the ending of lines with a fault beside it has the status of a device at least
pub with_fault-line : (e : Ending) → IsOfLines e → status_of (with_fault e) ≡ max 5 (status_of e)
with_fault-line Done line = omega arith
with_fault-line Damaged line = omega arith
with_fault-line Memory line = omega arith
with_fault-line Refused line = omega arith
with_fault-line Unsure line = omega arith
with_fault-line other line = absurd line

-- and a second fault changes nothing
pub with_fault-twice : (e : Ending) → IsOfLines e → status_of (with_fault (with_fault e)) ≡ max 5 (status_of e)
with_fault-twice Done line = omega arith
with_fault-twice Damaged line = omega arith
with_fault-twice Memory line = omega arith
with_fault-twice Refused line = omega arith
with_fault-twice Unsure line = omega arith
with_fault-twice other line = absurd line

-- of two endings of lines the one that is chosen is one of lines
pub one_of_lines : (a b e : Ending) → IsOfLines a → IsOfLines b → (e ≡ a) ⊎ (e ≡ b) → IsOfLines e
one_of_lines a b e la lb (inl is) = subst IsOfLines (sym is) la
one_of_lines a b e la lb (inr is) = subst IsOfLines (sym is) lb
