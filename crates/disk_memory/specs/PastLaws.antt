-- What a disk in memory owes the laws of a disk.
use Rattle.std.proofs.Common.{◌≤◌, ℕ, List, length, refl, sym, subst, arith}
use Rattle.std.proofs.lemmas.List.{take_all}
use Rattle.disk_memory.specs.Past.{Past, contents_now, contents_after, Leaves, HadBeen}

-- a crash may leave what reads give
pub leaves_itself : (p : Past) → Leaves (contents_now p) (contents_now p).bytes
leaves_itself p = record { same_length = refl; each = λ i o. refl }

-- this moment is one of those since an earlier one
pub had_been_now : (p : Past) (t : ℕ) (c : List ℕ) → t ≤ length p.changes → Leaves (contents_now p) c → HadBeen p t c
had_been_now p t c le now = record { count = length p.changes; since = le; made = omega arith; left = subst (λ es. Leaves (contents_after p.first es) c) (sym (take_all (length p.changes) p.changes (omega arith))) now }

-- since this moment there is no other
pub only_last : (p : Past) (c : List ℕ) → HadBeen p (length p.changes) c → Leaves (contents_now p) c
only_last p c h = subst (λ es. Leaves (contents_after p.first es) c) (take_all h.count p.changes h.since) h.left
