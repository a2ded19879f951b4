-- A disk of which one read is altered, and what its calls leave of what it is to do.
use Rattle.std.specs.Prelude.{◌≡◌, ◌≢◌, ◌-◌, ◌==◌, ℕ, List, Bool, true, if◌then◌else◌, Result, OnOk, OnErr}
use Rattle.disk_doubles.specs.declared.altered.Altered.{Altered}
use Rattle.disk_doubles.specs.Turning.{with_turned}

-- the disk below
abbrev pub disk_below : {D : Type 0} → Altered D → D
disk_below a = a.disk

-- which read is altered, counted from the next one on, which is 1; 0 is none that is still to come
abbrev pub chosen_read : {D : Type 0} → Altered D → ℕ
chosen_read a = a.chosen

-- at which place of the page a byte is turned
abbrev pub altered_place : {D : Type 0} → Altered D → ℕ
altered_place a = a.turn.at

-- which bits of it are turned
abbrev pub turned_bits : {D : Type 0} → Altered D → ℕ
turned_bits a = a.turn.bits

-- whether a read was altered
abbrev pub has_altered : {D : Type 0} → Altered D → Bool
has_altered a = a.is_altered

-- what the next read gives where this page is there: the page with the byte turned if that read is the chosen one, and else the page itself
abbrev pub page_given : {D : Type 0} → Altered D → List ℕ → List ℕ
page_given a page = if chosen_read a == 1 then with_turned (altered_place a) (turned_bits a) page else page

-- the same read is altered, in the same way, and it was altered or not as before
pub record AltersSame {D : Type 0} (old new : Altered D) : Type 0 where
  pub chosen : chosen_read new ≡ chosen_read old
  pub place : altered_place new ≡ altered_place old
  pub bits : turned_bits new ≡ turned_bits old
  pub altered : has_altered new ≡ has_altered old

-- a read brings the chosen one nearer by one, also where it fails; it is altered where it is the chosen one and succeeds, and no other is
pub record CountsToChosen {D T E : Type 0} (old new : Altered D) (result : Result T E) : Type 0 where
  pub nearer : chosen_read new ≡ chosen_read old - 1
  pub place : altered_place new ≡ altered_place old
  pub bits : turned_bits new ≡ turned_bits old
  pub chosen : OnOk result (chosen_read old ≡ 1 → has_altered new ≡ true)
  pub other : OnOk result (chosen_read old ≢ 1 → has_altered new ≡ has_altered old)
  pub failed : OnErr result (has_altered new ≡ has_altered old)
