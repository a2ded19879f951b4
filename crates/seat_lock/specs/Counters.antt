-- A counter with places, the least that a lock can hold.
use Rattle.std.specs.Prelude.{◌≡◌, ◌≢◌, ℕ, ◌+◌, ◌<◌, Bool, ltb, leb, ◌==◌, List, [], ◌∷◌, length, Option, Some, None, Result, Ok, Err, slice_set, slice_index_or}
use Rattle.seat_lock.specs.Parts.{Has, how_many}
use Rattle.seat_lock.specs.declared.counter.Counter.{Counter}
use Rattle.seat_lock.specs.declared.counter.Ask.{Ask}
use Rattle.seat_lock.specs.declared.counter.Ask.TheVariants.{Add, Reach, Share}

-- the number of places
abbrev pub place_count : Counter → ℕ
place_count s = length s.parts

-- the part of a place is the count that its seat was last told
abbrev pub told_count : Counter → ℕ → Option ℕ
told_count s p = slice_index_or s.parts p None

-- an addition appends the number of the seat's place, and nothing else appends
abbrev pub appended_by : Counter → ℕ → Ask → List ℕ
appended_by s seat Add = seat ∷ []
appended_by s seat (Reach n) = []
appended_by s seat (Share n) = []

-- an addition is enabled below the limit, to reach a number once the count is that high, and to share by a number while so many places are out
abbrev pub enabled_in : Counter → Ask → Bool
enabled_in s Add = ltb s.count s.limit
enabled_in s (Reach n) = leb n s.count
enabled_in s (Share n) = n == how_many (told_count s) (place_count s)

-- the counter with this count, which the seat was told
abbrev pub with_count_told : Counter → ℕ → ℕ → Counter
with_count_told s seat n = record { count = n; limit = s.limit; parts = slice_set s.parts seat (Some n) }

-- the counter after an event
abbrev pub counter_after : Counter → ℕ → Ask → Counter
counter_after s seat Add = with_count_told s seat (s.count + 1)
counter_after s seat (Reach n) = with_count_told s seat s.count
counter_after s seat (Share n) = with_count_told s seat s.count

-- the counter without that place
abbrev pub without_place : Counter → ℕ → Counter
without_place s place = record { count = s.count; limit = s.limit; parts = slice_set s.parts place None }

-- the count is that of the history, and the part that a seat has is the counter's
pub record CountsHistory (s : Counter) (from : ℕ) (history : List ℕ) (parts : List (Option ℕ)) : Type 0 where
  pub counted : s.count ≡ from + length history
  pub owned : (p x : ℕ) → Has parts p x → told_count s p ≡ Some x

-- a step leaves the counter after its event, and answers the count
abbrev pub CounterDoes : Counter → ℕ → Ask → Counter → ℕ → Type 0
CounterDoes s seat event t reply = (t ≡ counter_after s seat event) × (reply ≡ t.count)

-- a free place is put out, and its seat is told the count; or no place is free, and nothing changes
abbrev pub CounterForks : Counter → Counter → Result ℕ ℕ → Type 0
CounterForks s t (Ok new) = (new < place_count s) × (told_count s new ≡ None) × (t ≡ with_count_told s new s.count)
CounterForks s t (Err reply) = ((p : ℕ) → p < place_count s → told_count s p ≢ None) × (t ≡ s)
