-- The laws of what lies in a lock, over the members of its trait.
use Rattle.std.specs.Prelude.{◌≡◌, ◌≢◌, ℕ, ◌+◌, Bool, true, List, ◌++◌, length, Option, Result, Ok, Err}
use Rattle.seat_lock.specs.Parts.{Begins, Meets, Keeps, Forked, Joined}

module _ {C Ev R P E : Type 0} (part_at : C → ℕ → Option P) (onward : P → P → Type 0) (places : C → ℕ) (safe : C → ℕ → List E → List (Option P) → Type 0)
    (appended : C → ℕ → Ev → List E) (allowed : P → List E → Ev → Type 0) (is_enabled : C → ℕ → Ev → Bool) (does : C → ℕ → Ev → C → R → Type 0)
    (forks : C → ℕ → C → Result ℕ R → Type 0) (joins : C → ℕ → ℕ → C → Type 0) (idle : P → Type 0) (front_is : C → ℕ) where
  -- each move of a seat that meets the state keeps it safe and moves the other seats' parts onward, whatever the history and the parts; and what is onward keeps what it is onward of
  pub record Laws : Type 0 where
    -- a step keeps the state safe for the history with what it appends
    pub step_keeps : (s t : C) (seat from : ℕ) (history : List E) (parts : List (Option P)) (event : Ev) (reply : R) (m : Meets part_at onward places safe s seat from history parts)
        → is_enabled s seat event ≡ true → allowed m.found history event → does s seat event t reply → Keeps part_at onward places safe seat from s t (history ++ appended s seat event) parts
    -- a fork that is made appends nothing, and puts a place out that was free
    pub fork_keeps : (s t : C) (seat new from : ℕ) (history : List E) (parts : List (Option P)) → Meets part_at onward places safe s seat from history parts
        → forks s seat t (Ok new) → Forked part_at onward places safe seat new from s t history parts
    -- a fork that is refused appends nothing
    pub refusal_keeps : (s t : C) (seat from : ℕ) (history : List E) (parts : List (Option P)) (reply : R) → Meets part_at onward places safe s seat from history parts
        → forks s seat t (Err reply) → Keeps part_at onward places safe seat from s t history parts
    -- a join with another seat, whose part is idle, appends nothing, and the other's place is out no more
    pub join_keeps : (s t : C) (seat other from : ℕ) (history : List E) (parts : List (Option P)) → seat ≢ other → Meets part_at onward places safe s seat from history parts
        → (o : Meets part_at onward places safe s other from history parts) → idle o.found → joins s seat other t → Joined part_at onward places safe seat other from s t history parts
    -- a part that is onward of an idle one is idle
    pub idle_stays : (x y : P) → onward x y → idle x → idle y
    -- each part is onward of itself
    pub onward_self : (x : P) → onward x x
    -- what is onward of what is onward is onward
    pub onward_on : (x y z : P) → onward x y → onward y z → onward x z
    -- what is allowed stays allowed for each part that is onward, and for each history that begins with the one seen
    pub allowed_stays : (x y : P) (seen history : List E) (event : Ev) → onward x y → Begins seen history → allowed x seen event → allowed y history event
    -- in a safe state the front is that of the history
    pub front_counts : (s : C) (from : ℕ) (history : List E) (parts : List (Option P)) → safe s from history parts → front_is s ≡ from + length history
