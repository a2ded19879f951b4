-- The parts of the seats by place, and what one move of one seat leaves of a state that lies in the lock.
use Rattle.std.specs.Prelude.{◌≡◌, ◌≢◌, ℕ, zero, suc, ◌+◌, ◌<◌, List, [], ◌∷◌, ◌++◌, Option, Some, None, slice_set}
use mathlib.Core.Option.{some}
use lib.ListN.{get_elem?}

module _ {P : Type 0} where
  -- the place p is out, with the part x
  abbrev pub Has : List (Option P) → ℕ → P → Type 0
  Has parts p x = get_elem? parts p ≡ some (Some x)

  -- the parts of the first n places, in order
  abbrev pub listing : (ℕ → Option P) → ℕ → List (Option P)
  listing f zero = []
  listing f (suc n) = f 0 ∷ listing (λ p. f (suc p)) n

  -- a place that is out counts one, and one that is not counts none
  abbrev pub weight : Option P → ℕ
  weight (Some x) = 1
  weight None = 0

  -- how many of the first n places are out
  abbrev pub how_many : (ℕ → Option P) → ℕ → ℕ
  how_many f zero = 0
  how_many f (suc n) = how_many f n + weight (f n)

module _ {A : Type 0} where
  -- the list ys begins with xs
  abbrev pub Begins : List A → List A → Type 0
  Begins xs ys = (rest : List A) × (xs ++ rest ≡ ys)

-- the place is out in this state
abbrev pub IsOut : {C P : Type 0} → (C → ℕ → Option P) → C → ℕ → Type 0
IsOut {P = P} part_at s p = (x : P) × (part_at s p ≡ Some x)

module _ {C P E : Type 0} (safe : C → ℕ → List E → List (Option P) → Type 0) where
  -- the state is safe for some history and some parts of the seats
  abbrev pub IsSafe : C → Type 0
  IsSafe s = (from : ℕ) × (history : List E) × (parts : List (Option P)) × safe s from history parts

module _ {C P E Ev : Type 0} (part_at : C → ℕ → Option P) (safe : C → ℕ → List E → List (Option P) → Type 0) (allowed : P → List E → Ev → Type 0) where
  -- the state is safe for some history, after which the part that it has of this seat's place allows the event
  abbrev pub MayStep : C → ℕ → Ev → Type 0
  MayStep s seat event = (from : ℕ) × (history : List E) × (parts : List (Option P)) × (x : P) × safe s from history parts × (part_at s seat ≡ Some x) × allowed x history event

module _ {C P : Type 0} (part_at : C → ℕ → Option P) (onward : P → P → Type 0) where
  -- the part that the seat of each place has goes onward to the state's part of that place
  abbrev pub Leads : List (Option P) → C → Type 0
  Leads parts s = (p : ℕ) (x : P) → Has parts p x → (y : P) × (part_at s p ≡ Some y) × onward x y

  -- each of these places that was out is still out, and its part went onward
  abbrev pub Moves : (ℕ → Type 0) → C → C → Type 0
  Moves these s t = (p : ℕ) (x : P) → these p → part_at s p ≡ Some x → (y : P) × (part_at t p ≡ Some y) × onward x y

module _ {C P E : Type 0} (part_at : C → ℕ → Option P) (onward : P → P → Type 0) (places : C → ℕ) (safe : C → ℕ → List E → List (Option P) → Type 0) where
  -- a seat meets the state: that is safe for this history and these parts, which have one of the seat's place, and the state's part of it is onward of that
  pub record Meets (s : C) (seat from : ℕ) (history : List E) (parts : List (Option P)) : Type 0 where
    pub known : P
    pub found : P
    pub is_safe : safe s from history parts
    pub has : Has parts seat known
    pub found_is : part_at s seat ≡ Some found
    pub moved : onward known found

  -- what any move of one seat leaves: a state that is safe for this history and for these parts with the seat's new one, and as many places as before
  pub record StaysSafe (seat from : ℕ) (s t : C) (history : List E) (parts : List (Option P)) : Type 0 where
    pub part : P
    pub part_is : part_at t seat ≡ Some part
    pub kept : safe t from history (slice_set parts seat (Some part))
    pub same : places t ≡ places s

  -- what a step of one seat leaves: that, and the other seats' parts moved onward
  pub record Keeps (seat from : ℕ) (s t : C) (history : List E) (parts : List (Option P)) : Type 0 where
    pub stays : StaysSafe seat from s t history parts
    pub moves : Moves part_at onward (λ p. p ≢ seat) s t

  -- what a fork by one seat leaves: the same, and a place that was free is out
  pub record Forked (seat new from : ℕ) (s t : C) (history : List E) (parts : List (Option P)) : Type 0 where
    pub given : P
    pub given_is : part_at t new ≡ Some given
    pub free : part_at s new ≡ None
    pub within : new < places s
    pub stays : StaysSafe seat from s t history (slice_set parts new (Some given))
    pub moves : Moves part_at onward (λ p. p ≢ seat) s t

  -- what a join by one seat leaves: the same, and the place of the other seat is out no more
  pub record Joined (seat other from : ℕ) (s t : C) (history : List E) (parts : List (Option P)) : Type 0 where
    pub free : part_at t other ≡ None
    pub stays : StaysSafe seat from s t history (slice_set parts other None)
    pub moves : Moves part_at onward (λ p. (p ≢ seat) × (p ≢ other)) s t
