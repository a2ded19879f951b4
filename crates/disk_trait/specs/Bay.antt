-- What a bay has under its names, hands out and takes back.
use Rattle.std.specs.Prelude.{replicate, ◌≡◌, ◌≤◌, ◌≢◌, ◌⊎◌, ℕ, List, Bool, IsTrue, Result, OnErr}
use Rattle.disk_trait.specs.declared.disk.Disk.{Ghosts}
use Rattle.disk_trait.specs.Causes.{Rose}
use Rattle.disk_trait.specs.Moments.{SameImages}

-- under a name there is nothing, or a disk that is out, or a disk that lies there
pub data BayPlace (D : Type 0) : Type 0 where
  Absent : BayPlace D
  Out : BayPlace D
  Home : D → BayPlace D

-- what is said of the disk that lies under a name, where one does
abbrev pub Tells : {D : Type 0} → (D → Type 0) → BayPlace D → Type 0
Tells P Absent = ⊥
Tells P Out = ⊥
Tells P (Home d) = P d

-- nothing changed but what is under one name
abbrev pub SameBut : {D : Type 0} → List ℕ → (List ℕ → BayPlace D) → (List ℕ → BayPlace D) → Type 0
SameBut name old new = (other : List ℕ) → other ≢ name → new other ≡ old other

-- a call at one name leaves the rest of a bay as it was: it tells its names or not, and nothing changed under another name
pub record SameElsewhere {B D : Type 0} (tells_of : B → Bool) (place_of : B → List ℕ → BayPlace D) (name : List ℕ) (old new : B) : Type 0 where
  pub tells : tells_of new ≡ tells_of old
  pub others : IsTrue (tells_of old) → SameBut name (place_of old) (place_of new)

-- a count does not fall; it stays where the name itself is the cause, and any other failure is told only where it rose
pub record HasNameCause {T E : Type 0} (named : Type 0) (before now : ℕ) (result : Result T E) : Type 0 where
  pub later : before ≤ now
  pub uncounted : named → now ≡ before
  pub failed : OnErr result (named ⊎ Rose before now)

-- n zeros; it has a name, since a numeral in the place of n would be computed in each goal
unfoldable pub blank : ℕ → List ℕ
blank n = replicate n 0

-- no call of a disk has failed
pub record IsUnfailed {D : Type 0} (g : Ghosts D) (disk : D) : Type 0 where
  pub reads : g.read_count disk ≡ 0
  pub writes : g.write_count disk ≡ 0

-- a new disk tells its content, reads give n zeros, and no crash has ever left anything else
pub record IsNew {D : Type 0} (g : Ghosts D) (n : ℕ) (disk : D) : Type 0 where
  pub told : IsTrue (g.honest disk)
  pub zeros : g.seen disk ≡ blank n
  pub always : (t : ℕ) (c : List ℕ) → g.left_since disk t c → c ≡ blank n

-- one disk tells all that another tells, its moments included
pub record TellsAll {D : Type 0} (g : Ghosts D) (disk other : D) : Type 0 where
  pub same_honesty : g.honest disk ≡ g.honest other
  pub same_extent : g.extent disk ≡ g.extent other
  pub same_bytes : g.seen disk ≡ g.seen other
  pub same_crash : SameImages (g.may_leave other) (g.may_leave disk)
  pub same_moment : g.moment disk ≡ g.moment other
  pub same_past : (t : ℕ) → SameImages (g.left_since other t) (g.left_since disk t)
