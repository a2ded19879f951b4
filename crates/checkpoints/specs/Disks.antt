-- What a root step leaves of the bytes of a disk.
use Rattle.std.specs.Prelude.{◌≡◌, ℕ, List, length}

-- an image becomes one that is as long
abbrev pub KeepsLength : List ℕ → List ℕ → Type 0
KeepsLength old new = length new ≡ length old
