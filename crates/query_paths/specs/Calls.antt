-- What a call leaves of a value whose pages it reads.
use Rattle.std.specs.Prelude.{◌≡◌, ℕ}
use Rattle.query_paths.specs.declared.pinned.Pinned.{Ghosts}
use Rattle.query_paths.specs.Pinned.{Place}

-- the place that a value has
abbrev pub place : {P : Type 0} {K : ℕ} → Ghosts P K → P → Place
place g p = record { shape = g.shape p; scales = g.scales p; numbers = g.numbers p; pages = g.pages p; file_page = g.file_page p }

-- a call that only reads: the place stays, and so does all else that readings leave as it was
pub record LeavesPlace {P : Type 0} {K : ℕ} (g : Ghosts P K) (old new : P) : Type 0 where
  pub same_place : place g new ≡ place g old
  pub same_rest : g.stays old new
