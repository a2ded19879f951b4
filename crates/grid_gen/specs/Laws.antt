-- What the definition of the generated lines promises.
use Rattle.std.specs.Prelude.{◌≡◌, ◌<◌, ◌+◌, ◌*◌, ℕ, length, slice_get, Some, Ok, codes}
use Rattle.grid_model.specs.Script.{lines}
use Rattle.grid_gen.specs.Generated.{client_line, generated}

-- there are as many lines as rounds times clients, and the line of a client in a round stands behind those of the rounds before it and of the clients before it
pub record IsGenerator (K : ℕ) : Type 0 where
  pub count : (seed rounds clients : ℕ) → length (generated K seed rounds clients) ≡ rounds * clients
  pub each : (seed rounds clients r c : ℕ) → r < rounds → c < clients → slice_get (generated K seed rounds clients) (r * clients + c) ≡ Some (client_line K seed clients r c)

-- seed 1 generates this script of two attributes, in two rounds of one client
abbrev pub IsWorkedRow : Type 0
IsWorkedRow = lines 2 (codes "get 794,886\nput 683,161 32f1f059\n") ≡ Ok (generated 2 1 2 1)
