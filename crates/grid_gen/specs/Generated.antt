-- The lines that a seed generates.
use Rattle.std.specs.Prelude.{ℕ, ◌+◌, ◌*◌, ◌%◌, ◌==◌, List, map, flat_map, Bool, true, false, if◌then◌else◌}
use Rattle.std.specs.Int.{w32, to_be_bytes}
use Rattle.grid_types.specs.declared.key.Key.{Key}
use Rattle.grid_types.specs.declared.request.Line.{Line}
use Rattle.grid_types.specs.declared.request.Request.{Request}
use Rattle.grid_types.specs.declared.request.Request.TheVariants as ask
use Rattle.grid_model.specs.Lists.{below}
use Rattle.grid_gen.specs.declared.lines.TheConstants.{GET, KINDS, KEY_NUMBERS}
use Rattle.grid_gen.specs.Draws.{nth_draw, draws_from}

-- the number of a key that is made of a draw: its last three decimal digits
abbrev pub key_number : ℕ → ℕ
key_number k = k % KEY_NUMBERS

-- the request that is made of two numbers and a key between: a get of the key where the first number leaves 3 by 4, and else a put of the four bytes of the second, the highest first
abbrev pub drawn_request : {K : ℕ} → ℕ → Key K → ℕ → Request K
drawn_request t key d = if t % KINDS == GET then ask.Get key else ask.Put (record { key = key; value = to_be_bytes w32 d })

-- the line of a client that is made of K + 2 draws of a seed in a row, from draw i on: one for its kind, K for its key, and one for its data
unfoldable pub drawn_line : (K seed client i : ℕ) → Line K
drawn_line K seed client i = record { client = client; request = drawn_request (nth_draw seed i) (record { numbers = map key_number (draws_from seed (i + 1) K) }) (nth_draw seed (i + 1 + K)) }

-- the line of client c + 1 in round r, counted from 0: r times all clients and c more had theirs before it, of K + 2 draws each, from draw 1 on
abbrev pub client_line : (K seed clients r c : ℕ) → Line K
client_line K seed clients r c = drawn_line K seed (c + 1) ((r * clients + c) * (K + 2) + 1)

-- the lines of round r, counted from 0: one of each client, from client 1 on
unfoldable pub round_lines : (K seed clients r : ℕ) → List (Line K)
round_lines K seed clients r = map (client_line K seed clients r) (below clients)

-- the lines that a seed generates: those of each round, in order
unfoldable pub generated : (K seed rounds clients : ℕ) → List (Line K)
generated K seed rounds clients = flat_map (round_lines K seed clients) (below rounds)

-- a request is a put
abbrev pub asks_put : {K : ℕ} → Request K → Bool
asks_put (ask.Put r) = true
asks_put (ask.Remove k) = false
asks_put (ask.Get k) = false
asks_put (ask.List q) = false
asks_put (ask.Count q) = false
asks_put ask.Stat = false
asks_put ask.Checkpoint = false

-- a line is a put
abbrev pub is_put : {K : ℕ} → Line K → Bool
is_put l = asks_put l.request
