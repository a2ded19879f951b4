-- A script: its lines, and what each asks.
use Rattle.std.specs.Prelude.{ℕ, ◌+◌, ◌-◌, ◌*◌, List, [], ◌∷◌, Bool, true, false, ◌&&◌, map, length, nat_lt, nat_le, ◌==◌, if◌then◌else◌, filter, fold, Option, Some, None, Result, Ok, Err, codes, decimal}
use Rattle.std.specs.Option.{option_map, option_and_then}
use lib.Pointwise.{pointwise}
use Rattle.hex.specs.Hex.{decode_of}
use Rattle.grid_types.specs.declared.sizes.TheConstants.{LONGEST_DATA, MOST_CLIENTS}
use Rattle.grid_types.specs.declared.query.Side.{Side}
use Rattle.grid_types.specs.declared.query.Side.TheVariants.{Any, Exactly, Between}
use Rattle.grid_types.specs.declared.query.Query.{Query}
use Rattle.grid_types.specs.declared.request.Line.{Line}
use Rattle.grid_types.specs.declared.request.Request.{Request}
use Rattle.grid_types.specs.declared.request.Request.TheVariants as ask
use Rattle.grid_types.specs.Keys.{top}
use Rattle.grid_model.specs.Lists.{first_some}

-- the first line with a byte in front of it
abbrev pub onto_first : ℕ → List (List ℕ) → List (List ℕ)
onto_first b [] = (b ∷ []) ∷ []
onto_first b (line ∷ lines) = (b ∷ line) ∷ lines

-- the lines of a text: what stands in front of each byte 10, and what stands behind the last one, where that is not empty
unfoldable pub lines_of : List ℕ → List (List ℕ)
lines_of [] = []
lines_of (b ∷ bs) = if b == 10 then [] ∷ lines_of bs else onto_first b (lines_of bs)

-- the pieces of a text between the bytes c, of which there is one more than of these
unfoldable pub pieces : ℕ → List ℕ → List (List ℕ)
pieces c [] = [] ∷ []
pieces c (b ∷ bs) = if b == c then [] ∷ pieces c bs else onto_first b (pieces c bs)

-- two texts are the same
abbrev pub is_text : List ℕ → List ℕ → Bool
is_text a b = pointwise ◌==◌ a b

-- a line without one byte 13 at its end
abbrev pub without_return : List ℕ → List ℕ
without_return [] = []
without_return (b ∷ []) = if b == 13 then [] else b ∷ []
without_return (b ∷ c ∷ bs) = b ∷ without_return (c ∷ bs)

-- a word has a byte
abbrev pub is_word : List ℕ → Bool
is_word [] = false
is_word (b ∷ bs) = true

-- the words of a line: what stands between spaces
abbrev pub words : List ℕ → List (List ℕ)
words line = filter is_word (pieces 32 (without_return line))

-- the number that digits make
abbrev pub value : List ℕ → ℕ
value w = fold (λ n b. n * 10 + (b - 48)) 0 w

-- the number that a word is the print of, up to the greatest number of an attribute
abbrev pub parsed_number : List ℕ → Option ℕ
parsed_number w = if is_text (decimal (value w)) w && nat_le (value w) top then Some (value w) else None

-- all of them, where none is missing
abbrev pub all_of : {X : Type 0} → List (Option X) → Option (List X)
all_of [] = Some []
all_of (None ∷ os) = None
all_of (Some x ∷ os) = option_map (λ xs. x ∷ xs) (all_of os)

-- the list, where it has K items
abbrev pub if_count : {X : Type 0} → ℕ → List X → Option (List X)
if_count K xs = if length xs == K then Some xs else None

-- a key: K numbers with commas between
abbrev pub parsed_key : ℕ → List ℕ → Option (List ℕ)
parsed_key K w = option_and_then (if_count K) (all_of (map parsed_number (pieces 44 w)))

-- the value, where there is one
abbrev pub ok_of : {X E : Type 0} → Result X E → Option X
ok_of (Ok x) = Some x
ok_of (Err e) = None

-- data: a dash for no bytes, or 2 to 80 hexadecimal digits, two for each byte, in either case
abbrev pub parsed_data : List ℕ → Option (List ℕ)
parsed_data w = if is_text w (codes "-") then Some [] else (if nat_le 2 (length w) && nat_le (length w) (2 * LONGEST_DATA) then ok_of (decode_of w) else None)

-- a side from one number to another that is not below it
abbrev pub parsed_between : Option ℕ → Option ℕ → Option Side
parsed_between (Some lo) (Some hi) = if nat_le lo hi then Some (Between lo hi) else None
parsed_between (Some lo) None = None
parsed_between None o = None

-- the pieces of a side between dots: a number, or two with nothing between the dots
abbrev pub parsed_side_of_pieces : List (List ℕ) → Option Side
parsed_side_of_pieces (n ∷ []) = option_map Exactly (parsed_number n)
parsed_side_of_pieces (lo ∷ [] ∷ hi ∷ []) = parsed_between (parsed_number lo) (parsed_number hi)
parsed_side_of_pieces _ = None

-- a side: a star, a number, or two numbers with two dots between
abbrev pub parsed_side : List ℕ → Option Side
parsed_side w = if is_text w (codes "*") then Some Any else parsed_side_of_pieces (pieces 46 w)

-- a query: K sides with commas between
abbrev pub parsed_query : (K : ℕ) → List ℕ → Option (Query K)
parsed_query K w = option_map (λ sides. record { sides = sides }) (option_and_then (if_count K) (all_of (map parsed_side (pieces 44 w))))

-- a put, where there are a key and data
abbrev pub parsed_put : {K : ℕ} → Option (List ℕ) → Option (List ℕ) → Option (Request K)
parsed_put (Some k) (Some d) = Some (ask.Put (record { key = record { numbers = k }; value = d }))
parsed_put (Some k) None = None
parsed_put None o = None

-- a request, if the first word is this command
abbrev pub if_command : {K : ℕ} → List ℕ → List ℕ → Option (Request K) → Option (Request K)
if_command w name r = if is_text w name then r else None

-- what a command of one word asks
abbrev pub alone_of : (K : ℕ) → List ℕ → Option (Request K)
alone_of K w = first_some (if_command w (codes "stat") (Some ask.Stat) ∷ if_command w (codes "checkpoint") (Some ask.Checkpoint) ∷ [])

-- what a command with one argument asks
abbrev pub about_of : (K : ℕ) → List ℕ → List ℕ → Option (Request K)
about_of K w a = first_some (
    if_command w (codes "get") (option_map (λ k. ask.Get (record { numbers = k })) (parsed_key K a))
    ∷ if_command w (codes "remove") (option_map (λ k. ask.Remove (record { numbers = k })) (parsed_key K a))
    ∷ if_command w (codes "list") (option_map ask.List (parsed_query K a))
    ∷ if_command w (codes "count") (option_map ask.Count (parsed_query K a))
    ∷ [])

-- what the words of a line ask
abbrev pub parsed_request : (K : ℕ) → List (List ℕ) → Option (Request K)
parsed_request K (w ∷ []) = alone_of K w
parsed_request K (w ∷ a ∷ []) = about_of K w a
parsed_request K (w ∷ a ∷ b ∷ []) = if_command w (codes "put") (parsed_put (parsed_key K a) (parsed_data b))
parsed_request K _ = None

-- what a line says: nothing, who speaks from here on, a request, or nothing of the grammar
pub data Meaning (K : ℕ) : Type 0 where
  Silent : Meaning K
  Speaks : (client : ℕ) → Meaning K
  Asks : (request : Request K) → Meaning K
  Bad : Meaning K

-- a request, or nothing of the grammar
abbrev pub asks : {K : ℕ} → Option (Request K) → Meaning K
asks None = Bad
asks (Some r) = Asks r

-- a client's number is 1 to 16
abbrev pub speaks : {K : ℕ} → Option ℕ → Meaning K
speaks None = Bad
speaks (Some n) = if nat_le 1 n && nat_le n MOST_CLIENTS then Speaks n else Bad

-- what a command says
abbrev pub command : (K : ℕ) → List (List ℕ) → Meaning K
command K [] = Silent
command K (w ∷ a ∷ []) = if is_text w (codes "client") then speaks (parsed_number a) else asks (parsed_request K (w ∷ a ∷ []))
command K ws = asks (parsed_request K ws)

-- a word begins with the byte of a comment
abbrev pub is_comment : List ℕ → Bool
is_comment [] = false
is_comment (b ∷ bs) = b == 35

-- the first word is a comment's
abbrev pub starts_comment : List (List ℕ) → Bool
starts_comment [] = false
starts_comment (w ∷ ws) = is_comment w

-- what words say: a comment says nothing
abbrev pub says : (K : ℕ) → List (List ℕ) → Meaning K
says K ws = if starts_comment ws then Silent else command K ws

-- what a line says
unfoldable pub meaning : (K : ℕ) → List ℕ → Meaning K
meaning K line = says K (words line)

-- one line more, in front
abbrev pub also : {K : ℕ} → Line K → Result (List (Line K)) ℕ → Result (List (Line K)) ℕ
also l (Ok ls) = Ok (l ∷ ls)
also l (Err e) = Err e

-- the lines that ask something, each with the client that speaks, or the number of the first that is nothing of the grammar
unfoldable pub asked : {K : ℕ} → ℕ → ℕ → List (Meaning K) → Result (List (Line K)) ℕ
asked n client [] = Ok []
asked n client (Silent ∷ ms) = asked (n + 1) client ms
asked n client (Speaks c ∷ ms) = asked (n + 1) c ms
asked n client (Asks r ∷ ms) = also (record { client = client; request = r }) (asked (n + 1) client ms)
asked n client (Bad ∷ ms) = Err n

-- what each line of a text says
abbrev pub meanings : (K : ℕ) → List ℕ → List (Meaning K)
meanings K bytes = map (meaning K) (lines_of bytes)

-- a script has at most this many bytes
unfoldable pub longest : ℕ
longest = 16777216

-- the lines of a script that ask something, or the number of its first fault: 0 where it has too many bytes, else the first line that is nothing of the grammar
unfoldable pub lines : (K : ℕ) → List ℕ → Result (List (Line K)) ℕ
lines K bytes = if nat_lt longest (length bytes) then Err 0 else asked 1 1 (meanings K bytes)
