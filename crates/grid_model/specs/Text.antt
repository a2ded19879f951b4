-- The printed form of replies.
use Rattle.std.specs.Prelude.{ℕ, List, [], ◌∷◌, ◌++◌, codes, decimal, length, map, Option, Some, None}
use Rattle.std.specs.List.{flat_map}
use Rattle.hex.specs.Hex.{encode_lower}
use Rattle.grid_types.specs.declared.shape.Stat.{Stat}
use Rattle.grid_types.specs.declared.update.Record.{Record}
use Rattle.grid_types.specs.declared.refusal.Refusal.{Refusal}
use Rattle.grid_types.specs.declared.refusal.Refusal.TheVariants as refusal
use Rattle.grid_types.specs.declared.request.Reply.{Reply}
use Rattle.grid_types.specs.declared.request.Reply.TheVariants.{Put, Removed, Got, Listed, Counted, Stood, Rooted, Refused}

-- the text of a key: its numbers in decimal, with a comma between two
abbrev pub key_text : List ℕ → List ℕ
key_text [] = []
key_text (n ∷ []) = decimal n
key_text (n ∷ m ∷ ns) = decimal n ++ (44 ∷ key_text (m ∷ ns))

-- two digits in lower case for each byte, or a dash for no bytes
abbrev pub hex_text : List ℕ → List ℕ
hex_text [] = codes "-"
hex_text (b ∷ bytes) = encode_lower (b ∷ bytes)

-- a word and a number
abbrev pub numbered : List ℕ → ℕ → List ℕ
numbered word n = word ++ decimal n

-- what is printed of a put: whether the key was new, or its old data
abbrev pub put_text : Option (List ℕ) → List ℕ
put_text None = codes " new"
put_text (Some d) = codes " old " ++ hex_text d

-- what is printed of a remove: that there was none, or the data that is gone
abbrev pub removed_text : Option (List ℕ) → List ℕ
removed_text None = codes " none"
removed_text (Some d) = codes " gone " ++ hex_text d

-- what is printed of a get: that there is none, or the data
abbrev pub got_text : Option (List ℕ) → List ℕ
got_text None = codes " none"
got_text (Some d) = codes " = " ++ hex_text d

-- what is printed of a record in a listing: key and data
abbrev pub row_text : {K : ℕ} → Record K → List ℕ
row_text r = key_text r.key.numbers ++ (32 ∷ hex_text r.value)

-- what is printed of the counts
abbrev pub stat_text : Stat → List ℕ
stat_text s = numbered (codes " stat records ") s.records ++ (numbered (codes " cells ") s.cells ++ (numbered (codes " buckets ") s.buckets ++ numbered (codes " free ") s.free))

-- what is printed of a refusal that a line may meet
abbrev pub refusal_text : Refusal → List ℕ
refusal_text refusal.NoMemory = codes "nomemory"
refusal_text refusal.ReadFault = codes "readfault"
refusal_text refusal.WriteFault = codes "writefault"
refusal_text (refusal.Unsure faults before) = numbered (codes "unsure faults ") faults ++ numbered (codes " before ") before
refusal_text (refusal.Stopped faults opened) = numbered (codes "stopped faults ") faults ++ numbered (codes " opened ") opened
refusal_text (refusal.Full free need) = numbered (codes "full free ") free ++ numbered (codes " need ") need
refusal_text (refusal.NoCut cells boundaries) = numbered (codes "nocut cells ") cells ++ numbered (codes " boundaries ") boundaries
refusal_text (refusal.Damaged page) = numbered (codes "damaged page ") page
refusal_text refusal.Foreign = []
refusal_text (refusal.Version found) = []
refusal_text refusal.Seats = []
refusal_text refusal.BadShape = []
refusal_text refusal.BadQuery = []
refusal_text (refusal.Worn count) = numbered (codes "worn ") count
refusal_text (refusal.Arity found) = []

-- the place of an answer, and what is told there
abbrev pub at_place : ℕ → List ℕ → List ℕ
at_place at told = numbered (codes "@") at ++ told

-- the lines of a reply: one, or for a listing one with the number of rows and one for each row
unfoldable pub reply_lines : {K : ℕ} → Reply K → List (List ℕ)
reply_lines (Put a) = at_place a.at (put_text a.value) ∷ []
reply_lines (Removed a) = at_place a.at (removed_text a.value) ∷ []
reply_lines (Got a) = at_place a.at (got_text a.value) ∷ []
reply_lines (Listed a) = at_place a.at (numbered (codes " rows ") (length a.value)) ∷ map row_text a.value
reply_lines (Counted a) = at_place a.at (numbered (codes " count ") a.value) ∷ []
reply_lines (Stood a) = at_place a.at (stat_text a.value) ∷ []
reply_lines (Rooted at) = at_place at (codes " rooted") ∷ []
reply_lines (Refused why) = refusal_text why ∷ []

-- a line with its end
abbrev pub ended : List ℕ → List ℕ
ended line = line ++ codes "\n"

-- the line with the front
unfoldable pub front_line : ℕ → List ℕ
front_line front = ended (numbered (codes "front ") front)

-- the replies to one client, in the order of its lines
pub record Group (K : ℕ) : Type 0 where
  pub client : ℕ
  pub replies : List (Reply K)

-- the lines of a client: its number, and its replies
abbrev pub group_lines : {K : ℕ} → Group K → List (List ℕ)
group_lines g = numbered (codes "client ") g.client ∷ flat_map reply_lines g.replies

-- the lines of a session: each client's, and then the front
unfoldable pub text_lines : {K : ℕ} → List (Group K) → ℕ → List (List ℕ)
text_lines groups front = flat_map group_lines groups ++ numbered (codes "front ") front ∷ []

-- what a session prints: its lines, each with its end
unfoldable pub text : {K : ℕ} → List (Group K) → ℕ → List ℕ
text groups front = flat_map ended (text_lines groups front)
