-- What a script with several clients may print: one history explains it.
use Rattle.std.specs.Prelude.{◌≡◌, ◌⊎◌, ◌<◌, ◌≤◌, ℕ, ◌+◌, ◌==◌, List, [], map, filter, filter_map, flat_map, length, fold, Option, Some, None, IsSome, slice_get, Contains}
use Rattle.std.specs.List.{list_any}
use Rattle.std.specs.Option.{option_map}
use Rattle.std.specs.Ordering.{nat_cmp}
use Rattle.std.specs.FinMap.Entries.{put}
use Rattle.grid_types.specs.declared.sizes.TheConstants.{MOST_CLIENTS}
use Rattle.grid_types.specs.declared.update.Update.TheVariants.{Put, Remove}
use Rattle.grid_types.specs.declared.update.Entry.{Entry}
use Rattle.grid_types.specs.declared.request.Line.{Line}
use Rattle.grid_types.specs.declared.request.Request.{Request}
use Rattle.grid_types.specs.declared.request.Request.TheVariants as ask
use Rattle.grid_types.specs.declared.request.Reply.{Reply}
use Rattle.grid_types.specs.declared.request.Reply.TheVariants as told
use Rattle.grid_types.specs.Lists.{zip_with}
use Rattle.grid_model.specs.Lists.{from_to}
use Rattle.grid_model.specs.Tables.{Table, IsTableOf}
use Rattle.grid_model.specs.Histories.{History}
use Rattle.grid_model.specs.Answers.{IsAnswer, IsRefusal}
use Rattle.grid_model.specs.Text.{Group}

-- a line with what was told of it
pub record Exchange (K : ℕ) : Type 0 where
  pub client : ℕ
  pub request : Request K
  pub reply : Reply K

-- a client's lines
abbrev pub lines_by : {K : ℕ} → ℕ → List (Line K) → List (Line K)
lines_by client lines = filter (λ l. l.client == client) lines

-- the clients that have a line, ascending, each once
abbrev pub clients : {K : ℕ} → List (Line K) → List ℕ
clients lines = filter (λ c. list_any (λ l. l.client == c) lines) (from_to 1 MOST_CLIENTS)

-- a line with a reply
abbrev pub exchange : {K : ℕ} → Line K → Reply K → Exchange K
exchange l r = record { client = l.client; request = l.request; reply = r }

-- a client's lines with its replies, in order
unfoldable pub exchanges_of : {K : ℕ} → List (Line K) → Group K → List (Exchange K)
exchanges_of lines g = zip_with exchange (lines_by g.client lines) g.replies

-- all lines with their replies, by clients
unfoldable pub exchanges : {K : ℕ} → List (Line K) → List (Group K) → List (Exchange K)
exchanges lines groups = flat_map (exchanges_of lines) groups

-- the update that was made, with its place: of a put, and of a remove that gave data
abbrev pub made_by : {K : ℕ} → ℕ → Request K → Reply K → Option (ℕ × Entry K)
made_by client (ask.Put r) (told.Put a) = Some (a.at, record { caller = client; update = Put r })
made_by client (ask.Remove k) (told.Removed a) = option_map (λ d. (a.at, record { caller = client; update = Remove k })) a.value
made_by _ _ _ = None

-- the update that a line made, with its place
abbrev pub made_in : {K : ℕ} → Exchange K → Option (ℕ × Entry K)
made_in x = made_by x.client x.request x.reply

-- the updates that were made, with their places
unfoldable pub updates_made : {K : ℕ} → List (Exchange K) → List (ℕ × Entry K)
updates_made xs = filter_map made_in xs

-- one more entry at its place
abbrev pub with_entry : {K : ℕ} → List (ℕ × Entry K) → ℕ × Entry K → List (ℕ × Entry K)
with_entry placed e = put nat_cmp e.0 e.1 placed

-- the updates in the order of their places
unfoldable pub by_place : {K : ℕ} → List (ℕ × Entry K) → List (ℕ × Entry K)
by_place made = fold with_entry [] made

-- the history that was told: from a number and a table on, the updates in the order of their places
unfoldable pub told_history : {K : ℕ} → ℕ → Table → List (Exchange K) → History K
told_history f base xs = record { from = f; base = base; entries = map (λ e. e.1) (by_place (updates_made xs)) }

-- the place of a reply; a refusal has none
abbrev pub place_told : {K : ℕ} → Reply K → Option ℕ
place_told (told.Put a) = Some a.at
place_told (told.Removed a) = Some a.at
place_told (told.Got a) = Some a.at
place_told (told.Listed a) = Some a.at
place_told (told.Counted a) = Some a.at
place_told (told.Stood a) = Some a.at
place_told (told.Rooted at) = Some at
place_told (told.Refused why) = None

-- the places of a client's answers never fall, and an update's place is above all that were answered before
abbrev pub Rises : {K : ℕ} → List (Exchange K) → Type 0
Rises {K} xs = (i j p q : ℕ) (x y : Exchange K) → i < j → slice_get xs i ≡ Some x → slice_get xs j ≡ Some y → place_told x.reply ≡ Some p → place_told y.reply ≡ Some q
    → (p ≤ q) × (IsSome (made_in y) → p < q)

-- one history explains what was told of a script: its base is a table, each client that has a line has one reply of its kind for each line, the places of the updates are the numbers from f + 1 to n, each once, places rise, and each answer is a plain table's at its place, or a refusal
pub record Explains {K : ℕ} (f : ℕ) (base : Table) (lines : List (Line K)) (groups : List (Group K)) (n : ℕ) : Type 0 where
  pub base_is : IsTableOf K base
  pub clients : map (λ g. g.client) groups ≡ clients lines
  pub replies : (g : Group K) → Contains groups g → length g.replies ≡ length (lines_by g.client lines)
  pub places : map (λ e. e.0) (by_place (updates_made (exchanges lines groups))) ≡ from_to (f + 1) n
  pub once : f + length (updates_made (exchanges lines groups)) ≡ n
  pub rising : (g : Group K) → Contains groups g → Rises (exchanges_of lines g)
  pub answers : (x : Exchange K) → Contains (exchanges lines groups) x → IsAnswer (told_history f base (exchanges lines groups)) x.client x.request x.reply ⊎ IsRefusal x.reply
