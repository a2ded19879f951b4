-- A caller who is alone with the file: its state, and what each request is answered and leaves.
use Rattle.std.specs.Prelude.{ℕ, ◌+◌, ◌-◌, List, [], ◌∷◌, Bool, ◌&&◌, not, map, min, max, length, nat_lt, ◌==◌, if◌then◌else◌, filter, Option, Some, None, unwrap_or, sum}
use Rattle.grid_types.specs.declared.shape.Shape.{Shape}
use Rattle.grid_types.specs.declared.shape.Stat.{Stat}
use Rattle.grid_types.specs.declared.update.Record.{Record}
use Rattle.grid_types.specs.declared.refusal.Refusal.{Refusal}
use Rattle.grid_types.specs.declared.refusal.Refusal.TheVariants.{Full, NoCut, BadQuery}
use Rattle.grid_types.specs.declared.update.Update.{Update}
use Rattle.grid_types.specs.declared.update.Update.TheVariants.{Put, Remove}
use Rattle.grid_types.specs.declared.layout_change.LayoutChange.{LayoutChange}
use Rattle.grid_types.specs.declared.layout_change.LayoutChange.TheVariants as note
use Rattle.grid_types.specs.declared.request.Request.{Request}
use Rattle.grid_types.specs.declared.request.Request.TheVariants as ask
use Rattle.grid_types.specs.declared.request.Reply.{Reply}
use Rattle.grid_types.specs.declared.request.Reply.TheVariants as told
use Rattle.grid_types.specs.Queries.{is_lawful}
use Rattle.grid_model.specs.Lists.{below, is_among}
use Rattle.grid_model.specs.Cells.{cells, parts, parts_holding}
use Rattle.grid_model.specs.Tables.{Table, get, effect}
use Rattle.grid_model.specs.Listings.{rows}
use Rattle.grid_model.specs.Layouts.{BucketBox, Layout, box, holder, new_layout}
use Rattle.grid_model.specs.Notes.{updated_key, put_note, merges, right_of, scales_after, after_note_at}

-- owners of pages: buckets and directory parts, by number
pub record Owners : Type 0 where
  pub buckets : List ℕ
  pub parts : List ℕ

-- the owners that are not among these
abbrev pub outside : Owners → Owners → Owners
outside these o = record { buckets = filter (λ n. not (is_among these.buckets n)) o.buckets; parts = filter (λ n. not (is_among these.parts n)) o.parts }

-- the owners that are among these
abbrev pub among : Owners → Owners → Owners
among these o = record { buckets = filter (is_among these.buckets) o.buckets; parts = filter (is_among these.parts) o.parts }

-- how many owners there are
abbrev pub how_many : Owners → ℕ
how_many o = length o.buckets + length o.parts

-- all owners of a layout
abbrev pub owners : {K : ℕ} → Layout K → Owners
owners L = record { buckets = map (λ e. e.0) L.boxes; parts = below (parts L.scales) }

-- the directory parts that a cut changes: all of the refined directory, or those that hold a cell of the right part
abbrev pub parts_of_cut : {K : ℕ} → Layout K → ℕ × BucketBox K → LayoutChange → List ℕ
parts_of_cut L e note.Plain = []
parts_of_cut L e (note.Cut c right) = if c.fresh then below (parts (scales_after L.scales c)) else parts_holding L.scales (right_of e.1 c).region
parts_of_cut L e (note.Merge m) = []

-- the directory parts that hold a cell of the box that vanishes when boxes n and m are joined
abbrev pub parts_of_merge : {K : ℕ} → Layout K → ℕ × BucketBox K → ℕ → List ℕ
parts_of_merge L e m = parts_holding L.scales (unwrap_or (box L (max e.0 m)) e.1).region

-- the owners that get a new page by a change of this box: the boxes that it makes or changes, and the directory parts that it changes
unfoldable pub renewed : {K : ℕ} → Layout K → ℕ × BucketBox K → LayoutChange → Owners
renewed L e note.Plain = record { buckets = e.0 ∷ []; parts = [] }
renewed L e (note.Cut c right) = record { buckets = e.0 ∷ right ∷ []; parts = parts_of_cut L e (note.Cut c right) }
renewed L e (note.Merge m) = record { buckets = min e.0 m ∷ []; parts = parts_of_merge L e m }

-- the owners whose page is replaced by the change, or who vanish
unfoldable pub dropped : {K : ℕ} → Layout K → ℕ × BucketBox K → LayoutChange → Owners
dropped L e note.Plain = renewed L e note.Plain
dropped L e (note.Cut c right) = renewed L e (note.Cut c right)
dropped L e (note.Merge m) = record { buckets = min e.0 m ∷ max e.0 m ∷ []; parts = parts_of_merge L e m }

-- a put has one page to spare
abbrev pub spare : {K : ℕ} → Update K → ℕ
spare (Put r) = 1
spare (Remove k) = 0

-- the free pages that a change needs: its new pages, and what it has to spare
unfoldable pub need : {K : ℕ} → Layout K → ℕ × BucketBox K → Update K → LayoutChange → ℕ
need L e u n = how_many (renewed L e n) + spare u

-- a lone caller's state: table, layout and front; the owners whose page is part of the newest root; how many pages of that root are no longer current; and how many slots of the journal are used
pub record State (K : ℕ) : Type 0 where
  pub table : Table
  pub layout : Layout K
  pub front : ℕ
  pub rooted : Owners
  pub kept : ℕ
  pub used : ℕ

-- the pages that hold nothing, neither now nor for the root
abbrev pub free : {K : ℕ} → Shape → State K → ℕ
free shape s = shape.pages - length s.layout.boxes - parts s.layout.scales - s.kept

-- the state after a root step: each owner's page is part of the root
abbrev pub root : {K : ℕ} → State K → State K
root s = record s { rooted = owners s.layout; kept = 0; used = 0 }

-- the state of a file that was just opened
abbrev pub opened : {K : ℕ} → Table → Layout K → ℕ → State K
opened t L front = record { table = t; layout = L; front = front; rooted = owners L; kept = 0; used = 0 }

-- the state of a file that was just made and opened
unfoldable pub made : (K : ℕ) → State K
made K = opened [] (new_layout K) 0

-- a root step, if it is due
abbrev pub root_if : {K : ℕ} → Bool → State K → State K
root_if due s = if due then root s else s

-- a root step is due where the free pages are fewer than n, and some are kept for the old root
unfoldable pub claimed : {K : ℕ} → Shape → ℕ → State K → State K
claimed shape n s = root_if (nat_lt (free shape s) n && nat_lt 0 s.kept) s

-- a root step is due where the journal has no slot left
unfoldable pub queued : {K : ℕ} → Shape → State K → State K
queued shape s = root_if (s.used == shape.slots) s

-- the state in which the update stands at the next place
unfoldable pub published : {K : ℕ} → ℕ × BucketBox K → Update K → LayoutChange → State K → State K
published e u n s = record {
  table = effect s.table u;
  layout = after_note_at s.layout e n;
  front = s.front + 1;
  rooted = outside (dropped s.layout e n) s.rooted;
  kept = s.kept + how_many (among (dropped s.layout e n) s.rooted);
  used = s.used + 1;
}

-- what an update is answered at a place, over the table before it
abbrev pub update_reply : {K : ℕ} → Update K → ℕ → Table → Reply K
update_reply (Put r) at t = told.Put (record { at = at; value = get t r.key.numbers })
update_reply (Remove k) at t = told.Removed (record { at = at; value = get t k.numbers })

-- what a request leaves, and what it is answered
pub record Outcome (K : ℕ) : Type 0 where
  pub state : State K
  pub reply : Reply K
  pub note : Option LayoutChange

-- a reading: the state stays
abbrev pub answered : {K : ℕ} → State K → Reply K → Outcome K
answered s reply = record { state = s; reply = reply; note = None }

-- a refusal: the table, the layout and the front stay
abbrev pub refused : {K : ℕ} → State K → Refusal → Outcome K
refused s why = answered s (told.Refused why)

-- an update with its note is done: it takes the next place
abbrev pub done : {K : ℕ} → ℕ × BucketBox K → Update K → LayoutChange → State K → Outcome K
done e u n s = record { state = published e u n s; reply = update_reply u (s.front + 1) s.table; note = Some n }

-- an update is refused where the free pages are too few for it, and else done
abbrev pub change_claimed : {K : ℕ} → Shape → ℕ × BucketBox K → Update K → LayoutChange → ℕ → State K → Outcome K
change_claimed shape e u n wanted s = if nat_lt (free shape s) wanted then refused s (Full (free shape s) wanted) else done e u n (queued shape s)

-- an update with its note: a root step where it helps, and then the update
unfoldable pub change : {K : ℕ} → Shape → State K → ℕ × BucketBox K → Update K → LayoutChange → Outcome K
change shape s e u n = change_claimed shape e u n (need s.layout e u n) (claimed shape (need s.layout e u n) s)

-- the note that a remove of a key that is there takes: the first merge, if there are pages for it
abbrev pub remove_note : {K : ℕ} → Shape → State K → ℕ × BucketBox K → Update K → List LayoutChange → LayoutChange
remove_note shape s e u [] = note.Plain
remove_note shape s e u (m ∷ ms) = if nat_lt (free shape s) (need s.layout e u m) then note.Plain else m

-- the boundaries of all scales
abbrev pub boundaries : List (List ℕ) → ℕ
boundaries scales = sum (map length scales)

-- a put that has no note is refused, since there is no cut
abbrev pub put_noted : {K : ℕ} → Shape → State K → ℕ × BucketBox K → Update K → Option LayoutChange → Outcome K
put_noted shape s e u None = refused s (NoCut (cells s.layout.scales) (boundaries s.layout.scales))
put_noted shape s e u (Some n) = change shape s e u n

-- a remove of a key that is absent changes nothing
abbrev pub remove_found : {K : ℕ} → Shape → State K → ℕ × BucketBox K → Update K → Option (List ℕ) → Outcome K
remove_found shape s e u None = answered s (update_reply u s.front s.table)
remove_found shape s e u (Some d) = change shape s e u (remove_note shape s e u (merges shape s.layout s.table (updated_key u)))

-- an update whose key is in that box
abbrev pub update_at : {K : ℕ} → Shape → State K → Update K → ℕ × BucketBox K → Outcome K
update_at shape s (Put r) e = put_noted shape s e (Put r) (put_note shape s.layout s.table r.key.numbers)
update_at shape s (Remove k) e = remove_found shape s e (Remove k) (get s.table k.numbers)

-- an update, by the box that has its key; a sound layout has one
abbrev pub update_held : {K : ℕ} → Shape → State K → Update K → Option (ℕ × BucketBox K) → Outcome K
update_held shape s u None = answered s (update_reply u s.front s.table)
update_held shape s u (Some e) = update_at shape s u e

-- an update
unfoldable pub updated : {K : ℕ} → Shape → State K → Update K → Outcome K
updated shape s u = update_held shape s u (holder s.layout (updated_key u))

-- an entry of a table as a record
abbrev pub record_of : {K : ℕ} → List ℕ × List ℕ → Record K
record_of e = record { key = record { numbers = e.0 }; value = e.1 }

-- what is counted in a state
abbrev pub statistics : {K : ℕ} → Shape → State K → Stat
statistics shape s = record { records = length s.table; cells = cells s.layout.scales; buckets = length s.layout.boxes; free = free shape s }

-- what a request leaves and is answered
unfoldable pub lone : {K : ℕ} → Shape → State K → Request K → Outcome K
lone shape s (ask.Put r) = updated shape s (Put r)
lone shape s (ask.Remove k) = updated shape s (Remove k)
lone shape s (ask.Get k) = answered s (told.Got (record { at = s.front; value = get s.table k.numbers }))
lone shape s (ask.List q) = if is_lawful q.sides then answered s (told.Listed (record { at = s.front; value = map record_of (rows s.table q) })) else refused s BadQuery
lone shape s (ask.Count q) = if is_lawful q.sides then answered s (told.Counted (record { at = s.front; value = length (rows s.table q) })) else refused s BadQuery
lone shape s ask.Stat = answered s (told.Stood (record { at = s.front; value = statistics shape s }))
lone shape s ask.Checkpoint = record { state = root s; reply = told.Rooted s.front; note = None }

-- the answers to some requests, one after the other
unfoldable pub answers : {K : ℕ} → Shape → State K → List (Request K) → List (Reply K)
answers shape s [] = []
answers shape s (r ∷ rs) = (lone shape s r).reply ∷ answers shape (lone shape s r).state rs

-- what stands after some requests
unfoldable pub afterwards : {K : ℕ} → Shape → State K → List (Request K) → State K
afterwards shape s [] = s
afterwards shape s (r ∷ rs) = afterwards shape (lone shape s r).state rs
