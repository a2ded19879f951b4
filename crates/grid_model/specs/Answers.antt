-- Which answers are legal: a plain table's answer at the answered place.
use Rattle.std.specs.Prelude.{◌≡◌, ℕ, ◌+◌, ◌-◌, ◌≤◌, List, map, length, Option, Some, None, ⊤}
use Rattle.grid_types.specs.declared.shape.Shape.{Shape}
use Rattle.grid_types.specs.declared.shape.Stat.{Stat}
use Rattle.grid_types.specs.declared.update.Update.{Update}
use Rattle.grid_types.specs.declared.update.Update.TheVariants.{Put, Remove}
use Rattle.grid_types.specs.declared.refusal.Refusal.{Refusal}
use Rattle.grid_types.specs.declared.request.Request.{Request}
use Rattle.grid_types.specs.declared.request.Request.TheVariants as ask
use Rattle.grid_types.specs.declared.request.Reply.{Reply}
use Rattle.grid_types.specs.declared.request.Reply.TheVariants as told
use Rattle.grid_model.specs.Cells.{cells, parts}
use Rattle.grid_model.specs.Tables.{Table, get}
use Rattle.grid_model.specs.Listings.{rows}
use Rattle.grid_model.specs.Layouts.{Layout}
use Rattle.grid_model.specs.Lone.{record_of}
use Rattle.grid_model.specs.Histories.{History, Layouts, IsPlace, entry_at, state_at, layout_at}

-- a reading's answer: its place is one of the history, and its value is the table's there
pub record IsReading {K : ℕ} {V : Type 0} (h : History K) (at : ℕ) (value : V) (of : Table → V) : Type 0 where
  pub place : IsPlace h at
  pub answer : value ≡ of (state_at h at)

-- an update's answer: the entry at its place is this caller's, with this update, and the value is what stood there before it
pub record IsUpdate {K : ℕ} (h : History K) (caller : ℕ) (u : Update K) (k : List ℕ) (at : ℕ) (value : Option (List ℕ)) : Type 0 where
  pub there : entry_at h at ≡ Some (record { caller = caller; update = u })
  pub answer : value ≡ get (state_at h (at - 1)) k

-- a remove that found nothing is a reading; one that gives data is an update
abbrev pub IsRemoval : {K : ℕ} → History K → ℕ → Update K → List ℕ → ℕ → Option (List ℕ) → Type 0
IsRemoval h caller u k at None = IsReading h at None (λ t. get t k)
IsRemoval h caller u k at (Some d) = IsUpdate h caller u k at (Some d)

-- a reply is a plain table's answer to a caller's request at its place in the history; a refusal is none
abbrev pub IsAnswer : {K : ℕ} → History K → ℕ → Request K → Reply K → Type 0
IsAnswer h caller (ask.Put r) (told.Put a) = IsUpdate h caller (Put r) r.key.numbers a.at a.value
IsAnswer h caller (ask.Remove k) (told.Removed a) = IsRemoval h caller (Remove k) k.numbers a.at a.value
IsAnswer h caller (ask.Get k) (told.Got a) = IsReading h a.at a.value (λ t. get t k.numbers)
IsAnswer h caller (ask.List q) (told.Listed a) = IsReading h a.at a.value (λ t. map record_of (rows t q))
IsAnswer h caller (ask.Count q) (told.Counted a) = IsReading h a.at a.value (λ t. length (rows t q))
IsAnswer h caller ask.Stat (told.Stood a) = IsReading h a.at a.value.records (λ t. length t)
IsAnswer h caller ask.Checkpoint (told.Rooted at) = IsPlace h at
IsAnswer _ _ _ _ = ⊥

-- the numbers of a layout: its cells and boxes, and as many free pages as there may be beside its boxes and parts
pub record IsCounted {K : ℕ} (shape : Shape) (L : Layout K) (s : Stat) : Type 0 where
  pub cells : s.cells ≡ cells L.scales
  pub buckets : s.buckets ≡ length L.boxes
  pub free : s.free + s.buckets + parts L.scales ≤ shape.pages

-- what a reply says of the layout at its place is so
abbrev pub SaysOfLayout : {K : ℕ} → Shape → History K → Layouts K → Reply K → Type 0
SaysOfLayout shape h ls (told.Stood a) = IsCounted shape (layout_at h ls a.at) a.value
SaysOfLayout _ _ _ _ = ⊤

-- what a call's trail says for its answer: the front at its event, and the front of the root that it completed last, if it completed one
pub record CallTrail : Type 0 where
  pub event : ℕ
  pub rooted : Option ℕ

-- the place of a `stat` is the front at its event, and that of a checkpoint the front of the root that the call completed last
abbrev pub HasOwnPlace : {K : ℕ} → CallTrail → Reply K → Type 0
HasOwnPlace call (told.Stood a) = a.at ≡ call.event
HasOwnPlace call (told.Rooted at) = call.rooted ≡ Some at
HasOwnPlace _ _ = ⊤

-- a legal answer: a plain table's answer at its place, what it says of the layout there is so, and its place is the call's own
pub record IsLegal {K : ℕ} (shape : Shape) (h : History K) (ls : Layouts K) (caller : ℕ) (call : CallTrail) (request : Request K) (reply : Reply K) : Type 0 where
  pub answer : IsAnswer h caller request reply
  pub layout : SaysOfLayout shape h ls reply
  pub own : HasOwnPlace call reply

-- a reply that refuses
abbrev pub IsRefusal : {K : ℕ} → Reply K → Type 0
IsRefusal {K} reply = (why : Refusal) × (reply ≡ told.Refused why)
