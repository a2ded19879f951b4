-- What the definition of the lone caller promises.
use Rattle.std.specs.Prelude.{◌≡◌, ◌⊎◌, ◌<◌, ◌≤◌, ◌+◌, ℕ, List, length, take, slice_get, Some, IsSome, IsTrue, ⊤}
use Rattle.grid_types.specs.declared.shape.Shape.{Shape}
use Rattle.grid_types.specs.declared.request.Request.{Request}
use Rattle.grid_types.specs.declared.request.Request.TheVariants as ask
use Rattle.grid_types.specs.declared.request.Reply.{Reply}
use Rattle.grid_types.specs.declared.update.Update.{Update}
use Rattle.grid_types.specs.declared.update.Update.TheVariants.{Put, Remove}
use Rattle.grid_types.specs.declared.layout_change.LayoutChange.{LayoutChange}
use Rattle.grid_types.specs.Keys.{IsKey}
use Rattle.grid_types.specs.Shapes.{is_shape}
use Rattle.grid_model.specs.Lists.{is_among, AreDistinct}
use Rattle.grid_model.specs.Cells.{parts}
use Rattle.grid_model.specs.Tables.{Table}
use Rattle.grid_model.specs.Layouts.{BucketBox, Layout, box}
use Rattle.grid_model.specs.LayoutLaws.{StandsOver, Fits}
use Rattle.grid_model.specs.Lawful.{IsUpdateOf}
use Rattle.grid_model.specs.Histories.{History, IsHistory, Layouts, front, state_at, layout_at, IsNoted}
use Rattle.grid_model.specs.Answers.{CallTrail, IsLegal, IsRefusal}
use Rattle.grid_model.specs.Lone.{State, free, made, opened, published, how_many, lone, answers, afterwards}

-- a state of a file of that shape: its layout is sound for its table, what is rooted is among its owners, each once, and boxes, parts and kept pages fit
pub record IsState {K : ℕ} (shape : Shape) (s : State K) : Type 0 where
  pub stands : StandsOver shape s.layout s.table
  pub rooted_buckets : (n : ℕ) → IsTrue (is_among s.rooted.buckets n) → IsSome (box s.layout n)
  pub distinct_buckets : AreDistinct s.rooted.buckets
  pub rooted_parts : (p : ℕ) → IsTrue (is_among s.rooted.parts p) → p < parts s.layout.scales
  pub distinct_parts : AreDistinct s.rooted.parts
  pub pages : length s.layout.boxes + parts s.layout.scales + s.kept ≤ shape.pages

-- a request about a key names one of K numbers, and what it puts there is lawful data
abbrev pub IsRequest : {K : ℕ} → Request K → Type 0
IsRequest {K} (ask.Put r) = IsUpdateOf K (Put r)
IsRequest {K} (ask.Remove k) = IsUpdateOf K (Remove k)
IsRequest {K} (ask.Get k) = IsKey K k.numbers
IsRequest (ask.List q) = ⊤
IsRequest (ask.Count q) = ⊤
IsRequest ask.Stat = ⊤
IsRequest ask.Checkpoint = ⊤

-- the trail of a lone caller's request in a state: its event, and the root of a checkpoint, are at the front
abbrev pub lone_trail : {K : ℕ} → State K → CallTrail
lone_trail s = record { event = s.front; rooted = Some s.front }

-- a history of a caller's requests: it is one of tables, begins with a state, ends with another, each note is lawful where it stands, and each reply is a legal answer in it or a refusal
pub record IsHistoryOf {K : ℕ} (shape : Shape) (caller : ℕ) (s : State K) (requests : List (Request K)) (h : History K) (ls : Layouts K) : Type 0 where
  pub from : h.from ≡ s.front
  pub base : h.base ≡ s.table
  pub first : ls.first ≡ s.layout
  pub is_history : IsHistory h
  pub noted : IsNoted shape h ls
  pub front_is : front h ≡ (afterwards shape s requests).front
  pub table : state_at h (front h) ≡ (afterwards shape s requests).table
  pub layout : layout_at h ls (front h) ≡ (afterwards shape s requests).layout
  pub legal : (i : ℕ) (r : Request K) (reply : Reply K) → slice_get requests i ≡ Some r → slice_get (answers shape s requests) i ≡ Some reply
      → IsLegal shape h ls caller (lone_trail (afterwards shape s (take i requests))) r reply ⊎ IsRefusal reply

-- the requests of a lone caller make a history in which its answers are legal
pub record MakesHistory {K : ℕ} (shape : Shape) (caller : ℕ) (s : State K) (requests : List (Request K)) : Type 0 where
  pub history : History K
  pub layouts : Layouts K
  pub is_history : IsHistoryOf shape caller s requests history layouts

-- a new file and one that was opened have a state, each request leaves one, a lone caller's answers are legal in the history that it makes, and the free pages are those that neither a box nor a part nor the root has
pub record IsLegalAlone (K : ℕ) : Type 0 where
  pub made : (shape : Shape) → IsTrue (is_shape shape) → shape.k ≡ K → IsState shape (made K)
  pub opened : (shape : Shape) (t : Table) (L : Layout K) (n : ℕ) → StandsOver shape L t → Fits shape L → IsState shape (opened t L n)
  pub leaves : (shape : Shape) (s : State K) (r : Request K) → IsState shape s → IsRequest r → IsState shape (lone shape s r).state
  pub legal : (shape : Shape) (caller : ℕ) (s : State K) (requests : List (Request K)) → IsState shape s → ((i : ℕ) (r : Request K) → slice_get requests i ≡ Some r → IsRequest r) → MakesHistory shape caller s requests
  pub free : (shape : Shape) (s : State K) → IsState shape s → free shape s + length s.layout.boxes + parts s.layout.scales + s.kept ≡ shape.pages
  pub kept : (s : State K) (e : ℕ × BucketBox K) (u : Update K) (n : LayoutChange) → (published e u n s).kept + how_many (published e u n s).rooted ≡ s.kept + how_many s.rooted
