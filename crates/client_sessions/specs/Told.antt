-- What a client is told at a point of its session, and the point to which that leads.
use Rattle.std.specs.Prelude.{◌≡◌, ◌⊎◌, ◌<◌, ◌≤◌, ◌+◌, ℕ, List, map, length, false, Option, Some, None, IsSome, IsSomeAnd, IsTrue, ⊤}
use Rattle.grid_types.specs.declared.answer.Answer.{Answer}
use Rattle.grid_types.specs.declared.refusal.Refusal.{Refusal}
use Rattle.grid_types.specs.declared.refusal.Refusal.TheVariants as refusal
use Rattle.grid_types.specs.declared.request.Reply.{Reply}
use Rattle.grid_types.specs.declared.request.Reply.TheVariants as told
use Rattle.grid_types.specs.declared.request.Request.{Request}
use Rattle.grid_types.specs.declared.request.Request.TheVariants as ask
use Rattle.grid_types.specs.declared.shape.Shape.{Shape}
use Rattle.grid_types.specs.declared.update.Record.{Record}
use Rattle.grid_types.specs.declared.update.Update.{Update}
use Rattle.grid_types.specs.declared.update.Update.TheVariants.{Put, Remove}
use Rattle.grid_types.specs.Queries.{is_lawful}
use Rattle.grid_model.specs.Answers.{IsCounted}
use Rattle.grid_model.specs.Cells.{cells}
use Rattle.grid_model.specs.Layouts.{BucketBox, holder}
use Rattle.grid_model.specs.Listings.{rows}
use Rattle.grid_model.specs.Lone.{boundaries, need, record_of}
use Rattle.grid_model.specs.Notes.{put_note, updated_key, IsLawfulNote}
use Rattle.grid_model.specs.Tables.{get}
use Rattle.grid_types.specs.declared.layout_change.LayoutChange.{LayoutChange}
use Rattle.client_sessions.specs.Points.{Point, LeadsBy}

-- from this number on a front and a root number are worn
abbrev pub worn_from : ℕ
worn_from = 4611686018427387904

-- an update was made: it has the next place, and is answered the data that its key had
pub record IsMade {K : ℕ} (shape : Shape) (p : Point K) (u : Update K) (a : Answer (Option (List ℕ))) (q : Point K) : Type 0 where
  pub leads : LeadsBy shape p u q.at
  pub settled : q.beyond ≡ None
  pub answer : a ≡ record { at = p.at.place + 1; value = get p.at.table (updated_key u) }

-- a reading was answered there, and leads nowhere else
pub record IsRead {K : ℕ} {V : Type 0} (p : Point K) (a : Answer V) (value : V) (q : Point K) : Type 0 where
  pub stays : q ≡ p
  pub answer : a ≡ record { at = p.at.place; value = value }

-- a removal was answered: it was made, of a key that was there, or its key was absent, and it was answered as a reading
abbrev pub IsRemoved : {K : ℕ} → Shape → Point K → Update K → Answer (Option (List ℕ)) → Point K → Type 0
IsRemoved shape p u a q = IsMade shape p u a q ⊎ (IsRead p a None q × (get p.at.table (updated_key u) ≡ None))

-- an update is in doubt, since its batch failed: the session stands where it stood, and with the batch where the update leads
pub record IsDoubted {K : ℕ} (shape : Shape) (p : Point K) (u : Update K) (q : Point K) : Type 0 where
  pub at : q.at ≡ p.at
  pub with : IsSomeAnd q.beyond (LeadsBy shape p u)

-- an update needs so many pages, more than there were free
pub record IsShort {K : ℕ} (shape : Shape) (p : Point K) (u : Update K) (free wanted : ℕ) : Type 0 where
  pub few : free < wanted
  pub box : ℕ × BucketBox K
  pub holds : holder p.at.layout (updated_key u) ≡ Some box
  pub note : LayoutChange
  pub lawful : IsLawfulNote shape p.at.layout p.at.table u note
  pub needs : wanted ≡ need p.at.layout box u note

-- an update may be refused so: its batch failed; a batch failed before; it needs more pages than were free; or a number is worn, or a disk failed
abbrev pub RefusesUpdate : {K : ℕ} → Shape → Point K → Update K → Refusal → Point K → Type 0
RefusesUpdate shape p u (refusal.Unsure faults before) q = IsDoubted shape p u q × (before < faults ⊎ (faults ≡ 18446744073709551615))
RefusesUpdate shape p u (refusal.Stopped faults opened) q = (q ≡ p) × IsSome p.beyond
RefusesUpdate shape p u (refusal.Full free wanted) q = (q ≡ p) × IsShort shape p u free wanted
RefusesUpdate shape p u (refusal.Worn count) q = (q ≡ p) × (worn_from ≤ count)
RefusesUpdate shape p u refusal.ReadFault q = q ≡ p
RefusesUpdate shape p u refusal.WriteFault q = q ≡ p
RefusesUpdate shape p u other q = ⊥

-- a put may be refused as an update, or since its bucket is full and has no cut, of so many cells and boundaries
abbrev pub RefusesPut : {K : ℕ} → Shape → Point K → Record K → Refusal → Point K → Type 0
RefusesPut shape p r (refusal.NoCut c b) q = (q ≡ p) × (put_note shape p.at.layout p.at.table r.key.numbers ≡ None) × (c ≡ cells p.at.layout.scales) × (b ≡ boundaries p.at.layout.scales)
RefusesPut shape p r other q = RefusesUpdate shape p (Put r) other q

-- a checkpoint may be refused so: a batch failed before, a root number is worn, or a disk failed
abbrev pub RefusesCheckpoint : {K : ℕ} → Point K → Refusal → Type 0
RefusesCheckpoint p (refusal.Stopped faults opened) = IsSome p.beyond
RefusesCheckpoint p (refusal.Worn count) = worn_from ≤ count
RefusesCheckpoint p refusal.ReadFault = ⊤
RefusesCheckpoint p refusal.WriteFault = ⊤
RefusesCheckpoint p other = ⊥

-- what a client is told at a point, and the point to which it leads: a plain table's answer at its place, or a refusal with its cause; a get, a listing, a count and a `stat` are refused only since a reading failed, a listing also for want of memory
abbrev pub Told : {K : ℕ} → Shape → Point K → Request K → Reply K → Point K → Type 0
Told shape p (ask.Put r) (told.Put a) q = IsMade shape p (Put r) a q
Told shape p (ask.Put r) (told.Refused e) q = RefusesPut shape p r e q
Told shape p (ask.Remove k) (told.Removed a) q = IsRemoved shape p (Remove k) a q
Told shape p (ask.Remove k) (told.Refused e) q = RefusesUpdate shape p (Remove k) e q
Told shape p (ask.Get k) (told.Got a) q = IsRead p a (get p.at.table k.numbers) q
Told shape p (ask.Get k) (told.Refused e) q = (q ≡ p) × (e ≡ refusal.ReadFault)
Told shape p (ask.List x) (told.Listed a) q = IsTrue (is_lawful x.sides) × IsRead p a (map record_of (rows p.at.table x)) q
Told shape p (ask.List x) (told.Refused e) q = (q ≡ p) × ((e ≡ refusal.ReadFault) ⊎ (e ≡ refusal.NoMemory) ⊎ ((e ≡ refusal.BadQuery) × (is_lawful x.sides ≡ false)))
Told shape p (ask.Count x) (told.Counted a) q = IsTrue (is_lawful x.sides) × IsRead p a (length (rows p.at.table x)) q
Told shape p (ask.Count x) (told.Refused e) q = (q ≡ p) × ((e ≡ refusal.ReadFault) ⊎ ((e ≡ refusal.BadQuery) × (is_lawful x.sides ≡ false)))
Told shape p ask.Stat (told.Stood a) q = (q ≡ p) × (a.at ≡ p.at.place) × (a.value.records ≡ length p.at.table) × IsCounted shape p.at.layout a.value
Told shape p ask.Checkpoint (told.Rooted n) q = (q ≡ p) × (n ≡ p.at.place) × (p.beyond ≡ None)
Told shape p ask.Checkpoint (told.Refused e) q = (q ≡ p) × RefusesCheckpoint p e
Told _ _ _ _ _ = ⊥
