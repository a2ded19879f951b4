-- The replies to a script's lines: the kind of each, what a refusal says of the disk, and which ones a lone caller's rules give.
use Rattle.std.specs.Prelude.{◌≡◌, ◌⊎◌, ◌<◌, ◌≤◌, ℕ, List, [], ◌∷◌, false, All, ⊤}
use Rattle.grid_types.specs.declared.query.Query.{Query}
use Rattle.grid_types.specs.declared.refusal.Refusal.{Refusal}
use Rattle.grid_types.specs.declared.refusal.Refusal.TheVariants as refusal
use Rattle.grid_types.specs.declared.request.Line.{Line}
use Rattle.grid_types.specs.declared.request.Reply.{Reply}
use Rattle.grid_types.specs.declared.request.Reply.TheVariants as told
use Rattle.grid_types.specs.declared.request.Request.{Request}
use Rattle.grid_types.specs.declared.request.Request.TheVariants as ask
use Rattle.grid_types.specs.Queries.{is_lawful}
use Rattle.disk_trait.specs.declared.disk.Disk.{Ghosts}
use Rattle.disk_trait.specs.Causes.{Rose}
use Rattle.client_sessions.specs.Told.{worn_from}

-- a get may be refused so: a read failed, or a page was damaged
abbrev pub MayRefuseGet : Refusal → Type 0
MayRefuseGet refusal.ReadFault = ⊤
MayRefuseGet (refusal.Damaged page) = ⊤
MayRefuseGet other = ⊥

-- a count may be refused as a get, or since a side of its query ends below its begin
abbrev pub MayRefuseCount : {K : ℕ} → Query K → Refusal → Type 0
MayRefuseCount q refusal.BadQuery = is_lawful q.sides ≡ false
MayRefuseCount q other = MayRefuseGet other

-- a listing may be refused as a count, or for want of memory
abbrev pub MayRefuseListing : {K : ℕ} → Query K → Refusal → Type 0
MayRefuseListing q refusal.NoMemory = ⊤
MayRefuseListing q other = MayRefuseCount q other

-- a remove may be refused so: a call of the disk failed, its batch is in doubt or one before is, pages lack, a number is worn, or a page was damaged; that there is no cut is excluded only where a disk tells its content
abbrev pub MayRefuseRemove : Refusal → Type 0
MayRefuseRemove refusal.ReadFault = ⊤
MayRefuseRemove refusal.WriteFault = ⊤
MayRefuseRemove (refusal.Unsure faults before) = (before < faults) ⊎ (faults ≡ 18446744073709551615)
MayRefuseRemove (refusal.Stopped faults opened) = ⊤
MayRefuseRemove (refusal.Full free wanted) = free < wanted
MayRefuseRemove (refusal.Worn count) = worn_from ≤ count
MayRefuseRemove (refusal.Damaged page) = ⊤
MayRefuseRemove (refusal.NoCut cells boundaries) = ⊤
MayRefuseRemove other = ⊥

-- a put may be refused as a remove
abbrev pub MayRefusePut : Refusal → Type 0
MayRefusePut e = MayRefuseRemove e

-- a checkpoint may be refused so: a call of the disk failed, a batch is in doubt, or a number is worn
abbrev pub MayRefuseCheckpoint : Refusal → Type 0
MayRefuseCheckpoint refusal.ReadFault = ⊤
MayRefuseCheckpoint refusal.WriteFault = ⊤
MayRefuseCheckpoint (refusal.Stopped faults opened) = ⊤
MayRefuseCheckpoint (refusal.Worn count) = worn_from ≤ count
MayRefuseCheckpoint other = ⊥

-- a reply is of its request's kind, or a refusal that the request may be told; what is counted is never refused
abbrev pub IsReplyTo : {K : ℕ} → Request K → Reply K → Type 0
IsReplyTo (ask.Put r) (told.Put a) = ⊤
IsReplyTo (ask.Put r) (told.Refused e) = MayRefusePut e
IsReplyTo (ask.Remove k) (told.Removed a) = ⊤
IsReplyTo (ask.Remove k) (told.Refused e) = MayRefuseRemove e
IsReplyTo (ask.Get k) (told.Got a) = ⊤
IsReplyTo (ask.Get k) (told.Refused e) = MayRefuseGet e
IsReplyTo (ask.List q) (told.Listed a) = ⊤
IsReplyTo (ask.List q) (told.Refused e) = MayRefuseListing q e
IsReplyTo (ask.Count q) (told.Counted a) = ⊤
IsReplyTo (ask.Count q) (told.Refused e) = MayRefuseCount q e
IsReplyTo ask.Stat (told.Stood a) = ⊤
IsReplyTo ask.Checkpoint (told.Rooted n) = ⊤
IsReplyTo ask.Checkpoint (told.Refused e) = MayRefuseCheckpoint e
IsReplyTo _ _ = ⊥

-- there is one reply of its kind to each line, in order
abbrev pub AreRepliesTo : {K : ℕ} → List (Line K) → List (Reply K) → Type 0
AreRepliesTo [] [] = ⊤
AreRepliesTo [] (r ∷ rs) = ⊥
AreRepliesTo (l ∷ ls) [] = ⊥
AreRepliesTo (l ∷ ls) (r ∷ rs) = IsReplyTo l.request r × AreRepliesTo ls rs

-- a refusal that is a fault of the disk comes only where the count of such failures rose; an update in doubt is a failed write
abbrev pub IsCountedFault : {D : Type 0} → Ghosts D → D → D → Refusal → Type 0
IsCountedFault g old new refusal.ReadFault = Rose (g.read_count old) (g.read_count new)
IsCountedFault g old new refusal.WriteFault = Rose (g.write_count old) (g.write_count new)
IsCountedFault g old new (refusal.Unsure faults before) = Rose (g.write_count old) (g.write_count new)
IsCountedFault g old new other = ⊤

-- a fault of the disk is told only where the count of such failures rose
abbrev pub CountsFault : {K : ℕ} {D : Type 0} → Ghosts D → D → D → Reply K → Type 0
CountsFault g old new (told.Refused e) = IsCountedFault g old new e
CountsFault g old new answer = ⊤

-- a refusal that a lone caller's rules give: pages lack, or cuts, or the query is not lawful
abbrev pub IsRuleRefusal : Refusal → Type 0
IsRuleRefusal (refusal.Full free wanted) = ⊤
IsRuleRefusal (refusal.NoCut cells boundaries) = ⊤
IsRuleRefusal refusal.BadQuery = ⊤
IsRuleRefusal other = ⊥

-- a reply that a lone caller's rules give: an answer, or a refusal of theirs
abbrev pub IsByRules : {K : ℕ} → Reply K → Type 0
IsByRules (told.Refused e) = IsRuleRefusal e
IsByRules answer = ⊤

-- P holds, unless the reply is a refusal that no rule gives
abbrev pub UnlessRefused : {K : ℕ} → Reply K → Type 0 → Type 0
UnlessRefused reply P = IsByRules reply → P

-- no reply is a refusal that no rule gives
abbrev pub NoneRefused : {K : ℕ} → List (Reply K) → Type 0
NoneRefused replies = All IsByRules replies

-- a reply does not leave its update in doubt
abbrev pub IsSure : {K : ℕ} → Reply K → Type 0
IsSure (told.Refused (refusal.Unsure faults before)) = ⊥
IsSure other = ⊤
