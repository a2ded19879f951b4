-- The statuses of the program.
use Rattle.std.specs.Prelude.{◌≡◌, ◌≤◌, ◌⊎◌, ℕ, List, [], ◌∷◌, max}
use Rattle.grid_types.specs.declared.refusal.Refusal.{Refusal}
use Rattle.grid_types.specs.declared.refusal.Refusal.TheVariants as refusal
use Rattle.grid_types.specs.declared.request.Reply.{Reply}
use Rattle.grid_types.specs.declared.request.Reply.TheVariants as reply

-- a status of the program: 0, or 2 to 8
abbrev pub IsStatus : ℕ → Type 0
IsStatus s = (s ≡ 0) ⊎ ((2 ≤ s) × (s ≤ 8))

-- the status of a refusal: 4 where bytes are not what they have to be, 6 for want of memory, 7 where the request can't be done, 8 where a failed batch leaves it open; of a fault of the disk the counts tell
abbrev pub status_of_refusal : Refusal → ℕ
status_of_refusal refusal.NoMemory = 6
status_of_refusal refusal.ReadFault = 0
status_of_refusal refusal.WriteFault = 0
status_of_refusal (refusal.Unsure faults before) = 8
status_of_refusal (refusal.Stopped faults opened) = 8
status_of_refusal (refusal.Full free need) = 7
status_of_refusal (refusal.NoCut cells boundaries) = 7
status_of_refusal (refusal.Damaged page) = 4
status_of_refusal refusal.Foreign = 4
status_of_refusal (refusal.Version found) = 4
status_of_refusal refusal.Seats = 7
status_of_refusal refusal.BadShape = 7
status_of_refusal refusal.BadQuery = 7
status_of_refusal (refusal.Worn count) = 7
status_of_refusal (refusal.Arity found) = 4

-- the status of a reply: that of its refusal, or 0
abbrev pub status_of_reply : {K : ℕ} → Reply K → ℕ
status_of_reply (reply.Refused why) = status_of_refusal why
status_of_reply _ = 0

-- the status of some replies: the greatest of them
unfoldable pub greatest_status : {K : ℕ} → List (Reply K) → ℕ
greatest_status [] = 0
greatest_status (r ∷ rs) = max (status_of_reply r) (greatest_status rs)
