-- From why a call on a store refuses to what its caller is told.
use Rattle.std.proofs.Common.{◌≡◌, ◌⊎◌, inl, inr, ◌≤◌, ◌<◌, ℕ, Bool, true, false, Option, Some, None, Result, Err, IfErr, IsTrue, List, refl, sym, subst, arith}
use Rattle.std.proofs.lemmas.Bool.{false≢true}
use Rattle.grid_types.specs.declared.answer.Answer.{Answer}
use Rattle.grid_types.specs.declared.key.Key.{Key}
use Rattle.grid_types.specs.declared.query.Query.{Query}
use Rattle.grid_types.specs.declared.refusal.Refusal.{Refusal}
use Rattle.grid_types.specs.declared.refusal.Refusal.TheVariants as refusal
use Rattle.grid_types.specs.declared.request.Reply.TheVariants as told
use Rattle.grid_types.specs.declared.request.Request.{Request}
use Rattle.grid_types.specs.declared.request.Request.TheVariants as ask
use Rattle.grid_types.specs.declared.update.Record.{Record}
use Rattle.grid_types.specs.declared.update.Update.{Update}
use Rattle.grid_types.specs.declared.update.Update.TheVariants.{Put, Remove}
use Rattle.disk_trait.specs.declared.disk.Disk.{Ghosts}
use Rattle.disk_trait.specs.Calls.{HasCauses}
use Rattle.disk_trait.specs.Causes.{Rose}
use Rattle.query_paths.specs.Paths.{IsGetRefusal, IsQueryRefusal}
use Rattle.query_paths.specs.Pinned.{Place}
use Rattle.file_books.specs.Books.{Books}
use Rattle.grid_file.specs.Files.{OpenFile}
use Rattle.file_updates.specs.declared.room.UpdateRoom.{UpdateRoom}
use Rattle.client_sessions.specs.Told.{worn_from}
use Rattle.durable_updates.specs.Answers.{UnlessFailed}
use Rattle.durable_updates.specs.Causes.{IsRootRefusal, IsUpdateCause}
use Rattle.script_sessions.specs.Replies.{IsCountedFault, IsReplyTo, IsRuleRefusal}

-- a refusal may be told to who asks this, a fault of the disk was counted, and P holds where a rule gives the refusal
pub record IsRefusedSo {K : ℕ} {D : Type 0} (g : Ghosts D) (old new : D) (r : Request K) (P : Type 0) (e : Refusal) : Type 0 where
  pub kind : IsReplyTo r (told.Refused e)
  pub fault : IsCountedFault g old new e
  pub rules : IsRuleRefusal e → P

-- the count of failed writes rose in a batch that failed
rose-in : (old before now faults : ℕ) → old ≤ before → faults ≡ now → (before < faults) ⊎ (faults ≡ 18446744073709551615) → Rose old now
rose-in old before now faults le is (inl more) = omega (arith, le, is, more)
rose-in old before now faults le is (inr last) = omega (arith, le, is, last)

module _ {D : Type 0} (g : Ghosts D) (old new : D) (P : Type 0) where
  -- a get is refused
  pub get-refused : (K : ℕ) (k : Key K) (p : Place) (bytes : List ℕ) (e : Refusal) → IsGetRefusal K p (g.read_count old) (g.read_count new) k.numbers bytes e → IsRefusedSo g old new (ask.Get k) P e
  get-refused K k p bytes refusal.ReadFault why = record { kind = tt; fault = why; rules = λ no. absurd no }
  get-refused K k p bytes (refusal.Damaged page) why = record { kind = tt; fault = tt; rules = λ no. absurd no }
  get-refused K k p bytes other why = absurd why

  -- a count of a lawful query is refused
  pub count-refused : (K : ℕ) (q : Query K) (p : Place) (part bucket : List ℕ) (e : Refusal) → IsQueryRefusal K false p q.sides part bucket (g.read_count old) (g.read_count new) e → IsRefusedSo g old new (ask.Count q) P e
  count-refused K q p part bucket refusal.NoMemory why = absurd (false≢true why)
  count-refused K q p part bucket refusal.ReadFault why = record { kind = tt; fault = why; rules = λ no. absurd no }
  count-refused K q p part bucket (refusal.Damaged page) why = record { kind = tt; fault = tt; rules = λ no. absurd no }
  count-refused K q p part bucket other why = absurd why

  -- a listing of a lawful query is refused
  pub listing-refused : (K : ℕ) (q : Query K) (p : Place) (part bucket : List ℕ) (e : Refusal) → IsQueryRefusal K true p q.sides part bucket (g.read_count old) (g.read_count new) e → IsRefusedSo g old new (ask.List q) P e
  listing-refused K q p part bucket refusal.NoMemory why = record { kind = tt; fault = tt; rules = λ no. absurd no }
  listing-refused K q p part bucket refusal.ReadFault why = record { kind = tt; fault = why; rules = λ no. absurd no }
  listing-refused K q p part bucket (refusal.Damaged page) why = record { kind = tt; fault = tt; rules = λ no. absurd no }
  listing-refused K q p part bucket other why = absurd why

  -- a checkpoint is refused
  pub checkpoint-refused : {K : ℕ} (b : Books) (e : Refusal) → HasCauses {T = ℕ} g (IsRootRefusal b) old new (Err e) → IsRefusedSo {K = K} g old new ask.Checkpoint P e
  checkpoint-refused b refusal.ReadFault why = record { kind = tt; fault = why.read_fault refl; rules = λ no. absurd no }
  checkpoint-refused b refusal.WriteFault why = record { kind = tt; fault = why.write_fault refl; rules = λ no. absurd no }
  checkpoint-refused b (refusal.Worn count) why = record { kind = subst (λ (n : ℕ). worn_from ≤ n) (sym why.no_other.1) why.no_other.0; fault = tt; rules = λ no. absurd no }
  checkpoint-refused b other why = absurd why.no_other

-- an update is refused at an open file, which P would have answered unless something failed
module _ {K : ℕ} {D : Type 0} (g : Ghosts D) (old new : OpenFile D) (room : UpdateRoom K) (P : Type 0) where
  update-fault : (u : Update K) (e : Refusal) → IsUpdateCause g u old new room e → IsCountedFault g old.disk new.disk e
  update-fault u refusal.ReadFault why = why
  update-fault u refusal.WriteFault why = why
  update-fault u (refusal.Unsure faults before) why = rose-in (g.write_count old.disk) before (g.write_count new.disk) faults why.0 why.1 why.2
  update-fault u other why = tt

  update-rules : (u : Update K) (e : Refusal) → IsUpdateCause g u old new room e → UnlessFailed {T = Answer (Option (List ℕ))} (Err e) P → IsRuleRefusal e → P
  update-rules u (refusal.Full free wanted) why alone rule = alone
  update-rules u (refusal.NoCut cells boundaries) why alone rule = alone
  update-rules u refusal.BadQuery why alone rule = absurd why
  update-rules u other why alone rule = absurd rule

  put-kind : (row : Record K) (e : Refusal) → IsUpdateCause g (Put row) old new room e → IsReplyTo (ask.Put row) (told.Refused e)
  put-kind row refusal.ReadFault why = tt
  put-kind row refusal.WriteFault why = tt
  put-kind row (refusal.Unsure faults before) why = why.2
  put-kind row (refusal.Full free wanted) why = why
  put-kind row (refusal.NoCut cells boundaries) why = tt
  put-kind row (refusal.Worn count) why = why.0
  put-kind row (refusal.Damaged page) why = tt
  put-kind row other why = absurd why

  remove-kind : (k : Key K) (e : Refusal) → IsUpdateCause g (Remove k) old new room e → IsReplyTo (ask.Remove k) (told.Refused e)
  remove-kind k refusal.ReadFault why = tt
  remove-kind k refusal.WriteFault why = tt
  remove-kind k (refusal.Unsure faults before) why = why.2
  remove-kind k (refusal.Full free wanted) why = why
  remove-kind k (refusal.NoCut cells boundaries) why = tt
  remove-kind k (refusal.Worn count) why = why.0
  remove-kind k (refusal.Damaged page) why = tt
  remove-kind k other why = absurd why

  pub put-refused : (row : Record K) (e : Refusal) → IsUpdateCause g (Put row) old new room e → UnlessFailed {T = Answer (Option (List ℕ))} (Err e) P → IsRefusedSo g old.disk new.disk (ask.Put row) P e
  put-refused row e why alone = record { kind = put-kind row e why; fault = update-fault (Put row) e why; rules = update-rules (Put row) e why alone }

  pub remove-refused : (k : Key K) (e : Refusal) → IsUpdateCause g (Remove k) old new room e → UnlessFailed {T = Answer (Option (List ℕ))} (Err e) P → IsRefusedSo g old.disk new.disk (ask.Remove k) P e
  remove-refused k e why alone = record { kind = remove-kind k e why; fault = update-fault (Remove k) e why; rules = update-rules (Remove k) e why alone }

-- a store is stopped or not: where it is, what it refuses is told so
pub stopped-or : {T : Type 0} (Q : Refusal → Type 0) (stop : Option ℕ) (opened : ℕ) (e : Refusal) → (stop ≡ None → Q e) → ((n : ℕ) → stop ≡ Some n → ◌≡◌ {A = Result T Refusal} (Err e) (Err (refusal.Stopped n opened)))
    → ((n : ℕ) → Q (refusal.Stopped n opened)) → Q e
stopped-or Q None opened e going halted so = going refl
stopped-or {T = T} Q (Some n) opened e going halted so = subst (λ (r : Result T Refusal). IfErr r Q) (sym (halted n refl)) (so n)

-- a query is lawful or not: where it is not, it is refused so
pub lawful-or : {T : Type 0} (Q : Refusal → Type 0) (lawful : Bool) (e : Refusal) → (IsTrue lawful → Q e) → (lawful ≡ false → ◌≡◌ {A = Result T Refusal} (Err e) (Err refusal.BadQuery)) → (lawful ≡ false → Q refusal.BadQuery) → Q e
lawful-or Q true e well bad so = well refl
lawful-or {T = T} Q false e well bad so = subst (λ (r : Result T Refusal). IfErr r Q) (sym (bad refl)) (so refl)
