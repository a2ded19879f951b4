-- What an update is told at a point of a session where nothing is in doubt.
use Rattle.std.proofs.Common.{◌≡◌, ◌+◌, ◌≤◌, ◌⊎◌, inl, inr, ℕ, List, Option, Some, None, Result, Ok, Err, refl, sym, ap, subst, ◌∙◌, arith}
use Rattle.grid_types.specs.declared.answer.Answer.{Answer}
use Rattle.grid_types.specs.declared.layout_change.LayoutChange.{LayoutChange}
use Rattle.grid_types.specs.declared.refusal.Refusal.{Refusal}
use Rattle.grid_types.specs.declared.refusal.Refusal.TheVariants as refusal
use Rattle.grid_types.specs.declared.request.Reply.{Reply}
use Rattle.grid_types.specs.declared.request.Reply.TheVariants as told
use Rattle.grid_types.specs.declared.request.Request.{Request}
use Rattle.grid_types.specs.declared.shape.Shape.{Shape}
use Rattle.grid_types.specs.Keys.{IsKey}
use Rattle.grid_types.specs.declared.update.Update.{Update}
use Rattle.grid_types.specs.declared.update.Update.TheVariants.{Put, Remove}
use Rattle.disk_trait.specs.declared.disk.Disk.{Ghosts}
use Rattle.disk_trait.specs.Calls.{Changes}
use Rattle.disk_trait.proofs.Calls.{rose_within}
use Rattle.disk_trait.proofs.Moments.{joined, weakened}
use Rattle.checkpoints.specs.Disks.{KeepsLength}
use Rattle.grid_model.specs.Cells.{cells}
use Rattle.grid_model.specs.LayoutLaws.{StandsOver}
use Rattle.grid_model.specs.Layouts.{BucketBox, Layout, holder}
use Rattle.grid_model.specs.Lone.{State, Outcome, answered, boundaries, change, free, lone, put_noted, refused, remove_found, update_at, update_held, update_reply, updated}
use Rattle.grid_model.specs.Notes.{updated_key, IsLawfulNote}
use Rattle.grid_model.specs.Tables.{Table, get}
use Rattle.history_pages.specs.PageLaws.{IsChange}
use Rattle.file_images.specs.Leads.{Standing, HasStanding}
use Rattle.file_books.specs.Books.{Books}
use Rattle.file_standing.specs.Open.{IsOpenAlone, IsOpenInSession}
use Rattle.layout_pages.proofs.Present.{value-of}
use Rattle.grid_file.specs.Files.{OpenFile}
use Rattle.grid_file.specs.Pages.{front_place}
use Rattle.file_updates.specs.Outcomes.{ChangesNothing, FitsUpdate, HasNoNote, IsChosenPlan, IsHonestRefusal, IsUpdateRefusal}
use Rattle.file_updates.specs.declared.room.UpdateRoom.{UpdateRoom}
use Rattle.file_updates.specs.declared.planning.Outcome.TheVariants.{Nothing}
use Rattle.file_updates.proofs.Chosen.{chosen_lone}
use Rattle.update_plans.specs.declared.plan.Plan.{Plan}
use Rattle.client_sessions.specs.Points.{Point, StandsAt, after_update, standing_of}
use Rattle.client_sessions.specs.Told.{IsDoubted, Told, worn_from}
use Rattle.durable_updates.specs.Carried.{CarriesTo, IsCarried, IsCarriedAlone, IsCarryingCause, settled_at}
use Rattle.durable_updates.specs.Goings.{GoesOnThere, IsOpenSwept}
use Rattle.durable_updates.specs.Answers.{IsAnsweredAlone, IsPlaced, UnlessFailed}
use Rattle.durable_updates.specs.Causes.{IsUpdateCause}
use Rattle.durable_updates.proofs.Carryings.{damage_before}
use Rattle.durable_updates.specs.Points.{IsAnsweredAt, IsOpenAsAt, IsOpenBeside, reply_to, request_of}

-- a point where nothing is in doubt is that of its standing
pub settled_point : {K : ℕ} (p : Point K) → p.beyond ≡ None → p ≡ settled_at p.at
settled_point p none = λ i. record { at = p.at; beyond = none i }

module _ {K : ℕ} (shape : Shape) (m : Standing K) (u : Update K) where
  -- what is refused by honest pages is told so
  pub refused_told : (why : Refusal) → IsHonestRefusal shape m.layout m.table u why → ((c b : ℕ) → why ≡ refusal.NoCut c b → (c ≡ cells m.layout.scales) × (b ≡ boundaries m.layout.scales)) → Told shape (settled_at m) (request_of u) (reply_to u (Err why)) (settled_at m)
  refused_told why honest numbers = by u why honest numbers
    where
      by : (v : Update K) (x : Refusal) → IsHonestRefusal shape m.layout m.table v x → ((c b : ℕ) → x ≡ refusal.NoCut c b → (c ≡ cells m.layout.scales) × (b ≡ boundaries m.layout.scales)) → Told shape (settled_at m) (request_of v) (reply_to v (Err x)) (settled_at m)
      by (Put r) refusal.ReadFault h n = refl
      by (Remove k) refusal.ReadFault h n = refl
      by (Put r) (refusal.NoCut c b) h n = (refl, h, (n c b refl).0, (n c b refl).1)
      by (Remove k) (refusal.NoCut c b) h n = absurd h
      by v other h n = absurd h

  -- a removal of a key that is absent is told as a reading
  pub nothing_told : (at : ℕ) → at ≡ m.place → ChangesNothing m.table u → Told shape (settled_at m) (request_of u) (reply_to u (Ok (record { at = at; value = None }))) (settled_at m)
  nothing_told at same nothing = by u nothing
    where
      by : (v : Update K) → ChangesNothing m.table v → Told shape (settled_at m) (request_of v) (reply_to v (Ok (record { at = at; value = None }))) (settled_at m)
      by (Put r) n = absurd n
      by (Remove k) n = inr (record { stays = refl; answer = λ i. record { at = same i; value = None } }, n)

  module _ (e : ℕ × BucketBox K) (n : LayoutChange) (change : IsChange shape m.layout m.table u n e) where
    -- an update that was made is told so
    pub made_told : (a : Answer (Option (List ℕ))) (q : Point K) → a ≡ record { at = m.place + 1; value = get m.table (updated_key u) } → q ≡ settled_at (after_update m u n) → Told shape (settled_at m) (request_of u) (reply_to u (Ok a)) q
    made_told a q answer is = subst (λ (x : Point K). Told shape (settled_at m) (request_of u) (reply_to u (Ok a)) x) (sym is) (by u change.lawful answer)
      where
        by : (v : Update K) → IsLawfulNote shape m.layout m.table v n → a ≡ record { at = m.place + 1; value = get m.table (updated_key v) } → Told shape (settled_at m) (request_of v) (reply_to v (Ok a)) (settled_at (after_update m v n))
        by (Put r) lawful is = record { leads = record { settled = refl; note = n; lawful = lawful; behind = refl }; settled = refl; answer = is }
        by (Remove k) lawful is = inl (record { leads = record { settled = refl; note = n; lawful = lawful; behind = refl }; settled = refl; answer = is })

    -- and one that failed is told why
    pub failed_told : (why : Refusal) (q : Point K) → CarriesTo {T = Unit} m e u n (Err why) q → Told shape (settled_at m) (request_of u) (reply_to u (Err why)) q
    failed_told why q leads = by u change.holds change.lawful why leads
      where
        by : (v : Update K) → holder m.layout (updated_key v) ≡ Some e → IsLawfulNote shape m.layout m.table v n → (x : Refusal) → CarriesTo {T = Unit} m e v n (Err x) q → Told shape (settled_at m) (request_of v) (reply_to v (Err x)) q
        by (Put r) holds lawful (refusal.Unsure faults before) c = (subst (λ (x : Point K). IsDoubted shape (settled_at m) (Put r) x) (sym c.0) (record { at = refl; with = record { settled = refl; note = n; lawful = lawful; behind = refl } }), c.1)
        by (Remove k) holds lawful (refusal.Unsure faults before) c = (subst (λ (x : Point K). IsDoubted shape (settled_at m) (Remove k) x) (sym c.0) (record { at = refl; with = record { settled = refl; note = n; lawful = lawful; behind = refl } }), c.1)
        by (Put r) holds lawful (refusal.Full few want) c = (c.0, record { few = c.1; box = e; holds = holds; note = n; lawful = lawful; needs = c.2 })
        by (Remove k) holds lawful (refusal.Full few want) c = (c.0, record { few = c.1; box = e; holds = holds; note = n; lawful = lawful; needs = c.2 })
        by (Put r) holds lawful (refusal.Worn count) c = c
        by (Remove k) holds lawful (refusal.Worn count) c = c
        by (Put r) holds lawful refusal.ReadFault c = c
        by (Remove k) holds lawful refusal.ReadFault c = c
        by (Put r) holds lawful refusal.WriteFault c = c
        by (Remove k) holds lawful refusal.WriteFault c = c
        by v holds lawful other c = absurd c

module _ {K : ℕ} {D : Type 0} (g : Ghosts D) (shape : Shape) (old mid : OpenFile D) (goes : GoesOnThere K g old mid) (m : Standing K) (w : IsOpenInSession g old.books m old.disk) where
  -- what is told where the file goes on is answered there
  pub answered_there : (r : Request K) (reply : Reply K) → Told shape (settled_at m) r reply (settled_at m) → IsAnsweredAt g shape (settled_at m) r reply old.disk mid.books mid.disk
  answered_there r reply told = record {
    point = settled_at m;
    told = told;
    stands = goes.stays m w;
    moments = λ honest. weakened g.moment g.left_since old.disk mid.disk (λ (c : List ℕ). HasStanding c m) (λ c. StandsAt (settled_at m) c ⊎ StandsAt (settled_at m) c) (goes.moments m w honest) (λ c has. inl (inl has));
  }

  -- and what came of a change is answered where that leads
  pub answered_carried : {T : Type 0} (e : ℕ × BucketBox K) (u : Update K) (n : LayoutChange) (result : Result T Refusal) (b : Books) (new : D) (r : Request K) (reply : Reply K) → IsCarried g m e u n result mid.disk b new → ((q : Point K) → CarriesTo m e u n result q → Told shape (settled_at m) r reply q) → IsAnsweredAt g shape (settled_at m) r reply old.disk b new
  answered_carried e u n result b new r reply carried tells = record {
    point = carried.point;
    told = tells carried.point carried.leads;
    stands = carried.stands;
    moments = λ honest. joined g.moment g.left_since old.disk mid.disk new (λ (c : List ℕ). HasStanding c m) (λ c. StandsAt (settled_at m) c ⊎ StandsAt carried.point c) (λ c. StandsAt (settled_at m) c ⊎ StandsAt carried.point c)
        (goes.moments m w honest) (carried.moments (goes.changes.honest ∙ honest)) (λ c has. inl (inl has)) (λ c has. has);
  }

-- a refusal is told as what it is
pub err_reply : {K : ℕ} (u : Update K) (why : Refusal) → reply_to u (Err why) ≡ told.Refused why
err_reply (Put r) why = refl
err_reply (Remove k) why = refl

-- a key has a box in a layout that stands
pub box_of : {K : ℕ} (shape : Shape) (L : Layout K) (t : Table) (k : List ℕ) → StandsOver shape L t → IsKey K k → (e : ℕ × BucketBox K) × (holder L k ≡ Some e)
box_of shape L t k stands key = value-of (holder L k) (stands.sound.covers k key)

-- what an update comes to in a lone caller's state
module _ {K : ℕ} (shape : Shape) (s : State K) (e : ℕ × BucketBox K) (u : Update K) (holds : holder s.layout (updated_key u) ≡ Some e) where
  lone_at : lone shape s (request_of u) ≡ update_at shape s u e
  unfolding lone updated
  lone_at = by u holds
    where
      by : (v : Update K) → holder s.layout (updated_key v) ≡ Some e → lone shape s (request_of v) ≡ update_at shape s v e
      by (Put r) h = ap (update_held shape s (Put r)) h
      by (Remove k) h = ap (update_held shape s (Remove k)) h

  -- a put without a cut is refused
  pub lone_refused : (c b : ℕ) → HasNoNote shape s.layout s.table u → (c ≡ cells s.layout.scales) → (b ≡ boundaries s.layout.scales) → lone shape s (request_of u) ≡ refused s (refusal.NoCut c b)
  lone_refused c b none same also = lone_at ∙ by u none
    where
      by : (v : Update K) → HasNoNote shape s.layout s.table v → update_at shape s v e ≡ refused s (refusal.NoCut c b)
      by (Put r) h = ap (put_noted shape s e (Put r)) h ∙ (λ i. refused s (refusal.NoCut (sym same i) (sym also i)))
      by (Remove k) h = absurd h

  -- a removal of a key that is absent changes nothing
  pub lone_nothing : ChangesNothing s.table u → lone shape s (request_of u) ≡ answered s (update_reply u s.front s.table)
  lone_nothing nothing = lone_at ∙ by u nothing
    where
      by : (v : Update K) → ChangesNothing s.table v → update_at shape s v e ≡ answered s (update_reply v s.front s.table)
      by (Put r) h = absurd h
      by (Remove k) h = ap (remove_found shape s e (Remove k)) h

  -- and one with its chosen plan is that change
  pub lone_change : (first second : List ℕ) (p : Plan K) → IsChosenPlan shape (free shape s) s.layout s.table e u first second p → lone shape s (request_of u) ≡ change shape s e u p.note
  lone_change first second p chosen = lone_at ∙ chosen_lone shape s e u first second p chosen

  -- what it is answered
  pub answer_is : (at : ℕ) (value : Option (List ℕ)) (place : ℕ) → at ≡ place → value ≡ get s.table (updated_key u) → reply_to u (Ok (record { at = at; value = value })) ≡ update_reply u place s.table
  answer_is at value place same is = by u is
    where
      by : (v : Update K) → value ≡ get s.table (updated_key v) → reply_to v (Ok (record { at = at; value = value })) ≡ update_reply v place s.table
      by (Put r) h = λ i. told.Put (record { at = same i; value = h i })
      by (Remove k) h = λ i. told.Removed (record { at = same i; value = h i })

  pub nothing_is : (at : ℕ) → at ≡ s.front → ChangesNothing s.table u → reply_to u (Ok (record { at = at; value = None })) ≡ update_reply u s.front s.table
  nothing_is at same nothing = by u nothing
    where
      by : (v : Update K) → ChangesNothing s.table v → reply_to v (Ok (record { at = at; value = None })) ≡ update_reply v s.front s.table
      by (Put r) h = absurd h
      by (Remove k) h = λ i. told.Removed (record { at = same i; value = sym h i })

-- a file that is open alone and swept answers as the state that stays
module _ {K : ℕ} {D : Type 0} (g : Ghosts D) (shape : Shape) (s : State K) (u : Update K) (b : Books) (disk : D) (swept : IsOpenSwept g b (standing_of s) s disk) where
  stays_alone : (reply : Reply K) (o : Outcome K) → lone shape s (request_of u) ≡ o → o.state ≡ s → reply ≡ o.reply → IsAnsweredAlone g shape s (request_of u) reply b disk
  stays_alone reply o is state same = record {
    reply_is = same ∙ sym (ap (λ (x : Outcome K). x.reply) is);
    goes_on = subst (λ (t : State K). IsOpenAlone g b (standing_of t) t disk) (sym (ap (λ (x : Outcome K). x.state) is ∙ state)) swept.alone;
    unclaimed = swept.unclaimed;
  }

  pub nothing_alone : (e : ℕ × BucketBox K) → holder s.layout (updated_key u) ≡ Some e → (at : ℕ) → at ≡ s.front → ChangesNothing s.table u → IsAnsweredAlone g shape s (request_of u) (reply_to u (Ok (record { at = at; value = None }))) b disk
  nothing_alone e holds at same nothing = stays_alone _ (answered s (update_reply u s.front s.table)) (lone_nothing shape s e u holds nothing) refl (nothing_is shape s e u holds at same nothing)

  pub refused_alone : (e : ℕ × BucketBox K) → holder s.layout (updated_key u) ≡ Some e → (why : Refusal) → IsHonestRefusal shape s.layout s.table u why → ((c n : ℕ) → why ≡ refusal.NoCut c n → (c ≡ cells s.layout.scales) × (n ≡ boundaries s.layout.scales)) → UnlessFailed {T = Answer (Option (List ℕ))} (Err why) (IsAnsweredAlone g shape s (request_of u) (reply_to u (Err why)) b disk)
  refused_alone e holds why honest numbers = by why honest numbers
    where
      by : (x : Refusal) → IsHonestRefusal shape s.layout s.table u x → ((c n : ℕ) → x ≡ refusal.NoCut c n → (c ≡ cells s.layout.scales) × (n ≡ boundaries s.layout.scales)) → UnlessFailed {T = Answer (Option (List ℕ))} (Err x) (IsAnsweredAlone g shape s (request_of u) (reply_to u (Err x)) b disk)
      by refusal.ReadFault h n = tt
      by (refusal.NoCut c m) h n = stays_alone _ (refused s (refusal.NoCut c m)) (lone_refused shape s e u holds c m h (n c m refl).0 (n c m refl).1) refl (err_reply u (refusal.NoCut c m))
      by other h n = absurd h

-- what came of a change in a lone caller's state is its answer
pub carried_alone : {K : ℕ} {D T : Type 0} (g : Ghosts D) (shape : Shape) (s : State K) (u : Update K) (o : Outcome K) (x : T) (a : Answer (Option (List ℕ))) (b : Books) (disk : D) → lone shape s (request_of u) ≡ o → reply_to u (Ok a) ≡ update_reply u (s.front + 1) s.table → IsCarriedAlone {T = T} g s u o (Ok x) b disk → IsAnsweredAlone g shape s (request_of u) (reply_to u (Ok a)) b disk
carried_alone {K} g shape s u o x a b disk is same carried = record {
  reply_is = same ∙ sym carried.0 ∙ sym (ap (λ (y : Outcome K). y.reply) is);
  goes_on = subst (λ (t : State K). IsOpenAlone g b (standing_of t) t disk) (sym (ap (λ (y : Outcome K). y.state) is)) carried.1.alone;
  unclaimed = carried.1.unclaimed;
}

pub carried_refused : {K : ℕ} {D : Type 0} (T : Type 0) (g : Ghosts D) (shape : Shape) (s : State K) (u : Update K) (o : Outcome K) (why : Refusal) (b : Books) (disk : D) → lone shape s (request_of u) ≡ o → IsCarriedAlone {T = T} g s u o (Err why) b disk → UnlessFailed {T = Answer (Option (List ℕ))} (Err why) (IsAnsweredAlone g shape s (request_of u) (reply_to u (Err why)) b disk)
carried_refused {K} {D} T g shape s u o why b disk is carried = by why carried
  where
    by : (x : Refusal) → IsCarriedAlone {T = T} g s u o (Err x) b disk → UnlessFailed {T = Answer (Option (List ℕ))} (Err x) (IsAnsweredAlone g shape s (request_of u) (reply_to u (Err x)) b disk)
    by (refusal.Full few want) c = record {
      reply_is = err_reply u (refusal.Full few want) ∙ sym c.0 ∙ sym (ap (λ (y : Outcome K). y.reply) is);
      goes_on = subst (λ (t : State K). IsOpenAlone g b (standing_of t) t disk) (sym (ap (λ (y : Outcome K). y.state) is)) c.1.alone;
      unclaimed = c.1.unclaimed;
    }
    by (refusal.NoCut n m) c = absurd c
    by other c = tt

-- why a plan is refused is why the update is
pub plan_cause : {K : ℕ} {D : Type 0} (g : Ghosts D) (u : Update K) (old new : OpenFile D) (room : UpdateRoom K) (why : Refusal) → IsUpdateRefusal K (front_place g old) (g.read_count old.disk) (g.read_count new.disk) (updated_key u) room.found.value room.beside.value why → IsUpdateCause g u old new room why
plan_cause g u old new room refusal.ReadFault c = c
plan_cause g u old new room (refusal.NoCut c b) is = is
plan_cause g u old new room (refusal.Damaged page) (inl c) = inl c
plan_cause g u old new room (refusal.Damaged page) (inr c) = inr (inl c)
plan_cause g u old new room other c = absurd c

-- why a change fails behind its plan is why the update does
pub change_cause : {K : ℕ} {D : Type 0} (g : Ghosts D) (u : Update K) (old mid new : OpenFile D) (room : UpdateRoom K) (why : Refusal) → GoesOnThere K g old mid → Changes g KeepsLength mid.disk new.disk → IsCarryingCause g mid new room.parts.value.old_page why → IsUpdateCause g u old new room why
change_cause g u old mid new room refusal.ReadFault goes later c = rose_within (g.read_count old.disk) (g.read_count mid.disk) (g.read_count new.disk) (g.read_count new.disk) goes.changes.reads (omega arith) c
change_cause g u old mid new room refusal.WriteFault goes later c = rose_within (g.write_count old.disk) (g.write_count mid.disk) (g.write_count new.disk) (g.write_count new.disk) goes.changes.writes (omega arith) c
change_cause g u old mid new room (refusal.Unsure faults before) goes later c = (omega (arith, c.0, goes.changes.writes), c.1, c.2)
change_cause g u old mid new room (refusal.Full few want) goes later c = c
change_cause g u old mid new room (refusal.Worn count) goes later c = (c.0, inr c.1)
change_cause g u old mid new room (refusal.Damaged page) goes later c = inr (inr (damage_before goes.reading c))
change_cause g u old mid new room other goes later c = absurd c

-- the numbers of a refusal for want of a cut are those of the layout
pub cut_numbers : {K : ℕ} {D : Type 0} (g : Ghosts D) (f : OpenFile D) (L : Layout K) (before now : ℕ) (key found beside : List ℕ) (why : Refusal) → L.scales ≡ f.books.scales → IsUpdateRefusal K (front_place g f) before now key found beside why → (c b : ℕ) → why ≡ refusal.NoCut c b → (c ≡ cells L.scales) × (b ≡ boundaries L.scales)
cut_numbers {K} g f L before now key found beside why scales cause c b is =
    let numbers : (c ≡ cells f.books.scales) × (b ≡ boundaries f.books.scales) = subst (IsUpdateRefusal K (front_place g f) before now key found beside) is cause in
    (numbers.0 ∙ sym (ap (λ (x : List (List ℕ)). cells x) scales), numbers.1 ∙ sym (ap (λ (x : List (List ℕ)). boundaries x) scales))

-- where nothing is in doubt at a point the file is open in session at its standing
pub open_settled : {K : ℕ} {D : Type 0} (g : Ghosts D) (b : Books) (p : Point K) (disk : D) → p.beyond ≡ None → IsOpenAsAt g b p disk → IsOpenInSession g b p.at disk
open_settled {K} g b p disk none is = subst (λ (o : Option (Standing K)). IsOpenBeside g b p.at o disk) none is

-- what holds at the point of its standing holds at it
pub at_point : {K : ℕ} (P : Point K → Type 0) (p : Point K) → p.beyond ≡ None → P (settled_at p.at) → P p
at_point P p none there = subst P (sym (settled_point p none)) there

-- an update of a worn file is told so
pub worn_told : {K : ℕ} (shape : Shape) (p : Point K) (u : Update K) (count : ℕ) → worn_from ≤ count → Told shape p (request_of u) (reply_to u (Err (refusal.Worn count))) p
worn_told shape p (Put r) count worn = (refl, worn)
worn_told shape p (Remove k) count worn = (refl, worn)

-- a change took the next place, whatever the pages say
pub change_placed : {K : ℕ} (u : Update K) (old new : ℕ) (a : Answer (Option (List ℕ))) → a.at ≡ new → new ≡ old + 1 → IsPlaced u old new (Ok a)
change_placed (Put r) old new a at next = (at, next)
change_placed (Remove k) old new a at next = (at, inl next)

-- and where nothing changes it is a removal that is answered
pub nothing_placed : {K : ℕ} (u : Update K) (old new at : ℕ) → FitsUpdate u Nothing → at ≡ new → new ≡ old → IsPlaced u old new (Ok (record { at = at; value = None }))
nothing_placed (Put r) old new at fits same stays = absurd fits
nothing_placed (Remove k) old new at fits same stays = (same, inr (stays, refl))
