-- What a change of an open file comes to, as what a store answers.
use Rattle.std.proofs.Common.{◌≡◌, ◌≤◌, ◌⊎◌, ◌∙◌, inl, inr, ⊎_elim, ℕ, List, true, Option, Some, None, Result, Ok, Err, refl, sym, ap, subst}
use Rattle.std.specs.List.{count_by}
use Rattle.std.specs.Prelude.{IsTrue, IsSome, is_some}
use Rattle.std.proofs.lemmas.Bool.{false≢true}
use Rattle.grid_types.specs.declared.answer.Answer.{Answer}
use Rattle.grid_types.specs.declared.refusal.Refusal.{Refusal}
use Rattle.grid_types.specs.declared.refusal.Refusal.TheVariants as refusal
use Rattle.grid_types.specs.declared.request.Reply.{Reply}
use Rattle.grid_types.specs.declared.request.Reply.TheVariants as told
use Rattle.grid_types.specs.declared.request.Request.{Request}
use Rattle.grid_types.specs.declared.request.Request.TheVariants as ask
use Rattle.grid_types.specs.declared.shape.Shape.{Shape}
use Rattle.grid_types.specs.declared.update.Record.{Record}
use Rattle.grid_types.specs.declared.update.Update.{Update}
use Rattle.grid_types.specs.declared.update.Update.TheVariants.{Put, Remove}
use Rattle.disk_trait.specs.declared.disk.Disk.{Ghosts}
use Rattle.disk_trait.proofs.Moments.{started, weakened}
use Rattle.grid_model.specs.Lone.{State, lone, root}
use Rattle.page_states.specs.States.{is_claimed}
use Rattle.file_images.specs.Leads.{Standing, HasStanding, behind}
use Rattle.file_books.specs.Books.{Books}
use Rattle.file_standing.specs.Open.{IsOpenInSession, IsOpenAlone, StaysStanding}
use Rattle.client_sessions.specs.Points.{Point, StandsAt, standing_of}
use Rattle.client_sessions.specs.Told.{Told, RefusesCheckpoint, worn_from}
use Rattle.durable_updates.specs.Points.{IsOpenBeside, reply_to, request_of}
use Rattle.durable_updates.specs.Answers.{IsAnsweredAlone, UnlessFailed}
use Rattle.durable_updates.specs.Causes.{IsRootRefusal}
use Rattle.grid_store.specs.Stores.{OpenStore, IsStoreAt, IsStoreAlone}
use Rattle.grid_store.specs.Answered.{IsAnswered, IsAnsweredLone, told_by}
use Rattle.grid_store.specs.Changing.{stop_after}

-- at a point where a batch is in doubt an update and a checkpoint are refused since the store is stopped
pub update-stopped : {K : ℕ} (shape : Shape) (p : Point K) (u : Update K) (n opened : ℕ) → IsSome p.beyond → Told shape p (request_of u) (told.Refused (refusal.Stopped n opened)) p
update-stopped shape p (Put r) n opened some = (refl, some)
update-stopped shape p (Remove k) n opened some = (refl, some)

-- a put is told what its update came to
told-put : {K : ℕ} (r : Record K) (result : Result (Answer (Option (List ℕ))) Refusal) → reply_to (Put r) result ≡ told_by told.Put result
told-put r (Ok a) = refl
told-put r (Err e) = refl

-- where nothing failed a store that was not stopped is not stopped, and what holds then follows
pub unless-failed : {T P Q : Type 0} (result : Result T Refusal) → (P → stop_after None result ≡ None → Q) → UnlessFailed result P → UnlessFailed result Q
unless-failed (Ok a) goes was = goes was refl
unless-failed (Err (refusal.Full free wanted)) goes was = goes was refl
unless-failed (Err (refusal.NoCut cells boundaries)) goes was = goes was refl
unless-failed (Err e) goes was = tt

-- why a root step is refused is why a checkpoint is
pub root-refuses : {K : ℕ} (p : Point K) (b : Books) (e : Refusal) → IsRootRefusal b e → RefusesCheckpoint p e
root-refuses p b (refusal.Worn count) was = subst (λ (n : ℕ). worn_from ≤ n) (sym was.1) was.0
root-refuses p b refusal.ReadFault was = tt
root-refuses p b refusal.WriteFault was = tt
root-refuses p b e was = absurd was

module _ {K : ℕ} {D : Type 0} (g : Ghosts D) where
  -- a crash leaves a file beside which a batch is in doubt where it stands, or with the batch
  doubt-stands : (b : Books) (disk : D) (m : Standing K) (o : Option (Standing K)) → IsSome o → IsOpenBeside g b m o disk → IsTrue (g.honest disk) → (image : List ℕ) → g.may_leave disk image → StandsAt (record { at = m; beyond = o }) image
  doubt-stands b disk m None some beside h image left = absurd (false≢true some)
  doubt-stands b disk m (Some n) some beside h image left = ⊎_elim (λ stays. inl stays) (λ moved. inr (subst (λ (x : Standing K). HasStanding image x) (sym beside.1) moved)) (beside.2.crash h image left)

  -- a store that is stopped answers by its refusal, and stays at its point
  pub stopped-answered : (s : OpenStore K D) (p : Point K) (n opened : ℕ) (r : Request K) → s.stop ≡ Some n → IsStoreAt g s p → (IsSome p.beyond → Told s.file.books.shape p r (told.Refused (refusal.Stopped n opened)) p)
      → ((image : List ℕ) → IsTrue (g.honest s.file.disk) → g.left_since s.file.disk (g.moment s.file.disk) image → g.may_leave s.file.disk image) → IsAnswered g p r (told.Refused (refusal.Stopped n opened)) s s
  stopped-answered s p n opened r stopped at told law =
      let some : IsSome p.beyond = sym at.stop ∙ ap is_some stopped in
      record {
        point = p;
        told = told some;
        stands = at;
        moments = λ h. started g.moment g.left_since s.file.disk _ (λ image left. inl (doubt-stands s.file.books s.file.disk p.at p.beyond some at.file h image (law image h left)));
      }

  -- where an update of the open file is answered as a lone caller's, the store answers it so, and is not stopped; the store is seen as it was before
  pub updated-alone : {view old : OpenStore K D} (new : OpenStore K D) → view ≡ old → (u : Update K) (result : Result (Answer (Option (List ℕ))) Refusal) → new.stop ≡ stop_after None result
      → (IsTrue (g.honest view.file.disk) → (s : State K) → IsOpenAlone g view.file.books (standing_of s) s view.file.disk → count_by is_claimed view.file.books.pages ≡ 0
      → UnlessFailed result (IsAnsweredAlone g view.file.books.shape s (request_of u) (reply_to u result) new.file.books new.file.disk))
      → IsTrue (g.honest old.file.disk) → (s : State K) → IsStoreAlone g old s → UnlessFailed result (IsAnsweredLone g s (request_of u) (reply_to u result) old new)
  updated-alone {view} {old} new is u result stop alone =
      subst (λ (o : OpenStore K D). IsTrue (g.honest o.file.disk) → (s : State K) → IsStoreAlone g o s → UnlessFailed result (IsAnsweredLone g s (request_of u) (reply_to u result) o new)) is
      (λ h s was. unless-failed result (λ x none. record { reply_is = x.reply_is; goes_on = record { file = x.goes_on; stop = stop ∙ none; unclaimed = x.unclaimed } }) (alone h s was.file was.unclaimed))

  -- a put of a record that was copied is answered as one of the record
  pub put-alone : (old new : OpenStore K D) {made r : Record K} → made ≡ r → (result : Result (Answer (Option (List ℕ))) Refusal) → (s : State K)
      → UnlessFailed result (IsAnsweredLone g s (request_of (Put made)) (reply_to (Put made) result) old new) → UnlessFailed result (IsAnsweredLone g s (ask.Put r) (told_by told.Put result) old new)
  put-alone old new {made} {r} same result s was =
      subst (λ (reply : Reply K). UnlessFailed result (IsAnsweredLone g s (ask.Put r) reply old new)) (told-put r result)
      (subst (λ (x : Record K). UnlessFailed result (IsAnsweredLone g s (request_of (Put x)) (reply_to (Put x) result) old new)) same was)

  -- where a root step of the open file stays at each standing, a checkpoint of a store that is not stopped is answered at its point, and stays there
  rooted-there : (view new : OpenStore K D) → view.stop ≡ None → new.stop ≡ view.stop → (reply : Reply K)
      → ((m : Standing K) → IsOpenInSession g view.file.books m view.file.disk → StaysStanding g m view.file.disk new.file.disk)
      → ((m : Standing K) → IsOpenInSession g view.file.books m view.file.disk → IsOpenInSession g new.file.books m new.file.disk)
      → (m : Standing K) (o : Option (Standing K)) → is_some view.stop ≡ is_some o → IsOpenBeside g view.file.books m o view.file.disk
      → (m.place ≡ view.file.books.front → Told view.file.books.shape (record { at = m; beyond = None }) ask.Checkpoint reply (record { at = m; beyond = None })) → IsAnswered g (record { at = m; beyond = o }) ask.Checkpoint reply view new
  rooted-there view new going stop reply moments stays m None same at told = record {
    point = record { at = m; beyond = None };
    told = told at.file.hold.place;
    stands = record { file = stays m at; stop = ap is_some (stop ∙ going) };
    moments = λ h. weakened g.moment g.left_since view.file.disk new.file.disk (λ image. HasStanding image m) _ (moments m at h) (λ image has. inl (inl has));
  }
  rooted-there view new going stop reply moments stays m (Some n) same at told = absurd (false≢true (sym (ap is_some going) ∙ same))

  pub rooted-answered : {view old : OpenStore K D} (new : OpenStore K D) → view ≡ old → view.stop ≡ None → new.stop ≡ view.stop → (reply : Reply K)
      → ((m : Standing K) → IsOpenInSession g view.file.books m view.file.disk → StaysStanding g m view.file.disk new.file.disk)
      → ((m : Standing K) → IsOpenInSession g view.file.books m view.file.disk → IsOpenInSession g new.file.books m new.file.disk)
      → ((m : Standing K) → m.place ≡ view.file.books.front → Told view.file.books.shape (record { at = m; beyond = None }) ask.Checkpoint reply (record { at = m; beyond = None }))
      → (p : Point K) → IsStoreAt g old p → IsAnswered g p ask.Checkpoint reply old new
  rooted-answered {view} {old} new is going stop reply moments stays told =
      subst (λ (o : OpenStore K D). (p : Point K) → IsStoreAt g o p → IsAnswered g p ask.Checkpoint reply o new) is
      (λ p at. rooted-there view new going stop reply moments stays p.at p.beyond at.stop at.file (told p.at))

  -- where a root step of the open file leaves it as a lone caller's, the checkpoint is answered so
  pub rooted-alone : {view old new : OpenStore K D} → view ≡ old → (front : ℕ) → new.stop ≡ view.stop → front ≡ view.file.books.front → count_by is_claimed new.file.books.pages ≡ count_by is_claimed view.file.books.pages
      → ((m : Standing K) (s : State K) → IsOpenAlone g view.file.books m s view.file.disk → IsOpenAlone g new.file.books m (root s) new.file.disk)
      → (s : State K) → IsStoreAlone g old s → IsAnsweredLone g s ask.Checkpoint (told.Rooted front) old new
  unfolding lone
  rooted-alone {view} {old} {new} is front stop at claims alone =
      subst (λ (o : OpenStore K D). (s : State K) → IsStoreAlone g o s → IsAnsweredLone g s ask.Checkpoint (told.Rooted front) o new) is
      (λ s was. record {
        reply_is = ap (λ (n : ℕ). told.Rooted n) (at ∙ sym was.file.file.hold.place);
        goes_on = record { file = alone (standing_of s) s was.file; stop = stop ∙ was.stop; unclaimed = claims ∙ was.unclaimed };
      })
