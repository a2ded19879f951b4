-- A change whose new pages were written on claimed pages, or whose writing failed.
use Rattle.std.proofs.Common.{◌≡◌, ◌+◌, ◌≤◌, ◌⊎◌, inl, ℕ, List, length, Option, Result, Ok, Err, refl, sym, ap, subst, ◌∙◌, arith}
use Rattle.std.specs.List.{count_by}
use Rattle.std.specs.Prelude.{OnOk}
use Rattle.grid_types.specs.declared.refusal.Refusal.{Refusal}
use Rattle.grid_types.specs.declared.refusal.Refusal.TheVariants.{ReadFault, WriteFault}
use Rattle.grid_types.specs.declared.update.Update.{Update}
use Rattle.grid_types.specs.declared.layout_change.LayoutChange.{LayoutChange}
use Rattle.disk_trait.specs.declared.disk.Disk.{Ghosts}
use Rattle.disk_trait.specs.Calls.{Changes}
use Rattle.disk_trait.proofs.Calls.{changes_wider}
use Rattle.disk_trait.proofs.Moments.{joined, weakened}
use Rattle.grid_model.specs.Lawful.{IsUpdateOf}
use Rattle.grid_model.specs.Layouts.{BucketBox}
use Rattle.grid_model.specs.Lone.{State}
use Rattle.history_pages.specs.NewPages.{new_pages}
use Rattle.page_states.specs.States.{is_claimed, is_free}
use Rattle.shadow_directory.specs.Calls.{IsFault}
use Rattle.file_images.specs.Kept.{Kept}
use Rattle.file_images.specs.Leads.{Standing, HasStanding}
use Rattle.file_images.specs.Meets.{Meets}
use Rattle.file_books.specs.Books.{Books}
use Rattle.file_redo.proofs.Claims.{claims-count}
use Rattle.file_standing.specs.Files.{IsFile, IsAlone, InSession}
use Rattle.file_standing.specs.Open.{IsOpenInSession, StaysStanding}
use Rattle.file_standing.specs.Steps.{with_fresh}
use Rattle.file_standing.proofs.PageSteps.{page-steps}
use Rattle.checkpoints.specs.Disks.{KeepsLength}
use Rattle.commits.specs.Commits.{IsCommitting}
use Rattle.grid_file.specs.Files.{OpenFile, IsOpenFile, client, with_claim}
use Rattle.grid_file.specs.FileLaws.{IsBegun, IsWrittenOut}
use Rattle.grid_file.specs.Keeping.{KeepsFile}
use Rattle.grid_file.proofs.Standing.{writing_stands}
use Rattle.update_plans.specs.declared.plan.Plan.{Plan}
use Rattle.update_plans.specs.Plans.{IsPlanOf, IsSoundPlan}
use Rattle.file_updates.specs.Writing.{publishing_by, IsGivenBack}
use Rattle.file_updates.proofs.Committed.{publishes, written_out}
use Rattle.client_sessions.specs.Points.{StandsAt}
use Rattle.durable_updates.specs.Carried.{CarriesTo, IsCarried, settled_at}

module _ {K : ℕ} {D : Type 0} (g : Ghosts D) (f mid : OpenFile D) (m : Standing K) (count : ℕ) (keeps : KeepsFile K g (with_claim count f) mid) where
  -- each root stays of the session while a change is written
  session_stays : (k : Kept K) → InSession f.books k → InSession mid.books k
  session_stays k session w newest = session w newest ∙ sym (ap (λ (b : Books). b.session) keeps.books)

  -- the file stands where it stood
  module _ (k : Kept K) (is : IsFile f.books k m) (meets : Meets g k f.disk) where
    begun : IsBegun g k m (with_claim count f)
    begun = (writing_stands {K = K} g).claims f k m count is meets

    pub stays_file : IsFile mid.books k m × Meets g k mid.disk
    stays_file = (writing_stands {K = K} g).stays (with_claim count f) mid k m begun keeps

    pub stays_moments : StaysStanding g m f.disk mid.disk
    stays_moments = (writing_stands {K = K} g).moments (with_claim count f) mid k m begun keeps

    -- and once all new pages of a plan are written it may be committed
    module _ (e : ℕ × BucketBox K) (u : Update K) (p : Plan K) (many : count ≡ p.pages) (first second : List ℕ) (sound : IsOpenFile K g mid) (session : InSession f.books k) (of : IsPlanOf f.books.shape m.layout m.table u e first second p) (plan_sound : IsSoundPlan f.books.shape f.books.scales u p)
        (lawful : IsUpdateOf K u) (pages : mid.written ≡ new_pages m.layout m.table u p.note e) (all : length mid.written ≡ length mid.claimed) where
      out : IsWrittenOut g mid.books k m e u p.note mid.claimed mid.disk
      out = written_out g (writing_stands {K = K} g) f mid k m e u p first second sound is meets (subst (λ (n : ℕ). KeepsFile K g (with_claim n f) mid) many keeps) of lawful pages all

      pub may_commit : (fresh : List (Option (List ℕ))) × IsCommitting mid.books k m e u (publishing_by p mid.claimed) fresh × Meets g (with_fresh k fresh) mid.disk
      may_commit = (
        out.fresh,
        record {
          file = stays_file.0;
          session = session_stays k session;
          written = out.written;
          publishes = publishes f.books.shape m e u p first second mid.claimed f.books.shape f.books.scales of plan_sound;
        },
        out.meets,
      )

  -- a lone caller's state stays while a change is written
  pub alone_stays : (k : Kept K) (s : State K) → IsFile f.books k m → IsAlone f.books k m s → IsAlone mid.books k m s
  alone_stays k s is alone = subst (λ (b : Books). IsAlone b k m s) (sym keeps.books) (page-steps.claim_alone f.books k m s client count is alone)

module _ {K : ℕ} {D : Type 0} (g : Ghosts D) (f mid : OpenFile D) (count : ℕ) (keeps : KeepsFile K g (with_claim count f) mid) where
  -- so many pages more are claimed
  pub claims_more : count ≤ count_by is_free f.books.pages → count_by is_claimed mid.books.pages ≡ count_by is_claimed f.books.pages + count
  claims_more enough = ap (λ (b : Books). count_by is_claimed b.pages) keeps.books ∙ (claims-count {K = K}).claim f.books client count enough

  -- no byte is added or lost
  pub keeps_length : Changes g KeepsLength f.disk mid.disk
  keeps_length = changes_wider (λ x y step. step.same_length) keeps.disk

-- nothing came of the writing: the file is open where it was
module _ {K : ℕ} {D : Type 0} (g : Ghosts D) (f new : OpenFile D) (m : Standing K) (count : ℕ) (undone : IsGivenBack K g count f new) (w : IsOpenInSession g f.books m f.disk) where
  disk_is : new.disk ≡ undone.failed.disk
  disk_is = ap (λ (x : OpenFile D). x.disk) undone.back

  stood : IsFile undone.failed.books w.kept m × Meets g w.kept undone.failed.disk
  stood = stays_file g f undone.failed m count undone.keeps w.kept w.file w.meets

  pub undone_open : IsOpenInSession g new.books m new.disk
  undone_open = subst (λ (x : OpenFile D). IsOpenInSession g x.books m x.disk) (sym undone.back) (record {
    kept = w.kept;
    file = ((writing_stands {K = K} g).gives_back undone.failed w.kept m stood.0 stood.1).file;
    session = session_stays g f undone.failed m count undone.keeps w.kept w.session;
    meets = ((writing_stands {K = K} g).gives_back undone.failed w.kept m stood.0 stood.1).meets;
  })

  pub undone_moments : StaysStanding g m f.disk new.disk
  undone_moments = subst (λ (d : D). StaysStanding g m f.disk d) (sym disk_is) (stays_moments g f undone.failed m count undone.keeps w.kept w.file w.meets)

  -- and a failed read or write led there
  pub fault_carried : {T : Type 0} (e : ℕ × BucketBox K) (u : Update K) (n : LayoutChange) (r : Result T Refusal) (why : Refusal) → r ≡ Err why → IsFault why → IsCarried g m e u n r f.disk new.books new.disk
  fault_carried {T} e u n r why is fault = record {
    point = settled_at m;
    leads = subst (λ (x : Result T Refusal). CarriesTo m e u n x (settled_at m)) (sym is) (by why fault);
    stands = undone_open;
    moments = λ told. weakened g.moment g.left_since f.disk new.disk (λ (c : List ℕ). HasStanding c m) (λ c. StandsAt (settled_at m) c ⊎ StandsAt (settled_at m) c) (undone_moments told) (λ c has. inl (inl has));
  }
    where
      by : (x : Refusal) → IsFault x → CarriesTo {T = T} m e u n (Err x) (settled_at m)
      by ReadFault f = refl
      by WriteFault f = refl
      by other f = absurd f

-- what is carried from where a file stands was carried from where it stood before
pub carried_after : {K : ℕ} {D T : Type 0} (g : Ghosts D) (m : Standing K) (e : ℕ × BucketBox K) (u : Update K) (n : LayoutChange) (r : Result T Refusal) (old mid new : D) (b : Books) → g.honest mid ≡ g.honest old → StaysStanding g m old mid → IsCarried g m e u n r mid b new → IsCarried g m e u n r old b new
carried_after g m e u n r old mid new b honest stays carried = record {
  point = carried.point;
  leads = carried.leads;
  stands = carried.stands;
  moments = λ told. joined g.moment g.left_since old mid new (λ (c : List ℕ). HasStanding c m) (λ c. StandsAt (settled_at m) c ⊎ StandsAt carried.point c) (λ c. StandsAt (settled_at m) c ⊎ StandsAt carried.point c)
      (stays told) (carried.moments (honest ∙ told)) (λ c has. inl (inl has)) (λ c has. has);
}

-- what was claimed for a plan that was committed is claimed no more
pub claims_kept : {T : Type 0} (r : Result T Refusal) (old mid new count many : ℕ) → mid ≡ old + count → many ≡ count → OnOk r (new + many ≡ mid) → OnOk r (new ≡ old)
claims_kept (Ok x) old mid new count many more same gone = omega (arith, more, same, gone)
claims_kept (Err e) old mid new count many more same gone = tt

-- where nothing came of the writing no byte is added or lost
pub undone_length : {K : ℕ} {D : Type 0} (g : Ghosts D) (f new : OpenFile D) (count : ℕ) → IsGivenBack K g count f new → Changes g KeepsLength f.disk new.disk
undone_length {D = D} g f new count undone = subst (λ (d : D). Changes g KeepsLength f.disk d) (sym (ap (λ (x : OpenFile D). x.disk) undone.back)) (changes_wider (λ x y step. step.same_length) undone.keeps.disk)
