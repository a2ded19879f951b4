-- A plan that is carried out: given its room, and then written and committed.
use Rattle.std.proofs.Common.{◌≡◌, ◌+◌, ◌<◌, ◌≤◌, ◌⊎◌, ◌==◌, ◌&&◌, inl, ℕ, Bool, true, false, cond, nat_lt, List, Some, Result, Ok, Err, refl, sym, ap, subst, ◌∙◌, arith}
use Rattle.std.specs.Prelude.{◌*◌, IfErr, OnOk}
use Rattle.std.specs.Option.{unwrap_or}
use Rattle.std.specs.List.{count_by}
use Rattle.std.proofs.lemmas.Bool.{lt-ltb, le-ltb}
use Rattle.grid_types.specs.declared.layout_change.LayoutChange.{LayoutChange}
use Rattle.grid_types.specs.Shapes.{data_page}
use Rattle.grid_types.specs.declared.owner.Owner.TheVariants.{Bucket, Part}
use Rattle.grid_types.specs.declared.sizes.TheConstants.{WORDS_ON_PAGE}
use Rattle.grid_types.specs.declared.refusal.Refusal.{Refusal}
use Rattle.grid_types.specs.declared.refusal.Refusal.TheVariants as refusal
use Rattle.grid_types.specs.declared.request.Reply.TheVariants as told
use Rattle.grid_types.specs.declared.shape.Shape.{Shape}
use Rattle.grid_types.specs.declared.update.Update.{Update}
use Rattle.disk_trait.specs.declared.disk.Disk.{Ghosts}
use Rattle.disk_trait.specs.Calls.{Changes}
use Rattle.disk_trait.proofs.Calls.{rose_within}
use Rattle.disk_trait.proofs.Moments.{weakened}
use Rattle.directory_pages.specs.Spelling.{IsDirectoryPage}
use Rattle.directory_pages.specs.CellBoxes.{cells_on}
use Rattle.checkpoints.specs.Disks.{KeepsLength}
use Rattle.grid_model.specs.Cells.{cells, dims}
use Rattle.grid_model.specs.Images.{layout_after}
use Rattle.grid_model.specs.Layouts.{BucketBox, holder}
use Rattle.grid_model.specs.Lone.{State, Outcome, change, claimed, done, free, need, published, queued, refused, root_if, update_reply}
use Rattle.grid_model.specs.Notes.{updated_key}
use Rattle.grid_model.proofs.Holders.{after-there}
use Rattle.page_states.specs.States.{is_claimed}
use Rattle.file_images.specs.Leads.{Standing, HasStanding}
use Rattle.file_books.specs.Books.{Books}
use Rattle.file_standing.specs.Open.{IsOpenInSession, IsOpenAlone}
use Rattle.grid_file.specs.Files.{OpenFile}
use Rattle.grid_file.specs.Keeping.{KeepsReading}
use Rattle.grid_file.proofs.Alike.{other-kept}
use Rattle.update_plans.specs.declared.plan.Plan.{Plan}
use Rattle.update_plans.specs.Plans.{IsSoundPlan}
use Rattle.file_updates.specs.Ready.{IsReadyPlan}
use Rattle.file_updates.specs.Writing.{IsDamagedPart}
use Rattle.client_sessions.specs.Points.{StandsAt, after_update, standing_of}
use Rattle.durable_updates.specs.Carried.{CarriesTo, IsCarried, IsCarriedAlone, IsCarryingCause, IsOpenIdle, IsPuttingCause, settled_at}
use Rattle.durable_updates.specs.Goings.{GoesOnThere, HasRoomAlone, IsRoomCause}

-- a plan that is ready in books is ready in books that read as they
pub ready_kept : {K : ℕ} (b c : Books) (u : Update K) (p : Plan K) → KeepsReading b c → IsReadyPlan b u p → IsReadyPlan c u p
ready_kept {K} b c u p keeps ready = record {
  sound = subst (λ (z : Shape × List (List ℕ)). IsSoundPlan z.0 z.1 u p) (λ i. (sym keeps.shape i, sym keeps.scales i)) ready.sound;
  bucket = keeps.pages (Bucket p.bucket) ∙ ready.bucket;
  other = other-kept keeps p.bucket p.note ready.other;
}

-- root steps leave where a state stands
root_stands : {K : ℕ} (due : Bool) (s : State K) → standing_of (root_if due s) ≡ standing_of s
root_stands true s = refl
root_stands false s = refl

claimed_stands : {K : ℕ} (shape : Shape) (n : ℕ) (s : State K) → standing_of (claimed shape n s) ≡ standing_of s
unfolding claimed
claimed_stands shape n s = root_stands (nat_lt (free shape s) n && nat_lt 0 s.kept) s

queued_stands : {K : ℕ} (shape : Shape) (s : State K) → standing_of (queued shape s) ≡ standing_of s
unfolding queued
queued_stands shape s = root_stands (s.used == shape.slots) s

-- and a published update stands behind it
published_stands : {K : ℕ} (s : State K) (e : ℕ × BucketBox K) (u : Update K) (n : LayoutChange) → holder s.layout (updated_key u) ≡ Some e → standing_of (published e u n s) ≡ after_update (standing_of s) u n
unfolding published layout_after
published_stands s e u n holds = λ i. record { place = s.front + 1; table = (standing_of (published e u n s)).table; layout = sym (after-there s.layout (updated_key u) e n holds) i }

-- an update has the pages that it needs, behind the root step that is due, or not
module _ {K : ℕ} (shape : Shape) (s : State K) (e : ℕ × BucketBox K) (u : Update K) (n : LayoutChange) where
  abbrev wanted : ℕ
  wanted = need s.layout e u n

  abbrev paged : State K
  paged = claimed shape wanted s

  change_done : wanted ≤ free shape paged → change shape s e u n ≡ done e u n (queued shape paged)
  unfolding change
  change_done enough = ap (λ (b : Bool). cond b (refused paged (refusal.Full (free shape paged) wanted)) (done e u n (queued shape paged))) (le-ltb (free shape paged) wanted enough)

  change_full : free shape paged < wanted → change shape s e u n ≡ refused paged (refusal.Full (free shape paged) wanted)
  unfolding change
  change_full few = ap (λ (b : Bool). cond b (refused paged (refusal.Full (free shape paged) wanted)) (done e u n (queued shape paged))) (lt-ltb (free shape paged) wanted few)

  abbrev roomed : State K
  roomed = queued shape paged

  roomed_stands : standing_of roomed ≡ standing_of s
  roomed_stands = queued_stands shape paged ∙ claimed_stands shape wanted s

  module _ {D : Type 0} (g : Ghosts D) where
    -- where it was published behind that, it is a lone caller's
    pub done_alone : {T : Type 0} (r : Result T Refusal) (b : Books) (disk : D) → holder s.layout (updated_key u) ≡ Some e → wanted ≤ free shape paged → OnOk r (IsOpenAlone g b (after_update (standing_of s) u n) (published e u n roomed) disk) → OnOk r (count_by is_claimed b.pages ≡ 0)
        → ((why : Refusal) → r ≡ Err why → IsCarriedAlone {T = T} g s u (change shape s e u n) (Err why) b disk) → IsCarriedAlone g s u (change shape s e u n) r b disk
    done_alone (Ok x) b disk holds enough alone none failed =
        let is = change_done enough in
        let there : holder roomed.layout (updated_key u) ≡ Some e = ap (λ (m : Standing K). holder m.layout (updated_key u)) roomed_stands ∙ holds in
        let behind : standing_of (published e u n roomed) ≡ after_update (standing_of s) u n = published_stands roomed e u n there ∙ ap (λ (m : Standing K). after_update m u n) roomed_stands in
        subst (λ (o : Outcome K). (o.reply ≡ update_reply u (s.front + 1) s.table) × IsOpenIdle g b o.state disk) (sym is) (
          ap (λ (m : Standing K). update_reply {K = K} u (m.place + 1) m.table) roomed_stands,
          record { alone = subst (λ (m : Standing K). IsOpenAlone g b m (published e u n roomed) disk) (sym behind) alone; unclaimed = none },
        )
    done_alone (Err why) b disk holds enough alone none failed = failed why refl

    -- where there is no room for it, it is refused as a lone caller's
    pub full_alone : (T : Type 0) (why : Refusal) (b : Books) (disk : D) (p : ℕ) → p ≡ wanted → HasRoomAlone {T = T} g shape (standing_of s) p (claimed shape p s) (queued shape (claimed shape p s)) (Err why) b disk → IsCarriedAlone {T = T} g s u (change shape s e u n) (Err why) b disk
    full_alone T why b disk p same room = by why (subst (λ (q : ℕ). HasRoomAlone {T = T} g shape (standing_of s) q (claimed shape q s) (queued shape (claimed shape q s)) (Err why) b disk) same room)
      where
        by : (x : Refusal) → HasRoomAlone {T = T} g shape (standing_of s) wanted paged roomed (Err x) b disk → IsCarriedAlone {T = T} g s u (change shape s e u n) (Err x) b disk
        by (refusal.Full few want) h =
            let lacks : free shape paged < wanted = omega (arith, h.1, h.2, h.3) in
            subst (λ (o : Outcome K). (o.reply ≡ told.Refused (refusal.Full few want)) × IsOpenIdle g b o.state disk) (sym (change_full lacks)) (
              (λ i. told.Refused (refusal.Full (sym h.1 i) (sym h.2 i))),
              record { alone = subst (λ (m : Standing K). IsOpenAlone g b m paged disk) (sym (claimed_stands shape wanted s)) h.0.alone; unclaimed = h.0.unclaimed },
            )
        by (refusal.NoCut c bs) h = absurd h
        by other h = tt

-- a file goes on, and a refusal of room leads nowhere else
module _ {K : ℕ} {D : Type 0} (g : Ghosts D) (old new : OpenFile D) (goes : GoesOnThere K g old new) (m : Standing K) (w : IsOpenInSession g old.books m old.disk) where
  pub refused_carried : {T : Type 0} (e : ℕ × BucketBox K) (u : Update K) (n : LayoutChange) (p : ℕ) (r : Result T Refusal) (why : Refusal) → r ≡ Err why → p ≡ need m.layout e u n → IsRoomCause g p old new why → IsCarried g m e u n r old.disk new.books new.disk
  refused_carried {T} e u n p r why is same cause = record {
    point = settled_at m;
    leads = subst (λ (x : Result T Refusal). CarriesTo m e u n x (settled_at m)) (sym is) (by why cause);
    stands = goes.stays m w;
    moments = λ told. weakened g.moment g.left_since old.disk new.disk (λ (c : List ℕ). HasStanding c m) (λ c. StandsAt (settled_at m) c ⊎ StandsAt (settled_at m) c) (goes.moments m w told) (λ c has. inl (inl has));
  }
    where
      by : (x : Refusal) → IsRoomCause g p old new x → CarriesTo {T = T} m e u n (Err x) (settled_at m)
      by (refusal.Full few want) c = (refl, c.0, c.1 ∙ same)
      by (refusal.Worn count) c = (refl, c.0)
      by refusal.ReadFault c = refl
      by refusal.WriteFault c = refl
      by other c = absurd c

-- what is so where there is an answer is so with what it is
pub ok_none : {T : Type 0} (r : Result T Refusal) (a b : ℕ) → OnOk r (a ≡ b) → b ≡ 0 → OnOk r (a ≡ 0)
ok_none (Ok x) a b same none = same ∙ none
ok_none (Err e) a b same none = tt

-- what is refused though there is room is not refused for want of pages or of a cut
pub putting_alone : {K : ℕ} {D : Type 0} (T : Type 0) (g : Ghosts D) (s : State K) (u : Update K) (o : Outcome K) (old new : OpenFile D) (bytes : List ℕ) (r : Result T Refusal) (why : Refusal) (b : Books) (disk : D) → r ≡ Err why → IfErr r (IsPuttingCause g old new bytes) → IsCarriedAlone {T = T} g s u o (Err why) b disk
putting_alone {D} T g s u o old new bytes r why b disk is cause = by why (subst (λ (x : Result T Refusal). IfErr x (IsPuttingCause g old new bytes)) is cause)
  where
    by : (x : Refusal) → IsPuttingCause g old new bytes x → IsCarriedAlone {T = T} g s u o (Err x) b disk
    by (refusal.Full few want) c = absurd c
    by (refusal.NoCut n m) c = absurd c
    by other c = tt

-- a page of the directory that is damaged where books read as others is so in these
pub damage_before : {b c : Books} {bytes : List ℕ} {page : ℕ} → KeepsReading b c → IsDamagedPart c bytes page → IsDamagedPart b bytes page
damage_before {bytes = bytes} reading d = record {
  part = d.part;
  below = subst (λ (scales : List (List ℕ)). WORDS_ON_PAGE * d.part < cells scales) reading.scales d.below;
  stands = d.stands ∙ (λ i. data_page (reading.shape i) (unwrap_or (reading.here (Part d.part) i) 0));
  not_spelled = subst (λ (scales : List (List ℕ)). IsDirectoryPage d.part (cells_on (dims scales) d.part) bytes → ⊥) reading.scales d.not_spelled;
}

-- why a change fails with room for it, behind root steps, is why it fails
pub cause_after : {K : ℕ} {D : Type 0} (T : Type 0) (g : Ghosts D) (old mid new : OpenFile D) (bytes : List ℕ) (r : Result T Refusal) → GoesOnThere K g old mid → Changes g KeepsLength mid.disk new.disk → IfErr r (IsPuttingCause g mid new bytes) → IfErr r (IsCarryingCause g old new bytes)
cause_after T g old mid new bytes (Ok x) goes later cause = tt
cause_after {D = D} T g old mid new bytes (Err why) goes later cause = by why cause
  where
    by : (x : Refusal) → IsPuttingCause g mid new bytes x → IsCarryingCause g old new bytes x
    by refusal.ReadFault rose = rose_within (g.read_count old.disk) (g.read_count mid.disk) (g.read_count new.disk) (g.read_count new.disk) goes.changes.reads (omega arith) rose
    by refusal.WriteFault rose = rose_within (g.write_count old.disk) (g.write_count mid.disk) (g.write_count new.disk) (g.write_count new.disk) goes.changes.writes (omega arith) rose
    by (refusal.Damaged page) d = damage_before goes.reading d
    by (refusal.Unsure faults before) c = (omega (arith, c.0, goes.changes.writes), c.1, c.2)
    by other c = absurd c
