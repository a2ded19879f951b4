-- What the lines of a session leave: nothing is in doubt but where a reply says so.
use Rattle.std.proofs.Common.{◌≡◌, ◌⊎◌, inl, inr, ⊎_elim, ℕ, List, [], ◌∷◌, Option, None, All, IsTrue, refl, sym, ap, subst, ◌∙◌}
use Rattle.std.proofs.lemmas.List.Elements.{All-head, All-tail}
use Rattle.std.specs.Prelude.{IsSomeAnd}
use Rattle.grid_types.specs.declared.refusal.Refusal.{Refusal}
use Rattle.grid_types.specs.declared.refusal.Refusal.TheVariants as refusal
use Rattle.grid_types.specs.declared.request.Line.{Line}
use Rattle.grid_types.specs.declared.request.Reply.{Reply}
use Rattle.grid_types.specs.declared.request.Reply.TheVariants as told
use Rattle.grid_types.specs.declared.request.Request.{Request}
use Rattle.grid_types.specs.declared.request.Request.TheVariants as ask
use Rattle.grid_types.specs.declared.shape.Shape.{Shape}
use Rattle.grid_types.specs.declared.update.Record.{Record}
use Rattle.grid_types.specs.declared.update.Update.{Update}
use Rattle.disk_trait.specs.declared.disk.Disk.{Ghosts}
use Rattle.file_images.specs.Leads.{Standing, HasStanding}
use Rattle.client_sessions.specs.Laws.{RunsAreExplained}
use Rattle.client_sessions.specs.Points.{Point, StandsAt}
use Rattle.client_sessions.specs.Runs.{Runs}
use Rattle.client_sessions.specs.Told.{Told, RefusesPut, RefusesUpdate}
use Rattle.grid_store.specs.Laws.{StoreTells}
use Rattle.grid_store.specs.Stores.{OpenStore}
use Rattle.script_sessions.specs.Laws.{Leaves, SessionsTell}
use Rattle.script_sessions.specs.Replies.{IsSure}
use Rattle.script_sessions.specs.Sessions.{AnsweredAll}

module _ {K : ℕ} (shape : Shape) (p q : Point K) (settled : p.beyond ≡ None) where
  -- where the session stays, nothing is in doubt as before
  stays : q ≡ p → q.beyond ≡ None
  stays is = ap (λ (x : Point K). x.beyond) is ∙ settled

  update-refused : (u : Update K) (e : Refusal) → IsSure {K = K} (told.Refused e) → RefusesUpdate shape p u e q → q.beyond ≡ None
  update-refused u (refusal.Unsure faults before) sure why = absurd sure
  update-refused u (refusal.Stopped faults opened) sure why = stays why.0
  update-refused u (refusal.Full free wanted) sure why = stays why.0
  update-refused u (refusal.Worn count) sure why = stays why.0
  update-refused u refusal.ReadFault sure why = stays why
  update-refused u refusal.WriteFault sure why = stays why
  update-refused u other sure why = absurd why

  put-refused : (r : Record K) (e : Refusal) → IsSure {K = K} (told.Refused e) → RefusesPut shape p r e q → q.beyond ≡ None
  put-refused r (refusal.Unsure faults before) sure why = absurd sure
  put-refused r (refusal.Stopped faults opened) sure why = stays why.0
  put-refused r (refusal.Full free wanted) sure why = stays why.0
  put-refused r (refusal.NoCut cells boundaries) sure why = stays why.0
  put-refused r (refusal.Worn count) sure why = stays why.0
  put-refused r refusal.ReadFault sure why = stays why
  put-refused r refusal.WriteFault sure why = stays why
  put-refused r other sure why = absurd why

  -- a reply that does not leave its update in doubt leaves nothing in doubt
  sure-settles : (r : Request K) (reply : Reply K) → IsSure reply → Told shape p r reply q → q.beyond ≡ None
  sure-settles (ask.Put row) (told.Put a) sure is = is.settled
  sure-settles (ask.Put row) (told.Refused e) sure is = put-refused row e sure is
  sure-settles (ask.Remove k) (told.Removed a) sure (inl made) = made.settled
  sure-settles (ask.Remove k) (told.Removed a) sure (inr read) = stays read.0.stays
  sure-settles (ask.Remove k) (told.Refused e) sure is = update-refused _ e sure is
  sure-settles (ask.Get k) (told.Got a) sure is = stays is.stays
  sure-settles (ask.Get k) (told.Refused e) sure is = stays is.0
  sure-settles (ask.List x) (told.Listed a) sure is = stays is.1.stays
  sure-settles (ask.List x) (told.Refused e) sure is = stays is.0
  sure-settles (ask.Count x) (told.Counted a) sure is = stays is.1.stays
  sure-settles (ask.Count x) (told.Refused e) sure is = stays is.0
  sure-settles ask.Stat (told.Stood a) sure is = stays is.0
  sure-settles ask.Checkpoint (told.Rooted n) sure is = stays is.0
  sure-settles ask.Checkpoint (told.Refused e) sure is = stays is.0
  sure-settles r reply sure is = absurd is

-- nor do some of them, one after the other
runs-settle : {K : ℕ} (shape : Shape) (p q : Point K) (lines : List (Line K)) (replies : List (Reply K)) → p.beyond ≡ None → All IsSure replies → Runs shape p lines replies q → q.beyond ≡ None
runs-settle {K} shape p q [] [] settled sure runs = ap (λ (x : Point K). x.beyond) runs ∙ settled
runs-settle shape p q [] (r ∷ rs) settled sure runs = absurd runs
runs-settle shape p q (l ∷ ls) [] settled sure runs = absurd runs
runs-settle shape p q (l ∷ ls) (r ∷ rs) settled sure runs =
    runs-settle shape runs.0 q ls rs (sure-settles shape p runs.0 settled l.request r (All-head IsSure r rs sure) runs.1) (All-tail IsSure r rs sure) runs.2

-- an image that stands at a point where nothing is in doubt stands there
there : {K : ℕ} (at : Standing K) (beyond : Option (Standing K)) (image : List ℕ) → beyond ≡ None → HasStanding image at ⊎ IsSomeAnd beyond (λ m. HasStanding image m) → HasStanding image at
there at beyond image none stands = ⊎_elim (λ is. is) (λ is. absurd (subst (λ (b : Option (Standing _)). IsSomeAnd b (λ m. HasStanding image m)) none is)) stands

-- the law of sessions over a store
pub sessions-tell : {K : ℕ} {D : Type 0} (g : Ghosts D) → RunsAreExplained K → StoreTells K g → SessionsTell K g
sessions-tell {K} {D} g explain tells = record {
  explained = λ p client lines replies old new low high own is a. explain old.file.books.shape p a.point client lines replies low high (tells.table old p is) own a.runs;
  front = λ p lines replies old new a. tells.front new a.point a.stands;
  leaves = λ p lines replies old new h a. record { read = tells.read new a.point h a.stands; crash = tells.crash new a.point h a.stands };
  settled = λ p lines replies old new none sure a. runs-settle old.file.books.shape p a.point lines replies none sure a.runs;
  sure = λ p lines replies old new none sure h a.
      let settled = runs-settle old.file.books.shape p a.point lines replies none sure a.runs in
      record {
        read = there a.point.at a.point.beyond (g.seen new.file.disk) settled (tells.read new a.point h a.stands);
        crash = λ image left. there a.point.at a.point.beyond image settled (tells.crash new a.point h a.stands image left);
      };
}
