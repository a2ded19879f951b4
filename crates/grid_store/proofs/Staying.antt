-- A call that only reads the file of a store which is as a lone caller's state says: it stays so, and what is told is that caller's answer.
use Rattle.std.specs.Prelude.{OnOk}
use Rattle.std.proofs.Common.{◌≡◌, ℕ, Bool, List, Option, None, is_some, Result, Ok, Err, IsTrue, if◌then◌else◌, sym, ap, subst, ◌∙◌}
use Rattle.std.specs.List.{count_by}
use Rattle.grid_types.specs.declared.answer.Answer.{Answer}
use Rattle.grid_types.specs.declared.key.Key.{Key}
use Rattle.grid_types.specs.declared.query.Query.{Query}
use Rattle.grid_types.specs.declared.refusal.Refusal.{Refusal}
use Rattle.grid_types.specs.declared.refusal.Refusal.TheVariants.{BadQuery}
use Rattle.grid_types.specs.declared.request.Reply.{Reply}
use Rattle.grid_types.specs.declared.request.Reply.TheVariants.{Counted, Got, Listed}
use Rattle.grid_types.specs.declared.request.Request.{Request}
use Rattle.grid_types.specs.declared.request.Request.TheVariants as ask
use Rattle.grid_types.specs.declared.shape.Shape.{Shape}
use Rattle.grid_types.specs.declared.update.Record.{Record}
use Rattle.grid_types.specs.Queries.{is_lawful}
use Rattle.disk_trait.specs.declared.disk.Disk.{Ghosts}
use Rattle.grid_model.specs.Lone.{Outcome, State, answered, lone, refused}
use Rattle.page_states.specs.States.{is_claimed}
use Rattle.file_books.specs.Books.{Books}
use Rattle.file_standing.specs.Files.{IsAlone, IsFile, InSession}
use Rattle.grid_file.specs.Keeping.{ReadsFile}
use Rattle.client_sessions.specs.Points.{Point, standing_of}
use Rattle.client_sessions.specs.Told.{Told}
use Rattle.durable_updates.specs.Points.{IsOpenAsAt}
use Rattle.grid_store.specs.Stores.{OpenStore, IsStoreAlone, IsStoreAt}
use Rattle.grid_store.specs.Answered.{IsAnsweredLone, told_by}

-- the point of a lone caller's state
abbrev pub point_of : {K : ℕ} → State K → Point K
point_of s = record { at = standing_of s; beyond = None }

-- a store that is as the state says is at that point
pub alone_at : {K : ℕ} {D : Type 0} (g : Ghosts D) (s : OpenStore K D) (t : State K) → IsStoreAlone g s t → IsStoreAt g s (point_of t)
alone_at g s t is = record {
  file = record { kept = is.file.kept; file = is.file.file; session = is.file.session; meets = is.file.meets };
  stop = ap is_some is.stop;
}

-- a lawful query is answered, and not refused
lawful_answered : {K : ℕ} (s : State K) (there : Outcome K) (lawful : Bool) → IsTrue lawful → (if lawful then there else refused s BadQuery) ≡ there
lawful_answered s there lawful told = ap (λ (b : Bool). if b then there else refused s BadQuery) told

module _ {K : ℕ} (shape : Shape) (s : State K) where
  -- what is told there of a get is a lone caller's answer
  lone_got : (k : Key K) (a : Answer (Option (List ℕ))) → Told shape (point_of s) (ask.Get k) (Got a) (point_of s) → lone shape s (ask.Get k) ≡ answered s (Got a)
  unfolding lone
  lone_got k a told = ap (λ (x : Answer (Option (List ℕ))). answered s (Got x)) (sym told.answer)

  -- so is what is told of a listing
  lone_listed : (x : Query K) (a : Answer (List (Record K))) → Told shape (point_of s) (ask.List x) (Listed a) (point_of s) → lone shape s (ask.List x) ≡ answered s (Listed a)
  unfolding lone
  lone_listed x a told = ap (λ (y : Answer (List (Record K))). if is_lawful x.sides then answered s (Listed y) else refused s BadQuery) (sym told.1.answer) ∙ lawful_answered s (answered s (Listed a)) (is_lawful x.sides) told.0

  -- and of a count
  lone_counted : (x : Query K) (a : Answer ℕ) → Told shape (point_of s) (ask.Count x) (Counted a) (point_of s) → lone shape s (ask.Count x) ≡ answered s (Counted a)
  unfolding lone
  lone_counted x a told = ap (λ (y : Answer ℕ). if is_lawful x.sides then answered s (Counted y) else refused s BadQuery) (sym told.1.answer) ∙ lawful_answered s (answered s (Counted a)) (is_lawful x.sides) told.0

module _ {K : ℕ} {D : Type 0} (g : Ghosts D) (old new : OpenStore K D) (reads : ReadsFile K g old.file new.file) (stop : new.stop ≡ old.stop) where
  -- the store stays as the state says
  pub stays_alone : (s : State K) → IsStoreAlone g old s → IsStoreAlone g new s
  stays_alone s is = record {
    file = record {
      kept = is.file.kept;
      file = subst (λ (b : Books). IsFile b is.file.kept (standing_of s)) (sym reads.books) is.file.file;
      session = subst (λ (b : Books). InSession b is.file.kept) (sym reads.books) is.file.session;
      alone = subst (λ (b : Books). IsAlone b is.file.kept (standing_of s) s) (sym reads.books) is.file.alone;
      meets = reads.kept is.file.kept is.file.meets;
    };
    stop = stop ∙ is.stop;
    unclaimed = ap (λ (b : Books). count_by is_claimed b.pages) reads.books ∙ is.unclaimed;
  }

  -- a request that leaves the state is answered as the caller's
  answered_lone : (s : State K) (r : Request K) (reply : Reply K) → lone old.file.books.shape s r ≡ answered s reply → IsStoreAlone g old s → IsAnsweredLone g s r reply old new
  answered_lone s r reply same is = record {
    reply_is = ap (λ (o : Outcome K). o.reply) (sym same);
    goes_on = subst (λ (o : Outcome K). IsStoreAlone g new o.state) (sym same) (stays_alone s is);
  }

  -- so are a get,
  pub got_lone : (s : State K) (k : Key K) (r : Result (Answer (Option (List ℕ))) Refusal) → ((p : Point K) → IsOpenAsAt g old.file.books p old.file.disk → Told old.file.books.shape p (ask.Get k) (told_by Got r) p) → IsStoreAlone g old s → OnOk r (IsAnsweredLone g s (ask.Get k) (told_by Got r) old new)
  got_lone s k (Ok a) told is = answered_lone s (ask.Get k) (Got a) (lone_got old.file.books.shape s k a (told (point_of s) (alone_at g old s is).file)) is
  got_lone s k (Err e) told is = tt

  -- a listing,
  pub listed_lone : (s : State K) (x : Query K) (r : Result (Answer (List (Record K))) Refusal) → ((p : Point K) → IsOpenAsAt g old.file.books p old.file.disk → Told old.file.books.shape p (ask.List x) (told_by Listed r) p) → IsStoreAlone g old s → OnOk r (IsAnsweredLone g s (ask.List x) (told_by Listed r) old new)
  listed_lone s x (Ok a) told is = answered_lone s (ask.List x) (Listed a) (lone_listed old.file.books.shape s x a (told (point_of s) (alone_at g old s is).file)) is
  listed_lone s x (Err e) told is = tt

  -- and a count, where nothing failed
  pub counted_lone : (s : State K) (x : Query K) (r : Result (Answer ℕ) Refusal) → ((p : Point K) → IsOpenAsAt g old.file.books p old.file.disk → Told old.file.books.shape p (ask.Count x) (told_by Counted r) p) → IsStoreAlone g old s → OnOk r (IsAnsweredLone g s (ask.Count x) (told_by Counted r) old new)
  counted_lone s x (Ok a) told is = answered_lone s (ask.Count x) (Counted a) (lone_counted old.file.books.shape s x a (told (point_of s) (alone_at g old s is).file)) is
  counted_lone s x (Err e) told is = tt
