-- A session over a file, from what its opening, its lines and its close have said.
use Rattle.std.proofs.Common.{◌≡◌, ◌⊎◌, inl, inr, ◌≤◌, ◌++◌, [], ℕ, List, length, IsTrue, Option, None, Some, refl, sym, ap, subst, ◌∙◌, arith}
use Rattle.std.specs.Prelude.{IsSomeAnd, All}
use Rattle.std.proofs.lemmas.List.{append-nil}
use Rattle.grid_types.specs.declared.answer.Answer.{Answer}
use Rattle.grid_types.specs.declared.request.Line.{Line}
use Rattle.grid_types.specs.declared.request.Reply.{Reply}
use Rattle.grid_types.specs.declared.request.Reply.TheVariants.{Stood}
use Rattle.grid_types.specs.declared.request.Request.TheVariants.{Stat as AskStat}
use Rattle.grid_types.specs.declared.shape.Shape.{Shape}
use Rattle.grid_types.specs.declared.shape.Stat.{Stat}
use Rattle.disk_trait.specs.declared.disk.Disk.{Ghosts}
use Rattle.disk_trait.specs.Moments.{LeavesOnly}
use Rattle.disk_trait.specs.Calls.{Changes, OnlyReads}
use Rattle.disk_trait.proofs.Moments.{joined}
use Rattle.disk_trait.proofs.Calls.{changes_then, changes_then_reads}
use Rattle.checkpoints.specs.Disks.{KeepsLength}
use Rattle.grid_model.specs.Lone.{State, opened}
use Rattle.file_images.specs.Leads.{Standing, HasStanding}
use Rattle.file_opening.specs.Opening.{LeavesStanding}
use Rattle.client_sessions.specs.Laws.{RunsJoin}
use Rattle.client_sessions.specs.Points.{Point, StandsAt, standing_of}
use Rattle.client_sessions.specs.Runs.{Runs, IsLeftIn}
use Rattle.grid_store.specs.Laws.{StoreTells}
use Rattle.grid_store.specs.Stores.{OpenStore, IsStoreAt, IsStoreAlone}
use Rattle.grid_store.specs.Answered.{IsAnswered}
use Rattle.script_sessions.specs.Laws.{Leaves, SessionsTell}
use Rattle.script_sessions.specs.Replies.{NoneRefused}
use Rattle.script_sessions.specs.Sessions.{AnsweredAll, AnsweredAllLone}
use Rattle.file_sessions.specs.Sessions.{StandsAs, IsSession, start}

-- the standing of a state in which a file was opened
opened_at : {K : ℕ} (m : Standing K) → standing_of (opened m.table m.layout m.place) ≡ m
opened_at m = refl

-- where nothing is in doubt, an image at a point has its standing
settled_image : {K : ℕ} (p : Point K) (image : List ℕ) → p.beyond ≡ None → StandsAt p image → HasStanding image p.at
settled_image p image none (inl at) = at
settled_image p image none (inr beyond) = absurd (subst (λ (o : Option (Standing _)). IsSomeAnd o (λ n. HasStanding image n)) none beyond)

-- one step of lengths after another
pub keeps_length_then : (x y z : List ℕ) → KeepsLength x y → KeepsLength y z → KeepsLength x z
keeps_length_then x y z a b = b ∙ a

module _ {K : ℕ} {D : Type 0} (g : Ghosts D) (m : Standing K) (lines : List (Line K)) (replies : List (Reply K)) (first : D) (opened_store worked counted : OpenStore K D) (front records : ℕ) where
  module _ (law : StoreTells K g) (sessions : SessionsTell K g) (joins : RunsJoin K) (stood : StandsAs g m first)
      (reopened : IsStoreAlone g opened_store (opened m.table m.layout m.place)) (opening : LeavesStanding g m first opened_store.file.disk)
      (told : IsTrue (g.honest opened_store.file.disk)) (told_worked : IsTrue (g.honest worked.file.disk)) (told_counted : IsTrue (g.honest counted.file.disk))
      (runs : (p : Point K) → IsStoreAt g opened_store p → AnsweredAll g p lines replies opened_store worked)
      (lone : (s : State K) → IsStoreAlone g opened_store s → NoneRefused replies → AnsweredAllLone g s lines replies opened_store worked)
      (answer : Answer Stat) (counts : (p : Point K) → IsStoreAt g worked p → IsAnswered g p AskStat (Stood answer) worked counted)
      (front_is : front ≡ counted.file.books.front) (records_are : records ≡ answer.value.records) where
    begins : IsStoreAt g opened_store (start m)
    begins = subst (λ (n : Standing K). IsStoreAt g opened_store (start n)) (opened_at m) (law.lone opened_store (opened m.table m.layout m.place) reopened)

    abbrev all : AnsweredAll g (start m) lines replies opened_store worked
    all = runs (start m) begins

    abbrev shape : Shape
    shape = opened_store.file.books.shape

    stat : IsAnswered g all.point AskStat (Stood answer) worked counted
    stat = counts all.point all.stands

    ends : IsStoreAt g counted all.point
    ends = subst (IsStoreAt g counted) stat.told.0 stat.stands

    left_at_first : (image : List ℕ) → HasStanding image m → IsLeftIn shape (start m) lines replies image
    left_at_first image has = record { count = 0; few = omega arith; point = start m; leads = refl; stands = inl has }

    left_at_last : (image : List ℕ) → StandsAt all.point image → IsLeftIn shape (start m) lines replies image
    left_at_last image stands =
        let behind : IsLeftIn shape all.point [] [] image = record { count = 0; few = omega arith; point = all.point; leads = refl; stands = stands } in
        subst (λ (rs : List (Reply K)). IsLeftIn shape (start m) lines rs image) (append-nil replies)
        (subst (λ (ls : List (Line K)). IsLeftIn shape (start m) ls (replies ++ []) image) (append-nil lines)
        (joins.second shape (start m) all.point lines [] replies [] image all.runs behind))

    left : LeavesOnly g.moment g.left_since first counted.file.disk (IsLeftIn shape (start m) lines replies)
    left =
        joined g.moment g.left_since first worked.file.disk counted.file.disk _ _ _
        (joined g.moment g.left_since first opened_store.file.disk worked.file.disk _ _ _ opening (all.left told)
        (λ image before. elim before [ inl was ↦ left_at_first image (stood.leaves.crash image was) | inr has ↦ left_at_first image has ])
        (λ image on. on))
        (stat.moments told_worked)
        (λ image on. on)
        (λ image at. elim at [ inl before ↦ left_at_last image before | inr after ↦ left_at_last image (subst (λ (p : Point K). StandsAt p image) stat.told.0 after) ])

    leaves : Leaves g counted.file.disk (StandsAt all.point)
    leaves = record { read = law.read counted all.point told_counted ends; crash = law.crash counted all.point told_counted ends }

    pub is_session : IsSession g m lines replies front records first counted.file.disk
    is_session = record {
      shape = shape;
      point = all.point;
      runs = all.runs;
      ends = (front_is ∙ sym (law.front counted all.point ends), records_are ∙ stat.told.2);
      leaves = leaves;
      sure = λ sure.
          let none = sessions.settled (start m) lines replies opened_store worked refl sure all in
          record { read = settled_image all.point (g.seen counted.file.disk) none leaves.read; crash = λ image left. settled_image all.point image none (leaves.crash image left) };
      left = left;
      explained = λ client some few same. sessions.explained (start m) client lines replies opened_store worked some few same begins all;
      alone = λ none. (lone (opened m.table m.layout m.place) reopened none).replies_are;
    }
