-- A run over a disk that was read before: what is said of it since then is so since before.
use Rattle.std.proofs.Common.{◌≡◌, ◌⊎◌, ◌≤◌, inl, inr, ℕ, List, IsTrue, refl, sym, ap, subst, ◌∙◌, arith}
use Rattle.std.specs.Prelude.{All}
use Rattle.std.proofs.lemmas.List.Elements.{All-weaker}
use Rattle.grid_types.specs.declared.refusal.Refusal.{Refusal}
use Rattle.grid_types.specs.declared.request.Line.{Line}
use Rattle.grid_types.specs.declared.request.Reply.{Reply}
use Rattle.grid_types.specs.declared.shape.Shape.{Shape}
use Rattle.grid_model.specs.Images.{HasShape}
use Rattle.disk_trait.specs.declared.disk.Disk.{Ghosts as Disks}
use Rattle.disk_trait.specs.declared.sink.Sink.{Ghosts as Sinks}
use Rattle.disk_trait.specs.declared.source.Source.{Ghosts as Sources}
use Rattle.disk_trait.specs.Calls.{OnlyReads}
use Rattle.disk_trait.specs.Moments.{LeavesOnly}
use Rattle.disk_trait.proofs.Calls.{reads_then, causes_after}
use Rattle.disk_trait.proofs.Moments.{joined}
use Rattle.file_images.specs.Leads.{Standing, HasStanding}
use Rattle.file_opening.specs.Opening.{LeavesStanding, IsUnopened}
use Rattle.file_opening.specs.Refusals.{IsRefused}
use Rattle.client_sessions.specs.Points.{Point}
use Rattle.client_sessions.specs.Runs.{IsLeftIn}
use Rattle.script_sessions.specs.Replies.{CountsFault}
use Rattle.script_sessions.proofs.Following.{fault-within}
use Rattle.file_sessions.specs.Sessions.{StandsAs, IsSession, start}
use Rattle.grid_shell.specs.declared.ending.Ending.{Ending}
use Rattle.grid_shell.specs.Runs.{IsNotOpened, IsAnswered, EndsUnopened, EndsAnswered, WorksLines, EndsUnread, EndsRead, RunsAt, RunsDisk}

-- an image in which a session begins
pub left_at_start : {K : ℕ} (shape : Shape) (m : Standing K) (lines : List (Line K)) (replies : List (Reply K)) (image : List ℕ) → HasStanding image m → IsLeftIn shape (start m) lines replies image
left_at_start shape m lines replies image has = record { count = 0; few = omega arith; point = start m; leads = refl; stands = inl has }

-- a session over a disk, as one since an earlier moment
pub session_since : {K : ℕ} {D : Type 0} (g : Disks D) (m : Standing K) (lines : List (Line K)) (replies : List (Reply K)) (front records : ℕ) (old mid new : D)
    → ((shape : Shape) → LeavesOnly g.moment g.left_since mid new (IsLeftIn shape (start m) lines replies) → LeavesOnly g.moment g.left_since old new (IsLeftIn shape (start m) lines replies))
    → IsSession g m lines replies front records mid new → IsSession g m lines replies front records old new
session_since g m lines replies front records old mid new since s = record {
  shape = s.shape;
  point = s.point;
  runs = s.runs;
  ends = s.ends;
  leaves = s.leaves;
  sure = s.sure;
  left = since s.shape s.left;
  explained = s.explained;
  alone = s.alone;
}

module _ {D : Type 0} (g : Disks D) (old mid : D) (reads : OnlyReads g old mid) where
  stands_after : {K : ℕ} (m : Standing K) → StandsAs g m old → StandsAs g m mid
  stands_after m s = record {
    told = reads.honest ∙ s.told;
    leaves = record {
      read = subst (λ (image : List ℕ). HasStanding image m) (sym (reads.seen s.told)) s.leaves.read;
      crash = λ image left. s.leaves.crash image ((reads.crash s.told image).0 left);
    };
  }

  session_before : {K : ℕ} (m : Standing K) (lines : List (Line K)) (replies : List (Reply K)) (front records : ℕ) (new : D) → StandsAs g m old → IsSession g m lines replies front records mid new → IsSession g m lines replies front records old new
  session_before m lines replies front records new s is =
      session_since g m lines replies front records old mid new
      (λ shape left. joined g.moment g.left_since old mid new _ _ _ (reads.moments s.told) left (λ image was. left_at_start shape m lines replies image (s.leaves.crash image was)) (λ image on. on))
      is

  answered_before : {K : ℕ} (lines : List (Line K)) (replies : List (Reply K)) (front records : ℕ) (new : D) → IsAnswered g lines replies front records mid new → IsAnswered g lines replies front records old new
  answered_before lines replies front records new a = record {
    kinds = a.kinds;
    faults = All-weaker (CountsFault g mid new) (CountsFault g old new) (λ r. fault-within g old mid new new reads.reads (omega arith) reads.writes (omega arith) r) replies a.faults;
    session = λ m s. session_before m lines replies front records new s (a.session m (stands_after m s));
  }

  not_opened_before : (K : ℕ) (new : D) (e : Refusal) → IsNotOpened K g mid new e → IsNotOpened K g old new e
  not_opened_before K new e n = record {
    why = λ told. subst (λ (image : List ℕ). IsUnopened K image e) (reads.seen told) (n.why (reads.honest ∙ told));
    sound = λ told m has. n.sound (reads.honest ∙ told) m (stands told m has);
    moments = λ told m has.
        joined g.moment g.left_since old mid new _ _ _ (reads.moments told) (n.moments (reads.honest ∙ told) m (stands told m has))
        (λ image was. inl was)
        (λ image at. elim at [ inl was ↦ inl ((reads.crash told image).0 was) | inr now ↦ inr now ]);
    untouched = λ told refused. reads_then reads (n.untouched (reads.honest ∙ told) (subst (λ (image : List ℕ). IsRefused K image e) (sym (reads.seen told)) refused));
    memory = λ none. reads_then reads (n.memory none);
    causes = causes_after reads.reads reads.writes n.causes;
  }
    where
      stands : IsTrue (g.honest old) → (m : Standing K) → HasStanding (g.seen old) m → HasStanding (g.seen mid) m
      stands told m has = subst (λ (image : List ℕ). HasStanding image m) (sym (reads.seen told)) has

  module _ {O : Type 0} (o : Sinks O) where
    works_before : {K : ℕ} (lines : List (Line K)) (new : D) (out : O × O) (ending : Ending) → WorksLines g o lines mid new out ending → WorksLines g o lines old new out ending
    works_before {K} lines new out ending (inl e) = inl (record { refusal = e.refusal; ends = e.ends; unopened = not_opened_before K new e.refusal e.unopened; silent = e.silent })
    works_before lines new out ending (inr e) = inr (record { replies = e.replies; front = e.front; records = e.records; answered = answered_before lines e.replies e.front e.records new e.answered; prints = e.prints })

    -- a run over a file, behind the reading of its shape
    pub runs_before : {S : Type 0} (s : Sources S) (K : ℕ) (new : D) (input : S × S) (out : O × O) (ending : Ending) → RunsAt K g s o mid new input out ending → RunsAt K g s o old new input out ending
    runs_before s K new input out ending (inl e) = inl (record { why = e.why; lost = e.lost; disk = reads_then reads e.disk; silent = e.silent })
    runs_before s K new input out ending (inr e) = inr (record { lines = e.lines; read = e.read; works = works_before e.lines new out ending e.works })

    -- and a run over the disk of a file with that many attributes
    pub runs_shaped : {S : Type 0} (s : Sources S) (K : ℕ) (shape : Shape) (new : D) (input : S × S) (out : O × O) (ending : Ending) → shape.k ≡ K → (IsTrue (g.honest old) → HasShape shape.k (g.seen old) shape) → RunsAt K g s o mid new input out ending → RunsDisk g s o old new input out ending
    runs_shaped s K shape new input out ending is has runs = inr (inr (record {
      attributes = K;
      shaped = λ told. record { shape = shape; has = subst (λ (k : ℕ). HasShape k (g.seen old) shape) is (has told) };
      runs = runs_before s K new input out ending runs;
    }))
