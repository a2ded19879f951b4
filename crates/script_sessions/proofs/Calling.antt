-- The replies to requests, from what the calls on a store answer.
use Rattle.std.proofs.Common.{◌≡◌, ℕ, length, Bool, true, false, List, Option, Some, None, Result, Ok, Err, IfErr, IsTrue, refl, sym, ap, subst, ◌∙◌}
use Rattle.std.specs.Prelude.{OnOk}
use Rattle.grid_types.specs.declared.answer.Answer.{Answer}
use Rattle.grid_types.specs.declared.key.Key.{Key}
use Rattle.grid_types.specs.declared.query.Query.{Query}
use Rattle.grid_types.specs.declared.refusal.Refusal.{Refusal}
use Rattle.grid_types.specs.declared.refusal.Refusal.TheVariants as refusal
use Rattle.grid_types.specs.declared.request.Reply.{Reply}
use Rattle.grid_types.specs.declared.request.Reply.TheVariants as told
use Rattle.grid_types.specs.declared.request.Request.{Request}
use Rattle.grid_types.specs.declared.request.Request.TheVariants as ask
use Rattle.grid_types.specs.declared.update.Record.{Record}
use Rattle.grid_types.specs.declared.update.Update.TheVariants.{Put, Remove}
use Rattle.grid_types.specs.Queries.{is_lawful}
use Rattle.disk_trait.specs.declared.disk.Disk.{Ghosts}
use Rattle.disk_trait.specs.Calls.{Changes, HasCauses, OnlyReads}
use Rattle.disk_trait.proofs.Calls.{changes_read, changes_wider}
use Rattle.grid_model.specs.Lone.{State, lone}
use Rattle.checkpoints.specs.Disks.{KeepsLength}
use Rattle.query_paths.specs.Paths.{IsGetRefusal, IsQueryRefusal}
use Rattle.query_paths.specs.Pinned.{Place}
use Rattle.client_sessions.specs.Points.{Point}
use Rattle.durable_updates.specs.Answers.{UnlessFailed}
use Rattle.durable_updates.specs.Causes.{IsRootRefusal, IsUpdateCause}
use Rattle.grid_store.specs.Stores.{IsStoreAlone, IsStoreAt, KeepsStore, OpenStore}
use Rattle.grid_store.specs.Answered.{IsAnswered, IsAnsweredLone}
use Rattle.script_sessions.specs.Replies.{CountsFault, IsReplyTo}
use Rattle.script_sessions.specs.Sessions.{RepliesTo}
use Rattle.script_sessions.proofs.Refusing.{IsRefusedSo, checkpoint-refused, count-refused, get-refused, lawful-or, listing-refused, put-refused, remove-refused, stopped-or}

-- a call that only reads leaves images as long as they were
keeps-length : {D : Type 0} {g : Ghosts D} {old new : D} → OnlyReads g old new → Changes g KeepsLength old new
keeps-length reads = changes_wider (λ x y same. ap length same) (changes_read reads)

module _ {K : ℕ} {D : Type 0} (g : Ghosts D) (old new : OpenStore K D) where
  -- a reply is what is true at a point
  abbrev pub AnswersAt : Request K → Reply K → Type 0
  AnswersAt r reply = IsTrue (g.honest old.file.disk) → (p : Point K) → IsStoreAt g old p → IsAnswered g p r reply old new

  -- a reply is a lone caller's
  abbrev pub AnswersLone : Request K → Reply K → Type 0
  AnswersLone r reply = IsTrue (g.honest old.file.disk) → (s : State K) → IsStoreAlone g old s → IsAnsweredLone g s r reply old new

  -- a refusal has its cause, and is a lone caller's where a rule gives it
  abbrev RefusesSo : Request K → Refusal → Type 0
  RefusesSo r e = IsRefusedSo g old.file.disk new.file.disk r (AnswersLone r (told.Refused e)) e

  refuses : (r : Request K) (e : Refusal) → AnswersAt r (told.Refused e) → RefusesSo r e → new.file.books.shape ≡ old.file.books.shape → Changes g KeepsLength old.file.disk new.file.disk → RepliesTo g r (told.Refused e) old new
  refuses r e answers why shape changes = record {
    answers = answers;
    lone = λ told s is by. why.rules by told s is;
    kind = why.kind;
    shape = shape;
    changes = changes;
    fault = why.fault;
  }

  -- an answer of a call that only reads is a reply
  pub reads : (r : Request K) (reply : Reply K) → AnswersAt r reply → AnswersLone r reply → IsReplyTo r reply → CountsFault g old.file.disk new.file.disk reply → KeepsStore g old new → RepliesTo g r reply old new
  reads r reply answers alone kind fault same = record {
    answers = answers;
    lone = λ told s is by. alone told s is;
    kind = kind;
    shape = same.books.shape;
    changes = keeps-length same.disk;
    fault = fault;
  }

  -- a get is refused
  pub refuses-get : (k : Key K) (p : Place) (bytes : List ℕ) (e : Refusal) → AnswersAt (ask.Get k) (told.Refused e) → IsGetRefusal K p (g.read_count old.file.disk) (g.read_count new.file.disk) k.numbers bytes e → KeepsStore g old new → RepliesTo g (ask.Get k) (told.Refused e) old new
  refuses-get k p bytes e answers cause same =
      refuses (ask.Get k) e answers (get-refused g old.file.disk new.file.disk (AnswersLone (ask.Get k) (told.Refused e)) K k p bytes e cause) same.books.shape (keeps-length same.disk)

  -- a query is refused
  module _ (q : Query K) (p : Place) (part bucket : List ℕ) (e : Refusal) (alone : (s : State K) → IsStoreAlone g old s → IsStoreAlone g new s) (same : KeepsStore g old new) where
    -- one that is not lawful as a lone caller's is
    bad-count : is_lawful q.sides ≡ false → AnswersLone (ask.Count q) (told.Refused refusal.BadQuery)
    unfolding lone
    bad-count unlawful told s is = record { reply_is = rw unlawful; goes_on = rw unlawful (alone s is) }

    bad-listing : is_lawful q.sides ≡ false → AnswersLone (ask.List q) (told.Refused refusal.BadQuery)
    unfolding lone
    bad-listing unlawful told s is = record { reply_is = rw unlawful; goes_on = rw unlawful (alone s is) }

    pub refuses-count : AnswersAt (ask.Count q) (told.Refused e) → (is_lawful q.sides ≡ false → ◌≡◌ {A = Result (Answer ℕ) Refusal} (Err e) (Err refusal.BadQuery))
        → (IsTrue (is_lawful q.sides) → IsQueryRefusal K false p q.sides part bucket (g.read_count old.file.disk) (g.read_count new.file.disk) e) → RepliesTo g (ask.Count q) (told.Refused e) old new
    refuses-count answers bad cause =
        refuses (ask.Count q) e answers
        (lawful-or (RefusesSo (ask.Count q)) (is_lawful q.sides) e
        (λ well. count-refused g old.file.disk new.file.disk (AnswersLone (ask.Count q) (told.Refused e)) K q p part bucket e (cause well)) bad
        (λ no. record { kind = no; fault = tt; rules = λ by. bad-count no }))
        same.books.shape (keeps-length same.disk)

    pub refuses-listing : AnswersAt (ask.List q) (told.Refused e) → (is_lawful q.sides ≡ false → ◌≡◌ {A = Result (Answer (List (Record K))) Refusal} (Err e) (Err refusal.BadQuery))
        → (IsTrue (is_lawful q.sides) → IsQueryRefusal K true p q.sides part bucket (g.read_count old.file.disk) (g.read_count new.file.disk) e) → RepliesTo g (ask.List q) (told.Refused e) old new
    refuses-listing answers bad cause =
        refuses (ask.List q) e answers
        (lawful-or (RefusesSo (ask.List q)) (is_lawful q.sides) e
        (λ well. listing-refused g old.file.disk new.file.disk (AnswersLone (ask.List q) (told.Refused e)) K q p part bucket e (cause well)) bad
        (λ no. record { kind = no; fault = tt; rules = λ by. bad-listing no }))
        same.books.shape (keeps-length same.disk)

  -- what a lone caller is answered unless something failed
  abbrev UnlessFailedAlone : Request K → Refusal → Type 0
  UnlessFailedAlone r e = IsTrue (g.honest old.file.disk) → (s : State K) → IsStoreAlone g old s → UnlessFailed {T = Answer (Option (List ℕ))} (Err e) (IsAnsweredLone g s r (told.Refused e) old new)

  rules-alone : (r : Request K) (e : Refusal) → UnlessFailedAlone r e → UnlessFailed {T = Answer (Option (List ℕ))} (Err e) (AnswersLone r (told.Refused e))
  rules-alone r (refusal.Full free wanted) alone = alone
  rules-alone r (refusal.NoCut cells boundaries) alone = alone
  rules-alone r e alone = tt

  -- what a store says that was stopped
  abbrev SaysStopped : Type 0 → Refusal → Type 0
  SaysStopped T e = (n : ℕ) → old.stop ≡ Some n → ◌≡◌ {A = Result T Refusal} (Err e) (Err (refusal.Stopped n old.opened))

  -- a put is refused
  pub refuses-put : (row : Record K) (e : Refusal) → AnswersAt (ask.Put row) (told.Refused e) → UnlessFailedAlone (ask.Put row) e → SaysStopped (Answer (Option (List ℕ))) e → (old.stop ≡ None → IsUpdateCause g (Put row) old.file new.file new.room e)
      → new.file.books.shape ≡ old.file.books.shape → Changes g KeepsLength old.file.disk new.file.disk → RepliesTo g (ask.Put row) (told.Refused e) old new
  refuses-put row e answers alone halted cause shape changes =
      refuses (ask.Put row) e answers
      (stopped-or (RefusesSo (ask.Put row)) old.stop old.opened e
      (λ going. put-refused g old.file new.file new.room (AnswersLone (ask.Put row) (told.Refused e)) row e (cause going) (rules-alone (ask.Put row) e alone)) halted
      (λ n. record { kind = tt; fault = tt; rules = λ no. absurd no }))
      shape changes

  -- a remove is refused
  pub refuses-remove : (k : Key K) (e : Refusal) → AnswersAt (ask.Remove k) (told.Refused e) → UnlessFailedAlone (ask.Remove k) e → SaysStopped (Answer (Option (List ℕ))) e → (old.stop ≡ None → IsUpdateCause g (Remove k) old.file new.file new.room e)
      → new.file.books.shape ≡ old.file.books.shape → Changes g KeepsLength old.file.disk new.file.disk → RepliesTo g (ask.Remove k) (told.Refused e) old new
  refuses-remove k e answers alone halted cause shape changes =
      refuses (ask.Remove k) e answers
      (stopped-or (RefusesSo (ask.Remove k)) old.stop old.opened e
      (λ going. remove-refused g old.file new.file new.room (AnswersLone (ask.Remove k) (told.Refused e)) k e (cause going) (rules-alone (ask.Remove k) e alone)) halted
      (λ n. record { kind = tt; fault = tt; rules = λ no. absurd no }))
      shape changes

  -- a checkpoint is refused
  pub refuses-checkpoint : (e : Refusal) → AnswersAt ask.Checkpoint (told.Refused e) → SaysStopped ℕ e → (old.stop ≡ None → HasCauses {T = ℕ} g (IsRootRefusal old.file.books) old.file.disk new.file.disk (Err e))
      → new.file.books.shape ≡ old.file.books.shape → Changes g KeepsLength old.file.disk new.file.disk → RepliesTo g ask.Checkpoint (told.Refused e) old new
  refuses-checkpoint e answers halted cause shape changes =
      refuses ask.Checkpoint e answers
      (stopped-or (RefusesSo ask.Checkpoint) old.stop old.opened e
      (λ going. checkpoint-refused g old.file.disk new.file.disk (AnswersLone ask.Checkpoint (told.Refused e)) old.file.books e (cause going)) halted
      (λ n. record { kind = tt; fault = tt; rules = λ no. absurd no }))
      shape changes
