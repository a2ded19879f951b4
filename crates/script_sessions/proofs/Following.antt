-- One line more of a script.
use Rattle.std.proofs.Common.{◌≡◌, ◌⊎◌, inl, inr, ⊎_elim, ◌<◌, ◌≤◌, ◌+◌, ◌++◌, ◌∷◌, [], ℕ, List, map, take, length, Some, IsTrue, refl, sym, ap, subst, ◌∙◌, arith}
use Rattle.std.proofs.lemmas.List.{map-append}
use Rattle.std.proofs.lemmas.List.Elements.{All-nil, All-pop, All-push, All-weaker}
use Rattle.grid_types.specs.declared.refusal.Refusal.{Refusal}
use Rattle.grid_types.specs.declared.refusal.Refusal.TheVariants as refusal
use Rattle.grid_types.specs.declared.request.Line.{Line}
use Rattle.grid_types.specs.declared.request.Reply.{Reply}
use Rattle.grid_types.specs.declared.request.Reply.TheVariants as told
use Rattle.grid_types.specs.declared.shape.Shape.{Shape}
use Rattle.disk_trait.specs.declared.disk.Disk.{Ghosts}
use Rattle.disk_trait.proofs.Calls.{changes_none, changes_then, rose_within}
use Rattle.disk_trait.proofs.Moments.{joined, started}
use Rattle.grid_model.specs.Lone.{State, lone, answers, afterwards}
use Rattle.grid_model.specs.Transcripts.{requests}
use Rattle.grid_model.proofs.AnswerLaws.{answers-push, afterwards-push}
use Rattle.client_sessions.specs.Laws.{RunsJoin}
use Rattle.client_sessions.specs.Points.{Point, StandsAt}
use Rattle.client_sessions.specs.Runs.{Runs, IsLeftIn}
use Rattle.client_sessions.specs.Told.{Told}
use Rattle.grid_store.specs.Laws.{StoreTells}
use Rattle.grid_store.specs.Stores.{OpenStore, IsStoreAlone, IsStoreAt}
use Rattle.script_sessions.specs.Replies.{AreRepliesTo, CountsFault, IsByRules, IsCountedFault, IsReplyTo, NoneRefused}
use Rattle.script_sessions.specs.Sessions.{AnsweredAll, AnsweredAllLone, RepliesTo, RepliesToAll}

-- one reply more, to one line more
replies-push : {K : ℕ} (ls : List (Line K)) (rs : List (Reply K)) (l : Line K) (r : Reply K) → AreRepliesTo ls rs → IsReplyTo l.request r → AreRepliesTo (ls ++ l ∷ []) (rs ++ r ∷ [])
replies-push [] [] l r each kind = (kind, tt)
replies-push [] (q ∷ rs) l r each kind = absurd each
replies-push (m ∷ ls) [] l r each kind = absurd each
replies-push (m ∷ ls) (q ∷ rs) l r each kind = (each.0, replies-push ls rs l r each.1 kind)

asked-push : {K : ℕ} (ls : List (Line K)) (l : Line K) → requests (ls ++ l ∷ []) ≡ requests ls ++ l.request ∷ []
asked-push ls l = map-append (λ x. x.request) ls (l ∷ [])

-- a fault that was counted in some calls was counted in more calls around them
module _ {D : Type 0} (g : Ghosts D) (first before now last : D) (reads : g.read_count first ≤ g.read_count before) (reads_on : g.read_count now ≤ g.read_count last) (writes : g.write_count first ≤ g.write_count before) (writes_on : g.write_count now ≤ g.write_count last) where
  pub refusal-within : (e : Refusal) → IsCountedFault g before now e → IsCountedFault g first last e
  refusal-within refusal.ReadFault rose = rose_within (g.read_count first) (g.read_count before) (g.read_count now) (g.read_count last) reads reads_on rose
  refusal-within refusal.WriteFault rose = rose_within (g.write_count first) (g.write_count before) (g.write_count now) (g.write_count last) writes writes_on rose
  refusal-within (refusal.Unsure faults more) rose = rose_within (g.write_count first) (g.write_count before) (g.write_count now) (g.write_count last) writes writes_on rose
  refusal-within other rose = tt

  pub fault-within : {K : ℕ} (r : Reply K) → CountsFault g before now r → CountsFault g first last r
  fault-within (told.Refused e) counted = refusal-within e counted
  fault-within other counted = tt

-- a session of one line
module _ {K : ℕ} (shape : Shape) (p q : Point K) (l : Line K) (r : Reply K) (leads : Told shape p l.request r q) where
  one-runs : Runs shape p (l ∷ []) (r ∷ []) q
  one-runs = (q, leads, refl)

  one-left : (image : List ℕ) → StandsAt p image ⊎ StandsAt q image → IsLeftIn shape p (l ∷ []) (r ∷ []) image
  one-left image (inl before) = record { count = 0; few = omega arith; point = p; leads = refl; stands = before }
  one-left image (inr behind) = record { count = 1; few = omega arith; point = q; leads = one-runs; stands = behind }

module _ {K : ℕ} {D : Type 0} (g : Ghosts D) where
  -- before the first line none has a reply
  replied-none : StoreTells K g → (old : OpenStore K D) → ((k : List ℕ) → IsTrue (g.honest old.file.disk) → g.left_since old.file.disk (g.moment old.file.disk) k → g.may_leave old.file.disk k) → RepliesToAll g [] [] old old
  unfolding answers afterwards
  replied-none tells old law = record {
    runs = λ h p is. record {
      point = p;
      runs = refl;
      stands = is;
      left = λ told. started g.moment g.left_since old.file.disk (IsLeftIn old.file.books.shape p [] []) (λ k now. record { count = 0; few = omega arith; point = p; leads = refl; stands = tells.crash old p told is k (law k told now) });
    };
    lone = λ h s is none. record { replies_are = refl; goes_on = is };
    kinds = tt;
    shape = refl;
    changes = changes_none (λ x. refl) law;
    faults = All-nil (CountsFault {K = K} g old.file.disk old.file.disk);
  }

  pub none-replied : StoreTells K g → (old : OpenStore K D) (lines : List (Line K)) (replies : List (Reply K)) → lines ≡ [] → replies ≡ [] → ((k : List ℕ) → IsTrue (g.honest old.file.disk) → g.left_since old.file.disk (g.moment old.file.disk) k → g.may_leave old.file.disk k)
      → RepliesToAll g lines replies old old
  none-replied tells old lines replies no_line empty law =
      subst (λ (ls : List (Line K)). RepliesToAll g ls replies old old) (sym no_line) (subst (λ (rs : List (Reply K)). RepliesToAll g [] rs old old) (sym empty) (replied-none tells old law))

  -- one line more has a reply
  module _ (join : RunsJoin K) (xs : List (Line K)) (rs : List (Reply K)) (l : Line K) (r : Reply K) (old mid new : OpenStore K D) (so_far : RepliesToAll g xs rs old mid) (next : RepliesTo g l.request r mid new) where
    abbrev sh : Shape
    sh = old.file.books.shape

    honest-then : IsTrue (g.honest old.file.disk) → IsTrue (g.honest mid.file.disk)
    honest-then h = so_far.changes.honest ∙ h

    more-runs : IsTrue (g.honest old.file.disk) → (p : Point K) → IsStoreAt g old p → AnsweredAll g p (xs ++ l ∷ []) (rs ++ r ∷ []) old new
    more-runs h p is =
        let a = so_far.runs h p is in
        let b = next.answers (honest-then h) a.point a.stands in
        let leads : Told sh a.point l.request r b.point = subst (λ (s : Shape). Told s a.point l.request r b.point) so_far.shape b.told in
        record {
          point = b.point;
          runs = join.joined sh p a.point b.point xs (l ∷ []) rs (r ∷ []) a.runs (one-runs sh a.point b.point l r leads);
          stands = b.stands;
          left = λ told. joined g.moment g.left_since old.file.disk mid.file.disk new.file.disk (IsLeftIn sh p xs rs) (λ image. StandsAt a.point image ⊎ StandsAt b.point image) (IsLeftIn sh p (xs ++ l ∷ []) (rs ++ r ∷ []))
              (a.left told) (b.moments (honest-then told))
              (λ k had. join.first sh p a.point xs (l ∷ []) rs (r ∷ []) k a.runs had)
              (λ k has. join.second sh p a.point xs (l ∷ []) rs (r ∷ []) k a.runs (one-left sh a.point b.point l r leads k has));
        }

    more-alone : IsTrue (g.honest old.file.disk) → (s : State K) → IsStoreAlone g old s → NoneRefused (rs ++ r ∷ []) → AnsweredAllLone g s (xs ++ l ∷ []) (rs ++ r ∷ []) old new
    more-alone h s is none =
        let by = All-pop IsByRules (rs ++ r ∷ []) rs (Some r) refl none in
        let a = so_far.lone h s is by.0 in
        let before = afterwards sh s (requests xs) in
        let b = next.lone (honest-then h) before a.goes_on by.1 in
        record {
          replies_are =
              (λ i. a.replies_are i ++ (b.reply_is ∙ ap (λ (x : Shape). (lone x before l.request).reply) so_far.shape) i ∷ [])
              ∙ sym (answers-push sh s (requests xs) l.request)
              ∙ ap (answers sh s) (sym (asked-push xs l));
          goes_on = subst (IsStoreAlone g new) (sym (afterwards-push sh s (requests xs) l.request) ∙ ap (afterwards sh s) (sym (asked-push xs l)))
              (subst (λ (x : Shape). IsStoreAlone g new (lone x before l.request).state) so_far.shape b.goes_on);
        }

    replied-more : RepliesToAll g (xs ++ l ∷ []) (rs ++ r ∷ []) old new
    replied-more = record {
      runs = more-runs;
      lone = more-alone;
      kinds = replies-push xs rs l r so_far.kinds next.kind;
      shape = next.shape ∙ so_far.shape;
      changes = changes_then (λ x y same. same) (λ x y z same then. then ∙ same) so_far.changes next.changes;
      faults = All-push (CountsFault g old.file.disk new.file.disk) rs r
          (All-weaker (CountsFault g old.file.disk mid.file.disk) (CountsFault g old.file.disk new.file.disk)
          (fault-within g old.file.disk old.file.disk mid.file.disk new.file.disk (omega arith) next.changes.reads (omega arith) next.changes.writes) rs so_far.faults)
          (fault-within g old.file.disk mid.file.disk new.file.disk new.file.disk so_far.changes.reads (omega arith) so_far.changes.writes (omega arith) r next.fault);
    }

    pub more-replied : (ls : List (Line K)) (qs : List (Reply K)) → ls ≡ xs ++ l ∷ [] → qs ≡ rs ++ r ∷ [] → RepliesToAll g ls qs old new
    more-replied ls qs lines_are replies_are = subst (λ (x : List (Line K)). RepliesToAll g x qs old new) (sym lines_are) (subst (λ (x : List (Reply K)). RepliesToAll g (xs ++ l ∷ []) x old new) (sym replies_are) replied-more)
