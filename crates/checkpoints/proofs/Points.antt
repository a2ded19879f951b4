-- The file at each point of a root step: what is kept there, and that it stands.
use Rattle.std.proofs.Common.{◌≡◌, ◌+◌, ◌==◌, inl, inr, ℕ, zero, suc, Bool, true, false, cond, None, Some, refl, sym, ap, subst, ◌∙◌}
use Rattle.grid_model.specs.Roots.{WholeRoot}
use Rattle.grid_model.proofs.Boxes.{one-value}
use Rattle.file_images.specs.Kept.{ShutHeader, LooseHeader, Kept, used}
use Rattle.file_images.specs.Leads.{Standing}
use Rattle.file_images.specs.Steps.{with_turned, with_closed, with_tried, with_root, with_loose}
use Rattle.file_sections.specs.Sections.{IsIdleHalf, IsNextNumber, AwaitsNumber}
use Rattle.file_books.specs.Books.{Books}
use Rattle.file_books.specs.Effects.{used_of, idle_half, closed_books, rooted_books, cleaned_books}
use Rattle.file_standing.specs.Files.{AgreeWith, IsFile, InSession}
use Rattle.file_standing.specs.Steps.{swept_kept, turned_kept, cleaned_kept, IsNextRoot}
use Rattle.file_standing.proofs.Books.{idle-half-apart}
use Rattle.file_standing.proofs.Moving.{only-root}
use Rattle.file_standing.proofs.PageSteps.{page-steps}
use Rattle.file_standing.proofs.RootSteps.{closed-file, turned-file, tried-file, rooted-file, loose-file, cleaned-file, cleaned_at, cleaned_with, cleaned-form}
use Rattle.checkpoints.specs.Checkpoints.{trying_books, standing_books, checkpointed_books}

-- the next root of books is that of those in which other roots and another half are counted
pub same-next : (b c : Books) (w : WholeRoot) → b.number ≡ c.number → b.session ≡ c.session → b.front ≡ c.front → b.records ≡ c.records → b.scales ≡ c.scales → b.shape ≡ c.shape → b.pages ≡ c.pages → IsNextRoot b w → IsNextRoot c w
same-next b c w number session front records scales shape pages next =
    subst (λ (x : Books). IsNextRoot x w) (λ i. record c {
      number = number i;
      session = session i;
      front = front i;
      records = records i;
      scales = scales i;
      shape = shape i;
      pages = pages i;
    })
    (record {
      number = next.number;
      session = next.session;
      front = next.front;
      records = next.records;
      scales = next.scales;
      numbers = next.numbers;
      buckets = next.buckets;
      count = next.count;
      directory = next.directory;
    })

-- where books and what is kept agree, they count the same slots
pub used-agrees : {K : ℕ} (b : Books) (k : Kept K) (h : ℕ) → AgreeWith b k → used k h ≡ used_of b h
used-agrees b k zero agree = agree.first
used-agrees b k (suc h) agree = agree.second

-- a header page that is closed stays so where the halves' roles are exchanged
turned-shut : {K : ℕ} (b : Books) (k : Kept K) → k.other ≡ ShutHeader → (turned_kept b k).other ≡ ShutHeader
turned-shut b k shut = by (used_of b (idle_half b) == 0)
  where
    by : (t : Bool) → (cond t (with_turned k) k).other ≡ ShutHeader
    by true = shut
    by false = shut

-- and the root stays
pub turned-root : {K : ℕ} (b : Books) (k : Kept K) → (turned_kept b k).root ≡ k.root
turned-root b k = by (used_of b (idle_half b) == 0)
  where
    by : (t : Bool) → (cond t (with_turned k) k).root ≡ k.root
    by true = refl
    by false = refl

-- the root is the only one that may be the newest, and of the session
pub rooted-session : {K : ℕ} (b : Books) (k : Kept K) → k.other ≡ LooseHeader None → k.root.fields.session ≡ b.session → InSession b k
rooted-session b k loose session w may = ap (λ (r : WholeRoot). r.fields.session) (only-root k w loose may) ∙ session

-- also once the half that is not current is clear
pub cleaned-session : {K : ℕ} (b : Books) (k : Kept K) (m : Standing K) → k.other ≡ LooseHeader None → k.root.fields.session ≡ b.session → InSession (cleaned_books b) (cleaned_kept b k)
cleaned-session b k m loose session = subst (λ (c : Books). InSession c (cleaned_kept b k)) (sym (cleaned-form b k m)) (by (used_of b b.half == b.shape.slots))
  where
    by : (t : Bool) → InSession (cleaned_at b k m t) (cleaned_with b k m t)
    by true = rooted-session (cleaned_at b k m true) (cleaned_with b k m true) loose session
    by false = rooted-session (cleaned_at b k m false) (cleaned_with b k m false) loose session

-- what is kept while the next root is written, once it stands, once pages are freed, and once the half is clear
abbrev pub trying_kept : {K : ℕ} → Books → Kept K → Kept K
trying_kept b k = turned_kept (closed_books b) (with_closed k)

abbrev pub rooted_kept : {K : ℕ} → Books → Kept K → WholeRoot → Kept K
rooted_kept b k w = with_root (trying_kept b k) w

abbrev pub standing_kept : {K : ℕ} → Books → Kept K → WholeRoot → Kept K
standing_kept b k w = swept_kept (rooted_books (trying_books b)) (rooted_kept b k w)

abbrev pub checkpointed_kept : {K : ℕ} → Books → Kept K → WholeRoot → Kept K
checkpointed_kept b k w = cleaned_kept (standing_books b) (standing_kept b k w)

module _ {K : ℕ} (b : Books) (k : Kept K) (m : Standing K) (is : IsFile b k m) where
  pub next-number : IsNextNumber k b.shape (b.number + 1)
  next-number = record { shape = is.agree.shape; number_is = ap (λ (n : ℕ). n + 1) is.agree.number }

  trying-shut : (trying_kept b k).other ≡ ShutHeader
  trying-shut = turned-shut (closed_books b) (with_closed k) refl

  pub trying-point : IsFile (trying_books b) (trying_kept b k) m
  trying-point = turned-file (closed_books b) (with_closed k) m (used_of (closed_books b) (idle_half (closed_books b)) == 0) refl (closed-file b k m is)

  pub trying-awaits : AwaitsNumber (trying_kept b k) b.shape (b.number + 1)
  trying-awaits = record {
    next = record { shape = trying-point.agree.shape; number_is = ap (λ (n : ℕ). n + 1) trying-point.agree.number };
    shut = trying-shut;
  }

  module _ (w : WholeRoot) (next : IsNextRoot (closed_books b) w) where
    trying-next : IsNextRoot (trying_books b) w
    trying-next = same-next (closed_books b) (trying_books b) w refl refl refl refl refl refl refl next

    pub tried-point : IsFile (trying_books b) (with_tried (trying_kept b k) (Some w)) m
    tried-point = tried-file (trying_books b) (trying_kept b k) m w refl trying-next trying-point

    pub rooted-point : IsFile (rooted_books (trying_books b)) (rooted_kept b k w) m
    rooted-point = rooted-file (trying_books b) (trying_kept b k) m w refl trying-next trying-point

    pub standing-point : IsFile (standing_books b) (standing_kept b k w) m
    standing-point = page-steps.sweep (rooted_books (trying_books b)) (rooted_kept b k w) m rooted-point

    pub loose-point : IsFile (standing_books b) (with_loose (standing_kept b k w) (idle_half (standing_books b))) m
    loose-point = loose-file (standing_books b) (standing_kept b k w) m refl next.front next.session standing-point

    pub checkpointed-point : IsFile (checkpointed_books b) (checkpointed_kept b k w) m
    checkpointed-point = cleaned-file (standing_books b) (standing_kept b k w) m refl next.front standing-point

    pub standing-idle : IsIdleHalf (standing_kept b k w) (standing_books b).shape (idle_half (standing_books b)) (used_of (standing_books b) (idle_half (standing_books b)))
    standing-idle = record {
      shape = standing-point.agree.shape;
      apart = λ e. idle-half-apart (standing_books b) standing-point.agree.two (e ∙ standing-point.agree.half);
      used_is = used-agrees (standing_books b) (standing_kept b k w) (idle_half (standing_books b)) standing-point.agree;
    }

    -- the sessions
    pub tried-session : InSession b k → InSession (trying_books b) (with_tried (trying_kept b k) (Some w))
    tried-session session v may = elim may [
      | inl e ↦ session v (inl (e ∙ turned-root (closed_books b) (with_closed k)))
      | inr on ↦ ap (λ (r : WholeRoot). r.fields.session) (sym (one-value w v on)) ∙ next.session
    ]

    pub loose-session : InSession (standing_books b) (with_loose (standing_kept b k w) (idle_half (standing_books b)))
    loose-session = rooted-session (standing_books b) (with_loose (standing_kept b k w) (idle_half (standing_books b))) refl next.session

    pub checkpointed-session : InSession (checkpointed_books b) (checkpointed_kept b k w)
    checkpointed-session = cleaned-session (standing_books b) (standing_kept b k w) m refl next.session

    -- the other header page is loose, the root stands at the front, and none is tried
    pub checkpointed-loose : (checkpointed_kept b k w).other ≡ LooseHeader None
    checkpointed-loose = by (used_of (standing_books b) (standing_books b).half == (standing_books b).shape.slots)
      where
        by : (t : Bool) → (cleaned_with (standing_books b) (standing_kept b k w) m t).other ≡ LooseHeader None
        by true = refl
        by false = refl

    checkpointed-root : (checkpointed_kept b k w).root ≡ w
    checkpointed-root = by (used_of (standing_books b) (standing_books b).half == (standing_books b).shape.slots)
      where
        by : (t : Bool) → (cleaned_with (standing_books b) (standing_kept b k w) m t).root ≡ w
        by true = refl
        by false = refl

    pub checkpointed-front : (checkpointed_kept b k w).root.fields.front ≡ (checkpointed_books b).front
    checkpointed-front =
        ap (λ (v : WholeRoot). v.fields.front) checkpointed-root
        ∙ next.front
        ∙ sym (ap (λ (c : Books). c.front) (cleaned-form (standing_books b) (standing_kept b k w) m))

    pub checkpointed-quiet : (checkpointed_books b).trying_at ≡ None
    checkpointed-quiet = ap (λ (c : Books). c.trying_at) (cleaned-form (standing_books b) (standing_kept b k w) m)
