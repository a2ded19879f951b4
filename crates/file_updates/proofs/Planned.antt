-- Plans of updates whose buckets were found: over a layout and a table, and whatever the pages say.
use Rattle.std.specs.Prelude.{⊤, ◌≤◌, Result, Ok, Err, IfErr, slice_index_or}
use Rattle.std.specs.Option.{option_map_or}
use Rattle.std.proofs.Common.{◌≡◌, ◌≢◌, ◌<◌, ◌^◌, ◌&&◌, ◌⊎◌, inl, inr, ℕ, zero, suc, Bool, true, false, List, [], ◌∷◌, length, map, Option, Some, None, is_some, IsSome, IfSome, IsTrue, Contains, refl, sym, ap, ◌∙◌, subst, true≢false, arith}
use Rattle.grid_types.specs.declared.key.Key.{Key}
use Rattle.grid_types.specs.declared.layout_change.Cut.{Cut}
use Rattle.grid_types.specs.declared.layout_change.LayoutChange.{LayoutChange}
use Rattle.grid_types.specs.declared.layout_change.LayoutChange.TheVariants as note
use Rattle.grid_types.specs.declared.owner.Owner.{Owner}
use Rattle.grid_types.specs.declared.owner.Owner.TheVariants.{Bucket}
use Rattle.grid_types.specs.declared.refusal.Refusal.{Refusal}
use Rattle.grid_types.specs.declared.refusal.Refusal.TheVariants.{ReadFault}
use Rattle.grid_types.specs.declared.shape.Shape.{Shape}
use Rattle.grid_types.specs.declared.update.Record.{Record}
use Rattle.grid_types.specs.declared.update.Update.{Update}
use Rattle.grid_types.specs.declared.update.Update.TheVariants.{Put, Remove}
use Rattle.disk_trait.specs.Causes.{Rose}
use Rattle.grid_model.specs.Lawful.{StandsWith}
use Rattle.grid_model.specs.Layouts.{BucketBox, Layout, box, holder}
use Rattle.grid_model.specs.Neighbours.{can_join, partners}
use Rattle.grid_model.specs.Notes.{merges, merges_at, put_note, IsLawfulNote}
use Rattle.grid_model.specs.Tables.{Table, get, without}
use Rattle.grid_model.proofs.Boxes.{one-value, some-not-none}
use Rattle.grid_model.proofs.Merged.{lawful-merge}
use Rattle.grid_model.proofs.Partners.{each-merge}
use Rattle.history_pages.specs.OwnerPages.{owner_page}
use Rattle.history_pages.specs.PageLaws.{IsChange}
use Rattle.history_pages.proofs.Spelled.{bucket-spelled}
use Rattle.change_plans.specs.Plans.{IsPageBeside}
use Rattle.query_paths.specs.Pinned.{Place, IsReadIfThere}
use Rattle.query_paths.specs.Paths.{IsGetRefusal}
use Rattle.file_books.specs.Books.{Books, has_page}
use Rattle.file_books.specs.Effects.{HasOther}
use Rattle.file_state.specs.Unused.{IsLeastUnused}
use Rattle.update_plans.specs.declared.plan.Plan.{Plan}
use Rattle.update_plans.specs.Plans.{in_buffers, IsPlanOf, IsSoundPlan}
use Rattle.update_plans.specs.Putting.{IsPutNote}
use Rattle.file_updates.specs.Plans.{IsPlannedAs}
use Rattle.file_updates.specs.Ready.{IsReadyPlan}

-- a note that makes no second bucket
abbrev MakesOne : LayoutChange → Type 0
MakesOne note.Plain = ⊤
MakesOne (note.Cut c right) = ⊥
MakesOne (note.Merge m) = ⊤

module _ {K : ℕ} (shape : Shape) (L : Layout K) (t : Table) (u : Update K) (e : ℕ × BucketBox K) (first one other : List ℕ) where
  same_buffers : (b : ℕ) (n m : LayoutChange) → n ≡ m → MakesOne m → in_buffers b n first other ≡ in_buffers b n first one
  same_buffers b n note.Plain is makes = ap (λ x. in_buffers b x first other) is ∙ sym (ap (λ x. in_buffers b x first one) is)
  same_buffers b n (note.Cut c right) is makes = absurd makes
  same_buffers b n (note.Merge m) is makes = ap (λ x. in_buffers b x first other) is ∙ sym (ap (λ x. in_buffers b x first one) is)

  -- what stands in the second buffer is nothing to it
  pub other_buffer : (p : Plan K) (m : LayoutChange) → p.note ≡ m → MakesOne m → IsPlanOf shape L t u e first one p → IsPlanOf shape L t u e first other p
  other_buffer p m is makes of = record {
    change = of.change;
    bucket = of.bucket;
    directory = of.directory;
    need = of.need;
    pages = of.pages;
    old = of.old;
    buffers = same_buffers p.bucket p.note m is makes ∙ of.buffers;
  }

  pub other_buffer_if : (o : Option (Plan K)) (m : LayoutChange) → MakesOne m → IfSome o (λ p. p.note ≡ m) → IfSome o (IsPlanOf shape L t u e first one) → IfSome o (IsPlanOf shape L t u e first other)
  other_buffer_if None m makes is of = of
  other_buffer_if (Some p) m makes is of = other_buffer p m is makes of

  -- a plan that there is, with its note
  pub planned_as : (o : Option (Plan K)) (m : LayoutChange) → is_some o ≡ true → IfSome o (λ p. p.note ≡ m) → IfSome o (IsPlanOf shape L t u e first one) → IsPlannedAs shape L t u e m first one o
  planned_as None m there is of = absurd (true≢false (sym there))
  planned_as (Some p) m there is of = record { plan = p; there = refl; is = of; noted = is }

  -- and one that was compared with a note
  pub planned_noted : (o result : Option (Plan K)) (m : LayoutChange) → MakesOne m → is_some o ≡ true → IfSome o (λ p. p.note ≡ m) → IfSome o (IsPlanOf shape L t u e first one) → ((p : Plan K) → o ≡ Some p → p.note ≡ m → result ≡ Some p)
      → IsPlannedAs shape L t u e m first other result
  planned_noted None result m makes there is of same = absurd (true≢false (sym there))
  planned_noted (Some p) result m makes there is of same = record { plan = p; there = same p refl is; is = other_buffer p m is makes of; noted = is }

module _ {K : ℕ} (shape : Shape) (L : Layout K) (t : Table) (k : Key K) (e : ℕ × BucketBox K) (m : ℕ) (change : IsChange shape L t (Remove k) (note.Merge m) e) where
  -- a merge that a removal may take is with another box
  pub merges_two : (c : BucketBox K) × (box L m ≡ Some c) × (e.0 ≢ m)
  merges_two = let two = lawful-merge shape L t (Remove k) m e.0 e.1 change.stands change.lawful change.holds in (two.0, two.1, two.2)

  -- the key is there, and the two boxes can be joined
  pub merge_joins : (c : BucketBox K) → box L m ≡ Some c → (is_some (get t k.numbers) && can_join shape (without t k.numbers) e.1.region c.region) ≡ true
  merge_joins c there = by change.lawful
    where
      by : IsSome (get t k.numbers) × ((note.Merge m ≡ note.Plain) ⊎ Contains (merges shape L t k.numbers) (note.Merge m)) → (is_some (get t k.numbers) && can_join shape (without t k.numbers) e.1.region c.region) ≡ true
      by (has, inl same) = absurd (cc)
      by (has, inr among) =
          let w = each-merge shape L t k.numbers m change.stands.sound.numbered among in
          let here : (w.number, w.here) ≡ e = one-value (w.number, w.here) e (sym w.holds ∙ change.holds) in
          let beside : w.other ≡ c = one-value w.other c (sym w.beside ∙ there) in
          let fits : can_join shape (without t k.numbers) w.here.region w.other.region ≡ true = λ i. w.make i && w.fit i in
          ap (λ (s : Bool). s && can_join shape (without t k.numbers) e.1.region c.region) has
          ∙ sym (λ i. can_join shape (without t k.numbers) (here i).1.region (beside i).region) ∙ fits

  -- its page is that of another box
  pub beside_read : (c : BucketBox K) (bytes : List ℕ) → box L m ≡ Some c → e.0 ≢ m → owner_page L t (Bucket m) ≡ Some bytes → IsPageBeside shape L t e (m, c) bytes
  beside_read c bytes there differ page = record { there = there; differ = differ; spelled = bucket-spelled shape L t m c bytes change.stands there page }

  -- the key is there
  pub key_there : is_some (get t k.numbers) ≡ true
  key_there = change.lawful.0

-- where a plan was kept, what is so of it is so of what it was
pub noted_of : {K : ℕ} (o result : Option (Plan K)) (P : Plan K → Type 0) → IfSome result (λ p. o ≡ Some p) → IfSome o P → IfSome result P
noted_of {K = K} o None P from is = _
noted_of {K = K} o (Some p) P from is = subst (λ (x : Option (Plan K)). IfSome x P) from is

module _ {K : ℕ} (b : Books) (u : Update K) where
  -- a sound plan of a bucket that has a page, whose other one is as its note asks, is ready
  pub ready_by : (p : Plan K) (n : ℕ) (m : LayoutChange) → IsSoundPlan b.shape b.scales u p → p.bucket ≡ n → p.note ≡ m → IsTrue (has_page b (Bucket n)) → HasOther b n m → IsReadyPlan b u p
  ready_by p n m sound bucket noted there other = record {
    sound = sound;
    bucket = ap (λ (x : ℕ). has_page b (Bucket x)) bucket ∙ there;
    other = subst (λ (z : ℕ × LayoutChange). HasOther b z.0 z.1) (λ i. (sym bucket i, sym noted i)) other;
  }

  pub ready_if : (o : Option (Plan K)) (n : ℕ) (m : LayoutChange) → IfSome o (IsSoundPlan b.shape b.scales u) → IfSome o (λ p. p.bucket ≡ n) → IfSome o (λ p. p.note ≡ m) → IsTrue (has_page b (Bucket n)) → HasOther b n m → IfSome o (IsReadyPlan b u)
  ready_if None n m sound bucket noted there other = _
  ready_if (Some p) n m sound bucket noted there other = ready_by p n m sound bucket noted there other

-- a plan of a put whose note is the logged one
module _ {K : ℕ} (shape : Shape) (L : Layout K) (t : Table) (u : Update K) (r : Record K) (e : ℕ × BucketBox K) (n : LayoutChange) (is : u ≡ Put r) (lawful : IsLawfulNote shape L t u n) where
  put_lawful : put_note shape L t r.key.numbers ≡ Some n
  put_lawful = subst (λ (x : Update K). IsLawfulNote shape L t x n) is lawful

  pub put_planned : (first second : List ℕ) (p : Plan K) (result : Option (Plan K)) → IsPlanOf shape L t (Put r) e first second p → put_note shape L t r.key.numbers ≡ Some p.note → ((q : Plan K) → Some p ≡ Some q → q.note ≡ n → result ≡ Some q)
      → IsPlannedAs shape L t u e n first second result
  put_planned first second p result of noted same =
      let one : p.note ≡ n = one-value p.note n (sym noted ∙ put_lawful) in
      record { plan = p; there = same p refl one; is = subst (λ (x : Update K). IsPlanOf shape L t x e first second p) (sym is) of; noted = one }

  pub put_refused : {A : Type 0} → put_note shape L t r.key.numbers ≡ None → A
  put_refused none = absurd (some-not-none n (sym put_lawful ∙ none))

-- merges are no cut
listed_uncut : {A : Type 0} (ms : List ℕ) (c : Cut) (right i : ℕ) → i < length (map note.Merge ms) → slice_index_or (map note.Merge ms) i (note.Cut c right) ≡ note.Cut c right → A
listed_uncut [] c right i low is = absurd (omega (arith, low))
listed_uncut (m ∷ ms) c right zero low is = absurd (cc)
listed_uncut (m ∷ ms) c right (suc i) low is = listed_uncut ms c right i (omega (arith, low)) is

merges_uncut : {K : ℕ} {A : Type 0} (shape : Shape) (L : Layout K) (t : Table) (k : List ℕ) (c : Cut) (right : ℕ) → Contains (merges shape L t k) (note.Cut c right) → A
unfolding merges
merges_uncut {K = K} {A = A} shape L t k c right among = held (holder L k) among
  where
    held : (o : Option (ℕ × BucketBox K)) → Contains (option_map_or (λ x. merges_at shape L t k x.1) o []) (note.Cut c right) → A
    held None q = absurd (omega (arith, q.1))
    held (Some x) q = listed_uncut (partners shape L (without t k) x.1.region) c right q.0 q.1 q.2

-- a removal takes no cut
pub removal_uncut : {K : ℕ} {A : Type 0} (shape : Shape) (L : Layout K) (t : Table) (k : Key K) (c : Cut) (right : ℕ) → IsLawfulNote shape L t (Remove k) (note.Cut c right) → A
removal_uncut shape L t k c right (there, inl same) = absurd (cc)
removal_uncut shape L t k c right (there, inr among) = merges_uncut shape L t k.numbers c right among

-- a page that was read for an owner that has one
pub page_read : {E : Type 0} (pages : Option (Owner → Option (List ℕ))) (stands : Owner → ℕ) (o : Owner) (bytes : List ℕ) (r : Result (Option ℕ) E) (x : Option ℕ) (at : ℕ) (told : Owner → Option (List ℕ)) → r ≡ Ok x → x ≡ Some at → IsReadIfThere pages stands o bytes r → pages ≡ Some told → told o ≡ Some bytes
page_read pages stands o bytes r x at told ok is read given = (subst (IsReadIfThere pages stands o bytes) (ok ∙ ap Ok is) read).given told given

-- what is so wherever there is an error is so where there is one
pub err_gives : {T E : Type 0} (A : Type 0) (r : Result T E) (x : E) → r ≡ Err x → IfErr r (λ why. A) → A
err_gives A r x is gives = subst (λ y. IfErr y (λ why. A)) is gives

-- a failed reading later on is one of the whole
pub read_refusal : {T : Type 0} (K : ℕ) (p : Place) (before mid now : ℕ) (key bytes : List ℕ) (r : Result T Refusal) → before ≤ mid → IfErr r (λ e. e ≡ ReadFault) → IfErr r (λ e. Rose mid now) → IfErr r (IsGetRefusal K p before now key bytes)
read_refusal K p before mid now key bytes (Ok x) low is rose = _
read_refusal K p before mid now key bytes (Err e) low is rose = subst (IsGetRefusal K p before now key bytes) (sym is) (omega (arith, low, rose))

-- the right part of a put's cut has a number that is unused
pub put_other : (K : ℕ) (b : Books) (bucket n : ℕ) (m : LayoutChange) → IsLeastUnused b n → IsPutNote K n m → HasOther b bucket m
put_other K b bucket n note.Plain least is = _
put_other K b bucket n (note.Cut c right) least is = subst (λ (x : ℕ). (x < b.shape.pages) × (has_page b (Bucket x) ≡ false)) (sym is.2) (least.within, least.unused)
put_other K b bucket n (note.Merge m) least is = absurd is

-- and its note stands with the put
pub put_fits : {K : ℕ} (r : Record K) (n : ℕ) (m : LayoutChange) → n < 2 ^ 32 → IsPutNote K n m → StandsWith (Put r) m
put_fits r n note.Plain small is = _
put_fits r n (note.Cut c right) small is = (is.0, is.1, omega (arith, small, is.2))
put_fits r n (note.Merge m) small is = absurd is
