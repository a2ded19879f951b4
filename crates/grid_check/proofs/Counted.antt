-- Updates that are counted, one after the other.
use Rattle.std.proofs.Common.{flat_map, map, ◌≡◌, ◌<◌, take, ◌≤◌, ◌+◌, ◌++◌, ◌∙◌, ℕ, Bool, get_or, true, false, cond, true≢false, List, [], ◌∷◌, Option, Some, None, length, length-append, refl, sym, ap, subst, arith}
use Rattle.std.specs.Prelude.{IsSome, is_some, fold}
use Rattle.std.specs.Cmp.{tied_itself}
use Rattle.std.specs.Cmp.Lexicographic.{nat_list_cmp_total}
use Rattle.std.specs.FinMap.Entries.{length-put, length_without}
use Rattle.std.specs.Ordering.{eq_by_cmp, is_eq}
use Rattle.std.proofs.lemmas.List.Sums.{fold-append}
use Rattle.std.proofs.lemmas.List.Elements.{All-head, All-tail, All-cons, All-append}
use Rattle.std.proofs.lemmas.List.{take_more, append-nil}
use Rattle.std.proofs.lemmas.List.Concat.{flat_map-append}
use Rattle.std.proofs.lemmas.List.Folds.{flat_map-map, length-flat_map-take}
use Rattle.grid_types.specs.declared.layout_change.LoggedUpdate.{LoggedUpdate}
use Rattle.grid_types.specs.declared.key.Key.{Key}
use Rattle.grid_types.specs.declared.update.Record.{Record}
use Rattle.grid_types.specs.declared.update.Update.TheVariants.{Put, Remove}
use Rattle.grid_types.specs.Keys.{key_cmp}
use Rattle.grid_model.specs.Images.{logged_effect}
use Rattle.grid_model.specs.Notes.{updated_key}
use Rattle.grid_model.specs.Spellings.{LoggedBatch}
use Rattle.grid_model.specs.Tables.{Table, IsTable, get, with_data, without, effect}
use Rattle.grid_model.proofs.TableLaws.{effect-table, put-there, put-elsewhere, gone-there, gone-elsewhere}
use Rattle.journal_slots.specs.Batches.{batch_of}
use Rattle.journal_slots.specs.declared.batch.Batch.{Batch}
use Rattle.grid_check.specs.Marks.{Marks, mark_of, MarkTable, TurnsMark, HaveMarks, KeepsMarks, CountsRecords, with_one, without_one}
use Rattle.grid_check.proofs.Marking.{turn_keeps, turn_marks}

module _ {K : ℕ} where
  -- tables stay tables
  pub tables_after : (us : List (LoggedUpdate K)) (t : Table) → IsTable t → IsTable (fold logged_effect t us)
  tables_after [] t is = is
  tables_after (u ∷ us) t is = tables_after us (effect t u.update) (effect-table t u.update is)

  -- no update counts nothing
  pub counts_none : (m : Marks) (n : ℕ) → CountsRecords {K = K} [] m m n n
  counts_none m n = record {
    keeps = λ k some. some;
    most = omega arith;
    marked = λ t is marked have. marked;
    counted = λ t is marked have same. same;
  }

  have_first : (m : Marks) (us vs : List (LoggedUpdate K)) → HaveMarks m (us ++ vs) → HaveMarks m us
  have_first m [] vs have = λ i d lt. absurd (omega (arith, lt))
  have_first m (u ∷ us) vs have = All-cons (λ v. IsSome (mark_of m (updated_key v.update))) u us
      (All-head (λ v. IsSome (mark_of m (updated_key v.update))) u (us ++ vs) have)
      (have_first m us vs (All-tail (λ v. IsSome (mark_of m (updated_key v.update))) u (us ++ vs) have))

  have_rest : (m : Marks) (us vs : List (LoggedUpdate K)) → HaveMarks m (us ++ vs) → HaveMarks m vs
  have_rest m [] vs have = have
  have_rest m (u ∷ us) vs have = have_rest m us vs (All-tail (λ v. IsSome (mark_of m (updated_key v.update))) u (us ++ vs) have)

  -- and marks that are kept are had still
  pub have_kept : (old new : Marks) (us : List (LoggedUpdate K)) → KeepsMarks old new → HaveMarks old us → HaveMarks new us
  have_kept old new us keeps have = λ i d lt. keeps (updated_key (get_or us i d).update) (have i d lt)

  -- updates and then others
  pub counts_then : (us vs : List (LoggedUpdate K)) (a b c : Marks) (l m n : ℕ) → CountsRecords us a b l m → CountsRecords vs b c m n → CountsRecords (us ++ vs) a c l n
  counts_then us vs a b c l m n p q = record {
    keeps = λ k some. q.keeps k (p.keeps k some);
    most = omega (arith, p.most, q.most, length-append us vs);
    marked = λ t is marked have.
        subst (λ u. MarkTable u c) (sym (fold-append logged_effect t us vs))
        (q.marked (fold logged_effect t us) (tables_after us t is) (p.marked t is marked (have_first a us vs have)) (have_kept a b vs p.keeps (have_rest a us vs have)));
    counted = λ t is marked have same.
        q.counted (fold logged_effect t us) (tables_after us t is) (p.marked t is marked (have_first a us vs have)) (have_kept a b vs p.keeps (have_rest a us vs have)) (p.counted t is marked (have_first a us vs have) same)
        ∙ ap (λ (u : Table). length u) (sym (fold-append logged_effect t us vs));
  }

module _ {K : ℕ} (us : List (LoggedUpdate K)) (i : ℕ) (u : LoggedUpdate K) (lt : i < length us) (is : u ≡ get_or us i u) where
  more : take (i + 1) us ≡ take i us ++ u ∷ []
  more = take_more us i u lt ∙ ap (λ (v : LoggedUpdate K). take i us ++ v ∷ []) (sym is)

  -- one more update whose key has a mark
  pub have_step : (old new : Marks) → HaveMarks old (take i us) → KeepsMarks old new → IsSome (mark_of new (updated_key u.update)) → HaveMarks new (take (i + 1) us)
  have_step old new have keeps some =
      subst (HaveMarks new) (sym more)
      (All-append (λ v. IsSome (mark_of new (updated_key v.update))) (take i us) (u ∷ []) (have_kept old new (take i us) keeps have) (All-cons (λ v. IsSome (mark_of new (updated_key v.update))) u [] some (λ j d l. absurd (omega (arith, l)))))

  -- one more update that is counted
  pub counts_step : (a b c : Marks) (l m n : ℕ) → CountsRecords (take i us) a b l m → CountsRecords (u ∷ []) b c m n → CountsRecords (take (i + 1) us) a c l n
  counts_step a b c l m n p q = subst (λ (vs : List (LoggedUpdate K)). CountsRecords vs a c l n) (sym more) (counts_then (take i us) (u ∷ []) a b c l m n p q)

apart : (k m : List ℕ) → eq_by_cmp key_cmp k m ≡ false → k ≡ m → ⊥
apart k m e same = true≢false (sym (ap (λ x. is_eq x) (tied_itself nat_list_cmp_total k)) ∙ ap (λ x. eq_by_cmp key_cmp k x) same ∙ e)

at_most_one : (o : Option Bool) (n : ℕ) → with_one o n ≤ n + 1
at_most_one None n = omega arith
at_most_one (Some true) n = omega arith
at_most_one (Some false) n = omega arith

no_more : (o : Option Bool) (n : ℕ) → without_one o n ≤ n + 1
no_more None n = omega arith
no_more (Some true) n = omega arith
no_more (Some false) n = omega arith

module _ (key : List ℕ) (old new : Marks) (o : Option Bool) (o_is : o ≡ mark_of old key) (before : ℕ) where
  -- what a mark was says whether the table had the key
  was : (t : Table) → MarkTable t old → IsSome (mark_of old key) → o ≡ Some (is_some (get t key))
  was t marked some = o_is ∙ by (mark_of old key) refl some
    where
      by : (x : Option Bool) → mark_of old key ≡ x → IsSome x → x ≡ Some (is_some (get t key))
      by None e s = absurd (true≢false (sym s))
      by (Some b) e s = ap Some (marked key b e)

  -- data that is put
  pub put_counted : {K : ℕ} (u : LoggedUpdate K) (r : Record K) → u.update ≡ Put r → r.key.numbers ≡ key → TurnsMark key true old new
      → CountsRecords (u ∷ []) old new before (with_one o before)
  unfolding effect
  put_counted {K} u r is at turns = record {
    keeps = turn_keeps key old new true turns;
    most = at_most_one o before;
    marked = λ t table marked have.
        subst (λ x. MarkTable x new) (sym (makes t)) (turn_marks key old new true t (with_data t key r.value) turns (ap is_some (put-there t key r.value)) (λ k e. put-elsewhere t key r.value k (λ x. apart key k e (sym x))) marked);
    counted = λ t table marked have long.
        by (is_some (get t key)) (was t marked (subst (λ k. IsSome (mark_of old k)) about (All-head (λ v. IsSome (mark_of old (updated_key v.update))) u [] have)))
        ∙ ap (λ n. cond (is_some (get t key)) n (n + 1)) long ∙ sym (length-put key_cmp nat_list_cmp_total key r.value t table) ∙ ap (λ (x : Table). length x) (sym (makes t));
  }
    where
      about : updated_key u.update ≡ key
      about = ap updated_key is ∙ at

      makes : (t : Table) → effect t u.update ≡ with_data t key r.value
      makes t = ap (effect t) is ∙ ap (λ k. with_data t k r.value) at

      by : (b : Bool) → o ≡ Some b → with_one o before ≡ cond b before (before + 1)
      by true e = ap (λ x. with_one x before) e
      by false e = ap (λ x. with_one x before) e

  -- a key that is removed
  pub removal_counted : {K : ℕ} (u : LoggedUpdate K) (k : Key K) → u.update ≡ Remove k → k.numbers ≡ key → TurnsMark key false old new
      → CountsRecords (u ∷ []) old new before (without_one o before)
  unfolding effect
  removal_counted {K} u k is at turns = record {
    keeps = turn_keeps key old new false turns;
    most = no_more o before;
    marked = λ t table marked have.
        subst (λ x. MarkTable x new) (sym (makes t)) (turn_marks key old new false t (without t key) turns (ap is_some (gone-there t key)) (λ m e. gone-elsewhere t key m (apart key m e)) marked);
    counted = λ t table marked have long.
        by (is_some (get t key)) (was t marked (subst (λ m. IsSome (mark_of old m)) about (All-head (λ v. IsSome (mark_of old (updated_key v.update))) u [] have)))
        (length (without t key)) (length_without key_cmp nat_list_cmp_total key t table ∙ sym long) ∙ ap (λ (x : Table). length x) (sym (makes t));
  }
    where
      about : updated_key u.update ≡ key
      about = ap updated_key is ∙ at

      makes : (t : Table) → effect t u.update ≡ without t key
      makes t = ap (effect t) is ∙ ap (without t) at

      by : (b : Bool) → o ≡ Some b → (n : ℕ) → cond b 1 0 + n ≡ before → without_one o before ≡ n
      by true e n all = ap (λ x. without_one x before) e ∙ omega (arith, all)
      by false e n all = ap (λ x. without_one x before) e ∙ omega (arith, all)

-- the updates of batches in memory
abbrev pub updates_of : {K : ℕ} → List (Batch K) → List (LoggedUpdate K)
updates_of bs = flat_map (λ b. b.updates.items) bs

-- they are those of the model's batches
pub updates_alike : {K : ℕ} (bs : List (Batch K)) (taken : List (LoggedBatch K)) → map batch_of bs ≡ taken → updates_of bs ≡ flat_map (λ b. b.updates) taken
updates_alike {K} bs taken same = sym (flat_map-map (λ (b : LoggedBatch K). b.updates) batch_of bs) ∙ ap (flat_map (λ (b : LoggedBatch K). b.updates)) same

module _ {K : ℕ} (bs : List (Batch K)) (i : ℕ) (b : Batch K) (lt : i < length bs) (is : b ≡ get_or bs i b) where
  pub flat_more : updates_of (take (i + 1) bs) ≡ updates_of (take i bs) ++ b.updates.items
  flat_more =
      ap updates_of (take_more bs i b lt) ∙ flat_map-append (λ (c : Batch K). c.updates.items) (take i bs) (get_or bs i b ∷ [])
      ∙ ap (λ (us : List (LoggedUpdate K)). updates_of (take i bs) ++ us) (append-nil (get_or bs i b).updates.items ∙ ap (λ (c : Batch K). c.updates.items) (sym is))

  -- one more batch whose keys have marks
  pub batch_has : (old new : Marks) → HaveMarks old (updates_of (take i bs)) → KeepsMarks old new → HaveMarks new b.updates.items → HaveMarks new (updates_of (take (i + 1) bs))
  batch_has old new have keeps here =
      subst (HaveMarks new) (sym flat_more) (All-append (λ v. IsSome (mark_of new (updated_key v.update))) (updates_of (take i bs)) b.updates.items (have_kept old new (updates_of (take i bs)) keeps have) here)

  -- one more batch that is counted
  pub batch_counts : (x y z : Marks) (l m n : ℕ) → CountsRecords (updates_of (take i bs)) x y l m → CountsRecords b.updates.items y z m n → CountsRecords (updates_of (take (i + 1) bs)) x z l n
  batch_counts x y z l m n p q = subst (λ (us : List (LoggedUpdate K)). CountsRecords us x z l n) (sym flat_more) (counts_then (updates_of (take i bs)) b.updates.items x y z l m n p q)

  -- its updates are no more than all
  pub batch_fits : length (updates_of (take i bs)) + length b.updates.items ≤ length (updates_of bs)
  batch_fits = subst (λ (c : Batch K). length (updates_of (take i bs)) + length c.updates.items ≤ length (updates_of bs)) (sym is) (length-flat_map-take (λ (c : Batch K). c.updates.items) bs i b lt)
