-- Entries in memory, put in, taken out and changed one after the other, are tables.
use Rattle.std.proofs.Common.{◌≡◌, ◌<◌, ◌+◌, ◌++◌, ◌∙◌, ◌&&◌, ℕ, Bool, true, false, cond, not, T, List, [], ◌∷◌, length, take, get_or, refl, sym, ap, subst}
use Rattle.std.specs.Prelude.{fold}
use Rattle.std.specs.BTreeMap.{insert_entry, is_at}
use Rattle.std.specs.Map.{remove_entry}
use Rattle.std.specs.FinMap.Entries.{below_all, is_sorted, by_order}
use Rattle.std.specs.Ordering.{eq_by_cmp, is_eq, is_lt, match_ordering}
use Rattle.std.specs.declared.cmp.Ordering.{Ordering}
use Rattle.std.specs.declared.cmp.Ordering.TheVariants.{Less, Equal, Greater}
use Rattle.std.proofs.lemmas.List.{take_more}
use Rattle.std.proofs.lemmas.List.Sums.{fold-append}
use Rattle.grid_types.specs.declared.layout_change.LoggedUpdate.{LoggedUpdate}
use Rattle.grid_types.specs.declared.key.Key.{Key}
use Rattle.grid_types.specs.declared.update.Record.{Record}
use Rattle.grid_types.specs.declared.update.Update.TheVariants.{Put, Remove}
use Rattle.grid_types.specs.Keys.{key_cmp}
use Rattle.grid_model.specs.Images.{logged_effect}
use Rattle.grid_model.specs.Tables.{Table, IsTable, with_data, without, effect}
use Rattle.journal_slots.specs.declared.batch.Batch.{Batch}
use Rattle.grid_check.proofs.Counted.{updates_of, flat_more}
use Rattle.grid_check.proofs.Marking.{same_key}

-- an entry that is inserted is put
pub insert_is_put : (k d : List ℕ) (es : Table) → insert_entry key_cmp es k d ≡ with_data es k d
insert_is_put k d [] = refl
insert_is_put k d (e ∷ es) = by (key_cmp k e.0) (insert_is_put k d es)
  where
    by : (o : Ordering) → insert_entry key_cmp es k d ≡ with_data es k d → match_ordering o ((k, d) ∷ e ∷ es) ((e.0, d) ∷ es) (e ∷ insert_entry key_cmp es k d) ≡ by_order o ((k, d) ∷ e ∷ es) ((e.0, d) ∷ es) (e ∷ with_data es k d)
    by Less rest = refl
    by Equal rest = refl
    by Greater rest = ap (λ (x : Table). e ∷ x) rest

first : (a b : Bool) → T (a && b) → T a
first true b h = tt
first false b h = h

second : (a b : Bool) → T (a && b) → T b
second true b h = h
second false b h = absurd h

-- no entry behind a key has it
all_behind : (k : List ℕ) (es : Table) → T (below_all key_cmp k es) → without es k ≡ es
all_behind k [] h = refl
all_behind k (e ∷ es) h = by (key_cmp k e.0) (first (is_lt (key_cmp k e.0)) (below_all key_cmp k es) h) (all_behind k es (second (is_lt (key_cmp k e.0)) (below_all key_cmp k es) h))
  where
    by : (o : Ordering) → T (is_lt o) → without es k ≡ es → cond (not (is_eq o)) (e ∷ without es k) (without es k) ≡ e ∷ es
    by Less h rest = ap (λ (x : Table). e ∷ x) rest
    by Equal h rest = absurd h
    by Greater h rest = absurd h

-- an entry that is removed from a table is no more in it
pub remove_is_without : (k : List ℕ) (es : Table) → IsTable es → remove_entry (is_at (key_cmp k)) es ≡ without es k
remove_is_without k [] h = refl
remove_is_without k (e ∷ es) h = by (eq_by_cmp key_cmp k e.0) refl (remove_is_without k es (second (below_all key_cmp e.0 es) (is_sorted key_cmp es) h))
  where
    by : (b : Bool) → eq_by_cmp key_cmp k e.0 ≡ b → remove_entry (is_at (key_cmp k)) es ≡ without es k → cond b es (e ∷ remove_entry (is_at (key_cmp k)) es) ≡ cond (not b) (e ∷ without es k) (without es k)
    by true is rest = sym (all_behind k es (subst (λ m. T (below_all key_cmp m es)) (sym (same_key k e.0 is)) (first (below_all key_cmp e.0 es) (is_sorted key_cmp es) h)))
    by false is rest = ap (λ (x : Table). e ∷ x) rest

module _ {K : ℕ} (u : LoggedUpdate K) (t new : Table) where
  -- a put, made in a table
  pub put_redone : (r : Record K) → u.update ≡ Put r → new ≡ insert_entry key_cmp t r.key.numbers r.value → new ≡ logged_effect t u
  unfolding effect
  put_redone r is at = at ∙ insert_is_put r.key.numbers r.value t ∙ ap (effect t) (sym is)

  -- and a removal
  pub removal_redone : (k : Key K) → u.update ≡ Remove k → IsTable t → new ≡ remove_entry (is_at (key_cmp k.numbers)) t → new ≡ logged_effect t u
  unfolding effect
  removal_redone k is table at = at ∙ remove_is_without k.numbers t table ∙ ap (effect t) (sym is)

-- one item more
pub fold_more : {X A : Type 0} (f : A → X → A) (xs : List X) (i : ℕ) (x : X) → i < length xs → x ≡ get_or xs i x → (a mid new : A) → mid ≡ fold f a (take i xs) → new ≡ f mid x → new ≡ fold f a (take (i + 1) xs)
fold_more f xs i x lt is a mid new before step =
    step ∙ ap (λ m. f m x) before ∙ sym (fold-append f a (take i xs) (x ∷ [])) ∙ ap (λ y. fold f a (take i xs ++ y ∷ [])) is ∙ ap (fold f a) (sym (take_more xs i x lt))

-- one batch more
pub batch_more : {K : ℕ} (bs : List (Batch K)) (i : ℕ) (b : Batch K) → i < length bs → b ≡ get_or bs i b → (t mid new : Table) → mid ≡ fold logged_effect t (updates_of (take i bs)) → new ≡ fold logged_effect mid b.updates.items → new ≡ fold logged_effect t (updates_of (take (i + 1) bs))
batch_more bs i b lt is t mid new before step =
    step ∙ ap (λ m. fold logged_effect m b.updates.items) before ∙ sym (fold-append logged_effect t (updates_of (take i bs)) b.updates.items) ∙ ap (fold logged_effect t) (sym (flat_more bs i b lt is))
