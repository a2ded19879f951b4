-- Marks on keys, set one after the other.
use Rattle.std.proofs.Common.{◌≡◌, ◌<◌, ◌+◌, take, length, get_or, ◌||◌, ◌++◌, ◌∙◌, ℕ, Bool, true, false, cond, true≢false, List, [], ◌∷◌, Option, Some, None, refl, sym, ap, subst}
use Rattle.std.specs.Prelude.{IsSome, is_some, unwrap_or}
use Rattle.std.specs.Option.{option_map}
use Rattle.std.specs.Ordering.{eq_by_cmp}
use Rattle.std.proofs.lemmas.List.Folds.{list_any-append}
use Rattle.std.proofs.lemmas.List.{take_more, map-append}
use Rattle.grid_types.specs.declared.update.Record.{Record}
use Rattle.grid_types.specs.Keys.{key_cmp}
use Rattle.grid_model.specs.Tables.{Table, get}
use Rattle.grid_model.proofs.TableLaws.{one_key, equal_order}
use Rattle.grid_check.specs.Marks.{Marks, mark_of, is_key_among, keys_in, TurnsMark, MarksKeys, MarkTable, NoneMarked, KeepsMarks}

pub same_key : (k m : List ℕ) → eq_by_cmp key_cmp k m ≡ true → k ≡ m
same_key k m e = one_key k m (equal_order (key_cmp k m) e)

nothing_there : (b : Bool) → None ≡ Some b → ⊥
nothing_there b e = true≢false (sym (ap is_some e))

one_there : (a b : Bool) → Some a ≡ Some b → a ≡ b
one_there a b e = ap (λ o. unwrap_or o a) e

or_none : (b : Bool) → (b || false) ≡ b
or_none true = refl
or_none false = refl

or_all : (b : Bool) → (b || true) ≡ true
or_all true = refl
or_all false = refl

or_both : (a b c : Bool) → ((a || b) || c) ≡ (a || (b || c))
or_both true b c = refl
or_both false b c = refl

-- no key marks nothing
pub marks_none : (m : Marks) → MarksKeys [] m m
marks_none m k = by (mark_of m k)
  where
    by : (o : Option Bool) → o ≡ option_map (λ b. b || false) o
    by None = refl
    by (Some b) = ap Some (sym (or_none b))

-- keys and then others
pub marks_then : (xs ys : List (List ℕ)) (a b c : Marks) → MarksKeys xs a b → MarksKeys ys b c → MarksKeys (xs ++ ys) a c
marks_then xs ys a b c p q k = q k ∙ ap (option_map (λ t. t || is_key_among ys k)) (p k) ∙ by (mark_of a k)
  where
    by : (o : Option Bool) → option_map (λ t. t || is_key_among ys k) (option_map (λ t. t || is_key_among xs k) o) ≡ option_map (λ t. t || is_key_among (xs ++ ys) k) o
    by None = refl
    by (Some t) = ap Some (or_both t (is_key_among xs k) (is_key_among ys k) ∙ ap (λ x. t || x) (sym (list_any-append (λ m. eq_by_cmp key_cmp m k) xs ys)))

-- a key without a mark gets none
pub turn_none : (key : List ℕ) (there : Bool) (m : Marks) → mark_of m key ≡ None → TurnsMark key there m m
turn_none key there m none k = by (eq_by_cmp key_cmp key k) refl
  where
    by : (t : Bool) → eq_by_cmp key_cmp key k ≡ t → mark_of m k ≡ cond t (option_map (λ b. there) (mark_of m key)) (mark_of m k)
    by true e = ap (mark_of m) (sym (same_key key k e)) ∙ none ∙ ap (option_map (λ b. there)) (sym none)
    by false e = refl

module _ (key : List ℕ) (old new : Marks) where
  -- one key is marked
  pub marks_one : TurnsMark key true old new → MarksKeys (key ∷ []) old new
  marks_one turns k = turns k ∙ by (eq_by_cmp key_cmp key k) refl
    where
      all : (o : Option Bool) → option_map (λ b. true) o ≡ option_map (λ b. b || true) o
      all None = refl
      all (Some b) = ap Some (sym (or_all b))

      none : (o : Option Bool) → o ≡ option_map (λ b. b || false) o
      none None = refl
      none (Some b) = ap Some (sym (or_none b))

      by : (t : Bool) → eq_by_cmp key_cmp key k ≡ t → cond t (option_map (λ b. true) (mark_of old key)) (mark_of old k) ≡ option_map (λ b. b || (t || false)) (mark_of old k)
      by true e = ap (λ m. option_map (λ b. true) (mark_of old m)) (same_key key k e) ∙ all (mark_of old k)
      by false e = none (mark_of old k)

  -- a mark that is set leaves each key its mark
  pub turn_keeps : (there : Bool) → TurnsMark key there old new → KeepsMarks old new
  turn_keeps there turns k some = subst IsSome (sym (turns k)) (by (eq_by_cmp key_cmp key k) refl)
    where
      mapped : (o : Option Bool) → IsSome o → IsSome (option_map (λ b. there) o)
      mapped None s = s
      mapped (Some b) s = refl

      by : (t : Bool) → eq_by_cmp key_cmp key k ≡ t → IsSome (cond t (option_map (λ b. there) (mark_of old key)) (mark_of old k))
      by true e = mapped (mark_of old key) (subst (λ m. IsSome (mark_of old m)) (sym (same_key key k e)) some)
      by false e = some

  -- and says what a table has that was changed at the key alone
  pub turn_marks : (there : Bool) (t u : Table) → TurnsMark key there old new → is_some (get u key) ≡ there → ((k : List ℕ) → eq_by_cmp key_cmp key k ≡ false → get u k ≡ get t k) → MarkTable t old → MarkTable u new
  turn_marks there t u turns here elsewhere marked k b is = by (eq_by_cmp key_cmp key k) refl (sym (turns k) ∙ is)
    where
      set : (o : Option Bool) → option_map (λ b. there) o ≡ Some b → b ≡ there
      set None e = absurd (nothing_there b e)
      set (Some x) e = sym (one_there there b e)

      by : (d : Bool) → eq_by_cmp key_cmp key k ≡ d → cond d (option_map (λ b. there) (mark_of old key)) (mark_of old k) ≡ Some b → b ≡ is_some (get u k)
      by true e i = set (mark_of old key) i ∙ sym here ∙ ap (λ m. is_some (get u m)) (same_key key k e)
      by false e i = marked k b i ∙ ap is_some (sym (elsewhere k e))

-- marks that say nothing, and then mark the keys that a table has, say what it has
pub marks_say : (keys : List (List ℕ)) (old new : Marks) (t : Table) → NoneMarked old → MarksKeys keys old new → ((k : List ℕ) → is_some (get t k) ≡ is_key_among keys k) → MarkTable t new
marks_say keys old new t none marks same k b is = by (mark_of old k) refl (sym (marks k) ∙ is) ∙ sym (same k)
  where
    by : (o : Option Bool) → mark_of old k ≡ o → option_map (λ t. t || is_key_among keys k) o ≡ Some b → b ≡ is_key_among keys k
    by None e i = absurd (nothing_there b i)
    by (Some x) e i = sym (one_there (x || is_key_among keys k) b i) ∙ ap (λ y. y || is_key_among keys k) (none k x e)

-- keys that are marked leave each key its mark
pub marks_keep : (keys : List (List ℕ)) (old new : Marks) → MarksKeys keys old new → KeepsMarks old new
marks_keep keys old new marks k some = subst IsSome (sym (marks k)) (by (mark_of old k) some)
  where
    by : (o : Option Bool) → IsSome o → IsSome (option_map (λ t. t || is_key_among keys k) o)
    by None s = s
    by (Some b) s = refl

-- one more record of a page
pub page_step : {K : ℕ} (rows : List (Record K)) (i : ℕ) (r : Record K) (first old new : Marks) → i < length rows → ((d : Record K) → r ≡ get_or rows i d) → MarksKeys (keys_in (take i rows)) first old → TurnsMark r.key.numbers true old new → MarksKeys (keys_in (take (i + 1) rows)) first new
page_step {K} rows i r first old new lt is marks turns =
    let more : keys_in (take (i + 1) rows) ≡ keys_in (take i rows) ++ r.key.numbers ∷ [] =
    ap keys_in (take_more rows i r lt) ∙ map-append (λ (x : Record K). x.key.numbers) (take i rows) (get_or rows i r ∷ []) ∙ ap (λ (x : Record K). keys_in (take i rows) ++ x.key.numbers ∷ []) (sym (is r)) in
    subst (λ (keys : List (List ℕ)). MarksKeys keys first new) (sym more) (marks_then (keys_in (take i rows)) (r.key.numbers ∷ []) first old new marks (marks_one r.key.numbers old new turns))

-- a key that is given a mark that is not set
module _ (key : List ℕ) (old new : Marks) (named : (k : List ℕ) → mark_of new k ≡ cond (eq_by_cmp key_cmp key k) (Some false) (mark_of old k)) where
  pub name_keeps : KeepsMarks old new
  name_keeps k some = subst IsSome (sym (named k)) (by (eq_by_cmp key_cmp key k))
    where
      by : (t : Bool) → IsSome (cond t (Some false) (mark_of old k))
      by true = refl
      by false = some

  pub name_unmarked : NoneMarked old → NoneMarked new
  name_unmarked none k b is = by (eq_by_cmp key_cmp key k) (sym (named k) ∙ is)
    where
      by : (t : Bool) → cond t (Some false) (mark_of old k) ≡ Some b → b ≡ false
      by true e = sym (one_there false b e)
      by false e = none k b e
