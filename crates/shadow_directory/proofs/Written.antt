-- What was written, one page more each time.
use Rattle.std.proofs.Common.{◌≡◌, ◌<◌, ◌≤◌, ◌+◌, ◌-◌, ℕ, zero, suc, Bool, true, false, cond, List, [], ◌∷◌, ◌++◌, length, filter, map, IsTrue, sym, ap, ◌∙◌, arith, append_assoc, length-append, true≢false}
use Rattle.std.specs.List.{range_with_len}
use Rattle.std.proofs.lemmas.List.{map-append, append-nil}
use Rattle.std.proofs.lemmas.List.Elements.{filter-append}
use Rattle.grid_types.specs.declared.owner.Owner.{Owner}
use Rattle.grid_types.specs.declared.owner.Owner.TheVariants.{Part}
use Rattle.grid_model.specs.Lists.{below, is_among}
use Rattle.grid_model.specs.Spellings.{directory_spelling}
use Rattle.directory_changes.specs.Changes.{parts_changed}
use Rattle.directory_changes.specs.declared.change.DirectoryChange.{DirectoryChange}
use Rattle.directory_changes.specs.declared.change.DirectoryChange.TheVariants.{Nothing}
use Rattle.directory_changes.proofs.Counted.{filter-more}
use Rattle.shadow_directory.specs.Pages.{BeganFor}
use Rattle.shadow_directory.specs.Calls.{WrotePart}
use Rattle.shadow_directory.specs.NewPages.{part_pages, WroteParts}
use Rattle.shadow_directory.proofs.Began.{began-longer, began-behind}

-- pages of the owners before one were written, and then its own was begun
pub began-among : (done rest : List Owner) (o : Owner) (old mid new front : List (Owner × List ℕ)) → mid ≡ old ++ front → map (λ w. w.0) front ≡ done → BeganFor (o ∷ []) mid new → BeganFor (done ++ o ∷ rest) old new
began-among done rest o old mid new front e f b = began-behind done (o ∷ rest) old mid new front e f (began-longer (o ∷ []) rest mid new b)

-- a change that is nothing renews no part
pub nothing-changed : {K : ℕ} (ns : List ℕ) (change : DirectoryChange K) (part : ℕ) → change ≡ Nothing → IsTrue (is_among (parts_changed ns change) part) → ⊥
unfolding parts_changed
nothing-changed ns change part e among = true≢false (sym (ap (λ x. is_among (parts_changed ns x) part) (sym e) ∙ among))

module _ (t : ℕ → Bool) (n : ℕ) where
  -- a number that does not pass
  pub passed-over : t n ≡ false → filter t (below (n + 1)) ≡ filter t (below n)
  passed-over e = filter-more t n ∙ ap (λ b. filter t (below n) ++ cond b (n ∷ []) []) e ∙ append-nil (filter t (below n))

  -- one that does
  pub taken-in : t n ≡ true → filter t (below (n + 1)) ≡ filter t (below n) ++ n ∷ []
  taken-in e = filter-more t n ∙ ap (λ b. filter t (below n) ++ cond b (n ∷ []) []) e

-- the numbers below one, and those from it on
pub range-split : (a n m : ℕ) → range_with_len a (n + m) ≡ range_with_len a n ++ range_with_len (a + n) m
range-split a zero m = λ i. range_with_len (zero-right i) (zero-left i)
  where
    zero-right : a ≡ a + 0
    zero-right = omega arith

    zero-left : 0 + m ≡ m
    zero-left = omega arith
range-split a (suc n) m =
    let next : suc n + m ≡ suc (n + m) = omega arith in
    let on : a + 1 + n ≡ a + suc n = omega arith in
    ap (range_with_len a) next ∙ ap (λ xs. a ∷ xs) (range-split (a + 1) n m ∙ ap (λ b. range_with_len (a + 1) n ++ range_with_len b m) on)

pub passing-split : (t : ℕ → Bool) (n N : ℕ) → n < N → t n ≡ true → filter t (below N) ≡ filter t (below n) ++ n ∷ filter t (range_with_len (n + 1) (N - n - 1))
passing-split t n N lt e =
    let whole : N ≡ n + suc (N - n - 1) = omega (arith, lt) in
    let at : 0 + n ≡ n = omega arith in
    ap (λ k. filter t (below k)) whole
    ∙ ap (filter t) (range-split 0 n (suc (N - n - 1)) ∙ ap (λ b. below n ++ range_with_len b (suc (N - n - 1))) at)
    ∙ filter-append t (below n) (range_with_len n (suc (N - n - 1)))
    ∙ ap (λ b. filter t (below n) ++ cond b (n ∷ filter t (range_with_len (n + 1) (N - n - 1))) (filter t (range_with_len (n + 1) (N - n - 1)))) e

-- so one that passes leaves one at least
pub passing-left : (t : ℕ → Bool) (n N : ℕ) → n < N → t n ≡ true → length (filter t (below n)) + 1 ≤ length (filter t (below N))
passing-left t n N lt e =
    omega (arith, ap length (passing-split t n N lt e), length-append (filter t (below n)) (n ∷ filter t (range_with_len (n + 1) (N - n - 1))))

-- one more part was written
pub wrote-more : (parts : List ℕ) (p : ℕ) (old mid new : List (Owner × List ℕ)) → WroteParts parts old mid → WrotePart p mid new → WroteParts (parts ++ p ∷ []) old new
wrote-more parts p old mid new w o = record {
  more = w.more ++ (Part p, o.bytes) ∷ [];
  is = o.is ∙ ap (λ xs. xs ++ (Part p, o.bytes) ∷ []) w.is ∙ append_assoc old w.more ((Part p, o.bytes) ∷ []);
  order = map-append (λ w. w.0) w.more ((Part p, o.bytes) ∷ []) ∙ ap (λ os. os ++ Part p ∷ []) w.order ∙ sym (map-append Part parts (p ∷ []));
}

pub pages-more : (cells : ℕ → List ℕ) (parts : List ℕ) (p : ℕ) (old mid new : List (Owner × List ℕ)) → mid ≡ old ++ part_pages cells parts → new ≡ mid ++ (Part p, directory_spelling p (cells p)) ∷ []
    → new ≡ old ++ part_pages cells (parts ++ p ∷ [])
pages-more cells parts p old mid new e f =
    f ∙ ap (λ xs. xs ++ (Part p, directory_spelling p (cells p)) ∷ []) e
    ∙ append_assoc old (part_pages cells parts) ((Part p, directory_spelling p (cells p)) ∷ [])
    ∙ ap (λ xs. old ++ xs) (sym (map-append (λ q. (Part q, directory_spelling q (cells q))) parts (p ∷ [])))
