-- How many records a region holds.
use Rattle.std.proofs.Common.{◌≡◌, ◌+◌, ◌≤◌, ℕ, Bool, true, false, cond, not, ◌||◌, List, [], ◌∷◌, length, Some, None, sym, ap, ◌∙◌, arith, true≢false}
use Rattle.std.specs.Ordering.{eq_by_cmp}
use Rattle.std.specs.FinMap.{slice_cmp-IsAntisymmetric, nat_cmp-IsAntisymmetric}
use Rattle.std.specs.FinMap.Entries.{where_key, find-where_key}
use Rattle.grid_types.specs.declared.region.Region.{Region}
use Rattle.grid_types.specs.Keys.{key_cmp}
use Rattle.grid_types.specs.Regions.{contains}
use Rattle.grid_model.specs.Tables.{Table, get, without}
use Rattle.grid_model.specs.Layouts.{records_inside}

maybe-more : (a : Bool) (e : List ℕ × List ℕ) (s : Table) → length s ≤ length (cond a (e ∷ s) s)
maybe-more true e s = omega arith
maybe-more false e s = omega arith

maybe-both-more : (a : Bool) (e : List ℕ × List ℕ) (s t : Table) → length s ≤ length t → length (cond a (e ∷ s) s) ≤ length (cond a (e ∷ t) t)
maybe-both-more true e s t h = omega (arith, h)
maybe-both-more false e s t h = h

-- what passes one of two tests is at most what passes each
pass-at-most-both : (p q u : List ℕ → Bool) → ((k : List ℕ) → u k ≡ (p k || q k)) → (t : Table) → length (where_key key_cmp u t) ≤ length (where_key key_cmp p t) + length (where_key key_cmp q t)
pass-at-most-both p q u h [] = omega arith
pass-at-most-both p q u h (e ∷ es) = by (p e.0) (q e.0) (u e.0) (h e.0) (pass-at-most-both p q u h es)
  where
    by : (a b c : Bool) → c ≡ (a || b) → length (where_key key_cmp u es) ≤ length (where_key key_cmp p es) + length (where_key key_cmp q es)
        → length (cond c (e ∷ where_key key_cmp u es) (where_key key_cmp u es)) ≤ length (cond a (e ∷ where_key key_cmp p es) (where_key key_cmp p es)) + length (cond b (e ∷ where_key key_cmp q es) (where_key key_cmp q es))
    by a b false s rest = omega (arith, rest, maybe-more a e (where_key key_cmp p es), maybe-more b e (where_key key_cmp q es))
    by true b true s rest = omega (arith, rest, maybe-more b e (where_key key_cmp q es))
    by false true true s rest = omega (arith, rest)
    by false false true s rest = absurd (true≢false s)

-- without some entries no more pass a test
pass-no-more : (p q : List ℕ → Bool) (t : Table) → length (where_key key_cmp p (where_key key_cmp q t)) ≤ length (where_key key_cmp p t)
pass-no-more p q [] = omega arith
pass-no-more p q (e ∷ es) = by (q e.0) (pass-no-more p q es)
  where
    by : (a : Bool) → length (where_key key_cmp p (where_key key_cmp q es)) ≤ length (where_key key_cmp p es)
        → length (where_key key_cmp p (cond a (e ∷ where_key key_cmp q es) (where_key key_cmp q es))) ≤ length (cond (p e.0) (e ∷ where_key key_cmp p es) (where_key key_cmp p es))
    by true rest = maybe-both-more (p e.0) e (where_key key_cmp p (where_key key_cmp q es)) (where_key key_cmp p es) rest
    by false rest = omega (arith, rest, maybe-more (p e.0) e (where_key key_cmp p es))

-- a region whose keys are those of two others holds at most the records of both
pub at-most-both : {K : ℕ} (h r s : Region K) → ((k : List ℕ) → contains h k ≡ (contains r k || contains s k)) → (t : Table) → length (records_inside t h) ≤ length (records_inside t r) + length (records_inside t s)
at-most-both h r s = pass-at-most-both (contains r) (contains s) (contains h)

-- a region holds no more records without a key than before
pub no-more-without : {K : ℕ} (t : Table) (k : List ℕ) (r : Region K) → length (records_inside (without t k) r) ≤ length (records_inside t r)
no-more-without t k r = pass-no-more (contains r) (λ x. not (eq_by_cmp key_cmp k x)) t

-- what a table has without a key it had before
pub had-before : (t : Table) (k q d : List ℕ) → get (without t k) q ≡ Some d → get t q ≡ Some d
had-before t k q d e = by (eq_by_cmp key_cmp k q) (sym (find-where_key key_cmp kept q (λ x same. ap kept (sym (slice_cmp-IsAntisymmetric nat_cmp-IsAntisymmetric q x same))) t) ∙ e)
  where
    kept : List ℕ → Bool
    kept x = not (eq_by_cmp key_cmp k x)

    by : (s : Bool) → cond (not s) (get t q) None ≡ Some d → get t q ≡ Some d
    by true h = cc
    by false h = h
