-- What reading the newest root tells, by what a call tells that was handed the header pages.
use Rattle.std.proofs.Common.{◌≡◌, ◌≤◌, ◌+◌, ◌∙◌, ℕ, List, IsTrue, sym, subst, arith, Result, Ok, Err}
use Rattle.std.specs.Prelude.{IsErrAnd}
use Rattle.grid_types.specs.declared.shape.Shape.{Shape}
use Rattle.grid_types.specs.declared.refusal.Refusal.{Refusal}
use Rattle.grid_types.specs.declared.refusal.Refusal.TheVariants.{ReadFault, NoMemory, Damaged}
use Rattle.grid_types.specs.Shapes.{is_shape}
use Rattle.grid_model.specs.Spellings.{RootFields}
use Rattle.grid_model.specs.Images.{IsNewest}
use Rattle.grid_model.specs.Roots.{IsNewestWhole}
use Rattle.linear_scales.specs.Roots.{whole_of}
use Rattle.linear_scales.specs.declared.root.Root.{Root}
use Rattle.disk_trait.specs.declared.disk.Disk.{Ghosts}
use Rattle.disk_trait.specs.Calls.{OnlyReads}
use Rattle.file_roots.specs.Headers.{AreHeaderPages}
use Rattle.file_roots.specs.Damage.{IsRootDamage}
use Rattle.file_roots.specs.Reading.{AreRootPagesGood, TellsNewest}
use Rattle.file_roots.proofs.Outcomes.{refusal_is, no_refusal}
use Rattle.file_roots.proofs.Unique.{undamaged, one_newest_whole}

-- what is told of the disk after the header pages were read is told of the disk before
pub told_before : {D : Type 0} (g : Ghosts D) {a b : D} {K : ℕ} (s : Shape) (zeroth first : List ℕ) (before now : ℕ) (result : Result (Root K) Refusal) → OnlyReads g a b → IsTrue (g.honest a) → AreHeaderPages (g.seen a) zeroth first
    → (IsTrue (g.honest b) → AreHeaderPages (g.seen b) zeroth first → TellsNewest s (g.seen b) before now result) → TellsNewest s (g.seen a) before now result
told_before g s zeroth first before now result same h pages tells =
    subst (λ i. TellsNewest s i before now result) (same.seen h) (tells (same.honest ∙ h) (subst (λ i. AreHeaderPages i zeroth first) (sym (same.seen h)) pages))

module _ {K : ℕ} (s : Shape) (lawful : IsTrue (is_shape s)) (image : List ℕ) (before : ℕ) where
  -- two steps after the header pages were begun, what is told of them is told of the whole reading
  pub tells_more : (handed now : ℕ) (result : Result (Root K) Refusal) → handed ≡ before + 2 → TellsNewest s image handed (now + 2) result → TellsNewest s image before now result
  tells_more handed now result two told = record {
    found = told.found;
    only = told.only;
    undamaged = told.undamaged;
    damaged = told.damaged;
    no_memory = told.no_memory;
    good_before = λ n is le. told.good_before n (omega (arith, two, is)) le;
  }

  -- what an answer tells
  pub tells_found : (now : ℕ) (root : Root K) → IsNewestWhole s (whole_of root) image → TellsNewest s image before now (Ok root)
  tells_found now root whole = record {
    found = whole;
    only = λ w is. one_newest_whole s image (whole_of root) w lawful whole is;
    undamaged = λ w is p told. no_refusal root (Damaged p) told;
    damaged = λ p told. absurd (no_refusal root (Damaged p) told);
    no_memory = λ told. absurd (no_refusal root NoMemory told);
    good_before = λ n is le. tt;
  }

  -- what a refusal tells
  pub tells_refused : (now : ℕ) (result : Result (Root K) Refusal) (e : Refusal) → IsErrAnd result (λ x. x ≡ e) → ((p : ℕ) → e ≡ Damaged p → IsRootDamage s image p) → (e ≡ NoMemory → (r : RootFields) × IsNewest s image r)
      → ((n : ℕ) → now ≡ before + n + 1 → 2 ≤ n → AreRootPagesGood s image n) → TellsNewest s image before now result
  tells_refused now (Ok root) e goes damaged no_memory good = absurd goes
  tells_refused now (Err x) e goes damaged no_memory good = record {
    found = tt;
    only = λ w is. tt;
    undamaged = λ w is p told. undamaged s image lawful w.fields is.newest w.area is.area p (damaged p (sym goes ∙ refusal_is x (Damaged p) told));
    damaged = λ p told. damaged p (sym goes ∙ refusal_is x (Damaged p) told);
    no_memory = λ told. no_memory (sym goes ∙ refusal_is x NoMemory told);
    good_before = good;
  }

  -- where a header page could not be read, nothing is told
  pub tells_none : (now : ℕ) (result : Result (Root K) Refusal) (e : Refusal) → IsErrAnd result (λ x. x ≡ e) → e ≡ ReadFault → now ≤ before + 2 → TellsNewest s image before now result
  tells_none now result e goes fault few =
      tells_refused now result e goes (λ p is. absurd (no_damage p (sym fault ∙ is))) (λ is. absurd (no_want (sym fault ∙ is))) (λ n is le. absurd (omega (arith, few, is, le)))
    where
      no_damage : (p : ℕ) → ReadFault ≡ Damaged p → ⊥
      no_damage p is = cc (is)

      no_want : ReadFault ≡ NoMemory → ⊥
      no_want is = cc (is)
