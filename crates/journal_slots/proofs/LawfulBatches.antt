-- Lists of lawful batches of a session.
use Rattle.std.proofs.Common.{◌≡◌, ℕ, List, [], ◌∷◌, ◌++◌, sym, subst, Result, Ok, Err}
use Rattle.std.specs.Prelude.{OnOk, OnErr}
use Rattle.std.proofs.lemmas.List.Elements.{All-nil, All-push}
use Rattle.grid_model.specs.Spellings.{LoggedBatch}
use Rattle.grid_model.specs.Images.{SpellsBatch}
use Rattle.journal_slots.specs.Scans.{IsLawfulOf, AreLawfulOf}

module _ {K : ℕ} (session : ℕ) where
  -- of no batches each is lawful
  pub lawful_none : (bs : List (LoggedBatch K)) → bs ≡ [] → AreLawfulOf session bs
  lawful_none bs none = subst (AreLawfulOf session) (sym none) (All-nil (IsLawfulOf {K = K} session))

  -- a batch more that a page spells, also where there was no memory for it
  pub lawful_more : {T E : Type 0} (result : Result T E) (page : List ℕ) (bs more : List (LoggedBatch K)) (b : LoggedBatch K) → SpellsBatch page b → b.session ≡ session → OnOk result (more ≡ bs ++ b ∷ []) → OnErr result (more ≡ bs)
      → AreLawfulOf session bs → AreLawfulOf session more
  lawful_more (Ok x) page bs more b spelled of added refused all = subst (AreLawfulOf session) (sym added) (All-push (IsLawfulOf session) bs b all (record { lawful = spelled.lawful; of = of }))
  lawful_more (Err e) page bs more b spelled of added refused all = subst (AreLawfulOf session) (sym refused) all
