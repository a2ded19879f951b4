-- The batches that join a front, where those that may be open are known.
use Rattle.std.proofs.Common.{◌≡◌, ◌<◌, ◌≤◌, ◌+◌, ℕ, List, [], ◌∷◌, ◌++◌, length, refl, sym, ap, ◌∙◌, arith}
use Rattle.std.specs.Prelude.{Some, None}
use Rattle.grid_model.specs.Spellings.{LoggedBatch}
use Rattle.grid_model.specs.Images.{Join, joining}
use Rattle.file_images.proofs.Elements.{Among, here, there}
use Rattle.file_images.specs.Leads.{Chain}

-- each batch of a chain begins above its start
pub chain_above : {K : ℕ} (from to : ℕ) (bs : List (LoggedBatch K)) (b : LoggedBatch K) → Chain from bs to → Among b bs → from < b.first
chain_above from to [] b chain m = elim m [ ]
chain_above from to (c ∷ bs) _ chain here = omega (arith, chain.0)
chain_above from to (c ∷ bs) b chain (there m) = omega (arith, chain_above (from + length c.updates) to bs b chain.2 m)

pub chain_up : {K : ℕ} (from to : ℕ) (bs : List (LoggedBatch K)) → Chain from bs to → from ≤ to
chain_up from to [] chain = omega (arith, chain)
chain_up from to (c ∷ bs) chain = omega (arith, chain_up (from + length c.updates) to bs chain.2)

-- each batch of a chain begins at or below its end
pub chain_below : {K : ℕ} (from to : ℕ) (bs : List (LoggedBatch K)) (b : LoggedBatch K) → Chain from bs to → Among b bs → b.first ≤ to
chain_below from to [] b chain m = elim m [ ]
chain_below from to (c ∷ bs) _ chain here = omega (arith, chain.0, chain.1, chain_up (from + length c.updates) to bs chain.2)
chain_below from to (c ∷ bs) b chain (there m) = chain_below (from + length c.updates) to bs b chain.2 m

-- one batch behind a chain
pub chain_more : {K : ℕ} (from to : ℕ) (bs : List (LoggedBatch K)) (d : LoggedBatch K) → Chain from bs to → d.first ≡ to + 1 → 0 < length d.updates → Chain from (bs ++ d ∷ []) (to + length d.updates)
chain_more from to [] d chain first some = (omega (arith, chain, first), some, omega (arith, chain))
chain_more from to (c ∷ bs) d chain first some = (chain.0, chain.1, chain_more (from + length c.updates) to bs d chain.2 first some)

-- a chain has one batch at most that begins at a place
pub chain_once : {K : ℕ} (from to : ℕ) (bs : List (LoggedBatch K)) (a b : LoggedBatch K) → Chain from bs to → Among a bs → Among b bs → a.first ≡ b.first → a ≡ b
chain_once from to [] a b chain m n same = elim m [ ]
chain_once from to (c ∷ bs) _ _ chain here here same = refl
chain_once from to (c ∷ bs) _ b chain here (there n) same = absurd (omega (arith, same, chain.0, chain.1, chain_above (from + length c.updates) to bs b chain.2 n))
chain_once from to (c ∷ bs) a _ chain (there m) here same = absurd (omega (arith, same, chain.0, chain.1, chain_above (from + length c.updates) to bs a chain.2 m))
chain_once from to (c ∷ bs) a b chain (there m) (there n) same = chain_once (from + length c.updates) to bs a b chain.2 m n same

-- where each batch of a chain is the one that joins the place before it, and none joins its end, batches join along the chain
pub joined : {K : ℕ} (batches : List (LoggedBatch K)) (to at : ℕ) (bs : List (LoggedBatch K)) → Chain at bs to
    → ((place : ℕ) (b : LoggedBatch K) → Among b bs → b.first ≡ place + 1 → joining batches place ≡ Some b) → joining batches to ≡ None → Join batches at bs to
joined batches to at [] chain each none = (sym chain, ap (joining batches) chain ∙ none)
joined batches to at (c ∷ bs) chain each none = (each at c here chain.0, joined batches to (at + length c.updates) bs chain.2 (λ place b m. each place b (there m)) none)
