-- Which refusals come of an image, and which of one that stands.
use Rattle.std.proofs.Common.{inl, inr, ℕ, List, sym, subst}
use Rattle.grid_types.specs.declared.refusal.Refusal.{Refusal}
use Rattle.grid_types.specs.declared.refusal.Refusal.TheVariants as refusal
use Rattle.file_images.specs.Leads.{Standing, HasStanding}
use Rattle.recovery.specs.Faults.{IsFirstFault}
use Rattle.recovery.specs.Laws.{HasOneAnswer}
use Rattle.file_opening.specs.Refusals.{IsRefused, IsRefusedOr, IsNoDamage}

-- an image that stands has no fault
no-fault : (K : ℕ) → HasOneAnswer K → (image : List ℕ) (m : Standing K) (e : Refusal) → HasStanding image m → IsFirstFault K image e → IsNoDamage e
no-fault K law image m e has bad = absurd (law.found image has.stands.reads.found m.place e has.stands.reads.makes.is_found bad)

standing-refused : (K : ℕ) → HasOneAnswer K → (image : List ℕ) (m : Standing K) (e : Refusal) → HasStanding image m → IsRefused K image e → IsNoDamage e
standing-refused K law image m (refusal.Worn count) has bad = tt
standing-refused K law image m other has bad = no-fault K law image m other has bad

-- so no damage is told of it
pub no-damage : (K : ℕ) → HasOneAnswer K → (image : List ℕ) (m : Standing K) (e : Refusal) → HasStanding image m → IsRefusedOr K image e → IsNoDamage e
no-damage K law image m e has (inl fault) = subst IsNoDamage (sym fault) tt
no-damage K law image m e has (inr (inl fault)) = subst IsNoDamage (sym fault) tt
no-damage K law image m e has (inr (inr (inl memory))) = subst IsNoDamage (sym memory) tt
no-damage K law image m e has (inr (inr (inr bad))) = standing-refused K law image m e has bad
