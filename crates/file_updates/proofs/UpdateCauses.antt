-- Why an update is refused.
use Rattle.std.proofs.Common.{◌≡◌, ◌≤◌, inl, inr, ℕ, List, sym, subst, arith, None}
use Rattle.std.specs.Prelude.{Result, Ok, Err, IfErr}
use Rattle.grid_types.specs.declared.refusal.Refusal.{Refusal}
use Rattle.grid_types.specs.declared.refusal.Refusal.TheVariants as why
use Rattle.grid_types.specs.declared.region.Region.{Region}
use Rattle.grid_types.specs.declared.shape.Shape.{Shape}
use Rattle.grid_types.specs.declared.update.Record.{Record}
use Rattle.grid_types.specs.declared.update.Update.{Update}
use Rattle.grid_types.specs.declared.update.Update.TheVariants.{Put}
use Rattle.grid_model.specs.Layouts.{Layout}
use Rattle.grid_model.specs.Notes.{put_note}
use Rattle.grid_model.specs.Tables.{Table}
use Rattle.bucket_page.specs.OnPage.{head_told}
use Rattle.query_paths.specs.Pinned.{Place}
use Rattle.query_paths.specs.Paths.{IsGetRefusal}
use Rattle.query_paths.proofs.Refusing.{rose-later}
use Rattle.merge_paths.specs.Partners.{LiesBeside, IsRefusedBeside, HasPartnerCause}
use Rattle.file_updates.specs.Outcomes.{IsHonestRefusal, IsUpdateRefusal, HasUpdateCause}

module _ (K : ℕ) (p : Place) (before now : ℕ) (key found beside : List ℕ) where
  -- what refuses a get of its key refuses it
  pub by_get : (e : Refusal) → IsGetRefusal K p before now key found e → IsUpdateRefusal K p before now key found beside e
  by_get why.ReadFault is = is
  by_get (why.Damaged page) is = inl is
  by_get (why.NoCut cells boundaries) is = absurd is
  by_get why.WriteFault is = is
  by_get why.NoMemory is = is
  by_get (why.Unsure faults first) is = is
  by_get (why.Stopped faults opened) is = is
  by_get (why.Full free need) is = is
  by_get why.Foreign is = is
  by_get (why.Version version) is = is
  by_get why.Seats is = is
  by_get why.BadShape is = is
  by_get why.BadQuery is = is
  by_get (why.Worn count) is = is
  by_get (why.Arity arity) is = is

  module _ (mid : ℕ) (low : before ≤ mid) (r : Region K) (region : r ≡ (head_told K found).region) where
    -- and what refuses the search for a neighbour of its bucket, later on
    by_beside : (e : Refusal) → IsRefusedBeside p mid now r beside e → IsUpdateRefusal K p before now key found beside e
    by_beside why.ReadFault is = rose-later before mid now low is.refused
    by_beside (why.Damaged page) is = inr (record {
      side = is.side;
      key = is.key;
      beside = subst (λ (x : Region K). LiesBeside x is.side is.key) region is.beside;
      refused = is.refused;
    })
    by_beside (why.NoCut cells boundaries) is = absurd is.refused
    by_beside why.WriteFault is = is.refused
    by_beside why.NoMemory is = is.refused
    by_beside (why.Unsure faults first) is = is.refused
    by_beside (why.Stopped faults opened) is = is.refused
    by_beside (why.Full free need) is = is.refused
    by_beside why.Foreign is = is.refused
    by_beside (why.Version version) is = is.refused
    by_beside why.Seats is = is.refused
    by_beside why.BadShape is = is.refused
    by_beside why.BadQuery is = is.refused
    by_beside (why.Worn count) is = is.refused
    by_beside (why.Arity arity) is = is.refused

    pub cause_by_beside : {T : Type 0} (result : Result T Refusal) → HasPartnerCause p mid now r beside result → HasUpdateCause K p before now key found beside result
    cause_by_beside (Ok x) cause = record { later = omega (arith, low, cause.later); refused = _ }
    cause_by_beside (Err e) cause = record { later = omega (arith, low, cause.later); refused = by_beside e cause.refused }

-- a failed reading is an honest refusal
pub honest_reading : {K : ℕ} {T : Type 0} (shape : Shape) (L : Layout K) (t : Table) (u : Update K) (r : Result T Refusal) → IfErr r (λ e. e ≡ why.ReadFault) → IfErr r (IsHonestRefusal shape L t u)
honest_reading shape L t u (Ok x) is = _
honest_reading shape L t u (Err e) is = subst (IsHonestRefusal shape L t u) (sym is) _

-- and so is the want of a cut, where a put has no note
pub honest_cut : {K : ℕ} (shape : Shape) (L : Layout K) (t : Table) (u : Update K) (r : Record K) (e : Refusal) (cells boundaries : ℕ) → e ≡ why.NoCut cells boundaries → u ≡ Put r → put_note shape L t r.key.numbers ≡ None → IsHonestRefusal shape L t u e
honest_cut {K = K} shape L t u r e cells boundaries because is none = subst (λ (z : Refusal × Update K). IsHonestRefusal shape L t z.1 z.0) (λ i. (sym because i, sym is i)) none
