-- An image that stands for a table shows something that is kept, with what is found in it, and that leads to where the image stands.
use Rattle.std.proofs.Common.{◌∷◌, [], ℕ, List, refl, sym, subst, arith}
use Rattle.grid_model.specs.Tables.{Table}
use Rattle.grid_model.specs.LayoutLaws.{StandsOver}
use Rattle.grid_model.specs.Images.{Found, Stands}
use Rattle.file_images.specs.Leads.{HasStanding}
use Rattle.file_finding.specs.Finding.{Finding, IsFoundKept, FindsKept, finding_of, StandingFinds}
use Rattle.file_finding.proofs.Findings.{one_finding}
use Rattle.file_finding.proofs.Stood.{stands_over}
use Rattle.file_finding.proofs.Pages.{pages_known}
use Rattle.file_finding.proofs.Kept.{kept, used_is, kept_shows, kept_loose}
use Rattle.file_finding.proofs.Leading.{area_kept, standing, lineage, leads_along}

module _ {K : ℕ} (image : List ℕ) (n : ℕ) (t : Table) (s : Stands K image n t) where
  abbrev f : Found K
  f = s.reads.found

  over : StandsOver f.shape s.layout f.table
  over = stands_over image f n t s.layout s.reads.makes s.root.sound

  has_standing : HasStanding image (standing image f n t s.reads.makes s.written.batches s.written.slots s.layout s.root over)
  has_standing = record { stands = s; shaped = record { place = n; table = t; reads = s.reads; layout = s.layout; root = s.root; after = refl } }

  is_kept : IsFoundKept image (finding_of f) (standing image f n t s.reads.makes s.written.batches s.written.slots s.layout s.root over) (kept image f n s.reads.makes.is_found s.written.batches s.written.slots) (lineage image f n t s.reads.makes s.written.batches s.written.slots s.layout s.root over)
  is_kept = record {
    shows = kept_shows image f n s.reads.makes.is_found s.written.batches s.written.slots;
    loose = kept_loose image f n s.reads.makes.is_found s.written.batches s.written.slots;
    shape_is = refl;
    root_is = refl;
    other_is = refl;
    known = pages_known f.shape image f.area;
    holds = area_kept image f n t s.reads.makes s.written.batches s.written.slots s.layout s.root over;
    stands = over;
    records = s.root.records;
    fresh_is = refl;
    slots_are = λ i. sym (used_is image f n s.reads.makes.is_found s.written.batches s.written.slots 0 (omega arith)) i ∷ sym (used_is image f n s.reads.makes.is_found s.written.batches s.written.slots 1 (omega arith)) i ∷ [];
    half_is = refl;
    next_is = refl;
    reads_are = refl;
    writes_are = refl;
    along = leads_along image f n t s.reads.makes s.written.batches s.written.slots s.layout s.root over s.written.sessions s.updates;
    taken_are = refl;
  }

  -- with what the image itself stands for, something is kept
  finds_kept : FindsKept image (finding_of f) n t
  finds_kept = record {
    kept = kept image f n s.reads.makes.is_found s.written.batches s.written.slots;
    standing = standing image f n t s.reads.makes s.written.batches s.written.slots s.layout s.root over;
    lineage = lineage image f n t s.reads.makes s.written.batches s.written.slots s.layout s.root over;
    found = is_kept;
    place = refl;
    table = refl;
    has = has_standing;
  }

-- and so it is with whatever is found in it
pub standing_finds : {K : ℕ} → StandingFinds K
standing_finds {K} = record {
  place = λ image n t g front s is. (one_finding image g s.reads.found front n is s.reads.makes.is_found).place;
  kept = λ image n t g front s is. subst (λ (d : Finding K). FindsKept image d n t) (sym (one_finding image g s.reads.found front n is s.reads.makes.is_found).finding) (finds_kept image n t s);
}
