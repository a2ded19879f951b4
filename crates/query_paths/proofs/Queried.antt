-- What a count and a listing answer, and why they are refused.
use Rattle.std.proofs.Common.{◌≡◌, inl, inr, ℕ, Bool, true, false, List, Err, IsTrue, refl, sym, subst, true≢false}
use Rattle.grid_types.specs.declared.query.Query.{Query}
use Rattle.grid_types.specs.declared.query.Side.{Side}
use Rattle.grid_types.specs.declared.refusal.Refusal.{Refusal}
use Rattle.grid_types.specs.declared.refusal.Refusal.TheVariants.{NoMemory, ReadFault, Damaged}
use Rattle.grid_model.specs.Expected.{SoughtCell}
use Rattle.grid_model.specs.Layouts.{Layout}
use Rattle.grid_model.specs.Tables.{Table}
use Rattle.grid_model.specs.Spellings.{BucketOf}
use Rattle.query_paths.specs.Pinned.{Place, IsPinnedTo}
use Rattle.query_paths.specs.Paths.{IsQueryRefusal, HasQueryCause, AreJudged, IsFaultOrLack, NamesBucket, HasBucket}
use Rattle.query_paths.specs.Walks.{IsWholeWalk, AreCellsMet, cells_met}
use Rattle.query_paths.proofs.Coming.{cell-expected}
use Rattle.query_paths.proofs.Distinct.{among-numbers}

-- each cell that the query meets was judged
pub judged : {K : ℕ} (p : Place) (q : Query K) (start now : ℕ) (H : Table → Type 0) → AreCellsMet p.scales q → IsWholeWalk p q (cells_met p.scales q) start now H → AreJudged K p q.sides
judged {K} p q start now H cells_are w cell c m =
    let n = w.named cell (record { is_cell = c; inside = (cells_are cell c).0 m }) in
    let x = among-numbers (λ (y : BucketOf K). y.number) w.read n.number n.bucket_read in
    let f = w.reading.each x.0 x.1 in
    record {
      number = n.number;
      names = n.names;
      other = f.cell;
      other_met = (cells_are f.cell f.is_in.is_cell).1 f.is_in.inside;
      other_names = subst (NamesBucket p f.cell) x.2 f.names;
      bytes = f.bytes;
      bucket = x.0;
      has = subst (λ (k : ℕ). HasBucket p k (SoughtCell p.scales f.cell) f.bytes x.0) x.2 f.has;
    }

-- a query whose cause does not depend on its result has the same cause with another one
pub cause-on : {K : ℕ} {T U : Type 0} (lacks : Bool) (p : Place) (sides : List Side) (part_bytes bucket_bytes : List ℕ) (before now : ℕ) (e : Refusal) → HasQueryCause K {T = T} lacks p sides part_bytes bucket_bytes before now (Err e) → HasQueryCause K {T = U} lacks p sides part_bytes bucket_bytes before now (Err e)
cause-on lacks p sides part_bytes bucket_bytes before now e h = record { later = h.later; refused = h.refused }

-- what refuses a query that finds each page as it is expected
abbrev pub IsHonest : Bool → Refusal → Type 0
IsHonest lacks NoMemory = IsTrue lacks
IsHonest lacks ReadFault = Unit {0}
IsHonest lacks _ = ⊥

pub honest-query : {K : ℕ} {T : Type 0} (lacks : Bool) (p : Place) (L : Layout K) (t : Table) (sides : List Side) (part_bytes bucket_bytes : List ℕ) (before now : ℕ) (e : Refusal) → IsPinnedTo p L t
    → HasQueryCause K {T = T} lacks p sides part_bytes bucket_bytes before now (Err e) → IsHonest lacks e
honest-query {K} lacks p L t sides part_bytes bucket_bytes before now e pin h = by e h.refused
  where
    by : (x : Refusal) → IsQueryRefusal K lacks p sides part_bytes bucket_bytes before now x → IsHonest lacks x
    by NoMemory r = r
    by ReadFault r = tt
    by (Damaged at) r = absurd (cell-expected p L t pin r.cell r.is_cell part_bytes bucket_bytes at r.unexpected)
    by _ r = absurd r

-- without want of memory it is a failed reading
pub only-fault : (e : Refusal) → IsHonest false e → e ≡ ReadFault
only-fault NoMemory h = absurd (true≢false (sym h))
only-fault ReadFault h = refl
only-fault _ h = absurd h

pub fault-or-lack : (e : Refusal) → IsHonest true e → IsFaultOrLack e
fault-or-lack NoMemory h = inr refl
fault-or-lack ReadFault h = inl refl
fault-or-lack _ h = absurd h
