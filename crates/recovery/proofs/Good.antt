-- What is good of the pages before one that a read failed of.
use Rattle.std.proofs.Common.{◌≡◌, ◌<◌, ◌≤◌, ◌+◌, inr, ℕ, List, length, arith, subst}
use Rattle.grid_types.specs.declared.shape.Shape.{Shape}
use Rattle.grid_types.specs.Shapes.{area_pages}
use Rattle.grid_model.specs.Images.{HasShape, open_slots_of}
use Rattle.grid_model.specs.Roots.{WholeRoot, IsNewestWhole}
use Rattle.journal_slots.specs.declared.scan.Scan.{Scan}
use Rattle.journal_slots.specs.Scans.{IsScan, IsGoodUpTo}
use Rattle.file_roots.specs.Reading.{AreRootPagesGood}
use Rattle.recovery.specs.Beginnings.{BeginsWhole}
use Rattle.recovery.specs.Reads.{IsJournalGoodUpTo, AreGoodUpTo}
use Rattle.recovery.proofs.Halves.{scanned_good}

module _ {K : ℕ} (image : List ℕ) where
  -- before the first page there is none
  pub good_none : (n : ℕ) → n ≡ 0 → AreGoodUpTo K image n
  good_none n none = record {
    shape = record { k = 0; capacity = 0; pages = 0; slots = 0; boundaries = 0; cells = 0 };
    begins = λ le. absurd (omega (arith, none, le));
    has = λ le. absurd (omega (arith, none, le));
    roots = λ le lt. absurd (omega (arith, none, le));
    whole = λ le. absurd (omega (arith, none, le));
    journal = λ m e. absurd (omega (arith, none, e));
  }

  -- before page 1 there is page 0
  pub good_first : (n : ℕ) (s : Shape) → n ≡ 1 → BeginsWhole image s → AreGoodUpTo K image n
  good_first n s one begins = record {
    shape = s;
    begins = λ le. begins;
    has = λ le. absurd (omega (arith, one, le));
    roots = λ le lt. absurd (omega (arith, one, le));
    whole = λ le. absurd (omega (arith, one, le));
    journal = λ m e. absurd (omega (arith, one, e));
  }

  module _ (s : Shape) (has : HasShape K image s) where
    begins_so : BeginsWhole image s
    begins_so = record { spelled = record { lawful = has.lawful; bytes = has.first }; long = has.long }

    -- while the newest root is read
    pub good_roots : (n : ℕ) → n < 2 + area_pages s → (2 ≤ n → AreRootPagesGood s image n) → AreGoodUpTo K image n
    good_roots n lt roots = record {
      shape = s;
      begins = λ le. begins_so;
      has = λ le. has;
      roots = λ le less. roots le;
      whole = λ le. absurd (omega (arith, lt, le));
      journal = λ m e. absurd (omega (arith, lt, e));
    }

    -- while the journal is read
    pub good_journal : (w : WholeRoot) → IsNewestWhole s w image → (n m : ℕ) → n ≡ 2 + area_pages s + m → IsJournalGoodUpTo K s image m → AreGoodUpTo K image n
    good_journal w whole n m e good = record {
      shape = s;
      begins = λ le. begins_so;
      has = λ le. has;
      roots = λ le lt. absurd (omega (arith, e, lt));
      whole = λ le. (w, whole);
      journal = λ k is. subst (IsJournalGoodUpTo K s image) (omega (arith, e, is)) good;
    }

-- while the second half is read the first one is good
pub good_second : {K : ℕ} (s : Shape) (image : List ℕ) (session n k : ℕ) (scan : Scan K) (is : IsScan s image 0 session scan) → n ≡ 1 + length (open_slots_of is.gates 0) + k → IsGoodUpTo K s image 1 k → IsJournalGoodUpTo K s image n
good_second s image session n k scan is count good = inr (record {
  gates = is.gates;
  spelled = is.spelled;
  first = scanned_good s image 0 session scan is;
  rest = k;
  count = count;
  second = good;
})
