-- What two scans find in the journal, and that no page of what was scanned is bad.
use Rattle.std.proofs.Common.{◌≡◌, ◌⊎◌, inl, inr, ◌<◌, ◌≤◌, ◌+◌, ◌-◌, ◌==◌, ℕ, zero, suc, List, [], ◌∷◌, ◌++◌, length, get_or, slice_index, sym, ap, subst, ◌∙◌, arith, length-append}
use Rattle.std.specs.Prelude.{slice_get, All}
use Rattle.std.proofs.lemmas.List.Elements.{All-filter, All-append, filter-append}
use Rattle.std.proofs.lemmas.Option.{slice_get-get_or}
use Rattle.grid_types.specs.declared.shape.Shape.{Shape}
use Rattle.grid_types.proofs.Places.{one-of-two}
use Rattle.grid_model.specs.Spellings.{LoggedBatch}
use Rattle.grid_model.specs.Lawful.{IsBatch}
use Rattle.grid_model.specs.Images.{HasBatches, open_slots_of, of_session}
use Rattle.journal_slots.specs.declared.scan.Scan.{Scan}
use Rattle.journal_slots.specs.Scans.{IsScan, IsLawfulOf, AreLawfulOf, IsLawfulScan}
use Rattle.journal_slots.proofs.GoodPages.{front_get}
use Rattle.journal_slots.proofs.GoodHalves.{good_half}
use Rattle.recovery.specs.Faults.{IsGoodHalf}
use Rattle.recovery.specs.Joins.{AreLawfulOrEmpty, empty_batch}
use Rattle.recovery.specs.Surveys.{IsJournal, IsLawfulJournal}
use Rattle.recovery.specs.declared.journal.Journal.{Journal}

-- an item of the second of two lists behind one another
get_right : {X : Type 0} (xs ys : List X) (i j : ℕ) → i ≡ length xs + j → slice_get (xs ++ ys) i ≡ slice_get ys j
get_right [] ys i j e = ap (slice_get ys) (omega (arith, e))
get_right (x ∷ xs) ys zero j e = absurd (omega (arith, e))
get_right (x ∷ xs) ys (suc i) j e = get_right xs ys i j (omega (arith, e))

module _ {K : ℕ} (s : Shape) (image : List ℕ) where
  -- slots with their batches, and other slots with theirs
  both_have : (xs ys : List (ℕ × ℕ)) (bs cs : List (LoggedBatch K)) → HasBatches s image xs bs → HasBatches s image ys cs → HasBatches s image (xs ++ ys) (bs ++ cs)
  both_have xs ys bs cs x y = record {
    count = omega (arith, x.count, y.count, length-append xs ys, length-append bs cs);
    each = λ i slot b at is. elim (nat_cases i (length xs)) [
      | inl lt ↦ x.each i slot b (sym (front_get xs ys i lt) ∙ at) (sym (front_get bs cs i (omega (arith, lt, x.count))) ∙ is)
      | inr le ↦
          let j : ℕ = i - length xs in
          y.each j slot b (sym (get_right xs ys i j (omega (arith, le))) ∙ at) (sym (get_right bs cs i j (omega (arith, le, x.count))) ∙ is)
    ];
  }
    where
      nat_cases : (a b : ℕ) → (a < b) ⊎ (b ≤ a)
      nat_cases a b = grind arith

  -- the batches on slots are lawful
  slots_lawful : (slots : List (ℕ × ℕ)) (bs : List (LoggedBatch K)) → HasBatches s image slots bs → All IsBatch bs
  slots_lawful slots bs has = λ i d lt.
      (has.each i (get_or slots i (0, 0)) (get_or bs i d) (slice_get-get_or slots i (0, 0) (omega (arith, lt, has.count))) (slice_get-get_or bs i d lt)).lawful

  -- so are those of a session
  pub session_lawful : (slots : List (ℕ × ℕ)) (bs : List (LoggedBatch K)) (session : ℕ) → HasBatches s image slots bs → AreLawfulOrEmpty (of_session session bs)
  session_lawful slots bs session has = λ i lt some. All-filter (λ b. b.session == session) IsBatch bs (slots_lawful slots bs has) i empty_batch lt

  -- no page of a half that was scanned is bad
  pub scanned_good : (half session : ℕ) (scan : Scan K) → IsScan s image half session scan → IsGoodHalf K s image half
  scanned_good half session scan is = good_half s image half is.gates (open_slots_of is.gates half) is.found.all is.spelled is.found.each (λ slot there. there)

  -- two scans make a journal
  pub journal_of : (session : ℕ) (x y : Scan K) (journal : Journal K) → IsScan s image 0 session x → IsScan s image 1 session y → journal.batches ≡ x.batches ++ y.batches → journal.used ≡ x.used ∷ y.used ∷ [] → IsJournal s image session journal
  journal_of session x y journal first second batches used =
      let test : LoggedBatch K → _ = λ b. b.session == session in
      record {
        gates = record { first = first.gates; second = second.gates };
        spelled = record { first = first.spelled; second = second.spelled };
        all = first.found.all ++ second.found.all;
        each = both_have (open_slots_of first.gates 0) (open_slots_of second.gates 1) first.found.all second.found.all first.found.each second.found.each;
        are = batches ∙ (λ i. first.found.are i ++ second.found.are i) ∙ sym (filter-append test first.found.all second.found.all);
        used = used ∙ (λ i. first.used i ∷ second.used i ∷ []);
      }

  -- and a lawful one, where both are lawful
  pub journal_lawful : (session : ℕ) (x y : Scan K) (journal : Journal K) → IsLawfulScan s session x → IsLawfulScan s session y → journal.batches ≡ x.batches ++ y.batches → journal.used ≡ x.used ∷ y.used ∷ [] → IsLawfulJournal s session journal
  journal_lawful session x y journal first second batches used = record {
    few = λ half two. elim (one-of-two half two) [
      | inl e ↦ let at : slice_index journal.used half ≡ x.used = λ i. slice_index (used i) (e i) in omega (arith, at, first.few)
      | inr e ↦ let at : slice_index journal.used half ≡ y.used = λ i. slice_index (used i) (e i) in omega (arith, at, second.few)
    ];
    batches = subst (AreLawfulOf session) (sym batches) (All-append (IsLawfulOf session) x.batches y.batches first.batches second.batches);
  }
