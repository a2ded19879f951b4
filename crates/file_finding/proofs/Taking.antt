-- Batches that join a place are a chain, and each other one of the session that begins behind the place and not beyond their end is passed over.
use Rattle.std.proofs.Common.{◌≡◌, ◌<◌, ◌≤◌, ◌⊎◌, inl, inr, ◌+◌, ◌==◌, ℕ, Bool, true, List, [], ◌∷◌, map, length, sym, ap, subst, ◌∙◌, arith, true≢false, eqb-true, eq-eqb}
use Rattle.std.specs.Prelude.{Some, ◌&&◌}
use Rattle.std.specs.Option.{option_map}
use Rattle.std.proofs.lemmas.Bool.{cases_order}
use Rattle.std.proofs.lemmas.Option.{same_Some}
use Rattle.grid_types.proofs.Numbers.{both}
use Rattle.grid_model.specs.Spellings.{LoggedBatch}
use Rattle.grid_model.specs.Images.{of_session, joining, Join}
use Rattle.file_images.specs.Leads.{Chain}
use Rattle.file_images.proofs.Chains.{chain_above, chain_up}
use Rattle.file_images.proofs.Elements.{Among, here, there, first_or, among_map, among_filter, find_through}
use Rattle.file_images.proofs.Earlier.{IsEarlier, Ascend, first_found}
use Rattle.file_finding.proofs.Searches.{found_passes, none_passes}

-- of two slots one stands before the other, or they are one
one_or_other : (x y : ℕ × ℕ) → (x ≡ y) ⊎ (IsEarlier x y ⊎ IsEarlier y x)
one_or_other x y = elim (cases_order x.0 y.0) [
  | inl half ↦ elim (cases_order x.1 y.1) [
    | inl slot ↦ inl (λ i. (half i, slot i))
    | inr apart ↦ inr (elim apart [ inl less ↦ inl (inr (half, less)) | inr more ↦ inr (inr (sym half, more)) ])
  ]
  | inr apart ↦ inr (elim apart [ inl less ↦ inl (inl less) | inr more ↦ inr (inl more) ])
]

module _ {K : ℕ} (batches : List (LoggedBatch K)) where
  -- batches that join are among those that may
  pub joined_among : (place n : ℕ) (bs : List (LoggedBatch K)) (b : LoggedBatch K) → Join batches place bs n → Among b bs → Among b batches
  joined_among place n [] b join m = elim m [ ]
  joined_among place n (c ∷ bs) b join m = elim (first_or c b bs m) [
    | inl same ↦ subst (λ (x : LoggedBatch K). Among x batches) (sym same) (found_passes (λ x. x.first == place + 1) batches c join.0).0
    | inr more ↦ joined_among (place + length c.updates) n bs b join.1 more
  ]

  -- and are a chain, where none is empty
  pub joined_chain : (place n : ℕ) (bs : List (LoggedBatch K)) → ((b : LoggedBatch K) → Among b batches → 0 < length b.updates) → Join batches place bs n → Chain place bs n
  joined_chain place n [] some join = sym join.0
  joined_chain place n (c ∷ bs) some join =
      let found = found_passes (λ x. x.first == place + 1) batches c join.0 in
      (eqb-true c.first (place + 1) found.1, some c found.0, joined_chain (place + length c.updates) n bs some join.1)

-- of slots that ascend, each with its batch, the batches of a session join
module _ {K : ℕ} (on : ℕ × ℕ → LoggedBatch K) (slots : List (ℕ × ℕ)) (up : Ascend slots) (session n : ℕ) where
  abbrev batches : List (LoggedBatch K)
  batches = of_session session (map on slots)

  module _ (some : (b : LoggedBatch K) → Among b batches → 0 < length b.updates) (y : ℕ × ℕ) (there_it : Among y slots) (mine : (on y).session ≡ session) where
    -- each of these batches that begins where the one on this slot does is on an earlier slot
    abbrev pub AreEarlier : List (LoggedBatch K) → Type 0
    AreEarlier bs = (b : LoggedBatch K) → Among b bs → b.first ≡ (on y).first → (x : ℕ × ℕ) × Among x slots × (on x ≡ b) × IsEarlier x y

    -- the batch on a slot is one of these, or it is passed over
    abbrev pub IsTakenOrPassed : List (LoggedBatch K) → Type 0
    IsTakenOrPassed bs = Among (on y) bs ⊎ (((on y).first ≤ n) × AreEarlier bs)

    here_it : Among (on y) batches
    here_it = among_filter (λ b. b.session == session) (on y) (map on slots) (among_map on y slots there_it) (eq-eqb (on y).session session mine)

    -- the batch that joins a place where it begins stands on its slot, or on an earlier one
    joins_first : (place : ℕ) (c : LoggedBatch K) → joining batches place ≡ Some c → (on y).first ≡ place + 1 → (x : ℕ × ℕ) × Among x slots × (on x ≡ c) × ((x ≡ y) ⊎ IsEarlier x y)
    joins_first place c is next =
        let test : ℕ × ℕ → Bool = λ x. ((on x).session == session) && ((on x).first == place + 1) in
        let passes : test y ≡ true = both ((on y).session == session) ((on y).first == place + 1) (eq-eqb (on y).session session mine) (eq-eqb (on y).first (place + 1) next) in
        let first = first_found test slots y up there_it passes in
        let x = first.0 in
        let made : Some (on x) ≡ Some c = sym (find_through on (λ b. b.session == session) (λ b. b.first == place + 1) slots ∙ ap (option_map on) first.1.found) ∙ is in
        let how : (x ≡ y) ⊎ IsEarlier x y = elim (one_or_other x y) [
          | inl same ↦ inl same
          | inr apart ↦ elim apart [ inl before ↦ inr before | inr later ↦ absurd (true≢false (sym passes ∙ first.1.first y there_it later)) ]
        ] in
        (x, first.1.among, same_Some (on x) c made, how)

    -- where a batch begins with the next place, it is taken, or the one that is stands on an earlier slot
    begins : (place : ℕ) (c : LoggedBatch K) (bs : List (LoggedBatch K)) → Join batches place (c ∷ bs) n → Chain place (c ∷ bs) n → (on y).first ≡ place + 1 → IsTakenOrPassed (c ∷ bs)
    begins place c bs join chain next =
        let one = joins_first place c join.0 next in
        elim one.3 [
          | inl same ↦ inl (subst (λ (b : LoggedBatch K). Among b (c ∷ bs)) (sym one.2 ∙ ap on same) here)
          | inr before ↦
              let earlier : AreEarlier (c ∷ bs) = λ b m at. elim (first_or c b bs m) [
                | inl is ↦ (one.0, one.1, one.2 ∙ sym is, before)
                | inr more ↦ absurd (omega (arith, at, next, chain_above (place + length c.updates) n bs b chain.2 more, chain.1))
              ] in
              inr (omega (arith, next, chain.1, chain_up (place + length c.updates) n bs chain.2), earlier)
        ]

    -- where one begins inside of a batch that is taken, it is passed over
    begins_inside : (place : ℕ) (c : LoggedBatch K) (bs : List (LoggedBatch K)) → Chain place (c ∷ bs) n → place + 1 < (on y).first → (on y).first ≤ place + length c.updates → IsTakenOrPassed (c ∷ bs)
    begins_inside place c bs chain low high =
        let earlier : AreEarlier (c ∷ bs) = λ b m at. elim (first_or c b bs m) [
          | inl is ↦ absurd (omega (arith, at, low, chain.0, ap (λ (x : LoggedBatch K). x.first) is))
          | inr more ↦ absurd (omega (arith, at, high, chain_above (place + length c.updates) n bs b chain.2 more))
        ] in
        inr (omega (arith, high, chain_up (place + length c.updates) n bs chain.2), earlier)

    -- a batch beside them stays so
    one_more : (place : ℕ) (c : LoggedBatch K) (bs : List (LoggedBatch K)) → c.first ≡ place + 1 → place + 1 < (on y).first → IsTakenOrPassed bs → IsTakenOrPassed (c ∷ bs)
    one_more place c bs first low (inl m) = inl (there m)
    one_more place c bs first low (inr (behind, earlier)) = inr (
      behind,
      λ b m at. elim (first_or c b bs m) [
        | inl is ↦ absurd (omega (arith, at, low, first, ap (λ (x : LoggedBatch K). x.first) is))
        | inr more ↦ earlier b more at
      ],
    )

    -- a batch that counts, and begins behind a place and not beyond the end, is taken or passed over
    pub taken_or_passed : (place : ℕ) (bs : List (LoggedBatch K)) → Join batches place bs n → place < (on y).first → (on y).first ≤ n + 1 → IsTakenOrPassed bs
    taken_or_passed place [] join low high = absurd (none_passes (λ b. b.first == place + 1) batches (on y) join.1 here_it (eq-eqb (on y).first (place + 1) (omega (arith, low, high, join.0))))
    taken_or_passed place (c ∷ bs) join low high =
        let chain = joined_chain batches place n (c ∷ bs) some join in
        elim (cases_order (on y).first (place + 1)) [
          | inl next ↦ begins place c bs join chain next
          | inr apart ↦ elim apart [
            | inl less ↦ absurd (omega (arith, low, less))
            | inr more ↦ elim (split (on y).first (place + length c.updates)) [
              | inl inside ↦ begins_inside place c bs chain more inside
              | inr beyond ↦ one_more place c bs chain.0 more (taken_or_passed (place + length c.updates) bs join.1 beyond high)
            ]
          ]
        ]
      where
        split : (i m : ℕ) → (i ≤ m) ⊎ (m < i)
        split i m = grind arith
