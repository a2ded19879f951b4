-- Batches that are taken out of a list, one after the other.
use Rattle.std.proofs.Common.{◌≡◌, inl, inr, ◌<◌, ◌≤◌, ◌+◌, ◌==◌, ℕ, zero, suc, Bool, true, false, List, [], ◌∷◌, ◌++◌, length, get_or, set, cond, Some, None, refl, sym, ap, subst, ◌∙◌, arith, append_assoc, length-append, flat_map, eq-eqb}
use Rattle.std.specs.Prelude.{All, Contains}
use Rattle.std.specs.List as lists
use Rattle.std.proofs.lemmas.Grind.{flat_map-append}
use Rattle.std.proofs.lemmas.Bool.{cases_eq, ne_eqb}
use Rattle.std.proofs.lemmas.List.Elements.{All-nil, All-push, All-set, All-weaker, All-contains_itself}
use Rattle.std.proofs.lemmas.List.{append-nil, length-set, get_or-set_other, get_or-set_same}
use Rattle.grid_model.specs.Spellings.{LoggedBatch}
use Rattle.grid_model.specs.Lawful.{IsBatch}
use Rattle.grid_model.specs.Images.{joining, Join}
use Rattle.recovery.specs.Joins.{empty_batch, AreLawfulOrEmpty, LeadsOn, IsFirstOn, NoneLeadsOn}

-- of all batches those that join from the front on were taken, up to a place, and these are left: what joins from there on joins behind those that were taken, and the same batches join in what is left
pub record IsTaking {K : ℕ} (all : List (LoggedBatch K)) (front : ℕ) (taken left : List (LoggedBatch K)) (place : ℕ) : Type 0 where
  pub joined : (more : List (LoggedBatch K)) (n : ℕ) → Join all place more n → Join all front (taken ++ more) n
  pub same : (q : ℕ) → place ≤ q → joining all q ≡ joining left q
  pub lawful : AreLawfulOrEmpty left

module _ {X : Type 0} (p : X → Bool) (d : X) where
  -- where no item passes a test, none is found
  find_none : (xs : List X) → ((i : ℕ) → i < length xs → p (get_or xs i d) ≡ false) → lists.find p xs ≡ None
  find_none [] miss = refl
  find_none (x ∷ xs) miss = rw (miss 0 (omega arith)) (find_none xs (λ i lt. miss (suc i) (omega (arith, lt))))

  -- the first item that passes is found
  find_first : (xs : List X) (i : ℕ) → i < length xs → p (get_or xs i d) ≡ true → ((j : ℕ) → j < i → p (get_or xs j d) ≡ false) → lists.find p xs ≡ Some (get_or xs i d)
  find_first [] i lt hit before = absurd (omega (arith, lt))
  find_first (x ∷ xs) zero lt hit before = rw hit refl
  find_first (x ∷ xs) (suc i) lt hit before = rw (before 0 (omega arith)) (find_first xs i (omega (arith, lt)) hit (λ j less. before (suc j) (omega (arith, less))))

  -- an item that does not pass may be another one that does not
  find_set : (xs : List X) (i : ℕ) (y : X) → i < length xs → p (get_or xs i d) ≡ false → p y ≡ false → lists.find p (set xs i y) ≡ lists.find p xs
  find_set [] i y lt miss new = absurd (omega (arith, lt))
  find_set (x ∷ xs) zero y lt miss new = rw (miss, new) refl
  find_set (x ∷ xs) (suc i) y lt miss new = ap (λ r. cond (p x) (Some x) r) (find_set xs i y (omega (arith, lt)) miss new)

module _ {K : ℕ} where
  -- a lawful batch that begins with the next place leads on
  lawful_leads : (place : ℕ) (b : LoggedBatch K) → IsBatch b → b.first ≡ place + 1 → LeadsOn place b
  lawful_leads place b lawful first = record { first = first; some = lawful.some; small = omega (arith, first, lawful.few, lawful.last) }

  -- in a list a batch that does not lead on does not begin with the next place
  not_next : (left : List (LoggedBatch K)) (place j : ℕ) → AreLawfulOrEmpty left → j < length left → (LeadsOn place (get_or left j empty_batch) → ⊥) → ((get_or left j empty_batch).first == place + 1) ≡ false
  not_next left place j lawful lt none = ne_eqb (get_or left j empty_batch).first (place + 1)
      (λ e. none (lawful_leads place (get_or left j empty_batch) (lawful j lt (λ zero. absurd (omega (arith, e, zero)))) e))

  -- a batch more is taken
  one_more : (all taken left : List (LoggedBatch K)) (front place i : ℕ) (b : LoggedBatch K) → IsTaking all front taken left place → IsFirstOn left place i → b ≡ get_or left i empty_batch
      → IsTaking all front (taken ++ b ∷ []) (set left i empty_batch) (place + length b.updates)
  one_more all taken left front place i b had first is =
      let some : 1 ≤ length b.updates = subst (λ (c : LoggedBatch K). 1 ≤ length c.updates) (sym is) first.leads.some in
      let found : joining left place ≡ Some (get_or left i empty_batch) = find_first (λ c. c.first == place + 1) empty_batch left i first.inside (eq-eqb (get_or left i empty_batch).first (place + 1) first.leads.first)
      (λ j lt. not_next left place j had.lawful (omega (arith, lt, first.inside)) (first.before j lt)) in
      record {
        joined = λ more n join. subst (λ bs. Join all front bs n) (sym (append_assoc taken (b ∷ []) more)) (had.joined (b ∷ more) n (had.same place (omega arith) ∙ found ∙ ap Some (sym is), join));
        same = λ q le. had.same q (omega (arith, le))
            ∙ sym (find_set (λ c. c.first == q + 1) empty_batch left i empty_batch first.inside (ne_eqb (get_or left i empty_batch).first (q + 1) (λ e. absurd (omega (arith, e, first.leads.first, le, some)))) (ne_eqb 0 (q + 1) (λ e. absurd (omega (arith, e)))));
        lawful = λ j lt ne. elim (cases_eq j i) [
          | inl at ↦
              let gone : get_or (set left i empty_batch) j empty_batch ≡ empty_batch = ap (λ k. get_or (set left i empty_batch) k empty_batch) at ∙ get_or-set_same left i empty_batch empty_batch first.inside in
              absurd (ne (ap (λ (c : LoggedBatch K). c.first) gone))
          | inr other ↦
              let same : get_or (set left i empty_batch) j empty_batch ≡ get_or left j empty_batch = get_or-set_other left i j empty_batch empty_batch other in
              let inside : j < length left = omega (arith, lt, length-set left i empty_batch) in
              subst IsBatch (sym same) (had.lawful j inside (λ zero. ne (ap (λ (c : LoggedBatch K). c.first) same ∙ zero)))
        ];
      }

  -- and the lists after that
  pub taking_more : (all taken left more fewer : List (LoggedBatch K)) (front place next i : ℕ) (b : LoggedBatch K) → IsTaking all front taken left place → IsFirstOn left place i → b ≡ get_or left i empty_batch
      → more ≡ taken ++ b ∷ [] → fewer ≡ set left i empty_batch → next ≡ place + length b.updates → IsTaking all front more fewer next
  taking_more all taken left more fewer front place next i b had first is added gone reached =
      subst (λ t. IsTaking all front t fewer next) (sym added) (subst (λ l. IsTaking all front (taken ++ b ∷ []) l next) (sym gone)
      (subst (λ p. IsTaking all front (taken ++ b ∷ []) (set left i empty_batch) p) (sym reached) (one_more all taken left front place i b had first is)))

  -- all batches that join were taken
  pub taking_ends : (all taken left : List (LoggedBatch K)) (front place : ℕ) → IsTaking all front taken left place → NoneLeadsOn left place → Join all front taken place
  taking_ends all taken left front place had none =
      let nothing : joining left place ≡ None = find_none (λ c. c.first == place + 1) empty_batch left (λ i lt. not_next left place i had.lawful lt (none i lt)) in
      subst (λ bs. Join all front bs place) (append-nil taken) (had.joined [] place (refl, had.same place (omega arith) ∙ nothing))

-- the place counts the updates of a batch more
pub one_counted : {K : ℕ} (front place next : ℕ) (taken more : List (LoggedBatch K)) (b : LoggedBatch K) → place ≡ front + length (flat_map (λ c. c.updates) taken) → more ≡ taken ++ b ∷ [] → next ≡ place + length b.updates
    → next ≡ front + length (flat_map (λ c. c.updates) more)
one_counted {K} front place next taken more b counted added reached =
    let updates : LoggedBatch K → _ = λ c. c.updates in
    let all : flat_map updates more ≡ flat_map updates taken ++ b.updates = ap (flat_map updates) added ∙ flat_map-append updates taken (b ∷ []) ∙ ap (λ us. flat_map updates taken ++ us) (append-nil b.updates) in
    omega (arith, counted, reached, ap length all, length-append (flat_map updates taken) b.updates)

-- of a list some batches were taken, each of which is of the list, and what is left has updates only in batches of the list
pub record AreFrom {K : ℕ} (all taken left : List (LoggedBatch K)) : Type 0 where
  pub among : All (Contains all) taken
  pub rest : All (λ b. 1 ≤ length b.updates → Contains all b) left

module _ {K : ℕ} (all : List (LoggedBatch K)) where
  -- nothing was taken yet
  pub from_begins : (taken : List (LoggedBatch K)) → taken ≡ [] → AreFrom all taken all
  from_begins taken none = record {
    among = subst (All (Contains all)) (sym none) (All-nil (Contains all));
    rest = All-weaker (Contains all) (λ b. 1 ≤ length b.updates → Contains all b) (λ b there some. there) all (All-contains_itself all);
  }

  -- a batch more is taken
  pub from_more : (taken left more fewer : List (LoggedBatch K)) (place i : ℕ) (b : LoggedBatch K) → AreFrom all taken left → IsFirstOn left place i → b ≡ get_or left i empty_batch → more ≡ taken ++ b ∷ [] → fewer ≡ set left i empty_batch → AreFrom all more fewer
  from_more taken left more fewer place i b had first is added gone = record {
    among = subst (All (Contains all)) (sym added) (All-push (Contains all) taken b had.among (subst (Contains all) (sym is) (had.rest i empty_batch first.inside first.leads.some)));
    rest = subst (All (λ c. 1 ≤ length c.updates → Contains all c)) (sym gone) (All-set (λ c. 1 ≤ length c.updates → Contains all c) left i empty_batch (λ some. absurd (omega (arith, some))) had.rest);
  }
