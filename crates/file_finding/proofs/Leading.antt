-- What is kept on a file that is found in an image leads along the batches that join the root to where the image stands.
use Rattle.std.proofs.Common.{◌≡◌, ◌<◌, ◌≤◌, ◌⊎◌, inl, inr, ◌+◌, ◌==◌, ℕ, Bool, true, false, cond, List, map, length, slice_index, All, Contains, refl, sym, ap, subst, ◌∙◌, arith, eqb-true}
use Rattle.std.specs.Prelude.{slice_get, Some}
use Rattle.grid_model.specs.LayoutLaws.{StandsOver}
use Rattle.grid_model.specs.Layouts.{Layout}
use Rattle.grid_model.specs.Tables.{Table}
use Rattle.grid_model.specs.Lone.{opened}
use Rattle.grid_model.specs.Spellings.{LoggedBatch}
use Rattle.grid_model.specs.Images.{HasBatches, open_slots, written_slots, of_session, last_gate, Join, Found, MakesTable, RootSpells, MayRedoAll, updates_taken, layout_after}
use Rattle.journal_slots.proofs.OneScan.{one_list}
use Rattle.history_pages.specs.KnownPages.{AreaHolds}
use Rattle.file_images.specs.Kept.{Counting, Barred, PlacedBatch, Kept, on_half}
use Rattle.file_images.specs.Leads.{Standing, RootHolds, CountsOn, IsKnown, Lineage, LeadsAlong}
use Rattle.file_images.proofs.Earlier.{open_ascend}
use Rattle.file_images.proofs.Elements.{Among, contains_it, among_these, from_map, from_filter}
use Rattle.file_finding.proofs.Findings.{few_attributes}
use Rattle.file_finding.proofs.Pages.{pages_held, area_holds}
use Rattle.file_finding.proofs.Slots.{placed_batch, placed_is, begin_of, batch_spelled, placed_all}
use Rattle.file_finding.proofs.Opened.{batch_on, from_open, into_open, open_spelled, counts_there}
use Rattle.file_finding.proofs.Taking.{joined_among, joined_chain, IsTakenOrPassed, taken_or_passed}
use Rattle.file_finding.proofs.Kept.{root, kept, gates_on, half_is}

module _ {K : ℕ} (image : List ℕ) (f : Found K) (n : ℕ) (t : Table) (makes : MakesTable image f n t) (batches : List (LoggedBatch K)) (written : HasBatches f.shape image (written_slots f.gates) batches) where
  abbrev k : Kept K
  k = kept image f n makes.is_found batches written

  abbrev on : ℕ × ℕ → LoggedBatch K
  on = batch_on f.shape image f.gates batches makes.is_found.shape.lawful makes.is_found.gates written

  abbrev gates : ℕ → List ℕ
  gates = gates_on image f n makes.is_found batches written

  abbrev slots : List (ℕ × ℕ)
  slots = open_slots f.gates

  abbrev joining_ones : List (LoggedBatch K)
  joining_ones = of_session f.root.session (map on slots)

  -- the batches that are found are those on the open slots
  batches_are : f.batches ≡ map on slots
  batches_are = one_list f.shape image (few_attributes K image f.shape makes.is_found.shape) slots f.batches (map on slots) makes.is_found.batches (open_spelled f.shape image f.gates batches makes.is_found.shape.lawful makes.is_found.gates written)

  they_join : Join joining_ones f.root.front f.taken n
  they_join = subst (λ (bs : List (LoggedBatch K)). Join (of_session f.root.session bs) f.root.front f.taken n) batches_are makes.is_found.taken

  -- each has its slot, and its session
  slot_of : (b : LoggedBatch K) → Among b joining_ones → (b.session ≡ f.root.session) × ((x : ℕ × ℕ) × Among x slots × (b ≡ on x))
  slot_of b m = let kept_ones = from_filter (λ x. x.session == f.root.session) (map on slots) b m in (eqb-true b.session f.root.session kept_ones.1, from_map on slots b kept_ones.0)

  -- none is empty
  none_empty : (b : LoggedBatch K) → Among b joining_ones → 0 < length b.updates
  none_empty b m =
      let x = (slot_of b m).1 in
      let open_it = from_open f.shape image f.gates batches makes.is_found.shape.lawful makes.is_found.gates written x.0 x.1 in
      let spelled = batch_spelled f.shape image f.gates batches makes.is_found.shape.lawful makes.is_found.gates written x.0.0 x.0.1 open_it.two open_it.inside in
      subst (λ (c : LoggedBatch K). 0 < length c.updates) (sym x.2) (omega (arith, spelled.lawful.some))

  -- the batch of an open slot counts there
  abbrev counts_on : (x : ℕ × ℕ) (b : LoggedBatch K) → Among x slots → b ≡ on x → CountsOn k b
  counts_on x b m same = record {
    half = x.0;
    slot = x.1;
    two = is_two x m;
    there = there_at x m ∙ ap (λ (c : LoggedBatch K). Some (record { batch = c; gate = Counting })) (sym same);
  }
    where
      is_two : (x : ℕ × ℕ) → Among x slots → x.0 < 2
      is_two x m = (from_open f.shape image f.gates batches makes.is_found.shape.lawful makes.is_found.gates written x m).two

      there_at : (x : ℕ × ℕ) → Among x slots → slice_get (on_half k x.0) x.1 ≡ Some (record { batch = on x; gate = Counting })
      there_at x m =
          ap (λ (ps : List (PlacedBatch K)). slice_get ps x.1) (half_is image f n makes.is_found batches written x.0 (is_two x m))
          ∙ counts_there f.shape image f.gates batches makes.is_found.shape.lawful makes.is_found.gates written x m

  -- so each that is taken does, and is of the root's session
  taken_there : (b : LoggedBatch K) → Contains f.taken b → (b.session ≡ f.root.session) × CountsOn k b
  taken_there b m =
      let s = slot_of b (joined_among joining_ones f.root.front n f.taken b they_join (among_these b f.taken m)) in
      (s.0, counts_on s.1.0 b s.1.1 s.1.2)

  -- one that counts is taken, or passed over, or begins beyond what is reached
  abbrev IsKnownHere : ℕ → ℕ → PlacedBatch K → Type 0
  IsKnownHere h i p = IsKnown k f.root.front f.taken n n h i p

  split : (i m : ℕ) → (i ≤ m) ⊎ (m < i)
  split i m = grind arith

  counting_known : (h i : ℕ) (p : PlacedBatch K) → Among (h, i) slots → p.batch ≡ on (h, i) → p.batch.session ≡ f.root.session → IsKnownHere h i p
  counting_known h i p m same mine = elim (split p.batch.first f.root.front) [
    | inl low ↦ inr (inl low)
    | inr high ↦ elim (split p.batch.first (n + 1)) [
      | inr far ↦ inr (inr (inr (inr far)))
      | inl near ↦ by (taken_or_passed on slots (open_ascend f.gates) f.root.session n none_empty (h, i) m (subst (λ (b : LoggedBatch K). b.session ≡ f.root.session) same mine) f.root.front f.taken they_join
          (subst (λ (b : LoggedBatch K). f.root.front < b.first) same high) (subst (λ (b : LoggedBatch K). b.first ≤ n + 1) same near))
    ]
  ]
    where
      by : IsTakenOrPassed on slots (open_ascend f.gates) f.root.session n none_empty (h, i) m (subst (λ (b : LoggedBatch K). b.session ≡ f.root.session) same mine) f.taken → IsKnownHere h i p
      by (inl taken) = inr (inr (inl (subst (Contains f.taken) (sym same) (contains_it (on (h, i)) f.taken taken))))
      by (inr (behind, earlier)) = inr (inr (inr (inl (record {
        behind = subst (λ (b : LoggedBatch K). b.first ≤ n) (sym same) behind;
        later = λ b there_it at.
            let e = earlier b (among_these b f.taken there_it) (at ∙ ap (λ (c : LoggedBatch K). c.first) same) in
            record { on = counts_on e.0 b e.1 (sym e.2); before = e.3 };
      }))))

  all_known : (h i : ℕ) (p : PlacedBatch K) → h < 2 → slice_get (on_half k h) i ≡ Some p → p.batch.session ≡ f.root.session → IsKnownHere h i p
  all_known h i p two at mine = by (slice_index (gates h) i == 1) refl
    where
      stands : (i < last_gate (gates h)) × (p ≡ placed_batch batches (gates h) (begin_of f.shape image f.gates batches makes.is_found.shape.lawful makes.is_found.gates written h) i)
      stands = placed_is batches (gates h) (begin_of f.shape image f.gates batches makes.is_found.shape.lawful makes.is_found.gates written h) i p
          (ap (λ (ps : List (PlacedBatch K)). slice_get ps i) (sym (half_is image f n makes.is_found batches written h two)) ∙ at)

      by : (b : Bool) → (slice_index (gates h) i == 1) ≡ b → IsKnownHere h i p
      by true e = counting_known h i p (into_open f.shape image f.gates batches makes.is_found.shape.lawful makes.is_found.gates written h i two stands.0 (eqb-true (slice_index (gates h) i) 1 e)) (ap (λ (q : PlacedBatch K). q.batch) stands.1) mine
      by false e = inl (ap (λ (q : PlacedBatch K). q.gate) stands.1 ∙ ap (λ (b : Bool). cond b Counting Barred) e)

  module _ (L : Layout K) (spells : RootSpells image f L) (stands : StandsOver f.shape L f.table) where
    pub area_kept : AreaHolds (pages_held f.shape image f.area) f.area L f.table
    area_kept = area_holds f.shape image f.area makes.is_found.area.lawful.pages L f.table stands spells.scales spells.pages

    root_holds : RootHolds k (root image f n makes.is_found batches written) L f.table
    root_holds = record { scales = area_kept.scales; directory = area_kept.directory; numbers = area_kept.numbers; stands = stands; records = spells.records; pages = area_kept.pages }

    -- the standing that it leads to, and along what
    abbrev pub standing : Standing K
    standing = record { place = n; table = t; layout = layout_after L (updates_taken f) }

    abbrev pub lineage : Lineage K
    lineage = record { layout = L; table = f.table; taken = f.taken }

    pub leads_along : All (λ b. b.session ≤ f.root.session) batches → MayRedoAll f.shape (opened f.table L f.root.front) (updates_taken f) → LeadsAlong k (root image f n makes.is_found batches written) standing lineage
    leads_along sessions may = record {
      holds = root_holds;
      chain = joined_chain joining_ones f.root.front n f.taken none_empty they_join;
      there = taken_there;
      known = all_known;
      sessions = λ h i p two at. placed_all f.shape image f.gates batches makes.is_found.shape.lawful makes.is_found.gates written (λ b. b.session ≤ f.root.session) sessions h i p two
          (ap (λ (ps : List (PlacedBatch K)). slice_get ps i) (sym (half_is image f n makes.is_found batches written h two)) ∙ at);
      makes_table = makes.table;
      makes_layout = refl;
      may = may;
      doubt = λ d no. absurd cc;
    }
