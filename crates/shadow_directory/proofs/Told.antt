-- The parts after a change of a layout, and the directory that its pages spell.
use Rattle.std.proofs.Common.{◌≡◌, ◌<◌, ◌≤◌, ◌^◌, ◌==◌, ◌++◌, ◌∷◌, ◌⊎◌, inl, inr, ℕ, Bool, true, false, cond, List, [], ◌&&◌, min, max, map, length, slice_index, slice_index_or, nat_le, Option, Some, None, IsTrue, IsSome, append_assoc, eq-eqb, refl, sym, ap, ◌∙◌, subst, arith, true≢false, nat_lt, lt-ltb, leb-true}
use Rattle.std.proofs.lemmas.Bool.{cases_lt, or_left, or_right}
use Rattle.std.proofs.lemmas.List.{length-map, get_or-map, get_or_past, map-append}
use Rattle.std.specs.Option.{option_map_or, unwrap_or}
use Rattle.grid_types.specs.declared.layout_change.Cut.{Cut}
use Rattle.grid_types.specs.declared.layout_change.LayoutChange.{LayoutChange}
use Rattle.grid_types.specs.declared.layout_change.LayoutChange.TheVariants as note
use Rattle.grid_types.specs.declared.owner.Owner.{Owner}
use Rattle.grid_types.specs.declared.owner.Owner.TheVariants.{Bucket, Part}
use Rattle.grid_types.specs.declared.shape.Shape.{Shape}
use Rattle.grid_types.specs.declared.sizes.TheConstants.{FEWEST_PAGES, MOST_PAGES, MOST_SLOTS}
use Rattle.grid_types.specs.declared.update.Update.{Update}
use Rattle.grid_types.specs.Shapes.{is_shape, is_from_to, has_lawful_buckets, has_lawful_pages, has_lawful_bounds}
use Rattle.grid_types.proofs.Numbers.{first, second}
use Rattle.grid_model.specs.Lists.{is_among}
use Rattle.grid_model.specs.Scales.{scale_of, interval}
use Rattle.grid_model.specs.Cells.{dims, parts, corner, all_cells}
use Rattle.grid_model.specs.Tables.{Table, effect}
use Rattle.grid_model.specs.Layouts.{BucketBox, Layout, box, holder, number_at, directory, directory_part}
use Rattle.grid_model.specs.LayoutLaws.{StandsOver}
use Rattle.grid_model.specs.Lone.{renewed}
use Rattle.grid_model.specs.Notes.{right_of, scales_after, split, after_note_at}
use Rattle.grid_model.specs.Spellings.{directory_spelling}
use Rattle.grid_model.proofs.Holders.{holder-box}
use Rattle.history_pages.specs.OwnerPages.{owner_page}
use Rattle.history_pages.specs.PageLaws.{IsChange, page_after}
use Rattle.history_pages.proofs.Changes.{box-there}
use Rattle.history_pages.proofs.Cutting.{CutsBox, lawful-cut}
use Rattle.history_pages.proofs.Joining.{JoinsBox, lawful-join, after-join}
use Rattle.directory_changes.specs.Changes.{cell_box, directory_change, parts_changed}
use Rattle.directory_changes.specs.declared.change.DirectoryChange.{DirectoryChange}
use Rattle.directory_changes.specs.declared.change.DirectoryChange.TheVariants.{Patch, Grow}
use Rattle.directory_changes.proofs.Lawful.{lawful-scale}
use Rattle.directory_changes.proofs.Renewed.{same-parts}
use Rattle.history_pages.proofs.Renewed.{new-page}
use Rattle.shadow_directory.specs.declared.buckets.NewBucket.{NewBucket}
use Rattle.history_pages.specs.NewPages.{new_page, new_pages}
use Rattle.shadow_directory.specs.NewPages.{bucket_pages, part_pages}
use Rattle.shadow_directory.specs.declared.pages.ChangePages.{Ghosts}
use Rattle.shadow_directory.specs.Calls.{Tells, TellsPages}
use Rattle.shadow_directory.specs.Directories.{IsPartAfter, AreAfter, SpellDirectory}
use Rattle.shadow_directory.proofs.After.{NamesAfter, part-after, part-is, directory-long}
use Rattle.shadow_directory.proofs.CutNames.{names-patched, names-grown}
use Rattle.shadow_directory.proofs.MergeNames.{names-merged}

module _ {K : ℕ} (shape : Shape) (L : Layout K) (t : Table) (u : Update K) where
  cut-after : (c : Cut) (right : ℕ) (e : ℕ × BucketBox K) → IsChange shape L t u (note.Cut c right) e → (p : ℕ) → IsPartAfter (dims L.scales) (directory_change L e (note.Cut c right)) (directory L) p (directory_part (split L e.0 e.1 c right) p)
  unfolding directory_change
  cut-after c right e h p = by c.fresh refl
    where
      there : box L e.0 ≡ Some e.1
      there = (box-there shape L t u (note.Cut c right) e h).0

      is : CutsBox L e.1 c right
      is = lawful-cut shape L t u e c right h.stands h.lawful h.holds

      by : (f : Bool) → c.fresh ≡ f
          → IsPartAfter (dims L.scales) (cond f (Grow c.attribute (interval (scale_of L.scales c.attribute) c.value) (cell_box (scales_after L.scales c) (right_of e.1 c).region) right) (Patch (cell_box L.scales (right_of e.1 c).region) right)) (directory L) p (directory_part (split L e.0 e.1 c right) p)
      by true q = part-after L (split L e.0 e.1 c right) (Grow c.attribute (interval (scale_of L.scales c.attribute) c.value) (cell_box (scales_after L.scales c) (right_of e.1 c).region) right) p (names-grown shape L t e.0 e.1 c right h.stands.sound there is (lawful-scale shape L t u c right h.stands h.lawful) q)
      by false q = part-after L (split L e.0 e.1 c right) (Patch (cell_box L.scales (right_of e.1 c).region) right) p (names-patched shape L t e.0 e.1 c right h.stands.sound there is (lawful-scale shape L t u c right h.stands h.lawful) q)

  merge-after : (m : ℕ) (e : ℕ × BucketBox K) → IsChange shape L t u (note.Merge m) e → (p : ℕ) → IsPartAfter (dims L.scales) (directory_change L e (note.Merge m)) (directory L) p (directory_part (after_note_at L e (note.Merge m)) p)
  unfolding directory_change
  merge-after m e h p =
      let is : JoinsBox shape L (effect t u) e.0 e.1 m = lawful-join shape L t u e m h.stands h.lawful h.holds in
      let there = (box-there shape L t u (note.Merge m) e h).0 in
      part-after L (after_note_at L e (note.Merge m)) (Patch (cell_box L.scales (unwrap_or (box L (max e.0 m)) e.1).region) (min e.0 m)) p
      (subst (λ (M : Layout K). NamesAfter L M (Patch (cell_box L.scales (unwrap_or (box L (max e.0 m)) e.1).region) (min e.0 m))) (sym (after-join shape L (effect t u) e m is)) (names-merged shape L t (effect t u) e.0 e.1 m h.stands.sound there is))

  -- the cells of each part that a change renews, after it
  pub are-after : (n : LayoutChange) (e : ℕ × BucketBox K) → IsChange shape L t u n e → AreAfter (dims L.scales) (directory_change L e n) (directory L) (directory_part (after_note_at L e n))
  unfolding parts_changed directory_change
  are-after note.Plain e h p among = absurd (true≢false (sym among))
  are-after (note.Cut c right) e h p among = cut-after c right e h p
  are-after (note.Merge m) e h p among = merge-after m e h p

  -- a shape has at most as many pages as there may be
  few-pages : IsTrue (is_shape shape) → shape.pages ≤ 65536
  unfolding is_shape
  few-pages e =
      let pages = first (has_lawful_pages shape) (has_lawful_bounds shape) (second (has_lawful_buckets shape) (has_lawful_pages shape && has_lawful_bounds shape) e) in
      let range = first (is_from_to FEWEST_PAGES MOST_PAGES shape.pages) (is_from_to 1 MOST_SLOTS shape.slots) pages in
      leb-true shape.pages MOST_PAGES (second (nat_le FEWEST_PAGES shape.pages) (nat_le shape.pages MOST_PAGES) range)

  -- the number of a box is below that of the pages
  number-fits : StandsOver shape L t → (k : List ℕ) → number_at L k < 2 ^ 32
  number-fits stands k = by (holder L k) refl
    where
      by : (o : Option (ℕ × BucketBox K)) → holder L k ≡ o → option_map_or (λ e. e.0) o 0 < 2 ^ 32
      by None e = omega arith
      by (Some x) e =
          let found = holder-box k L x stands.sound.numbered e in
          omega (arith, stands.sound.below_pages x.0 x.1 found.0, few-pages stands.lawful)

  cells-fit : StandsOver shape L t → (i : ℕ) → slice_index (directory L) i < 2 ^ 32
  unfolding directory
  cells-fit stands i = by (cases_lt i (length (all_cells L.scales)))
    where
      name : List ℕ → ℕ
      name cell = number_at L (corner L.scales cell)

      by : (i < length (all_cells L.scales)) ⊎ (length (all_cells L.scales) ≤ i) → slice_index (map (λ cell. number_at L (corner L.scales cell)) (all_cells L.scales)) i < 2 ^ 32
      by (inl p) = omega (arith, get_or-map (λ cell. number_at L (corner L.scales cell)) (all_cells L.scales) i [] 0 p, number-fits stands (corner L.scales (slice_index_or (all_cells L.scales) i [])))
      by (inr p) = omega (arith, get_or_past (map (λ cell. number_at L (corner L.scales cell)) (all_cells L.scales)) i 0 (omega (arith, p, length-map (all_cells L.scales) (λ cell. number_at L (corner L.scales cell)))))

  -- the pages of the owners of a layout spell its directory
  pub spell-it : (f : Owner → Option (List ℕ)) → StandsOver shape L t → ((o : Owner) → f o ≡ owner_page L t o) → SpellDirectory (dims L.scales) (directory L) f
  unfolding owner_page
  spell-it f stands each = record {
    count = directory-long L;
    in_range = cells-fit stands;
    each = λ p lt.
        each (Part p)
        ∙ ap (λ b. cond b (Some (directory_spelling p (directory_part L p))) None) (lt-ltb p (parts L.scales) lt)
        ∙ ap (λ cells. Some (directory_spelling p cells)) (part-is L p);
  }

  -- so what is told of the pages spells it
  pub tells-layout : {P : Type 0} (g : Ghosts P) (pages : P) (ns : List ℕ) → StandsOver shape L t → ns ≡ dims L.scales → TellsPages g pages L t → Tells g pages ns (directory L)
  tells-layout g pages ns stands same told = record {
    given = told.given;
    told = told.told;
    spell = subst (λ ms. SpellDirectory ms (directory L) told.given) (sym same) (spell-it told.given stands told.each);
  }

  -- the page of a part after a change, where there is one
  part-page : (n : LayoutChange) (e : ℕ × BucketBox K) (p : ℕ) → IsSome (page_after L t u n e (Part p)) → page_after L t u n e (Part p) ≡ Some (directory_spelling p (directory_part (after_note_at L e n) p))
  unfolding owner_page
  part-page n e p some = by (nat_lt p (parts (after_note_at L e n).scales)) some
    where
      by : (s : Bool) → IsSome (cond s (Some (directory_spelling p (directory_part (after_note_at L e n) p))) None) → cond s (Some (directory_spelling p (directory_part (after_note_at L e n) p))) None ≡ Some (directory_spelling p (directory_part (after_note_at L e n) p))
      by true q = refl
      by false q = absurd (true≢false (sym q))

  -- the new pages of the parts that a change renews
  pub part-pages-new : (n : LayoutChange) (e : ℕ × BucketBox K) → IsChange shape L t u n e → part_pages (directory_part (after_note_at L e n)) (renewed L e n).parts ≡ map (new_page L t u n e) (map Part (renewed L e n).parts)
  part-pages-new n e h = each (renewed L e n).parts (λ p among. new-page shape L t u n e (Part p) h among)
    where
      each : (ps : List ℕ) → ((p : ℕ) → is_among ps p ≡ true → IsSome (page_after L t u n e (Part p))) → part_pages (directory_part (after_note_at L e n)) ps ≡ map (new_page L t u n e) (map Part ps)
      each [] some = refl
      each (p ∷ ps) some =
          let here = part-page n e p (some p (or_left (p == p) (is_among ps p) (eq-eqb p p refl))) in
          let rest = each ps (λ q among. some q (or_right (p == q) (is_among ps q) among)) in
          λ i. (Part p, unwrap_or (sym here i) []) ∷ rest i

  -- all new pages: those of the buckets, then those of the parts
  pub pages-of-change : (n : LayoutChange) (e : ℕ × BucketBox K) (ns : List ℕ) (change : DirectoryChange K) (buckets : List NewBucket) (old mid new : List (Owner × List ℕ)) → IsChange shape L t u n e → ns ≡ dims L.scales → change ≡ directory_change L e n
      → bucket_pages buckets ≡ map (new_page L t u n e) (map Bucket (renewed L e n).buckets) → mid ≡ old ++ bucket_pages buckets → new ≡ mid ++ part_pages (directory_part (after_note_at L e n)) (parts_changed ns change) → new ≡ old ++ new_pages L t u n e
  unfolding new_pages
  pages-of-change n e ns change buckets old mid new h same is given first then =
      let parts-are : parts_changed ns change ≡ (renewed L e n).parts = (λ i. parts_changed (same i) (is i)) ∙ same-parts shape L t u n e h in
      then
      ∙ (λ i. first i ++ part_pages (directory_part (after_note_at L e n)) (parts-are i))
      ∙ append_assoc old (bucket_pages buckets) (part_pages (directory_part (after_note_at L e n)) (renewed L e n).parts)
      ∙ (λ i. old ++ (given i ++ part-pages-new n e h i))
      ∙ ap (λ xs. old ++ xs) (sym (map-append (new_page L t u n e) (map Bucket (renewed L e n).buckets) (map Part (renewed L e n).parts)))

  -- the parts after the change, in the words of what is handed in
  pub parts-are-after : (n : LayoutChange) (e : ℕ × BucketBox K) (ns : List ℕ) (change : DirectoryChange K) → IsChange shape L t u n e → ns ≡ dims L.scales → change ≡ directory_change L e n → AreAfter ns change (directory L) (directory_part (after_note_at L e n))
  parts-are-after n e ns change h same is =
      subst (λ ms. AreAfter ms change (directory L) (directory_part (after_note_at L e n))) (sym same)
      (subst (λ (x : DirectoryChange K). AreAfter (dims L.scales) x (directory L) (directory_part (after_note_at L e n))) (sym is) (are-after n e h))
