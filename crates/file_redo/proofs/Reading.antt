-- What data pages read as, page by page.
use Rattle.std.proofs.Common.{◌≡◌, ◌⊎◌, inl, inr, ◌<◌, ◌≤◌, ℕ, Bool, true, false, List, filter, fold, length, replicate, Option, Some, None, is_some, refl, sym, ap, ◌∙◌, arith, true≢false}
use Rattle.std.specs.Prelude.{slice_get, slice_index, slice_index_or, Contains}
use Rattle.std.specs.Option.{option_map, unwrap_or}
use Rattle.std.proofs.lemmas.Bool.{cases_lt}
use Rattle.std.proofs.lemmas.List.{length-map}
use Rattle.std.proofs.lemmas.List.FromFn.{length-range_with_len, get_or-range_with_len}
use Rattle.std.proofs.lemmas.Option.{slice_get-map, slice_get-get_or, slice_get_past, unwrap_or-slice_get, get_or_from_slice_get}
use Rattle.grid_types.specs.declared.shape.Shape.{Shape}
use Rattle.grid_types.specs.Pages.{page_of}
use Rattle.grid_types.specs.Shapes.{data_page}
use Rattle.grid_model.specs.Lists.{below, is_among}
use Rattle.grid_model.proofs.Boxes.{one-value, some-not-none}
use Rattle.grid_model.proofs.Counts.{among-filter}
use Rattle.grid_model.proofs.Members.{among-from-contains, contains-filter, contains-range}
use Rattle.history_pages.specs.KnownPages.{settle_page, ask_nothing}
use Rattle.page_states.proofs.Lists.{same_by_get}
use Rattle.layout_pages.proofs.Present.{nothing-of}
use Rattle.layout_pages.proofs.Writes.{beside, within, length-written}
use Rattle.file_images.specs.Shows.{HoldsPages}
use Rattle.file_images.proofs.NewFile.{get_replicate}
use Rattle.file_redo.specs.Redoing.{newer, pages_read}

abbrev pub Pages : Type 0
Pages = List (Option (List ℕ))

-- pages of which the same is known at a number
pub same-index : (xs ys : Pages) (q : ℕ) → slice_get xs q ≡ slice_get ys q → slice_index_or xs q None ≡ slice_index_or ys q None
same-index xs ys q same = sym (unwrap_or-slice_get xs q None) ∙ ap (λ (o : Option (Option (List ℕ))). unwrap_or o None) same ∙ unwrap_or-slice_get ys q None

-- what is known of a page stands there
pub index-there : (xs : Pages) (q : ℕ) (bytes : List ℕ) → slice_index_or xs q None ≡ Some bytes → slice_get xs q ≡ Some (Some bytes)
index-there xs q bytes is = by (slice_get xs q) refl
  where
    at : unwrap_or (slice_get xs q) None ≡ Some bytes
    at = unwrap_or-slice_get xs q None ∙ is

    by : (o : Option (Option (List ℕ))) → slice_get xs q ≡ o → slice_get xs q ≡ Some (Some bytes)
    by None e = absurd (some-not-none bytes (sym (sym (ap (λ (o : Option (Option (List ℕ))). unwrap_or o None) e) ∙ at)))
    by (Some o) e = e ∙ ap (λ (v : Option (List ℕ)). Some v) (sym (ap (λ (o : Option (Option (List ℕ))). unwrap_or o None) e) ∙ at)

-- where nothing is known of any page, nothing is known of one
pub nothing-index : (n q : ℕ) (xs : Pages) → xs ≡ replicate n None → slice_index_or xs q None ≡ None
nothing-index n q xs all = by (slice_index_or xs q None) refl
  where
    by : (o : Option (List ℕ)) → slice_index_or xs q None ≡ o → o ≡ None
    by None e = refl
    by (Some bytes) e = get_replicate n None (Some bytes) q (ap (λ (ys : Pages). slice_get ys q) (sym all) ∙ index-there xs q bytes e)

-- of a page for which nothing is asked nothing is known
pub unasked-index : (xs : Pages) (ps : List ℕ) (q : ℕ) → is_among ps q ≡ true → slice_index_or (fold ask_nothing xs ps) q None ≡ None
unasked-index xs ps q a = elim (cases_lt q (length xs)) [
  | inl low ↦ get_or_from_slice_get (fold ask_nothing xs ps) q None None (within {X = Option (List ℕ)} (λ p. None) xs ps q a low)
  | inr high ↦ sym (unwrap_or-slice_get (fold ask_nothing xs ps) q None) ∙ ap (λ (o : Option (Option (List ℕ))). unwrap_or o None) (slice_get_past (fold ask_nothing xs ps) q (omega (arith, high, length-written {X = Option (List ℕ)} (λ p. None) xs ps)))
]

-- and of each other page what was
pub unasked-other : (xs : Pages) (ps : List ℕ) (q : ℕ) → is_among ps q ≡ false → slice_index_or (fold ask_nothing xs ps) q None ≡ slice_index_or xs q None
unasked-other xs ps q a = same-index (fold ask_nothing xs ps) xs q (beside {X = Option (List ℕ)} (λ p. None) xs ps q a)

-- what is known is not lost by what is read
newer-some : (f a : Option (List ℕ)) → is_some a ≡ true → is_some (newer f a) ≡ true
newer-some None a is = is
newer-some (Some bytes) a is = refl

-- what was read is newer
newer-first : (f a : Option (List ℕ)) → is_some f ≡ true → newer f a ≡ f
newer-first None a is = absurd (true≢false (sym is))
newer-first (Some bytes) a is = refl

module _ (n : ℕ) (fresh always : Pages) where
  -- a page as it reads
  pub read-at : (q : ℕ) → q < n → slice_get (pages_read n fresh always) q ≡ Some (newer (slice_index_or fresh q None) (slice_index_or always q None))
  read-at q low =
      let number : slice_index (below n) q ≡ q = get_or-range_with_len 0 n q 0 low ∙ omega arith in
      slice_get-map (λ p. newer (slice_index_or fresh p None) (slice_index_or always p None)) (below n) q
      ∙ ap (option_map (λ p. newer (slice_index_or fresh p None) (slice_index_or always p None))) (slice_get-get_or (below n) q 0 (omega (arith, low, length-range_with_len 0 n)) ∙ ap (λ (p : ℕ). Some p) number)

  pub read-many : length (pages_read n fresh always) ≡ n
  read-many = length-map (below n) (λ p. newer (slice_index_or fresh p None) (slice_index_or always p None)) ∙ length-range_with_len 0 n

  pub read-past : (q : ℕ) → n ≤ q → slice_get (pages_read n fresh always) q ≡ None
  read-past q high = slice_get_past (pages_read n fresh always) q (omega (arith, high, read-many))

  -- of a page of which something is always known something is read
  pub always-read : (q : ℕ) (bytes : List ℕ) → q < n → slice_get always q ≡ Some (Some bytes) → option_map is_some (slice_get (pages_read n fresh always) q) ≡ Some true
  always-read q bytes low is =
      ap (option_map is_some) (read-at q low)
      ∙ ap (λ (b : Bool). Some b) (newer-some (slice_index_or fresh q None) (slice_index_or always q None) (ap is_some (get_or_from_slice_get always q (Some bytes) None is)))

-- a page that was not written reads as what it always holds
pub unwritten-read : (n : ℕ) (fresh always : Pages) → length always ≡ n → (q : ℕ) → slice_index_or fresh q None ≡ None → slice_get (pages_read n fresh always) q ≡ slice_get always q
unwritten-read n fresh always many q none = elim (cases_lt q n) [
  | inl low ↦ read-at n fresh always q low ∙ ap (λ (f : Option (List ℕ)). Some (newer f (slice_index_or always q None))) none ∙ sym (slice_get-get_or always q None (omega (arith, low, many)))
  | inr high ↦ read-past n fresh always q high ∙ sym (slice_get_past always q (omega (arith, high, many)))
]

-- where nothing was written all pages read as what they always hold
pub nothing-written : (n : ℕ) (always : Pages) → length always ≡ n → pages_read n (replicate n None) always ≡ always
nothing-written n always many = same_by_get (pages_read n (replicate n None) always) always (λ q. unwritten-read n (replicate n None) always many q (nothing-index n q (replicate n None) refl))

-- where less is asked, what is read of the other pages stays
module _ (n : ℕ) (fresh always : Pages) (ps : List ℕ) where
  abbrev less : Pages
  less = pages_read n (fold ask_nothing fresh ps) (fold ask_nothing always ps)

  pub unasked-read : less ≡ fold ask_nothing (pages_read n fresh always) ps
  unasked-read = same_by_get less (fold ask_nothing (pages_read n fresh always) ps) (λ q. each q (cases_lt q n))
    where
      inside : (q : ℕ) → q < n → (b : Bool) → is_among ps q ≡ b → slice_get less q ≡ slice_get (fold ask_nothing (pages_read n fresh always) ps) q
      inside q low true a =
          read-at n (fold ask_nothing fresh ps) (fold ask_nothing always ps) q low ∙ (λ i. Some (newer (unasked-index fresh ps q a i) (unasked-index always ps q a i)))
          ∙ sym (within {X = Option (List ℕ)} (λ p. None) (pages_read n fresh always) ps q a (omega (arith, low, read-many n fresh always)))
      inside q low false a =
          read-at n (fold ask_nothing fresh ps) (fold ask_nothing always ps) q low ∙ (λ i. Some (newer (unasked-other fresh ps q a i) (unasked-other always ps q a i)))
          ∙ sym (read-at n fresh always q low) ∙ sym (beside {X = Option (List ℕ)} (λ p. None) (pages_read n fresh always) ps q a)

      each : (q : ℕ) → (q < n) ⊎ (n ≤ q) → slice_get less q ≡ slice_get (fold ask_nothing (pages_read n fresh always) ps) q
      each q (inl low) = inside q low (is_among ps q) refl
      each q (inr high) =
          read-past n (fold ask_nothing fresh ps) (fold ask_nothing always ps) q high
          ∙ sym (slice_get_past (fold ask_nothing (pages_read n fresh always) ps) q (omega (arith, high, read-many n fresh always, length-written {X = Option (List ℕ)} (λ p. None) (pages_read n fresh always) ps)))

-- where some pages are written, and what they read as is settled on what was read before, all is as it reads now
module _ (n : ℕ) (old new always : Pages) (ps : List ℕ) (each-reads : (q : ℕ) → is_among ps q ≡ true → is_some (slice_index_or new q None) ≡ true)
    (others : (q : ℕ) → (Contains ps q → ⊥) → slice_index_or new q None ≡ slice_index_or old q None) where
  pub settled-read : fold (settle_page new) (pages_read n old always) ps ≡ pages_read n new always
  settled-read = same_by_get (fold (settle_page new) (pages_read n old always) ps) (pages_read n new always) (λ q. each q (cases_lt q n))
    where
      none-there : (q : ℕ) → is_among ps q ≡ false → Contains ps q → ⊥
      none-there q a on = true≢false (sym (among-from-contains ps q on) ∙ a)

      inside : (q : ℕ) → q < n → (b : Bool) → is_among ps q ≡ b → slice_get (fold (settle_page new) (pages_read n old always) ps) q ≡ slice_get (pages_read n new always) q
      inside q low true a =
          within (λ p. slice_index_or new p None) (pages_read n old always) ps q a (omega (arith, low, read-many n old always))
          ∙ ap (λ (o : Option (List ℕ)). Some o) (sym (newer-first (slice_index_or new q None) (slice_index_or always q None) (each-reads q a))) ∙ sym (read-at n new always q low)
      inside q low false a =
          beside (λ p. slice_index_or new p None) (pages_read n old always) ps q a ∙ read-at n old always q low
          ∙ ap (λ (o : Option (List ℕ)). Some (newer o (slice_index_or always q None))) (sym (others q (none-there q a))) ∙ sym (read-at n new always q low)

      each : (q : ℕ) → (q < n) ⊎ (n ≤ q) → slice_get (fold (settle_page new) (pages_read n old always) ps) q ≡ slice_get (pages_read n new always) q
      each q (inl low) = inside q low (is_among ps q) refl
      each q (inr high) =
          slice_get_past (fold (settle_page new) (pages_read n old always) ps) q (omega (arith, high, read-many n old always, length-written (λ p. slice_index_or new p None) (pages_read n old always) ps))
          ∙ sym (read-past n new always q high)

-- what all written pages read as is settled on what they always hold: then all is as it reads
module _ (n : ℕ) (fresh always : Pages) (many : length always ≡ n) where
  abbrev is_fresh : ℕ → Bool
  is_fresh p = is_some (slice_index_or fresh p None)

  abbrev pub fresh_pages : List ℕ
  fresh_pages = filter is_fresh (below n)

  fresh-among : (q : ℕ) → is_among fresh_pages q ≡ true → is_fresh q ≡ true
  fresh-among q a = (among-filter is_fresh (below n) q a).1

  pub none-fresh : (q : ℕ) → Contains fresh_pages q → slice_index_or fresh q None ≡ None → ⊥
  none-fresh q on none = true≢false (sym (fresh-among q (among-from-contains fresh_pages q on)) ∙ ap is_some none)

  pub all-settled : fold (settle_page fresh) always fresh_pages ≡ pages_read n fresh always
  all-settled = same_by_get (fold (settle_page fresh) always fresh_pages) (pages_read n fresh always) (λ q. each q (cases_lt q n))
    where
      beside-fresh : (q : ℕ) → is_fresh q ≡ false → (a : Bool) → is_among fresh_pages q ≡ a → slice_get (fold (settle_page fresh) always fresh_pages) q ≡ slice_get (pages_read n fresh always) q
      beside-fresh q e true a = absurd (true≢false (sym (fresh-among q a) ∙ e))
      beside-fresh q e false a = beside (λ p. slice_index_or fresh p None) always fresh_pages q a ∙ sym (unwritten-read n fresh always many q (nothing-of (slice_index_or fresh q None) e))

      inside : (q : ℕ) → q < n → (b : Bool) → is_fresh q ≡ b → slice_get (fold (settle_page fresh) always fresh_pages) q ≡ slice_get (pages_read n fresh always) q
      inside q low true e =
          within (λ p. slice_index_or fresh p None) always fresh_pages q (among-from-contains fresh_pages q (contains-filter is_fresh (below n) q (contains-range 0 n q (omega arith) (omega (arith, low))) e)) (omega (arith, low, many))
          ∙ ap (λ (o : Option (List ℕ)). Some o) (sym (newer-first (slice_index_or fresh q None) (slice_index_or always q None) e)) ∙ sym (read-at n fresh always q low)
      inside q low false e = beside-fresh q e (is_among fresh_pages q) refl

      each : (q : ℕ) → (q < n) ⊎ (n ≤ q) → slice_get (fold (settle_page fresh) always fresh_pages) q ≡ slice_get (pages_read n fresh always) q
      each q (inl low) = inside q low (is_fresh q) refl
      each q (inr high) =
          slice_get_past (fold (settle_page fresh) always fresh_pages) q (omega (arith, high, many, length-written (λ p. slice_index_or fresh p None) always fresh_pages))
          ∙ sym (read-past n fresh always q high)

-- an image that has what was written and what is always held has all that is read
pub read-held : (s : Shape) (fresh always : Pages) (image : List ℕ) → HoldsPages s fresh image → HoldsPages s always image → HoldsPages s (pages_read s.pages fresh always) image
read-held s fresh always image now ever p bytes is = elim (cases_lt p s.pages) [
  | inl low ↦ by (slice_index_or fresh p None) refl (one-value (newer (slice_index_or fresh p None) (slice_index_or always p None)) (Some bytes) (sym (read-at s.pages fresh always p low) ∙ is))
  | inr high ↦ absurd (some-not-none (Some bytes) (sym is ∙ read-past s.pages fresh always p high))
]
  where
    by : (f : Option (List ℕ)) → slice_index_or fresh p None ≡ f → newer f (slice_index_or always p None) ≡ Some bytes → page_of (data_page s p) image ≡ bytes
    by None e same = ever p bytes (index-there always p bytes same)
    by (Some b) e same = now p bytes (index-there fresh p bytes (e ∙ same))
