-- Claims and what is given back leave the place at which a file is read.
use Rattle.std.proofs.Common.{◌≡◌, ◌≤◌, ℕ, Bool, true, false, cond, List, [], ◌∷◌, Option, Some, None, is_some, filter, refl, sym, ap, ◌∙◌, true≢false}
use Rattle.std.specs.Prelude.{slice_get}
use Rattle.std.specs.Option.{option_map, unwrap_or}
use Rattle.std.specs.List.{count_by, list_any}
use Rattle.std.proofs.lemmas.Option.{same_Some}
use Rattle.grid_types.specs.declared.owner.Owner.{Owner}
use Rattle.grid_types.specs.declared.owner.Owner.TheVariants.{Bucket}
use Rattle.grid_types.specs.Pages.{page_of}
use Rattle.grid_types.specs.Shapes.{data_page}
use Rattle.grid_model.specs.Lists.{below}
use Rattle.disk_trait.specs.declared.disk.Disk.{Ghosts}
use Rattle.page_states.specs.declared.page_state.PageState.{PageState}
use Rattle.page_states.specs.Laws.{Serves, Keeps}
use Rattle.page_states.specs.States.{shows}
use Rattle.page_states.proofs.ClaimedPages.{claim_keeps_places}
use Rattle.file_books.specs.Books.{Books, OwnersHavePages, has_page}
use Rattle.file_state.proofs.Shown.{any_gives, counted, few_shown, shown_is}
use Rattle.grid_file.specs.Files.{OpenFile, client, with_claim}
use Rattle.grid_file.specs.Pages.{first_shown, page_here, front_place}
use Rattle.grid_file.proofs.Found.{none_first, shown_first, first_is_shown}

module _ (b : Books) (owners : OwnersHavePages b) where
  -- what tells of each owner which page it has
  abbrev number_told : Owner → Option (List ℕ)
  number_told o = option_map (λ p. p ∷ []) (page_here b o)

  here_is : (o : Owner) (p : ℕ) (x : PageState) → slice_get b.pages p ≡ Some x → shows o b.front x ≡ true → page_here b o ≡ Some p
  here_is o p x has shown = shown_first o b.front b.pages p x has shown (owners.one o)

  any_is : (o : Owner) → list_any (shows o b.front) b.pages ≡ is_some (number_told o)
  any_is o = by (list_any (shows o b.front) b.pages) refl
    where
      by : (t : Bool) → list_any (shows o b.front) b.pages ≡ t → t ≡ is_some (number_told o)
      by false e = sym (ap (λ (m : Option ℕ). is_some (option_map (λ p. p ∷ []) m)) (none_first o b.front b.pages e))
      by true e = let at = any_gives (shows o b.front) b.pages e in sym (ap (λ (m : Option ℕ). is_some (option_map (λ p. p ∷ []) m)) (here_is o at.0 at.1 at.2 at.3))

  told_served : Serves number_told (λ p. p ∷ []) b.front b.pages
  told_served = record {
    one = λ o. counted (shows o b.front) b.pages (owners.one o) ∙ ap (λ (t : Bool). cond {A = ℕ} t 1 0) (any_is o);
    spelled = λ p o x has shown. ap (option_map (λ q. q ∷ [])) (here_is o p x has shown);
  }

  module _ (states : List PageState) (keeps : Keeps b.front b.pages states) where
    served : Serves number_told (λ p. p ∷ []) b.front states
    served = keeps number_told (λ p. p ∷ []) told_served

    pub same_any : (o : Owner) → list_any (shows o b.front) states ≡ has_page b o
    same_any o = shown_is number_told (λ p. p ∷ []) b.front states served o ∙ sym (any_is o)

    -- each owner has the page that it had
    pub same_here : (o : Owner) → first_shown o b.front states ≡ page_here b o
    same_here o = by (first_shown o b.front states) refl
      where
        told : (m : Option ℕ) (p : ℕ) → option_map (λ q. q ∷ []) m ≡ Some (p ∷ []) → m ≡ Some p
        told None p e = absurd (cc)
        told (Some q) p e = ap (λ (xs : List ℕ). Some (first xs)) (same_Some (q ∷ []) (p ∷ []) e)
          where
            first : List ℕ → ℕ
            first [] = 0
            first (x ∷ xs) = x

        none : (m : Option ℕ) → is_some (option_map (λ (p : ℕ). p ∷ []) m) ≡ false → None ≡ m
        none None e = refl
        none (Some q) e = absurd (true≢false e)

        by : (m : Option ℕ) → first_shown o b.front states ≡ m → m ≡ page_here b o
        by (Some p) e = let at = first_is_shown o b.front states p e in sym (told (page_here b o) p (served.spelled p o at.0 at.1 at.2))
        by None e = none (page_here b o) (unseen (list_any (shows o b.front) states) refl)
          where
            unseen : (t : Bool) → list_any (shows o b.front) states ≡ t → is_some (number_told o) ≡ false
            unseen false is = sym (shown_is number_told (λ p. p ∷ []) b.front states served o) ∙ is
            unseen true is = seen (any_gives (shows o b.front) states is)
              where
                seen : (p : ℕ) × (x : PageState) × (slice_get states p ≡ Some x) × (shows o b.front x ≡ true) → is_some (number_told o) ≡ false
                seen at = absurd (clash (sym e ∙ shown_first o b.front states at.0 at.1 at.2 at.3 (few o)))
                  where
                    clash : None ≡ Some at.0 → ⊥
                    clash e = absurd (cc)

                    few : (q : Owner) → count_by (shows q b.front) states ≤ 1
                    few q = few_shown number_told (λ p. p ∷ []) b.front states served q

module _ {D : Type 0} (g : Ghosts D) (f : OpenFile D) (owners : OwnersHavePages f.books) (count : ℕ) where
  keeps : Keeps f.books.front f.books.pages (with_claim count f).books.pages
  keeps = claim_keeps_places client count f.books.front f.books.pages

  -- a claim leaves which owners have pages
  pub claim_any : (o : Owner) → has_page (with_claim count f).books o ≡ has_page f.books o
  claim_any o = same_any f.books owners (with_claim count f).books.pages keeps o

  here : (o : Owner) → page_here (with_claim count f).books o ≡ page_here f.books o
  here o = same_here f.books owners (with_claim count f).books.pages keeps o

  -- a claim leaves the place at which a file is read
  pub claim_place : front_place g (with_claim count f) ≡ front_place g f
  claim_place = λ i. record {
    shape = f.books.shape;
    scales = f.books.scales;
    numbers = filter (λ n. claim_any (Bucket n) i) (below f.books.shape.pages);
    pages = cond (g.honest f.disk) (Some (λ o. option_map (λ p. page_of (data_page f.books.shape p) (g.seen f.disk)) (here o i))) None;
    file_page = λ o. data_page f.books.shape (unwrap_or (here o i) 0);
  }
