-- A sweep frees replaced pages alone, so what pages hold at the front stays.
use Rattle.std.proofs.Common.{◌≡◌, ◌≤◌, ◌<◌, ℕ, Bool, true, false, ◌&&◌, cond, List, map, not, fold, length, Option, Some, None, is_some, refl, sym, ap, ◌∙◌, arith, true≢false}
use Rattle.std.specs.Prelude.{slice_get, nat_le}
use Rattle.std.specs.Option.{option_map, option_map_or}
use Rattle.std.proofs.lemmas.Bool.{le-ltb}
use Rattle.std.proofs.lemmas.List.{length-map}
use Rattle.std.proofs.lemmas.Option.{slice_get-map, slice_get_within, same_Some}
use Rattle.grid_types.specs.declared.owner.Owner.{Owner}
use Rattle.grid_types.specs.Owners.{same_owner}
use Rattle.grid_types.proofs.Numbers.{first}
use Rattle.grid_model.specs.Lists.{below, is_among}
use Rattle.grid_model.specs.Tables.{Table}
use Rattle.grid_model.specs.Layouts.{Layout}
use Rattle.grid_model.proofs.Counts.{among-filter}
use Rattle.grid_model.proofs.Members.{contains-filter, contains-range, among-from-contains}
use Rattle.history_pages.specs.OwnerPages.{owner_page}
use Rattle.history_pages.specs.KnownPages.{ask_nothing}
use Rattle.page_states.specs.declared.page_state.PageState.{PageState}
use Rattle.page_states.specs.declared.page_state.PageState.TheVariants.{Free, Claimed, Live}
use Rattle.page_states.specs.Counts.{once, once_at}
use Rattle.page_states.specs.States.{shows, is_replaced, is_kept}
use Rattle.page_states.specs.Effects.{freed, is_gone, swept}
use Rattle.page_states.specs.Laws.{Keeps}
use Rattle.page_states.proofs.Lists.{same_by_get}
use Rattle.page_states.proofs.SettledPlaces.{freeing_settles}
use Rattle.page_states.proofs.Shown.{and_false, same_keeps}
use Rattle.layout_pages.specs.Holding.{HoldLayout, is_live, bytes_in}
use Rattle.layout_pages.specs.Steps.{gone_pages}
use Rattle.layout_pages.proofs.Live.{shown-live, same-bytes}
use Rattle.layout_pages.proofs.Serving.{other-bytes}
use Rattle.layout_pages.proofs.Writes.{written, beside, within, map-written}

module _ (places : List ℕ) (states : List PageState) where
  -- the test of a page by its number
  abbrev gone_at : ℕ → Bool
  gone_at p = option_map_or (is_gone places) (slice_get states p) false

  -- a page that a sweep frees is gone
  pub gone-among : (q : ℕ) → is_among (gone_pages places states) q ≡ true → gone_at q ≡ true
  gone-among q h = (among-filter gone_at (below (length states)) q h).1

  -- and each page that is gone is freed
  pub among-gone : (q : ℕ) (x : PageState) → slice_get states q ≡ Some x → is_gone places x ≡ true → is_among (gone_pages places states) q ≡ true
  among-gone q x has gone = among-from-contains (gone_pages places states) q
      (contains-filter gone_at (below (length states)) q (contains-range 0 (length states) q (omega arith) (omega (arith, slice_get_within states q x has))) (ap (λ (o : Option PageState). option_map_or (is_gone places) o false) has ∙ gone))

  -- a page after the sweep
  pub swept-at : (q : ℕ) (x : PageState) → slice_get states q ≡ Some x → slice_get (swept places states) q ≡ Some (freed (is_gone places) x)
  swept-at q x has = slice_get-map (freed (is_gone places)) states q ∙ ap (option_map (freed (is_gone places))) has

-- a replaced page shows nothing at the front
pub replaced-unseen : (o : Owner) (front : ℕ) (x : PageState) → is_replaced x ≡ true → ((w : Owner) (from to : ℕ) → x ≡ Live w from (Some to) → to ≤ front) → shows o front x ≡ false
replaced-unseen o front Free is ended = refl
replaced-unseen o front (Claimed s) is ended = refl
replaced-unseen o front (Live w from None) is ended = absurd (true≢false (sym is))
replaced-unseen o front (Live w from (Some to)) is ended =
    ap (λ (b : Bool). same_owner w o && (nat_le from front && b)) (le-ltb front to (ended w from to refl))
    ∙ ap (λ (b : Bool). same_owner w o && b) (and_false (nat_le from front)) ∙ and_false (same_owner w o)

module _ {K : ℕ} (states : List PageState) (always : List (Option (List ℕ))) (front : ℕ) (L : Layout K) (t : Table) (places : List ℕ) (h : HoldLayout states always front L t) where
  abbrev left : List (Option (List ℕ))
  left = fold ask_nothing always (gone_pages places states)

  -- of what the sweep frees nothing is known, and of each other page what was
  sweep-known : map is_some left ≡ map is_live (swept places states)
  sweep-known =
      map-written {X = Option (List ℕ)} (λ p. None) is_some always (gone_pages places states)
      ∙ ap (λ (bs : List Bool). written (λ p. false) bs (gone_pages places states)) h.known
      ∙ same_by_get (written (λ p. false) (map is_live states) (gone_pages places states)) (map is_live (swept places states)) (λ q. each q (slice_get states q) refl)
    where
      each : (q : ℕ) (o : Option PageState) → slice_get states q ≡ o → slice_get (written (λ p. false) (map is_live states) (gone_pages places states)) q ≡ slice_get (map is_live (swept places states)) q
      each q None e = by (is_among (gone_pages places states) q) refl
        where
          by : (b : Bool) → is_among (gone_pages places states) q ≡ b → slice_get (written (λ p. false) (map is_live states) (gone_pages places states)) q ≡ slice_get (map is_live (swept places states)) q
          by true g = absurd (true≢false (sym (gone-among places states q g) ∙ ap (λ (o : Option PageState). option_map_or (is_gone places) o false) e))
          by false g =
              beside (λ p. false) (map is_live states) (gone_pages places states) q g ∙ slice_get-map is_live states q ∙ ap (option_map is_live) e
              ∙ sym (slice_get-map is_live (swept places states) q ∙ ap (option_map is_live) (slice_get-map (freed (is_gone places)) states q ∙ ap (option_map (freed (is_gone places))) e))
      each q (Some x) e = by (is_gone places x) refl (is_among (gone_pages places states) q) refl
        where
          after : slice_get (map is_live (swept places states)) q ≡ Some (is_live (freed (is_gone places) x))
          after = slice_get-map is_live (swept places states) q ∙ ap (option_map is_live) (swept-at places states q x e)

          low : q < length (map is_live states)
          low = omega (arith, slice_get_within states q x e, length-map states is_live)

          by : (g : Bool) → is_gone places x ≡ g → (b : Bool) → is_among (gone_pages places states) q ≡ b → slice_get (written (λ p. false) (map is_live states) (gone_pages places states)) q ≡ slice_get (map is_live (swept places states)) q
          by true g true a =
              within (λ p. false) (map is_live states) (gone_pages places states) q a low ∙ sym (after ∙ ap (λ (b : Bool). Some (is_live (cond b Free x))) g)
          by true g false a = absurd (true≢false (sym (among-gone places states q x e g) ∙ a))
          by false g true a = absurd (true≢false (sym (gone-among places states q a) ∙ ap (λ (o : Option PageState). option_map_or (is_gone places) o false) e ∙ g))
          by false g false a =
              beside (λ p. false) (map is_live states) (gone_pages places states) q a ∙ slice_get-map is_live states q ∙ ap (option_map is_live) e
              ∙ sym (after ∙ ap (λ (b : Bool). Some (is_live (cond b Free x))) g)

  -- a page shows at the front what it showed
  sweep-shows : (o : Owner) (q : ℕ) → once_at (shows o front) (swept places states) q ≡ once_at (shows o front) states q
  sweep-shows o q = ap (λ (m : Option PageState). option_map_or (once (shows o front)) m 0) (slice_get-map (freed (is_gone places)) states q) ∙ by (slice_get states q) refl
    where
      alike : (x : PageState) → slice_get states q ≡ Some x → (g : Bool) → is_gone places x ≡ g → shows o front (freed (is_gone places) x) ≡ shows o front x
      alike x e false g = ap (λ (b : Bool). shows o front (cond b Free x)) g
      alike x e true g =
          ap (λ (b : Bool). shows o front (cond b Free x)) g
          ∙ sym (replaced-unseen o front x (first (is_replaced x) (not (is_kept places x)) g) (λ w from to is. h.settled.ended_by q w from to (e ∙ ap (λ (z : PageState). Some z) is)))

      by : (m : Option PageState) → slice_get states q ≡ m → option_map_or (once (shows o front)) (option_map (freed (is_gone places)) m) 0 ≡ option_map_or (once (shows o front)) m 0
      by None e = refl
      by (Some x) e = ap (λ (b : Bool). cond b 1 0) (alike x e (is_gone places x) refl)

  -- so the sweep keeps what is served at the front
  sweep-serves : Keeps front states (swept places states)
  sweep-serves = same_keeps front states (swept places states) sweep-shows

  -- a page that shows an owner after the sweep is none that it frees
  shown-left : (o : Owner) (q : ℕ) (x : PageState) → slice_get (swept places states) q ≡ Some x → shows o front x ≡ true → is_among (gone_pages places states) q ≡ false
  shown-left o q x has shown = by (slice_get states q) refl (is_among (gone_pages places states) q) refl
    where
      by : (m : Option PageState) → slice_get states q ≡ m → (b : Bool) → is_among (gone_pages places states) q ≡ b → b ≡ false
      by m e false a = refl
      by None e true a = absurd (true≢false (sym (gone-among places states q a) ∙ ap (λ (m : Option PageState). option_map_or (is_gone places) m false) e))
      by (Some y) e true a =
          let gone : is_gone places y ≡ true = ap (λ (m : Option PageState). option_map_or (is_gone places) m false) (sym e) ∙ gone-among places states q a in
          let free : Some Free ≡ Some x = sym (swept-at places states q y e ∙ ap (λ (b : Bool). Some (cond b Free y)) gone) ∙ has in
          absurd (true≢false (sym (shown-live o front x shown) ∙ ap is_live (sym (same_Some Free x free))))

  pub sweep-holds : HoldLayout (swept places states) left front L t
  sweep-holds = record {
    known = sweep-known;
    settled = freeing_settles (is_gone places) front states h.settled;
    served = other-bytes (owner_page L t) (bytes_in always) front (swept places states) (sweep-serves (owner_page L t) (bytes_in always) h.served) (bytes_in left)
        (λ p o x has shown. same-bytes left always p (beside {X = Option (List ℕ)} (λ p. None) always (gone_pages places states) p (shown-left o p x has shown)));
  }
