-- What data pages that are written, settled or let go leave of where what is kept leads.
use Rattle.std.proofs.Common.{◌≡◌, ◌<◌, ◌++◌, inl, inr, ℕ, List, [], ◌∷◌, fold, slice_index, refl, sym, ap, subst, ◌∙◌, arith, ltb-true}
use Rattle.std.specs.Prelude.{slice_get, slice_set, slice_index_or, Option, Some, None, Contains, IsSome}
use Rattle.std.specs.Option.{is_some}
use Rattle.std.proofs.lemmas.Bool.{cases_eq}
use Rattle.std.proofs.lemmas.List.Elements.{Contains-append_left, Contains-append_right}
use Rattle.grid_types.specs.declared.owner.Owner.{Owner}
use Rattle.grid_types.specs.declared.owner.Owner.TheVariants.{Bucket, Part}
use Rattle.grid_model.specs.Lists.{is_among}
use Rattle.grid_model.specs.Tables.{Table}
use Rattle.grid_model.specs.Layouts.{Layout, box}
use Rattle.grid_model.specs.Lawful.{pages_named}
use Rattle.grid_model.specs.Images.{numbers_of}
use Rattle.grid_model.specs.Roots.{WholeRoot}
use Rattle.grid_model.specs.Cells.{parts}
use Rattle.grid_model.proofs.Boxes.{some-not-none}
use Rattle.grid_model.proofs.Members.{contains-among, contains-first, contains-later}
use Rattle.grid_model.proofs.Numbered.{found-among}
use Rattle.history_pages.specs.OwnerPages.{owner_page}
use Rattle.history_pages.proofs.Named.{bucket-named, part-named}
use Rattle.file_images.specs.Kept.{Kept}
use Rattle.file_images.specs.Meets.{AreFewer, Covers}
use Rattle.history_pages.specs.KnownPages.{settle_page, ask_nothing}
use Rattle.file_images.specs.Steps.{with_settled, without_pages}
use Rattle.history_pages.specs.KnownPages.{page_named}
use Rattle.file_images.specs.Leads.{Standing, RootHolds, reach, Lineage, LeadsAlong}
use Rattle.file_images.specs.LeadingLaws.{NamesNone}
use Rattle.file_images.proofs.Named.{entry-there, named-by-number}
use Rattle.file_images.proofs.Histories.{known_over}
use Rattle.file_images.proofs.Settling.{set_other, set_same}

-- a root names the page of each owner of the layout that it holds
module _ {K : ℕ} (k : Kept K) (w : WholeRoot) (L : Layout K) (t : Table) (holds : RootHolds k w L t) where
  pub named_there : (o : Owner) (bytes : List ℕ) → owner_page L t o ≡ Some bytes → Contains (w.area.parts ++ pages_named w.area.table) (page_named w.area o)
  named_there (Bucket n) bytes is =
      let some : IsSome (box L n) = sym (bucket-named L t n) ∙ ap is_some is in
      let numbered : Contains (numbers_of w.area.table) n = contains-among (numbers_of w.area.table) n (ap (λ ns. is_among ns n) (sym holds.numbers) ∙ found-among L.boxes n some) in
      Contains-append_right w.area.parts (pages_named w.area.table) (slice_index w.area.table n) (contains-among (pages_named w.area.table) (slice_index w.area.table n) (named-by-number w.area.table n numbered))
  named_there (Part p) bytes is =
      let lt : p < parts L.scales = ltb-true p (parts L.scales) (sym (part-named L t p) ∙ ap is_some is) in
      Contains-append_left w.area.parts (pages_named w.area.table) (slice_index w.area.parts p) (entry-there w.area.parts p (omega (arith, lt, holds.directory)))

-- what a root's pages always hold stays where other pages change, and so it leads where it did
module _ {K : ℕ} (k : Kept K) (always fresh : List (Option (List ℕ))) (m : Standing K) (w : WholeRoot) (x : Lineage K) (same : (p : ℕ) → Contains (w.area.parts ++ pages_named w.area.table) p → slice_get always p ≡ slice_get k.always p) where
  holds_still : RootHolds k w x.layout x.table → RootHolds (record k { always = always; fresh = fresh }) w x.layout x.table
  holds_still was = record {
    scales = was.scales;
    directory = was.directory;
    numbers = was.numbers;
    stands = was.stands;
    records = was.records;
    pages = λ o bytes is. same (page_named w.area o) (named_there k w x.layout x.table was o bytes is) ∙ was.pages o bytes is;
  }

  pages_lead : LeadsAlong k w m x → LeadsAlong (record k { always = always; fresh = fresh }) w m x
  pages_lead c = record {
    holds = holds_still c.holds;
    chain = c.chain;
    there = λ b on. let at = c.there b on in (at.0, record { half = at.1.half; slot = at.1.slot; two = at.1.two; there = at.1.there });
    known = λ h i p two is mine. known_over k always fresh k.root k.other k.half k.next w.fields.front x.taken m.place (reach k.next m.place) (reach k.next m.place) h i p (omega arith) (c.known h i p two is mine);
    sessions = c.sessions;
    makes_table = c.makes_table;
    makes_layout = c.makes_layout;
    may = c.may;
    doubt = λ d is. let f = c.doubt d is in record { session = f.session; first = f.first; may = f.may };
  }

-- what fresh pages read as leads nowhere else
pub leads_fresh : {K : ℕ} (k : Kept K) (fresh : List (Option (List ℕ))) (m : Standing K) (w : WholeRoot) (x : Lineage K) → LeadsAlong k w m x → LeadsAlong (record k { fresh = fresh }) w m x
leads_fresh k fresh m w x c = pages_lead k k.always fresh m w x (λ p named. refl) c

settled_beside : (fresh always : List (Option (List ℕ))) (pages : List ℕ) (p : ℕ) → (Contains pages p → ⊥) → slice_get (fold (settle_page fresh) always pages) p ≡ slice_get always p
settled_beside fresh always [] p none = refl
settled_beside fresh always (q ∷ qs) p none =
    settled_beside fresh (settle_page fresh always q) qs p (λ m. none (contains-later q qs p m))
    ∙ set_other always q p (slice_index_or fresh q None) (λ e. none (subst (λ (n : ℕ). Contains (q ∷ qs) n) e (contains-first q qs)))

unasked_beside : (always : List (Option (List ℕ))) (pages : List ℕ) (p : ℕ) → (Contains pages p → ⊥) → slice_get (fold ask_nothing always pages) p ≡ slice_get always p
unasked_beside always [] p none = refl
unasked_beside always (q ∷ qs) p none =
    unasked_beside (ask_nothing always q) qs p (λ m. none (contains-later q qs p m))
    ∙ set_other always q p None (λ e. none (subst (λ (n : ℕ). Contains (q ∷ qs) n) e (contains-first q qs)))

-- pages that are settled or let go, where the root does not name them
pub leads_settled : {K : ℕ} (k : Kept K) (m : Standing K) (pages : List ℕ) (w : WholeRoot) (x : Lineage K) → NamesNone w pages → LeadsAlong k w m x → LeadsAlong (with_settled k pages) w m x
leads_settled k m pages w x none c = pages_lead k (fold (settle_page k.fresh) k.always pages) k.fresh m w x (λ p named. settled_beside k.fresh k.always pages p (λ on. none p on named)) c

pub leads_let_go : {K : ℕ} (k : Kept K) (m : Standing K) (pages : List ℕ) (w : WholeRoot) (x : Lineage K) → NamesNone w pages → LeadsAlong k w m x → LeadsAlong (without_pages k pages) w m x
leads_let_go k m pages w x none c = pages_lead k (fold ask_nothing k.always pages) (fold ask_nothing k.fresh pages) m w x (λ p named. unasked_beside k.always pages p (λ on. none p on named)) c

fewer_unasked : (pages : List ℕ) (all : List (Option (List ℕ))) → AreFewer all (fold ask_nothing all pages)
fewer_unasked [] all p bytes is = is
fewer_unasked (q ∷ qs) all p bytes is =
    let was : slice_get (slice_set all q None) p ≡ Some (Some bytes) = fewer_unasked qs (ask_nothing all q) p bytes is in
    elim (cases_eq q p) [
      | inl e ↦ absurd (some-not-none bytes (set_same all q None (Some bytes) (subst (λ (n : ℕ). slice_get (slice_set all q None) n ≡ Some (Some bytes)) (sym e) was)))
      | inr apart ↦ sym (set_other all q p None apart) ∙ was
    ]

-- to ask for fewer pages is covered
pub covers_let_go : {K : ℕ} (k : Kept K) (pages : List ℕ) → Covers k (without_pages k pages)
covers_let_go k pages = record {
  shape = refl;
  always = fewer_unasked pages k.always;
  fresh = fewer_unasked pages k.fresh;
  root = refl;
  other = refl;
  first = refl;
  second = refl;
  half = refl;
  next = inl refl;
  reads = omega arith;
  writes = omega arith;
}
