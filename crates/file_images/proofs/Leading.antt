-- What roots and the journal's other steps leave of where what is kept leads.
use Rattle.std.proofs.Common.{◌≡◌, ◌≢◌, ◌<◌, ◌≤◌, inl, inr, ◌+◌, ◌++◌, ℕ, List, length, map, fold, refl, sym, ap, subst, ◌∙◌, arith}
use Rattle.std.specs.Prelude.{slice_get, Some, None, Contains}
use Rattle.std.proofs.lemmas.Bool.{cases_eq}
use Rattle.std.proofs.lemmas.List.Sums.{fold-append}
use Rattle.std.proofs.lemmas.Grind.{flat_map-append}
use Rattle.std.proofs.lemmas.List.Elements.{Contains-append_right}
use Rattle.grid_model.specs.Spellings.{LoggedBatch}
use Rattle.grid_model.specs.Images.{logged_effect, layout_after}
use Rattle.grid_model.specs.Roots.{WholeRoot}
use Rattle.grid_model.proofs.Boxes.{some-not-none, one-value}
use Rattle.grid_model.proofs.Members.{contains-none}
use Rattle.file_images.specs.Kept.{Counting, PlacedBatch, InDoubt, Kept, OtherHeader, ShutHeader, LooseHeader, MayBeNewest, on_half}
use Rattle.file_images.specs.Steps.{ruled, loosened, none_used, first_by, second_by, with_doubt, with_slot, with_closed, with_tried, with_root, with_loose, with_shut}
use Rattle.file_images.specs.Leads.{Standing, updates_in, CountsOn, reach, CountsBefore, IsKnown, Lineage, past, lineage_at, MayFollow, LeadsAlong, RootLeads, Leads}
use Rattle.file_images.specs.LeadingLaws.{IsAhead, BeginsSession, IsBehind, NoneBeyond}
use Rattle.file_images.proofs.Elements.{from_append, among_these, contains_it}
use Rattle.file_images.proofs.Chains.{chain_up, chain_above, chain_below}
use Rattle.file_images.proofs.Clearing.{by_here, by_other, from_loose}
use Rattle.file_images.proofs.Halves.{old_or_new}
use Rattle.file_images.proofs.Histories.{holds_over, follows_over, leads_over, passed_still, known_still, shut_no_doubt, reach_up, one_doubt}

-- a root leads where it did, whatever roots are kept
pub root_leads_over : {K : ℕ} (k : Kept K) (m : Standing K) (w root : WholeRoot) (other : OtherHeader) → RootLeads k w m → RootLeads (record k { root = root; other = other }) w m
root_leads_over k m w root other r = record { lineage = r.lineage; along = leads_over k w m r.lineage r.along root other k.half }

-- all that may be the newest lead where they did, where the other header page is closed, or a root that leads there was tried, and where one that may be the newest is the root
pub leads_closed : {K : ℕ} (k : Kept K) (m : Standing K) → Leads k m → Leads (with_closed k) m
leads_closed k m leads w (inl e) = root_leads_over k m w k.root ShutHeader (leads w (inl e))
leads_closed k m leads w (inr e) = absurd e

pub leads_tried : {K : ℕ} (k : Kept K) (m : Standing K) (new : WholeRoot) → RootLeads k new m → Leads k m → Leads (with_tried k (Some new)) m
leads_tried k m new c leads w (inl e) = root_leads_over k m w k.root (LooseHeader (Some new)) (leads w (inl e))
leads_tried k m new c leads w (inr e) = root_leads_over k m w k.root (LooseHeader (Some new)) (subst (λ (v : WholeRoot). RootLeads k v m) (one-value new w e) c)

pub leads_rooted : {K : ℕ} (k : Kept K) (m : Standing K) (new : WholeRoot) → MayBeNewest k new → Leads k m → Leads (with_root k new) m
leads_rooted k m new may leads w (inl e) = subst (λ (v : WholeRoot). RootLeads (with_root k new) v m) (sym e) (root_leads_over k m new new (LooseHeader None) (leads new may))
leads_rooted k m new may leads w (inr e) = absurd (some-not-none w (sym e))

-- a root ahead of one that leads to a standing leads there too
module _ {K : ℕ} (k : Kept K) (w : WholeRoot) (m : Standing K) (x : Lineage K) (before after : List (LoggedBatch K)) (new : WholeRoot) (c : LeadsAlong k w m x) (is : IsAhead k w m x before after new) where
  all_updates : updates_in x.taken ≡ updates_in before ++ updates_in after
  all_updates = ap updates_in is.parted ∙ flat_map-append (λ (b : LoggedBatch K). b.updates) before after

  known_ahead : (h i : ℕ) (p : PlacedBatch K) → IsKnown k w.fields.front x.taken m.place (reach k.next m.place) h i p → IsKnown k new.fields.front after m.place (reach k.next m.place) h i p
  known_ahead h i p (inl barred) = inl barred
  known_ahead h i p (inr (inl low)) = inr (inl (omega (arith, low, up)))
    where
      up : w.fields.front ≤ new.fields.front
      up = chain_up w.fields.front new.fields.front before is.up_to
  known_ahead h i p (inr (inr (inl taken))) = elim (from_append p.batch before after (among_these p.batch (before ++ after) (subst (λ (bs : List (LoggedBatch K)). Contains bs p.batch) is.parted taken))) [
    | inl early ↦ inr (inl (chain_below w.fields.front new.fields.front before p.batch is.up_to early))
    | inr late ↦ inr (inr (inl (contains_it p.batch after late)))
  ]
  known_ahead h i p (inr (inr (inr (inl passed)))) =
      inr (inr (inr (inl (passed_still k k x.taken after m.place m.place h i p (omega arith) (λ b on low. subst (λ (bs : List (LoggedBatch K)). Contains bs b) (sym is.parted) (Contains-append_right before after b on)) (λ b on counts. counts) passed))))
  known_ahead h i p (inr (inr (inr (inr beyond)))) = inr (inr (inr (inr beyond)))

  pub leads_ahead : LeadsAlong k new m (past x before after)
  unfolding layout_after
  leads_ahead = record {
    holds = is.holds;
    chain = is.onward;
    there = λ b on. let at = c.there b (subst (λ (bs : List (LoggedBatch K)). Contains bs b) (sym is.parted) (Contains-append_right before after b on)) in (at.0 ∙ sym is.session, at.1);
    known = λ h i p two at mine. known_ahead h i p (c.known h i p two at (mine ∙ is.session));
    sessions = λ h i p two at. omega (arith, c.sessions h i p two at, is.session);
    makes_table = c.makes_table ∙ ap (fold logged_effect x.table) all_updates ∙ fold-append logged_effect x.table (updates_in before) (updates_in after);
    makes_layout = c.makes_layout ∙ ap (layout_after x.layout) all_updates ∙ fold-append _ x.layout (updates_in before) (updates_in after);
    may = is.may;
    doubt = is.doubt;
  }

-- a root that begins a session at a standing leads there
pub leads_begun : {K : ℕ} (k : Kept K) (m : Standing K) (new : WholeRoot) → BeginsSession k m new → LeadsAlong k new m (lineage_at m)
unfolding layout_after
leads_begun {K} k m new is = record {
  holds = is.holds;
  chain = is.front;
  there = λ b on. contains-none b on;
  known = λ h i p two at mine. absurd (omega (arith, is.earlier h i p two at, mine));
  sessions = λ h i p two at. omega (arith, is.earlier h i p two at);
  makes_table = refl;
  makes_layout = refl;
  may = tt;
  doubt = λ d e. shut_no_doubt d (sym is.shut ∙ e);
}

-- a batch in doubt that may follow leads nowhere else by itself
module _ {K : ℕ} (k : Kept K) (m : Standing K) (d : LoggedBatch K) (w : WholeRoot) (x : Lineage K) (none : NoneBeyond k w m.place) (follows : MayFollow k w x m.place d) (c : LeadsAlong k w m x) where
  known_farther : (h i : ℕ) (p : PlacedBatch K) → h < 2 → slice_get (on_half k h) i ≡ Some p → p.batch.session ≡ w.fields.session
      → IsKnown k w.fields.front x.taken m.place (reach k.next m.place) h i p → IsKnown (with_doubt k d) w.fields.front x.taken m.place (m.place + length d.updates) h i p
  known_farther h i p two at mine (inl barred) = inl barred
  known_farther h i p two at mine (inr (inl low)) = inr (inl low)
  known_farther h i p two at mine (inr (inr (inl on))) = inr (inr (inl on))
  known_farther h i p two at mine (inr (inr (inr (inl passed)))) =
      inr (inr (inr (inl (passed_still k (with_doubt k d) x.taken x.taken m.place m.place h i p (omega arith) (λ b on low. on)
      (λ b on c. record { on = record { half = c.on.half; slot = c.on.slot; two = c.on.two; there = c.on.there }; before = c.before }) passed))))
  known_farther h i p two at mine (inr (inr (inr (inr beyond)))) = elim (none h i p two at mine) [
    | inl barred ↦ inl barred
    | inr low ↦ absurd (omega (arith, low, beyond, reach_up k.next m.place))
  ]

  pub leads_doubted : LeadsAlong (with_doubt k d) w m x
  leads_doubted = record {
    holds = holds_over k k.root k.other k.first k.second k.half (InDoubt d) w x.layout x.table c.holds;
    chain = c.chain;
    there = λ b on. let at = c.there b on in (at.0, record { half = at.1.half; slot = at.1.slot; two = at.1.two; there = at.1.there });
    known = λ h i p two at mine. known_farther h i p two at mine (c.known h i p two at mine);
    sessions = c.sessions;
    makes_table = c.makes_table;
    makes_layout = c.makes_layout;
    may = c.may;
    doubt = λ e is. subst (λ (b : LoggedBatch K). MayFollow (with_doubt k d) w x m.place b) (one_doubt d e is) (follows_over k k.root k.other k.first k.second k.half (InDoubt d) w x m.place d follows);
  }

-- and once it counts, no batch of the root's session begins beyond it
pub none_beyond : {K : ℕ} (k : Kept K) (place : ℕ) (d : LoggedBatch K) (w : WholeRoot) → k.half < 2 → d.first ≡ place + 1 → 0 < length d.updates → NoneBeyond k w place → NoneBeyond (with_slot k d) w (place + length d.updates)
none_beyond {K} k place d w two first some none h i p less at mine = elim (old_or_new k (ruled d Counting) two h i p less at) [
  | inl old ↦ elim (none h i p less old mine) [
    | inl barred ↦ inl barred
    | inr low ↦ inr (omega (arith, low))
  ]
  | inr new ↦ inr (omega (arith, ap (λ (y : PlacedBatch K). y.batch.first) new, first, some))
]

-- a half on which no taken batch counts, and that keeps batches that are all behind a root, or none
module _ {K : ℕ} (k : Kept K) (h : ℕ) (m : Standing K) (w : WholeRoot) (x : Lineage K) (two : h < 2) (c : LeadsAlong k w m x)
    (free : (b : LoggedBatch K) (slot : ℕ) → Contains x.taken b → slice_get (on_half k h) slot ≡ Some (ruled b Counting) → ⊥)
    (f : List (PlacedBatch K) → List (PlacedBatch K))
    (from : (i : ℕ) (p : PlacedBatch K) → slice_get (f (on_half k h)) i ≡ Some p → (q : PlacedBatch K) × (slice_get (on_half k h) i ≡ Some q) × (p.batch ≡ q.batch))
    (low : (i : ℕ) (p : PlacedBatch K) → slice_get (f (on_half k h)) i ≡ Some p → p.batch.session ≡ w.fields.session → p.batch.first ≤ w.fields.front) where
  abbrev k2 : Kept K
  k2 = record k { first = first_by h f k.first; second = second_by h f k.second }

  here_is : (j : ℕ) → j ≡ h → on_half k2 j ≡ f (on_half k h)
  here_is j e = subst (λ (n : ℕ). on_half k2 n ≡ f (on_half k h)) (sym e) (by_here f k.first k.second h)

  other_is : (j : ℕ) → j < 2 → j ≢ h → on_half k2 j ≡ on_half k j
  other_is j too off = by_other f k.first k.second h j two too off

  -- a taken batch counts on the other half, and stays there
  there_still : (b : LoggedBatch K) → Contains x.taken b → (j i : ℕ) → j < 2 → slice_get (on_half k j) i ≡ Some (ruled b Counting) → slice_get (on_half k2 j) i ≡ Some (ruled b Counting)
  there_still b on j i too at = elim (cases_eq j h) [
    | inl e ↦ absurd (free b i on (subst (λ (n : ℕ). slice_get (on_half k n) i ≡ Some (ruled b Counting)) e at))
    | inr off ↦ subst (λ (xs : List (PlacedBatch K)). slice_get xs i ≡ Some (ruled b Counting)) (sym (other_is j too off)) at
  ]

  counts_beside : (b : LoggedBatch K) → Contains x.taken b → (b.session ≡ w.fields.session) × CountsOn k2 b
  counts_beside b on = let at = c.there b on in (at.0, record { half = at.1.half; slot = at.1.slot; two = at.1.two; there = there_still b on at.1.half at.1.slot at.1.two at.1.there })

  before_beside : (j i : ℕ) (b : LoggedBatch K) → Contains x.taken b → CountsBefore k b j i → CountsBefore k2 b j i
  before_beside j i b on old = record { on = record { half = old.on.half; slot = old.on.slot; two = old.on.two; there = there_still b on old.on.half old.on.slot old.on.two old.on.there }; before = old.before }

  known_beside : (j i : ℕ) (p : PlacedBatch K) → j < 2 → slice_get (on_half k2 j) i ≡ Some p → p.batch.session ≡ w.fields.session → IsKnown k2 w.fields.front x.taken m.place (reach k.next m.place) j i p
  known_beside j i p too at mine = elim (cases_eq j h) [
    | inl e ↦ inr (inl (low i p (subst (λ (xs : List (PlacedBatch K)). slice_get xs i ≡ Some p) (here_is j e) at) mine))
    | inr off ↦
        known_still k k2 w.fields.front x.taken x.taken m.place m.place (reach k.next m.place) (reach k.next m.place) j i p (omega arith) (λ b on. on)
        (passed_still k k2 x.taken x.taken m.place m.place j i p (omega arith) (λ b on up. on) (before_beside j i)) (c.known j i p too (subst (λ (xs : List (PlacedBatch K)). slice_get xs i ≡ Some p) (other_is j too off) at) mine)
  ]

  sessions_beside : (j i : ℕ) (p : PlacedBatch K) → j < 2 → slice_get (on_half k2 j) i ≡ Some p → p.batch.session ≤ w.fields.session
  sessions_beside j i p too at = elim (cases_eq j h) [
    | inl e ↦
        let q = from i p (subst (λ (xs : List (PlacedBatch K)). slice_get xs i ≡ Some p) (here_is j e) at) in
        omega (arith, c.sessions h i q.0 two q.1, ap (λ (b : LoggedBatch K). b.session) q.2)
    | inr off ↦ c.sessions j i p too (subst (λ (xs : List (PlacedBatch K)). slice_get xs i ≡ Some p) (other_is j too off) at)
  ]

  half_leads : LeadsAlong k2 w m x
  half_leads = record {
    holds = holds_over k k.root k.other k2.first k2.second k.half k.next w x.layout x.table c.holds;
    chain = c.chain;
    there = counts_beside;
    known = known_beside;
    sessions = sessions_beside;
    makes_table = c.makes_table;
    makes_layout = c.makes_layout;
    may = c.may;
    doubt = λ d is. follows_over k k.root k.other k2.first k2.second k.half k.next w x m.place d (c.doubt d is);
  }

-- no taken batch counts on a half whose batches are all behind the root
free_behind : {K : ℕ} (k : Kept K) (h : ℕ) (m : Standing K) (w : WholeRoot) (x : Lineage K) → IsBehind k w h → LeadsAlong k w m x → (b : LoggedBatch K) (slot : ℕ) → Contains x.taken b → slice_get (on_half k h) slot ≡ Some (ruled b Counting) → ⊥
free_behind k h m w x behind_all c b slot on at = omega (arith, behind_all slot (ruled b Counting) at (c.there b on).0, chain_above w.fields.front m.place x.taken b c.chain (among_these b x.taken on))

-- its gates may be anything
pub leads_loosened : {K : ℕ} (k : Kept K) (h : ℕ) (m : Standing K) (w : WholeRoot) (x : Lineage K) → h < 2 → IsBehind k w h → LeadsAlong k w m x → LeadsAlong (with_loose k h) w m x
leads_loosened {K} k h m w x two behind_all c =
    half_leads k h m w x two c (free_behind k h m w x behind_all c) (map loosened) (λ i p at. let q = from_loose (on_half k h) i p at in (q.0, q.1, ap (λ (y : PlacedBatch K). y.batch) q.2))
    (λ i p at mine. let q = from_loose (on_half k h) i p at in omega (arith, behind_all i q.0 q.1 (ap (λ (y : PlacedBatch K). y.batch.session) (sym q.2) ∙ mine), ap (λ (y : PlacedBatch K). y.batch.first) q.2))

-- and its slots may all be cleared
pub leads_cleared : {K : ℕ} (k : Kept K) (h : ℕ) (m : Standing K) (w : WholeRoot) (x : Lineage K) → h < 2 → IsBehind k w h → LeadsAlong k w m x → LeadsAlong (with_shut k h) w m x
leads_cleared k h m w x two behind_all c = half_leads k h m w x two c (free_behind k h m w x behind_all c) none_used (λ i p at. absurd (some-not-none p (sym at))) (λ i p at mine. absurd (some-not-none p (sym at)))

-- so may those of either half where the root stands at the place itself
pub leads_emptied : {K : ℕ} (k : Kept K) (h : ℕ) (m : Standing K) (w : WholeRoot) (x : Lineage K) → h < 2 → w.fields.front ≡ m.place → LeadsAlong k w m x → LeadsAlong (with_shut k h) w m x
leads_emptied {K} k h m w x two front c = half_leads k h m w x two c no_one none_used (λ i p at. absurd (some-not-none p (sym at))) (λ i p at mine. absurd (some-not-none p (sym at)))
  where
    no_one : (b : LoggedBatch K) (slot : ℕ) → Contains x.taken b → slice_get (on_half k h) slot ≡ Some (ruled b Counting) → ⊥
    no_one b slot on at = let m_on = among_these b x.taken on in omega (arith, front, chain_above w.fields.front m.place x.taken b c.chain m_on, chain_below w.fields.front m.place x.taken b c.chain m_on)
