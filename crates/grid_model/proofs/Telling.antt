-- A lone caller's answers are legal in the history that it makes.
use Rattle.std.proofs.Common.{◌≡◌, ◌≤◌, ◌+◌, ◌-◌, ◌==◌, ◌&&◌, ◌⊎◌, inl, inr, ℕ, zero, suc, Bool, true, false, cond, List, [], ◌∷◌, map, take, length, Option, Some, None, IsSome, refl, sym, ap, subst, ◌∙◌, arith, true≢false, slice_get, nat_lt, lt-ltb, IsTrue, nat_le, leb-true}
use Rattle.std.specs.Option.{is_some}
use Rattle.std.proofs.lemmas.List.Elements.{All-cons, All-nil}
use Rattle.grid_types.specs.declared.shape.Shape.{Shape}
use Rattle.grid_types.specs.declared.update.Update.{Update}
use Rattle.grid_types.specs.declared.update.Update.TheVariants.{Put, Remove}
use Rattle.grid_types.specs.declared.update.Entry.{Entry}
use Rattle.grid_types.specs.declared.refusal.Refusal.{Refusal}
use Rattle.grid_types.specs.declared.refusal.Refusal.TheVariants.{Full, NoCut, BadQuery}
use Rattle.grid_types.specs.declared.layout_change.LayoutChange.{LayoutChange}
use Rattle.grid_types.specs.declared.request.Request.{Request}
use Rattle.grid_types.specs.declared.request.Request.TheVariants as ask
use Rattle.grid_types.specs.declared.request.Reply.{Reply}
use Rattle.grid_types.specs.declared.request.Reply.TheVariants as told
use Rattle.grid_types.proofs.Numbers.{first, second}
use Rattle.grid_types.specs.Shapes.{is_shape, has_lawful_pages, has_lawful_buckets, has_lawful_bounds}
use Rattle.grid_types.specs.Queries.{is_lawful}
use Rattle.grid_model.specs.Cells.{cells}
use Rattle.grid_model.specs.Tables.{Table, get, effect}
use Rattle.grid_model.specs.Lawful.{IsUpdateOf}
use Rattle.grid_model.specs.Layouts.{BucketBox, Layout, holder, new_layout}
use Rattle.grid_model.specs.Listings.{rows}
use Rattle.grid_model.specs.Notes.{updated_key, put_note, merges, after_note, after_note_at, IsLawfulNote}
use Rattle.grid_model.specs.Histories.{History, Layouts, IsPlace, front, entry_at, state_at, layout_at}
use Rattle.grid_model.specs.Answers.{CallTrail, IsReading, IsRemoval, IsCounted, IsLegal, IsRefusal}
use Rattle.grid_model.specs.LayoutLaws.{KeepsSound, IsLeastUnused, MergesTwo}
use Rattle.grid_model.specs.LoneLaws.{IsState, IsRequest, lone_trail, MakesHistory, IsLegalAlone}
use Rattle.grid_model.specs.Lone.{State, Outcome, record_of, statistics, boundaries, free, root, root_if, need, published, claimed, queued, change, change_claimed, done, refused, answered, update_reply, remove_note, remove_found, put_noted, update_at, update_held, updated, lone, answers, afterwards, made}
use Rattle.grid_model.proofs.Boxes.{one-value}
use Rattle.grid_model.proofs.Prepending.{state-later, layout-later, legal-later, noted-longer, start-state, start-layout}
use Rattle.grid_model.proofs.Holders.{after-there}
use Rattle.grid_model.proofs.States.{remove-lawful, lone-state, opened-state, free-pages, kept-pages}
use Rattle.grid_model.proofs.NewLayout.{one_cell}
use Rattle.grid_model.proofs.LayoutKept.{its-table}

-- a history has this state at its front's place: the place is one of it, and its table and layout stand there
record StandsAt {K : ℕ} (h : History K) (ls : Layouts K) (s : State K) : Type 0 where
  place : IsPlace h s.front
  table : state_at h s.front ≡ s.table
  layout : layout_at h ls s.front ≡ s.layout

-- two states have the same table, layout and front
record Same {K : ℕ} (s new : State K) : Type 0 where
  table : new.table ≡ s.table
  layout : new.layout ≡ s.layout
  front_is : new.front ≡ s.front

-- an update with its note stands at the next place
record Moved {K : ℕ} (s : State K) (u : Update K) (n : LayoutChange) (new : State K) : Type 0 where
  table : new.table ≡ effect s.table u
  layout : new.layout ≡ after_note s.layout (updated_key u) n
  front_is : new.front ≡ s.front + 1

-- what a request does: it leaves table, layout and front, and its reply is legal wherever they stand, or it makes one update, and its reply is legal where that is the next entry
data Step {K : ℕ} (shape : Shape) (caller : ℕ) (s : State K) (r : Request K) (o : Outcome K) : Type 0 where
  Stays : Same s o.state → ((h : History K) (ls : Layouts K) → StandsAt h ls s → IsLegal shape h ls caller (lone_trail s) r o.reply ⊎ IsRefusal o.reply) → Step shape caller s r o
  Moves : (u : Update K) (n : LayoutChange) → IsUpdateOf K u → Moved s u n o.state → IsLawfulNote shape s.layout s.table u n
      → ((h : History K) (ls : Layouts K) → entry_at h (s.front + 1) ≡ Some (record { caller = caller; update = u }) → state_at h s.front ≡ s.table → IsLegal shape h ls caller (lone_trail s) r o.reply) → Step shape caller s r o

itself : {K : ℕ} (s : State K) → Same s s
itself s = record { table = refl; layout = refl; front_is = refl }

-- the request that an update is
abbrev request_of : {K : ℕ} → Update K → Request K
request_of (Put r) = ask.Put r
request_of (Remove k) = ask.Remove k

-- an update that finds what it has to find: a put always, a remove its key
abbrev Finds : {K : ℕ} → Table → Update K → Type 0
Finds t (Put r) = Unit {0}
Finds t (Remove k) = IsSome (get t k.numbers)

before : (n : ℕ) → n + 1 - 1 ≡ n
before n = omega arith

next : (n : ℕ) → n + 1 - n - 1 ≡ 0
next n = omega arith

module _ {K : ℕ} (shape : Shape) (caller : ℕ) where
  -- the reply to an update is legal where it is the next entry
  legal-update : (s : State K) (u : Update K) (call : CallTrail) → Finds s.table u → (h : History K) (ls : Layouts K) → entry_at h (s.front + 1) ≡ Some (record { caller = caller; update = u }) → state_at h s.front ≡ s.table
      → IsLegal shape h ls caller call (request_of u) (update_reply u (s.front + 1) s.table)
  legal-update s (Put r) call f h ls there table = record { answer = record { there = there; answer = ap (λ t. get t r.key.numbers) (sym table ∙ ap (state_at h) (sym (before s.front))) }; layout = tt; own = tt }
  legal-update s (Remove k) call f h ls there table = record { answer = by (get s.table k.numbers) refl; layout = tt; own = tt }
    where
      by : (o : Option (List ℕ)) → get s.table k.numbers ≡ o → IsRemoval h caller (Remove k) k.numbers (s.front + 1) o
      by None p = absurd (true≢false (sym f ∙ ap is_some p))
      by (Some d) p = record { there = there; answer = sym p ∙ ap (λ t. get t k.numbers) (sym table ∙ ap (state_at h) (sym (before s.front))) }

  done-step : (s t : State K) (e : ℕ × BucketBox K) (u : Update K) (n : LayoutChange) → IsUpdateOf K u → Same s t → holder s.layout (updated_key u) ≡ Some e → IsLawfulNote shape s.layout s.table u n → Finds s.table u → Step shape caller s (request_of u) (done e u n t)
  unfolding published
  done-step s t e u n is same q l f = Moves u n is
      (record { table = ap (λ x. effect x u) same.table; layout = ap (λ (M : Layout K). after_note_at M e n) same.layout ∙ sym (after-there s.layout (updated_key u) e n q); front_is = ap (λ m. m + 1) same.front_is })
      l
      (λ h ls there table. subst (IsLegal shape h ls caller (lone_trail s) (request_of u)) (λ i. update_reply u (sym same.front_is i + 1) (sym same.table i)) (legal-update s u (lone_trail s) f h ls there table))

  rooted : (s t : State K) → Same s t → Same s (root t)
  rooted s t same = record { table = same.table; layout = same.layout; front_is = same.front_is }

  queued-step : (s t : State K) (e : ℕ × BucketBox K) (u : Update K) (n : LayoutChange) → IsUpdateOf K u → Same s t → holder s.layout (updated_key u) ≡ Some e → IsLawfulNote shape s.layout s.table u n → Finds s.table u → Step shape caller s (request_of u) (done e u n (queued shape t))
  unfolding queued
  queued-step s t e u n is same q l f = by (t.used == shape.slots)
    where
      by : (b : Bool) → Step shape caller s (request_of u) (done e u n (root_if b t))
      by true = done-step s (root t) e u n is (rooted s t same) q l f
      by false = done-step s t e u n is same q l f

  claimed-step : (s t : State K) (e : ℕ × BucketBox K) (u : Update K) (n : LayoutChange) (wanted : ℕ) → IsUpdateOf K u → Same s t → holder s.layout (updated_key u) ≡ Some e → IsLawfulNote shape s.layout s.table u n → Finds s.table u → Step shape caller s (request_of u) (change_claimed shape e u n wanted t)
  claimed-step s t e u n wanted is same q l f = by (nat_lt (free shape t) wanted)
    where
      by : (b : Bool) → Step shape caller s (request_of u) (cond b (refused t (Full (free shape t) wanted)) (done e u n (queued shape t)))
      by true = Stays same (λ h ls g. inr (Full (free shape t) wanted, refl))
      by false = queued-step s t e u n is same q l f

  change-step : (s : State K) (e : ℕ × BucketBox K) (u : Update K) (n : LayoutChange) → IsUpdateOf K u → holder s.layout (updated_key u) ≡ Some e → IsLawfulNote shape s.layout s.table u n → Finds s.table u → Step shape caller s (request_of u) (change shape s e u n)
  unfolding change claimed
  change-step s e u n is q l f = by (nat_lt (free shape s) (need s.layout e u n) && nat_lt 0 s.kept)
    where
      by : (b : Bool) → Step shape caller s (request_of u) (change_claimed shape e u n (need s.layout e u n) (root_if b s))
      by true = claimed-step s (root s) e u n (need s.layout e u n) is (rooted s s (itself s)) q l f
      by false = claimed-step s s e u n (need s.layout e u n) is (itself s) q l f

  -- a reading leaves the state, and its answer is the table's
  reading-step : (s : State K) (r : Request K) (reply : Reply K) → ((h : History K) (ls : Layouts K) → StandsAt h ls s → IsLegal shape h ls caller (lone_trail s) r reply) → Step shape caller s r (answered s reply)
  reading-step s r reply f = Stays (itself s) (λ h ls g. inl (f h ls g))

  refused-step : (s : State K) (r : Request K) (why : Refusal) → Step shape caller s r (refused s why)
  refused-step s r why = Stays (itself s) (λ h ls g. inr (why, refl))

  at-step : (s : State K) (u : Update K) (e : ℕ × BucketBox K) → IsUpdateOf K u → holder s.layout (updated_key u) ≡ Some e → Step shape caller s (request_of u) (update_at shape s u e)
  at-step s (Put r) e is q = by (put_note shape s.layout s.table r.key.numbers) refl
    where
      by : (o : Option LayoutChange) → put_note shape s.layout s.table r.key.numbers ≡ o → Step shape caller s (ask.Put r) (put_noted shape s e (Put r) o)
      by None p = refused-step s (ask.Put r) (NoCut (cells s.layout.scales) (boundaries s.layout.scales))
      by (Some n) p = change-step s e (Put r) n is q p tt
  at-step s (Remove k) e is q = by (get s.table k.numbers) refl
    where
      by : (o : Option (List ℕ)) → get s.table k.numbers ≡ o → Step shape caller s (ask.Remove k) (remove_found shape s e (Remove k) o)
      by None p = reading-step s (ask.Remove k) (told.Removed (record { at = s.front; value = get s.table k.numbers })) (λ h ls g. record {
        answer = subst (IsRemoval h caller (Remove k) k.numbers s.front) (sym p) (record { place = g.place; answer = sym p ∙ ap (λ t. get t k.numbers) (sym g.table) });
        layout = tt;
        own = tt;
      })
      by (Some d) p = change-step s e (Remove k) (remove_note shape s e (Remove k) (merges shape s.layout s.table k.numbers)) is q
          (remove-lawful shape s e k (ap is_some p) (merges shape s.layout s.table k.numbers) (λ n c. c)) (ap is_some p)

  updated-step : (s : State K) (u : Update K) → IsState shape s → IsUpdateOf K u → Step shape caller s (request_of u) (updated shape s u)
  unfolding updated
  updated-step s u h k = by (holder s.layout (updated_key u)) refl
    where
      by : (o : Option (ℕ × BucketBox K)) → holder s.layout (updated_key u) ≡ o → Step shape caller s (request_of u) (update_held shape s u o)
      by None p = absurd (true≢false (sym (h.stands.sound.covers (updated_key u) k.key) ∙ ap is_some p))
      by (Some e) p = at-step s u e k p

  -- a value of the table is the table's at the front
  reads : {V : Type 0} (s : State K) (h : History K) (ls : Layouts K) → StandsAt h ls s → (of : Table → V) → IsReading h s.front (of s.table) of
  reads s h ls g of = record { place = g.place; answer = ap of (sym g.table) }

  -- each request makes a step
  lone-step : (s : State K) (r : Request K) → IsState shape s → IsRequest r → Step shape caller s r (lone shape s r)
  unfolding lone
  lone-step s (ask.Put r) h k = updated-step s (Put r) h k
  lone-step s (ask.Remove d) h k = updated-step s (Remove d) h k
  lone-step s (ask.Get d) h k = reading-step s (ask.Get d) (told.Got (record { at = s.front; value = get s.table d.numbers })) (λ i ls g. record { answer = reads s i ls g (λ t. get t d.numbers); layout = tt; own = tt })
  lone-step s (ask.List q) h k = by (is_lawful q.sides)
    where
      by : (b : Bool) → Step shape caller s (ask.List q) (cond b (answered s (told.Listed (record { at = s.front; value = map record_of (rows s.table q) }))) (refused s BadQuery))
      by true = reading-step s (ask.List q) (told.Listed (record { at = s.front; value = map record_of (rows s.table q) })) (λ i ls g. record { answer = reads s i ls g (λ t. map record_of (rows t q)); layout = tt; own = tt })
      by false = refused-step s (ask.List q) BadQuery
  lone-step s (ask.Count q) h k = by (is_lawful q.sides)
    where
      by : (b : Bool) → Step shape caller s (ask.Count q) (cond b (answered s (told.Counted (record { at = s.front; value = length (rows s.table q) }))) (refused s BadQuery))
      by true = reading-step s (ask.Count q) (told.Counted (record { at = s.front; value = length (rows s.table q) })) (λ i ls g. record { answer = reads s i ls g (λ t. length (rows t q)); layout = tt; own = tt })
      by false = refused-step s (ask.Count q) BadQuery
  lone-step s ask.Stat h k = reading-step s ask.Stat (told.Stood (record { at = s.front; value = statistics shape s })) (λ i ls g. record {
    answer = reads s i ls g (λ t. length t);
    layout = subst (λ (L : Layout K). IsCounted shape L (statistics shape s)) (sym g.layout) (record { cells = refl; buckets = refl; free = omega (arith, h.pages) });
    own = refl;
  })
  lone-step s ask.Checkpoint h k = Stays (rooted s s (itself s)) (λ i ls g. inl (record { answer = g.place; layout = tt; own = refl }))

  -- an answer that is legal or refused, at the request and the reply that a list has
  fits : (h : History K) (ls : Layouts K) (call : CallTrail) (r q : Request K) (a b : Reply K) → r ≡ q → a ≡ b → IsLegal shape h ls caller call r a ⊎ IsRefusal a → IsLegal shape h ls caller call q b ⊎ IsRefusal b
  fits h ls call r q a b e f g = subst (λ x. IsLegal shape h ls caller call q x ⊎ IsRefusal x) f (subst (λ x. IsLegal shape h ls caller call x a ⊎ IsRefusal a) e g)

  -- the trail of a request behind some others
  abbrev trail_at : State K → List (Request K) → ℕ → CallTrail
  trail_at s rs i = lone_trail (afterwards shape s (take i rs))

  -- the history of what is left serves, where a request changed nothing
  join-stays : (s : State K) (r : Request K) (rs : List (Request K)) → Same s (lone shape s r).state → ((h : History K) (ls : Layouts K) → StandsAt h ls s → IsLegal shape h ls caller (lone_trail s) r (lone shape s r).reply ⊎ IsRefusal (lone shape s r).reply)
      → MakesHistory shape caller (lone shape s r).state rs → MakesHistory shape caller s (r ∷ rs)
  unfolding answers afterwards
  join-stays s r rs same legal m = record {
    history = m.history;
    layouts = m.layouts;
    is_history = record {
      from = m.is_history.from ∙ same.front_is;
      base = m.is_history.base ∙ same.table;
      first = m.is_history.first ∙ same.layout;
      is_history = m.is_history.is_history;
      noted = m.is_history.noted;
      front_is = m.is_history.front_is;
      table = m.is_history.table;
      layout = m.is_history.layout;
      legal = each;
    };
  }
    where
      begins : s.front ≡ m.history.from
      begins = sym (m.is_history.from ∙ same.front_is)

      stands : StandsAt m.history m.layouts s
      stands = record {
        place = record { not_before = omega (arith, begins); not_after = omega (arith, begins) };
        table = start-state m.history s.front begins ∙ m.is_history.base ∙ same.table;
        layout = start-layout m.history m.layouts s.front begins ∙ m.is_history.first ∙ same.layout;
      }

      each : (i : ℕ) (q : Request K) (reply : Reply K) → slice_get (r ∷ rs) i ≡ Some q → slice_get ((lone shape s r).reply ∷ answers shape (lone shape s r).state rs) i ≡ Some reply → IsLegal shape m.history m.layouts caller (trail_at s (r ∷ rs) i) q reply ⊎ IsRefusal reply
      each zero q reply e f = fits m.history m.layouts (lone_trail s) r q (lone shape s r).reply reply (one-value r q e) (one-value (lone shape s r).reply reply f) (legal m.history m.layouts stands)
      each (suc i) q reply e f = m.is_history.legal i q reply e f

  -- and one with the update in front, where it made one
  join-moves : (s : State K) (r : Request K) (rs : List (Request K)) (u : Update K) (n : LayoutChange) → IsState shape s → IsUpdateOf K u → Moved s u n (lone shape s r).state → IsLawfulNote shape s.layout s.table u n
      → ((h : History K) (ls : Layouts K) → entry_at h (s.front + 1) ≡ Some (record { caller = caller; update = u }) → state_at h s.front ≡ s.table → IsLegal shape h ls caller (lone_trail s) r (lone shape s r).reply)
      → MakesHistory shape caller (lone shape s r).state rs → MakesHistory shape caller s (r ∷ rs)
  unfolding answers afterwards
  join-moves s r rs u n stands is moved lawful legal m = record {
    history = whole;
    layouts = all;
    is_history = record {
      from = refl;
      base = refl;
      first = refl;
      is_history = record { base = its-table shape s.layout s.table stands.stands; updates = All-cons (λ (e : Entry K). IsUpdateOf K e.update) entry m.history.entries is m.is_history.is_history.updates };
      noted = noted-longer m.history m.layouts s.front s.table s.layout entry n from table layout shape lawful m.is_history.noted;
      front_is = same-front ∙ m.is_history.front_is;
      table = ap (state_at whole) same-front ∙ state-later m.history m.layouts s.front s.table s.layout entry n from table layout (front m.history) (omega arith) ∙ m.is_history.table;
      layout = ap (layout_at whole all) same-front ∙ layout-later m.history m.layouts s.front s.table s.layout entry n from table layout (front m.history) (omega arith) ∙ m.is_history.layout;
      legal = each;
    };
  }
    where
      entry : Entry K
      entry = record { caller = caller; update = u }

      from : m.history.from ≡ s.front + 1
      from = m.is_history.from ∙ moved.front_is

      table : m.history.base ≡ effect s.table u
      table = m.is_history.base ∙ moved.table

      layout : m.layouts.first ≡ after_note s.layout (updated_key u) n
      layout = m.is_history.first ∙ moved.layout

      whole : History K
      whole = record { from = s.front; base = s.table; entries = entry ∷ m.history.entries }

      all : Layouts K
      all = record { first = s.layout; notes = n ∷ m.layouts.notes }

      same-front : front whole ≡ front m.history
      same-front = omega (arith, from)

      there : entry_at whole (s.front + 1) ≡ Some entry
      there = ap (λ t. cond t (slice_get (entry ∷ m.history.entries) (s.front + 1 - s.front - 1)) None) (lt-ltb s.front (s.front + 1) (omega arith)) ∙ ap (slice_get (entry ∷ m.history.entries)) (next s.front)

      later : (call : CallTrail) (q : Request K) (reply : Reply K) → IsLegal shape m.history m.layouts caller call q reply ⊎ IsRefusal reply → IsLegal shape whole all caller call q reply ⊎ IsRefusal reply
      later call q reply (inl g) = inl (legal-later m.history m.layouts s.front s.table s.layout entry n from table layout shape caller call q reply g)
      later call q reply (inr w) = inr w

      each : (i : ℕ) (q : Request K) (reply : Reply K) → slice_get (r ∷ rs) i ≡ Some q → slice_get ((lone shape s r).reply ∷ answers shape (lone shape s r).state rs) i ≡ Some reply → IsLegal shape whole all caller (trail_at s (r ∷ rs) i) q reply ⊎ IsRefusal reply
      each zero q reply e f = fits whole all (lone_trail s) r q (lone shape s r).reply reply (one-value r q e) (one-value (lone shape s r).reply reply f) (inl (legal whole all there (start-state whole s.front refl)))
      each (suc i) q reply e f = later (trail_at (lone shape s r).state rs i) q reply (m.is_history.legal i q reply e f)

module _ {K : ℕ} (shape : Shape) (caller : ℕ) (keeps : KeepsSound K) (least : IsLeastUnused K) (merging : MergesTwo K) where
  -- the requests of a lone caller make a history in which its answers are legal
  pub lone-history : (s : State K) (rs : List (Request K)) → IsState shape s → ((i : ℕ) (r : Request K) → slice_get rs i ≡ Some r → IsRequest r) → MakesHistory shape caller s rs
  unfolding answers afterwards
  lone-history s [] h k = record {
    history = record { from = s.front; base = s.table; entries = [] };
    layouts = record { first = s.layout; notes = [] };
    is_history = record {
      from = refl;
      base = refl;
      first = refl;
      is_history = record { base = its-table shape s.layout s.table h.stands; updates = All-nil (λ (e : Entry K). IsUpdateOf K e.update) };
      noted = record { each = refl; lawful = λ i e n p q. absurd (true≢false (sym (ap is_some p))) };
      front_is = omega arith;
      table = start-state {K = K} (record { from = s.front; base = s.table; entries = [] }) (s.front + 0) (omega arith);
      layout = start-layout {K = K} (record { from = s.front; base = s.table; entries = [] }) (record { first = s.layout; notes = [] }) (s.front + 0) (omega arith);
      legal = λ i r reply p q. absurd (true≢false (sym (ap is_some p)));
    };
  }
  lone-history s (r ∷ rs) h k = by (lone-step shape caller s r h (k zero r refl)) (lone-history (lone shape s r).state rs (lone-state shape keeps least merging s r h (k zero r refl)) (λ i q e. k (suc i) q e))
    where
      by : Step shape caller s r (lone shape s r) → MakesHistory shape caller (lone shape s r).state rs → MakesHistory shape caller s (r ∷ rs)
      by (Stays same legal) m = join-stays shape caller s r rs same legal m
      by (Moves u n is moved lawful legal) m = join-moves shape caller s r rs u n h is moved lawful legal m

-- a shape has pages
some-pages : (shape : Shape) → IsTrue (is_shape shape) → 8 ≤ shape.pages
unfolding is_shape
some-pages shape h = leb-true 8 shape.pages (first (nat_le 8 shape.pages) (nat_le shape.pages 65536)
    (first (nat_le 8 shape.pages && nat_le shape.pages 65536) (nat_le 1 shape.slots && nat_le shape.slots 4000)
    (first (has_lawful_pages shape) (has_lawful_bounds shape) (second (has_lawful_buckets shape) (has_lawful_pages shape && has_lawful_bounds shape) h))))

module _ {K : ℕ} (keeps : KeepsSound K) (least : IsLeastUnused K) (merging : MergesTwo K) where
  made-state : (shape : Shape) → IsTrue (is_shape shape) → shape.k ≡ K → IsState shape (made K)
  unfolding made new_layout
  made-state shape h k = opened-state shape [] (new_layout K) 0 (keeps.new shape h k) (omega (arith, one_cell K, some-pages shape h))

  -- the law of the lone caller
  pub legal-alone : IsLegalAlone K
  legal-alone = record {
    made = made-state;
    opened = opened-state;
    leaves = λ shape. lone-state shape keeps least merging;
    legal = λ shape caller. lone-history shape caller keeps least merging;
    free = free-pages;
    kept = kept-pages;
  }
