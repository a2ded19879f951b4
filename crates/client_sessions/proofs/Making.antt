-- The steps of a session make one history, in which each answer is legal.
use Rattle.std.proofs.Common.{◌≡◌, ◌<◌, ◌≤◌, ◌⊎◌, inl, inr, ⊎_elim, ◌+◌, ◌-◌, ℕ, zero, suc, Bool, true, false, cond, List, [], ◌∷◌, map, length, Some, None, IsSome, Contains, slice_get, nat_lt, refl, sym, ap, subst, ◌∙◌, arith, true≢false, ltb-true, lt-ltb}
use Rattle.std.specs.List.{cons_option}
use Rattle.std.specs.Option.{is_some}
use Rattle.grid_types.specs.Lists.{zip_with}
use Rattle.grid_types.specs.declared.layout_change.LayoutChange.TheVariants as note
use Rattle.grid_types.specs.declared.request.Line.{Line}
use Rattle.grid_types.specs.declared.request.Reply.{Reply}
use Rattle.grid_types.specs.declared.shape.Shape.{Shape}
use Rattle.grid_types.specs.declared.update.Entry.{Entry}
use Rattle.grid_types.specs.declared.update.Update.{Update}
use Rattle.grid_model.specs.Answers.{IsAnswer, IsRefusal}
use Rattle.grid_model.specs.Histories.{History, entry_at, layout_effect, state_at}
use Rattle.grid_model.specs.Sessions.{Exchange, Rises, exchange, made_in, place_told, updates_made}
use Rattle.grid_model.specs.Tables.{effect}
use Rattle.grid_model.proofs.Boxes.{one-value, some-not-none}
use Rattle.grid_model.proofs.Carrying.{CarriesEntry, carried}
use Rattle.grid_model.proofs.Prepending.{start-state, state-later}
use Rattle.file_images.specs.Leads.{Standing}
use Rattle.client_sessions.specs.Points.{Point}
use Rattle.client_sessions.specs.Runs.{Runs}
use Rattle.client_sessions.proofs.Placing.{Follow}
use Rattle.client_sessions.proofs.Stepping.{Stays, Moves, Step, told-step}
use Rattle.client_sessions.proofs.Stepping.Step.{IsStay, IsMove}

-- the history that begins at a standing and has these updates
abbrev pub history_from : {K : ℕ} → Standing K → List (ℕ × Entry K) → History K
history_from s ups = record { from = s.place; base = s.table; entries = map (λ e. e.1) ups }

-- some exchanges lead from a standing to another: their updates have the places that follow, and make of the one table the other; their places rise from there on, and each is an answer in that history or a refusal
pub record LeadsTo {K : ℕ} (s t : Standing K) (xs : List (Exchange K)) : Type 0 where
  pub ups : List (ℕ × Entry K)
  pub made : updates_made xs ≡ ups
  pub follow : Follow (s.place + 1) ups
  pub many : s.place + length ups ≡ t.place
  pub table : state_at (history_from s ups) t.place ≡ t.table
  pub rises : Rises xs
  pub above : (i n : ℕ) (x : Exchange K) → slice_get xs i ≡ Some x → place_told x.reply ≡ Some n → (s.place ≤ n) × (IsSome (made_in x) → s.place < n)
  pub answers : (x : Exchange K) → Contains xs x → IsAnswer (history_from s ups) x.client x.request x.reply ⊎ IsRefusal x.reply

-- the places of a list are above a number
abbrev Above : {K : ℕ} → ℕ → List (Exchange K) → Type 0
Above {K} b xs = (i n : ℕ) (x : Exchange K) → slice_get xs i ≡ Some x → place_told x.reply ≡ Some n → (b ≤ n) × (IsSome (made_in x) → b < n)

-- places rise where the later ones are above the first
rises-more : {K : ℕ} (b : ℕ) (x : Exchange K) (xs : List (Exchange K)) → ((n : ℕ) → place_told x.reply ≡ Some n → b ≡ n) → Above b xs → Rises xs → Rises (x ∷ xs)
rises-more b x xs first above rises i zero p q y z l e f g h = absurd (omega (arith, l))
rises-more b x xs first above rises zero (suc j) p q y z l e f g h =
    let here = first p (ap (λ w. place_told w.reply) (one-value x y e) ∙ g) in
    let there = above j q z f h in
    (omega (arith, here, there.0), λ some. omega (arith, here, there.1 some))
rises-more b x xs first above rises (suc i) (suc j) p q y z l e f g h = rises i j p q y z (omega (arith, l)) e f g h

-- nothing was asked yet
nothing : {K : ℕ} (s : Standing K) → LeadsTo s s []
unfolding updates_made
nothing s = record {
  ups = [];
  made = refl;
  follow = tt;
  many = omega arith;
  table = start-state (history_from s []) s.place refl;
  rises = λ i j p q x y l e f g h. absurd (some-not-none x (sym e));
  above = λ i n x e f. absurd (some-not-none x (sym e));
  answers = λ x c. absurd (omega (arith, c.1));
}

-- an exchange that makes no update, and then others
stay : {K : ℕ} (s t : Standing K) (x : Exchange K) (xs : List (Exchange K)) → Stays s x → LeadsTo s t xs → LeadsTo s t (x ∷ xs)
unfolding updates_made
stay {K} s t x xs st g = record {
  ups = g.ups;
  made = ap (λ o. cons_option o (updates_made xs)) st.made ∙ g.made;
  follow = g.follow;
  many = g.many;
  table = g.table;
  rises = rises-more s.place x xs st.place g.above g.rises;
  above = above;
  answers = answers;
}
  where
    above : Above s.place (x ∷ xs)
    above zero n y e f =
        let same = one-value x y e in
        (omega (arith, st.place n (ap (λ w. place_told w.reply) same ∙ f)), λ some. absurd (true≢false (sym some ∙ ap is_some (sym (ap made_in same) ∙ st.made))))
    above (suc i) n y e f = g.above i n y e f

    answers : (y : Exchange K) → Contains (x ∷ xs) y → IsAnswer (history_from s g.ups) y.client y.request y.reply ⊎ IsRefusal y.reply
    answers y (zero, l, e) = subst (λ w. IsAnswer (history_from s g.ups) w.client w.request w.reply ⊎ IsRefusal w.reply) e
        (st.answer (history_from s g.ups) (record { not_before = omega arith; not_after = omega arith }) (start-state (history_from s g.ups) s.place refl))
    answers y (suc k, l, e) = g.answers y (k, omega (arith, l), e)

next : (n : ℕ) → n + 1 - n - 1 ≡ 0
next n = omega arith

-- the history with one more entry in front: the later places have the same tables and entries
module _ {K : ℕ} (s m : Standing K) (e : Entry K) (ups : List (ℕ × Entry K)) (behind : m.place ≡ s.place + 1) (table : m.table ≡ effect s.table e.update) where
  abbrev longer : History K
  longer = history_from s ((s.place + 1, e) ∷ ups)

  abbrev later : History K
  later = history_from m ups

  later-table : (n : ℕ) → m.place ≤ n → state_at longer n ≡ state_at later n
  later-table n l = state-later later (record { first = layout_effect s.layout (e, note.Plain); notes = [] }) s.place s.table s.layout e note.Plain behind table refl n l

  first-entry : entry_at longer (s.place + 1) ≡ Some e
  first-entry =
      ap (λ t. cond t (slice_get longer.entries (s.place + 1 - s.place - 1)) None) (lt-ltb s.place (s.place + 1) (omega arith))
      ∙ ap (λ j. slice_get longer.entries j) (next s.place)

  earlier : (n : ℕ) → m.place < n → n - s.place - 1 ≡ suc (n - m.place - 1)
  earlier n l = omega (arith, l, behind)

  later-entry : (n : ℕ) → m.place < n → entry_at longer n ≡ entry_at later n
  later-entry n l =
      ap (λ t. cond t (slice_get longer.entries (n - s.place - 1)) None) (lt-ltb s.place n (omega (arith, l, behind)))
      ∙ ap (λ j. slice_get longer.entries j) (earlier n l)
      ∙ sym (ap (λ t. cond t (slice_get later.entries (n - m.place - 1)) None) (lt-ltb m.place n l))

  carries : (caller n : ℕ) (u : Update K) → entry_at later n ≡ Some (record { caller = caller; update = u }) → CarriesEntry later longer caller caller n u
  carries caller n u there = by (nat_lt m.place n) refl
    where
      by : (t : Bool) → nat_lt m.place n ≡ t → CarriesEntry later longer caller caller n u
      by true p =
          let l : m.place < n = ltb-true m.place n p in
          record { there = later-entry n l ∙ there; table = later-table (n - 1) (omega (arith, l)) }
      by false p = absurd (true≢false (sym (ap is_some (sym (ap (λ t. cond t (slice_get later.entries (n - m.place - 1)) None) p) ∙ there))))

  -- an answer in the later history is one in the longer
  later-answer : (x : Exchange K) → IsAnswer later x.client x.request x.reply → IsAnswer longer x.client x.request x.reply
  later-answer x is = carried later longer x.client x.client
      (λ n place. record { not_before = omega (arith, place.not_before, behind); not_after = omega (arith, place.not_after, behind) })
      (λ n place. later-table n place.not_before) (carries x.client) x.request x.reply is

-- the entry of an exchange that makes an update
abbrev entry-of : {K : ℕ} → Exchange K → Update K → Entry K
entry-of x u = record { caller = x.client; update = u }

-- an exchange that makes an update, and then others
move : {K : ℕ} (s m t : Standing K) (x : Exchange K) (xs : List (Exchange K)) → Moves s m x → LeadsTo m t xs → LeadsTo s t (x ∷ xs)
unfolding updates_made
move {K} s m t x xs mv g = record {
  ups = (s.place + 1, entry-of x mv.update) ∷ g.ups;
  made = ap (λ o. cons_option o (updates_made xs)) mv.made ∙ ap (λ z. (s.place + 1, entry-of x mv.update) ∷ z) g.made;
  follow = (refl, subst (λ n. Follow (n + 1) g.ups) mv.behind g.follow);
  many = omega (arith, g.many, mv.behind);
  table = later-table s m (entry-of x mv.update) g.ups mv.behind mv.table t.place (omega (arith, g.many)) ∙ g.table;
  rises = rises-more m.place x xs (λ n f. mv.behind ∙ mv.place n f) g.above g.rises;
  above = above;
  answers = answers;
}
  where
    above : Above s.place (x ∷ xs)
    above zero n y is f =
        let here = mv.place n (ap (λ w. place_told w.reply) (one-value x y is) ∙ f) in
        (omega (arith, here), λ some. omega (arith, here))
    above (suc i) n y is f =
        let there = g.above i n y is f in
        (omega (arith, there.0, mv.behind), λ some. omega (arith, there.0, mv.behind))

    answers : (y : Exchange K) → Contains (x ∷ xs) y → IsAnswer (longer s m (entry-of x mv.update) g.ups mv.behind mv.table) y.client y.request y.reply ⊎ IsRefusal y.reply
    answers y (zero, l, is) = subst (λ w. IsAnswer (longer s m (entry-of x mv.update) g.ups mv.behind mv.table) w.client w.request w.reply ⊎ IsRefusal w.reply) is
        (inl (mv.answer (longer s m (entry-of x mv.update) g.ups mv.behind mv.table) (first-entry s m (entry-of x mv.update) g.ups mv.behind mv.table)
        (start-state (longer s m (entry-of x mv.update) g.ups mv.behind mv.table) s.place refl)))
    answers y (suc k, l, is) = ⊎_elim (λ a. inl (later-answer s m (entry-of x mv.update) g.ups mv.behind mv.table y a)) inr (g.answers y (k, omega (arith, l), is))

-- what a session's lines are told leads from where it begins to where it ends
pub session-leads : {K : ℕ} (shape : Shape) (p q : Point K) (lines : List (Line K)) (replies : List (Reply K)) → Runs shape p lines replies q → LeadsTo p.at q.at (zip_with exchange lines replies)
session-leads shape p q [] [] h = subst (λ z. LeadsTo p.at z.at []) (sym h) (nothing p.at)
session-leads shape p q [] (r ∷ rs) h = absurd h
session-leads shape p q (l ∷ ls) [] h = absurd h
session-leads {K} shape p q (l ∷ ls) (r ∷ rs) h = by (told-step shape l.client p h.0 l.request r h.1) (session-leads shape h.0 q ls rs h.2)
  where
    by : Step p.at h.0.at (exchange l r) → LeadsTo h.0.at q.at (zip_with exchange ls rs) → LeadsTo p.at q.at (exchange l r ∷ zip_with exchange ls rs)
    by (IsStay same st) g = stay p.at q.at (exchange l r) (zip_with exchange ls rs) st (subst (λ z. LeadsTo z q.at (zip_with exchange ls rs)) same g)
    by (IsMove mv) g = move p.at h.0.at q.at (exchange l r) (zip_with exchange ls rs) mv g
