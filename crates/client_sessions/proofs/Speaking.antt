-- Where all lines are one client's, it is the one client that has a line, and its lines are all.
use Rattle.std.proofs.Common.{◌≡◌, ◌<◌, ◌≤◌, ◌≢◌, ◌+◌, ◌==◌, ◌||◌, ◌⊎◌, inl, inr, ℕ, zero, suc, Bool, true, false, cond, List, [], ◌∷◌, map, length, All, Contains, filter, refl, sym, ap, subst, ◌∙◌, arith, append-nil}
use Rattle.std.specs.List.{list_any, range_with_len}
use Rattle.std.proofs.lemmas.Bool.{eq-eqb, ne_eqb, cases_eq}
use Rattle.std.proofs.lemmas.List.Elements.{All-head, All-tail, All-weaker, filter_agree}
use Rattle.grid_types.specs.Lists.{zip_with}
use Rattle.grid_types.specs.declared.request.Line.{Line}
use Rattle.grid_types.specs.declared.request.Reply.{Reply}
use Rattle.grid_types.specs.declared.sizes.TheConstants.{MOST_CLIENTS}
use Rattle.grid_model.specs.Lists.{from_to}
use Rattle.grid_model.specs.Sessions.{lines_by, clients, exchange, exchanges_of, exchanges}
use Rattle.grid_model.specs.Text.{Group}
use Rattle.client_sessions.specs.Runs.{group_of_one}

module _ {X : Type 0} (p : X → Bool) where
  -- a test that answers the same at each item is answered so of the list
  any-alike : (b : Bool) (x : X) (xs : List X) → All (λ y. p y ≡ b) (x ∷ xs) → list_any p (x ∷ xs) ≡ b
  any-alike true x xs h = ap (λ t. t || list_any p xs) (All-head (λ y. p y ≡ true) x xs h)
  any-alike false x [] h = ap (λ t. t || false) (All-head (λ y. p y ≡ false) x [] h)
  any-alike false x (y ∷ ys) h = ap (λ t. t || list_any p (y ∷ ys)) (All-head (λ z. p z ≡ false) x (y ∷ ys) h) ∙ any-alike false y ys (All-tail (λ z. p z ≡ false) x (y ∷ ys) h)

  -- a test that each item passes keeps all
  all-kept : (xs : List X) → All (λ y. p y ≡ true) xs → filter p xs ≡ xs
  all-kept [] h = refl
  all-kept (x ∷ xs) h =
      ap (λ t. cond t (x ∷ filter p xs) (filter p xs)) (All-head (λ y. p y ≡ true) x xs h)
      ∙ ap (λ z. x ∷ z) (all-kept xs (All-tail (λ y. p y ≡ true) x xs h))

-- a number below a range is none of it
none-of-range : (n a k : ℕ) → n < a → filter (λ c. n == c) (range_with_len a k) ≡ []
none-of-range n a zero h = refl
none-of-range n a (suc k) h =
    ap (λ t. cond t (a ∷ filter (λ c. n == c) (range_with_len (a + 1) k)) (filter (λ c. n == c) (range_with_len (a + 1) k))) (ne_eqb n a (λ e. omega (arith, e, h)))
    ∙ none-of-range n (a + 1) k (omega (arith, h))

-- a number of a range is one of it
one-of-range : (n a k : ℕ) → a ≤ n → n < a + k → filter (λ c. n == c) (range_with_len a k) ≡ n ∷ []
one-of-range n a zero low high = absurd (omega (arith, low, high))
one-of-range n a (suc k) low high = by (cases_eq n a) (λ apart. one-of-range n (a + 1) k (omega (arith, low, apart)) (omega (arith, high)))
  where
    by : (n ≡ a) ⊎ (n ≢ a) → (n ≢ a → filter (λ c. n == c) (range_with_len (a + 1) k) ≡ n ∷ []) → filter (λ c. n == c) (range_with_len a (suc k)) ≡ n ∷ []
    by (inl e) rest = ap (λ t. cond t (a ∷ filter (λ c. n == c) (range_with_len (a + 1) k)) (filter (λ c. n == c) (range_with_len (a + 1) k))) (eq-eqb n a e) ∙ (λ i. sym e i ∷ none-of-range n (a + 1) k (omega (arith, e)) i)
    by (inr e) rest = ap (λ t. cond t (a ∷ filter (λ c. n == c) (range_with_len (a + 1) k)) (filter (λ c. n == c) (range_with_len (a + 1) k))) (ne_eqb n a e) ∙ rest e

module _ {K : ℕ} (client : ℕ) where
  -- the client's lines are all lines
  pub its-lines : (lines : List (Line K)) → All (λ l. l.client ≡ client) lines → lines_by client lines ≡ lines
  its-lines lines h = all-kept (λ (l : Line K). l.client == client) lines (All-weaker (λ (l : Line K). l.client ≡ client) (λ l. (l.client == client) ≡ true) (λ l e. eq-eqb l.client client e) lines h)

  -- a client has a line where it is the one that speaks
  has-line : (c : ℕ) (l : Line K) (ls : List (Line K)) → All (λ m. m.client ≡ client) (l ∷ ls) → list_any (λ m. m.client == c) (l ∷ ls) ≡ (client == c)
  has-line c l ls h = any-alike (λ (m : Line K). m.client == c) (client == c) l ls
      (All-weaker (λ (m : Line K). m.client ≡ client) (λ m. (m.client == c) ≡ (client == c)) (λ m e. ap (λ n. n == c) e) (l ∷ ls) h)

  speaks-alone : (l : Line K) (ls : List (Line K)) → 1 ≤ client → client ≤ MOST_CLIENTS → All (λ m. m.client ≡ client) (l ∷ ls) → clients (l ∷ ls) ≡ client ∷ []
  speaks-alone l ls low high h =
      filter_agree (λ c. list_any (λ (m : Line K). m.client == c) (l ∷ ls)) (λ c. client == c) (λ c. has-line c l ls h) (from_to 1 MOST_CLIENTS)
      ∙ one-of-range client 1 MOST_CLIENTS low (omega (arith, high))

  -- the groups of replies are those of the clients that have a line
  pub its-clients : (lines : List (Line K)) (replies : List (Reply K)) → length replies ≡ length lines → 1 ≤ client → client ≤ MOST_CLIENTS → All (λ m. m.client ≡ client) lines
      → map (λ g. g.client) (group_of_one client replies) ≡ clients lines
  its-clients [] [] e low high h = refl
  its-clients [] (r ∷ rs) e low high h = absurd (omega (arith, e))
  its-clients (l ∷ ls) [] e low high h = absurd (omega (arith, e))
  its-clients (l ∷ ls) (r ∷ rs) e low high h = sym (speaks-alone l ls low high h)

  -- what holds of its group holds of each
  pub of-its-group : (P : Group K → Type 0) (replies : List (Reply K)) (g : Group K) → P (record { client = client; replies = replies }) → Contains (group_of_one client replies) g → P g
  of-its-group P [] g h c = absurd (omega (arith, c.1))
  of-its-group P (r ∷ rs) g h (zero, l, e) = subst P e h
  of-its-group P (r ∷ rs) g h (suc k, l, e) = absurd (omega (arith, l))

  -- its exchanges are its lines with the replies
  pub its-exchanges-of : (lines : List (Line K)) (replies : List (Reply K)) → All (λ m. m.client ≡ client) lines
      → exchanges_of lines (record { client = client; replies = replies }) ≡ zip_with exchange lines replies
  unfolding exchanges_of
  its-exchanges-of lines replies h = ap (λ ls. zip_with exchange ls replies) (its-lines lines h)

  -- all exchanges are its own
  pub its-exchanges : (lines : List (Line K)) (replies : List (Reply K)) → length replies ≡ length lines → All (λ m. m.client ≡ client) lines
      → exchanges lines (group_of_one client replies) ≡ zip_with exchange lines replies
  unfolding exchanges
  its-exchanges [] [] e h = refl
  its-exchanges [] (r ∷ rs) e h = absurd (omega (arith, e))
  its-exchanges (l ∷ ls) [] e h = absurd (omega (arith, e))
  its-exchanges (l ∷ ls) (r ∷ rs) e h =
      append-nil (exchanges_of (l ∷ ls) (record { client = client; replies = r ∷ rs }))
      ∙ its-exchanges-of (l ∷ ls) (r ∷ rs) h
