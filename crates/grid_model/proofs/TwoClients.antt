-- What a script with two clients may print: a reading beside a put is answered before it or after it, and nothing else explains the text.
use Rattle.std.proofs.Common.{◌≡◌, ◌≤◌, ◌⊎◌, inl, ℕ, zero, suc, List, [], ◌∷◌, length, None, Ok, refl, sym, subst, ap, arith, true≢false, codes, slice_index}
use Rattle.std.specs.List.{Contains}
use Rattle.std.specs.Option.{is_some}
use Rattle.grid_types.specs.declared.request.Line.{Line}
use Rattle.grid_types.specs.declared.request.Request.TheVariants as ask
use Rattle.grid_types.specs.declared.request.Reply.TheVariants as told
use Rattle.grid_model.specs.Computing.{computing}
use Rattle.grid_model.specs.Script.{lines}
use Rattle.grid_model.specs.Text.{Group, text}
use Rattle.grid_model.specs.Tables.{get, effect}
use Rattle.grid_model.specs.Histories.{History, state_at}
use Rattle.grid_model.specs.Answers.{IsAnswer, IsRefusal}
use Rattle.grid_model.specs.Sessions.{Explains, Exchange, Rises, lines_by, exchanges, exchanges_of, updates_made, by_place, told_history}

-- client 2 puts, and client 1 gets another key
abbrev script : List (Line 2)
script = record { client = 2; request = ask.Put (record { key = record { numbers = 1 ∷ 1 ∷ [] }; value = 10 ∷ [] }) } ∷ record { client = 1; request = ask.Get (record { numbers = 9 ∷ 9 ∷ [] }) } ∷ []

read : lines 2 (codes "client 2\nput 1,1 0a\nclient 1\nget 9,9\n") ≡ Ok script
unfolding computing
read = refl

-- the get was answered at this place, and the put at another
abbrev replies : ℕ → ℕ → List (Group 2)
replies got put = record { client = 1; replies = told.Got (record { at = got; value = None }) ∷ [] } ∷ record { client = 2; replies = told.Put (record { at = put; value = None }) ∷ [] } ∷ []

printed : text (replies 0 1) 1 ≡ codes "client 1\n@0 none\nclient 2\n@1 new\nfront 1\n"
unfolding computing
printed = refl

-- of two items each is one of them
of-two : {X : Type 0} (P : X → Type 0) (x y z : X) → P x → P y → Contains (x ∷ y ∷ []) z → P z
of-two P x y z p q (zero, l, e) = subst P e p
of-two P x y z p q (suc zero, l, e) = subst P e q
of-two P x y z p q (suc (suc k), l, e) = absurd (omega (arith, l))

-- one exchange rises
alone : (x : Exchange 2) → Rises (x ∷ [])
alone x zero zero p q a b l e f g h = absurd (omega (arith, l))
alone x zero (suc j) p q a b l e f g h = absurd (true≢false (sym (ap is_some f)))
alone x (suc i) j p q a b l e f g h = absurd (true≢false (sym (ap is_some e)))

abbrev get-told : ℕ → Exchange 2
get-told got = record { client = 1; request = ask.Get (record { numbers = 9 ∷ 9 ∷ [] }); reply = told.Got (record { at = got; value = None }) }

abbrev put-told : ℕ → Exchange 2
put-told put = record { client = 2; request = ask.Put (record { key = record { numbers = 1 ∷ 1 ∷ [] }; value = 10 ∷ [] }); reply = told.Put (record { at = put; value = None }) }

-- the history that was told has the put alone
abbrev history : ℕ → History 2
history got = told_history 0 [] (exchanges script (replies got 1))

explained : (got : ℕ) → got ≤ 1 → None ≡ get (state_at (history got) got) (9 ∷ 9 ∷ []) → Explains 0 [] script (replies got 1) 1
unfolding exchanges exchanges_of updates_made by_place told_history state_at
explained got l absent = record {
  base_is = record { table = tt; keys = λ k d e. absurd (true≢false (sym (ap is_some e))); values = λ k d e. absurd (true≢false (sym (ap is_some e))) };
  clients = refl;
  replies = λ g c. of-two (λ (x : Group 2). length x.replies ≡ length (lines_by x.client script)) (record { client = 1; replies = told.Got (record { at = got; value = None }) ∷ [] }) (record { client = 2; replies = told.Put (record { at = 1; value = None }) ∷ [] }) g refl refl c;
  places = refl;
  once = refl;
  rising = λ g c. of-two (λ (x : Group 2). Rises (exchanges_of script x)) (record { client = 1; replies = told.Got (record { at = got; value = None }) ∷ [] }) (record { client = 2; replies = told.Put (record { at = 1; value = None }) ∷ [] }) g (alone (get-told got)) (alone (put-told 1)) c;
  answers = λ x c. of-two (λ (y : Exchange 2). IsAnswer (history got) y.client y.request y.reply ⊎ IsRefusal y.reply) (get-told got) (put-told 1) x
      (inl (record { place = record { not_before = omega arith; not_after = omega (arith, l) }; answer = absent }))
      (inl (record { there = refl; answer = refl })) c;
}

-- the get was answered before the put
explains-before : Explains 0 [] script (replies 0 1) 1
unfolding exchanges exchanges_of updates_made by_place told_history state_at effect
explains-before = explained 0 (omega arith) refl

-- or after it
explains-after : Explains 0 [] script (replies 1 1) 1
unfolding exchanges exchanges_of updates_made by_place told_history state_at effect
explains-after = explained 1 (omega arith) refl

-- a put whose place is left out before it is not explained
explains-no-gap : (got : ℕ) → Explains 0 [] script (replies got 2) 1 → ⊥
unfolding exchanges exchanges_of updates_made by_place
explains-no-gap got h = absurd (omega (arith, ap (λ ns. slice_index ns 0) h.places))
