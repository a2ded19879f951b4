-- The lines of a round, one after another, and the rounds one after another.
use Rattle.std.proofs.Common.{◌≡◌, ◌∙◌, ℕ, suc, ◌+◌, ◌*◌, ◌<◌, ◌≤◌, ◌++◌, List, [], ◌∷◌, length, map, flat_map, get_or, Some, refl, sym, ap, arith, append_assoc}
use Rattle.std.specs.List.{range_with_len, slice_get}
use Rattle.std.proofs.Math.Nat.{mul-le-mul_right}
use Rattle.std.proofs.lemmas.Option.{slice_get_read}
use Rattle.std.proofs.lemmas.List.FromFn.{map-range_with_len_more, length-map-range_with_len, get_or-map-range_with_len}
use Rattle.grid_types.specs.declared.request.Line.{Line}
use Rattle.grid_gen.specs.Draws.{nth_draw}
use Rattle.grid_gen.specs.Generated.{drawn_line, client_line, round_lines, generated}
use Rattle.grid_gen.specs.Laws.{IsGenerator}
use Rattle.grid_gen.proofs.Drawing.{drawn_line-on, map-same}
use Rattle.grid_gen.proofs.Places.{flat_map-more, length-flat, get_or-flat}

-- the lines of the first n clients of round 0
abbrev pub first_lines : (K seed clients n : ℕ) → List (Line K)
first_lines K seed clients n = map (client_line K seed clients 0) (range_with_len 0 n)

-- all clients have their lines in the round
pub first_lines-all : (K seed clients : ℕ) → first_lines K seed clients clients ≡ round_lines K seed clients 0
unfolding round_lines
first_lines-all K seed clients = refl

-- one line more, made of the draws behind those of the lines before it
pub first_lines-more : (K seed clients n x : ℕ) (old items new : List (Line K)) (line : Line K) → items ≡ old ++ first_lines K seed clients n → x ≡ nth_draw seed (n * (K + 2)) → line ≡ drawn_line K x (n + 1) 1 → new ≡ items ++ line ∷ [] → new ≡ old ++ first_lines K seed clients (n + 1)
first_lines-more K seed clients n x old items new line so_far at made more =
    let f = client_line K seed clients 0 in
    let place : n * (K + 2) + 1 ≡ (0 * clients + n) * (K + 2) + 1 = omega arith in
    let last : line ≡ f n = made ∙ ap (λ y. drawn_line K y (n + 1) 1) at ∙ drawn_line-on K seed (n * (K + 2)) (n + 1) 1 ((0 * clients + n) * (K + 2) + 1) place in
    let both : items ++ line ∷ [] ≡ (old ++ map f (range_with_len 0 n)) ++ f n ∷ [] = λ i. so_far i ++ last i ∷ [] in
    more ∙ both ∙ append_assoc old (map f (range_with_len 0 n)) (f n ∷ []) ∙ ap (λ ls. old ++ ls) (sym (map-range_with_len_more f 0 n n (omega arith)))

-- the lines of round 0 of the draw that is the last before round r are those of round r
pub round_lines-on : (K seed clients r : ℕ) → round_lines K (nth_draw seed (r * clients * (K + 2))) clients 0 ≡ round_lines K seed clients r
unfolding round_lines
round_lines-on K seed clients r =
    map-same (client_line K (nth_draw seed (r * clients * (K + 2))) clients 0) (client_line K seed clients r)
    (λ c. drawn_line-on K seed (r * clients * (K + 2)) (c + 1) ((0 * clients + c) * (K + 2) + 1) ((r * clients + c) * (K + 2) + 1) (omega arith))
    (range_with_len 0 clients)

-- the lines of the first n rounds
abbrev pub first_rounds : (K seed clients n : ℕ) → List (Line K)
first_rounds K seed clients n = flat_map (round_lines K seed clients) (range_with_len 0 n)

-- one round more
pub first_rounds-more : (K seed clients n x : ℕ) (items new : List (Line K)) → items ≡ first_rounds K seed clients n → x ≡ nth_draw seed (n * clients * (K + 2)) → new ≡ items ++ round_lines K x clients 0 → new ≡ first_rounds K seed clients (n + 1)
first_rounds-more K seed clients n x items new so_far at more =
    let round : round_lines K x clients 0 ≡ round_lines K seed clients n = ap (λ y. round_lines K y clients 0) at ∙ round_lines-on K seed clients n in
    let both : items ++ round_lines K x clients 0 ≡ first_rounds K seed clients n ++ round_lines K seed clients n = λ i. so_far i ++ round i in
    let next : suc n ≡ n + 1 = omega arith in
    more ∙ both ∙ sym (flat_map-more (round_lines K seed clients) n 0 n (omega arith)) ∙ ap (first_rounds K seed clients) next

-- all rounds
pub first_rounds-all : (K seed rounds clients : ℕ) → first_rounds K seed clients rounds ≡ generated K seed rounds clients
unfolding generated
first_rounds-all K seed rounds clients = refl

-- a round has a line for each client
length-round : (K seed clients r : ℕ) → length (round_lines K seed clients r) ≡ clients
unfolding round_lines
length-round K seed clients r = length-map-range_with_len (client_line K seed clients r) 0 clients

-- the line of a client in a round
get_or-round : (K seed clients r c : ℕ) (d : Line K) → c < clients → get_or (round_lines K seed clients r) c d ≡ client_line K seed clients r c
unfolding round_lines
get_or-round K seed clients r c d h = get_or-map-range_with_len (client_line K seed clients r) 0 clients c c d h (omega arith)

-- as many lines as rounds times clients
length-generated : (K seed rounds clients : ℕ) → length (generated K seed rounds clients) ≡ rounds * clients
unfolding generated
length-generated K seed rounds clients = length-flat (round_lines K seed clients) clients (length-round K seed clients) rounds 0

-- the line of a client in a round, where it stands
get-generated : (K seed rounds clients r c : ℕ) → r < rounds → c < clients → slice_get (generated K seed rounds clients) (r * clients + c) ≡ Some (client_line K seed clients r c)
unfolding generated
get-generated K seed rounds clients r c h k =
    let line = client_line K seed clients r c in
    let up : (r + 1) * clients ≤ rounds * clients = mul-le-mul_right clients (omega arith) in
    let within : r * clients + c < rounds * clients = omega arith in
    let there : 0 + r ≡ r = omega arith in
    let item = get_or-flat (round_lines K seed clients) clients (length-round K seed clients) rounds 0 r c line h k in
    slice_get_read (flat_map (round_lines K seed clients) (range_with_len 0 rounds)) (rounds * clients) (r * clients + c) line
    (sym (length-generated K seed rounds clients)) within
    (sym (item ∙ ap (λ i. get_or (round_lines K seed clients i) c line) there ∙ get_or-round K seed clients r c line k))

-- the law of the generator
pub generator : (K : ℕ) → IsGenerator K
generator K = record { count = length-generated K; each = get-generated K }
