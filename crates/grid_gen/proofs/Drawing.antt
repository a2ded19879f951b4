-- Draws of a draw: a seed's draw p is itself a seed, whose draw i is draw p + i of the first.
use Rattle.std.proofs.Common.{◌≡◌, ◌∙◌, ℕ, zero, suc, ◌+◌, ◌++◌, List, [], ◌∷◌, map, refl, sym, ap, arith}
use Rattle.std.proofs.lemmas.List.{map-append}
use Rattle.std.proofs.lemmas.List.FromFn.{map-range_with_len_more}
use Rattle.grid_types.specs.declared.key.Key.{Key}
use Rattle.grid_types.specs.declared.request.Line.{Line}
use Rattle.grid_types.specs.declared.request.Request.{Request}
use Rattle.grid_gen.specs.Draws.{drawn, nth_draw, draws_from}
use Rattle.grid_gen.specs.Generated.{key_number, drawn_request, drawn_line}

-- before any draw there is the seed
pub nth_draw-0 : (seed : ℕ) → nth_draw seed 0 ≡ seed
unfolding nth_draw
nth_draw-0 seed = refl

-- one more draw is drawn behind the last
pub nth_draw-next : (seed i : ℕ) → nth_draw seed (i + 1) ≡ drawn (nth_draw seed i)
unfolding nth_draw
nth_draw-next seed i = let e : i + 1 ≡ suc i = omega arith in ap (nth_draw seed) e

pub nth_draw-add : (seed p i : ℕ) → nth_draw (nth_draw seed p) i ≡ nth_draw seed (p + i)
unfolding nth_draw
nth_draw-add seed p zero = let e : p ≡ p + 0 = omega arith in ap (nth_draw seed) e
nth_draw-add seed p (suc i) = let e : suc (p + i) ≡ p + suc i = omega arith in ap drawn (nth_draw-add seed p i) ∙ ap (nth_draw seed) e

-- the same, where the place is known
pub nth_draw-on : (seed p i j : ℕ) → p + i ≡ j → nth_draw (nth_draw seed p) i ≡ nth_draw seed j
nth_draw-on seed p i j e = nth_draw-add seed p i ∙ ap (nth_draw seed) e

-- two functions that agree everywhere map a list to the same
pub map-same : {X Y : Type 0} (f g : X → Y) → ((x : X) → f x ≡ g x) → (xs : List X) → map f xs ≡ map g xs
map-same f g same xs = λ i. map (λ x. same x i) xs

pub draws_from-on : (seed p n i j : ℕ) → p + i ≡ j → draws_from (nth_draw seed p) i n ≡ draws_from seed j n
unfolding draws_from
draws_from-on seed p zero i j e = refl
draws_from-on seed p (suc n) i j e =
    let next : p + (i + 1) ≡ j + 1 = omega arith in
    let first = nth_draw-on seed p i j e in
    let rest = draws_from-on seed p n (i + 1) (j + 1) next in
    λ k. first k ∷ rest k

-- no draws
pub draws_from-0 : (seed i : ℕ) → draws_from seed i 0 ≡ []
unfolding draws_from
draws_from-0 seed i = refl

-- so many draws and the one behind them
pub draws_from-more : (seed i n j : ℕ) → i + n ≡ j → draws_from seed i (n + 1) ≡ draws_from seed i n ++ nth_draw seed j ∷ []
unfolding draws_from
draws_from-more seed i n j e = map-range_with_len_more (nth_draw seed) i n j e

-- the draws of a draw, one behind another
pub nth_draw-then : (seed p n j x y : ℕ) → p + n ≡ j → x ≡ nth_draw seed p → y ≡ nth_draw x n → y ≡ nth_draw seed j
nth_draw-then seed p n j x y e at then = then ∙ ap (λ z. nth_draw z n) at ∙ nth_draw-on seed p n j e

-- the number behind a draw
pub nth_draw-behind : (seed p j x y : ℕ) → p + 1 ≡ j → x ≡ nth_draw seed p → y ≡ drawn x → y ≡ nth_draw seed j
nth_draw-behind seed p j x y e at then = then ∙ ap drawn at ∙ sym (nth_draw-next seed p) ∙ ap (nth_draw seed) e

-- one number more of a key
pub key-more : (seed n number : ℕ) (old new : List ℕ) → old ≡ map key_number (draws_from seed 1 n) → new ≡ old ++ key_number number ∷ [] → number ≡ nth_draw seed (n + 1) → new ≡ map key_number (draws_from seed 1 (n + 1))
key-more seed n number old new so_far more last =
    let place : 1 + n ≡ n + 1 = omega arith in
    let draws = draws_from seed 1 n in
    let next = nth_draw seed (n + 1) in
    let both : old ++ key_number number ∷ [] ≡ map key_number draws ++ key_number next ∷ [] = λ i. so_far i ++ key_number (last i) ∷ [] in
    more ∙ both ∙ sym (map-append key_number draws (next ∷ [])) ∙ ap (map key_number) (sym (draws_from-more seed 1 n (n + 1) place))

-- the line that is made from a draw of a draw on
pub drawn_line-on : (K seed p client i j : ℕ) → p + i ≡ j → drawn_line K (nth_draw seed p) client i ≡ drawn_line K seed client j
unfolding drawn_line
drawn_line-on K seed p client i j e =
    let kind = nth_draw-on seed p i j e in
    let behind : p + (i + 1) ≡ j + 1 = omega arith in
    let last : p + (i + 1 + K) ≡ j + 1 + K = omega arith in
    let numbers = draws_from-on seed p K (i + 1) (j + 1) behind in
    let number = nth_draw-on seed p (i + 1 + K) (j + 1 + K) last in
    λ k. record { client = client; request = drawn_request (kind k) (record { numbers = map key_number (numbers k) }) (number k) }

-- the last of the K + 2 draws of a line
pub number-drawn : (K seed kind behind_kind behind_key number : ℕ) → kind ≡ drawn seed → behind_kind ≡ kind → behind_key ≡ nth_draw behind_kind K → number ≡ drawn behind_key → number ≡ nth_draw seed (2 + K)
number-drawn K seed kind behind_kind behind_key number first last key then =
    let at = last ∙ nth_draw-behind seed 0 1 seed kind (omega arith) (sym (nth_draw-0 seed)) first in
    nth_draw-behind seed (1 + K) (2 + K) behind_key number (omega arith) (nth_draw-then seed 1 K (1 + K) behind_kind behind_key (omega arith) at key) then

-- the line that is made of the draws behind a seed: its kind, its key and its number, each drawn behind the ones before
pub line-drawn : (K seed client kind behind_kind behind_key number : ℕ) (key : Key K) (request : Request K) → kind ≡ drawn seed → behind_kind ≡ kind → key.numbers ≡ map key_number (draws_from behind_kind 1 K) → behind_key ≡ nth_draw behind_kind K → number ≡ drawn behind_key → request ≡ drawn_request kind key number → ◌≡◌ {A = Line K} (record { client = client; request = request }) (drawn_line K seed client 1)
unfolding drawn_line
line-drawn K seed client kind behind_kind behind_key number key request first last numbers key_last then asked =
    let kind_at = nth_draw-behind seed 0 1 seed kind (omega arith) (sym (nth_draw-0 seed)) first in
    let key_at : key.numbers ≡ map key_number (draws_from seed 2 K) = numbers ∙ ap (λ y. map key_number (draws_from y 1 K)) (last ∙ kind_at) ∙ ap (map key_number) (draws_from-on seed 1 K 1 2 (omega arith)) in
    let number_at = number-drawn K seed kind behind_kind behind_key number first last key_last then in
    let whole : request ≡ drawn_request (nth_draw seed 1) (record { numbers = map key_number (draws_from seed 2 K) }) (nth_draw seed (2 + K)) = asked ∙ (λ i. drawn_request (kind_at i) (record { numbers = key_at i }) (number_at i)) in
    λ i. record { client = client; request = whole i }
