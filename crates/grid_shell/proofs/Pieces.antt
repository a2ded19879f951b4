-- Input that comes piece by piece.
use Rattle.std.proofs.Common.{◌≡◌, ◌≤◌, ◌+◌, ℕ, List, ◌++◌, length, take, drop, sym, ap, ◌∙◌, length-append, append_assoc, arith}
use Rattle.std.proofs.lemmas.List.{take-append-le, drop-drop, length-take-le}
use Rattle.disk_trait.specs.Streams.{Takes}
use Rattle.disk_trait.proofs.Pieces.{take_split}

-- a piece of which n bytes are kept
pub length-piece : (out other : List ℕ) (n : ℕ) → n ≤ length out → length (take n (out ++ other)) ≡ n
length-piece out other n le = ap length (take-append-le n out other le) ∙ length-take-le n out le

-- what is in hand after a piece more, of which n bytes were asked to be kept
pub in_hand : (had out other now : List ℕ) (n : ℕ) → n ≤ length out → now ≡ had ++ take n (out ++ other) → now ≡ had ++ take n out
in_hand had out other now n le e = e ∙ ap (λ (p : List ℕ). had ++ p) (take-append-le n out other le)

pub length-in_hand : (had out other now : List ℕ) (n : ℕ) → n ≤ length out → now ≡ had ++ take n (out ++ other) → length now ≡ length had + n
length-in_hand had out other now n le e = ap length (in_hand had out other now n le e) ∙ length-append had (take n out) ∙ omega (arith, length-take-le n out le)

module _ (all had out other now left rest : List ℕ) (n : ℕ) (le : n ≤ length out) (e : now ≡ had ++ take n (out ++ other)) (l : left ≡ drop (length had) all) (t : Takes left rest out n) where
  -- it is a front of the input
  pub front_more : had ≡ take (length had) all → now ≡ take (length now) all
  front_more h =
      in_hand had out other now n le e
      ∙ ap (λ (p : List ℕ). had ++ p) (t.given ∙ ap (take n) l)
      ∙ ap (λ (f : List ℕ). f ++ take n (drop (length had) all)) h
      ∙ sym (take_split (length had) n all)
      ∙ ap (λ (k : ℕ). take k all) (sym (length-in_hand had out other now n le e))

  -- and the rest is what stands behind it
  pub rest_more : rest ≡ drop (length now) all
  rest_more = t.left ∙ ap (drop n) l ∙ drop-drop n (length had) all ∙ ap (λ (k : ℕ). drop k all) (sym (length-in_hand had out other now n le e))

-- three texts added one after the other
pub append_three : (r0 r1 r2 r3 a b c : List ℕ) → r1 ≡ r0 ++ a → r2 ≡ r1 ++ b → r3 ≡ r2 ++ c → r3 ≡ r0 ++ (a ++ (b ++ c))
append_three r0 r1 r2 r3 a b c e1 e2 e3 = e3 ∙ rw (e2, e1) (simp append_assoc)
