-- What the lines of a script ask, line by line.
use Rattle.std.proofs.Common.{◌≡◌, ◌∙◌, ◌+◌, ℕ, List, [], ◌∷◌, ◌++◌, Result, Ok, Err, refl, length, sym, ap, append_assoc, arith}
use Rattle.std.proofs.lemmas.List.{append-nil}
use Rattle.grid_types.specs.declared.request.Line.{Line}
use Rattle.grid_types.specs.declared.request.Request.{Request}
use Rattle.grid_model.specs.Script.{Meaning, asked, also, lines_of, meanings}
use Rattle.grid_script.specs.Reading.{meant, so_far}
use Rattle.grid_script.specs.declared.reader.meanings.Said.{Said}
use Rattle.grid_script.specs.declared.reader.meanings.Said.TheVariants as said

module _ {K : ℕ} where
  so_far-also : (ls : List (Line K)) (l : Line K) (o : Result (List (Line K)) ℕ) → so_far ls (also l o) ≡ so_far (ls ++ l ∷ []) o
  so_far-also ls l (Ok more) = ap Ok (sym (append_assoc ls (l ∷ []) more))
  so_far-also ls l (Err n) = refl

  pub taken-silent : (ls : List (Line K)) (n client : ℕ) (s : Said K) (ms : List (Meaning K)) → s ≡ said.Silent → so_far ls (asked n client (meant s ∷ ms)) ≡ so_far ls (asked (n + 1) client ms)
  unfolding asked
  taken-silent ls n client s ms e = ap (λ v. so_far ls (asked n client (meant v ∷ ms))) e

  pub taken-speaks : (ls : List (Line K)) (n client next : ℕ) (s : Said K) (ms : List (Meaning K)) → s ≡ said.Speaks next → so_far ls (asked n client (meant s ∷ ms)) ≡ so_far ls (asked (n + 1) next ms)
  unfolding asked
  taken-speaks ls n client next s ms e = ap (λ v. so_far ls (asked n client (meant v ∷ ms))) e

  pub taken-asks : (ls longer : List (Line K)) (n client : ℕ) (r : Request K) (s : Said K) (ms : List (Meaning K)) → s ≡ said.Asks r → longer ≡ ls ++ (record { client = client; request = r }) ∷ [] → so_far ls (asked n client (meant s ∷ ms)) ≡ so_far longer (asked (n + 1) client ms)
  unfolding asked
  taken-asks ls longer n client r s ms e more =
      ap (λ v. so_far ls (asked n client (meant v ∷ ms))) e
      ∙ so_far-also ls (record { client = client; request = r }) (asked (n + 1) client ms)
      ∙ ap (λ l. so_far l (asked (n + 1) client ms)) (sym more)

  -- where nothing is left, all is read
  pub all-taken : (ls : List (Line K)) (n client : ℕ) (rest : List ℕ) → length rest ≡ 0 → so_far ls (asked n client (meanings K rest)) ≡ Ok ls
  unfolding asked lines_of
  all-taken ls n client [] e = ap Ok (append-nil ls)
  all-taken ls n client (b ∷ rest) e = absurd (omega (arith, e))
