-- The numbers of records in an attribute, record by record.
use Rattle.std.proofs.Common.{◌≡◌, ◌<◌, ℕ, List, [], length, get_or, slice_index, sym, ap, ◌∙◌, arith}
use Rattle.std.proofs.lemmas.List.{get_or-map, length-map}
use Rattle.grid_types.specs.declared.update.Record.{Record}
use Rattle.split_policy.specs.Rows.{keys_of, numbers_in}

module _ {K : ℕ} (rows : List (Record K)) (a : ℕ) where
  -- there is one for each record
  pub numbers-long : length (numbers_in (keys_of rows) a) ≡ length rows
  numbers-long = length-map (keys_of rows) (λ k. slice_index k a) ∙ length-map rows (λ r. r.key.numbers)

  -- that of the record that was read
  pub number-at : (i : ℕ) (row : Record K) → i < length rows → row ≡ get_or rows i row → slice_index (numbers_in (keys_of rows) a) i ≡ slice_index row.key.numbers a
  number-at i row p is =
      get_or-map (λ k. slice_index k a) (keys_of rows) i [] 0 (omega (arith, p, length-map rows (λ r. r.key.numbers)))
      ∙ ap (λ k. slice_index k a) (get_or-map (λ r. r.key.numbers) rows i row [] p)
      ∙ ap (λ (r : Record K). slice_index r.key.numbers a) (sym is)
