-- Numbers that are written one behind the other.
use Rattle.std.proofs.Common.{◌≡◌, ◌≤◌, ◌<◌, ◌∙◌, ◌+◌, ◌*◌, ap, sym, length, get_or, arith, take, List, ◌++◌, ℕ}
use Rattle.std.proofs.lemmas.List.{take_all, length-take-le}
use Rattle.page_fields.specs.Fields.{bytes_of, replaced}
use Rattle.page_fields.specs.Padded.{numbers}
use Rattle.page_fields.proofs.BytesOf.{numbers_none, numbers_more, length-numbers}
use Rattle.page_fields.proofs.Parts.{replaced_none, replaced_more, front_of}

module _ (width at : ℕ) (ns page : List ℕ) where
  -- none is written yet
  pub none-written : page ≡ replaced at (numbers width (take 0 ns)) page
  none-written = sym (replaced_none at page) ∙ ap (λ (xs : List ℕ). replaced at xs page) (sym (numbers_none width))

  -- the next one is written behind those in front of it
  pub next-written : (i step : ℕ) (now new : List ℕ) → i < length ns → at ≤ length page → step ≡ width * i → now ≡ replaced at (numbers width (take i ns)) page
      → new ≡ replaced (at + step) (bytes_of width (get_or ns i 0)) now → new ≡ replaced at (numbers width (take (i + 1) ns)) page
  next-written i step now new lt inside is before after =
      let long : length (take i ns) ≡ i = length-take-le i ns (omega arith) in
      let size : length (numbers width (take i ns)) ≡ step = length-numbers width (take i ns) ∙ ap (λ (n : ℕ). width * n) long ∙ sym is in
      replaced_more at (at + step) page now new _ _ before after (omega (arith, size)) inside
      ∙ ap (λ (xs : List ℕ). replaced at xs page) (numbers_more width ns i 0 lt)

  -- at the end all are written
  pub all-written : (i : ℕ) (now : List ℕ) → length ns ≤ i → now ≡ replaced at (numbers width (take i ns)) page → now ≡ replaced at (numbers width ns) page
  all-written i now end before = before ∙ ap (λ (xs : List ℕ). replaced at (numbers width xs) page) (take_all i ns end)

  -- the page up to their end
  pub front-written : (now : List ℕ) → at ≤ length page → now ≡ replaced at (numbers width ns) page → take (at + width * length ns) now ≡ take at page ++ numbers width ns
  front-written now inside written = front_of at (width * length ns) page now (numbers width ns) written (length-numbers width ns) inside
