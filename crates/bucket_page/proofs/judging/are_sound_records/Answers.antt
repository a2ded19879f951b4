use Rattle.std.proofs.Common.{◌∙◌, sym}
use Rattle.std.proofs.lemmas.Bool.{false≢true}
use Rattle.bucket_page.proofs.judging.are_sound_records.Goals as goal

pub returns-then-not-are_records : goal.returns-then-not-are_records
returns-then-not-are_records g c = (λ h. absurd (false≢true h), λ s. absurd (false≢true (sym c.if-not-are_records.true ∙ c.are_records.ensures.1 s.each)))

pub returns-then-not-keys_ascend : goal.returns-then-not-keys_ascend
returns-then-not-keys_ascend g c = (λ h. absurd (false≢true h), λ s. absurd (false≢true (sym c.if-not-keys_ascend.true ∙ c.keys_ascend.ensures.1 s.ascending)))

pub returns : goal.returns
returns g c = (
  λ h. record { each = c.are_records.ensures.0 c.if-not-are_records.false; ascending = c.keys_ascend.ensures.0 c.if-not-keys_ascend.false; tail = c.zeros.ensures.0 h },
  λ s. c.zeros.ensures.1 s.tail,
)
