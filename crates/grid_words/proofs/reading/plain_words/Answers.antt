use Rattle.std.proofs.Common.{◌∙◌, ◌++◌, ◌∷◌, [], ap, sym, map, subst, append_assoc}
use Rattle.std.specs.Prelude.{string_bytes}
use Rattle.std.specs.List.{All}
use Rattle.std.proofs.lemmas.Bool.{true≢false}
use Rattle.std.proofs.lemmas.List.{map-append}
use Rattle.std.proofs.lemmas.List.Elements.{All-push}
use Rattle.grid_words.specs.Commands.{IsPlain}
use Rattle.grid_words.specs.Given.{coming}
use Rattle.grid_words.proofs.Finding.{not_plain}
use Rattle.grid_words.proofs.reading.plain_words.Goals as goal

pub returns-then-not-is_plain-clause-nothing : goal.returns-then-not-is_plain-clause-nothing
returns-then-not-is_plain-clause-nothing c =
    let reached = c.loop-word.invariant.gathered ∙ ap (λ ws. map string_bytes c.loop-word.words.items ++ map string_bytes ws) c.in-Some-next.ensures.items in
    not_plain _ (map string_bytes c.loop-word.words.items) (string_bytes c.in-Some-next.word) _ reached
    (λ plain. true≢false (sym (c.is_plain.ensures.1 (subst IsPlain (sym c.as_str.ensures.value) plain)) ∙ c.if-not-is_plain.true))

pub loop-word-preserved : goal.loop-word-preserved
loop-word-preserved c =
    let pushed = c.in_ok-push.ensures.items in
    let more = ap (map string_bytes) pushed ∙ map-append string_bytes c.loop-word.words.items (c.in-Some-next.word ∷ []) in
    record {
      gathered = c.loop-word.invariant.gathered ∙ ap (λ ws. map string_bytes c.loop-word.words.items ++ map string_bytes ws) c.in-Some-next.ensures.items
          ∙ sym (append_assoc (map string_bytes c.loop-word.words.items) (string_bytes c.in-Some-next.word ∷ []) _) ∙ ap (λ ws. ws ++ coming c.next-in-loop-word.new.self) (sym more);
      plain = subst (All IsPlain) (sym more) (All-push IsPlain (map string_bytes c.loop-word.words.items) (string_bytes c.in-Some-next.word) c.loop-word.invariant.plain
          (subst IsPlain c.as_str.ensures.value (c.is_plain.ensures.0 c.if-not-is_plain.false)));
    }
