-- Sessions that follow one another are one, and what was left in one of them was left in it.
use Rattle.std.proofs.Common.{◌≡◌, ◌+◌, ℕ, suc, List, [], ◌∷◌, ◌++◌, take, length, refl, sym, ap, subst, ◌∙◌, arith}
use Rattle.std.proofs.lemmas.List.{take-append-le, length-append}
use Rattle.std.proofs.Math.Seq.{take-append-add}
use Rattle.grid_types.specs.declared.request.Line.{Line}
use Rattle.grid_types.specs.declared.request.Reply.{Reply}
use Rattle.grid_types.specs.declared.shape.Shape.{Shape}
use Rattle.client_sessions.specs.Points.{Point}
use Rattle.client_sessions.specs.Runs.{Runs, IsLeftIn}
use Rattle.client_sessions.specs.Laws.{RunsJoin}

module _ {K : ℕ} (shape : Shape) where
  -- each line of a session has a reply
  pub each-replied : (p q : Point K) (xs : List (Line K)) (rs : List (Reply K)) → Runs shape p xs rs q → length rs ≡ length xs
  each-replied p q [] [] h = refl
  each-replied p q [] (r ∷ rs) h = absurd h
  each-replied p q (x ∷ xs) [] h = absurd h
  each-replied p q (x ∷ xs) (r ∷ rs) h = ap suc (each-replied h.0 q xs rs h.2)

  joined : (p q r : Point K) (xs ys : List (Line K)) (rs ss : List (Reply K)) → Runs shape p xs rs q → Runs shape q ys ss r → Runs shape p (xs ++ ys) (rs ++ ss) r
  joined p q r [] ys [] ss h g = subst (λ (x : Point K). Runs shape x ys ss r) h g
  joined p q r [] ys (a ∷ rs) ss h g = absurd h
  joined p q r (x ∷ xs) ys [] ss h g = absurd h
  joined p q r (x ∷ xs) ys (a ∷ rs) ss h g = (h.0, h.1, joined h.0 q r xs ys rs ss h.2 g)

  -- the same session, where its lines and its replies are given otherwise
  leads-as : (p q : Point K) {xs ys : List (Line K)} {rs ss : List (Reply K)} → xs ≡ ys → rs ≡ ss → Runs shape p xs rs q → Runs shape p ys ss q
  leads-as p q {xs} {ys} {rs} {ss} e f h = subst (λ z. Runs shape p ys z q) f (subst (λ z. Runs shape p z rs q) e h)

  left-first : (p q : Point K) (xs ys : List (Line K)) (rs ss : List (Reply K)) (image : List ℕ) → Runs shape p xs rs q → IsLeftIn shape p xs rs image → IsLeftIn shape p (xs ++ ys) (rs ++ ss) image
  left-first p q xs ys rs ss image h left =
      let replied = each-replied p q xs rs h in
      record {
        count = left.count;
        few = omega (arith, left.few, length-append xs ys);
        point = left.point;
        leads = leads-as p left.point (sym (take-append-le left.count xs ys left.few)) (sym (take-append-le left.count rs ss (omega (arith, left.few, replied)))) left.leads;
        stands = left.stands;
      }

  left-second : (p q : Point K) (xs ys : List (Line K)) (rs ss : List (Reply K)) (image : List ℕ) → Runs shape p xs rs q → IsLeftIn shape q ys ss image → IsLeftIn shape p (xs ++ ys) (rs ++ ss) image
  left-second p q xs ys rs ss image h left =
      let replied = each-replied p q xs rs h in
      record {
        count = length xs + left.count;
        few = omega (arith, left.few, length-append xs ys);
        point = left.point;
        leads = leads-as p left.point (sym (take-append-add xs ys left.count)) (sym (ap (λ n. take (n + left.count) (rs ++ ss)) (sym replied) ∙ take-append-add rs ss left.count))
            (joined p q left.point xs (take left.count ys) rs (take left.count ss) h left.leads);
        stands = left.stands;
      }

-- the law of sessions that follow one another
pub runs-join : {K : ℕ} → RunsJoin K
runs-join = record { joined = joined; first = left-first; second = left-second }
