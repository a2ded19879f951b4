-- What a sink has received of a text, and what stands in the buffer before it.
use Rattle.std.proofs.Common.{◌≡◌, ◌+◌, ℕ, List, ◌++◌, Result, Ok, Err, length, take, drop, sym, ap, ◌∙◌, append_assoc}
use Rattle.std.specs.Prelude.{IsErr}
use Rattle.std.proofs.lemmas.Bool.{false≢true}
use Rattle.std.proofs.Math.Seq.{take-append_seam, take-append-add}
use Rattle.std.proofs.lemmas.List.{append_cancel_left, take-append-drop}
use Rattle.disk_trait.specs.declared.sink.Sink.{Ghosts}
use Rattle.disk_trait.specs.Streams.{AddsFront}
use Rattle.disk_trait.proofs.Calls.{rose_within}
use Rattle.grid_shell.specs.Printing.{Passes}
use Rattle.grid_shell.proofs.Counting.{not_lower, same_count}

-- a front of a text is one of a longer text
pub adds_longer : (old new t u : List ℕ) → AddsFront old new t → AddsFront old new (t ++ u)
adds_longer old new t u a =
    let front : take (length (take a.count t)) (t ++ u) ≡ take a.count t =
    ap (λ (xs : List ℕ). take (length (take a.count t)) (xs ++ u)) (sym (take-append-drop a.count t))
    ∙ ap (take (length (take a.count t))) (append_assoc (take a.count t) (drop a.count t) u)
    ∙ take-append_seam (take a.count t) (drop a.count t ++ u) in
    record { count = length (take a.count t); added = a.added ∙ ap (λ (xs : List ℕ). old ++ xs) (sym front) }

-- what was received of a text, and of what stands behind it in the buffer
pub adds_next : (old now new t l : List ℕ) → AddsFront old now t → now ++ l ≡ old ++ t → AddsFront now new l → AddsFront old new t
adds_next old now new t l a e b =
    let s = take a.count t in
    let whole : s ++ l ≡ t = append_cancel_left old (s ++ l) t (sym (append_assoc old s l) ∙ ap (λ (xs : List ℕ). xs ++ l) (sym a.added) ∙ e) in
    record {
      count = length s + b.count;
      added = b.added
          ∙ ap (λ (xs : List ℕ). xs ++ take b.count l) a.added
          ∙ append_assoc old s (take b.count l)
          ∙ ap (λ (xs : List ℕ). old ++ xs) (sym (take-append-add s l b.count) ∙ ap (take (length s + b.count)) whole);
    }

module _ {O E : Type 0} {g : Ghosts O} where
  -- a piece more stands in the buffer
  pub passes_more : (text buffered next piece all : List ℕ) (old now : O) → Passes {E = E} g text buffered old now (Ok tt) → next ≡ buffered ++ piece → all ≡ text ++ piece → Passes {E = E} g all next old now (Ok tt)
  passes_more text buffered next piece all old now p more whole = record {
    kept = λ h.
        ap (λ (xs : List ℕ). g.received now ++ xs) more
        ∙ sym (append_assoc (g.received now) buffered piece)
        ∙ ap (λ (xs : List ℕ). xs ++ piece) (p.kept h)
        ∙ append_assoc (g.received old) text piece
        ∙ ap (λ (xs : List ℕ). g.received old ++ xs) (sym whole);
    front = λ h. adds_whole (adds_longer (g.received old) (g.received now) text piece (p.front h));
    tells = p.tells;
    cause = p.cause;
  }
    where
      adds_whole : AddsFront (g.received old) (g.received now) (text ++ piece) → AddsFront (g.received old) (g.received now) all
      adds_whole a = record { count = a.count; added = a.added ∙ ap (λ (xs : List ℕ). g.received old ++ take a.count xs) (sym whole) }

  -- what stood in the buffer passes on
  pub passes_on : (text buffered next : List ℕ) (old now new : O) (r : Result Unit E) → Passes {E = E} g text buffered old now (Ok tt) → Passes g buffered next now new r → Passes g text next old new r
  passes_on text buffered next old now new (Ok x) p q = record {
    kept = λ h. q.kept (p.tells ∙ h) ∙ p.kept h;
    front = λ h. adds_next (g.received old) (g.received now) (g.received new) text buffered (p.front h) (p.kept h) (q.front (p.tells ∙ h));
    tells = q.tells ∙ p.tells;
    cause = record { later = not_lower (g.fault_count old) (g.fault_count now) (g.fault_count new) p.cause.later q.cause.later; failed = tt };
  }
  passes_on text buffered next old now new (Err e) p q = record {
    kept = λ h. tt;
    front = λ h. adds_next (g.received old) (g.received now) (g.received new) text buffered (p.front h) (p.kept h) (q.front (p.tells ∙ h));
    tells = q.tells ∙ p.tells;
    cause = record {
      later = not_lower (g.fault_count old) (g.fault_count now) (g.fault_count new) p.cause.later q.cause.later;
      failed = rose_within (g.fault_count old) (g.fault_count now) (g.fault_count new) (g.fault_count new) p.cause.later (same_count (g.fault_count new)) q.cause.failed;
    };
  }

  -- where the sink has failed, it has received a front of any longer text
  pub passes_failed : (text rest all buffered next : List ℕ) (old new : O) (e : E) (r : Result Unit E) → Passes g text buffered old new (Err e) → text ++ rest ≡ all → IsErr r → Passes g all next old new r
  passes_failed text rest all buffered next old new e (Ok x) p whole is = absurd (false≢true is)
  passes_failed text rest all buffered next old new e (Err f) p whole is = record {
    kept = λ h. tt;
    front = λ h. adds_whole (adds_longer (g.received old) (g.received new) text rest (p.front h));
    tells = p.tells;
    cause = record { later = p.cause.later; failed = p.cause.failed };
  }
    where
      adds_whole : AddsFront (g.received old) (g.received new) (text ++ rest) → AddsFront (g.received old) (g.received new) all
      adds_whole a = record { count = a.count; added = a.added ∙ ap (λ (xs : List ℕ). g.received old ++ take a.count xs) whole }
