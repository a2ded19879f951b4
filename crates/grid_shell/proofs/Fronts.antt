-- A script, and the front of the input that is read of it: one byte more than a script may have.
use Rattle.std.proofs.Common.{◌≡◌, ◌≤◌, ◌<◌, ◌∙◌, ℕ, Bool, true, false, List, length, take, refl, sym, ap, subst, arith, nat_lt, ltb-false, ltb-true}
use Rattle.std.specs.Prelude.{Err, if◌then◌else◌}
use Rattle.std.proofs.lemmas.Bool.{lt-ltb}
use Rattle.std.proofs.lemmas.List.{length-take, take_all}
use Rattle.grid_types.specs.declared.request.Line.{Line}
use Rattle.grid_model.specs.Script.{longest, lines, asked, meanings}
use Rattle.grid_script.specs.Taken.{IsScript, IsFirstRefused, IsFault}
use Rattle.grid_shell.specs.Inputs.{LostAtMost, most_read}

-- the most that is read
abbrev pub most : ℕ
most = 16777217

more_than_longest : longest < most
unfolding longest
more_than_longest = omega arith

take-most : (all : List ℕ) → length all ≤ longest → take most all ≡ all
take-most all le = take_all most all (omega (arith, le, more_than_longest))

longest-take : (all : List ℕ) → longest < length all → longest < length (take most all)
longest-take all lt = omega (arith, lt, more_than_longest, length-take most all)

-- what is read says all that the input says
pub lines-take : (K : ℕ) (all : List ℕ) → lines K (take most all) ≡ lines K all
unfolding lines
lines-take K all = cases (nat_lt longest (length all)) refl
  where
    cases : (t : Bool) → nat_lt longest (length all) ≡ t
        → (if nat_lt longest (length (take most all)) then Err 0 else asked 1 1 (meanings K (take most all))) ≡ (if nat_lt longest (length all) then Err 0 else asked 1 1 (meanings K all))
    cases true e =
        ap (λ t. if t then Err 0 else asked 1 1 (meanings K (take most all))) (lt-ltb longest (length (take most all)) (longest-take all (ltb-true longest (length all) e)))
        ∙ sym (ap (λ t. if t then Err 0 else asked 1 1 (meanings K all)) e)
    cases false e =
        let le : length all ≤ longest = ltb-false longest (length all) e in
        ap (λ bytes. if nat_lt longest (length bytes) then Err 0 else asked 1 1 (meanings K bytes)) (take-most all le)

pub script-take : {K : ℕ} (all : List ℕ) (ls : List (Line K)) → IsScript (take most all) ls → IsScript all ls
script-take {K} all ls s = record { read = sym (lines-take K all) ∙ s.read; taken = s.taken }

pub fault-take : (K : ℕ) (all : List ℕ) (n : ℕ) → IsFault K (take most all) n → IsFault K all n
fault-take K all n f = record {
  long = λ lt. f.long (longest-take all lt);
  short = λ le. subst (λ bytes. IsFirstRefused K bytes n) (take-most all le) (f.short (subst (λ bytes. length bytes ≤ longest) (sym (take-most all le)) le));
}

-- what is lost of an input, in the words of the longest script
pub lost-most : (old new : List ℕ) → LostAtMost most old new → LostAtMost most_read old new
unfolding longest
lost-most old new l = l
