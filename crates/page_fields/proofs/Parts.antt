-- A part of a page that is read or written.
use Rattle.std.proofs.Common.{◌≡◌, ◌≤◌, ◌+◌, ◌-◌, ℕ, List, [], ◌++◌, length, take, drop, refl, sym, ap, ◌∙◌, append_assoc, length-append, arith}
use Rattle.std.proofs.lemmas.List.{take_all, drop_all, drop-drop, append-nil, length-drop, length-take, length-take-le, take_at, drop_at, take-append-drop}
use borrow.Rule.Slice.PartMut.{put_mid, mid_of}
use Rattle.page_fields.specs.Fields.{replaced}

-- what stands from an offset on
pub rest_of : (at n : ℕ) (page : List ℕ) → length page ≡ n → mid_of at (n - at) page ≡ drop at page
rest_of at n page e = take_all (n - at) (drop at page) (simp length-drop (omega arith))

no_rest : (at n k : ℕ) (page : List ℕ) → k ≡ n → drop n (take k (drop at page)) ≡ []
no_rest at n k page e = drop_all n (take k (drop at page)) (simp length-take (omega arith))

-- a part that was written whole
pub put_part : (at k : ℕ) (page bytes buf : List ℕ) → k ≡ length bytes → buf ≡ bytes → put_mid at k page buf ≡ replaced at bytes page
put_part at k page bytes buf e b =
    let after : drop k (drop at page) ≡ drop (at + length bytes) page = drop-drop k at page ∙ ap (λ (m : ℕ). drop m page) (omega arith) in
    rw (b, after) refl

-- a part whose first bytes were written, and which has no others
pub put_field : (at n k : ℕ) (page bytes buf : List ℕ) → length bytes ≡ n → k ≡ n → buf ≡ bytes ++ drop n (mid_of at k page) → put_mid at k page buf ≡ replaced at bytes page
put_field at n k page bytes buf len e b =
    put_part at k page bytes buf (omega arith) (b ∙ ap (λ (r : List ℕ). bytes ++ r) (no_rest at n k page e) ∙ append-nil bytes)

-- the page up to the end of a field that was written is the page up to its start, and the field
pub front_of : (at n : ℕ) (page new bytes : List ℕ) → new ≡ replaced at bytes page → length bytes ≡ n → at ≤ length page → take (at + n) new ≡ take at page ++ bytes
front_of at n page new bytes e len le =
    let start : length (take at page) ≡ at = length-take-le at page le in
    ap (take (at + n)) (e ∙ sym (append_assoc (take at page) bytes (drop (at + length bytes) page)))
    ∙ take_at (take at page ++ bytes) (drop (at + length bytes) page) (at + n) (length-append (take at page) bytes ∙ omega arith)

-- a field of no bytes changes nothing
pub replaced_none : (at : ℕ) (page : List ℕ) → replaced at [] page ≡ page
replaced_none at page = ap (λ (n : ℕ). take at page ++ drop n page) (omega arith) ∙ take-append-drop at page

-- a field right behind another one is part of one longer field
pub replaced_more : (at next : ℕ) (page now new a b : List ℕ) → now ≡ replaced at a page → new ≡ replaced next b now → next ≡ at + length a → at ≤ length page → new ≡ replaced at (a ++ b) page
replaced_more at next page now new a b e f is le =
    let front : take next now ≡ take at page ++ a = ap (λ (k : ℕ). take k now) is ∙ front_of at (length a) page now a e refl le in
    let start : length (take at page) ≡ at = length-take-le at page le in
    let split : now ≡ (take at page ++ a) ++ drop (at + length a) page = e ∙ sym (append_assoc (take at page) a (drop (at + length a) page)) in
    let whole : drop next now ≡ drop (at + length a) page = ap (drop next) split ∙ drop_at (take at page ++ a) (drop (at + length a) page) next (length-append (take at page) a ∙ omega arith) in
    let back : drop (next + length b) now ≡ drop (at + length (a ++ b)) page =
    sym (drop-drop (length b) next now) ∙ ap (drop (length b)) whole ∙ drop-drop (length b) (at + length a) page ∙ ap (λ (k : ℕ). drop k page) (omega (arith, length-append a b)) in
    f ∙ rw (front, back) (simp append_assoc)
