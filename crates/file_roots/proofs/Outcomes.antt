-- Facts of what one of two results is, where both are answers or both are refusals.
use Rattle.std.proofs.Common.{◌≡◌, ◌≢◌, ◌∙◌, true, false, true≢false, refl, sym, ap, subst, Result, Ok, Err}
use Rattle.std.specs.Prelude.{OnOk, OnErr, is_ok, IfOk, IfErr, IsErr, IsErrAnd, IsErrOf}
use Rattle.std.proofs.lemmas.Result.{IfErr-at_err}
use Rattle.grid_types.specs.declared.refusal.Refusal.{Refusal}
use Rattle.grid_types.specs.declared.refusal.Refusal.TheVariants.{ReadFault, WriteFault}
use Rattle.disk_trait.specs.declared.disk.Disk.{Ghosts}
use Rattle.disk_trait.specs.Calls.{HasCauses}
use Rattle.disk_trait.proofs.Calls.{causes_other}

-- what is said of an answer holds of the other result's, too
pub on_ok_also : {T U E F P Q : Type 0} (r : Result T E) (q : Result U F) → is_ok q ≡ is_ok r → (P → Q) → OnOk r P → OnOk q Q
on_ok_also (Ok x) (Ok y) same then p = then p
on_ok_also (Ok x) (Err y) same then p = tt
on_ok_also (Err x) (Ok y) same then p = absurd (true≢false same)
on_ok_also (Err x) (Err y) same then p = tt

-- two facts of an answer are one
pub on_ok_both : {T E P Q R : Type 0} (r : Result T E) → (P → Q → R) → OnOk r P → OnOk r Q → OnOk r R
on_ok_both (Ok x) then p q = then p q
on_ok_both (Err e) then p q = tt

-- what is said of an answer holds where there is one
pub on_ok_there : {T E P : Type 0} (r : Result T E) → is_ok r ≡ true → OnOk r P → P
on_ok_there (Ok x) there p = p
on_ok_there (Err e) there p = absurd (true≢false (sym there))

-- what is said of a failure's value holds where there is one
pub if_err_there : {T E : Type 0} {P : E → Type 0} (r : Result T E) → is_ok r ≡ false → IfErr r P → (e : E) × P e
if_err_there (Ok x) there p = absurd (true≢false there)
if_err_there (Err e) there p = (e, p)

-- what is said of an answer holds where it always does
pub on_ok : {T E P : Type 0} (r : Result T E) → P → OnOk r P
on_ok (Ok t) p = p
on_ok (Err e) p = tt

-- what is said of a failure holds where it always does
pub on_err : {T E P : Type 0} (r : Result T E) → P → OnErr r P
on_err (Ok t) p = tt
on_err (Err e) p = p

-- what is said of a failure holds of the other result's, too
pub on_err_also : {T U E F P Q : Type 0} (r : Result T E) (q : Result U F) → is_ok q ≡ is_ok r → (P → Q) → OnErr r P → OnErr q Q
on_err_also (Ok x) (Ok y) same then p = tt
on_err_also (Ok x) (Err y) same then p = absurd (true≢false (sym same))
on_err_also (Err x) (Ok y) same then p = tt
on_err_also (Err x) (Err y) same then p = then p

-- nothing is said of an answer where there is none
pub on_ok_none : {T E : Type 0} (P : Type 0) (r : Result T E) → IsErr r → OnOk r P
on_ok_none P (Ok x) none = absurd (true≢false (sym none))
on_ok_none P (Err e) none = tt

-- what is said of the value of an answer may be said where it is known
pub if_ok_is : {T E : Type 0} {P : T → Type 0} (r : Result T E) → ((t : T) → r ≡ Ok t → P t) → IfOk r P
if_ok_is (Ok t) f = f t refl
if_ok_is (Err e) f = tt

-- a refusal is the one that it is told to be
pub refusal_is : {T : Type 0} (came told : Refusal) → IsErrOf {T = T} {E = Refusal} (Err came) told → came ≡ told
refusal_is came told is = cc (is)

-- a refusal that goes on is the one that came
pub same_refusal : {T : Type 0} (r : Result T Refusal) (came told : Refusal) → IsErrAnd r (λ e. e ≡ came) → IsErrOf r told → came ≡ told
same_refusal (Ok t) came told goes is = absurd goes
same_refusal (Err e) came told goes is = sym goes ∙ refusal_is e told is

-- and it is told so of any answer
pub refused_so : {T : Type 0} (came told : Refusal) → came ≡ told → IsErrOf {T = T} {E = Refusal} (Err came) told
refused_so {T} came told same = let refused : Refusal → Result T Refusal = λ e. Err e in ap refused same

-- an answer is no refusal
pub no_refusal : {T : Type 0} (v : T) (told : Refusal) → IsErrOf {T = T} {E = Refusal} (Ok v) told → ⊥
no_refusal v told is = IfErr-at_err (λ e. ⊥) is tt

-- a refusal that goes on, and is no fault of the disk
pub told_on : {D T : Type 0} {g : Ghosts D} {a b : D} {may_come : Refusal → Type 0} (result : Result T Refusal) (e : Refusal) → IsErrAnd result (λ x. x ≡ e) → e ≢ ReadFault → e ≢ WriteFault → may_come e → HasCauses g may_come a b result
told_on (Ok x) e goes read write may = absurd goes
told_on {may_come = may_come} (Err x) e goes read write may = causes_other x (λ is. read (sym goes ∙ is)) (λ is. write (sym goes ∙ is)) (subst may_come (sym goes) may)
