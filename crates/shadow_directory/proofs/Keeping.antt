-- What several calls on the pages of a change leave, one after the other.
use Rattle.std.proofs.Common.{◌≡◌, ◌≤◌, ℕ, List, Option, None, sym, ◌∙◌, arith, refl}
use Rattle.std.specs.Prelude.{Result, Err, IfErr, IsErrAnd}
use Rattle.std.proofs.lemmas.Result.{IfErr-weaker}
use Rattle.grid_types.specs.declared.refusal.Refusal.{Refusal}
use Rattle.grid_types.specs.declared.refusal.Refusal.TheVariants as why
use Rattle.disk_trait.proofs.Calls.{rose_within}
use Rattle.shadow_directory.specs.declared.pages.ChangePages.{Ghosts}
use Rattle.shadow_directory.specs.Pages.{LeavesPages}
use Rattle.shadow_directory.specs.Calls.{Keeps, OnlyReads, ReadsOld, Tells, IsCause, IsFault, Holds}
use Rattle.shadow_directory.proofs.Faults.{err-goes}

module _ {P : Type 0} {g : Ghosts P} where
  -- no call
  pub keeps-self : ((s : P) → g.stays s s) → (s : P) → Keeps g s s
  keeps-self law s = record { told = refl; count = refl; lies = λ part page at. at; rest = law s; reads = omega arith; writes = omega arith }

  -- two calls
  pub keeps-on : ((a b c : P) → g.stays a b → g.stays b c → g.stays a c) → {a b c : P} → Keeps g a b → Keeps g b c → Keeps g a c
  keeps-on law {a} {b} {c} p q = record {
    told = q.told ∙ p.told;
    count = q.count ∙ p.count;
    lies = λ part page at. p.lies part page (q.lies part page at);
    rest = law a b c p.rest q.rest;
    reads = omega (arith, p.reads, q.reads);
    writes = omega (arith, p.writes, q.writes);
  }

  -- one call, by its clauses
  pub keeps-call : {a b : P} → LeavesPages g.pages g.parts g.lies_at g.stays a b → g.read_count a ≤ g.read_count b → g.write_count a ≤ g.write_count b → Keeps g a b
  keeps-call l r w = record { told = l.told; count = l.count; lies = l.lies; rest = l.rest; reads = r; writes = w }

  pub reads-self : ((s : P) → g.stays s s) → (s : P) → OnlyReads g s s
  reads-self law s = record { keeps = keeps-self law s; written = refl; room = refl }

  pub reads-on : ((a b c : P) → g.stays a b → g.stays b c → g.stays a c) → {a b c : P} → OnlyReads g a b → OnlyReads g b c → OnlyReads g a c
  reads-on law p q = record { keeps = keeps-on law p.keeps q.keeps; written = q.written ∙ p.written; room = q.room ∙ p.room }

  -- what was told is told after a call
  pub tells-on : {a b : P} {ns D : List ℕ} → Keeps g a b → Tells g a ns D → Tells g b ns D
  tells-on k t = record { given = t.given; told = k.told ∙ t.told; spell = t.spell }

  -- the buffer holds what it held
  pub holds-on : {a b : P} {ns : List ℕ} {held : Option ℕ} {bytes : List ℕ} → Keeps g a b → Holds g ns a held bytes → Holds g ns b held bytes
  holds-on k h = record { below = h.below; spelled = h.spelled; told = λ q f e t. h.told q f e (sym k.told ∙ t) }

  -- it holds nothing
  pub holds-none : (ns : List ℕ) (a : P) (bytes : List ℕ) → Holds g ns a None bytes
  holds-none ns a bytes = record { below = λ q e. absurd (cc); spelled = λ q e. absurd (cc); told = λ q f e t. absurd (cc) }

  -- a cause of a call behind another one is one of both
  pub cause-behind : (a b c : P) (ns bytes : List ℕ) (e : Refusal) → Keeps g a b → IsCause g ns b c bytes e → IsCause g ns a c bytes e
  cause-behind a b c ns bytes why.ReadFault k h = rose_within (g.read_count a) (g.read_count b) (g.read_count c) (g.read_count c) k.reads (omega arith) h
  cause-behind a b c ns bytes why.WriteFault k h = rose_within (g.write_count a) (g.write_count b) (g.write_count c) (g.write_count c) k.writes (omega arith) h
  cause-behind a b c ns bytes (why.Damaged page) k h = record { part = h.part; below = h.below; lies = k.lies h.part page h.lies; not_spelled = h.not_spelled }
  cause-behind a b c ns bytes why.NoMemory k h = h
  cause-behind a b c ns bytes (why.Unsure f m) k h = h
  cause-behind a b c ns bytes (why.Stopped f o) k h = h
  cause-behind a b c ns bytes (why.Full f n) k h = h
  cause-behind a b c ns bytes (why.NoCut n m) k h = h
  cause-behind a b c ns bytes why.Foreign k h = h
  cause-behind a b c ns bytes (why.Version f) k h = h
  cause-behind a b c ns bytes why.Seats k h = h
  cause-behind a b c ns bytes why.BadShape k h = h
  cause-behind a b c ns bytes why.BadQuery k h = h
  cause-behind a b c ns bytes (why.Worn n) k h = h
  cause-behind a b c ns bytes (why.Arity f) k h = h

  pub causes-behind : {T : Type 0} (a b c : P) (ns bytes : List ℕ) (r : Result T Refusal) → Keeps g a b → IfErr r (IsCause g ns b c bytes) → IfErr r (IsCause g ns a c bytes)
  causes-behind a b c ns bytes r k h = IfErr-weaker r (IsCause g ns b c bytes) (IsCause g ns a c bytes) (λ e. cause-behind a b c ns bytes e k) h

  -- a failed reading that goes on to the caller
  pub reads-failed : {T U : Type 0} (old new : P) (ns bytes : List ℕ) (r : Result T Refusal) (e : Refusal) → IsErrAnd r (λ y. y ≡ e) → ReadsOld {T = U} g ns (Err e) old new bytes → ReadsOld g ns r old new bytes
  reads-failed old new ns bytes r e goes h = record { honest = λ D tells. err-goes r e IsFault goes (h.honest D tells); cause = err-goes r e (IsCause g ns old new bytes) goes h.cause; same = h.same }

  -- a reading behind others
  pub reads-behind : {T : Type 0} (law : (a b c : P) → g.stays a b → g.stays b c → g.stays a c) (a b c : P) (ns bytes : List ℕ) (r : Result T Refusal) → OnlyReads g a b → ReadsOld g ns r b c bytes → ReadsOld g ns r a c bytes
  reads-behind law a b c ns bytes r k h = record { honest = λ D tells. h.honest D (tells-on k.keeps tells); cause = causes-behind a b c ns bytes r k.keeps h.cause; same = reads-on law k h.same }
