-- What sections of calls leave of the roots of a disk.
use Rattle.std.proofs.Common.{◌≡◌, ◌≢◌, inl, inr, ℕ, List, IsTrue, sym, ap, subst, ◌∙◌, arith}
use Rattle.std.specs.Prelude.{Option, Some, None}
use Rattle.std.proofs.lemmas.Bool.{cases_eq}
use Rattle.grid_types.specs.declared.shape.Shape.{Shape}
use Rattle.grid_types.specs.Shapes.{is_shape, header_page}
use Rattle.grid_model.specs.Spellings.{RootFields, root_bytes}
use Rattle.grid_model.specs.Images.{header_gate, root_fields}
use Rattle.grid_model.specs.Roots.{WholeRoot, AreRootFields, HasAreaOf, IsReady, IsReplaceable, ShowsOld, HasOlderOrTried, ComesNext}
use Rattle.disk_trait.specs.declared.disk.Disk.{Ghosts}
use Rattle.disk_trait.specs.Calls.{OnlyReads, Changes, IsSynced}
use Rattle.disk_trait.specs.Disk.{Stays}
use Rattle.disk_trait.specs.Moments.{Always}
use Rattle.disk_trait.proofs.Calls.{changes_then}
use Rattle.disk_trait.proofs.Moments.{weakened}
use Rattle.disk_trait.proofs.Ranges.{outside_then}
use Rattle.file_roots.specs.Places.{GateAlone, FieldsAlone, HeaderAlone, AreaAlone, RootAlone}
use Rattle.file_roots.specs.Writing.{HasNewFields, HeaderStep, MayBeWritten, Awaits, StaysReplaceable, StaysReady}
use Rattle.file_roots.proofs.Headers.{fields_stay}
use Rattle.file_roots.proofs.Alone.{fields_in_header, gate_in_header, header_in_root, area_in_root, ready_area}
use Rattle.file_roots.proofs.Exchange.{next_may_be_written, ready_is_replaceable, under_gate, ready_once_closed, while_closing, tried_there, header_step_is_replaceable}

-- a change that is shown where a disk tells its content alone
pub changes_if_told : {D : Type 0} {g : Ghosts D} {a b : D} {step other : List ℕ → List ℕ → Type 0} → Changes g step a b → (IsTrue (g.honest a) → Changes g other a b) → Changes g other a b
changes_if_told r s = record {
  extent = r.extent;
  honest = r.honest;
  reads = r.reads;
  writes = r.writes;
  outside = λ h. (s h).outside h;
  crash = λ h. (s h).crash h;
  moments = λ h. (s h).moments h;
}

-- a disk that awaits a root, while its table area is written
module _ {D : Type 0} {g : Ghosts D} (s : Shape) (lawful : IsTrue (is_shape s)) (number : ℕ) (old : Option WholeRoot) {a b : D} (r : Changes g (AreaAlone s number) a b) (w : Awaits g s number old a) where
  still_ready : (c d : List ℕ) → g.may_leave a c → AreaAlone s number c d → IsReady s number old d
  still_ready c d may alone = ready_area s lawful number c d old w.next alone (w.each c may)

  -- it awaits it still
  pub awaits_area : Awaits g s number old b
  awaits_area = record {
    honest = r.honest ∙ w.honest;
    next = w.next;
    each = λ i now. let from = r.crash w.honest i now in still_ready from.0 i from.1 from.2;
  }

  -- and at each moment the root may be written and opened
  pub ready_at_area : StaysReady g s number old a b
  ready_at_area = weakened g.moment g.left_since a b _ _ (r.moments w.honest) (λ i from. still_ready from.0 i from.1 from.2)

-- a disk that awaits a root may be closed and written again
pub may_again : {D : Type 0} {g : Ghosts D} (s : Shape) (number : ℕ) (old tried : Option WholeRoot) {a : D} → (IsTrue (g.honest a) → g.may_leave a (g.seen a)) → Awaits g s number old a → MayBeWritten g s number old tried a
may_again {g = g} s number old tried {a} law w = record {
  honest = w.honest;
  next = w.next;
  each = λ i now. ready_is_replaceable s number old tried i (w.each i now);
  under_open = λ is i now. absurd ((w.each (g.seen a) (law w.honest)).closed is);
}

-- where all is on the disk, and the old root is the newest there or there is none, the next may be written
pub may_be_next : {D : Type 0} {g : Ghosts D} (s : Shape) (number : ℕ) (old : Option WholeRoot) {a : D} → IsTrue (g.honest a) → IsSynced g a → ComesNext old number → ShowsOld s old (g.seen a) → MayBeWritten g s number old None a
may_be_next {g = g} s number old {a} honest synced comes shows =
    let here : IsReplaceable s number old None (g.seen a) = next_may_be_written s number old (g.seen a) comes shows in
    record {
      honest = honest;
      next = comes;
      each = λ i now. subst (IsReplaceable s number old None) (sym (synced.only honest i now)) here;
      under_open = λ is i now. elim here.under [
        | inl shut ↦ absurd (shut is)
        | inr has ↦ subst (HasOlderOrTried s (header_page number) old None) (sym (synced.only honest i now)) has
      ];
    }

-- a call that only reads leaves a root that may be written so
pub may_still : {D : Type 0} {g : Ghosts D} (s : Shape) (number : ℕ) (old tried : Option WholeRoot) {a b : D} → OnlyReads g a b → MayBeWritten g s number old tried a → MayBeWritten g s number old tried b
may_still s number old tried r w = record {
  honest = r.honest ∙ w.honest;
  next = w.next;
  each = λ i now. w.each i ((r.crash w.honest i).0 now);
  under_open = λ is i now. w.under_open (ap (λ x. header_gate x (header_page number)) (sym (r.seen w.honest)) ∙ is) i ((r.crash w.honest i).0 now);
}

-- a disk where a root may be written, while its gate is closed; a gate that reads as closed is not written
module _ {D : Type 0} {g : Ghosts D} (s : Shape) (lawful : IsTrue (is_shape s)) (number : ℕ) (old tried : Option WholeRoot) {a b : D} (r : Changes g (GateAlone number) a b) (unwritten : header_gate (g.seen a) (header_page number) ≢ 1 → Changes g Stays a b)
    (w : MayBeWritten g s number old tried a) where
  closing : header_gate (g.seen a) (header_page number) ≡ 1 → (c d : List ℕ) → g.may_leave a c → GateAlone number c d → IsReplaceable s number old tried d
  closing one c d may alone = while_closing s lawful number old w.next c d alone tried (w.each c may).keeps (w.under_open one c may)

  -- an image that was not written
  same_image : (c d : List ℕ) → g.may_leave a c → Stays c d → IsReplaceable s number old tried d
  same_image c d may same = subst (IsReplaceable s number old tried) (sym same) (w.each c may)

  -- it may be tried again
  pub again_closing : MayBeWritten g s number old tried b
  again_closing = record {
    honest = r.honest ∙ w.honest;
    next = w.next;
    each = λ d now. elim (cases_eq (header_gate (g.seen a) (header_page number)) 1) [
      | inl one ↦ let from = r.crash w.honest d now in closing one from.0 d from.1 from.2
      | inr other ↦ let from = (unwritten other).crash w.honest d now in same_image from.0 d from.1 from.2
    ];
    under_open = λ is d now. elim (cases_eq (header_gate (g.seen a) (header_page number)) 1) [
      | inl one ↦ let from = r.crash w.honest d now in under_gate s lawful number old w.next from.0 d from.2 tried (w.under_open one from.0 from.1)
      | inr other ↦ absurd (other (ap (λ x. header_gate x (header_page number)) (sym ((unwritten other).outside w.honest)) ∙ is))
    ];
  }

  -- at each moment it may be closed and written
  pub replaceable_at_closing : StaysReplaceable g s number old tried a b
  replaceable_at_closing = elim (cases_eq (header_gate (g.seen a) (header_page number)) 1) [
    | inl one ↦ weakened g.moment g.left_since a b _ _ (r.moments w.honest) (λ d from. closing one from.0 d from.1 from.2)
    | inr other ↦ weakened g.moment g.left_since a b _ _ ((unwritten other).moments w.honest) (λ d from. same_image from.0 d from.1 from.2)
  ]

  -- once it reads as closed and is on the disk, the root is awaited
  pub awaits_closed : g.may_leave a (g.seen a) → header_gate (g.seen b) (header_page number) ≢ 1 → IsSynced g b → Awaits g s number old b
  awaits_closed law shut synced =
      let told = r.honest ∙ w.honest in
      let ready = ready_once_closed s lawful number old w.next (g.seen a) (g.seen b) (r.outside w.honest) (w.each (g.seen a) law).keeps shut in
      record { honest = told; next = w.next; each = λ i left. subst (IsReady s number old) (sym (synced.only told i left)) ready }

-- a header page while it is written: its fields, and then its gate
module _ {D : Type 0} {g : Ghosts D} (fields : RootFields) {a m b : D} (r : Changes g (FieldsAlone fields.number) a m) (synced : IsSynced g m) (bytes : IsTrue (g.honest a) → root_fields (g.seen m) (header_page fields.number) ≡ root_bytes fields)
    (gate : Changes g (GateAlone fields.number) m b) where
  -- while the gate is opened, the fields are there
  new_fields : IsTrue (g.honest m) → (c d : List ℕ) → g.may_leave m c → GateAlone fields.number c d → HasNewFields fields (g.seen a) d
  new_fields h c d may alone =
      let told = sym r.honest ∙ h in
      let header = header_page fields.number in
      let from_seen : GateAlone fields.number (g.seen m) d = subst (λ x. GateAlone fields.number x d) (synced.only h c may) alone in
      record {
        elsewhere = outside_then _ (g.seen a) (g.seen m) d (fields_in_header fields.number (g.seen a) (g.seen m) (r.outside told)) (gate_in_header fields.number (g.seen m) d from_seen);
        fields_are = fields_stay _ 1 header (g.seen m) d (inr (omega arith)) from_seen ∙ bytes told;
      }

  pub opening : (IsTrue (g.honest m) → g.may_leave m (g.seen m)) → Changes g (λ c d. HasNewFields fields (g.seen a) d) m b
  opening law = record {
    extent = gate.extent;
    honest = gate.honest;
    reads = gate.reads;
    writes = gate.writes;
    outside = λ h. new_fields h (g.seen m) (g.seen b) (law h) (gate.outside h);
    crash = λ h d now. let from = gate.crash h d now in (from.0, from.1, new_fields h from.0 d from.1 from.2);
    moments = λ h. weakened g.moment g.left_since m b _ _ (gate.moments h) (λ d from. (from.0, from.1, new_fields h from.0 d from.1 from.2));
  }

  pub header_written : (IsTrue (g.honest m) → g.may_leave m (g.seen m)) → Changes g (HeaderStep fields (g.seen a)) a b
  header_written law = changes_then (λ x y one. inl one) (λ x y z one now. inr now) r (opening law)

-- the bytes of both are those of a header page
pub header_changes : {D : Type 0} {g : Ghosts D} (fields : RootFields) {a b : D} → (IsTrue (g.honest a) → g.may_leave a (g.seen a)) → Changes g (HeaderStep fields (g.seen a)) a b → Changes g (HeaderAlone fields.number) a b
header_changes {D} {g} fields {a} {b} law r = record {
  extent = r.extent;
  honest = r.honest;
  reads = r.reads;
  writes = r.writes;
  outside = λ h. alone (g.seen b) (r.outside h);
  crash = λ h d now. let from = r.crash h d now in after h from.0 d from.1 from.2;
  moments = λ h. weakened g.moment g.left_since a b _ _ (r.moments h) (λ d from. after h from.0 d from.1 from.2);
}
  where
    alone : (d : List ℕ) → HeaderStep fields (g.seen a) (g.seen a) d → HeaderAlone fields.number (g.seen a) d
    alone d (inl one) = fields_in_header fields.number (g.seen a) d one
    alone d (inr now) = now.elsewhere

    after : IsTrue (g.honest a) → (c d : List ℕ) → g.may_leave a c → HeaderStep fields (g.seen a) c d → (e : List ℕ) × g.may_leave a e × HeaderAlone fields.number e d
    after h c d may (inl one) = (c, may, fields_in_header fields.number c d one)
    after h c d may (inr now) = (g.seen a, law h, now.elsewhere)

-- where the gate of a header page reads other than before, its fields are there in each image that a crash may leave
abbrev pub FieldsFirst : {D : Type 0} → Ghosts D → D → D → RootFields → Type 0
FieldsFirst g a b fields = header_gate (g.seen b) (header_page fields.number) ≢ header_gate (g.seen a) (header_page fields.number) → Always (g.may_leave b) (HasNewFields fields (g.seen a))

-- a disk that awaits a root whose table area stands there, while its header page is written
module _ {D : Type 0} {g : Ghosts D} (s : Shape) (lawful : IsTrue (is_shape s)) (new : WholeRoot) (root : AreRootFields s new.fields) (old : Option WholeRoot) {a b : D} (law : IsTrue (g.honest a) → g.may_leave a (g.seen a)) (r : Changes g (HeaderStep new.fields (g.seen a)) a b)
    (w : Awaits g s new.fields.number old a) (area : HasAreaOf s new (g.seen a)) where
  stepped : (c d : List ℕ) → g.may_leave a c → HeaderStep new.fields (g.seen a) c d → IsReplaceable s new.fields.number old (Some new) d
  stepped c d may step = header_step_is_replaceable s lawful new root old w.next (g.seen a) c d area (w.each (g.seen a) (law w.honest)) (w.each c may) step

  -- at each moment the root may be closed and written again
  pub replaceable_at_header : StaysReplaceable g s new.fields.number old (Some new) a b
  replaceable_at_header = weakened g.moment g.left_since a b _ _ (r.moments w.honest) (λ d from. stepped from.0 d from.1 from.2)

  -- afterwards it may be tried again
  pub again_header : FieldsFirst g a b new.fields → MayBeWritten g s new.fields.number old (Some new) b
  again_header first = record {
    honest = r.honest ∙ w.honest;
    next = w.next;
    each = λ d now. let from = r.crash w.honest d now in stepped from.0 d from.1 from.2;
    under_open = λ is d now.
        let changed = first (λ same. (w.each (g.seen a) (law w.honest)).closed (sym same ∙ is)) in
        tried_there s lawful new root old w.next (g.seen a) d area (changed d now);
  }

-- the table area, and then the header page
pub root_changes : {D : Type 0} {g : Ghosts D} (s : Shape) (fields : RootFields) {a m b : D} → (IsTrue (g.honest m) → g.may_leave m (g.seen m)) → Changes g (AreaAlone s fields.number) a m → Changes g (HeaderStep fields (g.seen m)) m b → Changes g (RootAlone s fields.number) a b
root_changes s fields law first second = changes_then (area_in_root s fields.number) (λ x y z one two. outside_then _ x y z (area_in_root s fields.number x y one) (header_in_root s fields.number y z two)) first (header_changes fields law second)
