-- Which root is the newest where another one may be written, is written, or was tried.
use Rattle.std.proofs.Common.{◌≡◌, ◌≢◌, ◌<◌, inl, inr, ◌+◌, ℕ, List, IsTrue, sym, ap, subst, ◌∙◌, arith}
use Rattle.std.specs.Prelude.{Option, Some, None}
use Rattle.std.proofs.lemmas.Bool.{cases_eq}
use Rattle.grid_types.specs.declared.shape.Shape.{Shape}
use Rattle.grid_types.specs.Shapes.{is_shape, header_page, header_gate_at}
use Rattle.grid_types.proofs.Places.{one-of-two}
use Rattle.grid_model.specs.Spellings.{RootFields}
use Rattle.grid_model.specs.Images.{header_gate, IsOpenOver, IsOtherOlder}
use Rattle.grid_model.specs.Roots.{WholeRoot, AreRootFields, HasAreaOf, IsNewestWhole, ShowsOld, ShowsOldOrTried, ComesNext, KeepsOld, IsReady, HasFields, HasOlder, HasTried, HasOlderOrTried, IsReplaceable}
use Rattle.file_roots.specs.Places.{GateAlone}
use Rattle.file_roots.specs.Replacing.{NextMayBeWritten}
use Rattle.file_roots.specs.Writing.{closed_gate, HasNewFields, IsHeaderWritten, HeaderStep}
use Rattle.file_roots.proofs.Headers.{header_two, other_header, fields_stay}
use Rattle.file_roots.proofs.Frames.{under_by}
use Rattle.file_roots.proofs.Alone.{gate_in_header, gate_in_root, header_in_root, keeps_alone, older_alone, area_above, ready_fields}

module _ (s : Shape) where
  -- fields under an open gate
  open_over_fields : (header : ℕ) (r : RootFields) (c : List ℕ) → header_gate c header ≡ 1 → HasFields s header r c → IsOpenOver s c header r
  open_over_fields header r c gate has = record { gate = gate; spelled = has.spelled; lawful = has.lawful }

  -- where the old root is kept, the other header page than the next root's is older
  pub kept_is_older : (number : ℕ) (old : Option WholeRoot) (c : List ℕ) → ComesNext old number → KeepsOld s number old c → IsOtherOlder s number c
  kept_is_older number None c comes shut = inl shut
  kept_is_older number (Some old) c comes stands = inr (old.fields, subst (λ h. IsOpenOver s c h old.fields) (sym (other_header number old.fields.number (λ e. comes.apart (sym e)))) stands.opens, comes.later)

  -- the same beside another root of the same header page
  kept_beside_other : (number other : ℕ) (old : Option WholeRoot) (c : List ℕ) → header_page other ≡ header_page number → KeepsOld s number old c → KeepsOld s other old c
  kept_beside_other number other None c same shut = let next : header_page (other + 1) ≡ header_page (number + 1) = grind (arith, same) in λ is. shut (ap (header_gate c) (sym next) ∙ is)
  kept_beside_other number other (Some old) c same stands = stands

  -- where the next root's header page is closed, the old root is the newest
  pub shows_old : (number : ℕ) (old : Option WholeRoot) (c : List ℕ) → ComesNext old number → IsReady s number old c → ShowsOld s old c
  shows_old number None c comes ready = elim (one-of-two (header_page number) (header_two number)) [
    | inl is ↦
        let next : header_page (number + 1) ≡ 1 = omega (arith, is) in
        record { zeroth = λ e. ready.closed (ap (header_gate c) is ∙ e); first = λ e. ready.keeps (ap (header_gate c) next ∙ e) }
    | inr is ↦
        let next : header_page (number + 1) ≡ 0 = omega (arith, is) in
        record { zeroth = λ e. ready.keeps (ap (header_gate c) next ∙ e); first = λ e. ready.closed (ap (header_gate c) is ∙ e) }
  ]
  shows_old number (Some old) c comes ready = record {
    newest = record { opens = ready.keeps.opens; other = inl (λ is. ready.closed (ap (header_gate c) (sym (other_header old.fields.number number comes.apart)) ∙ is)) };
    area = ready.keeps.area;
  }

  -- so it is where that header page is open over an older one
  shows_above : (number : ℕ) (old : Option WholeRoot) (c : List ℕ) → ComesNext old number → KeepsOld s number old c → header_gate c (header_page number) ≡ 1 → HasOlder s (header_page number) old c → ShowsOld s old c
  shows_above number None c comes keeps gate older = absurd older
  shows_above number (Some old) c comes keeps gate older = record {
    newest = record {
      opens = keeps.opens;
      other = inr (older.0, subst (λ h. IsOpenOver s c h older.0) (sym (other_header old.fields.number number comes.apart)) (open_over_fields (header_page number) older.0 c gate older.1), older.2);
    };
    area = keeps.area;
  }

  -- the root that was tried is the newest under its open gate
  shows_tried : (number : ℕ) (old : Option WholeRoot) (w : WholeRoot) (c : List ℕ) → KeepsOld s number old c → header_gate c (header_page number) ≡ 1 → HasTried s (header_page number) old (Some w) c → IsNewestWhole s w c
  shows_tried number old w c keeps gate has =
      let own : header_page w.fields.number ≡ header_page number = has.0.lawful.parity in
      record {
        newest = record {
          opens = subst (λ h. IsOpenOver s c h w.fields) (sym own) (open_over_fields (header_page number) w.fields c gate has.0);
          other = kept_is_older w.fields.number old c has.2 (kept_beside_other number w.fields.number old c own keeps);
        };
        area = has.1;
      }

  old_is_shown : (old tried : Option WholeRoot) (c : List ℕ) → ShowsOld s old c → ShowsOldOrTried s old tried c
  old_is_shown old None c shows = shows
  old_is_shown old (Some w) c shows = inr shows

  tried_is_shown : (number : ℕ) (old tried : Option WholeRoot) (c : List ℕ) → KeepsOld s number old c → header_gate c (header_page number) ≡ 1 → HasTried s (header_page number) old tried c → ShowsOldOrTried s old tried c
  tried_is_shown number old None c keeps gate has = absurd has
  tried_is_shown number old (Some w) c keeps gate has = inl (shows_tried number old w c keeps gate has)

  -- where a root may be written, the old one or the one that was tried is the newest
  pub old_or_tried_is_newest : (number : ℕ) (old tried : Option WholeRoot) (c : List ℕ) → ComesNext old number → IsReplaceable s number old tried c → ShowsOldOrTried s old tried c
  old_or_tried_is_newest number old tried c comes is = elim (cases_eq (header_gate c (header_page number)) 1) [
    | inr shut ↦ old_is_shown old tried c (shows_old number old c comes (record { keeps = is.keeps; closed = shut }))
    | inl open_now ↦ elim is.under [
      | inl closed ↦ absurd (closed open_now)
      | inr has ↦ elim has [
        | inl older ↦ old_is_shown old tried c (shows_above number old c comes is.keeps open_now older)
        | inr one ↦ tried_is_shown number old tried c is.keeps open_now one
      ]
    ]
  ]

  -- where a root may be written and opened, it may be closed and written
  pub ready_is_replaceable : (number : ℕ) (old tried : Option WholeRoot) (c : List ℕ) → IsReady s number old c → IsReplaceable s number old tried c
  ready_is_replaceable number old tried c ready = record { keeps = ready.keeps; under = inl ready.closed }

-- where the old root is the newest, or there is none, the next may be written
pub next_may_be_written : NextMayBeWritten
next_may_be_written s number None image comes none =
    let shut : (header : ℕ) → header < 2 → header_gate image header ≢ 1 = λ header two. elim (one-of-two header two) [
      | inl zeroth ↦ λ e. none.zeroth (ap (header_gate image) (sym zeroth) ∙ e)
      | inr first ↦ λ e. none.first (ap (header_gate image) (sym first) ∙ e)
    ] in
    record { keeps = shut (header_page (number + 1)) (header_two (number + 1)); under = inl (shut (header_page number) (header_two number)) }
next_may_be_written s number (Some old) image comes whole =
    let next : header_page (old.fields.number + 1) ≡ header_page number = other_header old.fields.number number comes.apart in
    record {
      keeps = record { opens = whole.newest.opens; area = whole.area };
      under = elim whole.newest.other [
        | inl shut ↦ inl (λ e. shut (ap (header_gate image) next ∙ e))
        | inr older ↦
            let opens = subst (λ h. IsOpenOver s image h older.0) next older.1 in
            inr (inl (older.0, record { spelled = opens.spelled; lawful = opens.lawful }, older.2))
      ];
    }

-- a gate that was closed is not open
pub closed_gate_shut : (gate : ℕ) → closed_gate gate ≢ 1
closed_gate_shut gate = elim (cases_eq gate 1) [
  | inl one ↦ λ e. absurd (omega (arith, ap closed_gate one, e))
  | inr other ↦ λ e. other (sym (closed_other gate other) ∙ e)
]
  where
    closed_other : (gate : ℕ) → gate ≢ 1 → closed_gate gate ≡ gate
    closed_other gate other = grind (arith, other)

module _ (s : Shape) (lawful : IsTrue (is_shape s)) (number : ℕ) (old : Option WholeRoot) (comes : ComesNext old number) (c d : List ℕ) (alone : GateAlone number c d) where
  -- fields, table areas and the old root stay while a gate is closed
  closing_keeps : KeepsOld s number old c → KeepsOld s number old d
  closing_keeps keeps = keeps_alone s lawful number c d old (gate_in_root s number c d alone) comes keeps

  -- what stands under the gate stays
  pub under_gate : (tried : Option WholeRoot) → HasOlderOrTried s (header_page number) old tried c → HasOlderOrTried s (header_page number) old tried d
  under_gate tried has = under_by s c d (area_above s lawful number c d (gate_in_header number c d alone)) (header_page number) old tried (fields_stay (header_gate_at (header_page number)) 1 (header_page number) c d (inr (omega arith)) alone) has

  -- once the gate is closed, the next root may be written and opened
  pub ready_once_closed : KeepsOld s number old c → header_gate d (header_page number) ≢ 1 → IsReady s number old d
  ready_once_closed keeps shut = record { keeps = closing_keeps keeps; closed = shut }

  -- while a gate that reads as open is closed, it may be closed and written
  pub while_closing : (tried : Option WholeRoot) → KeepsOld s number old c → HasOlderOrTried s (header_page number) old tried c → IsReplaceable s number old tried d
  while_closing tried keeps has = record { keeps = closing_keeps keeps; under = inr (under_gate tried has) }

module _ (s : Shape) (lawful : IsTrue (is_shape s)) (new : WholeRoot) (root : AreRootFields s new.fields) (old : Option WholeRoot) (comes : ComesNext old new.fields.number) where
  -- the new root was tried in an image that is what reads gave, but for its gate and its fields
  pub tried_there : (seen d : List ℕ) → HasAreaOf s new seen → HasNewFields new.fields seen d → HasOlderOrTried s (header_page new.fields.number) old (Some new) d
  tried_there seen d area now = inr (record { spelled = now.fields_are; lawful = root }, area_above s lawful new.fields.number seen d now.elsewhere new.fields new.area area, comes)

  -- at each step of writing its header page a root may be closed and written again
  pub header_step_is_replaceable : (seen c d : List ℕ) → HasAreaOf s new seen → IsReady s new.fields.number old seen → IsReady s new.fields.number old c → HeaderStep new.fields seen c d → IsReplaceable s new.fields.number old (Some new) d
  header_step_is_replaceable seen c d area ready was (inl fields) = ready_is_replaceable s new.fields.number old (Some new) d (ready_fields s lawful new.fields.number c d old comes fields was)
  header_step_is_replaceable seen c d area ready was (inr now) = record {
    keeps = keeps_alone s lawful new.fields.number seen d old (header_in_root s new.fields.number seen d now.elsewhere) comes ready.keeps;
    under = inr (tried_there seen d area now);
  }

-- once its header page is written, a root is the newest where the other header page is older, and its table area is whole
pub newest_once_written : (s : Shape) (lawful : IsTrue (is_shape s)) (new : WholeRoot) → AreRootFields s new.fields → (seen d : List ℕ) → HasAreaOf s new seen → IsOtherOlder s new.fields.number seen → IsHeaderWritten new.fields seen d → IsNewestWhole s new d
newest_once_written s lawful new root seen d area other now =
    let number = new.fields.number in
    record {
      newest = record {
        opens = record { gate = now.opened; spelled = now.written.fields_are; lawful = root };
        other = older_alone s lawful number seen d (header_in_root s number seen d now.written.elsewhere) other;
      };
      area = area_above s lawful number seen d now.written.elsewhere new.fields new.area area;
    }
