-- What an image shows at each moment of a root step.
use Rattle.std.proofs.Common.{◌≡◌, ◌≢◌, inr, ◌+◌, ℕ, List, sym, subst}
use Rattle.std.specs.Prelude.{Option, Some, None}
use Rattle.grid_types.specs.Shapes.{header_page}
use Rattle.grid_model.specs.Images.{header_gate}
use Rattle.grid_model.specs.Roots.{WholeRoot, AreRootFields, HasAreaOf, ComesNext, IsReady, IsReplaceable, IsNewestWhole, KeepsOld}
use Rattle.file_roots.specs.Places.{GateAlone, FieldsAlone, AreaAlone, RootAlone}
use Rattle.file_roots.specs.Writing.{HasNewFields, IsHeaderWritten}
use Rattle.file_roots.proofs.Alone.{gate_in_root, fields_in_root, area_in_root, header_in_root, ready_area, ready_fields}
use Rattle.file_roots.proofs.Exchange.{kept_is_older, next_may_be_written, while_closing, ready_once_closed, header_step_is_replaceable, newest_once_written}
use Rattle.file_images.specs.Kept.{OtherHeader, ShutHeader, LooseHeader, Kept, next_number}
use Rattle.file_images.specs.Shows.{ShowsRoots, Shows}
use Rattle.file_images.specs.Meets.{IsLooseUnder}
use Rattle.file_images.specs.Steps.{with_closed, with_tried, with_root}
use Rattle.file_images.proofs.Newest.{comes_next}
use Rattle.file_images.proofs.RootSteps.{root_step_shows}

-- the kept root is kept beside the other header page, be that closed or loose
root_kept : {K : ℕ} (k : Kept K) (o : OtherHeader) (c : List ℕ) → ShowsRoots k.shape k.root o c → KeepsOld k.shape (next_number k) (Some k.root) c
root_kept k ShutHeader c is = is.keeps
root_kept k (LooseHeader tried) c is = is.keeps

module _ {K : ℕ} (k : Kept K) (c d : List ℕ) (was : Shows k c) where
  same_kept : (o : OtherHeader) → k.other ≡ o → Shows (record k { other = o }) d → Shows k d
  same_kept o is shows = subst (λ (x : Kept K). Shows x d) (λ i. record k { other = sym is i }) shows

  -- while a gate that reads as open is closed
  pub closing_shows : (tried : Option WholeRoot) → k.other ≡ LooseHeader tried → IsLooseUnder k (LooseHeader tried) c → GateAlone (next_number k) c d → Shows k d
  closing_shows tried is under a = same_kept (LooseHeader tried) is
      (root_step_shows k c d was.shape.lawful (gate_in_root k.shape (next_number k) c d a) k.root (LooseHeader tried) was
      (while_closing k.shape was.shape.lawful (next_number k) (Some k.root) (comes_next k.root) c d a tried (root_kept k k.other c was.roots) under))

  -- when it is closed
  pub closed_shows : GateAlone (next_number k) c d → header_gate d (header_page (next_number k)) ≢ 1 → Shows (with_closed k) d
  closed_shows a shut = root_step_shows k c d was.shape.lawful (gate_in_root k.shape (next_number k) c d a) k.root ShutHeader was (ready_once_closed k.shape was.shape.lawful (next_number k) (Some k.root) (comes_next k.root) c d a (root_kept k k.other c was.roots) shut)

  module _ (shut : k.other ≡ ShutHeader) where
    ready : IsReady k.shape (next_number k) (Some k.root) c
    ready = subst (λ (o : OtherHeader). ShowsRoots k.shape k.root o c) shut was.roots

    -- while the next root's table area is written
    pub parts_shows : AreaAlone k.shape (next_number k) c d → Shows k d
    parts_shows a = same_kept ShutHeader shut (root_step_shows k c d was.shape.lawful (area_in_root k.shape (next_number k) c d a) k.root ShutHeader was (ready_area k.shape was.shape.lawful (next_number k) c d (Some k.root) (comes_next k.root) a ready))

    -- while its fields are written
    pub fields_shows : FieldsAlone (next_number k) c d → Shows k d
    fields_shows a = same_kept ShutHeader shut (root_step_shows k c d was.shape.lawful (fields_in_root k.shape (next_number k) c d a) k.root ShutHeader was (ready_fields k.shape was.shape.lawful (next_number k) c d (Some k.root) (comes_next k.root) a ready))

    module _ (new : WholeRoot) (next : new.fields.number ≡ next_number k) (root : AreRootFields k.shape new.fields) (area : HasAreaOf k.shape new c) where
      comes : ComesNext (Some k.root) new.fields.number
      comes = subst (ComesNext (Some k.root)) (sym next) (comes_next k.root)

      ready_for : IsReady k.shape new.fields.number (Some k.root) c
      ready_for = subst (λ (n : ℕ). IsReady k.shape n (Some k.root) c) (sym next) ready

      alone : HasNewFields new.fields c d → RootAlone k.shape (next_number k) c d
      alone now = subst (λ (n : ℕ). RootAlone k.shape n c d) next (header_in_root k.shape new.fields.number c d now.elsewhere)

      -- while its gate is opened over its fields
      pub opening_shows : HasNewFields new.fields c d → Shows (with_tried k (Some new)) d
      opening_shows now = root_step_shows k c d was.shape.lawful (alone now) k.root (LooseHeader (Some new)) was
          (subst (λ (n : ℕ). IsReplaceable k.shape n (Some k.root) (Some new) d) next (header_step_is_replaceable k.shape was.shape.lawful new root (Some k.root) comes c c d area ready_for ready_for (inr now)))

      -- when it is open
      pub rooted_shows : IsHeaderWritten new.fields c d → Shows (with_root k new) d
      rooted_shows now =
          let whole : IsNewestWhole k.shape new d = newest_once_written k.shape was.shape.lawful new root c d area (kept_is_older k.shape new.fields.number (Some k.root) c comes ready_for.keeps) now in
          root_step_shows k c d was.shape.lawful (alone now.written) new (LooseHeader None) was (next_may_be_written k.shape (new.fields.number + 1) (Some new) d (comes_next new) whole)
