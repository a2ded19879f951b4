use Rattle.std.proofs.Common.{◌≡◌, ◌∙◌, ℕ, List, slice_index, refl, sym, ap, arith}
use Rattle.grid_types.specs.Shapes.{header_page, header_gate_at}
use Rattle.grid_model.specs.Images.{header_gate}
use Rattle.disk_trait.proofs.Calls.{reads_then_changes}
use Rattle.disk_trait.proofs.Moments.{weakened}
use Rattle.disk_trait.proofs.Pages.{agrees_same}
use Rattle.file_roots.proofs.Headers.{header_two, header_inside, gate_is}
use Rattle.file_roots.specs.Writing.{closed_gate}
use Rattle.file_roots.proofs.Exchange.{closed_gate_shut}
use Rattle.file_roots.proofs.Outcomes.{on_ok_also, on_ok_both, on_err}
use Rattle.file_roots.proofs.Sections.{changes_if_told, may_still, again_closing, replaceable_at_closing, awaits_closed}
use Rattle.file_roots.proofs.closing.close_root.Goals as goal

pub read_page-requires : goal.read_page-requires
read_page-requires g c = header_inside c.args.geometry.now.shape (header_page c.args.number) (g.D.Disk.extent c.args.disk.now) c.args.geometry.now.lawful (header_two c.args.number) c.requires

pub shut-requires : goal.shut-requires
shut-requires g c = record { size = omega (arith, header_inside c.args.geometry.now.shape (header_page c.args.number) (g.D.Disk.extent c.args.disk.now) c.args.geometry.now.lawful (header_two c.args.number) c.requires, c.in_ok-read_page.ensures.same.extent) }

pub returns-in_err-read_page-clause-replaceable : goal.returns-in_err-read_page-clause-replaceable
returns-in_err-read_page-clause-replaceable g c = λ old tried w.
    weakened g.D.Disk.moment g.D.Disk.left_since c.args.disk.now c.read_page.new.disk _ _ (c.in_err-read_page.ensures.same.moments w.honest) (λ i left. w.each i left)

pub returns-in_err-read_page-clause-again : goal.returns-in_err-read_page-clause-again
returns-in_err-read_page-clause-again g c = λ old tried w. on_err c.from_residual.result (may_still c.args.geometry.now.shape c.args.number old tried c.in_err-read_page.ensures.same w)

pub returns-clause-changes : goal.returns-clause-changes
returns-clause-changes g c = reads_then_changes (agrees_same _ _) c.in_ok-read_page.ensures.same c.shut.ensures.changes

pub returns-clause-unwritten : goal.returns-clause-unwritten
returns-clause-unwritten g c = λ shut. changes_if_told (returns-clause-changes g c) (λ h.
    let byte : slice_index c.read_page.new.out 64 ≡ header_gate (g.D.Disk.seen c.args.disk.now) (header_page c.args.number) = ap (λ (p : List ℕ). slice_index p 64) (c.in_ok-read_page.ensures.bytes h) in
    reads_then_changes (λ x. refl) c.in_ok-read_page.ensures.same (c.shut.ensures.unwritten (λ e. shut (sym byte ∙ e))))

pub returns-clause-closed : goal.returns-clause-closed
returns-clause-closed g c = λ h.
    let header = header_page c.args.number in
    let seen = g.D.Disk.seen c.args.disk.now in
    let at = header_gate_at header in
    let byte : slice_index c.read_page.new.out 64 ≡ slice_index seen at = ap (λ (p : List ℕ). slice_index p 64) (c.in_ok-read_page.ensures.bytes h) ∙ gate_is seen header in
    on_ok_also c.shut.result c.map_err.result c.map_err.ensures.variant (λ shut. gate_is (g.D.Disk.seen c.shut.new.disk) header ∙ shut ∙ ap closed_gate (byte ∙ sym (gate_is seen header)))
    (c.shut.ensures.closed (c.in_ok-read_page.ensures.same.honest ∙ h) (byte ∙ ap (λ (x : List ℕ). slice_index x at) (sym (c.in_ok-read_page.ensures.same.seen h))))

pub returns-clause-replaceable : goal.returns-clause-replaceable
returns-clause-replaceable g c = λ old tried w. replaceable_at_closing c.args.geometry.now.shape c.args.geometry.now.lawful c.args.number old tried (returns-clause-changes g c) (returns-clause-unwritten g c) w

pub returns-clause-again : goal.returns-clause-again
returns-clause-again g c = λ old tried w. on_err c.map_err.result (again_closing c.args.geometry.now.shape c.args.geometry.now.lawful c.args.number old tried (returns-clause-changes g c) (returns-clause-unwritten g c) w)

pub returns-clause-awaits : goal.returns-clause-awaits
returns-clause-awaits g c = λ old tried w.
    on_ok_both c.map_err.result (λ closed synced.
    awaits_closed c.args.geometry.now.shape c.args.geometry.now.lawful c.args.number old tried (returns-clause-changes g c) (returns-clause-unwritten g c) w (g.met.D.Disk.seen_now c.args.disk.now w.honest)
    (λ is. closed_gate_shut (header_gate (g.D.Disk.seen c.args.disk.now) (header_page c.args.number)) (sym closed ∙ is)) synced)
    (returns-clause-closed g c w.honest) (on_ok_also c.shut.result c.map_err.result c.map_err.ensures.variant (λ synced. synced) c.shut.ensures.durable)
