use Rattle.std.proofs.Common.{IsTrue, subst, arith}
use Rattle.grid_types.proofs.Places.{within-limits}
use Rattle.grid_model.specs.Images.{HasShape}
use Rattle.disk_trait.specs.Calls.{OnlyReads}
use Rattle.grid_shell.proofs.Reading.{runs_shaped}
use Rattle.grid_shell.proofs.work.run_shaped.Goals as goal

pub returns-in-1 : goal.returns-in-1
returns-in-1 g c =
    let read = c.in-Ok.ensures in
    let value = c.deref_mut.ensures.value in
    let shape = c.in-Ok.geometry.shape in
    runs_shaped g.D.Disk c.args.disk.value c.read_shape.new.disk (subst (λ old. OnlyReads g.D.Disk old c.read_shape.new.disk) value read.same) g.O.Sink g.S.Source 1 shape c.run_at.result.disk _ _ _ c.in-1.is
    (subst (λ old. IsTrue (g.D.Disk.honest old) → HasShape shape.k (g.D.Disk.seen old) shape) value read.found) c.run_at.ensures

pub returns-in-2 : goal.returns-in-2
returns-in-2 g c =
    let read = c.in-Ok.ensures in
    let value = c.deref_mut.ensures.value in
    let shape = c.in-Ok.geometry.shape in
    runs_shaped g.D.Disk c.args.disk.value c.read_shape.new.disk (subst (λ old. OnlyReads g.D.Disk old c.read_shape.new.disk) value read.same) g.O.Sink g.S.Source 2 shape c.run_at-in-2.result.disk _ _ _ c.in-2.is
    (subst (λ old. IsTrue (g.D.Disk.honest old) → HasShape shape.k (g.D.Disk.seen old) shape) value read.found) c.run_at-in-2.ensures

pub returns-in-3 : goal.returns-in-3
returns-in-3 g c =
    let read = c.in-Ok.ensures in
    let value = c.deref_mut.ensures.value in
    let shape = c.in-Ok.geometry.shape in
    runs_shaped g.D.Disk c.args.disk.value c.read_shape.new.disk (subst (λ old. OnlyReads g.D.Disk old c.read_shape.new.disk) value read.same) g.O.Sink g.S.Source 3 shape c.run_at-in-3.result.disk _ _ _ c.in-3.is
    (subst (λ old. IsTrue (g.D.Disk.honest old) → HasShape shape.k (g.D.Disk.seen old) shape) value read.found) c.run_at-in-3.ensures

pub returns : goal.returns
returns g c =
    let read = c.in-Ok.ensures in
    let value = c.deref_mut.ensures.value in
    let shape = c.in-Ok.geometry.shape in
    runs_shaped g.D.Disk c.args.disk.value c.read_shape.new.disk (subst (λ old. OnlyReads g.D.Disk old c.read_shape.new.disk) value read.same) g.O.Sink g.S.Source 4 shape c.run_at-in_default.result.disk _ _ _ (omega (arith, c.in_default, (within-limits shape c.in-Ok.geometry.lawful).some_attributes, (within-limits shape c.in-Ok.geometry.lawful).few_attributes))
    (subst (λ old. IsTrue (g.D.Disk.honest old) → HasShape shape.k (g.D.Disk.seen old) shape) value read.found) c.run_at-in_default.ensures
