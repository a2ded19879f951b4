use Rattle.std.proofs.Common.{◌≡◌, ℕ, List, [], ◌∷◌, refl, sym, ap, ◌∙◌}
use Rattle.grid_types.specs.declared.layout_change.LayoutChange.{LayoutChange}
use Rattle.grid_types.specs.declared.layout_change.LayoutChange.TheVariants as note
use Rattle.grid_types.specs.declared.owner.Owner.TheVariants.{Bucket}
use Rattle.grid_model.specs.Cells.{dims}
use Rattle.history_pages.specs.NewPages.{new_pages}
use Rattle.history_pages.specs.OwnerPages.{owner_page}
use Rattle.update_plans.specs.Plans.{in_buffers}
use Rattle.file_updates.proofs.Refusing.{refusal_told}
use Rattle.file_updates.proofs.Counting.{first_written}
use Rattle.file_updates.proofs.writing.write_pages.Goals as goal

pub returns-in-Plain-clause-cause : goal.returns-in-Plain-clause-cause
returns-in-Plain-clause-cause g c =
    refusal_told g.D.Disk (record { lies = λ f part page is. is; reads = λ f. refl; writes = λ f. refl }) c.dims-dims.result.intervals c.args.file.now c.write_change.new.pages c.write_change.new.room.old_page c.dims-dims.ensures.value c.write_change.result c.write_change.ensures.cause

pub returns-in-Plain-clause-honest : goal.returns-in-Plain-clause-honest
returns-in-Plain-clause-honest g c = λ L t u e pinned is.
    c.write_change.ensures.honest c.args.file.now.books.shape L t u c.args.plan.now.note e (record { given = owner_page L t; told = pinned.pages_are; each = λ o. refl }) is.change
    (c.dims-dims.ensures.value ∙ ap (λ (s : List (List ℕ)). dims s) pinned.scales_are)

pub returns-in-Plain-clause-written : goal.returns-in-Plain-clause-written
returns-in-Plain-clause-written g c = λ L t u e pinned is.
    let b : ℕ = c.args.plan.now.bucket in
    let first : List ℕ = c.args.room.now.first.value in
    let second : List ℕ = c.args.room.now.second.value in
    first_written c.write_change.result c.args.file.now.written c.write_change.new.pages.written (new_pages L t u c.args.plan.now.note e) c.requires.none
    (c.write_change.ensures.written c.args.file.now.books.shape L t u c.args.plan.now.note e (record { given = owner_page L t; told = pinned.pages_are; each = λ o. refl }) is.change
    (c.dims-dims.ensures.value ∙ ap (λ (s : List (List ℕ)). dims s) pinned.scales_are) is.directory
    (ap (λ (x : List ℕ). (Bucket b, x) ∷ []) c.deref.ensures ∙ sym (ap (λ (n : LayoutChange). in_buffers b n first second) c.in-Plain.is) ∙ is.buffers))

pub returns-in-Cut-clause-cause : goal.returns-in-Cut-clause-cause
returns-in-Cut-clause-cause g c =
    refusal_told g.D.Disk (record { lies = λ f part page is. is; reads = λ f. refl; writes = λ f. refl }) c.dims-dims.result.intervals c.args.file.now c.write_change-in-Cut.new.pages c.write_change-in-Cut.new.room.old_page c.dims-dims.ensures.value
    c.write_change-in-Cut.result c.write_change-in-Cut.ensures.cause

pub returns-in-Cut-clause-honest : goal.returns-in-Cut-clause-honest
returns-in-Cut-clause-honest g c = λ L t u e pinned is.
    c.write_change-in-Cut.ensures.honest c.args.file.now.books.shape L t u c.args.plan.now.note e (record { given = owner_page L t; told = pinned.pages_are; each = λ o. refl }) is.change
    (c.dims-dims.ensures.value ∙ ap (λ (s : List (List ℕ)). dims s) pinned.scales_are)

pub returns-in-Cut-clause-written : goal.returns-in-Cut-clause-written
returns-in-Cut-clause-written g c = λ L t u e pinned is.
    let b : ℕ = c.args.plan.now.bucket in
    let first : List ℕ = c.args.room.now.first.value in
    let second : List ℕ = c.args.room.now.second.value in
    let both : (Bucket b, c.deref.result.now) ∷ (Bucket c.in-Cut.right, c.deref-2.result.now) ∷ [] ≡ in_buffers b (note.Cut c.in-Cut.cut c.in-Cut.right) first second = λ i. (Bucket b, c.deref.ensures i) ∷ (Bucket c.in-Cut.right, c.deref-2.ensures i) ∷ [] in
    first_written c.write_change-in-Cut.result c.args.file.now.written c.write_change-in-Cut.new.pages.written (new_pages L t u c.args.plan.now.note e) c.requires.none
    (c.write_change-in-Cut.ensures.written c.args.file.now.books.shape L t u c.args.plan.now.note e (record { given = owner_page L t; told = pinned.pages_are; each = λ o. refl }) is.change
    (c.dims-dims.ensures.value ∙ ap (λ (s : List (List ℕ)). dims s) pinned.scales_are) is.directory
    (both ∙ sym (ap (λ (n : LayoutChange). in_buffers b n first second) c.in-Cut.is) ∙ is.buffers))

pub returns-in-Merge-clause-cause : goal.returns-in-Merge-clause-cause
returns-in-Merge-clause-cause g c =
    refusal_told g.D.Disk (record { lies = λ f part page is. is; reads = λ f. refl; writes = λ f. refl }) c.dims-dims.result.intervals c.args.file.now c.write_change-in-Merge.new.pages c.write_change-in-Merge.new.room.old_page c.dims-dims.ensures.value
    c.write_change-in-Merge.result c.write_change-in-Merge.ensures.cause

pub returns-in-Merge-clause-honest : goal.returns-in-Merge-clause-honest
returns-in-Merge-clause-honest g c = λ L t u e pinned is.
    c.write_change-in-Merge.ensures.honest c.args.file.now.books.shape L t u c.args.plan.now.note e (record { given = owner_page L t; told = pinned.pages_are; each = λ o. refl }) is.change
    (c.dims-dims.ensures.value ∙ ap (λ (s : List (List ℕ)). dims s) pinned.scales_are)

pub returns-in-Merge-clause-written : goal.returns-in-Merge-clause-written
returns-in-Merge-clause-written g c = λ L t u e pinned is.
    let b : ℕ = c.args.plan.now.bucket in
    let first : List ℕ = c.args.room.now.first.value in
    let second : List ℕ = c.args.room.now.second.value in
    let one : (Bucket c.min.result, c.deref.result.now) ∷ [] ≡ in_buffers b (note.Merge c.in-Merge.with) first second = λ i. (Bucket (c.min.ensures i), c.deref.ensures i) ∷ [] in
    first_written c.write_change-in-Merge.result c.args.file.now.written c.write_change-in-Merge.new.pages.written (new_pages L t u c.args.plan.now.note e) c.requires.none
    (c.write_change-in-Merge.ensures.written c.args.file.now.books.shape L t u c.args.plan.now.note e (record { given = owner_page L t; told = pinned.pages_are; each = λ o. refl }) is.change
    (c.dims-dims.ensures.value ∙ ap (λ (s : List (List ℕ)). dims s) pinned.scales_are) is.directory
    (one ∙ sym (ap (λ (n : LayoutChange). in_buffers b n first second) c.in-Merge.is) ∙ is.buffers))
