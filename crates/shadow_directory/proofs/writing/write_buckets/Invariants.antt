use Rattle.std.proofs.Common.{◌≡◌, ◌+◌, ◌++◌, take}
use Rattle.shadow_directory.specs.Calls.{Keeps}
use Rattle.shadow_directory.specs.NewPages.{bucket_pages}
use Rattle.shadow_directory.proofs.writing.write_buckets.Given as goal

abbrev pub invariant-loop-bucket : goal.invariant-loop-bucket
invariant-loop-bucket g l = record {
  keeps : Keeps g.P.ChangePages l.initial.pages l.pages;
  written : g.P.ChangePages.written l.pages ≡ g.P.ChangePages.written l.initial.pages ++ bucket_pages (take l.bucket-index l.buckets);
  left : g.P.ChangePages.room l.pages + l.bucket-index ≡ g.P.ChangePages.room l.initial.pages;
}
