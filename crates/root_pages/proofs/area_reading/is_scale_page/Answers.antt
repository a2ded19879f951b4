use Rattle.std.proofs.Common.{arith, codes}
use Rattle.grid_model.specs.Spellings.{scale_spelling}
use Rattle.root_pages.proofs.KindsOfPages.{scales, has_entries, page_up_to}
use Rattle.root_pages.proofs.area_reading.is_scale_page.Goals as goal

pub returns : goal.returns
returns c = (
  λ yes. has_entries 8 (codes "GFS1") scale_spelling 500 64 scales c.args.root c.args.index c.args.count c.args.page.now (omega arith) (omega arith) c.requires c.told-page c.fits-page (c.is_page.ensures.0 yes),
  λ h. c.is_page.ensures.1 (page_up_to 8 (codes "GFS1") scale_spelling 500 64 scales c.args.root c.args.index c.args.count c.args.page.now h),
)
