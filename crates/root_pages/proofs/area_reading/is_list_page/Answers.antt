use Rattle.std.proofs.Common.{arith, codes}
use Rattle.grid_model.specs.Spellings.{list_spelling}
use Rattle.root_pages.proofs.KindsOfPages.{lists, has_entries, page_up_to}
use Rattle.root_pages.proofs.area_reading.is_list_page.Goals as goal

pub returns : goal.returns
returns c = (
  λ yes. has_entries 4 (codes "GFL1") list_spelling 1000 32 lists c.args.root c.args.index c.args.count c.args.page.now (omega arith) (omega arith) c.requires c.told-page c.fits-page (c.is_page.ensures.0 yes),
  λ h. c.is_page.ensures.1 (page_up_to 4 (codes "GFL1") list_spelling 1000 32 lists c.args.root c.args.index c.args.count c.args.page.now h),
)
