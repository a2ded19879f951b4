pub mod Truths
pub mod Corners
pub mod TableLaws
pub mod AnswerLaws
pub mod Listed
pub mod Found
pub mod Counts
pub mod LeastLaws
pub mod Members
pub mod Choosing
pub mod CutLaws
pub mod ScaleLaws
pub mod Filled
pub mod Boundaries
pub mod Bounds
pub mod Indices
pub mod CellLaws
pub mod LowestKeys
pub mod OneCell
pub mod Refining
pub mod Numbered
pub mod Boxes
pub mod Holders
pub mod Records
pub mod Hulls
pub mod Partners
pub mod Joined
pub mod Merged
pub mod CutRegions
pub mod LeastUnused
pub mod RegionCounts
pub mod LayoutKept
pub mod Ascending
pub mod Gathered
pub mod Summed
pub mod Divided
pub mod NewLayout
pub mod CutScales
pub mod CutBoxes
pub mod CutParts
pub mod LayoutLaws
pub mod Swapping
pub mod States
pub mod Carrying
pub mod Prepending
pub mod Passing
pub mod Renaming
pub mod Telling
pub mod Together
pub mod Reading
pub mod Printing
mod ImageRows
mod TwoClients
mod Rows
mod Drawn
mod Merges
mod Directed
mod Grammar
