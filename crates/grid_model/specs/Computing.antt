-- Name this on an `unfolding` line, and all definitions compute.
use Rattle.std.specs.Fmt.{digits}
use Rattle.hex.specs.Hex.{decode_pairs, encode_with}
use Rattle.grid_types.specs.Queries.{matches}
use Rattle.grid_model.specs.Tables.{effect}
use Rattle.grid_model.specs.Listings.{rows}
use Rattle.grid_model.specs.Layouts.{unused, holder, new_layout}
use Rattle.grid_model.specs.Cuts.{cut, refinement, best_existing, best_value, candidates, dividing_values, may_grow}
use Rattle.grid_model.specs.Neighbours.{partners}
use Rattle.grid_model.specs.Notes.{put_note, merges, after_note, split, joined}
use Rattle.grid_model.specs.Lone.{lone, updated, published, claimed, queued, change, need, renewed, dropped, made, answers, afterwards}
use Rattle.grid_model.specs.Script.{lines, lines_of, pieces, meaning, asked, longest}
use Rattle.grid_model.specs.Text.{text, text_lines, reply_lines}
use Rattle.grid_model.specs.Transcripts.{printed, prints}

-- all definitions of scripts, replies and the lone caller compute
unfoldable pub computing : Unit {0}
unfolding digits decode_pairs encode_with matches effect rows unused holder new_layout cut refinement best_existing best_value candidates dividing_values may_grow partners put_note merges after_note split joined lone updated published claimed queued change need renewed dropped made answers afterwards lines lines_of pieces meaning asked longest text text_lines reply_lines printed prints
computing = tt
