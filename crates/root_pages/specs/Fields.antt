-- What the fields of a root stand for.
use Rattle.grid_model.specs.Spellings.{RootFields}
use Rattle.root_pages.specs.declared.root_header.RootHeader.{RootHeader}

-- the model's root fields that these are
abbrev pub model_fields : RootHeader → RootFields
model_fields f = record { number = f.number; session = f.session; front = f.front; records = f.records; boundaries = f.boundaries.items; parts = f.parts; buckets = f.buckets }
