use Rattle.std.proofs.Common.{refl, arith}
use Rattle.file_roots.proofs.tests.next.Goals as goal

pub returns-clause-root : goal.returns-clause-root
returns-clause-root c =
    let was = c.requires.root in
    record {
      fields = record {
        parity = refl;
        number = omega (arith, c.requires.number);
        session = omega (arith, c.requires.session);
        front = was.fields.front;
        attributes = was.fields.attributes;
        few_boundaries = was.fields.few_boundaries;
        few_cells = was.fields.few_cells;
        parts = was.fields.parts;
        some_buckets = was.fields.some_buckets;
        few_buckets = was.fields.few_buckets;
        records = was.fields.records;
      };
      area = record {
        boundaries = was.area.boundaries;
        scales = was.area.scales;
        parts = was.area.parts;
        numbers = was.area.numbers;
        buckets = was.area.buckets;
        pages = was.area.pages;
        distinct = was.area.distinct;
      };
    }
