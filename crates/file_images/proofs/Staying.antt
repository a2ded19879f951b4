-- What an image stands for stays where only free data pages change.
use Rattle.std.proofs.Common.{ℕ, List, All, arith}
use Rattle.grid_types.specs.declared.shape.Shape.{Shape}
use Rattle.grid_types.specs.FilePages.{HeaderPage, AreaPage, GatePage, SlotPage}
use Rattle.grid_model.specs.Tables.{Table}
use Rattle.grid_model.specs.Layouts.{Layout}
use Rattle.grid_model.specs.Lawful.{Area}
use Rattle.grid_model.specs.Spellings.{LoggedBatch}
use Rattle.grid_model.specs.Images.{HasGates, HasBatches, Gates, open_slots, written_slots, Found, IsFound, MakesTable, Reads, RootSpells, AreWritten, Stands, IsShaped}
use Rattle.journal_slots.proofs.Frames.{gates_stay_by_page, batches_stay_by_page}
use Rattle.file_roots.proofs.Frames.{RootPagesStay, shape_kept, newest_kept, area_kept}
use Rattle.file_images.specs.Free.{DiffersInFreePages, FreePagesSayNothing}
use Rattle.file_images.proofs.Slots.{IsSlot, open-are-slots, written-are-slots, item-has}
use Rattle.file_images.proofs.Named.{buckets-stay, pages-stay}

module _ (s : Shape) (a : Area) (c d : List ℕ) (differs : DiffersInFreePages s a c d) where
  roots-stay : RootPagesStay s c d
  roots-stay = record {
    same_length = differs.same_length;
    headers = λ header two. differs.same (HeaderPage header) two tt;
    areas = λ area i two lt. differs.same (AreaPage area i) (two, lt) tt;
  }

  gates-stay : (g : Gates) → HasGates s c g → HasGates s d g
  gates-stay g has = record {
    first = gates_stay_by_page s 0 g.first c d (differs.same (GatePage 0) (omega arith) tt) has.first;
    second = gates_stay_by_page s 1 g.second c d (differs.same (GatePage 1) (omega arith) tt) has.second;
  }

  batches-stay : {K : ℕ} (slots : List (ℕ × ℕ)) (bs : List (LoggedBatch K)) → All (IsSlot s) slots → HasBatches s c slots bs → HasBatches s d slots bs
  batches-stay slots bs are has = batches_stay_by_page s slots bs c d (λ i slot at. let is = item-has (IsSlot s) slots i slot are at in differs.same (SlotPage slot.0 slot.1) is tt) has

module _ {K : ℕ} (c d : List ℕ) where
  found-stays : (f : Found K) (n : ℕ) → DiffersInFreePages f.shape f.area c d → IsFound c f n → IsFound d f n
  found-stays f n differs is =
      let stay = roots-stay f.shape f.area c d differs in
      record {
        shape = shape_kept f.shape c d stay K is.shape;
        root = newest_kept f.shape c d stay f.root is.root;
        area = area_kept f.shape c d stay f.root f.area is.area;
        gates = gates-stay f.shape f.area c d differs f.gates is.gates;
        batches = batches-stay f.shape f.area c d differs (open_slots f.gates) f.batches (open-are-slots f.shape c f.gates is.gates) is.batches;
        taken = is.taken;
      }

  table-stays : (f : Found K) (n : ℕ) (t : Table) → DiffersInFreePages f.shape f.area c d → MakesTable c f n t → MakesTable d f n t
  table-stays f n t differs makes = record {
    is_found = found-stays f n differs makes.is_found;
    buckets = buckets-stay f.shape f.root f.area c d makes.is_found.area.lawful differs f.buckets makes.buckets;
    records = makes.records;
    table = makes.table;
  }

  root-stays : (f : Found K) (n : ℕ) (L : Layout K) → DiffersInFreePages f.shape f.area c d → IsFound c f n → RootSpells c f L → RootSpells d f L
  root-stays f n L differs is root = record {
    scales = root.scales;
    pages = pages-stay f.shape f.root f.area c d is.area.lawful differs L f.table root.pages;
    sound = root.sound;
    records = root.records;
  }

  written-stay : (f : Found K) (n : ℕ) → DiffersInFreePages f.shape f.area c d → IsFound c f n → AreWritten c f → AreWritten d f
  written-stay f n differs is are = record {
    batches = are.batches;
    slots = batches-stay f.shape f.area c d differs (written_slots f.gates) are.batches (written-are-slots f.shape c f.gates is.gates) are.slots;
    sessions = are.sessions;
  }

  reads-stay : (n : ℕ) (t : Table) (r : Reads K c n t) → DiffersInFreePages r.found.shape r.found.area c d → Reads K d n t
  reads-stay n t r differs = record { found = r.found; makes = table-stays r.found n t differs r.makes }

  stands-stay : (n : ℕ) (t : Table) (s : Stands K c n t) → DiffersInFreePages s.reads.found.shape s.reads.found.area c d → Stands K d n t
  unfolding reads-stay
  stands-stay n t s differs = record {
    reads = reads-stay n t s.reads differs;
    written = written-stay s.reads.found n differs s.reads.makes.is_found s.written;
    layout = s.layout;
    root = root-stays s.reads.found n s.layout differs s.reads.makes.is_found s.root;
    updates = s.updates;
  }

  shaped-stays : (L : Layout K) (h : IsShaped c L) → DiffersInFreePages h.reads.found.shape h.reads.found.area c d → IsShaped d L
  unfolding reads-stay
  shaped-stays L h differs = record {
    place = h.place;
    table = h.table;
    reads = reads-stay h.place h.table h.reads differs;
    layout = h.layout;
    root = root-stays h.reads.found h.place h.layout differs h.reads.makes.is_found h.root;
    after = h.after;
  }

-- free data pages say nothing
pub free-pages-say-nothing : {K : ℕ} → FreePagesSayNothing K
free-pages-say-nothing = record { reads = reads-stay; stands = stands-stay; shaped = shaped-stays }
