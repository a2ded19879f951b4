-- What a key's bucket is, and what a get answers, where the place has the pages of a layout and a table.
use Rattle.std.proofs.Common.{◌≡◌, ℕ, Bool, true, cond, List, length, Option, Some, None, refl, sym, ap, ◌∙◌, subst}
use Rattle.std.specs.FinMap.Entries.{find-where_key}
use Rattle.grid_types.specs.Keys.{IsKey, key_cmp}
use Rattle.grid_types.specs.Regions.{contains}
use Rattle.grid_model.specs.Cells.{dims, cell_of}
use Rattle.grid_model.specs.ScaleLaws.{IsCell}
use Rattle.grid_model.specs.Tables.{Table, get, pairs_of}
use Rattle.grid_model.specs.Layouts.{BucketBox, Layout, holder, records_inside}
use Rattle.grid_model.specs.Spellings.{BucketOf}
use Rattle.grid_model.specs.Buckets.{SpellsBucket}
use Rattle.grid_model.specs.Expected.{SoughtKey}
use Rattle.grid_model.specs.Images.{bucket_on}
use Rattle.grid_model.proofs.Boxes.{one-value}
use Rattle.grid_model.proofs.CellLaws.{have-indices}
use Rattle.grid_model.proofs.Divided.{pairs-of-records}
use Rattle.grid_model.proofs.TableLaws.{alike}
use Rattle.bucket_page.specs.declared.head.Head.{Head}
use Rattle.bucket_page.specs.OnPage.{bucket_told}
use Rattle.query_paths.specs.Pinned.{Place, IsPinnedTo}
use Rattle.query_paths.specs.Finding.{IsBucketFound, IsBoxFound}
use Rattle.query_paths.specs.Paths.{IsGot, IsUnexpected}
use Rattle.query_paths.proofs.Naming.{place_over, pinned-place, named-box, bucket-is, as-expected}

-- a region that has a key has the table's data at it
pub inside-same : {K : ℕ} (t : Table) (n : ℕ) (b : BucketBox K) (k : List ℕ) → contains b.region k ≡ true → get (pairs_of (bucket_on t (n, b)).rows) k ≡ get t k
inside-same {K} t n b k has =
    ap (λ (s : Table). get s k) (pairs-of-records K (records_inside t b.region))
    ∙ find-where_key key_cmp (contains b.region) k (alike (contains b.region) k) t
    ∙ ap (λ (x : Bool). cond x (get t k) None) has

module _ {K : ℕ} (p : Place) (L : Layout K) (t : Table) (pin : IsPinnedTo p L t) (key : List ℕ) (is_key : IsKey K key) where
  -- the same place, as that of the layout and the table
  abbrev same : Place
  same = place_over p.shape L t p.file_page

  cell : IsCell (dims L.scales) (cell_of L.scales key)
  cell = (have-indices K).key L.scales key (is_key.count ∙ sym pin.stands.sound.attributes)

  found-over : (bytes : List ℕ) (head : Head K) (e : ℕ × BucketBox K) → IsBucketFound same key bytes head → holder L key ≡ Some e → IsBoxFound p.shape L t key e bytes head
  found-over bytes head e f holds =
      let found = named-box p.shape L t p.file_page pin.stands (cell_of L.scales key) cell head.number f.names in
      let entry : (head.number, found.0) ≡ e = one-value (head.number, found.0) e (sym (found.1.has key is_key refl) ∙ holds) in
      let is : bucket_told K bytes ≡ bucket_on t (head.number, found.0) = bucket-is p.shape L t p.file_page pin.stands head.number found.0 bytes (bucket_told K bytes) found.1.there (f.has.page.given _ refl) f.has.expected.spelled in
      subst (λ (x : ℕ × BucketBox K). IsBoxFound p.shape L t key x bytes head) entry (record {
        stands = pin.stands;
        holds = found.1.has key is_key refl;
        spelled = subst (SpellsBucket p.shape.capacity bytes) is f.has.expected.spelled;
        number = refl;
        region = ap (λ (h : Head K). h.region) f.head_is ∙ ap (λ (b : BucketOf K). b.box.region) is;
        count = sym f.count ∙ ap (λ (b : BucketOf K). length b.rows) is;
      })

  -- the bucket that is found is that of the box that has the key
  pub box-found : (bytes : List ℕ) (head : Head K) (e : ℕ × BucketBox K) → IsBucketFound p key bytes head → holder L key ≡ Some e → IsBoxFound p.shape L t key e bytes head
  box-found bytes head e f holds = found-over bytes head e (subst (λ (q : Place). IsBucketFound q key bytes head) (pinned-place p L t pin) f) holds

  answered-over : (bytes : List ℕ) (answer : Option (List ℕ)) → IsGot K same key bytes answer → answer ≡ get t key
  answered-over bytes answer f =
      let found = named-box p.shape L t p.file_page pin.stands (cell_of L.scales key) cell f.number f.names in
      let is : f.bucket ≡ bucket_on t (f.number, found.0) = bucket-is p.shape L t p.file_page pin.stands f.number found.0 bytes f.bucket found.1.there (f.has.page.given _ refl) f.has.expected.spelled in
      f.answer_is ∙ ap (λ (b : BucketOf K). get (pairs_of b.rows) key) is ∙ inside-same t f.number found.0 key (found.1.inside key is_key refl)

  -- what a get finds is what the table has at the key
  pub answered : (bytes : List ℕ) (answer : Option (List ℕ)) → IsGot K p key bytes answer → answer ≡ get t key
  answered bytes answer f = answered-over bytes answer (subst (λ (q : Place). IsGot K q key bytes answer) (pinned-place p L t pin) f)

  unexpected-over : (bytes : List ℕ) (at : ℕ) → IsUnexpected K same (cell_of L.scales key) (SoughtKey key) bytes bytes at → ⊥
  unexpected-over bytes at u = as-expected p.shape L t p.file_page pin.stands (cell_of L.scales key) cell (SoughtKey key) bytes bytes at (λ k e. (subst (IsKey K) (sym e) is_key, ap (cell_of L.scales) e)) u

  -- and each page that it reads is the expected one
  pub get-expected : (bytes : List ℕ) (at : ℕ) → IsUnexpected K p (cell_of p.scales key) (SoughtKey key) bytes bytes at → ⊥
  get-expected bytes at u = unexpected-over bytes at (subst (λ (q : Place). IsUnexpected K q (cell_of q.scales key) (SoughtKey key) bytes bytes at) (pinned-place p L t pin) u)
