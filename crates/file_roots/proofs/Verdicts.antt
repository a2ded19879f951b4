-- What it means that a page of a table area is taken, or refused.
use Rattle.std.proofs.Common.{◌≡◌, ◌<◌, ◌≤◌, inl, inr, ◌+◌, ◌-◌, ◌*◌, ◌++◌, ◌==◌, not, ℕ, List, map, length, replicate, get_or, Bool, IsTrue, sym, ap, ◌∙◌, subst, arith, append_assoc}
use Rattle.std.specs.Prelude.{min, All}
use Rattle.std.proofs.lemmas.Bool.{cases_lt}
use Rattle.std.proofs.lemmas.List.{get_or-replicate, get_or-map, get_or_past, nil_from_length, append-nil}
use Rattle.std.proofs.lemmas.List.Elements.{All-get_or, All-append, filter-append}
use Rattle.grid_types.specs.declared.shape.Shape.{Shape}
use Rattle.grid_types.specs.declared.refusal.Refusal.{Refusal}
use Rattle.grid_types.specs.declared.refusal.Refusal.TheVariants.{Damaged}
use Rattle.grid_types.specs.Pages.{page_of}
use Rattle.grid_types.specs.Shapes.{is_shape, area_pages, header_page, table_page}
use Rattle.grid_types.proofs.Places.{within-limits}
use Rattle.grid_model.specs.Lists.{AreDistinct}
use Rattle.grid_model.specs.Scales.{scale_of}
use Rattle.grid_model.specs.Spellings.{RootFields}
use Rattle.grid_model.specs.Lawful.{IsRootOn, Area, pages_named, nowhere}
use Rattle.grid_model.specs.Images.{IsNewest, HasArea}
use Rattle.grid_model.specs.Roots.{IsNewestWhole}
use Rattle.root_pages.specs.Areas.{IsScalePage, IsListPage, IsTablePage}
use Rattle.linear_scales.specs.Limited.{LimitedScale, limits_of}
use Rattle.file_roots.specs.Damage.{SpellsUpTo}
use Rattle.file_roots.specs.Gathering.{AreMarked}
use Rattle.file_roots.proofs.Marking.{all_rest}
use Rattle.file_roots.proofs.Spelled.{count_on, scale_there, scale_count, list_there, table_there, table_count}

module _ (s : Shape) (image : List ℕ) (r : RootFields) (lawful : IsTrue (is_shape s)) (root : IsRootOn s (header_page r.number) r) (n : ℕ) (a : Area) (further : SpellsUpTo s image r (n + 1) a) where
  -- a page that is spelled is judged so
  pub scale_judged : n < 8 → IsScalePage r.number n (count_on s image r lawful root n) (page_of (table_page s (header_page r.number) n) image)
  scale_judged le = record { entries = _; count_is = scale_count s image r lawful root (n + 1) a further n (omega arith); spelled = scale_there s image r lawful root (n + 1) a further n (omega arith) le }

  pub list_judged : n ≡ 8 → IsListPage r.number n r.parts (page_of (table_page s (header_page r.number) n) image)
  list_judged eighth =
      let w = within-limits s lawful in
      let here : IsListPage r.number 8 r.parts (page_of (table_page s (header_page r.number) 8) image) = record {
        entries = a.parts;
        count_is = omega (arith, further.parts, eighth, root.parts, root.few_cells, w.few_cells);
        spelled = list_there s image r lawful root (n + 1) a further (omega (arith, eighth));
      } in
      subst (λ (k : ℕ). IsListPage r.number k r.parts (page_of (table_page s (header_page r.number) k) image)) (sym eighth) here

  pub table_judged : 9 ≤ n → n < area_pages s → IsTablePage r.number n (min 1000 (s.pages - 1000 * (n - 9))) (page_of (table_page s (header_page r.number) n) image)
  table_judged ninth inside = record { entries = _; count_is = table_count s image r lawful root (n + 1) a further n (omega arith) ninth; spelled = table_there s image r lawful root (n + 1) a further n (omega arith) ninth inside }

  -- its scale has room
  pub scale_short : (i : ℕ) → length (scale_of a.scales i) ≤ s.boundaries
  scale_short i = elim (cases_lt i (length r.boundaries)) [
    | inl lt ↦ omega (arith, further.boundaries i, All-get_or (λ n. n ≤ s.boundaries) r.boundaries i 0 lt root.few_boundaries)
    | inr ge ↦ omega (arith, further.boundaries i, get_or_past r.boundaries i 0 ge)
  ]

-- the limit of each scale
pub limit_at : (K b : ℕ) (ss : List LimitedScale) (i : ℕ) (d : LimitedScale) → length ss ≡ K → limits_of ss ≡ replicate K b → i < K → (get_or ss i d).limit ≡ b
limit_at K b ss i d count limits lt = sym (get_or-map (λ t. t.limit) ss i d 0 (omega (arith, count, lt))) ∙ ap (λ ns. get_or ns i 0) limits ∙ get_or-replicate K i b 0 lt

-- what the list names behind what was named before: nothing
pub list_names : (parts table xs : List ℕ) → length table ≡ 0 → (parts ++ xs) ++ pages_named table ≡ (parts ++ pages_named table) ++ xs
list_names parts table xs none =
    let nothing = nil_from_length table none in
    ap (λ t. (parts ++ xs) ++ pages_named t) nothing ∙ append-nil (parts ++ xs) ∙ ap (λ ys. ys ++ xs) (sym (append-nil parts)) ∙ sym (ap (λ t. (parts ++ pages_named t) ++ xs) nothing)

-- what the table names more
pub table_names : (parts table xs : List ℕ) → parts ++ pages_named (table ++ xs) ≡ (parts ++ pages_named table) ++ pages_named xs
table_names parts table xs = ap (λ ys. parts ++ ys) (filter-append (λ p. not (p == nowhere)) table xs) ∙ sym (append_assoc parts (pages_named table) (pages_named xs))

-- data pages are those of the file, and marked
pub record AreTaken (s : Shape) (marks : List Bool) (pages : List ℕ) : Type 0 where
  pub named : All (λ p. p < s.pages) pages
  pub marked : AreMarked marks pages

-- with more behind those that were named before
pub taken_more : (s : Shape) (marks : List Bool) (count : ℕ) (before more now : List ℕ) → count ≡ s.pages → now ≡ before ++ more → All (λ p. p < s.pages) before → All (λ p. p < count) more → AreMarked marks (before ++ more) → AreTaken s marks now
taken_more s marks count before more now all is named inside marked = record {
  named = subst (All (λ p. p < s.pages)) (sym is) (All-append (λ p. p < s.pages) before more named (subst (λ n. All (λ p. p < n) more) all inside));
  marked = subst (AreMarked marks) (sym is) marked;
}

-- of data pages of the file that are named once, those behind some are so
pub rest_named : (s : Shape) (count : ℕ) (before more now : List ℕ) → count ≡ s.pages → now ≡ before ++ more → All (λ p. p < s.pages) now → AreDistinct now → All (λ p. p < count) more × AreDistinct (before ++ more)
rest_named s count before more now all is named distinct =
    (subst (λ n. All (λ p. p < n) more) (sym all) (all_rest (λ p. p < s.pages) before more (subst (All (λ p. p < s.pages)) is named)), subst AreDistinct is distinct)

-- the page that a refusal names
pub named_page : (p q : ℕ) (refusal : Refusal) → refusal ≡ Damaged p → refusal ≡ Damaged q → p ≡ q
named_page p q refusal is e = cc (is, e)

-- the fields of a root whose lists have the root's lengths are the root's
pub fields_same : (r : RootFields) (scales : List (List ℕ)) (parts table : List ℕ) → map length scales ≡ r.boundaries → length parts ≡ r.parts → length (pages_named table) ≡ r.buckets
    → record { number = r.number; session = r.session; front = r.front; records = r.records; boundaries = map length scales; parts = length parts; buckets = length (pages_named table) } ≡ r
fields_same r scales parts table b p n = λ i. record { number = r.number; session = r.session; front = r.front; records = r.records; boundaries = b i; parts = p i; buckets = n i }

-- the newest root with its table area
pub whole_root : (s : Shape) (image : List ℕ) (r q : RootFields) (a : Area) → q ≡ r → IsNewest s image r → HasArea s image r a → IsNewestWhole s (record { fields = q; area = a }) image
whole_root s image r q a same newest area = record { newest = subst (IsNewest s image) (sym same) newest; area = subst (λ f. HasArea s image f a) (sym same) area }
