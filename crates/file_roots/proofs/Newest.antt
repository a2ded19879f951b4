-- Which root is the newest.
use Rattle.std.proofs.Common.{◌≡◌, ◌≢◌, ◌<◌, ◌≤◌, inl, inr, ◌+◌, ℕ, List, refl, sym, ap, ◌∙◌, subst, arith}
use Rattle.std.specs.Prelude.{Option, Some, None, IfSome, IfNone}
use Rattle.grid_types.specs.declared.shape.Shape.{Shape}
use Rattle.grid_types.specs.Pages.{page_of}
use Rattle.grid_types.specs.Shapes.{header_page}
use Rattle.grid_model.specs.Spellings.{RootFields}
use Rattle.grid_model.specs.Lawful.{IsRootOn}
use Rattle.grid_model.specs.Images.{header_gate, IsOpenOver, IsNewest}
use Rattle.root_pages.specs.Headers.{SpellsRoot}
use Rattle.root_pages.specs.declared.root_header.RootHeader.{RootHeader}
use Rattle.root_pages.specs.Fields.{model_fields}
use Rattle.file_roots.specs.Headers.{gate_of, Says, SaysNothing}
use Rattle.file_roots.specs.Damage.{AreAlike, IsMisspelt, IsRootDamage}

module _ (s : Shape) (image : List ℕ) where
  -- a header page that is open and spells a root is open over it
  pub open_over : (header : ℕ) (r : RootFields) → header_gate image header ≡ 1 → SpellsRoot s header (page_of header image) r → IsOpenOver s image header r
  open_over header r gate spells = record { gate = gate; spelled = spells.bytes; lawful = spells.lawful }

  open_on_own : (header : ℕ) (r : RootFields) → IsOpenOver s image header r → IsOpenOver s image (header_page r.number) r
  open_on_own header r opens = subst (λ h. IsOpenOver s image h r) (sym opens.lawful.parity) opens

  -- an open root beside a closed header page is the newest
  pub newest_alone : (header other : ℕ) (r : RootFields) → header + other ≡ 1 → IsOpenOver s image header r → header_gate image other ≢ 1 → IsNewest s image r
  newest_alone header other r pair opens shut =
      let next : header_page (r.number + 1) ≡ other = omega (arith, opens.lawful.parity, pair) in
      record { opens = open_on_own header r opens; other = inl (λ is. shut (ap (header_gate image) (sym next) ∙ is)) }

  -- of two open roots the one of the greater number is
  pub newest_of_two : (header other : ℕ) (r q : RootFields) → header + other ≡ 1 → IsOpenOver s image header r → IsOpenOver s image other q → q.number ≤ r.number → IsNewest s image r
  newest_of_two header other r q pair opens older le =
      let next : header_page (r.number + 1) ≡ other = omega (arith, opens.lawful.parity, pair) in
      let less : q.number < r.number = omega (arith, le, opens.lawful.parity, older.lawful.parity, pair) in
      record { opens = open_on_own header r opens; other = inr (q, subst (λ h. IsOpenOver s image h q) (sym next) older, less) }

  -- what header page 1 says alone
  pub first_alone : (first : Option RootHeader) → header_gate image 0 ≢ 1 → Says s 1 (page_of 1 image) first → IfSome first (λ f. IsNewest s image (model_fields f))
  first_alone None shut says = tt
  first_alone (Some f) shut says = newest_alone 1 0 (model_fields f) refl (open_over 1 (model_fields f) says.0 says.1) shut

  -- nothing is said of either
  pub first_none : (first : Option RootHeader) → header_gate image 0 ≢ 1 → Says s 1 (page_of 1 image) first → IfNone first ((header_gate image 0 ≢ 1) × (header_gate image 1 ≢ 1))
  first_none None shut says = (shut, says)
  first_none (Some f) shut says = tt

-- a root that a header page spells is lawful on its own header page
pub lawful_on_own : (s : Shape) (header : ℕ) (page : List ℕ) (r : RootFields) → SpellsRoot s header page r → IsRootOn s (header_page r.number) r
lawful_on_own s header page r spells = subst (λ h. IsRootOn s h r) (sym spells.lawful.parity) spells.lawful

-- so is what header page 1 says alone
pub first_lawful : (s : Shape) (page : List ℕ) (first : Option RootHeader) → Says s 1 page first → IfSome first (λ f. IsRootOn s (header_page f.number) (model_fields f))
first_lawful s page None says = tt
first_lawful s page (Some f) says = lawful_on_own s 1 page (model_fields f) says.1

-- the first header page that is misspelt
pub first_misspelt : (s : Shape) (image : List ℕ) (page : ℕ) → page < 2 → IsMisspelt s image page → ((header : ℕ) → header < page → IsMisspelt s image header → ⊥) → (AreAlike image 1 → ⊥) → IsRootDamage s image page
first_misspelt s image page two misspelt before unlike = inr (inr (inl (record { two = two; misspelt = misspelt; before = before; unlike = unlike })))

-- a header page of which something is said is not misspelt
pub not_misspelt : (s : Shape) (image : List ℕ) (header : ℕ) (said : Option RootHeader) → Says s header (page_of header image) said → IsMisspelt s image header → ⊥
not_misspelt s image header None says misspelt = says misspelt.gate
not_misspelt s image header (Some f) says misspelt = misspelt.none (model_fields f) (record { gate = says.0; spelled = says.1.bytes; lawful = says.1.lawful })

-- a page that is open and spells no root is misspelt
pub is_misspelt : (s : Shape) (image page : List ℕ) (header : ℕ) → page_of header image ≡ page → SaysNothing s header page → IsMisspelt s image header
is_misspelt s image page header is says = record {
  gate = ap gate_of is ∙ says.gate;
  none = λ r opens. says.none r (subst (λ p. SpellsRoot s header p r) is (record { lawful = opens.lawful; bytes = opens.spelled }));
}
