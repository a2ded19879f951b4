-- A file whose root stands at its front, with a clear journal, is that of a lone caller who has just opened it.
use Rattle.std.proofs.Common.{◌≡◌, ◌≤◌, ◌+◌, inl, ℕ, zero, suc, List, [], ◌∷◌, fold, length, refl, sym, ap, ◌∙◌, arith}
use Rattle.grid_model.specs.Lone.{opened}
use Rattle.grid_model.specs.Images.{logged_effect, layout_after}
use Rattle.grid_model.specs.Spellings.{LoggedBatch}
use Rattle.file_images.specs.Kept.{Kept}
use Rattle.file_images.specs.Leads.{Standing, Chain, Lineage, updates_in}
use Rattle.file_images.proofs.Chains.{chain_up}
use Rattle.file_books.specs.Books.{Books}
use Rattle.file_books.specs.Effects.{used_of, idle_half}
use Rattle.file_standing.specs.Files.{state_along, FollowsSome, IsFile}
use Rattle.file_redo.specs.RedoLaws.{RootedIsAlone}

-- a chain that goes nowhere has no batch
chain-none : {K : ℕ} (from to : ℕ) (bs : List (LoggedBatch K)) → Chain from bs to → to ≤ from → bs ≡ []
chain-none from to [] chain low = refl
chain-none from to (b ∷ bs) chain low = absurd (omega (arith, chain.1, chain_up (from + length b.updates) to bs chain.2, low))

-- where no slot is used none of either half is
none-used : (b : Books) (h : ℕ) → b.first_used ≡ 0 → b.second_used ≡ 0 → used_of b h ≡ 0
none-used b zero first second = first
none-used b (suc h) first second = second

module _ {K : ℕ} (b : Books) (k : Kept K) (m : Standing K) (is : IsFile b k m) (at : b.rooted_at ≡ b.front) where
  abbrev root-follows : FollowsSome b k m k.root
  root-follows = is.each k.root (inl refl)

  abbrev x : Lineage K
  x = root-follows.lineage

  front-is : k.root.fields.front ≡ m.place
  front-is = is.agree.root ∙ at ∙ sym is.hold.place

  none-taken : x.taken ≡ []
  none-taken = chain-none k.root.fields.front m.place x.taken root-follows.along.along.chain (omega (arith, front-is))

  table-is : m.table ≡ x.table
  table-is = root-follows.along.along.makes_table ∙ ap (λ (bs : List (LoggedBatch K)). fold logged_effect x.table (updates_in bs)) none-taken

  layout-is : m.layout ≡ x.layout
  unfolding layout_after
  layout-is = root-follows.along.along.makes_layout ∙ ap (λ (bs : List (LoggedBatch K)). layout_after x.layout (updates_in bs)) none-taken

  state-is : state_along k.root x ≡ opened m.table m.layout m.place
  state-is = ap (λ (bs : List (LoggedBatch K)). state_along k.root (record { layout = x.layout; table = x.table; taken = bs })) none-taken ∙ (λ i. opened (sym table-is i) (sym layout-is i) (front-is i))

pub rooted-alone : {K : ℕ} → RootedIsAlone K
rooted-alone b k m is at quiet first second = record {
  lineage = (root-follows b k m is at).lineage;
  follows = (root-follows b k m is at).along;
  state = sym (λ i. record (state-is b k m is at i) { used = none-used b b.half first second i });
  quiet = quiet;
  clear = none-used b (idle_half b) first second;
}
