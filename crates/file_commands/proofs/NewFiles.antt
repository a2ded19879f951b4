-- A disk on which a file was made, as what the bay has.
use Rattle.std.proofs.Common.{◌≡◌, ◌&&◌, Bool, true, false, ℕ, IsTrue, List, refl, sym, subst, true≢false}
use Rattle.std.specs.Prelude.{Result, Ok, Err, OnOk, is_ok}
use Rattle.grid_types.specs.declared.shape.Shape.{Shape}
use Rattle.disk_trait.specs.declared.disk.Disk.{Ghosts}
use Rattle.disk_trait.specs.Bay.{BayPlace, Home, Tells}
use Rattle.disk_trait.specs.Calls.{IsSynced}
use Rattle.file_images.specs.Leads.{HasStanding}
use Rattle.file_images.specs.NewFiles.{new_standing}
use Rattle.file_commands.specs.Made.{IsMade}

-- where there is no error, what holds then holds
pub ok_gives : {T E : Type 0} (A : Type 0) (r : Result T E) → is_ok r ≡ true → OnOk r A → A
ok_gives A (Ok x) is a = a
ok_gives A (Err e) is a = absurd (true≢false (sym is))

-- the first of two tests that hold both holds
pub first_holds : (a b : Bool) → (a && b) ≡ true → a ≡ true
first_holds true b is = refl
first_holds false b is = absurd (true≢false (sym is))

-- a synced disk that stands for a new file has one, and so has the bay under whose name it lies
pub made_at : {D : Type 0} (g : Ghosts D) (s : Shape) (disk : D) (place : BayPlace D) → place ≡ Home disk → IsTrue (g.honest disk) → HasStanding (g.seen disk) (new_standing s.k) → IsSynced g disk → Tells (IsMade g s) place
made_at g s disk place home told stands synced = subst (Tells (IsMade g s)) (sym home) (record {
  told = told;
  stands = stands;
  crash = λ c left. subst (λ (image : List ℕ). HasStanding image (new_standing s.k)) (sym (synced.only told c left)) stands;
})
