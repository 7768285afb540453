-- What is known of the slot of a new name.
use Rattle.std.proofs.Common.{◌≡◌, ℕ, ◌+◌, sym, ap, ◌∙◌, true, false, Bool, nat_le, Some, None}
use Rattle.nfs_spec.specs.Model.Node.{Body}
use Rattle.nfs_spec.specs.Model.Tree.{Tree, free}
use Rattle.nfs_spec.specs.Procedures.Places.{least_free_slot}
use Rattle.procs_names.specs.Links.Rooms.{IsCramped, IsRoomyIn, dirent_adds}

pub no_slot : (tree : Tree) (size : ℕ) (body : Body) (more : ℕ) → None ≡ least_free_slot body
    → IsCramped tree size body more
no_slot tree size body more none = record {
  full = λ slot is. let never : None ≡ Some slot = none ∙ is in cc;
}

pub roomy : (tree : Tree) (size : ℕ) (body : Body) (more slot : ℕ) (has : Bool) → Some slot ≡ least_free_slot body
    → has ≡ nat_le (dirent_adds size slot + more) (free tree) → has ≡ true → IsRoomyIn tree size body more slot
roomy tree size body more slot has is has_space passes = record { least = sym is; has_space = sym has_space ∙ passes }

pub cramped : (tree : Tree) (size : ℕ) (body : Body) (more slot : ℕ) (has : Bool)
    → Some slot ≡ least_free_slot body
    → has ≡ nat_le (dirent_adds size slot + more) (free tree) → has ≡ false → IsCramped tree size body more
cramped tree size body more slot has is has_space fails = record {
  full = λ other there.
      let one : Some slot ≡ Some other = is ∙ there in
      let same : slot ≡ other = cc in
      ap (λ s. nat_le (dirent_adds size s + more) (free tree)) (sym same) ∙ sym has_space ∙ fails;
}
