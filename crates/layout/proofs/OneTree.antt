-- Two trees that the same blocks stand for are equal.
use Rattle.std.proofs.Common.{◌≡◌, ◌∙◌, sym, ℕ}
use Rattle.std.specs.FinMap.{same_map, nat_cmp-IsAntisymmetric}
use Rattle.std.specs.Cmp.{nat_cmp_total}
use Rattle.disk.specs.Crash.{Image}
use Rattle.nfs_spec.specs.Model.Tree.{Tree}
use Rattle.layout.specs.declared.geometry.Geometry.{Geometry}
use Rattle.layout.specs.Stands.{Stands}

pub one_tree : (g : Geometry) (blocks : Image) (one other : Tree) → Stands g blocks one
    → Stands g blocks other → one ≡ other
one_tree g blocks one other a b =
    let geometry : one.geometry ≡ other.geometry = a.parts.geometry ∙ sym b.parts.geometry in
    let nodes : one.nodes ≡ other.nodes =
    same_map nat_cmp_total nat_cmp-IsAntisymmetric one.nodes other.nodes
    (λ (number : ℕ). a.parts.has.files number ∙ sym (b.parts.has.files number)) in
    λ i. record { geometry = geometry i; nodes = nodes i }
