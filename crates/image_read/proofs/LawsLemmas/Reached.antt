-- Which directories are reached from the root.
use Rattle.std.proofs.Common.{◌≡◌, ℕ, zero, suc, ◌<◌, ◌≤◌, sym, ◌∙◌, refl}
use Rattle.base.specs.declared.TheConstants.{ROOT}
use Rattle.nfs_spec.specs.Model.Names.{ancestor, parent_in}
use Rattle.nfs_spec.specs.Model.Tree.{Tree, node_at}
use Rattle.image_read.specs.ImageCounts.Iterated.{iterated}
use Rattle.image_read.proofs.ImageCountsLemmas.Doubled.{there_by}

module _ (tree : Tree) where
  abbrev pub up : ℕ → ℕ
  up number = parent_in (node_at tree number)

  pub as_iterated : (steps number : ℕ) → ancestor tree steps number ≡ iterated up steps number
  unfolding iterated
  as_iterated zero number = refl
  as_iterated (suc steps) number = as_iterated steps (up number)

  -- Where the root is its own parent and each parent lies below a bound, a directory is reached just where as many
  -- steps as that bound, or more, lead to the root.
  module _ (size furthest : ℕ) (within : (n : ℕ) → n < size → up n < size) (fixed : up ROOT ≡ ROOT) (past : size ≤ furthest)
      (number : ℕ) (inside : number < size) where
    pub reached_furthest : iterated up furthest number ≡ ROOT → (steps : ℕ) × (ancestor tree steps number ≡ ROOT)
    reached_furthest there = (furthest, as_iterated furthest number ∙ there)

    pub furthest_reached : (steps : ℕ) × (ancestor tree steps number ≡ ROOT) → iterated up furthest number ≡ ROOT
    furthest_reached reached =
        there_by up ROOT number size within inside fixed reached.0 (sym (as_iterated reached.0 number) ∙ reached.1) furthest past
