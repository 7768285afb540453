-- Files of equal handles.
use Rattle.std.proofs.Common.{◌≡◌, ℕ, ◌^◌, ◌<◌, sym, subst, ◌∙◌, arith, List, Ok, Some}
use Rattle.nfs_types.specs.Handle.{handle_bytes}
use Rattle.nfs_spec.specs.Model.Find.{find_file}
use Rattle.nfs_spec.specs.Model.Node.{Node}
use Rattle.nfs_spec.specs.Model.Sound.{Sound}
use Rattle.nfs_spec.specs.Model.Tree.{Tree, node_at}
use Rattle.nfs_spec.proofs.ProceduresLemmas.Stale.{found_is}
use Rattle.nfs_spec.proofs.LivesLemmas.Born.{names_one}
use Rattle.nfs_spec.specs.Lives.Lives.{Birth, CountedRun, HasTree, IsLife}

abbrev pub Named : Type 0
Named = (tree : Tree) (number : ℕ) (node : Node) → 0 < number → number < tree.geometry.inodes
    → number < 2 ^ 32 → node.stamp.boot < 2 ^ 64 → node.stamp.transaction < 2 ^ 64
    → node_at tree number ≡ Some node → find_file tree (handle_bytes number node.stamp) ≡ Ok (number, node)

-- a file of a sound tree is found by its handle
named : Named → (tree : Tree) (number : ℕ) (node : Node) → Sound tree → node_at tree number ≡ Some node
    → find_file tree (handle_bytes number node.stamp) ≡ Ok (number, node)
named law tree number node sound here =
    let file = sound.files number node here in
    let most = file.most in
    let inodes = sound.geometry.most_inodes in
    law tree number node file.least most (omega (arith, most, inodes)) file.itself.stamp.boot
    file.itself.stamp.transaction here

pub one_birth_each : Named → (life : List CountedRun) (at place later behind : ℕ) (one other : Tree)
    (births others : ℕ → Birth) (number again : ℕ) (node file : Node)
    → IsLife life → HasTree life at place one births → HasTree life later behind other others
    → Sound one → Sound other → node_at one number ≡ Some node → node_at other again ≡ Some file
    → handle_bytes number node.stamp ≡ handle_bytes again file.stamp
    → (number ≡ again) × (births number ≡ others again)
one_birth_each law life at place later behind one other births others number again node file is has has_too sound
    sound_too here there same =
    let first = named law one number node sound here in
    let second : find_file other (handle_bytes number node.stamp) ≡ Ok (again, file) =
    subst (λ h. find_file other h ≡ Ok (again, file)) (sym same) (named law other again file sound_too there) in (
      sym (found_is one (handle_bytes number node.stamp) (number, node) first).number
          ∙ (found_is other (handle_bytes number node.stamp) (again, file) second).number,
      names_one life (handle_bytes number node.stamp) at place later behind one other births others (number, node)
          (again, file) is has has_too first second,
    )
