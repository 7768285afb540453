-- What MKDIR makes, where its tests are passed.
use Rattle.std.proofs.Common.{◌≡◌, ℕ, refl, Bool, ◌||◌, is_some, List, None, arith}
use Rattle.std.specs.FinMap as map
use Rattle.base.specs.declared.TheConstants.{NEW_DIRECTORY_MODE}
use Rattle.nfs_types.specs.Fits.{AreBytes, NewAttributesFit}
use Rattle.nfs_types.specs.declared.attributes.NewAttributes.{NewAttributes}
use Rattle.nfs_spec.proofs.ModelLemmas.Maps.{entries-empty}
use Rattle.nfs_spec.specs.Model.Node.{Node, Directory}
use Rattle.nfs_spec.specs.Model.SetAttr.{first_of_tests}
use Rattle.nfs_spec.specs.Model.Tree.{Tree}
use Rattle.nfs_spec.proofs.ProceduresLemmas.TreeChanges.{passed}
use Rattle.nfs_spec.proofs.ProceduresLemmas.Tests.{neither}
use Rattle.nfs_spec.specs.Procedures.FirstTests.{dentry_tests}
use Rattle.nfs_spec.specs.Procedures.Fresh.{without_size}
use Rattle.nfs_spec.specs.Procedures.MkDir.{is_full}
use Rattle.nfs_spec.specs.Procedures.Places.{is_own_name, named_file}
use Rattle.procs_updates.proofs.CreatesLemmas.Refused.{is_placed, no_names_sound, none_there, unsized}
use Rattle.procs_updates.specs.Creates.Making.{CanMake}
use Rattle.nfs_spec.specs.Procedures.MkDir.{mkdir_tests}

pub can_make_directory : (tree : Tree) (at : ℕ) (directory : Node) (name : List ℕ) (wanted : NewAttributes)
    (allowed : Bool) → first_of_tests (dentry_tests allowed directory name) ≡ None
    → first_of_tests (mkdir_tests name directory (named_file tree directory name)) ≡ None
    → AreBytes name → NewAttributesFit wanted
    → CanMake tree at directory name (without_size wanted) NEW_DIRECTORY_MODE None (Directory map.empty 0 at)
can_make_directory tree at directory name wanted allowed first second bytes fits =
    let named = named_file tree directory name in
    let new = passed (is_own_name name || is_some named) _ _ second in
    let untaken = neither _ _ new.0 in
    let placed = is_placed allowed directory name first untaken.0 in
    record {
      directory_is = placed.directory_is;
      lawful = placed.lawful;
      short = placed.short;
      not_own = placed.not_own;
      absent = none_there named untaken.1;
      bytes = bytes;
      wanted_fits = unsized wanted fits;
      mode_bits = omega arith;
      empty = entries-empty _;
      parent = λ dir. refl;
      not_full = λ dir. (passed (is_full directory) _ _ new.1).0;
      verifier_fits = refl;
      body_sound = no_names_sound;
    }
