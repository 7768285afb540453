-- What SYMLINK makes, where its tests are passed.
use Rattle.std.proofs.Common.{◌≡◌, ℕ, refl, Bool, ◌||◌, is_some, nat_eq, nat_lt, length, List, None, arith}
use Rattle.base.specs.declared.TheConstants.{NEW_LINK_MODE, TARGET_BYTES}
use Rattle.nfs_types.specs.Fits.{AreBytes, NewAttributesFit}
use Rattle.nfs_types.specs.declared.attributes.NewAttributes.{NewAttributes}
use Rattle.nfs_spec.specs.Model.Node.{Node, Link}
use Rattle.nfs_spec.specs.Model.SetAttr.{first_of_tests}
use Rattle.nfs_spec.specs.Model.Tree.{Tree}
use Rattle.nfs_spec.proofs.ProceduresLemmas.TreeChanges.{passed}
use Rattle.nfs_spec.proofs.ProceduresLemmas.Tests.{neither}
use Rattle.nfs_spec.specs.Procedures.FirstTests.{dentry_tests}
use Rattle.nfs_spec.specs.Procedures.Fresh.{without_size}
use Rattle.nfs_spec.specs.Procedures.Places.{is_own_name, named_file}
use Rattle.procs_updates.proofs.CreatesLemmas.Refused.{is_placed, none_there, target_sound, unsized}
use Rattle.procs_updates.specs.Creates.Making.{CanMake}
use Rattle.nfs_spec.specs.Procedures.SymLink.{symlink_tests}

pub can_make_link : (tree : Tree) (at : ℕ) (directory : Node) (name : List ℕ) (wanted : NewAttributes)
    (target : List ℕ) (allowed : Bool) → first_of_tests (dentry_tests allowed directory name) ≡ None
    → first_of_tests (symlink_tests name target (named_file tree directory name)) ≡ None
    → AreBytes name → NewAttributesFit wanted → AreBytes target
    → CanMake tree at directory name (without_size wanted) NEW_LINK_MODE None (Link target)
can_make_link tree at directory name wanted target allowed first second bytes fits each =
    let named = named_file tree directory name in
    let new = passed (is_own_name name || is_some named) _ _ second in
    let some = passed (nat_eq (length target) 0) _ _ new.1 in
    let short = passed (nat_lt TARGET_BYTES (length target)) _ _ some.1 in
    let untaken = neither _ _ new.0 in
    let placed = is_placed allowed directory name first untaken.0 in
    record {
      directory_is = placed.directory_is;
      lawful = placed.lawful;
      short = placed.short;
      not_own = placed.not_own;
      absent = none_there named untaken.1;
      bytes = bytes;
      wanted_fits = unsized wanted fits;
      mode_bits = omega arith;
      empty = refl;
      parent = λ no_dir. cc;
      not_full = λ no_dir. cc;
      verifier_fits = refl;
      body_sound = target_sound target each some.0 short.0;
    }
