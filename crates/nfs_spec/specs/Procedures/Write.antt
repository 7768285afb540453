-- WRITE (RFC 1813, section 3.3.7).
use Rattle.std.specs.Prelude.{ℕ, suc, ◌+◌, ◌-◌, ◌/◌, Bool, cond, not, ◌||◌, List, [], ◌∷◌, ◌++◌, length, take}
use Rattle.std.specs.Prelude.{drop, replicate, nat_eq, nat_lt, Option, Result}
use Rattle.std.specs.FinSet.{FinSet, insert}
use Rattle.std.specs.List.{fold, range_with_len}
use Rattle.std.specs.Ordering.{nat_cmp}
use Rattle.base.specs.declared.TheConstants.{BLOCK_BYTES, LARGEST_FILE, TRANSFER_BYTES}
use Rattle.nfs_types.specs.Verifier.{boot_verifier}
use Rattle.nfs_types.specs.declared.attributes.WeakCacheData.{WeakCacheData}
use Rattle.nfs_types.specs.declared.call.Stability.{Stability}
use Rattle.nfs_types.specs.declared.call.Stability.TheVariants.{Unstable, DataSync, FileSync}
use Rattle.nfs_types.specs.declared.ctx.Credential.{Credential}
use Rattle.nfs_types.specs.declared.ctx.Ctx.{Ctx}
use Rattle.nfs_types.specs.declared.ctx.Moment.{Moment}
use Rattle.nfs_types.specs.declared.reply.Written.{Written}
use Rattle.nfs_types.specs.declared.status.Status.{Status}
use Rattle.nfs_types.specs.declared.status.Status.TheVariants as status
use Rattle.nfs_spec.specs.Model.Node.{Node, Body, Regular, Directory, Link}
use Rattle.nfs_spec.specs.Model.Permissions.{may_write_file}
use Rattle.nfs_spec.specs.Model.SetAttr.{first_of_tests, is_regular}
use Rattle.nfs_spec.specs.Model.Tree.{Tree, with_node}
use Rattle.nfs_spec.specs.Procedures.Changes.{if_space}
use Rattle.nfs_spec.specs.Procedures.FirstTests.{unless}
use Rattle.nfs_spec.specs.Procedures.StepForms.{Acts, Effect}

-- what was written lies over the bytes from the offset on; where the file ended before it, zeros are between
abbrev pub overwritten : ℕ → List ℕ → List ℕ → List ℕ
overwritten offset text bytes =
    take offset bytes ++ replicate (offset - length bytes) 0 ++ text ++ drop (offset + length text) bytes

-- the indexes of the blocks in which some of so many bytes from the offset on lie; there is one at least
abbrev pub touched : ℕ → ℕ → List ℕ
touched offset count =
    range_with_len (offset / BLOCK_BYTES)
    (suc ((offset + count - 1) / BLOCK_BYTES - offset / BLOCK_BYTES))

-- each touched index is mapped
abbrev pub mapped_with : List ℕ → FinSet nat_cmp → FinSet nat_cmp
mapped_with indexes mapped = fold insert mapped indexes

abbrev pub with_text : ℕ → List ℕ → Body → Body
with_text offset text (Regular bytes mapped) =
    Regular (overwritten offset text bytes) (mapped_with (touched offset (length text)) mapped)
with_text offset text (Directory named span parent) = Directory named span parent
with_text offset text (Link target) = Link target

-- the file with what is written; without any byte it stays as it is
abbrev pub written : Moment → ℕ → List ℕ → Node → Node
written moment offset text node =
    cond (nat_eq (length text) 0) node
    (record node { mtime = moment; ctime = moment; body = with_text offset text node.body })

abbrev pub is_wrong_count : ℕ → List ℕ → Bool
is_wrong_count count text = not (nat_eq count (length text)) || nat_lt TRANSFER_BYTES count

abbrev pub write_refusal : Credential → ℕ → ℕ → List ℕ → Node → Option Status
write_refusal caller offset count text node = first_of_tests (
    (not (is_regular node.body), status.Inval)
    ∷ (is_wrong_count count text, status.Inval)
    ∷ (not (may_write_file caller node), status.Acces)
    ∷ (nat_lt LARGEST_FILE (offset + count), status.FBig)
    ∷ [])

-- what is asked to be stable at all is stable as a whole
abbrev pub committed : Stability → Stability
committed Unstable = Unstable
committed DataSync = FileSync
committed FileSync = FileSync

abbrev pub written_reply : Ctx → ℕ → Stability → Written
written_reply ctx count stability = record {
  count = count;
  committed = committed stability;
  verifier = boot_verifier ctx.boot;
}

abbrev pub write : Tree → Ctx → ℕ → ℕ → Stability → List ℕ → ℕ → Node → Result (Effect Written) Status
write tree ctx offset count stability text number node =
    unless (write_refusal ctx.credential offset count text node)
    (if_space tree (record {
      answer = written_reply ctx count stability;
      next = with_node tree number (written ctx.moment offset text node);
    }))

abbrev pub WriteStep : Tree → Ctx → List ℕ → ℕ → ℕ → Stability → List ℕ → Result Written Status
    → WeakCacheData → Tree → Type 0
WriteStep tree ctx file offset count stability text outcome file_attributes next =
    Acts tree file (write tree ctx offset count stability text) outcome file_attributes next
