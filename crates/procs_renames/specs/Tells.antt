-- What is told of a directory behind a call.
use Rattle.std.specs.Prelude.{◌≡◌, Some}
use Rattle.nfs_types.specs.declared.attributes.WeakCacheData.{WeakCacheData}
use Rattle.nfs_spec.specs.Model.Attributes.{before_change}
use Rattle.nfs_spec.specs.Model.Node.{Body}
use Rattle.nfs_spec.specs.Model.Tree.{Tree}
use Rattle.nfs_spec.specs.Procedures.StepForms.{attributes_at}
use Rattle.procs_files.specs.declared.inode_attributes.InodeAttributes.{InodeAttributes}
use Rattle.procs_files.specs.Heads.{node_of}

-- of one that was so before it
abbrev pub IsChangeSince : Tree → InodeAttributes → Body → WeakCacheData → Type 0
IsChangeSince tree inode_attributes body file_attributes = file_attributes ≡ record {
  before = Some (before_change (node_of inode_attributes body));
  after = attributes_at tree inode_attributes.number;
}
