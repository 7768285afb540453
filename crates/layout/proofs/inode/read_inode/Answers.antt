use Rattle.layout.proofs.ReadInode.{free, no_kind, sound, unsound, not_zero}
use Rattle.layout.proofs.inode.read_inode.Goals as goal
use Rattle.layout.proofs.inode.read_inode.Goals.{else-rest_is_zero-via-then-rest_is_zero+else-is_sound}
use Rattle.layout.proofs.inode.read_inode.Goals.{else-rest_is_zero-via-else-rest_is_zero}

pub returns-then-is_zeros : goal.returns-then-is_zeros
returns-then-is_zeros c = free _ _ (cc)

pub returns-in_default : goal.returns-in_default
returns-in_default c = no_kind _ _ (cc) (cc)

pub returns-then-is_sound : goal.returns-then-is_sound
returns-then-is_sound c = sound _ _ c.in-Some.kind _ (cc) (cc) c.fields_of-inode.ensures (cc) (cc)

pub returns-else-rest_is_zero : goal.returns-else-rest_is_zero
returns-else-rest_is_zero c =
    elim c.else-rest_is_zero.branch [
      | else-rest_is_zero-via-then-rest_is_zero+else-is_sound w ↦ unsound _ _ c.in-Some.kind _ (cc) (cc)
          c.fields_of-inode.ensures (cc) (cc)
      | else-rest_is_zero-via-else-rest_is_zero w ↦ not_zero _ _ c.in-Some.kind (cc) (cc) (cc)
    ]
