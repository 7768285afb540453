-- A block in which an inode was written is a block.
use Rattle.std.proofs.Common.{ℕ, ◌+◌, ◌<◌, inl, inr, sym, subst, List, length, take, drop, Option, Some, None}
use Rattle.std.proofs.Common.{arith, IfSome}
use Rattle.std.proofs.lemmas.List.{get_or-take, get_or-drop, get_or_past, length-take}
use Rattle.std.proofs.lemmas.Bool.{cases_lt}
use Rattle.nfs_types.specs.declared.verifier.Verifier.{Verifier}
use Rattle.nfs_types.specs.Fits.{AreBytes, VerifierFits}
use Rattle.layout.specs.declared.inode.Inode.{Inode}
use Rattle.layout.specs.InodeForm.{inode_bytes, header_bytes, middle_bytes, tail_bytes, number_of_kind}
use Rattle.layout.specs.InodeForm.{verifier_bytes, FitsInode}
use Rattle.objects.specs.Spliced.{spliced}
use Rattle.layout.proofs.FreshBytes.{IsBytes, join, four, eight, fours}

pub taken : {bytes : List ℕ} (k : ℕ) → IsBytes bytes → IsBytes (take k bytes)
taken {bytes} k all = record {
  are = λ index. elim (cases_lt index k) [
    | inl less ↦ subst (λ n. n < 256) (sym (get_or-take k bytes index 0 less)) (all.are index)
    | inr more ↦ subst (λ n. n < 256)
        (sym (get_or_past (take k bytes) index 0 (let long = length-take k bytes in
        omega (arith, long, more)))) (omega arith)
  ];
}

pub dropped : {bytes : List ℕ} (k : ℕ) → IsBytes bytes → IsBytes (drop k bytes)
dropped {bytes} k all =
    record { are = λ index. subst (λ n. n < 256) (sym (get_or-drop k bytes index 0)) (all.are (k + index)) }

pub spliced-bytes : (content bytes : List ℕ) (offset : ℕ) → AreBytes content → IsBytes bytes
    → AreBytes (spliced content offset bytes)
spliced-bytes content bytes offset old new =
    let block : IsBytes content = record { are = old } in
    (join (join (taken offset block) new) (dropped (offset + length bytes) block)).are

verifiers : (verifier : Option Verifier) → IfSome verifier VerifierFits → IsBytes (verifier_bytes verifier)
verifiers None fits = join (four 0) (eight 0)
verifiers (Some v) fits = join (four 1) (record { are = fits.each })

pub inode_are : (i : Inode) → FitsInode i → IsBytes (inode_bytes i)
unfolding header_bytes middle_bytes tail_bytes
inode_are i fits = join (join
    (join (join (join (join (join (four (number_of_kind i.kind)) (four i.mode)) (four i.uid)) (four i.gid))
    (four i.nlink)) (four 0))
    (join (join (join (join (join (eight i.size) (join (four i.atime.seconds) (four i.atime.nanoseconds)))
    (join (four i.mtime.seconds) (four i.mtime.nanoseconds)))
    (join (four i.ctime.seconds) (four i.ctime.nanoseconds))) (eight i.stamp.boot))
    (eight i.stamp.transaction)))
    (join (join (join (join (four i.parent) (verifiers i.verifier fits.verifier)) (fours i.direct))
    (four i.indirect)) (four i.double))
