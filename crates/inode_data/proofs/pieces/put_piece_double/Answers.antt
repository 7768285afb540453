use Rattle.std.proofs.Common.{rules, ℕ, ◌≡◌, true, nat_eq, sym, ap, ◌∙◌, subst, arith}
use Rattle.disk.specs.Crash.{Image}
use Rattle.nfs_spec.specs.Model.Tree.{Tree}
use Rattle.layout.specs.declared.inode.Inode.{Inode}
use Rattle.layout.specs.InodeForm.{is_data_block_or_none}
use Rattle.layout.specs.Parts.{content_in}
use Rattle.inode.specs.declared.snap.Snap.{Snap}
use Rattle.inode.specs.Over.{HasInode, pointer_number_at}
use Rattle.inode.specs.WriteSets.WriteSetContents.{WriteSetContents, image_of}
use Rattle.inode.proofs.HeldThere.{no_data}
use Rattle.inode.proofs.Placed.{double_placed, inner_data, inner_placed}
use Rattle.bitmap.proofs.OfResults.{mapped}
use Rattle.inode_data.specs.Inner.{inner_of}
use Rattle.inode_data.proofs.Costs.{double_adds, inner_adds, one_adds}
use Rattle.inode_data.proofs.Whole.{has_inode}
use Rattle.inode_data.proofs.pieces.put_piece_double.Goals as goal

-- the inner block is that of the index
inner_is : (write_set : WriteSetContents) (snap : Snap) (blocks : Image) (tree : Tree) (number : ℕ) (inode : Inode)
    (inner row index : ℕ) → snap ≡ write_set.there → HasInode write_set.there (image_of blocks write_set) tree number inode
    → ((base : Image) (other : Tree) (file : ℕ) → HasInode snap base other file inode
    → inner ≡ pointer_number_at (content_in snap.geometry base) inode.double row) → row ≡ inner_of index
    → inner ≡ pointer_number_at (content_in write_set.there.geometry (image_of blocks write_set)) inode.double (inner_of index)
inner_is write_set snap blocks tree number inode inner row index there has read at =
    let base = image_of blocks write_set in
    subst (λ (s : Snap). inner ≡ pointer_number_at (content_in s.geometry base) inode.double (inner_of index)) there
    (read base tree number (subst (λ (s : Snap). HasInode s base tree number inode) (sym there) has)
    ∙ ap (pointer_number_at (content_in snap.geometry base) inode.double) at)

pub returns-then-inode-eq0-clause-has_space : goal.returns-then-inode-eq0-clause-has_space
returns-then-inode-eq0-clause-has_space c =
    let no_double : nat_eq c.args.inode.now.double 0 ≡ true = (let h = c.if-inode-eq0.true in search rules) in
    mapped _ _ (λ done leads blocks tree offset piece write_set write at none has_space.
    leads blocks tree write_set
    (let adds = double_adds c.args.write_set.now.there.geometry (image_of blocks c.args.write_set.now) tree c.args.number
    c.args.inode.now write.has offset piece write.fits none (let past = c.requires.past in omega (arith, past, at))
    no_double in omega (arith, adds, has_space)))
    c.map_double.result c.map_double.ensures.has_space

pub returns-then-inner-eq0-clause-ok : goal.returns-then-inner-eq0-clause-ok
returns-then-inner-eq0-clause-ok c =
    let zero : nat_eq c.in-Ok.inner 0 ≡ true = (let h = c.if-inner-eq0.true in search rules) in
    mapped _ _ (λ done leads yes blocks tree offset piece write_set write at none.
    leads yes blocks tree offset piece write_set write at none
    (ap (λ k. nat_eq k 0) (sym (inner_is c.args.write_set.now c.there-2.result.now blocks tree c.args.number
    c.args.inode.now c.in-Ok.inner c.inner_of.result c.args.index c.there-2.ensures.there
    (has_inode c.args.write_set.now blocks tree c.args.number c.args.inode.now write_set write.has) c.in-Ok.ensures.ok
    c.inner_of.ensures.is))
    ∙ zero))
    c.map_first_inner.result c.map_first_inner.ensures.ok

pub returns-then-inner-eq0-clause-has_space : goal.returns-then-inner-eq0-clause-has_space
returns-then-inner-eq0-clause-has_space c =
    let zero : nat_eq c.in-Ok.inner 0 ≡ true = (let h = c.if-inner-eq0.true in search rules) in
    mapped _ _ (λ done leads blocks tree offset piece write_set write at none has_space.
    let no_inner = ap (λ k. nat_eq k 0) (sym (inner_is c.args.write_set.now c.there-2.result.now blocks tree
    c.args.number c.args.inode.now c.in-Ok.inner c.inner_of.result c.args.index c.there-2.ensures.there
    (has_inode c.args.write_set.now blocks tree c.args.number c.args.inode.now write_set write.has) c.in-Ok.ensures.ok
    c.inner_of.ensures.is))
    ∙ zero in
    leads blocks tree write_set
    (let adds = inner_adds c.args.write_set.now.there.geometry (image_of blocks c.args.write_set.now) tree c.args.number
    c.args.inode.now write.has offset piece write.fits none (let past = c.requires.past in omega (arith, past, at))
    (subst (λ k. nat_eq (pointer_number_at (content_in c.args.write_set.now.there.geometry (image_of blocks c.args.write_set.now))
    c.args.inode.now.double (inner_of k)) 0 ≡ true) at no_inner) in omega (arith, adds, has_space)))
    c.map_first_inner.result c.map_first_inner.ensures.has_space

pub returns-clause-ok : goal.returns-clause-ok
returns-clause-ok c =
    mapped _ _ (λ done leads yes blocks tree offset piece write_set write at none.
    leads yes blocks tree offset piece write_set write at none
    (inner_is c.args.write_set.now c.there-2.result.now blocks tree c.args.number c.args.inode.now c.in-Ok.inner
    c.inner_of.result c.args.index c.there-2.ensures.there
    (has_inode c.args.write_set.now blocks tree c.args.number c.args.inode.now write_set write.has) c.in-Ok.ensures.ok
    c.inner_of.ensures.is))
    c.map_inner.result c.map_inner.ensures.ok

pub returns-clause-has_space : goal.returns-clause-has_space
returns-clause-has_space c =
    mapped _ _ (λ done leads blocks tree offset piece write_set write at none has_space.
    leads blocks tree write_set
    (let adds = one_adds c.args.write_set.now.there.geometry (image_of blocks c.args.write_set.now) tree c.args.number
    c.args.inode.now write.has offset piece write.fits none in omega (arith, adds, has_space)))
    c.map_inner.result c.map_inner.ensures.has_space

-- what the inode and its blocks name is a data block
pub returns-then-not-is_data-clause-resumable : goal.returns-then-not-is_data-clause-resumable
returns-then-not-is_data-clause-resumable c = λ blocks tree write_set has.
    no_data c.args.write_set.now.there.geometry c.args.inode.now.double (let h = c.if-inode-eq0.false in search rules)
    (search rules)
    (double_placed c.args.write_set.now.there (image_of blocks c.args.write_set.now) tree c.args.number c.args.inode.now has)

pub returns-then-not-is_data-2-clause-resumable : goal.returns-then-not-is_data-2-clause-resumable
returns-then-not-is_data-2-clause-resumable c = λ blocks tree write_set has.
    let g = c.args.write_set.now.there.geometry in
    let base = image_of blocks c.args.write_set.now in
    let double = c.args.inode.now.double in
    let is = inner_is c.args.write_set.now c.there-2.result.now blocks tree c.args.number c.args.inode.now c.in-Ok.inner
    c.inner_of.result c.args.index c.there-2.ensures.there has c.in-Ok.ensures.ok c.inner_of.ensures.is in
    no_data g c.in-Ok.inner (let h = c.if-inner-eq0.false in search rules) (search rules)
    (ap (is_data_block_or_none g) is
    ∙ inner_data g base double (inner_placed c.args.write_set.now.there base tree c.args.number c.args.inode.now has)
    (inner_of c.args.index))
