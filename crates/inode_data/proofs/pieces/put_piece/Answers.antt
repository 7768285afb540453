use Rattle.std.proofs.Common.{rules, ◌≡◌, true, nat_eq, sym, ap, ◌∙◌, arith}
use Rattle.inode.specs.WriteSets.WriteSetContents.{image_of}
use Rattle.inode.proofs.HeldThere.{no_data}
use Rattle.inode.proofs.Placed.{indirect_placed}
use Rattle.bitmap.proofs.OfResults.{mapped}
use Rattle.inode_data.proofs.Costs.{first_adds, one_adds}
use Rattle.inode_data.proofs.pieces.put_piece.Goals as goal

pub returns-then-index-lt-DIRECT_INDEXES-clause-has_space : goal.returns-then-index-lt-DIRECT_INDEXES-clause-has_space
returns-then-index-lt-DIRECT_INDEXES-clause-has_space c =
    let zero : nat_eq c.args.block 0 ≡ true = (let h = c.if-block-ne0.false in search rules) in
    mapped _ _ (λ done leads blocks tree offset piece write_set write at is has_space.
    let none = ap (λ k. nat_eq k 0) (sym is) ∙ zero in
    leads blocks tree write_set
    (let adds = one_adds c.args.write_set.now.there.geometry (image_of blocks c.args.write_set.now) tree c.args.number
    c.args.inode.now write.has offset piece write.fits none in omega (arith, adds, has_space)))
    c.map_direct.result c.map_direct.ensures.has_space

pub returns-then-index-ge-FIRST_DOUBLE_INDEX-clause-has_space : goal.returns-then-index-ge-FIRST_DOUBLE_INDEX-clause-has_space
returns-then-index-ge-FIRST_DOUBLE_INDEX-clause-has_space c =
    let zero : nat_eq c.args.block 0 ≡ true = (let h = c.if-block-ne0.false in search rules) in
    mapped _ _ (λ done leads blocks tree offset piece write_set write at is.
    leads blocks tree offset piece write_set write at (ap (λ k. nat_eq k 0) (sym is) ∙ zero))
    c.put_piece_double.result c.put_piece_double.ensures.has_space

pub returns-then-inode-eq0-clause-has_space : goal.returns-then-inode-eq0-clause-has_space
returns-then-inode-eq0-clause-has_space c =
    let zero : nat_eq c.args.block 0 ≡ true = (let h = c.if-block-ne0.false in search rules) in
    let no_indirect : nat_eq c.args.inode.now.indirect 0 ≡ true = (let h = c.if-inode-eq0.true in search rules) in
    mapped _ _ (λ done leads blocks tree offset piece write_set write at is has_space.
    let none = ap (λ k. nat_eq k 0) (sym is) ∙ zero in
    leads blocks tree write_set
    (let adds = first_adds c.args.write_set.now.there.geometry (image_of blocks c.args.write_set.now) tree c.args.number
    c.args.inode.now write.has offset piece write.fits none
    (let past = c.if-index-lt-DIRECT_INDEXES.false in omega (arith, past, at))
    (let low = c.if-index-ge-FIRST_DOUBLE_INDEX.false in omega (arith, low, at)) no_indirect in omega (arith, adds, has_space)))
    c.map_first.result c.map_first.ensures.has_space

pub returns-clause-has_space : goal.returns-clause-has_space
returns-clause-has_space c =
    let zero : nat_eq c.args.block 0 ≡ true = (let h = c.if-block-ne0.false in search rules) in
    mapped _ _ (λ done leads blocks tree offset piece write_set write at is has_space.
    let none = ap (λ k. nat_eq k 0) (sym is) ∙ zero in
    leads blocks tree write_set
    (let adds = one_adds c.args.write_set.now.there.geometry (image_of blocks c.args.write_set.now) tree c.args.number
    c.args.inode.now write.has offset piece write.fits none in omega (arith, adds, has_space)))
    c.map_indirect.result c.map_indirect.ensures.has_space

pub returns-in-Ok-clause-ok : goal.returns-in-Ok-clause-ok
returns-in-Ok-clause-ok c = λ yes blocks tree offset piece write_set write at is.
    c.in-Ok.ensures.ok blocks tree offset piece write_set write is

pub returns-then-index-lt-DIRECT_INDEXES-clause-ok : goal.returns-then-index-lt-DIRECT_INDEXES-clause-ok
returns-then-index-lt-DIRECT_INDEXES-clause-ok c =
    let zero : nat_eq c.args.block 0 ≡ true = (let h = c.if-block-ne0.false in search rules) in
    mapped _ _ (λ done leads yes blocks tree offset piece write_set write at is.
    leads yes blocks tree offset piece write_set write at (ap (λ k. nat_eq k 0) (sym is) ∙ zero))
    c.map_direct.result c.map_direct.ensures.ok

pub returns-then-inode-eq0-clause-ok : goal.returns-then-inode-eq0-clause-ok
returns-then-inode-eq0-clause-ok c =
    let zero : nat_eq c.args.block 0 ≡ true = (let h = c.if-block-ne0.false in search rules) in
    mapped _ _ (λ done leads yes blocks tree offset piece write_set write at is.
    leads yes blocks tree offset piece write_set write at (ap (λ k. nat_eq k 0) (sym is) ∙ zero))
    c.map_first.result c.map_first.ensures.ok

pub returns-clause-ok : goal.returns-clause-ok
returns-clause-ok c =
    let zero : nat_eq c.args.block 0 ≡ true = (let h = c.if-block-ne0.false in search rules) in
    mapped _ _ (λ done leads yes blocks tree offset piece write_set write at is.
    leads yes blocks tree offset piece write_set write at (ap (λ k. nat_eq k 0) (sym is) ∙ zero))
    c.map_indirect.result c.map_indirect.ensures.ok

pub returns-then-index-ge-FIRST_DOUBLE_INDEX-clause-ok : goal.returns-then-index-ge-FIRST_DOUBLE_INDEX-clause-ok
returns-then-index-ge-FIRST_DOUBLE_INDEX-clause-ok c =
    let zero : nat_eq c.args.block 0 ≡ true = (let h = c.if-block-ne0.false in search rules) in
    mapped _ _ (λ done leads yes blocks tree offset piece write_set write at is.
    leads yes blocks tree offset piece write_set write at (ap (λ k. nat_eq k 0) (sym is) ∙ zero))
    c.put_piece_double.result c.put_piece_double.ensures.ok

-- the indirect block is a data block
pub returns-then-not-is_data-clause-resumable : goal.returns-then-not-is_data-clause-resumable
returns-then-not-is_data-clause-resumable c = λ blocks tree write_set has.
    no_data c.args.write_set.now.there.geometry c.args.inode.now.indirect (let h = c.if-inode-eq0.false in search rules)
    (search rules)
    (indirect_placed c.args.write_set.now.there (image_of blocks c.args.write_set.now) tree c.args.number c.args.inode.now has)
