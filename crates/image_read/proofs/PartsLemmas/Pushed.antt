-- The table of inodes, one after another and block by block.
use Rattle.std.proofs.Common.{◌≡◌, ℕ, ◌+◌, ◌-◌, ◌*◌, ◌/◌, ◌%◌, ◌<◌, inl, inr, sym, ap, ◌∙◌, refl, subst, List, [], ◌∷◌, ◌++◌}
use Rattle.std.proofs.Common.{length, get_or, take, drop, length-append, Option, None, Ok, Err, IsOk, arith}
use Rattle.std.proofs.lemmas.Bool.{cases_lt}
use Rattle.std.proofs.lemmas.List.{get_or-append-add, get_or_append_left}
use Rattle.base.specs.declared.TheConstants.{INODES_PER_BLOCK, INODE_BYTES}
use Rattle.disk.specs.Crash.{Image}
use Rattle.layout.specs.declared.fault.LayoutFault.{LayoutFault}
use Rattle.layout.specs.declared.geometry.Geometry.{Geometry}
use Rattle.layout.specs.declared.inode.Inode.{Inode}
use Rattle.layout.specs.Decode.{inode_at}
use Rattle.layout.specs.Geometry.{table_at}
use Rattle.layout.specs.InodeForm.{read_inode}
use Rattle.image_read.specs.Parts.Table.{ArePushed, HasRefusedInode, HasRefusedInodeIn, IsTable, inode_in}

module _ (g : Geometry) (block : List ℕ) where
  pub none_pushed : (old : List (Option Inode)) → ArePushed g block 0 old old
  none_pushed old = record {
    long = omega arith;
    is_preserved = λ number less. refl;
    each = λ index_within less. absurd (omega (arith, less));
  }

  pub one_pushed : (count : ℕ) (old middle : List (Option Inode)) (one : Option Inode)
      → ArePushed g block count old middle → inode_in g block count ≡ Ok one
      → ArePushed g block (count + 1) old (middle ++ one ∷ [])
  one_pushed count old middle one before is =
      let long = before.long in
      let all = length-append middle (one ∷ []) in
      record {
        long = omega (arith, long, all);
        is_preserved = λ number less.
            get_or_append_left middle (one ∷ []) None number (omega (arith, less, long)) ∙ before.is_preserved number less;
        each = λ index_within less. elim (cases_lt index_within count) [
          | inl sooner ↦
              before.each index_within sooner
              ∙ ap Ok (sym (get_or_append_left middle (one ∷ []) None (length old + index_within) (omega (arith, sooner, long))))
          | inr past ↦
              let at : index_within ≡ count = omega (arith, less, past) in
              let end : length old + index_within ≡ length middle + 0 = omega (arith, at, long) in
              ap (inode_in g block) at ∙ is
              ∙ ap Ok (sym (ap (λ n. get_or (middle ++ one ∷ []) n None) end
              ∙ get_or-append-add middle (one ∷ []) 0 None))
        ];
      }

  -- the layout refuses an inode
  pub no_inode : (index_within : ℕ) (fault : LayoutFault) → index_within < INODES_PER_BLOCK → inode_in g block index_within ≡ Err fault
      → HasRefusedInodeIn g block
  no_inode index_within fault within is = (index_within, within, λ read. not_ok fault (subst (λ r. IsOk r) is read))
    where
      not_ok : (fault : LayoutFault) → IsOk {T = Option Inode} (Err fault) → ⊥
      not_ok fault read = cc

module _ (g : Geometry) (image : Image) where
  pub no_table : IsTable g image 0 []
  no_table = record { long = refl; each = λ number less. absurd (omega (arith, less)) }

  -- an inode is that of its place in its block
  pub there : (index index_within : ℕ) → index_within < INODES_PER_BLOCK
      → inode_at g image (INODES_PER_BLOCK * index + index_within)
      ≡ inode_in g (image (table_at g.blocks g.inodes + index)) index_within
  unfolding inode_at
  there index index_within less =
      let block : (INODES_PER_BLOCK * index + index_within) / INODES_PER_BLOCK ≡ index = omega (arith, less) in
      let offset : (INODES_PER_BLOCK * index + index_within) % INODES_PER_BLOCK ≡ index_within = omega (arith, less) in
      ap (λ n. read_inode g (take INODE_BYTES (drop (INODE_BYTES * ((INODES_PER_BLOCK * index + index_within)
      % INODES_PER_BLOCK)) (image (table_at g.blocks g.inodes + n))))) block
      ∙ ap (λ n. inode_in g (image (table_at g.blocks g.inodes + index)) n) offset

  module _ (index : ℕ) (block : List ℕ) (is : block ≡ image (table_at g.blocks g.inodes + index)) where
    there_too : (index_within : ℕ) → index_within < INODES_PER_BLOCK
        → inode_at g image (INODES_PER_BLOCK * index + index_within) ≡ inode_in g block index_within
    there_too index_within less = there index index_within less ∙ ap (λ b. inode_in g b index_within) (sym is)

    pub block_more : (old new : List (Option Inode)) → IsTable g image (INODES_PER_BLOCK * index) old
        → ArePushed g block INODES_PER_BLOCK old new → IsTable g image (INODES_PER_BLOCK * (index + 1)) new
    block_more old new before pushed =
        let long = before.long in
        let more = pushed.long in
        record {
          long = omega (arith, long, more);
          each = λ number less. elim (cases_lt number (INODES_PER_BLOCK * index)) [
            | inl sooner ↦ before.each number sooner ∙ ap Ok (sym (pushed.is_preserved number (omega (arith, sooner, long))))
            | inr past ↦
                let index_within : ℕ = number - INODES_PER_BLOCK * index in
                let within : index_within < INODES_PER_BLOCK = omega (arith, less, past) in
                let at : number ≡ INODES_PER_BLOCK * index + index_within = omega (arith, past) in
                let end : length old + index_within ≡ number = omega (arith, at, long) in
                ap (inode_at g image) at ∙ there_too index_within within ∙ pushed.each index_within within
                ∙ ap (λ n. Ok (get_or new n None)) end
          ];
        }

    pub refused_there : index < g.inodes / INODES_PER_BLOCK → HasRefusedInodeIn g block → HasRefusedInode g image
    refused_there less refused =
        let within = refused.1 in (
          INODES_PER_BLOCK * index + refused.0,
          omega (arith, less, within),
          λ read. refused.2 (subst (λ r. IsOk r) (there_too refused.0 within) read),
        )
