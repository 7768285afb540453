-- What writes outside the table make of the parts: of a data block its content, of a bitmap's block its bits,
-- and nothing else.
use Rattle.std.proofs.Common.{◌≡◌, ℕ, suc, ◌%◌, ◌<◌, ◌≤◌, inl, inr, sym, ap, ◌∙◌, refl, subst, Bool, true}
use Rattle.std.proofs.Common.{false, cond, ◌&&◌, nat_lt, List, take, drop, replicate, Err, arith}
use Rattle.std.proofs.lemmas.Bool.{eq-eqb, cases_eq, cases_lt}
use Rattle.std.proofs.lemmas.Bool.Decides.{leb_tells}
use Rattle.base.specs.declared.TheConstants.{BLOCK_BYTES, FIRST_HOME_BLOCK, INODES_PER_BLOCK, INODE_BYTES}
use Rattle.disk.specs.Crash.{Image}
use Rattle.layout.specs.declared.fault.LayoutFault.TheVariants.{Range}
use Rattle.layout.specs.declared.geometry.Geometry.{Geometry}
use Rattle.layout.specs.Decode.{inode_at}
use Rattle.layout.specs.InodeForm.{read_inode}
use Rattle.objects.specs.Spliced.{spliced}
use Rattle.layout.specs.Parts.{parts_of, put, table_of, content_in, bits_of, with_bytes}
use Rattle.layout.specs.Geometry.{bitmap_blocks, inode_bitmap_at, table_at, data_at}
use Rattle.layout.specs.Places.{is_data, inode_block, inode_offset}
use Rattle.layout.proofs.Written.{not_same, elsewhere, here, same_bits, same_bits_below}

module _ (g : Geometry) (blocks : Image) (at offset : ℕ) (bytes : List ℕ)
    (whole : g.inodes % INODES_PER_BLOCK ≡ 0) where
  abbrev written : Image
  written = with_bytes blocks at offset bytes

  -- the block isn't of the table
  abbrev IsNoTable : Type 0
  IsNoTable = (m : ℕ) → m < g.inodes → inode_block g m ≡ at → ⊥

  one_inode : IsNoTable → (m : ℕ) (low : Bool) → nat_lt m g.inodes ≡ low
      → cond low (inode_at g written m) (Err Range) ≡ cond low (inode_at g blocks m) (Err Range)
  unfolding inode_at
  one_inode no_table m false is = refl
  one_inode no_table m true is = ap (λ content. read_inode g (take INODE_BYTES (drop (inode_offset m) content)))
      (elsewhere blocks at offset bytes (inode_block g m)
      (no_table m
      (elim (cases_lt m g.inodes) [ inl less ↦ less | inr past ↦ absurd (clash m g.inodes past is) ])))
    where
      clash : (a b : ℕ) → b ≤ a → nat_lt a b ≡ true → ⊥
      clash a b high is = elim
          (leb_tells (suc a) b) [
            | inl less ↦ omega (arith, less.1, high)
            | inr not ↦ (let false_is : true
                ≡ false = sym is ∙ not.0 in cc)
          ]

  same_table : IsNoTable → table_of g written ≡ table_of g blocks
  same_table no_table = λ i m. one_inode no_table m (nat_lt m g.inodes) refl i

  one_block : at < data_at g.blocks g.inodes → (block : ℕ) (lies : Bool) → is_data g block ≡ lies
      → cond lies (written block) (replicate BLOCK_BYTES 0) ≡ cond lies (blocks block) (replicate BLOCK_BYTES 0)
  one_block low block false isnt = refl
  one_block low block true is = elsewhere blocks at offset bytes block (λ same.
      elim (leb_tells (data_at g.blocks g.inodes) block) [
        | inl past ↦ omega (arith, past.1, same, low)
        | inr not ↦ (let false_is : true ≡ false = sym is ∙ ap (λ b. b && nat_lt block g.blocks) not.0 in cc)
      ])

  same_content : at < data_at g.blocks g.inodes → content_in g written ≡ content_in g blocks
  same_content low = λ i block. one_block low block (is_data g block) refl i

  -- ---- a data block

  data_content : is_data g at ≡ true → (block : ℕ) → content_in g written block
      ≡ put (content_in g blocks) at (spliced (blocks at) offset bytes) block
  data_content is block = elim (cases_eq block at) [
    | inl same ↦ subst (λ k. content_in g written k
        ≡ put (content_in g blocks) at (spliced (blocks at) offset bytes) k) (sym same)
        (ap (λ b. cond b (written at) (replicate BLOCK_BYTES 0)) is ∙ here blocks at offset bytes
        ∙ sym (ap (λ b. cond b (spliced (blocks at) offset bytes) (content_in g blocks at))
        (eq-eqb at at refl)))
    | inr not ↦
        ap (λ content. cond (is_data g block) content (replicate BLOCK_BYTES 0))
        (elsewhere blocks at offset bytes block not)
        ∙ sym (ap (λ b. cond b (spliced (blocks at) offset bytes) (content_in g blocks block))
        (not_same block at not))
  ]

  past_table : (data_at g.blocks g.inodes) ≤ at → IsNoTable
  past_table past m less same = omega (arith, past, less, same, whole)

  pub data_written : data_at g.blocks g.inodes ≤ at → is_data g at ≡ true
      → parts_of g written
      ≡ record
      (parts_of g blocks) { content = put (content_in g blocks) at (spliced (blocks at) offset bytes) }
  data_written past is = λ i. record {
    table = same_table (past_table past) i;
    content = λ block. data_content is block i;
    block_bits = same_bits_below blocks at offset bytes FIRST_HOME_BLOCK (bitmap_blocks g.blocks)
        (omega (arith, past)) i;
    inode_bits = same_bits_below blocks at offset bytes (inode_bitmap_at g.blocks) (bitmap_blocks g.inodes)
        (omega (arith, past)) i;
  }

  -- ---- a block of a bitmap

  before_table : at < table_at g.blocks g.inodes → IsNoTable
  before_table low m less same = omega (arith, low, same)

  pub block_bits_written : at < inode_bitmap_at g.blocks
      → parts_of g written
      ≡ record
      (parts_of g blocks) { block_bits = bits_of written FIRST_HOME_BLOCK (bitmap_blocks g.blocks) }
  block_bits_written low = λ i. record {
    table = same_table (before_table (omega (arith, low))) i;
    content = same_content (omega (arith, low)) i;
    block_bits = bits_of written FIRST_HOME_BLOCK (bitmap_blocks g.blocks);
    inode_bits = same_bits blocks at offset bytes (inode_bitmap_at g.blocks) (bitmap_blocks g.inodes) low i;
  }

  pub inode_bits_written : inode_bitmap_at g.blocks ≤ at → at < table_at g.blocks g.inodes
      → parts_of g written
      ≡ record
      (parts_of g blocks) {
        inode_bits = bits_of written (inode_bitmap_at g.blocks)
            (bitmap_blocks g.inodes);
      }
  inode_bits_written past low = λ i. record {
    table = same_table (before_table low) i;
    content = same_content (omega (arith, low)) i;
    block_bits = same_bits_below blocks at offset bytes FIRST_HOME_BLOCK (bitmap_blocks g.blocks) past i;
    inode_bits = bits_of written (inode_bitmap_at g.blocks) (bitmap_blocks g.inodes);
  }
