-- What the parts of an image hold lies at home.
use Rattle.std.proofs.Common.{◌≡◌, ℕ, ◌<◌, ap, ◌∙◌, refl, Bool, true, false, cond, replicate, arith}
use Rattle.std.proofs.Common.{nat_le, nat_lt, take, drop, Err}
use Rattle.std.proofs.lemmas.Bool.{lt-ltb}
use Rattle.base.specs.declared.TheConstants.{BLOCK_BYTES, INODE_BYTES}
use Rattle.disk.specs.Crash.{Image}
use Rattle.layout.specs.declared.fault.LayoutFault.TheVariants.{Range}
use Rattle.layout.specs.declared.geometry.Geometry.{Geometry}
use Rattle.layout.specs.Decode.{inode_at}
use Rattle.layout.specs.Geometry.{data_at}
use Rattle.layout.specs.Homes.{homes_of}
use Rattle.layout.specs.InodeForm.{read_inode}
use Rattle.layout.specs.Parts.{content_in, table_of}
use Rattle.layout.specs.Places.{inode_block, inode_offset, is_data}
use Rattle.layout.proofs.FreshHomes.{home_is}
use Rattle.inode.proofs.AllTests.{all_two, is_less, no_more}

module _ (g : Geometry) (image : Image) where
  abbrev pub homes : Image
  homes = homes_of g.blocks image

  each : (number : ℕ) (lies : Bool) → is_data g number ≡ lies
      → cond lies (homes number) (replicate BLOCK_BYTES 0) ≡ cond lies (image number) (replicate BLOCK_BYTES 0)
  each number true is =
      let both = all_two (nat_le (data_at g.blocks g.inodes) number) (nat_lt number g.blocks) is in
      let from = no_more (data_at g.blocks g.inodes) number both.0 in
      home_is g.blocks number image (omega (arith, from)) (is_less number g.blocks both.1)
  each number false is = refl

  -- data blocks
  pub same_content : content_in g homes ≡ content_in g image
  same_content = λ i number. each number (is_data g number) refl i

  -- and inodes
  pub same_inode : (number : ℕ) → number < g.inodes → inode_at g homes number ≡ inode_at g image number
  unfolding inode_at
  same_inode number less =
      let has_space = g.lawful.1.3 in
      let whole = g.lawful.1.2 in
      ap (λ bytes. read_inode g (take INODE_BYTES (drop (inode_offset number) bytes)))
      (home_is g.blocks (inode_block g number) image (omega arith) (omega (arith, has_space, less, whole)))

  pub in_table : (number : ℕ) → number < g.inodes → table_of g homes number ≡ inode_at g image number
  in_table number less =
      ap (λ b. cond b (inode_at g homes number) (Err Range)) (lt-ltb number g.inodes less) ∙ same_inode number less
