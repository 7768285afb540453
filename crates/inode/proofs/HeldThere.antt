-- The inode of a number, and what it shows, in blocks that hold the files of a tree.
use Rattle.std.proofs.Common.{◌≡◌, ℕ, ◌+◌, ◌<◌, ◌≤◌, sym, ap, ◌∙◌, refl, true, false, cond, List}
use Rattle.std.proofs.Common.{Option, Some, None, Ok, Err, nat_eq, nat_lt, arith}
use Rattle.std.proofs.lemmas.Bool.{lt-ltb}
use Rattle.std.proofs.lemmas.Bool.Decides.{nat_tests}
use Rattle.std.specs.List.{list_all}
use Rattle.base.specs.declared.TheConstants.{INDIRECT_INDEXES}
use Rattle.disk.specs.Crash.{Image}
use Rattle.nfs_spec.specs.Model.Tree.{Tree, node_at}
use Rattle.layout.specs.declared.fault.LayoutFault.TheVariants.{Range}
use Rattle.layout.specs.declared.geometry.Geometry.{Geometry}
use Rattle.layout.specs.declared.inode.Inode.{Inode}
use Rattle.layout.specs.Decode.{file_of, inode_at}
use Rattle.layout.specs.Fields.{count_of, numbers_at}
use Rattle.layout.specs.InodeForm.{is_data_block_or_none}
use Rattle.layout.specs.Objects.IsObject.{inode}
use Rattle.layout.specs.Parts.{content_in}
use Rattle.layout.specs.Places.{is_data}
use Rattle.inode.specs.declared.snap.Snap.{Snap}
use Rattle.inode.specs.declared.suspend.Suspend.{Suspend}
use Rattle.inode.specs.declared.suspend.Suspend.TheVariants as suspend
use Rattle.inode.specs.Over.{HasInode, IsOver, IsResumable, MaySuspend, are_pointers_placed}
use Rattle.inode.specs.Read.{IsAskedInode, NoneStand}
use Rattle.inode.specs.Shown.{IsInodeOf, IsShown, body_in}
use Rattle.inode.specs.Snap.{IsNew}
use Rattle.inode.proofs.BodyThere.{has_body}
use Rattle.inode.proofs.IndirectThere.{indirect_pass}
use Rattle.inode.proofs.InodeThere.{data_of, is_of_kind, is_read, is_sound, long}
use Rattle.inode.proofs.UsedBlocks.{counted}

-- ---- why a reading stops

pub may_suspend : (snap : Snap) (number : ℕ) (why : Suspend) → number < snap.geometry.inodes → IsNew snap why
    → IsAskedInode snap.geometry number why → MaySuspend snap why
may_suspend snap number (suspend.Need addr mode) less new asked = (new, inode number less asked.block asked.offset asked.len)
may_suspend snap number (suspend.Claim block) less new asked = absurd asked
may_suspend snap number suspend.Io less new asked = tt
may_suspend snap number (suspend.NoMemory error) less new asked = tt

pub resumes : (snap : Snap) (why : Suspend) (blocks : Image) (tree : Tree) → NoneStand snap why
    → IsOver snap blocks tree → IsResumable why
resumes snap (suspend.Need addr mode) blocks tree none over = tt
resumes snap (suspend.Claim block) blocks tree none over = tt
resumes snap suspend.Io blocks tree none over = none blocks tree over.holds over.saw
resumes snap (suspend.NoMemory error) blocks tree none over = tt

-- ---- the file of a number

below : (a b : ℕ) → a < b → nat_lt a b ≡ true
below a b less = lt-ltb a b less

not_below : (a b : ℕ) → b ≤ a → nat_lt a b ≡ false
not_below a b past = grind (arith, nat_tests)

pub none_past : (snap : Snap) (blocks : Image) (tree : Tree) (number : ℕ) → snap.geometry.inodes ≤ number
    → IsOver snap blocks tree → node_at tree number ≡ None
none_past snap blocks tree number past over =
    over.holds.parts.has.files number
    ∙ ap (λ b. file_of snap.geometry.inodes (content_in snap.geometry blocks)
    (cond b (inode_at snap.geometry blocks number) (Err Range))) (not_below number snap.geometry.inodes past)

pub there : (snap : Snap) (blocks : Image) (tree : Tree) (number : ℕ) (found : Option Inode)
    → number < snap.geometry.inodes → inode_at snap.geometry blocks number ≡ Ok found → IsOver snap blocks tree
    → node_at tree number ≡ file_of snap.geometry.inodes (content_in snap.geometry blocks) (Ok found)
there snap blocks tree number found less read over =
    over.holds.parts.has.files number
    ∙ ap (file_of snap.geometry.inodes (content_in snap.geometry blocks))
    (ap (λ b. cond b (inode_at snap.geometry blocks number) (Err Range)) (below number snap.geometry.inodes less)
    ∙ read)

pub is_inode_of : (snap : Snap) (blocks : Image) (tree : Tree) (number : ℕ) (found : Option Inode)
    → number < snap.geometry.inodes → inode_at snap.geometry blocks number ≡ Ok found → IsOver snap blocks tree
    → IsInodeOf snap blocks tree number found
is_inode_of snap blocks tree number None less read over = there snap blocks tree number None less read over
is_inode_of snap blocks tree number (Some one) less read over =
    (record { over = over; less = less; there = read }, there snap blocks tree number (Some one) less read over)

-- ---- the blocks that it uses

pub none_used : (content : Image) (indirect : ℕ) → nat_eq indirect 0 ≡ true
    → 0 ≡ cond (nat_eq indirect 0) 0 (count_of (numbers_at INDIRECT_INDEXES 0 (content indirect)) + 1)
none_used content indirect none =
    sym (ap (λ b. cond b 0 (count_of (numbers_at INDIRECT_INDEXES 0 (content indirect)) + 1)) none)

pub some_used : (content : Image) (indirect mapped : ℕ) (bytes numbers : List ℕ) → nat_eq indirect 0 ≡ false
    → bytes ≡ content indirect → numbers ≡ numbers_at INDIRECT_INDEXES 0 bytes → mapped ≡ count_of numbers
    → mapped + 1 ≡ cond (nat_eq indirect 0) 0 (count_of (numbers_at INDIRECT_INDEXES 0 (content indirect)) + 1)
some_used content indirect mapped bytes numbers some is are count =
    ap (λ k. k + 1) (count ∙ ap count_of (are ∙ ap (numbers_at INDIRECT_INDEXES 0) is))
    ∙ sym (ap (λ b. cond b 0 (count_of (numbers_at INDIRECT_INDEXES 0 (content indirect)) + 1)) some)

pub not_placed : (g : Geometry) (blocks : Image) (indirect : ℕ) (bytes : List ℕ) → nat_eq indirect 0 ≡ false
    → bytes ≡ content_in g blocks indirect
    → list_all (is_data_block_or_none g) (numbers_at INDIRECT_INDEXES 0 bytes) ≡ false
    → are_pointers_placed g blocks indirect → ⊥
not_placed g blocks indirect bytes some is refused placed =
    let clash : true ≡ false =
    sym (placed some)
    ∙ ap (λ block. list_all (is_data_block_or_none g) (numbers_at INDIRECT_INDEXES 0 block)) (sym is) ∙ refused in cc

pub no_data : (g : Geometry) (indirect : ℕ) → nat_eq indirect 0 ≡ false → is_data g indirect ≡ false
    → is_data_block_or_none g indirect ≡ true → ⊥
no_data g indirect some none placed =
    let clash : true ≡ false = sym (data_of (nat_eq indirect 0) (is_data g indirect) some placed) ∙ none in cc

module _ (snap : Snap) (blocks : Image) (tree : Tree) (number : ℕ) (one : Inode)
    (has : HasInode snap blocks tree number one) where
  abbrev g : Geometry
  g = snap.geometry

  pub indirect_part_placed : are_pointers_placed g blocks one.indirect
  indirect_part_placed some =
      indirect_pass g (content_in g blocks) one one.kind
      (is_sound g blocks tree number one has.over.holds has.less has.there)
      (is_of_kind g blocks tree number one has.over.holds has.less has.there) some

  pub is_shown : (used : ℕ) → used ≡ counted (content_in g blocks) one
      → IsShown one used (body_in g blocks one)
  is_shown used count =
      has_body g (content_in g blocks) one used
      (long g blocks tree number one has.over.holds has.less has.there)
      (is_read g blocks tree number one has.over.holds has.less has.there).fits.count count one.kind refl
      (is_sound g blocks tree number one has.over.holds has.less has.there)
      (is_of_kind g blocks tree number one has.over.holds has.less has.there)
