use Rattle.std.proofs.Common.{◌≡◌, ◌+◌, ◌-◌, ◌++◌, ℕ, List, [], take, replicate, length, length-append}
use Rattle.std.proofs.Common.{append_assoc, vec_len, ap, sym, ◌∙◌, arith}
use Rattle.std.proofs.lemmas.List.{take_all, length-replicate}
use Rattle.base.specs.declared.TheConstants.{BLOCK_BYTES, INODE_BYTES}
use Rattle.layout.specs.Fresh.{root_inode}
use Rattle.layout.specs.InodeForm.{inode_bytes}
use Rattle.layout.proofs.fresh_image.root_block.Goals as goal

-- a block of which the zeros before the root, the root and the zeros behind it are put one after another
abbrev behind : List ℕ
behind = replicate (BLOCK_BYTES - INODE_BYTES - INODE_BYTES) 0

assembled : (root first second all : List ℕ) (len : ℕ) → len ≡ length second → length root ≡ INODE_BYTES
    → first ≡ replicate INODE_BYTES 0 → second ≡ first ++ root
    → all ≡ take BLOCK_BYTES second ++ replicate (BLOCK_BYTES - len) 0
    → all ≡ replicate INODE_BYTES 0 ++ (root ++ behind)
assembled root first second all len counted long zeros with_root filled =
    let whole : second ≡ replicate INODE_BYTES 0 ++ root = with_root ∙ ap (λ l. l ++ root) zeros in
    let n : length second ≡ INODE_BYTES + INODE_BYTES =
    ap length whole ∙ length-append (replicate INODE_BYTES 0) root
    ∙ (λ i. length-replicate {A = ℕ} INODE_BYTES 0 i + long i) in
    filled
    ∙ (λ i. take_all BLOCK_BYTES second (omega (arith, n)) i ++ replicate (BLOCK_BYTES - (counted ∙ n) i) 0)
    ∙ ap (λ l. l ++ behind) whole
    ∙ append_assoc (replicate INODE_BYTES 0) root behind

-- the zeros in an empty list
zeros_put : (items first : List ℕ) (len : ℕ) → len ≡ 0 → items ≡ []
    → first ≡ take INODE_BYTES items ++ replicate (INODE_BYTES - len) 0 → first ≡ replicate INODE_BYTES 0
zeros_put items first len empty none put =
    put ∙ (λ i. take INODE_BYTES (none i) ++ replicate (INODE_BYTES - empty i) 0)

pub returns-clause-bytes : goal.returns-clause-bytes
returns-clause-bytes c =
    let bytes = inode_bytes (root_inode c.args.made) in
    let spelled : c.in_ok-root.root.items ≡ bytes = c.in_ok-root.ensures.bytes
    ∙ ap inode_bytes c.root_inode.ensures in
    let zeros = c.resize.new.self.items in
    let none = c.in_ok-bytes.ensures.items in
    assembled bytes zeros c.extend_from_slice.new.self.items c.resize-2.new.self.items
    (vec_len c.extend_from_slice.new.self) (omega arith)
    (ap length (sym spelled) ∙ c.in_ok-root.ensures.len)
    (zeros_put c.in_ok-bytes.bytes.items zeros (vec_len c.in_ok-bytes.bytes) (omega (arith, ap length none))
    none
    c.in_ok-resize.ensures.items)
    (c.in_ok-extend_from_slice.ensures.items ∙ ap (λ l. zeros ++ l) (c.deref.ensures.value ∙ spelled))
    c.in_ok-resize-2.ensures.items
