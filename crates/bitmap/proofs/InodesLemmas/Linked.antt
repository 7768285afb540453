-- The blocks with the block and the inode of a new link hold the tree with it.
use Rattle.std.proofs.Common.{◌≡◌, ℕ, zero, suc, ◌+◌, ◌-◌, ◌<◌, ◌≤◌, sym, ap, ◌∙◌, refl, subst, Bool, true, false}
use Rattle.std.proofs.Common.{cond, not, List, [], ◌∷◌, ◌++◌, length, take, drop, replicate, nat_eq, nat_le}
use Rattle.std.proofs.Common.{append-nil, Some, Ok, arith}
use Rattle.std.proofs.Math.Seq.{drop-append_seam}
use Rattle.std.proofs.lemmas.Bool.{eq-eqb}
use Rattle.std.proofs.lemmas.List.{drop_all}
use Rattle.std.proofs.lemmas.List.Sums.{sum_by-cons}
use Rattle.base.specs.declared.TheConstants.{BLOCK_BYTES, INODE_BYTES}
use Rattle.disk.specs.Crash.{Image}
use Rattle.nfs_types.specs.Fits.{AreBytes}
use Rattle.objects.specs.Spliced.{spliced}
use Rattle.nfs_spec.specs.Model.Node as model
use Rattle.nfs_spec.specs.Model.Tree.{Tree, free, node_at, with_node}
use Rattle.nfs_spec.specs.Model.Tree as trees
use Rattle.nfs_spec.specs.Procedures.Fresh.{IsUnused}
use Rattle.layout.specs.declared.geometry.Geometry.{Geometry}
use Rattle.layout.specs.declared.inode.Inode.{Inode}
use Rattle.layout.specs.declared.inode.InodeKind.TheVariants as kinds
use Rattle.layout.specs.Decode.{IsFile, IsLink, IsOfKind, body_of, bytes_of, content_of, file_of, node_with}
use Rattle.layout.specs.Fields.{is_zeros}
use Rattle.layout.specs.Holds.{Holds, PartsHold}
use Rattle.layout.specs.InodeForm.{SoundInode, inode_bytes}
use Rattle.layout.specs.Owners.{is_used, owned_by}
use Rattle.layout.specs.Parts.{Parts, content_in, parts_of, put, with_bytes, with_inode}
use Rattle.layout.specs.Places.{inode_block, inode_offset}
use Rattle.layout.proofs.FileNumbers.{direct_owned}
use Rattle.layout.proofs.OnGrid.{data_within}
use Rattle.layout.proofs.Spelled.{read_back, written-length}
use Rattle.layout.proofs.Written.{not_same, parts_written}
use Rattle.layout.proofs.WrittenBytes.{inode_are}
use Rattle.bitmap.specs.Bits.{AreOfBytes}
use Rattle.bitmap.specs.NewBlock.{HasTaken, IsFreeBlock, marking}
use Rattle.bitmap.proofs.Gained.{Gains, gained_file}
use Rattle.inode.proofs.WriteSetsLemmas.Marks.{times}
use Rattle.inode.proofs.WriteSetsLemmas.OneFile.{blocks_still}
use Rattle.inode.proofs.WriteSetsLemmas.OtherWrites.{data_written}
use Rattle.bitmap.specs.Inodes.Linked.{IsLinkWritten, filled, linked}
use Rattle.bitmap.proofs.InodesLemmas.Cleared.{on_disk}
use Rattle.bitmap.proofs.InodesLemmas.Made.{either_true, no_use}

-- nothing is taken yet
pub none_taken : (g : Geometry) (image : Image) (tree : Tree) → Holds g image tree → HasTaken g image tree [] image
none_taken g image tree holds = record {
  holds = holds;
  bytes = λ number low. (holds.bytes number low).1;
  parts = refl;
  were_free = tt;
  once = λ number. omega arith;
}

zeros_are : (n : ℕ) → is_zeros (replicate n 0) ≡ true
zeros_are zero = refl
zeros_are (suc n) = zeros_are n

first_part : (xs ys : List ℕ) → take (length xs) (xs ++ ys) ≡ xs
first_part [] ys = refl
first_part (x ∷ xs) ys = ap (λ l. x ∷ l) (first_part xs ys)

-- ---- its inode and its block

module _ (content : Image) (inode : Inode) (target : List ℕ) (block : ℕ) (some : nat_eq block 0 ≡ false) where
  abbrev new_inode : Inode
  new_inode = linked inode (length target) block

  abbrev new_content : Image
  new_content = put content block (filled target)

  pub owns_it : owned_by new_content (Ok (Some new_inode)) ≡ block ∷ []
  owns_it = direct_owned new_content new_inode refl refl ∙ ap {B = List ℕ} (λ t. cond (not t) (block ∷ []) []) some

  its_bytes : bytes_of new_content (take 1 new_inode.direct) ≡ filled target
  unfolding bytes_of
  its_bytes =
      append-nil (content_of new_content block)
      ∙ ap (λ t. cond t (replicate BLOCK_BYTES 0) (new_content block)) some
      ∙ ap (λ t. cond t (filled target) (content block)) (eq-eqb block block refl)

  pub is_link : IsLink new_content new_inode
  is_link = record {
    zeros = ap (λ bytes. is_zeros (drop (length target) bytes)) its_bytes
        ∙ ap is_zeros (drop-append_seam target (replicate (BLOCK_BYTES - length target) 0))
        ∙ zeros_are (BLOCK_BYTES - length target);
  }

  pub has_target : model.Link (take (length target) (bytes_of new_content (take 1 new_inode.direct)))
      ≡ model.Link target
  has_target = ap (λ bytes. model.Link (take (length target) bytes)) its_bytes
      ∙ ap model.Link (first_part target (replicate (BLOCK_BYTES - length target) 0))

module _ (g : Geometry) (base : Image) (tree : Tree) (n : ℕ) (inode : Inode) (target : List ℕ) (block : ℕ)
    (holds : Holds g base tree) (unused : IsUnused tree n) (kind : inode.kind ≡ kinds.Link)
    (free : IsFreeBlock g base block) where
  abbrev was : Parts
  was = parts_of g base

  abbrev new_node_inode : Inode
  new_node_inode = linked inode (length target) block

  abbrev after : Image
  after = put was.content block (filled target)

  abbrev new : Parts
  new = record {
    table = put was.table n (Ok (Some new_node_inode));
    content = after;
    block_bits = marking (block ∷ []) was.block_bits;
    inode_bits = put was.inode_bits n true;
  }

  some : nat_eq block 0 ≡ false
  some = not_same block 0 (λ is. let past = (data_within g block free.lies).0 in omega (arith, past, is))

  pub less : n < g.inodes
  less =
      let same : tree.geometry.inodes ≡ g.inodes =
      ap (λ (one : trees.Geometry). one.inodes) holds.parts.geometry in
      let most = unused.most in omega (arith, most, same)

  at_n : new.table n ≡ Ok (Some new_node_inode)
  at_n = ap (λ b. cond b (Ok (Some new_node_inode)) (was.table n)) (eq-eqb n n refl)

  one_block : (b : ℕ) → times b (block ∷ []) ≡ cond (nat_eq block b) 1 0
  one_block b = sum_by-cons (λ one. cond (nat_eq one b) 1 0) block [] ∙ omega arith

  at_most_one : (b : ℕ) → times b (block ∷ []) ≤ 1
  at_most_one b = few (nat_eq block b) (one_block b)
    where
      few : (t : Bool) → times b (block ∷ []) ≡ cond t 1 0 → times b (block ∷ []) ≤ 1
      few true e = omega (arith, e)
      few false e = omega (arith, e)

  other : (b : ℕ) → times b (block ∷ []) ≡ 0 → (b ≡ block → ⊥)
  other b none is =
      let count = one_block b in
      let here = ap {B = ℕ} (λ (t : Bool). cond t 1 0) (eq-eqb block b (sym is)) in
      omega (arith, none, count, here)

  gains : Gains g base n (block ∷ []) new
  gains = record {
    were_free = (free, tt);
    once = at_most_one;
    table = λ m not. ap (λ b. cond b (Ok (Some new_node_inode)) (was.table m)) (not_same m n not);
    content = λ b hadnt none. ap (λ t. cond t (filled target) (was.content b)) (not_same b block (other b none));
    counted = λ b.
        let old = ap (times b) (no_use g.inodes was.content (was.table n)
        (sym (holds.parts.has.files n) ∙ unused.free)) in
        let now = ap (λ r. times b (owned_by after r)) at_n
        ∙ ap (times b) (owns_it was.content inode target block some) in
        omega (arith, old, now);
    block_bits = λ b. refl;
    inode_bits = λ m not. ap (λ t. cond t true (was.inode_bits m)) (not_same m n not);
    itself = λ low. ap (λ t. cond t true (was.inode_bits n)) (eq-eqb n n refl)
        ∙ sym (either_true (nat_eq n 0) (nat_le g.inodes n) (is_used (new.table n)) (ap is_used at_n));
  }

  rules : IsOfKind g after new_node_inode.kind new_node_inode
  rules = subst (λ k. IsOfKind g after k new_node_inode) (sym kind)
      (is_link was.content inode target block some)

  body : body_of g.inodes after new_node_inode.kind new_node_inode ≡ model.Link target
  body = ap (λ k. body_of g.inodes after k new_node_inode) kind
      ∙ has_target was.content inode target block some

  parts_hold : PartsHold g new (with_node tree n (node_with inode (model.Link target)))
  parts_hold = gained_file g base tree n (block ∷ []) new holds less gains
      (node_with inode (model.Link target)) unused.least
      (subst (IsFile g after) (sym at_n) rules)
      (sym (ap (file_of g.inodes after) at_n ∙ ap (λ (b : model.Body). Some (node_with inode b)) body))

  whole_spliced : (old fresh : List ℕ) → length old ≡ length fresh → spliced old 0 fresh ≡ fresh
  whole_spliced old fresh same =
      ap (λ l. fresh ++ l) (drop_all (0 + length fresh) old (omega (arith, same))) ∙ append-nil fresh

  filled-length : length target ≤ BLOCK_BYTES → length (filled target) ≡ BLOCK_BYTES
  filled-length short = sums target (BLOCK_BYTES - length target) ∙ omega (arith, short)
    where
      sums : (xs : List ℕ) (k : ℕ) → length (xs ++ replicate k 0) ≡ length xs + k
      sums [] zero = refl
      sums [] (suc k) = ap suc (sums [] k) ∙ omega arith
      sums (x ∷ xs) k = ap suc (sums xs k) ∙ omega arith

  filled_are : AreBytes target → AreBytes (filled target)
  filled_are are = both target are (BLOCK_BYTES - length target)
    where
      zeros : (k : ℕ) → AreBytes (replicate k 0)
      zeros zero index = omega arith
      zeros (suc k) zero = omega arith
      zeros (suc k) (suc index) = zeros k index

      both : (xs : List ℕ) → AreBytes xs → (k : ℕ) → AreBytes (xs ++ replicate k 0)
      both [] xs_are k index = zeros k index
      both (x ∷ xs) xs_are k zero = xs_are 0
      both (x ∷ xs) xs_are k (suc index) = both xs (λ i. xs_are (suc i)) k index

  pub link_holds : (middle last : Image) → HasTaken g base tree (block ∷ []) middle
      → SoundInode g new_node_inode → AreBytes target → length target ≤ BLOCK_BYTES
      → ((q : ℕ) → q < g.blocks → length (middle q) ≡ BLOCK_BYTES)
      → IsLinkWritten g n block (filled target) new_node_inode middle last
      → Holds g last (with_node tree n (node_with inode (model.Link target)))
  link_holds middle last taken sound are short long link_written =
      subst (λ image. Holds g image (with_node tree n (node_with inode (model.Link target)))) (sym link_written.is) (record {
        bytes = blocks_still link_written.middle (inode_block g n) (inode_offset n) (inode_bytes new_node_inode) g.blocks
            (λ q low. (link_written.long q low, link_written.marks.bytes still q low)) (inode_are new_node_inode sound.fits)
            (let count = size in omega (arith, count));
        parts = subst (λ parts. PartsHold g parts (with_node tree n (node_with inode (model.Link target))))
            (sym parts_are) parts_hold;
      })
    where
      size : length (inode_bytes new_node_inode) ≡ INODE_BYTES
      size = written-length new_node_inode sound.fits

      still : AreOfBytes g (with_bytes middle block 0 (filled target))
      still q low =
          (blocks_still middle block 0 (filled target) g.blocks (λ k under. (long k under, taken.bytes k under))
          (record { are = filled_are are }) (let count = filled-length short in omega (arith, count)) q low).1

      block_parts : parts_of g (with_bytes middle block 0 (filled target))
          ≡ record (parts_of g middle) { content = put (parts_of g middle).content block (filled target) }
      block_parts =
          data_written g middle block 0 (filled target) g.lawful.1.2 (data_within g block free.lies).0 free.lies
          ∙ (λ i. record (parts_of g middle) {
            content = put (content_in g middle) block
                (whole_spliced (middle block) (filled target)
                (long block (data_within g block free.lies).1 ∙ sym (filled-length short)) i);
          })

      before : parts_of g link_written.middle ≡ record (parts_of g middle) {
        content = put (parts_of g middle).content block (filled target);
        inode_bits = put (parts_of g middle).inode_bits n true;
      }
      before = link_written.marks.parts
          ∙ (λ i. record (block_parts i) { inode_bits = put (block_parts i).inode_bits n true })

      parts_are : parts_of g (with_inode g link_written.middle n new_node_inode) ≡ new
      parts_are =
          parts_written g link_written.middle n (inode_bytes new_node_inode) (Some new_node_inode) g.lawful.1.2 less
          (link_written.long (inode_block g n) (on_disk g n less)) size (read_back new_node_inode sound.fits g sound.good)
          ∙ (λ i. record (before i) { table = put (before i).table n (Ok (Some new_node_inode)) })
          ∙ (λ i. record (taken.parts i) {
            table = put (taken.parts i).table n (Ok (Some new_node_inode));
            content = put (taken.parts i).content block (filled target);
            inode_bits = put (taken.parts i).inode_bits n true;
          })
