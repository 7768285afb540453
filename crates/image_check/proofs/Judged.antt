-- What the passes over an image tell of the trees that it stands for.
use Rattle.std.proofs.Common.{◌≡◌, ℕ, ◌<◌, ◌≤◌, inl, inr, sym, ap, ◌∙◌, refl, subst, true, false, Bool, cond, List}
use Rattle.std.proofs.Common.{count_by, length}
use Rattle.std.proofs.Common.{take, drop, get_or, is_some, replicate, IfSome, IsOk, Option, Some, None, Result, Ok, Err}
use Rattle.std.proofs.Common.{arith}
use Rattle.std.specs.Prelude.{IfErr, IfOk}
use Rattle.std.proofs.lemmas.Bool.{cases_lt}
use Rattle.base.specs.declared.TheConstants.{BLOCK_BYTES, INODE_BYTES}
use Rattle.disk.specs.Crash.{Image}
use Rattle.nfs_types.specs.Fits.{AreBytes}
use Rattle.nfs_spec.specs.Model.Node.{Node}
use Rattle.nfs_spec.specs.Model.Sound.{IsMadeBy}
use Rattle.nfs_spec.specs.Model.Tree.{Tree, node_at}
use Rattle.layout.specs.declared.fault.LayoutFault.{LayoutFault}
use Rattle.layout.specs.declared.geometry.Geometry.{Geometry}
use Rattle.layout.specs.declared.inode.Inode.{Inode}
use Rattle.layout.specs.declared.inode.InodeKind.TheVariants.{Directory}
use Rattle.layout.specs.Decode.{IsFile, body_of, file_of, inode_at, node_with}
use Rattle.layout.specs.Homes.{homes_of}
use Rattle.layout.specs.InodeForm.{SoundInode}
use Rattle.layout.specs.Owners.{IsMarked, owned}
use Rattle.layout.specs.Parts.{content_in, parts_of, table_of}
use Rattle.layout.specs.Places.{inode_block, inode_offset, is_data}
use Rattle.layout.specs.Stands.{Stands}
use Rattle.layout.proofs.FreshBytes.{zero_block}
use Rattle.layout.proofs.Fits.{part-length, read_fits}
use Rattle.layout.proofs.Holding.{holds_of}
use Rattle.dir.proofs.Members.{none_some, same}
use Rattle.image_read.specs.ImageCounts.Tally.{IsOwned}
use Rattle.image_read.specs.Parts.Marks.{AreMarked}
use Rattle.image_read.specs.Parts.Table.{HasRefusedInode}
use Rattle.image_read.proofs.FilesLemmas.AtHome.{in_table, same_content}
use Rattle.image_read.specs.Laws.TreeOf.{HasNames, tree_of}
use Rattle.image_read.specs.Laws.Whole.{IsWhole}
use Rattle.image_read.proofs.LawsLemmas.Made.{files_are, none_past}
use Rattle.image_read.proofs.LawsLemmas.Marks.{not_shared}
use Rattle.image_read.proofs.LawsLemmas.OwnedFit.{used_are}
use Rattle.image_read.proofs.LawsLemmas.Whole.{stands_whole}
use Rattle.image_read.proofs.LawsLemmas.WholeBack.{whole_of}
use Rattle.image_contents.specs.Found.Counted.{IsCounted}
use Rattle.image_contents.proofs.FoundLemmas.Facts.{below, same_option}
use Rattle.image_contents.proofs.FoundLemmas.Linked.{are_linked}
use Rattle.image_contents.proofs.FoundLemmas.Whole.{is_whole}
use Rattle.image_contents.specs.declared.bodies.found.Found.{Found}
use Rattle.image_contents.specs.Bodies.Bodies.{AreAsRead, FitsFound, HasBlocks, IsFound, IsClean, IsSoundIfAny}
use Rattle.image_contents.proofs.FoundLemmas.Counting.{is_counted, is_owned}
use Rattle.image_check.specs.Refused.{IsRefusal}
use Rattle.image_check.specs.Searched.{AreBlocksOf, AreMadeBy, IsJudged, IsNoTree, IsRead, IsSearched, IsTreeBy}
use Rattle.image_check.specs.Searched.{IsTreeWith}
use Rattle.image_check.specs.declared.fault.CheckFault.{CheckFault}
use Rattle.image_check.specs.declared.judgement.Counts.{Counts}
use Rattle.image_check.proofs.Counted.{files_are_counted}
use Rattle.image_check.proofs.Files as files
use Rattle.image_check.proofs.Homes.{blocks_are, in_blocks}
use Rattle.image_check.proofs.Marked.{are_marked, is_marked}
use Rattle.image_check.proofs.Refusing.{as_searched, said_then}
use Rattle.image_check.proofs.SlotBytes.{dropped, taken}

module _ (g : Geometry) (boot : ℕ) (image : Image) where
  abbrev home : Image
  home = homes_of g.blocks image

  abbrev content : Image
  content = content_in g image

  -- the layout refuses an inode
  pub no_table : HasRefusedInode g image → IsNoTree g boot image
  no_table refused tree stands made =
      by_result (table_of g home refused.0) (stands.parts.has.inodes refused.0 refused.1)
      (λ is. refused.2 (subst IsOk (in_table g image refused.0 refused.1) is))
    where
      by_result : (r : Result (Option Inode) LayoutFault) → IsFile g (content_in g home) r → (IsOk r → ⊥) → ⊥
      by_result (Ok o) is not = not refl
      by_result (Err fault) is not = is

  module _ (table : List (Option Inode)) (read : IsRead g image table) where
    long : length table ≡ g.inodes
    long = read.inodes.long

    are : (number : ℕ) → number < g.inodes → table_of g home number ≡ Ok (get_or table number None)
    are number less = in_table g image number less ∙ read.inodes.each number less

    blocks : AreBlocksOf g.blocks home
    blocks = blocks_are g image read.blocks

    content_long : (number : ℕ) → length (content number) ≡ BLOCK_BYTES
    content_long number = by_test (is_data g number) refl
      where
        by_test : (b : Bool) → is_data g number ≡ b
            → length (cond b (image number) (replicate BLOCK_BYTES 0)) ≡ BLOCK_BYTES
        by_test true is = (read.blocks number (in_blocks g number is)).0
        by_test false is = refl

    content_bytes : (number : ℕ) → AreBytes (content number)
    content_bytes number = by_test (is_data g number) refl
      where
        by_test : (b : Bool) → is_data g number ≡ b → AreBytes (cond b (image number) (replicate BLOCK_BYTES 0))
        by_test true is = (read.blocks number (in_blocks g number is)).1
        by_test false is = zero_block.each.are

    sound_at : (number : ℕ) → number < g.inodes → (inode : Inode) → get_or table number None ≡ Some inode
        → SoundInode g inode
    unfolding inode_at
    sound_at number less inode is =
        let has_space = g.lawful.1.3 in
        let whole = g.lawful.1.2 in
        let block = read.blocks (inode_block g number) (omega (arith, less, has_space, whole)) in
        let long = block.0 in
        let bytes = take INODE_BYTES (drop (inode_offset number) (image (inode_block g number))) in
        read_fits g bytes
        (taken INODE_BYTES (drop (inode_offset number) (image (inode_block g number)))
        (dropped (inode_offset number) (image (inode_block g number)) block.1))
        (part-length INODE_BYTES (inode_offset number) (image (inode_block g number)) (omega (arith, long)))
        inode (read.inodes.each number less ∙ ap Ok is)

    sound_if_any : (number : ℕ) → number < g.inodes → IsSoundIfAny g (get_or table number None)
    sound_if_any number less = by_inode_option (get_or table number None) (sound_at number less)
      where
        by_inode_option : (o : Option Inode) → ((inode : Inode) → o ≡ Some inode → SoundInode g inode) → IsSoundIfAny g o
        by_inode_option (Some inode) sound = sound inode refl
        by_inode_option None sound = tt

    -- what the pass over the bodies wants to know
    pub as_read : AreAsRead g content table
    as_read = record { long = content_long; sound = sound_if_any }

    file_at_same : (number : ℕ) → number < g.inodes → IsFile g (content_in g home) (table_of g home number)
        → IsFile g content (Ok (get_or table number None))
    file_at_same number less is =
        subst (λ r. IsFile g content r) (are number less)
        (subst (λ (k : Image). IsFile g k (table_of g home number)) (same_content g image) is)

    has_blocks_at : (number : ℕ) → number < g.inodes → IsFile g content (Ok (get_or table number None))
        → HasBlocks g content (get_or table number None)
    has_blocks_at number less = by_inode_option (get_or table number None) (sound_at number less)
      where
        by_inode_option : (o : Option Inode) → ((inode : Inode) → o ≡ Some inode → SoundInode g inode)
            → IsFile g content (Ok o)
            → HasBlocks g content o
        by_inode_option (Some inode) sound is = files.has_blocks g content inode (sound inode refl) is
        by_inode_option None sound is = tt

    -- the blocks of a file aren't as one file may have them
    pub no_blocks : (((number : ℕ) → number < g.inodes → HasBlocks g content (get_or table number None)) → ⊥)
        → IsNoTree g boot image
    no_blocks not tree stands made =
        not (λ number less. has_blocks_at number less
        (file_at_same number less (stands.parts.has.inodes number less)))

    module _ (found : Found) (fits : FitsFound g found) (is_found : IsFound g content table g.inodes found) where
      found_home : IsFound g (content_in g home) table g.inodes found
      found_home = subst (λ (k : Image). IsFound g k table g.inodes found) (sym (same_content g image)) is_found

      is_preserved : IsOwned (owned g (parts_of g home)) found.owners
      is_preserved = is_owned g home table are found found_home

      counted : IsCounted g home table found.links
      counted = is_counted g home table are long found fits found_home

      -- a block has two owners
      pub no_shared : found.owners.shared ≡ true → IsNoTree g boot image
      no_shared shared tree stands made =
          not_shared g (parts_of g home) found.owners is_preserved fits.owners stands.parts.marked shared

      -- a bitmap doesn't mark what is in use
      pub no_marks : (AreMarked g image found.owners table → ⊥) → IsNoTree g boot image
      no_marks not tree stands made =
          not (are_marked g image table found.owners long are is_preserved fits.owners stands.parts.marked)

      -- ---- the files make no tree

      clean_at : (whole : IsWhole g home) (number : ℕ) → number < g.inodes
          → IsFile g content (Ok (get_or table number None))
          → IsClean g content (get_or table number None)
      clean_at whole number less =
          by_inode_option (get_or table number None) (sound_at number less) (λ inode is kind.
          subst (λ (k : Image). HasNames g k inode) (same_content g image)
          (whole.names number inode (are number less ∙ ap Ok is) kind))
        where
          by_inode_option : (o : Option Inode) → ((inode : Inode) → o ≡ Some inode → SoundInode g inode)
              → ((inode : Inode) → o ≡ Some inode → inode.kind ≡ Directory → HasNames g content inode)
              → IsFile g content (Ok o) → IsClean g content o
          by_inode_option (Some inode) sound names is =
              files.file_is_clean g content inode (sound inode refl) (names inode refl) is
          by_inode_option None sound names is = tt

      found_is_clean : (o : Option ℕ) → found.unclean ≡ o
          → ((number : ℕ) → number < g.inodes → IsClean g content (get_or table number None)) → found.unclean ≡ None
      found_is_clean None is each = is
      found_is_clean (Some number) is each =
          let first = is_found.unclean number is in absurd (first.is (each number first.within))

      made_at : (tree : Tree) → Stands g home tree → IsMadeBy boot tree → AreMadeBy boot table
      made_at tree stands made number less =
          by_inode_option (get_or table number None)
          (stands.parts.has.files number
          ∙ ap (file_of g.inodes (content_in g home)) (are number (omega (arith, less, long))))
        where
          by_inode_option : (o : Option Inode) → node_at tree number ≡ file_of g.inodes (content_in g home) (Ok o)
              → IfSome o (λ inode. inode.stamp.boot ≤ boot)
          by_inode_option (Some inode) is =
              made number (node_with inode (body_of g.inodes (content_in g home) inode.kind inode)) is
          by_inode_option None is = tt

      pub no_tree : (IsTreeBy boot table found → ⊥) → IsNoTree g boot image
      no_tree not tree stands made =
          let whole = whole_of g home tree stands in
          not (record {
            is_clean = found_is_clean found.unclean refl (λ number less. clean_at whole number less
                (file_at_same number less (stands.parts.has.inodes number less)));
            made = made_at tree stands made;
            linked = are_linked g home table found.links blocks counted whole;
          })

      -- ---- the image stands for its tree

      module _ (once : found.owners.shared ≡ false) (marks : AreMarked g image found.owners table)
          (by : IsTreeBy boot table found) where
        marked : IsMarked g (parts_of g home)
        marked = is_marked g image table found.owners long are is_preserved fits.owners once marks

        file_by : (number : ℕ) → number < g.inodes → IsFile g content (Ok (get_or table number None))
        file_by number less =
            by_inode_option (get_or table number None) (sound_at number less) (is_found.blocks number less)
            (is_found.is_clean by.is_clean number less)
          where
            by_inode_option : (o : Option Inode) → ((inode : Inode) → o ≡ Some inode → SoundInode g inode)
                → HasBlocks g content o → IsClean g content o → IsFile g content (Ok o)
            by_inode_option (Some inode) sound has is_clean = files.file_is g content inode (sound inode refl) has is_clean
            by_inode_option None sound has is_clean = tt

        each : (number : ℕ) → number < g.inodes → IsFile g (content_in g home) (table_of g home number)
        each number less =
            subst (λ r. IsFile g (content_in g home) r) (sym (are number less))
            (subst (λ (k : Image). IsFile g k (Ok (get_or table number None))) (sym (same_content g image))
            (file_by number less))

        names : (number : ℕ) (inode : Inode) → table_of g home number ≡ Ok (Some inode) → inode.kind ≡ Directory
            → HasNames g (content_in g home) inode
        names number inode is kind =
            let less = below g home number inode is in
            let entry = same_option (get_or table number None) (Some inode) (sym (are number less) ∙ is) in
            subst (λ (k : Image). HasNames g k inode) (sym (same_content g image))
            (files.names_of_clean g content inode (sound_at number less inode entry) content_bytes kind
            (subst (λ o. IsClean g content o) entry (is_found.is_clean by.is_clean number less)))

        whole : IsWhole g home
        whole = is_whole g home table found.links blocks each names counted by.linked

        stands : Stands g home (tree_of g home)
        stands = stands_whole g home blocks each marked whole

        made : IsMadeBy boot (tree_of g home)
        made number node is = elim (cases_lt number g.inodes) [
          | inl less ↦
              by_inode_option (get_or table number None) (by.made number (omega (arith, less, long)))
              (sym (ap (file_of g.inodes (content_in g home)) (are number less)) ∙ sym (files_are g home number) ∙ is)
          | inr past ↦
              absurd (none_some node (sym (none_past g home number past) ∙ sym (files_are g home number) ∙ is))
        ]
          where
            by_inode_option : (o : Option Inode) → IfSome o (λ inode. inode.stamp.boot ≤ boot)
                → file_of g.inodes (content_in g home) (Ok o) ≡ Some node → node.stamp.boot ≤ boot
            by_inode_option (Some inode) few e =
                subst (λ (n : Node). n.stamp.boot ≤ boot)
                (same (node_with inode (body_of g.inodes (content_in g home) inode.kind inode)) node e) few
            by_inode_option None few e = absurd (none_some node e)

        pub is_tree : (counts : Counts) → counts.files ≡ count_by (λ (o : Option Inode). is_some o) table
            → counts.blocks ≡ found.owners.count → IsTreeWith g boot image counts
        is_tree counts files_is blocks_is = record {
          tree = tree_of g home;
          stands = stands;
          made = made;
          are = record {
            files = files_is ∙ sym (files_are_counted g home table long are);
            blocks = blocks_is ∙ is_preserved.count once
                ∙ sym (used_are g home (tree_of g home) (holds_of g home (tree_of g home) stands));
          };
        }

      -- what is said by the links
      pub judged : found.owners.shared ≡ false → AreMarked g image found.owners table
          → (result : Result Counts CheckFault) → IfOk result (IsJudged boot table found)
          → IfErr result (IsRefusal (IsTreeBy boot table found → ⊥)) → IsSearched g boot image result
      judged once marks (Ok counts) is not = is_tree once marks is.tree counts is.files is.blocks
      judged once marks (Err cause) is not = as_searched g boot image cause (said_then cause no_tree not)
