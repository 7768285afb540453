-- What LINK does, by its tests, its slot and its room.
use Rattle.std.proofs.Common.{◌≡◌, ◌≢◌, ℕ, ◌+◌, ◌-◌, ◌<◌, ◌≤◌, sym, ap, subst, ◌∙◌, refl, Bool, true, false, cond}
use Rattle.std.proofs.Common.{not, ◌||◌, nat_le, List, ◌++◌, is_some, Option, Some, None, Result, Ok, Err, arith}
use Rattle.std.proofs.lemmas.Bool.Decides.{nat_tests}
use Rattle.base.specs.declared.TheConstants.{MOST_LINKS}
use Rattle.nfs_types.specs.Fits.{AreBytes}
use Rattle.nfs_types.specs.declared.ctx.Ctx.{Ctx}
use Rattle.nfs_types.specs.declared.status.Status.{Status}
use Rattle.nfs_types.specs.declared.status.Status.TheVariants as status
use Rattle.nfs_spec.specs.Model.Cost.{cost}
use Rattle.nfs_spec.specs.Model.Names.{is_directory}
use Rattle.nfs_spec.specs.Model.Node.{Node, Body, DirentValue}
use Rattle.nfs_spec.specs.Model.SetAttr.{first_of_tests}
use Rattle.nfs_spec.specs.Model.Sound.{Sound, SoundCtx}
use Rattle.nfs_spec.specs.Model.Tree.{Tree, cost_at, free, need, node_at, with_node}
use Rattle.nfs_spec.proofs.ProceduresLemmas.TreeChanges.{Placed, passed}
use Rattle.nfs_spec.proofs.ProceduresLemmas.Sums.{need_of_one}
use Rattle.nfs_spec.proofs.ProceduresLemmas.Soundness.{changed_is}
use Rattle.nfs_spec.proofs.ProceduresLemmas.Tests.{neither, not_within, passes}
use Rattle.nfs_spec.specs.Procedures.Changes.{changed_at, entered, if_dirent, if_space, parent_links}
use Rattle.nfs_spec.specs.Procedures.FirstTests.{is_long, is_no_name, may_change, dentry_tests, unless}
use Rattle.nfs_spec.specs.Procedures.Fresh.{new_dirent}
use Rattle.nfs_spec.specs.Procedures.Link.{linked, with_link}
use Rattle.nfs_spec.specs.Procedures.MkDir.{is_full}
use Rattle.nfs_spec.specs.Procedures.Places.{is_own_name, least_free_slot, named_file}
use Rattle.nfs_spec.specs.Procedures.StepForms.{Effect}
use Rattle.procs_files.specs.Heads.{IsDone, IsFileIn, node_of}
use Rattle.procs_files.specs.declared.inode_attributes.InodeAttributes.{InodeAttributes}
use Rattle.procs_names.proofs.LinksLemmas.Doing.{behind, done_not, done_so, stopped, unless_passed, unless_stopped}
use Rattle.procs_names.proofs.LinksLemmas.Entered.{can_enter_new}
use Rattle.procs_names.proofs.LinksLemmas.Needs.{adds_is, enough, need_put}
use Rattle.procs_names.proofs.LinksLemmas.Shaped.{elsewhere}
use Rattle.procs_names.proofs.LinksLemmas.SoundShapes.{sound_shape}
use Rattle.procs_names.specs.Links.Rooms.{IsCramped, IsRoomyIn, dirent_adds}
use Rattle.procs_names.specs.Links.Shapes.{CanChange, CanEnterAt, IsShaped, IsLookupForChange}
use Rattle.nfs_spec.specs.Procedures.Link.{link_tests}

-- ---- a new name's slot and room

module _ {A : Type 0} (tree : Tree) (size : ℕ) (body : Body) (more number : ℕ) (effect : DirentValue → Effect A)
    (needs : (slot : ℕ) → need tree (effect (record { number = number; slot = slot })).next
    ≡ dirent_adds size slot + more) where
  roomless : (slot : ℕ) → nat_le (dirent_adds size slot + more) (free tree) ≡ false
      → if_space tree (effect (record { number = number; slot = slot })) ≡ Err status.NoSpc
  roomless slot fails =
      let e = effect (record { number = number; slot = slot }) in
      ap (λ b. cond b (Err status.NoSpc) (Ok e))
      (enough tree e.next (dirent_adds size slot + more) false (sym fails) (needs slot))

  pub if_cramped : IsCramped tree size body more
      → if_dirent tree (new_dirent (Some number) (least_free_slot body)) effect ≡ Err status.NoSpc
  if_cramped cramped = by (least_free_slot body) cramped.full
    where
      by : (least : Option ℕ) → ((slot : ℕ) → least ≡ Some slot
          → nat_le (dirent_adds size slot + more) (free tree) ≡ false)
          → if_dirent tree (new_dirent (Some number) least) effect ≡ Err status.NoSpc
      by None full = refl
      by (Some slot) full = roomless slot (full slot refl)

  pub if_roomy : (slot : ℕ) → IsRoomyIn tree size body more slot
      → if_dirent tree (new_dirent (Some number) (least_free_slot body)) effect
      ≡ Ok (effect (record { number = number; slot = slot }))
  if_roomy slot roomy =
      let e = effect (record { number = number; slot = slot }) in
      ap (λ least. if_dirent tree (new_dirent (Some number) least) effect) roomy.least
      ∙ ap (λ b. cond b (Err status.NoSpc) (Ok e))
      (enough tree e.next (dirent_adds size slot + more) true (sym roomy.has_space) (needs slot))

-- ---- the place of a name that passed its tests

pub is_placed : (allowed : Bool) (directory : Node) (name : List ℕ)
    → first_of_tests (dentry_tests allowed directory name) ≡ None → is_own_name name ≡ false
    → Placed directory name
is_placed allowed directory name none own =
    let kind = passed (not (is_directory directory.body)) _ _ none in
    let lawful = passed (is_no_name name) _ _ kind.1 in
    let short = passed (is_long name) _ _ lawful.1 in
    record {
      directory_is = passes _ kind.0;
      lawful = lawful.0;
      short = short.0;
      not_own = own;
    }

within : (a b : ℕ) → nat_le a b ≡ true → a ≤ b
within a b e = grind (arith, nat_tests, e)

none_found : (file : Option (ℕ × Node)) → is_some file ≡ false → file ≡ None
none_found None e = refl
none_found (Some file) e = cc

-- ---- the whole

module _ (stands : Tree → Type 0) (tree : Tree) (good : Sound tree) (ctx : Ctx) (now : SoundCtx ctx)
    (name : List ℕ) (bytes : AreBytes name) (file : InodeAttributes) (body : Body) (is : IsFileIn tree file body)
    (inode_attributes : InodeAttributes) (inside : Body) (at : IsFileIn tree inode_attributes inside) where
  abbrev node : Node
  node = node_of file body

  abbrev directory : Node
  directory = node_of inode_attributes inside

  abbrev named : Option (ℕ × Node)
  named = named_file tree directory name

  abbrev dirent : ℕ → DirentValue
  dirent slot = record { number = file.number; slot = slot }

  abbrev linking : DirentValue → Effect (Unit {0})
  linking = with_link tree ctx.moment name file.number node inode_attributes.number

  abbrev act : Result (Effect (Unit {0})) Status
  act = if_dirent tree (new_dirent (Some file.number) (least_free_slot inside)) linking

  abbrev effect : Result (Effect (Unit {0})) Status
  effect = unless (first_of_tests (dentry_tests (may_change ctx.credential directory) directory name
      ++ link_tests name node named)) act

  pub link_stopped : (why : Status) → IsLookupForChange tree ctx.credential directory name (Err why) → stands tree
      → IsDone stands tree effect (Err why)
  link_stopped why first still =
      done_not stands tree effect why
      (unless_stopped (first_of_tests ((dentry_tests (may_change ctx.credential directory) directory name) ++ link_tests name node named)) why act (stopped (dentry_tests (may_change ctx.credential directory) directory name) (link_tests name node named) why first)) still

  module _ (found : Option InodeAttributes) (first : IsLookupForChange tree ctx.credential directory name (Ok found)) where
    pub link_refused : (why : Status) → first_of_tests (link_tests name node named) ≡ Some why → stands tree
        → IsDone stands tree effect (Err why)
    link_refused why second still =
        done_not stands tree effect why
        (unless_stopped (first_of_tests ((dentry_tests (may_change ctx.credential directory) directory name) ++ link_tests name node named)) why act (behind (dentry_tests (may_change ctx.credential directory) directory name) (link_tests name node named) first.0 ∙ second)) still

    module _ (second : first_of_tests (link_tests name node named) ≡ None) where
      no_directory : is_directory body ≡ false
      no_directory = (passed (is_directory body) _ _ second).0

      untaken : (is_own_name name ≡ false) × (is_some named ≡ false)
      untaken = neither _ _ (passed (is_own_name name || is_some named) _ _
          (passed (is_directory body) _ _ second).1).0

      not_full : is_full node ≡ false
      not_full = (passed (is_full node) _ _ (passed (is_own_name name || is_some named) _ _
          (passed (is_directory body) _ _ second).1).1).0

      placed : Placed directory name
      placed = is_placed (may_change ctx.credential directory) directory name first.0 untaken.0

      apart : file.number ≢ inode_attributes.number
      apart same =
          let one : Some node ≡ Some directory = sym is.there ∙ ap (node_at tree) same ∙ at.there in
          let never : false ≡ true =
          sym no_directory ∙ ap (λ n. is_directory n.body) (by one) ∙ placed.directory_is in cc
        where
          by : Some node ≡ Some directory → node ≡ directory
          by e = cc

      passes_tests : effect ≡ act
      passes_tests = unless_passed (first_of_tests ((dentry_tests (may_change ctx.credential directory) directory name) ++ link_tests name node named)) act (behind (dentry_tests (may_change ctx.credential directory) directory name) (link_tests name node named) first.0 ∙ second)

      module _ (slot : ℕ) where
        abbrev more : Node → Node
        more = entered ctx.moment name (dirent slot) body

        abbrev middle : Tree
        middle = changed_at tree inode_attributes.number more

        there_still : node_at middle file.number ≡ Some node
        there_still = elsewhere tree inode_attributes.number file.number more apart ∙ is.there

        needs : need tree (linking (dirent slot)).next ≡ dirent_adds inode_attributes.size slot + 0
        needs =
            let first_is = changed_is tree inode_attributes.number more directory at.there in
            let leads : (linking (dirent slot)).next
            ≡ with_node (with_node tree inode_attributes.number (more directory)) file.number (linked ctx.moment node) =
            changed_is middle file.number (linked ctx.moment) node there_still
            ∙ ap (λ t. with_node t file.number (linked ctx.moment node)) first_is in
            let one = need_of_one tree inode_attributes.number directory (more directory) at.there in
            let two = need_put tree (with_node tree inode_attributes.number (more directory)) file.number (Some node)
            (linked ctx.moment node) (ap (λ t. node_at t file.number) (sym first_is) ∙ there_still) in
            let old : cost body - cost_at (node_at tree file.number) ≡ cost body - cost body =
            ap (λ o. cost body - cost_at o) is.there in
            let adds_so = adds_is inode_attributes inside name (dirent slot) at.fits placed.directory_is in
            let sum = ap (need tree) leads in
            omega (arith, one, two, old, adds_so, sum)

        module _ (roomy : IsRoomyIn tree inode_attributes.size inside 0 slot) where
          enters : CanEnterAt tree ctx.moment inode_attributes.number name (dirent slot) body
          enters =
              let mine = sound_shape tree good file.number node is.there in
              let there = good.files file.number node is.there in
              let own = (sound_shape tree good inode_attributes.number directory at.there).nlink in
              let none : parent_links body ≡ 0 = ap (λ b. cond b 1 0) no_directory in
              let adds_so = adds_is inode_attributes inside name (dirent slot) at.fits placed.directory_is in
              let has_space = roomy.has_space in
              let fits : dirent_adds inode_attributes.size slot + 0 ≤ free tree = within _ _ has_space in
              can_enter_new tree good inode_attributes.number directory at.there ctx.moment now.moment name placed bytes
              (none_found named untaken.1) (dirent slot) roomy.least there.least there.most body
              (omega (arith, own, none)) (omega (arith, adds_so, fits))

          pub can_be_entered : CanEnterAt tree ctx.moment inode_attributes.number name (dirent slot) body
          can_be_entered = enters

          pub can_be_linked : CanChange middle file.number (linked ctx.moment)
          can_be_linked other there =
              let one : Some node ≡ Some other = sym there_still ∙ there in
              let same : node ≡ other = cc in
              let geometry = ap (λ t. t.geometry.inodes) (changed_is tree inode_attributes.number more directory at.there) in
              let mine = sound_shape tree good file.number node is.there in
              let full = not_full in
              let less : file.nlink < MOST_LINKS = not_within MOST_LINKS file.nlink full in
              let shaped : IsShaped tree.geometry.inodes (linked ctx.moment node) = record {
                mode = mine.mode;
                uid = mine.uid;
                gid = mine.gid;
                linked = omega arith;
                nlink = omega (arith, less);
                atime = mine.atime;
                mtime = mine.mtime;
                ctime = now.moment;
                stamp = mine.stamp;
                verifier = mine.verifier;
                directory = λ dir. let never : true ≡ false = sym dir ∙ no_directory in cc;
              } in
              subst (λ n. IsShaped middle.geometry.inodes (linked ctx.moment n)) same
              (subst (λ i. IsShaped i (linked ctx.moment node)) (sym geometry) shaped)

      pub link_done : (slot : ℕ) → IsRoomyIn tree inode_attributes.size inside 0 slot → stands (linking (dirent slot)).next
          → IsDone stands tree effect (Ok tt)
      link_done slot roomy last =
          done_so stands tree effect (linking (dirent slot))
          (passes_tests ∙ if_roomy tree inode_attributes.size inside 0 file.number linking needs slot roomy) last

      pub link_cramped : IsCramped tree inode_attributes.size inside 0 → stands tree
          → IsDone stands tree effect (Err status.NoSpc)
      link_cramped cramped still =
          done_not stands tree effect status.NoSpc
          (passes_tests ∙ if_cramped tree inode_attributes.size inside 0 file.number linking needs cramped) still
