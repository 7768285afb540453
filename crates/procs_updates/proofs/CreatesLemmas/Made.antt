-- What the making of a file does, by its tests, its number, its slot and its room.
use Rattle.std.proofs.Common.{◌≡◌, ◌≢◌, ℕ, ◌+◌, ◌-◌, ◌<◌, ◌≤◌, sym, ap, subst, ◌∙◌, refl, true, false, cond}
use Rattle.std.proofs.Common.{nat_le, List, Option, Some, None, Result, Ok, Err, arith}
use Rattle.std.proofs.lemmas.Bool.Decides.{nat_tests}
use Rattle.base.specs.declared.TheConstants.{MOST_LINKS}
use Rattle.nfs_types.specs.declared.attributes.NewAttributes.{NewAttributes}
use Rattle.nfs_types.specs.declared.ctx.Ctx.{Ctx}
use Rattle.nfs_types.specs.declared.reply.Created.{Created}
use Rattle.nfs_types.specs.declared.status.Status.{Status}
use Rattle.nfs_types.specs.declared.status.Status.TheVariants as status
use Rattle.nfs_types.specs.declared.verifier.Verifier.{Verifier}
use Rattle.nfs_spec.specs.Model.Cost.{cost}
use Rattle.nfs_spec.specs.Model.Node.{Node, Body, DirentValue}
use Rattle.nfs_spec.specs.Model.SetAttr.{refusal, with_attributes, with_length}
use Rattle.nfs_spec.specs.Model.Sound.{Sound, SoundCtx}
use Rattle.nfs_spec.specs.Model.Tree.{Tree, cost_at, free, need, node_at, with_node}
use Rattle.nfs_spec.proofs.ProceduresLemmas.TreeChanges.{Placed}
use Rattle.nfs_spec.proofs.ProceduresLemmas.Numbers.{new_number}
use Rattle.nfs_spec.proofs.ProceduresLemmas.UsedWithin.{used_within}
use Rattle.nfs_spec.proofs.ProceduresLemmas.Soundness.{changed_is, few_links, links_of_directory, make_sound, parent_links_is}
use Rattle.nfs_spec.proofs.ProceduresLemmas.Sums.{need_of_one}
use Rattle.nfs_spec.specs.Procedures.Changes.{changed_at, entered, if_dirent, if_space, lacks_space, parent_links}
use Rattle.nfs_spec.specs.Procedures.Fresh.{IsNewNumber, IsUnused, created, fresh, made, make, new_dirent, with_new}
use Rattle.nfs_spec.specs.Procedures.Places.{least_free_slot}
use Rattle.nfs_spec.specs.Procedures.StepForms.{Effect}
use Rattle.procs_files.specs.Writable.{SoundInodeAttributes, headed}
use Rattle.procs_files.specs.Heads.{IsBodyOf, IsDone, IsFileIn, bare, node_of}
use Rattle.procs_files.specs.declared.inode_attributes.InodeAttributes.{InodeAttributes}
use Rattle.procs_names.proofs.LinksLemmas.Doing.{done_not, done_so, unless_passed, unless_stopped}
use Rattle.procs_names.proofs.LinksLemmas.Entered.{can_enter_new}
use Rattle.procs_names.proofs.LinksLemmas.Needs.{adds_is, enough, need_put}
use Rattle.procs_names.proofs.LinksLemmas.Shaped.{elsewhere, same_inodes, shaped_inode_attributes}
use Rattle.procs_names.proofs.LinksLemmas.SoundShapes.{sound_shape}
use Rattle.procs_names.specs.Links.Rooms.{IsCramped, IsRoomyIn, dirent_adds}
use Rattle.procs_names.specs.Links.Shapes.{CanEnterAt, IsShaped}
use Rattle.procs_updates.proofs.WritesLemmas.Touched.{headed_fits, length_alike, put_there}
use Rattle.procs_updates.specs.Writes.Acting.{set_inode_attributes}
use Rattle.procs_updates.proofs.CreatesLemmas.Added.{entered_alike, refusal_by_kind, sized_cost, sized_kind}
use Rattle.procs_updates.specs.Creates.Making.{CanMake, CanMakeIn, IsFresh, IsMade}

-- ---- a new name's slot and room

module _ {A : Type 0} (tree : Tree) (size : ℕ) (body : Body) (more number : ℕ) (effect : DirentValue → Effect A)
    (needs : (slot : ℕ) → need tree (effect (record { number = number; slot = slot })).next
    ≡ dirent_adds size slot + more) where
  roomless : (slot : ℕ) → nat_le (dirent_adds size slot + more) (free tree) ≡ false
      → if_space tree (effect (record { number = number; slot = slot })) ≡ Err status.NoSpc
  roomless slot fails =
      let e = effect (record { number = number; slot = slot }) in
      ap (λ b. cond b (Err status.NoSpc) (Ok e))
      (enough tree e.next (dirent_adds size slot + more) false (sym fails) (needs slot))

  if_cramped : IsCramped tree size body more
      → if_dirent tree (new_dirent (Some number) (least_free_slot body)) effect ≡ Err status.NoSpc
  if_cramped cramped = by (least_free_slot body) cramped.full
    where
      by : (least : Option ℕ) → ((slot : ℕ) → least ≡ Some slot
          → nat_le (dirent_adds size slot + more) (free tree) ≡ false)
          → if_dirent tree (new_dirent (Some number) least) effect ≡ Err status.NoSpc
      by None full = refl
      by (Some slot) full = roomless slot (full slot refl)

  space_suffices : (slot : ℕ) → IsRoomyIn tree size body more slot
      → lacks_space tree (effect (record { number = number; slot = slot })).next ≡ false
  space_suffices slot roomy =
      enough tree (effect (record { number = number; slot = slot })).next (dirent_adds size slot + more) true
      (sym roomy.has_space) (needs slot)

  if_roomy : (slot : ℕ) → IsRoomyIn tree size body more slot
      → if_dirent tree (new_dirent (Some number) (least_free_slot body)) effect
      ≡ Ok (effect (record { number = number; slot = slot }))
  if_roomy slot roomy =
      let e = effect (record { number = number; slot = slot }) in
      ap (λ least. if_dirent tree (new_dirent (Some number) least) effect) roomy.least
      ∙ ap (λ b. cond b (Err status.NoSpc) (Ok e)) (space_suffices slot roomy)

within : (a b : ℕ) → nat_le a b ≡ true → a ≤ b
within a b e = grind (arith, nat_tests, e)

-- ---- the whole

module _ (tree : Tree) (good : Sound tree) (ctx : Ctx) (now : SoundCtx ctx) (at : InodeAttributes) (inside : Body)
    (here : IsFileIn tree at inside) (name : List ℕ) (wanted : NewAttributes) (blank : InodeAttributes) (target : List ℕ)
    (mode : ℕ) (verifier : Option Verifier) (body : Body) (is : IsFresh ctx blank target mode verifier body)
    (can : CanMake tree at.number (node_of at inside) name wanted mode verifier body) where
  abbrev directory : Node
  directory = node_of at inside

  abbrev first : Node
  first = fresh ctx mode verifier body

  abbrev node : Node
  node = made ctx wanted first

  abbrev act : Option ℕ → Result (Effect Created) Status
  act new = if_dirent tree (new_dirent new (least_free_slot inside)) (with_new tree ctx at.number name node)

  abbrev effect : Option ℕ → Result (Effect Created) Status
  effect new = make tree ctx new at.number directory name wanted first

  tests : refusal ctx wanted None (bare blank) ≡ refusal ctx wanted None first
  tests = refusal_by_kind ctx wanted blank body is.fits.kind ∙ ap (refusal ctx wanted None) is.is

  pub make_refused : (stands : Tree → Type 0) (why : Status) → refusal ctx wanted None (bare blank) ≡ Some why
      → stands tree → IsMade stands tree effect (Err why)
  make_refused stands why tested still =
      let number = new_number tree in
      record {
        new = number.new;
        is_new = number.is;
        done = done_not stands tree (effect number.new) why
            (unless_stopped (refusal ctx wanted None first) why (act number.new) (sym tests ∙ tested)) still;
      }

  module _ (tested : refusal ctx wanted None (bare blank) ≡ None) where
    goes_on : (new : Option ℕ) → effect new ≡ act new
    goes_on new = unless_passed (refusal ctx wanted None first) (act new) (sym tests ∙ tested)

    pub make_unnumbered : (stands : Tree → Type 0) → IsNewNumber tree None → stands tree
        → IsMade stands tree effect (Err status.NoSpc)
    make_unnumbered stands none still = record {
      new = None;
      is_new = none;
      done = done_not stands tree (effect None) status.NoSpc (goes_on None) still;
    }

    module _ (number : ℕ) (unused : IsUnused tree number) (more : ℕ) (costs : more ≡ cost body) where
      abbrev dirent : ℕ → DirentValue
      dirent slot = record { number = number; slot = slot }

      abbrev then : DirentValue → Effect Created
      then = with_new tree ctx at.number name node

      apart : number ≢ at.number
      apart same =
          let never : None ≡ Some directory = sym unused.free ∙ ap (node_at tree) same ∙ here.there in cc

      same_cost : cost node.body ≡ cost body
      same_cost = subst (λ b. cost (with_length wanted.size b) ≡ cost b) is.first
          (sized_cost blank target wanted.size)

      needs : (slot : ℕ) → need tree (then (dirent slot)).next ≡ dirent_adds at.size slot + more
      needs slot =
          let change : Node → Node = entered ctx.moment name (dirent slot) node.body in
          let first_is = changed_is tree at.number change directory here.there in
          let none : node_at (changed_at tree at.number change) number ≡ None =
          elsewhere tree at.number number change apart ∙ unused.free in
          let one = need_of_one tree at.number directory (change directory) here.there in
          let two = need_put tree (changed_at tree at.number change) number None node none in
          let one_is = ap (need tree) first_is in
          let old : cost node.body - cost_at (node_at tree number) ≡ cost node.body - 0 =
          ap (λ o. cost node.body - cost_at o) unused.free in
          let adds_so = adds_is at inside name (dirent slot) here.fits can.directory_is in
          let same = same_cost in
          omega (arith, one, two, one_is, old, adds_so, same, costs)

      pub make_cramped : (stands : Tree → Type 0) → IsCramped tree at.size inside more → stands tree
          → IsMade stands tree effect (Err status.NoSpc)
      make_cramped stands cramped still = record {
        new = Some number;
        is_new = unused;
        done = done_not stands tree (effect (Some number)) status.NoSpc
            (goes_on (Some number) ∙ if_cramped tree at.size inside more number then needs cramped) still;
      }

      module _ (slot : ℕ) (roomy : IsRoomyIn tree at.size inside more slot) where
        abbrev inode_attributes : InodeAttributes
        inode_attributes = set_inode_attributes ctx.moment wanted (record blank { number = number })

        abbrev sized : Body
        sized = with_length wanted.size body

        abbrev change : Node → Node
        change = entered ctx.moment name (dirent slot) body

        abbrev middle : Tree
        middle = changed_at tree at.number change

        placed : Placed directory name
        placed = record {
          directory_is = can.directory_is;
          lawful = can.lawful;
          short = can.short;
          not_own = can.not_own;
        }

        next_is : (then (dirent slot)).next ≡ with_node middle number node
        next_is = ap (λ (c : Node → Node). with_node (changed_at tree at.number c) number node)
            (entered_alike ctx.moment name (dirent slot) node.body body (sized_kind wanted.size body))

        next_sound : Sound (then (dirent slot)).next
        next_sound = make_sound tree ctx (Unit {0}) (then (dirent slot)).next good now tt (record {
          at = at.number;
          directory = directory;
          name = name;
          wanted = wanted;
          mode = mode;
          verifier = verifier;
          body = body;
          dirent = dirent slot;
          stands = here.there;
          placed = placed;
          absent = can.absent;
          unused = unused;
          slot = roomy.least;
          tested = sym tests ∙ tested;
          leads = refl;
          has_space = space_suffices tree at.size inside more number then needs slot roomy;
          mode_bits = can.mode_bits;
          empty = can.empty;
          parent = can.parent;
          not_full = can.not_full;
          name_bounds = λ _. can.bytes;
          bounds = λ _. can.wanted_fits;
          verifier_bounds = λ _. can.verifier_fits;
          body_bounds = λ _. can.body_sound;
        })

        node_is : node_of inode_attributes sized ≡ node
        node_is = ap (with_attributes ctx.moment wanted) is.is

        node_shaped : IsShaped middle.geometry.inodes node
        node_shaped = sound_shape (with_node middle number node) (subst Sound next_is next_sound) number node
            (put_there middle number node)

        inode_attributes_sound : SoundInodeAttributes middle.geometry.inodes inode_attributes
        inode_attributes_sound =
            let alike = length_alike wanted.size body in
            shaped_inode_attributes middle.geometry.inodes inode_attributes sized (alike.kind ∙ is.fits.kind)
            (alike.parent ∙ is.fits.parent)
            (subst (IsShaped middle.geometry.inodes) (sym node_is) node_shaped)

        enough_left : cost body ≤ free middle
        enough_left =
            let first_is = changed_is tree at.number change directory here.there in
            let one = need_of_one tree at.number directory (change directory) here.there in
            let one_is = ap (need tree) first_is in
            let adds_so = adds_is at inside name (dirent slot) here.fits can.directory_is in
            let uses = used_within tree middle in
            let fits = within _ _ roomy.has_space in
            let same = ap (λ g. g.data_blocks) (same_inodes tree at.number change) in
            omega (arith, one, one_is, adds_so, uses, fits, same, costs)

        pub can_enter : CanEnterAt tree ctx.moment at.number name (dirent slot) body
        can_enter =
            let own = (sound_shape tree good at.number directory here.there).nlink in
            let few : directory.nlink + parent_links body ≤ MOST_LINKS =
            few_links (parent_links body) directory own (parent_links_is body)
            (λ one. can.not_full (links_of_directory body one)) in
            let adds_so = adds_is at inside name (dirent slot) here.fits can.directory_is in
            let fits = within _ _ roomy.has_space in
            can_enter_new tree good at.number directory here.there ctx.moment now.moment name placed can.bytes
            can.absent (dirent slot) roomy.least unused.least unused.most body few (omega (arith, adds_so, fits))

        pub can_make_in : CanMakeIn middle inode_attributes body
        can_make_in = record {
          unused = record {
            least = unused.least;
            most = subst (λ g. number < g.inodes) (sym (same_inodes tree at.number change)) unused.most;
            free = elsewhere tree at.number number change apart ∙ unused.free;
          };
          sound = inode_attributes_sound;
          lawful = can.body_sound;
          has_space = enough_left;
        }

        pub inode_attributes_fit : IsBodyOf inode_attributes body
        inode_attributes_fit = record {
          kind = is.fits.kind;
          size = is.fits.size;
          used = is.fits.used;
          parent = is.fits.parent;
        }

        pub make_done : (stands : Tree → Type 0) (last : InodeAttributes) (outcome : Created) → last ≡ headed inode_attributes sized
            → ((b : Body) → IsBodyOf last b → outcome ≡ created last.number (node_of last b))
            → stands (with_node middle number (node_of inode_attributes sized)) → IsMade stands tree effect (Ok outcome)
        make_done stands last outcome last_is tells there =
            let fits = headed_fits inode_attributes body sized inode_attributes_fit (length_alike wanted.size body) in
            let proven : outcome ≡ created number node =
            tells sized (subst (λ h. IsBodyOf h sized) (sym last_is) fits)
            ∙ ap (λ (h : InodeAttributes). created h.number (node_of h sized)) last_is ∙ ap (created number) node_is in
            let leads : stands (then (dirent slot)).next =
            subst stands (ap (with_node middle number) node_is ∙ sym next_is) there in
            record {
              new = Some number;
              is_new = unused;
              done = subst (λ o. IsDone stands tree (effect (Some number)) (Ok o)) (sym proven)
                  (done_so stands tree (effect (Some number)) (then (dirent slot))
                  (goes_on (Some number) ∙ if_roomy tree at.size inside more number then needs slot roomy)
                  leads);
            }
