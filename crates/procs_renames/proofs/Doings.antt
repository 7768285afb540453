-- What RENAME does, by the tests of the move, its slot and its room.
use Rattle.std.proofs.Common.{◌≡◌, ◌≢◌, ℕ, ◌≤◌, ◌||◌, sym, ap, subst, ◌∙◌, refl, Bool, true, false, cond, not, nat_eq, nat_le}
use Rattle.std.proofs.Common.{List, Option, Some, None, Result, Ok, Err, IfErr, IfOk, arith}
use Rattle.std.proofs.lemmas.Bool.Decides.{nat_tests}
use Rattle.nfs_types.specs.Fits.{AreBytes}
use Rattle.nfs_types.specs.declared.ctx.Ctx.{Ctx}
use Rattle.nfs_types.specs.declared.status.Status.{Status}
use Rattle.nfs_types.specs.declared.status.Status.TheVariants as status
use Rattle.nfs_spec.specs.Model.Node.{Node, Body, DirentValue}
use Rattle.nfs_spec.specs.Model.SetAttr.{given}
use Rattle.nfs_spec.specs.Model.Sound.{Sound, SoundCtx}
use Rattle.nfs_spec.specs.Model.Tree.{Tree, need}
use Rattle.nfs_spec.proofs.ProceduresLemmas.TreeChanges.{Placed, passed}
use Rattle.nfs_spec.proofs.ProceduresLemmas.Tests.{is_equal, neither, passes, unequal}
use Rattle.nfs_spec.specs.Procedures.Changes.{if_dirent, with_dirent}
use Rattle.nfs_spec.specs.Procedures.FirstTests.{is_long, is_no_directory, is_no_name, may_change, unless}
use Rattle.nfs_spec.specs.Procedures.Fresh.{new_dirent}
use Rattle.nfs_spec.specs.Procedures.Places.{is_own_name, least_free_slot}
use Rattle.nfs_spec.specs.Procedures.Rename.{Dentry, file_in, move, move_refusal, new_slot, places_refusal, rename, rename_file}
use Rattle.nfs_spec.specs.Procedures.Rename.{slot_for, with_moved}
use Rattle.nfs_spec.specs.Procedures.StepForms.{Effect}
use Rattle.procs_files.specs.Writable.{adds}
use Rattle.procs_files.specs.Heads.{IsDone, IsFileIn, IsFound, barely, node_of}
use Rattle.procs_files.specs.declared.inode_attributes.InodeAttributes.{InodeAttributes}
use Rattle.procs_names.proofs.LinksLemmas.Doing.{done_not, done_so, unless_passed, unless_stopped}
use Rattle.procs_names.proofs.LinksLemmas.Needs.{adds_is, enough}
use Rattle.procs_names.specs.Links.Rooms.{dirent_adds}
use Rattle.procs_renames.proofs.Movable.{Goes, can_move, move_needs}
use Rattle.procs_renames.specs.Moves.{dentry_of}
use Rattle.procs_renames.specs.Placing.{CanMove, moved_tree}
use Rattle.procs_renames.specs.Renames.{CanRename}
use Rattle.procs_renames.specs.Slots.{IsRoomyAt}

-- ---- the slot

pub slot_within : (a b : ℕ) → a ≡ b → (old named : Option DirentValue) (goal : Body) → None ≡ named
    → slot_for true old None goal ≡ slot_for (nat_eq a b) old named goal
slot_within a b same old named goal none = λ i. slot_for (sym (is_equal a b same) i) old (none i) goal

pub slot_elsewhere : (a b : ℕ) → a ≢ b → (old named : Option DirentValue) (goal : Body) → None ≡ named
    → least_free_slot goal ≡ slot_for (nat_eq a b) old named goal
slot_elsewhere a b apart old named goal none = λ i. slot_for (sym (unequal a b apart) i) old (none i) goal

-- ---- the call

within : (a b : ℕ) → nat_le a b ≡ true → a ≤ b
within a b e = grind (arith, nat_tests, e)

module _ (tree : Tree) (ctx : Ctx) (from to : InodeAttributes) (body goal : Body) (name new_name : List ℕ)
    (file : InodeAttributes) (inside : Body) (from_at : IsFileIn tree from body) (to_at : IsFileIn tree to goal)
    (can : CanRename tree ctx (dentry_of from body name) (dentry_of to goal new_name) file inside) where
  abbrev source : Dentry
  source = dentry_of from body name

  abbrev target : Dentry
  target = dentry_of to goal new_name

  abbrev node : Node
  node = node_of file inside

  abbrev replaced : Option (ℕ × Node)
  replaced = file_in tree target

  abbrev effect : Result (Effect (Unit {0})) Status
  effect = rename tree ctx source target

  abbrev already : Bool
  already = given replaced (λ other. nat_eq other.0 file.number)

  by_file : effect ≡ cond already (Ok (record { answer = tt; next = tree }))
      (move tree ctx file.number node source target replaced)
  by_file = unless_passed (places_refusal tree ctx.credential source target)
      (rename_file tree ctx source target (file_in tree source) replaced) can.tested
      ∙ ap (λ f. rename_file tree ctx source target f replaced) can.found

  pub renamed_already : (stands : Tree → Type 0) → already ≡ true → stands tree
      → IsDone stands tree effect (Ok tt)
  renamed_already stands is still =
      done_so stands tree effect (record { answer = tt; next = tree })
      (by_file ∙ ap (λ b. cond b (Ok (record { answer = tt; next = tree }))
      (move tree ctx file.number node source target replaced)) is) still

  module _ (apart : already ≡ false) where
    abbrev act : Result (Effect (Unit {0})) Status
    act = if_dirent tree (new_dirent (Some file.number) (new_slot source target))
        (with_moved tree ctx.moment file.number node source target replaced)

    moves_on : effect ≡ unless (move_refusal tree file.number node source target replaced) act
    moves_on = by_file ∙ ap (λ b. cond b (Ok (record { answer = tt; next = tree }))
        (move tree ctx file.number node source target replaced)) apart

    pub not_moved : (stands : Tree → Type 0) (why : Status)
        → move_refusal tree file.number node source target replaced ≡ Some why → stands tree
        → IsDone stands tree effect (Err why)
    not_moved stands why is still =
        done_not stands tree effect why
        (moves_on ∙ unless_stopped (move_refusal tree file.number node source target replaced) why act is) still

    module _ (tested : move_refusal tree file.number node source target replaced ≡ None) where
      goes_on : effect ≡ act
      goes_on = moves_on ∙ unless_passed (move_refusal tree file.number node source target replaced) act tested

      places_passed : Placed target.directory new_name
      places_passed =
          let one = passed (is_no_directory source.directory) _ _ can.tested in
          let two = passed (is_no_directory target.directory) _ _ one.1 in
          let three = passed (is_no_name name) _ _ two.1 in
          let four = passed (is_long name) _ _ three.1 in
          let five = passed (is_no_name new_name) _ _ four.1 in
          let six = passed (is_long new_name) _ _ five.1 in
          let seven = passed (not (may_change ctx.credential source.directory)) _ _ six.1 in
          let eight = passed (not (may_change ctx.credential target.directory)) _ _ seven.1 in
          let own = passed (is_own_name name || is_own_name new_name) _ _ eight.1 in
          record {
            directory_is = passes _ two.0;
            lawful = five.0;
            short = six.0;
            not_own = (neither _ _ own.0).1;
          }

      goes : (slot : ℕ) → new_slot source target ≡ Some slot → Goes tree source target file.number node slot
      goes slot is = record {
        source_stands = from_at.there;
        target_stands = to_at.there;
        placed = places_passed;
        bytes = can.bytes;
        found = can.found;
        apart = apart;
        tested = tested;
        slot_is = is;
      }

      abbrev dirent : ℕ → DirentValue
      dirent slot = record { number = file.number; slot = slot }

      abbrev then : ℕ → Effect (Unit {0})
      then slot = with_moved tree ctx.moment file.number node source target replaced (dirent slot)

      adds_so : (slot : ℕ) → adds (with_dirent new_name (dirent slot) goal) goal ≡ dirent_adds to.size slot
      adds_so slot = adds_is to goal new_name (dirent slot) to_at.fits places_passed.directory_is

      needs : (slot : ℕ) → new_slot source target ≡ Some slot → need tree (then slot).next ≡ dirent_adds to.size slot
      needs slot is =
          move_needs tree can.sound ctx.moment can.now.moment source target file.number node slot (goes slot is)
          ∙ adds_so slot

      pub move_cramped : (stands : Tree → Type 0) → IsRoomyAt tree to.size (new_slot source target) None
          → stands tree → IsDone stands tree effect (Err status.NoSpc)
      move_cramped stands cramped still =
          done_not stands tree effect status.NoSpc (goes_on ∙ by (new_slot source target) refl) still
        where
          by : (slot : Option ℕ) → new_slot source target ≡ slot
              → if_dirent tree (new_dirent (Some file.number) slot)
              (with_moved tree ctx.moment file.number node source target replaced) ≡ Err status.NoSpc
          by None is = refl
          by (Some slot) is =
              ap (λ b. cond b (Err status.NoSpc) (Ok (then slot)))
              (enough tree (then slot).next (dirent_adds to.size slot) false (sym (cramped slot is)) (needs slot is))

      module _ (slot : ℕ) (roomy : IsRoomyAt tree to.size (new_slot source target) (Some slot)) where
        pub file_can_move : CanMove tree ctx.moment from.number name to.number new_name file.number inside replaced
            slot
        file_can_move =
            let fits = within _ _ roomy.1 in
            let same = adds_so slot in
            can_move tree can.sound ctx.moment can.now.moment source target file.number node slot
            (goes slot roomy.0) (omega (arith, fits, same))

        pub moved_done : (stands : Tree → Type 0)
            → stands (moved_tree tree ctx.moment from.number name to.number new_name file.number inside replaced slot)
            → IsDone stands tree effect (Ok tt)
        moved_done stands there =
            done_so stands tree effect (then slot)
            (goes_on
            ∙ ap (λ s. if_dirent tree (new_dirent (Some file.number) s)
            (with_moved tree ctx.moment file.number node source target replaced)) roomy.0
            ∙ ap (λ b. cond b (Err status.NoSpc) (Ok (then slot)))
            (enough tree (then slot).next (dirent_adds to.size slot) true (sym roomy.1) (needs slot roomy.0)))
            there

-- by the heads alone
pub already_agrees : (tree : Tree) (found : Option (ℕ × Node)) (other : Option InodeAttributes) (number : ℕ)
    → IsFound tree found other
    → given (barely other) (λ file. nat_eq file.0 number) ≡ given found (λ file. nat_eq file.0 number)
already_agrees tree found None number is = ap (λ f. given f (λ file. nat_eq file.0 number)) (sym is)
already_agrees tree found (Some inode_attributes) number is = ap (λ f. given f (λ file. nat_eq file.0 number)) (sym is.1)

-- of why a call stopped
pub stopped_so : {X Y : Type 0} (r : Result X Y) (why : Y) (P : Y → Type 0) → r ≡ Err why → P why → IfErr r P
stopped_so r why P is holds = subst (λ r. IfErr r P) (sym is) holds

-- each of what it ensures of its value
pub both_ok : {X Y : Type 0} (r : Result X Y) (P Q : X → Type 0) → IfOk r P → IfOk r Q
    → IfOk r (λ x. P x × Q x)
both_ok (Ok x) P Q p q = (p, q)
both_ok (Err y) P Q p q = p

-- the tests of both places refuse it
pub stopped_first : (tree : Tree) (ctx : Ctx) (source target : Dentry) (stands : Tree → Type 0) (why : Status)
    → places_refusal tree ctx.credential source target ≡ Some why → stands tree
    → IsDone stands tree (rename tree ctx source target) (Err why)
stopped_first tree ctx source target stands why is still =
    done_not stands tree (rename tree ctx source target) why
    (unless_stopped (places_refusal tree ctx.credential source target) why
    (rename_file tree ctx source target (file_in tree source) (file_in tree target)) is) still

-- or they don't
pub let_rename : (tree : Tree) (ctx : Ctx) (source target : Dentry) (file : InodeAttributes) → Sound tree → SoundCtx ctx
    → AreBytes target.name → places_refusal tree ctx.credential source target ≡ None
    → (there : IsFound tree (file_in tree source) (Some file)) → CanRename tree ctx source target file there.0
let_rename tree ctx source target file good now bytes tested there = record {
  sound = good;
  now = now;
  tested = tested;
  found = there.1;
  there = there.2;
  bytes = bytes;
}
