-- Each step of each procedure is one of these: what the procedure's tests show, and what it does then.
use Rattle.std.proofs.Common.{◌≡◌, ℕ, ◌<◌, ◌≤◌, sym, ap, subst, ◌∙◌, refl, Bool, true, false, cond, not}
use Rattle.std.proofs.Common.{List, []}
use Rattle.std.proofs.Common.{◌∷◌, ◌++◌, ◌||◌, length, nat_eq, nat_lt, is_some, is_none, Option, Some, None}
use Rattle.std.proofs.Common.{Result}
use Rattle.std.proofs.Common.{Ok, Err, IfSome, T, ◌^◌, arith, lit<}
use Rattle.std.proofs.lemmas.Bool.Decides.{nat_tests}
use Rattle.std.specs.Cmp.Lexicographic.{slice_cmp}
use Rattle.std.specs.FinMap as map
use Rattle.std.specs.FinSet as set
use Rattle.std.specs.FinSet.{contains-empty}
use Rattle.std.specs.Ordering.{nat_cmp}
use Rattle.base.specs.declared.TheConstants.{EXCLUSIVE_MODE, MODE_BITS, NEW_DIRECTORY_MODE, NEW_FILE_MODE}
use Rattle.base.specs.declared.TheConstants.{NEW_LINK_MODE, TARGET_BYTES}
use Rattle.nfs_types.specs.Fits.{AreBytes, CallFits, CreateHowFits, NewAttributesFit}
use Rattle.nfs_types.specs.declared.attributes.NewAttributes.{NewAttributes}
use Rattle.nfs_types.specs.declared.attributes.WeakCacheData.{WeakCacheData}
use Rattle.nfs_types.specs.declared.call.Call.{Call}
use Rattle.nfs_types.specs.declared.call.Call.TheVariants as call
use Rattle.nfs_types.specs.declared.call.CreateHow.{CreateHow}
use Rattle.nfs_types.specs.declared.call.CreateHow.TheVariants.{Unchecked, Guarded, Exclusive}
use Rattle.nfs_types.specs.declared.call.Stability.{Stability}
use Rattle.nfs_types.specs.declared.ctx.Ctx.{Ctx}
use Rattle.nfs_types.specs.declared.ctx.Moment.{Moment}
use Rattle.nfs_types.specs.declared.reply.Reply.{Reply}
use Rattle.nfs_types.specs.declared.reply.Reply.TheVariants as reply
use Rattle.nfs_types.specs.declared.reply.Written.{Written}
use Rattle.nfs_types.specs.declared.status.Status.{Status}
use Rattle.nfs_types.specs.declared.status.Status.TheVariants as status
use Rattle.nfs_types.specs.declared.verifier.Verifier.{Verifier}
use Rattle.nfs_spec.proofs.ModelLemmas.Answered.{found-stands}
use Rattle.nfs_spec.proofs.ModelLemmas.Maps.{entries-empty}
use Rattle.nfs_spec.specs.Model.Find.{find_file}
use Rattle.nfs_spec.specs.Model.Names.{entries_of, is_directory, parent_of}
use Rattle.nfs_spec.specs.Model.Node.{Node, Body, DirentValue, Directory, Link}
use Rattle.nfs_spec.specs.Model.SetAttr.{SetFound, SetOrLeft, first_of_tests, given, is_regular, refusal}
use Rattle.nfs_spec.specs.Model.SetAttr.{with_attributes}
use Rattle.nfs_spec.specs.Model.Sound.{SoundBody, SoundBytes, SoundEntries, SoundTarget, SoundVerifier}
use Rattle.nfs_spec.specs.Model.Tree.{Tree, node_at, with_node}
use Rattle.nfs_spec.proofs.ProceduresLemmas.Tests.{neither, passes}
use Rattle.nfs_spec.proofs.ProceduresLemmas.Unchanged.{query_leaves}
use Rattle.nfs_spec.specs.Procedures.Changes.{if_dirent, if_space, lacks_space, without_name}
use Rattle.nfs_spec.specs.Procedures.Create.{becomes, create, create_at, create_new, create_over, is_made_with}
use Rattle.nfs_spec.specs.Procedures.Create.{no_bytes}
use Rattle.nfs_spec.specs.Procedures.Create.{only_size, resize}
use Rattle.nfs_spec.specs.Procedures.FirstTests.{found_then, is_long, is_no_directory, is_no_name, may_change}
use Rattle.nfs_spec.specs.Procedures.FirstTests.{dentry_tests}
use Rattle.nfs_spec.specs.Procedures.FirstTests.{unless}
use Rattle.nfs_spec.specs.Procedures.Fresh.{IsNewNumber, IsUnused, fresh, make, made, new_dirent, nothing_given}
use Rattle.nfs_spec.specs.Procedures.Fresh.{with_new, without_size}
use Rattle.nfs_spec.specs.Procedures.Link.{link, link_refusal, linking, with_link}
use Rattle.nfs_spec.specs.Procedures.MkDir.{is_full, is_there, make_directory, mkdir_tests}
use Rattle.nfs_spec.specs.Procedures.Places.{is_found_directory, is_found_other, is_own_name}
use Rattle.nfs_spec.specs.Procedures.Places.{least_free_slot, named_file}
use Rattle.nfs_spec.specs.Procedures.Remove.{remove, remove_refusal}
use Rattle.nfs_spec.specs.Procedures.Rename.{Dentry, file_in, move, move_refusal, new_slot, places_refusal, rename}
use Rattle.nfs_spec.specs.Procedures.Rename.{rename_file, renaming, with_moved}
use Rattle.nfs_spec.specs.Procedures.RmDir.{is_found_filled, remove_directory, rmdir_refusal}
use Rattle.nfs_spec.specs.Procedures.SymLink.{make_link, symlink_tests}
use Rattle.nfs_spec.specs.Procedures.StepForms.{Acts, Effect, tree_after}
use Rattle.nfs_spec.specs.Procedures.Step.{numbered_step}
use Rattle.nfs_spec.specs.Procedures.Write.{write, write_refusal, written, written_reply}
use Rattle.nfs_spec.proofs.ProceduresLemmas.TreeChanges.{TreeChange, Placed, leaves, links, makes, named_is, passed, removes, renames}
use Rattle.nfs_spec.proofs.ProceduresLemmas.TreeChanges.{sets}
use Rattle.nfs_spec.proofs.ProceduresLemmas.TreeChanges.{writes}

-- where a call isn't refused, what is so of the tree that it leads to
module _ (P : Tree → Type 0) {A : Type 0} where
  abbrev pub Leads : Result (Effect A) Status → Type 0
  Leads (Ok effect) = P effect.next
  Leads (Err status) = Unit {0}

  leads_else : (b : Bool) (s : Status) (r : Result (Effect A) Status) → (b ≡ true → Leads r)
      → Leads (cond b r (Err s))
  leads_else true s r then = then refl
  leads_else false s r then = tt

  leads_unless : (test : Option Status) (r : Result (Effect A) Status) → (test ≡ None → Leads r)
      → Leads (unless test r)
  leads_unless None r then = then refl
  leads_unless (Some s) r then = tt

  leads_same : (b : Bool) (effect : Effect A) (r : Result (Effect A) Status) → P effect.next
      → (b ≡ false → Leads r) → Leads (cond b (Ok effect) r)
  leads_same true effect r same then = same
  leads_same false effect r same then = then refl

  leads_cond : (b : Bool) (s : Status) (effect : Effect A) → (b ≡ false → P effect.next)
      → Leads (cond b (Err s) (Ok effect))
  leads_cond true s effect then = tt
  leads_cond false s effect then = then refl

  leads_space : (tree : Tree) (effect : Effect A) → (lacks_space tree effect.next ≡ false → P effect.next)
      → Leads (if_space tree effect)
  leads_space tree effect then = leads_cond (lacks_space tree effect.next) status.NoSpc effect then

  leads_dirent : (tree : Tree) (dirent : Option DirentValue) (effect : DirentValue → Effect A)
      → ((e : DirentValue) → dirent ≡ Some e → lacks_space tree (effect e).next ≡ false → P (effect e).next)
      → Leads (if_dirent tree dirent effect)
  leads_dirent tree None effect then = tt
  leads_dirent tree (Some dirent) effect then = leads_space tree (effect dirent) (then dirent refl)

  leads_found : (tree : Tree) (handle : List ℕ) (act : ℕ → Node → Result (Effect A) Status)
      (found : Result (ℕ × Node) Status) → find_file tree handle ≡ found
      → ((number : ℕ) (node : Node) → node_at tree number ≡ Some node → Leads (act number node))
      → Leads (found_then found act)
  leads_found tree handle act (Ok found) is each = each found.0 found.1 (found-stands tree handle found is)
  leads_found tree handle act (Err status) is each = tt

  leads_to : (tree : Tree) (r : Result (Effect A) Status) → P tree → Leads r → P (tree_after tree r)
  leads_to tree (Ok effect) kept leads = leads
  leads_to tree (Err status) kept leads = kept

  leads_acts : (tree next : Tree) (handle : List ℕ) (act : ℕ → Node → Result (Effect A) Status)
      (outcome : Result A Status) (file_attributes : WeakCacheData) → Acts tree handle act outcome file_attributes next → P tree
      → ((number : ℕ) (node : Node) → node_at tree number ≡ Some node → Leads (act number node)) → P next
  leads_acts tree next handle act outcome file_attributes s kept each =
      subst P (sym s.leads)
      (leads_to tree (found_then (find_file tree handle) act) kept
      (leads_found tree handle act (find_file tree handle) refl each))

no_some : {X : Type 0} (o : Option X) → is_some o ≡ false → o ≡ None
no_some None e = refl
no_some (Some x) e = cc

-- what the tests of a name in a directory show, and those behind them
placed_by : (allowed : Bool) (directory : Node) (name : List ℕ) (own : Bool) (s : Status)
    (tests : List (Bool × Status)) → (own ≡ false → is_own_name name ≡ false)
    → first_of_tests (dentry_tests allowed directory name ++ (own, s) ∷ tests) ≡ None
    → Placed directory name × (own ≡ false) × (first_of_tests tests ≡ None)
placed_by allowed directory name own s tests own_is e =
    let kind = passed (is_no_directory directory) _ _ e in
    let lawful = passed (is_no_name name) _ _ kind.1 in
    let short = passed (is_long name) _ _ lawful.1 in
    let may = passed (not allowed) _ _ short.1 in
    let last = passed own _ _ may.1 in (
      record {
        directory_is = passes _ kind.0;
        lawful = lawful.0;
        short = short.0;
        not_own = own_is last.0;
      },
      last.0,
      last.1,
    )

no_bytes_sound : SoundBytes [] set.empty
no_bytes_sound = record {
  each = λ index. lit< tt;
  size = omega arith;
  indexes = λ index is. absurd (subst T (sym is ∙ contains-empty nat_cmp index) tt);
  zeros = λ offset free. refl;
}

no_dirent : (name : List ℕ) (dirent : DirentValue)
    → map.get (map.empty {X = DirentValue} {R = slice_cmp nat_cmp}) name ≡ Some dirent → ⊥
no_dirent name dirent is = let none = sym (map.get-empty (slice_cmp nat_cmp) name) ∙ is in cc

empty_entries_sound : SoundEntries map.empty 0
empty_entries_sound = record {
  blocks = omega arith;
  names = λ name dirent is. absurd (no_dirent name dirent is);
  slots = λ name dirent is. absurd (no_dirent name dirent is);
  distinct = λ one other a b is too same. absurd (no_dirent one a is);
}

target_sound : (target : List ℕ) → AreBytes target → nat_eq (length target) 0 ≡ false
    → nat_lt TARGET_BYTES (length target) ≡ false → SoundTarget target
target_sound target bytes some short = record {
  bytes = bytes;
  some = grind (arith, nat_tests, some);
  short = grind (arith, nat_tests, short);
}

unsized : (wanted : NewAttributes) → NewAttributesFit wanted → NewAttributesFit (without_size wanted)
unsized wanted fits = record {
  mode = fits.mode;
  uid = fits.uid;
  gid = fits.gid;
  size = tt;
  atime = fits.atime;
  mtime = fits.mtime;
}

module _ (tree : Tree) (ctx : Ctx) (fits : Type 0) where
  abbrev Done : Tree → Type 0
  Done = TreeChange tree ctx fits

  write_done : (offset count : ℕ) (stability : Stability) (text : List ℕ) (number : ℕ) (node : Node)
      → (fits → AreBytes text) → node_at tree number ≡ Some node
      → Leads Done (write tree ctx offset count stability text number node)
  write_done offset count stability text number node bounds is =
      let effect : Effect Written = record {
        answer = written_reply ctx count stability;
        next = with_node tree number (written ctx.moment offset text node);
      } in
      leads_unless Done (write_refusal ctx.credential offset count text node) (if_space tree effect) (λ tested.
      leads_space Done tree effect (λ has_space. writes (record {
        number = number;
        node = node;
        offset = offset;
        count = count;
        text = text;
        stands = is;
        tested = tested;
        leads = refl;
        has_space = has_space;
        bounds = bounds;
      })))

  -- what is known of a new file before its attributes are set
  record NewFile (at : ℕ) (directory : Node) (name : List ℕ) (wanted : NewAttributes) (mode : ℕ)
      (verifier : Option Verifier) (body : Body) : Type 0 where
    stands : node_at tree at ≡ Some directory
    placed : Placed directory name
    absent : named_file tree directory name ≡ None
    mode_bits : mode ≤ MODE_BITS
    empty : entries_of body ≡ []
    parent : is_directory body ≡ true → parent_of body ≡ at
    not_full : is_directory body ≡ true → is_full directory ≡ false
    name_bounds : fits → AreBytes name
    bounds : fits → NewAttributesFit wanted
    verifier_bounds : fits → SoundVerifier body verifier
    body_bounds : fits → SoundBody body

  record Entry (number slot : Option ℕ) (dirent : DirentValue) : Type 0 where
    number_is : number ≡ Some dirent.number
    slot_is : slot ≡ Some dirent.slot

  dirent_is : (number slot : Option ℕ) (dirent : DirentValue) → new_dirent number slot ≡ Some dirent
      → Entry number slot dirent
  dirent_is None slot dirent e = cc
  dirent_is (Some number) None dirent e = cc
  dirent_is (Some number) (Some slot) dirent e =
      let one : ◌≡◌ {A = DirentValue} (record { number = number; slot = slot }) dirent = cc in
      record { number_is = ap (λ d. Some d.number) one; slot_is = ap (λ d. Some d.slot) one }

  unused_is : (new : Option ℕ) (number : ℕ) → IsNewNumber tree new → new ≡ Some number → IsUnused tree number
  unused_is None number is e = cc
  unused_is (Some one) number is e = let same : one ≡ number = cc in subst (IsUnused tree) same is

  make_done : (new : Option ℕ) (at : ℕ) (directory : Node) (name : List ℕ) (wanted : NewAttributes)
      (mode : ℕ) (verifier : Option Verifier) (body : Body) → IsNewNumber tree new
      → NewFile at directory name wanted mode verifier body
      → Leads Done (make tree ctx new at directory name wanted (fresh ctx mode verifier body))
  make_done new at directory name wanted mode verifier body is_new file =
      let node : Node = made ctx wanted (fresh ctx mode verifier body) in
      let dirent = new_dirent new (least_free_slot directory.body) in
      let effect = with_new tree ctx at name node in
      leads_unless Done (refusal ctx wanted None (fresh ctx mode verifier body)) (if_dirent tree dirent effect)
      (λ tested. leads_dirent Done tree dirent effect (λ e is has_space.
      let parts = dirent_is new (least_free_slot directory.body) e is in
      makes (record {
        at = at;
        directory = directory;
        name = name;
        wanted = wanted;
        mode = mode;
        verifier = verifier;
        body = body;
        dirent = e;
        stands = file.stands;
        placed = file.placed;
        absent = file.absent;
        unused = unused_is new e.number is_new parts.number_is;
        slot = parts.slot_is;
        tested = tested;
        leads = refl;
        has_space = has_space;
        mode_bits = file.mode_bits;
        empty = file.empty;
        parent = file.parent;
        not_full = file.not_full;
        name_bounds = file.name_bounds;
        bounds = file.bounds;
        verifier_bounds = file.verifier_bounds;
        body_bounds = file.body_bounds;
      })))

  nothing_fits : NewAttributesFit nothing_given
  nothing_fits = record { mode = tt; uid = tt; gid = tt; size = tt; atime = tt; mtime = tt }

  resize_done : (size : Option ℕ) (number : ℕ) (node : Node) → node_at tree number ≡ Some node
      → ((n : ℕ) → size ≡ Some n → fits → NewAttributesFit (only_size n))
      → Leads Done (resize tree ctx size number node)
  resize_done None number node is bounds = leaves refl
  resize_done (Some size) number node is bounds =
      leads_unless Done (refusal ctx (only_size size) None node)
      (Ok (becomes tree number (with_attributes ctx.moment (only_size size) node))) (λ tested.
      sets (record {
        number = number;
        node = node;
        wanted = only_size size;
        guard = None;
        stands = is;
        tested = tested;
        leads = refl;
        bounds = bounds size refl;
      }))

  only_size_fits : (size : Option ℕ) (n : ℕ) → IfSome size (λ m. m < 2 ^ 64) → size ≡ Some n
      → NewAttributesFit (only_size n)
  only_size_fits size n small is = record {
    mode = tt;
    uid = tt;
    gid = tt;
    size = subst (λ o. IfSome o (λ m. m < 2 ^ 64)) is small;
    atime = tt;
    mtime = tt;
  }

  over_done : (how : CreateHow) (number : ℕ) (node : Node) → (fits → CreateHowFits how)
      → node_at tree number ≡ Some node → Leads Done (create_over tree ctx how number node)
  over_done (Unchecked wanted) number node bounds is =
      leads_else Done (is_regular node.body) status.Exist (resize tree ctx wanted.size number node) (λ _.
      resize_done wanted.size number node is (λ n same f. only_size_fits wanted.size n (bounds f).size same))
  over_done (Guarded wanted) number node bounds is = tt
  over_done (Exclusive verifier) number node bounds is =
      leads_else Done (is_made_with verifier node) status.Exist (resize tree ctx None number node) (λ _.
      resize_done None number node is (λ n same f. cc))

  module _ (new : Option ℕ) (is_new : IsNewNumber tree new) (at : ℕ) (directory : Node) (name : List ℕ)
      (stands : node_at tree at ≡ Some directory) (name_bounds : fits → AreBytes name) where
    file_made : (wanted : NewAttributes) (mode : ℕ) (verifier : Option Verifier) → Placed directory name
        → named_file tree directory name ≡ None → mode ≤ MODE_BITS → (fits → NewAttributesFit wanted)
        → (fits → SoundVerifier no_bytes verifier)
        → Leads Done (make tree ctx new at directory name wanted (fresh ctx mode verifier no_bytes))
    file_made wanted mode verifier placed absent bits bounds verifier_bounds =
        make_done new at directory name wanted mode verifier no_bytes is_new (record {
          stands = stands;
          placed = placed;
          absent = absent;
          mode_bits = bits;
          empty = refl;
          parent = λ no_dir. cc;
          not_full = λ no_dir. cc;
          name_bounds = name_bounds;
          bounds = bounds;
          verifier_bounds = verifier_bounds;
          body_bounds = λ f. no_bytes_sound;
        })

    new_done : (how : CreateHow) → (fits → CreateHowFits how) → Placed directory name
        → named_file tree directory name ≡ None → Leads Done (create_new tree ctx new at directory name how)
    new_done (Unchecked wanted) bounds placed absent =
        file_made wanted NEW_FILE_MODE None placed absent (omega arith) bounds (λ f. tt)
    new_done (Guarded wanted) bounds placed absent =
        file_made wanted NEW_FILE_MODE None placed absent (omega arith) bounds (λ f. tt)
    new_done (Exclusive verifier) bounds placed absent =
        file_made nothing_given EXCLUSIVE_MODE (Some verifier) placed absent (omega arith) (λ f. nothing_fits)
        bounds

    at_done : (how : CreateHow) (found : Option (ℕ × Node)) → (fits → CreateHowFits how)
        → Placed directory name → named_file tree directory name ≡ found
        → Leads Done (create_at tree ctx how new at directory name found)
    at_done how None bounds placed is = new_done how bounds placed is
    at_done how (Some file) bounds placed is =
        over_done how file.0 file.1 bounds (named_is tree directory name file is).stands

    create_done : (how : CreateHow) → (fits → CreateHowFits how)
        → Leads Done (create tree ctx name how new at directory)
    create_done how bounds =
        leads_unless Done
        (first_of_tests (dentry_tests (may_change ctx.credential directory) directory name
        ++ (is_own_name name, status.Exist) ∷ []))
        (create_at tree ctx how new at directory name (named_file tree directory name)) (λ tested.
        let placed = placed_by (may_change ctx.credential directory) directory name (is_own_name name)
        status.Exist [] (λ own. own) tested in
        at_done how (named_file tree directory name) bounds placed.0 refl)

    directory_done : (wanted : NewAttributes) → (fits → NewAttributesFit wanted)
        → Leads Done (make_directory tree ctx name wanted new at directory)
    directory_done wanted bounds =
        leads_unless Done
        (first_of_tests (dentry_tests (may_change ctx.credential directory) directory name
        ++ mkdir_tests name directory (named_file tree directory name)))
        (make tree ctx new at directory name (without_size wanted)
        (fresh ctx NEW_DIRECTORY_MODE None (Directory map.empty 0 at))) (λ tested.
        let placed = placed_by (may_change ctx.credential directory) directory name
        (is_there name (named_file tree directory name)) status.Exist ((is_full directory, status.MLink) ∷ [])
        (λ there. (neither _ _ there).0) tested in
        make_done new at directory name (without_size wanted) NEW_DIRECTORY_MODE None (Directory map.empty 0 at)
        is_new (record {
          stands = stands;
          placed = placed.0;
          absent = no_some _ (neither _ _ placed.1).1;
          mode_bits = omega arith;
          empty = entries-empty _;
          parent = λ dir. refl;
          not_full = λ dir. (passed (is_full directory) _ _ placed.2).0;
          name_bounds = name_bounds;
          bounds = λ f. unsized wanted (bounds f);
          verifier_bounds = λ f. refl;
          body_bounds = λ f. empty_entries_sound;
        }))

    link_done : (wanted : NewAttributes) (target : List ℕ) → (fits → NewAttributesFit wanted)
        → (fits → AreBytes target) → Leads Done (make_link tree ctx name wanted target new at directory)
    link_done wanted target bounds bytes =
        leads_unless Done
        (first_of_tests (dentry_tests (may_change ctx.credential directory) directory name
        ++ symlink_tests name target (named_file tree directory name)))
        (make tree ctx new at directory name (without_size wanted) (fresh ctx NEW_LINK_MODE None (Link target)))
        (λ tested.
        let placed = placed_by (may_change ctx.credential directory) directory name
        (is_there name (named_file tree directory name)) status.Exist
        ((nat_eq (length target) 0, status.Inval) ∷ (
          nat_lt TARGET_BYTES (length target),
          status.NameTooLong,
        ) ∷ [])
        (λ there. (neither _ _ there).0) tested in
        let some = passed (nat_eq (length target) 0) _ _ placed.2 in
        let short = passed (nat_lt TARGET_BYTES (length target)) _ _ some.1 in
        make_done new at directory name (without_size wanted) NEW_LINK_MODE None (Link target) is_new (record {
          stands = stands;
          placed = placed.0;
          absent = no_some _ (neither _ _ placed.1).1;
          mode_bits = omega arith;
          empty = refl;
          parent = λ no_dir. cc;
          not_full = λ no_dir. cc;
          name_bounds = name_bounds;
          bounds = λ f. unsized wanted (bounds f);
          verifier_bounds = λ f. refl;
          body_bounds = λ f. target_sound target (bytes f) some.0 short.0;
        }))

  module _ (at : ℕ) (directory : Node) (name : List ℕ) (stands : node_at tree at ≡ Some directory) where
    removed : (found : Option (ℕ × Node)) → named_file tree directory name ≡ found
        → is_none found ≡ false → (is_found_directory found ≡ true → is_found_filled found ≡ false)
        → Done (without_name tree ctx.moment at name found)
    removed None is some empty = cc
    removed (Some file) is some empty = removes (record {
      at = at;
      directory = directory;
      name = name;
      file = file;
      stands = stands;
      found = is;
      empty = empty;
      leads = refl;
    })

    remove_done : Leads Done (remove tree ctx name at directory)
    remove_done =
        let found = named_file tree directory name in
        leads_unless Done (remove_refusal ctx.credential directory name found)
        (Ok (record { answer = tt; next = without_name tree ctx.moment at name found })) (λ tested.
        let placed = placed_by (may_change ctx.credential directory) directory name
        (is_own_name name) status.IsDir
        ((is_none found, status.NoEnt) ∷ (is_found_directory found, status.IsDir) ∷ []) (λ own. own) tested in
        let some = passed (is_none found) _ _ placed.2 in
        let other = passed (is_found_directory found) _ _ some.1 in
        removed found refl some.0 (λ dir. let never : true ≡ false = sym dir ∙ other.0 in cc))

    rmdir_done : Leads Done (remove_directory tree ctx name at directory)
    rmdir_done =
        let found = named_file tree directory name in
        leads_unless Done (rmdir_refusal ctx.credential directory name found)
        (Ok (record { answer = tt; next = without_name tree ctx.moment at name found })) (λ tested.
        let placed = placed_by (may_change ctx.credential directory) directory name
        (is_own_name name) status.Inval
        ((is_none found, status.NoEnt) ∷ (is_found_other found, status.NotDir)
        ∷ (is_found_filled found, status.NotEmpty) ∷ []) (λ own. own) tested in
        let some = passed (is_none found) _ _ placed.2 in
        let other = passed (is_found_other found) _ _ some.1 in
        let filled = passed (is_found_filled found) _ _ other.1 in
        removed found refl some.0 (λ dir. filled.0))

  linked_done : (name : List ℕ) (number : ℕ) (node : Node) (at : ℕ) (directory : Node)
      → (fits → AreBytes name) → node_at tree number ≡ Some node → node_at tree at ≡ Some directory
      → Leads Done (link tree ctx name number node at directory)
  linked_done name number node at directory bounds file_stands stands =
      let dirent = new_dirent (Some number) (least_free_slot directory.body) in
      leads_unless Done (link_refusal tree ctx.credential name node directory)
      (if_dirent tree dirent (with_link tree ctx.moment name number node at)) (λ tested.
      leads_dirent Done tree dirent (with_link tree ctx.moment name number node at) (λ e is has_space.
      let kind = passed (is_no_directory directory) _ _ tested in
      let lawful = passed (is_no_name name) _ _ kind.1 in
      let short = passed (is_long name) _ _ lawful.1 in
      let may = passed (not (may_change ctx.credential directory)) _ _ short.1 in
      let file = passed (is_directory node.body) _ _ may.1 in
      let there = passed (is_there name (named_file tree directory name)) _ _ file.1 in
      let full = passed (is_full node) _ _ there.1 in
      let parts = dirent_is (Some number) (least_free_slot directory.body) e is in
      links (record {
        number = number;
        node = node;
        at = at;
        directory = directory;
        name = name;
        dirent = e;
        file_stands = file_stands;
        stands = stands;
        placed = record {
          directory_is = passes _ kind.0;
          lawful = lawful.0;
          short = short.0;
          not_own = (neither _ _ there.0).0;
        };
        absent = no_some _ (neither _ _ there.0).1;
        no_directory = file.0;
        not_full = full.0;
        number_is = let one = parts.number_is in cc;
        slot = parts.slot_is;
        leads = refl;
        has_space = has_space;
        name_bounds = bounds;
      })))

  module _ (source target : Dentry) (source_stands : node_at tree source.number ≡ Some source.directory)
      (target_stands : node_at tree target.number ≡ Some target.directory)
      (bounds : fits → AreBytes target.name) where
    move_done : (found : Option (ℕ × Node)) → Placed target.directory target.name
        → file_in tree source ≡ found → Leads Done (rename_file tree ctx source target found
        (file_in tree target))
    move_done None placed is = tt
    move_done (Some file) placed is =
        let replaced = file_in tree target in
        let dirent = new_dirent (Some file.0) (new_slot source target) in
        let effect = with_moved tree ctx.moment file.0 file.1 source target replaced in
        leads_same Done (given replaced (λ other. nat_eq other.0 file.0)) (record { answer = tt; next = tree })
        (move tree ctx file.0 file.1 source target replaced) (leaves refl) (λ apart.
        leads_unless Done (move_refusal tree file.0 file.1 source target replaced) (if_dirent tree dirent effect)
        (λ tested. leads_dirent Done tree dirent effect (λ e e_is has_space.
        let parts = dirent_is (Some file.0) (new_slot source target) e e_is in
        renames (record {
          source = source;
          target = target;
          file = file;
          dirent = e;
          source_stands = source_stands;
          target_stands = target_stands;
          placed = placed;
          found = is;
          apart = apart;
          tested = tested;
          number_is = let one = parts.number_is in cc;
          slot = parts.slot_is;
          leads = refl;
          has_space = has_space;
          name_bounds = bounds;
        }))))

    rename_done : Leads Done (rename tree ctx source target)
    rename_done =
        leads_unless Done (places_refusal tree ctx.credential source target)
        (rename_file tree ctx source target (file_in tree source) (file_in tree target)) (λ tested.
        let from = passed (is_no_directory source.directory) _ _ tested in
        let to = passed (is_no_directory target.directory) _ _ from.1 in
        let old = passed (is_no_name source.name) _ _ to.1 in
        let old_short = passed (is_long source.name) _ _ old.1 in
        let lawful = passed (is_no_name target.name) _ _ old_short.1 in
        let short = passed (is_long target.name) _ _ lawful.1 in
        let may = passed (not (may_change ctx.credential source.directory)) _ _ short.1 in
        let may_too = passed (not (may_change ctx.credential target.directory)) _ _ may.1 in
        let own = passed (is_own_name source.name || is_own_name target.name) _ _ may_too.1 in
        move_done (file_in tree source) (record {
          directory_is = passes _ to.0;
          lawful = lawful.0;
          short = short.0;
          not_own = (neither _ _ own.0).1;
        }) refl)

module _ (tree next : Tree) (ctx : Ctx) (fits : Type 0) (wanted : NewAttributes) (guard : Option Moment)
    (bounds : fits → NewAttributesFit wanted) (outcome : Result (Unit {0}) Status) (file_attributes : WeakCacheData) where
  set_tested : (number : ℕ) (node : Node) (test : Option Status) → node_at tree number ≡ Some node
      → refusal ctx wanted guard node ≡ test
      → SetOrLeft tree number node (with_attributes ctx.moment wanted node) test outcome file_attributes next
      → TreeChange tree ctx fits next
  set_tested number node None is tested s = sets (record {
    number = number;
    node = node;
    wanted = wanted;
    guard = guard;
    stands = is;
    tested = tested;
    leads = s.changed;
    bounds = bounds;
  })
  set_tested number node (Some status) is tested s = leaves s.unchanged

  set_done : (handle : List ℕ) (found : Result (ℕ × Node) Status) → find_file tree handle ≡ found
      → SetFound tree ctx wanted guard found outcome file_attributes next → TreeChange tree ctx fits next
  set_done handle (Ok found) is s =
      set_tested found.0 found.1 (refusal ctx wanted guard found.1) (found-stands tree handle found is) refl s
  set_done handle (Err status) is s = leaves s.unchanged

-- What a step does, whatever the call.
pub what_is_done : (tree next : Tree) (ctx : Ctx) (new : Option ℕ) (asked : Call) (given : Reply)
    → IsNewNumber tree new → numbered_step tree ctx new asked given next → TreeChange tree ctx (CallFits asked) next
what_is_done tree next ctx new (call.GetAttr object) (reply.GetAttr outcome) is_new s = leaves s.unchanged
what_is_done tree next ctx new (call.SetAttr object wanted guard) (reply.SetAttr outcome file_attributes) is_new s =
    set_done tree next ctx (CallFits (call.SetAttr object wanted guard)) wanted guard (λ f. f.1) outcome file_attributes
    object.bytes (find_file tree object.bytes) refl s
what_is_done tree next ctx new (call.Lookup name) (reply.Lookup outcome file_attributes) is_new s = leaves s.unchanged
what_is_done tree next ctx new (call.Access object bits) (reply.Access outcome file_attributes) is_new s =
    leaves s.unchanged
what_is_done tree next ctx new (call.ReadLink link) (reply.ReadLink outcome file_attributes) is_new s = leaves s.unchanged
what_is_done tree next ctx new (call.Read file offset count) (reply.Read outcome file_attributes) is_new s =
    leaves s.unchanged
what_is_done tree next ctx new (call.ReadDir directory cookie verifier count)
    (reply.ReadDir outcome file_attributes) is_new s =
    leaves s.unchanged
what_is_done tree next ctx new (call.ReadDirPlus directory cookie verifier names_count count)
    (reply.ReadDirPlus outcome file_attributes) is_new s =
    leaves s.unchanged
what_is_done tree next ctx new (call.FsStat object) (reply.FsStat outcome file_attributes) is_new s = leaves s.unchanged
what_is_done tree next ctx new (call.FsInfo object) (reply.FsInfo outcome file_attributes) is_new s = leaves s.unchanged
what_is_done tree next ctx new (call.PathConf object) (reply.PathConf outcome file_attributes) is_new s =
    leaves s.unchanged
what_is_done tree next ctx new (call.MkNod name special) (reply.MkNod outcome file_attributes) is_new s =
    leaves (query_leaves tree next ctx new (call.MkNod name special) (reply.MkNod outcome file_attributes) s refl)
what_is_done tree next ctx new (call.Commit file offset count) (reply.Commit outcome file_attributes) is_new s =
    leaves (query_leaves tree next ctx new (call.Commit file offset count) (reply.Commit outcome file_attributes) s refl)
what_is_done tree next ctx new (call.Write file offset count stability text)
    (reply.Write outcome file_attributes) is_new s =
    let fits = CallFits (call.Write file offset count stability text) in
    leads_acts (TreeChange tree ctx fits) tree next _ _ outcome file_attributes s (leaves refl)
    (λ number node is. write_done tree ctx fits offset count stability text number node (λ f. f.3.each) is)
what_is_done tree next ctx new (call.Create name how) (reply.Create outcome file_attributes) is_new s =
    let fits = CallFits (call.Create name how) in
    leads_acts (TreeChange tree ctx fits) tree next _ _ outcome file_attributes s (leaves refl)
    (λ at directory is. create_done tree ctx fits new is_new at directory name.name is (λ f. f.0.name.each) how
    (λ f. f.1))
what_is_done tree next ctx new (call.MkDir name wanted) (reply.MkDir outcome file_attributes) is_new s =
    let fits = CallFits (call.MkDir name wanted) in
    leads_acts (TreeChange tree ctx fits) tree next _ _ outcome file_attributes s (leaves refl)
    (λ at directory is. directory_done tree ctx fits new is_new at directory name.name is (λ f. f.0.name.each)
    wanted (λ f. f.1))
what_is_done tree next ctx new (call.SymLink name wanted target) (reply.SymLink outcome file_attributes) is_new s =
    let fits = CallFits (call.SymLink name wanted target) in
    leads_acts (TreeChange tree ctx fits) tree next _ _ outcome file_attributes s (leaves refl)
    (λ at directory is. link_done tree ctx fits new is_new at directory name.name is (λ f. f.0.name.each)
    wanted target (λ f. f.1) (λ f. f.2.each))
what_is_done tree next ctx new (call.Remove name) (reply.Remove outcome file_attributes) is_new s =
    leads_acts (TreeChange tree ctx (CallFits (call.Remove name))) tree next _ _ outcome file_attributes s (leaves refl)
    (λ at directory is. remove_done tree ctx (CallFits (call.Remove name)) at directory name.name is)
what_is_done tree next ctx new (call.RmDir name) (reply.RmDir outcome file_attributes) is_new s =
    leads_acts (TreeChange tree ctx (CallFits (call.RmDir name))) tree next _ _ outcome file_attributes s (leaves refl)
    (λ at directory is. rmdir_done tree ctx (CallFits (call.RmDir name)) at directory name.name is)
what_is_done tree next ctx new (call.Rename source target) (reply.Rename outcome file_attributes other_attributes) is_new s =
    let fits = CallFits (call.Rename source target) in
    let act : ℕ → Node → ℕ → Node → Result (Effect (Unit {0})) Status = λ number directory other parent.
    rename tree ctx (record { number = number; directory = directory; name = source.name })
    (record { number = other; directory = parent; name = target.name }) in
    subst (TreeChange tree ctx fits) (sym s.leads)
    (leads_to (TreeChange tree ctx fits) tree
    (renaming tree ctx source.directory.bytes source.name target.directory.bytes target.name) (leaves refl)
    (leads_found (TreeChange tree ctx fits) tree source.directory.bytes
    (λ number directory. found_then (find_file tree target.directory.bytes) (act number directory))
    (find_file tree source.directory.bytes) refl
    (λ number directory is. leads_found (TreeChange tree ctx fits) tree target.directory.bytes (act number directory)
    (find_file tree target.directory.bytes) refl
    (λ other parent too. rename_done tree ctx fits
    (record { number = number; directory = directory; name = source.name })
    (record { number = other; directory = parent; name = target.name }) is too (λ f. f.1.name.each)))))
what_is_done tree next ctx new (call.Link file name) (reply.Link outcome file_attributes other_attributes) is_new s =
    let fits = CallFits (call.Link file name) in
    subst (TreeChange tree ctx fits) (sym s.leads)
    (leads_to (TreeChange tree ctx fits) tree (linking tree ctx file.bytes name.directory.bytes name.name)
    (leaves refl)
    (leads_found (TreeChange tree ctx fits) tree file.bytes (λ number node.
    found_then (find_file tree name.directory.bytes) (link tree ctx name.name number node))
    (find_file tree file.bytes) refl
    (λ number node is. leads_found (TreeChange tree ctx fits) tree name.directory.bytes
    (link tree ctx name.name number node) (find_file tree name.directory.bytes) refl
    (λ at directory too. linked_done tree ctx fits name.name number node at directory (λ f. f.1.name.each) is
    too))))
what_is_done tree next ctx new _ _ is_new s = absurd s
