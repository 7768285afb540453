-- Each change but a renaming keeps a sound tree sound.
use Rattle.std.proofs.Common.{◌≡◌, ◌≢◌, ℕ, zero, suc, ◌+◌, ◌-◌, ◌<◌, ◌≤◌, sym, ap, subst, ◌∙◌, refl}
use Rattle.std.proofs.Common.{Bool, true, false, cond, not, List, length, nat_eq, nat_le, nat_lt}
use Rattle.std.proofs.Common.{Option, Some, None, is_some, arith}
use Rattle.std.proofs.lemmas.Bool.Decides.{nat_tests}
use Rattle.std.specs.Cmp.{nat_cmp_total}
use Rattle.std.specs.FinMap.{nat_cmp-IsAntisymmetric}
use Rattle.std.specs.Option.{option_and_then, option_map}
use Rattle.base.specs.declared.TheConstants.{LARGEST_FILE, MOST_LINKS}
use Rattle.nfs_types.specs.declared.ctx.Ctx.{Ctx}
use Rattle.nfs_types.specs.declared.ctx.Moment.{Moment}
use Rattle.nfs_types.specs.declared.verifier.Verifier.{Verifier}
use Rattle.nfs_spec.proofs.ModelLemmas.Attributed.{shape, sound_node}
use Rattle.nfs_spec.proofs.ModelLemmas.Replaced as replaced
use Rattle.nfs_spec.specs.Model.Cost.{cost}
use Rattle.nfs_spec.specs.Model.Names.{entries_of, is_directory, parent_of}
use Rattle.nfs_spec.specs.Model.Node.{Node, Body, DirentValue, Regular, Directory, Link}
use Rattle.nfs_spec.specs.Model.SetAttr.{is_regular, with_attributes}
use Rattle.nfs_spec.specs.Model.Sound.{Sound, SoundBody, SoundCtx, SoundNode, SoundVerifier}
use Rattle.nfs_spec.specs.Model.Tree.{Tree, node_at, with_node}
use Rattle.nfs_spec.proofs.ProceduresLemmas.Tests.{at_most_one, equal, neither, not_above, passes}
use Rattle.nfs_spec.proofs.ProceduresLemmas.Adding.{added}
use Rattle.nfs_spec.proofs.ProceduresLemmas.TreeChanges.{Links, Makes, Removes, Sets, Writes, named_is, passed}
use Rattle.nfs_spec.proofs.ProceduresLemmas.NameChanges.{least_is_free, sound_name}
use Rattle.nfs_spec.proofs.ProceduresLemmas.Keeping.{reshaped}
use Rattle.nfs_spec.proofs.ProceduresLemmas.Lacking.{Lacking, Reached, none_lacks, of_sound, put_change, to_sound}
use Rattle.nfs_spec.proofs.ProceduresLemmas.Naming.{depart, enter, dirent_stands, not_in_itself, one_less, one_of}
use Rattle.nfs_spec.proofs.ProceduresLemmas.Naming.{one_of_itself}
use Rattle.nfs_spec.proofs.ProceduresLemmas.Naming.{one_of_other, unname}
use Rattle.nfs_spec.proofs.ProceduresLemmas.Overwriting.{overwritten_sound}
use Rattle.nfs_spec.proofs.ProceduresLemmas.Parts.{insert_swap}
use Rattle.nfs_spec.proofs.ProceduresLemmas.UsedWithin.{space_after}
use Rattle.nfs_spec.specs.Procedures.Changes.{changed_at, departed, entered, lacks_space, parent_links, is_last_name}
use Rattle.nfs_spec.specs.Procedures.Changes.{unnamed, with_file, without_node}
use Rattle.nfs_spec.specs.Procedures.Changes.{without_dirent}
use Rattle.nfs_spec.specs.Procedures.Fresh.{fresh, made}
use Rattle.nfs_spec.specs.Procedures.Link.{linked}
use Rattle.nfs_spec.specs.Procedures.MkDir.{is_full}
use Rattle.nfs_spec.specs.Procedures.Places.{dirent_at, file_at, named_file}
use Rattle.nfs_spec.specs.Procedures.Write.{is_wrong_count, with_text, written}

-- the file that is changed stands there
pub changed_is : (tree : Tree) (number : ℕ) (change : Node → Node) (node : Node)
    → node_at tree number ≡ Some node
    → changed_at tree number change ≡ with_node tree number (change node)
changed_is tree number change node is = ap (λ o. with_file tree number (option_map change o)) is

-- files under two numbers, in either order
pub with_two : (tree : Tree) (k j : ℕ) (a b : Node) → k ≢ j
    → with_node (with_node tree k a) j b ≡ with_node (with_node tree j b) k a
with_two tree k j a b apart =
    λ i. record {
      geometry = tree.geometry;
      nodes = insert_swap nat_cmp_total nat_cmp-IsAntisymmetric tree.nodes k j a b apart i;
    }

-- where a name leads to no file, no entry has it
pub no_dirent : (tree : Tree) → Sound tree → (at : ℕ) (directory : Node) → node_at tree at ≡ Some directory
    → (name : List ℕ) → named_file tree directory name ≡ None → dirent_at directory.body name ≡ None
no_dirent tree good at directory stands name absent = by (dirent_at directory.body name) refl absent
  where
    none_by : (dirent : DirentValue) (o : Option Node) → option_map {U =
        ℕ × Node} (λ node. (dirent.number, node)) o ≡ None
        → is_some o ≡ true → ⊥
    none_by dirent None e some = cc
    none_by dirent (Some node) e some = cc

    by : (o : Option DirentValue) → dirent_at directory.body name ≡ o
        → option_and_then (λ e. file_at tree e.number) o ≡ None → o ≡ None
    by None is e = refl
    by (Some dirent) is e =
        absurd (none_by dirent (node_at tree dirent.number) e
        (dirent_stands tree none_lacks (of_sound tree good) at directory stands name dirent is))

pub few_links : (n : ℕ) (directory : Node) → directory.nlink ≤ MOST_LINKS → n ≤ 1
    → (1 ≤ n → is_full directory ≡ false) → directory.nlink + n ≤ MOST_LINKS
few_links zero directory small one full = omega (arith, small)
few_links (suc n) directory small one full =
    let less = below directory.nlink (full (omega arith)) in omega (arith, less, one)
  where
    below : (links : ℕ) → nat_le MOST_LINKS links ≡ false → links < MOST_LINKS
    below links e = grind (arith, nat_tests, e)

pub parent_links_is : (body : Body) → parent_links body ≤ 1
parent_links_is body = at_most_one (is_directory body)

pub links_of_directory : (body : Body) → 1 ≤ parent_links body → is_directory body ≡ true
links_of_directory body = by (is_directory body)
  where
    by : (b : Bool) → 1 ≤ cond b 1 0 → b ≡ true
    by true one = refl
    by false one = absurd (omega (arith, one))

not_none : (n : ℕ) → nat_eq n 0 ≡ false → 0 < n
not_none n e = grind (arith, nat_tests, e)

same_entries : (offset : ℕ) (text : List ℕ) (body : Body)
    → entries_of (with_text offset text body) ≡ entries_of body
same_entries offset text (Regular bytes mapped) = refl
same_entries offset text (Directory named span parent) = refl
same_entries offset text (Link target) = refl

same_kind : (offset : ℕ) (text : List ℕ) (body : Body)
    → is_directory (with_text offset text body) ≡ is_directory body
same_kind offset text (Regular bytes mapped) = refl
same_kind offset text (Directory named span parent) = refl
same_kind offset text (Link target) = refl

same_parent : (offset : ℕ) (text : List ℕ) (body : Body)
    → parent_of (with_text offset text body) ≡ parent_of body
same_parent offset text (Regular bytes mapped) = refl
same_parent offset text (Directory named span parent) = refl
same_parent offset text (Link target) = refl

same_verifier : (offset : ℕ) (text : List ℕ) (body : Body) (verifier : Option Verifier)
    → SoundVerifier body verifier → SoundVerifier (with_text offset text body) verifier
same_verifier offset text (Regular bytes mapped) verifier good = good
same_verifier offset text (Directory named span parent) verifier good = good
same_verifier offset text (Link target) verifier good = good

-- a directory that loses a name keeps its blocks
pub same_cost : (name : List ℕ) (body : Body) → cost (without_dirent name body) ≡ cost body
same_cost name (Regular bytes mapped) = refl
same_cost name (Directory named span parent) = refl
same_cost name (Link target) = refl

pub same_geometry : (tree : Tree) (moment : Moment) (number : ℕ) (file : Node)
    → (unnamed tree moment number file).geometry ≡ tree.geometry
same_geometry tree moment number file = by (is_last_name file)
  where
    by : (b : Bool)
        → (cond b (without_node tree number) (with_node tree number (record file {
          nlink = file.nlink - 1;
          ctime = moment;
        }))).geometry
        ≡ tree.geometry
    by true = refl
    by false = refl

module _ (tree : Tree) (ctx : Ctx) (fits : Type 0) (next : Tree) (good : Sound tree) (now : SoundCtx ctx)
    (f : fits) where
  pub set_sound : Sets tree ctx fits next → Sound next
  set_sound d =
      let bounds = d.bounds f in
      subst Sound (sym d.leads)
      (replaced.sound tree d.number d.node (with_attributes ctx.moment d.wanted d.node) d.stands
      (shape ctx.moment d.wanted d.node) good
      (sound_node ctx d.wanted d.guard d.node d.tested now.moment bounds.uid bounds.gid bounds.atime
      bounds.mtime
      (good.files d.number d.node d.stands).itself))

  -- What is written.

  record Alike (old new : Node) : Type 0 where
    entries_are : entries_of new.body ≡ entries_of old.body
    directory : is_directory new.body ≡ is_directory old.body
    parent : parent_of new.body ≡ parent_of old.body
    stamp : new.stamp ≡ old.stamp
    links : new.nlink ≡ old.nlink
    itself : SoundNode new

  module _ (d : Writes tree ctx fits next) where
    old : SoundNode d.node
    old = (good.files d.number d.node d.stands).itself

    tests : (is_regular d.node.body ≡ true) × (d.count ≡ length d.text) × (d.offset + d.count ≤ LARGEST_FILE)
    tests =
        let kind = passed (not (is_regular d.node.body)) _ _ d.tested in
        let count = passed (is_wrong_count d.count d.text) _ _ kind.1 in
        let may = passed _ _ _ count.1 in
        let within = passed (nat_lt LARGEST_FILE (d.offset + d.count)) _ _ may.1 in
        (passes _ kind.0, equal _ _ (passes _ (neither _ _ count.0).0), not_above _ _ within.0)

    body_by : (body : Body) → is_regular body ≡ true → SoundBody body → 0 < length d.text
        → SoundBody (with_text d.offset d.text body)
    body_by (Regular bytes mapped) kind sound some =
        let count = tests.1 in
        let most = tests.2 in
        overwritten_sound d.offset d.text bytes mapped some (omega (arith, count, most)) (d.bounds f) sound
    body_by (Directory named span parent) kind sound some = cc
    body_by (Link target) kind sound some = cc

    written_by : (b : Bool) → nat_eq (length d.text) 0 ≡ b → Alike d.node (cond b d.node (record d.node {
      mtime = ctx.moment;
      ctime = ctx.moment;
      body = with_text d.offset d.text d.node.body;
    }))
    written_by true is = record {
      entries_are = refl;
      directory = refl;
      parent = refl;
      stamp = refl;
      links = refl;
      itself = old;
    }
    written_by false is = record {
      entries_are = same_entries d.offset d.text d.node.body;
      directory = same_kind d.offset d.text d.node.body;
      parent = same_parent d.offset d.text d.node.body;
      stamp = refl;
      links = refl;
      itself = record {
        mode = old.mode;
        uid = old.uid;
        gid = old.gid;
        nlink = old.nlink;
        atime = old.atime;
        mtime = now.moment;
        ctime = now.moment;
        stamp = old.stamp;
        verifier = same_verifier d.offset d.text d.node.body d.node.verifier old.verifier;
        body = body_by d.node.body tests.0 old.body (not_none _ is);
      };
    }

    pub write_sound : Sound next
    write_sound =
        let new : Node = written ctx.moment d.offset d.text d.node in
        let alike : Alike d.node new = written_by (nat_eq (length d.text) 0) refl in
        let to = with_node tree d.number new in
        let result : Lacking to none_lacks =
        reshaped tree to none_lacks none_lacks d.number d.node new
        (put_change tree d.number (Some d.node) new d.stands) (of_sound tree good) (record {
          itself = alike.itself;
          entries_are = alike.entries_are;
          directory = alike.directory;
          parent = alike.parent;
          stamp = alike.stamp;
          links = λ dir. alike.links;
          whole = λ dir. refl;
          names = λ other. let same = alike.links in omega (arith, same);
          named = λ other.
              let named = ((good.files d.number d.node d.stands).links other).named in
              let same = alike.links in
              omega (arith, named, same);
          others = λ q apart. refl;
        }) in
        subst Sound (sym d.leads)
        (to_sound to result
        (space_after tree to good.has_space (subst (λ t. lacks_space tree t ≡ false) d.leads d.has_space)))

  -- What is made.

  module _ (d : Makes tree ctx fits next) where
    abbrev number : ℕ
    number = d.dirent.number

    abbrev blank : Node
    blank = fresh ctx d.mode d.verifier d.body

    abbrev node : Node
    node = made ctx d.wanted blank

    blank_sound : SoundNode blank
    blank_sound = record {
      mode = d.mode_bits;
      uid = now.uid;
      gid = now.gid;
      nlink = let few = parent_links_is d.body in omega (arith, few);
      atime = now.moment;
      mtime = now.moment;
      ctime = now.moment;
      stamp = now.stamp;
      verifier = d.verifier_bounds f;
      body = d.body_bounds f;
    }

    node_sound : SoundNode node
    node_sound =
        let bounds = d.bounds f in
        sound_node ctx d.wanted None blank d.tested now.moment bounds.uid bounds.gid bounds.atime bounds.mtime
        blank_sound

    no_file_there : (p : ℕ) (file : Node) → node_at tree p ≡ Some file → p ≢ number
    no_file_there p file is same =
        let never : None ≡ Some file = sym d.unused.free ∙ ap (node_at tree) (sym same) ∙ is in cc

    kind_is : is_directory node.body ≡ is_directory d.body
    kind_is = (shape ctx.moment d.wanted blank).directory

    abbrev first : Tree
    first = with_node tree number node

    with_file_first : Lacking first (one_of number)
    with_file_first =
        let same = shape ctx.moment d.wanted blank in
        added tree first none_lacks (one_of number) number node
        (put_change tree number None node d.unused.free) (of_sound tree good) (record {
          least = d.unused.least;
          most = d.unused.most;
          itself = node_sound;
          empty = same.entries_are ∙ d.empty;
          lacks_one = one_of_itself number;
          others = λ q apart. one_of_other number q apart;
          file = λ other. same.nlink ∙ ap (λ b. suc (cond b 1 0)) (sym kind_is ∙ other);
          directory = λ dir. same.nlink ∙ ap (λ b. suc (cond b 1 0)) (sym kind_is ∙ dir);
          parent = d.directory;
          parent_is = λ dir. ap (node_at tree) (same.parent ∙ d.parent (sym kind_is ∙ dir)) ∙ d.stands;
          reached = λ dir. subst (Reached tree) (sym (same.parent ∙ d.parent (sym kind_is ∙ dir)))
              ((good.files d.at d.directory d.stands).directory d.placed.directory_is).reached;
        })

    pub make_sound : Sound next
    make_sound =
        let same = shape ctx.moment d.wanted blank in
        let slot = least_is_free d.directory.body d.dirent.slot d.slot in
        let change : Node → Node = entered ctx.moment d.name d.dirent node.body in
        let apart = no_file_there d.at d.directory d.stands in
        let to = with_node first d.at (change d.directory) in
        let result : Lacking to none_lacks =
        enter first (one_of number) none_lacks with_file_first d.at d.directory
        ((put_change tree number None node d.unused.free).there d.at apart
        ∙ d.stands) d.placed.directory_is d.name
        d.dirent (no_dirent tree good d.at d.directory d.stands d.name d.absent) node
        (put_change tree number None node d.unused.free).here
        (sound_name d.directory d.name d.placed (d.name_bounds f)) slot.1 slot.0 ctx.moment now.moment
        (few_links (parent_links node.body) d.directory (good.files d.at d.directory d.stands).itself.nlink
        (parent_links_is node.body) (λ one. d.not_full (sym kind_is ∙ links_of_directory node.body one)))
        (λ dir. same.parent ∙ d.parent (sym kind_is ∙ dir)) (λ q. omega arith) in
        let leads : next ≡ to =
        d.leads ∙ ap (λ t. with_node t number node) (changed_is tree d.at change d.directory d.stands)
        ∙ with_two tree d.at number (change d.directory) node apart in
        subst Sound (sym leads)
        (to_sound to result (space_after tree to good.has_space (subst (λ t. lacks_space tree t
        ≡ false) leads d.has_space)))

  -- What is linked.

  module _ (d : Links tree ctx fits next) where
    file : Node
    file = d.node

    not_at : d.at ≢ d.dirent.number
    not_at same =
        let one : Some d.directory ≡ Some d.node =
        sym d.stands ∙ ap (node_at tree) (same ∙ d.number_is) ∙ d.file_stands in
        let directory_is : d.directory ≡ d.node = cc in
        let never : true ≡ false = sym d.placed.directory_is ∙ ap (λ n. is_directory n.body) directory_is
        ∙ d.no_directory in cc

    file_there : node_at tree d.dirent.number ≡ Some d.node
    file_there = ap (node_at tree) d.number_is ∙ d.file_stands

    few : suc d.node.nlink ≤ MOST_LINKS
    few = let less = few_links 1 d.node (good.files d.number d.node d.file_stands).itself.nlink (omega arith)
        (λ _. d.not_full) in omega (arith, less)

    linked_sound : SoundNode (linked ctx.moment d.node)
    linked_sound =
        let old = (good.files d.number d.node d.file_stands).itself in
        record {
          mode = old.mode;
          uid = old.uid;
          gid = old.gid;
          nlink = few;
          atime = old.atime;
          mtime = old.mtime;
          ctime = now.moment;
          stamp = old.stamp;
          verifier = old.verifier;
          body = old.body;
        }

    abbrev with_one_more : Tree
    with_one_more = with_node tree d.dirent.number (linked ctx.moment d.node)

    more_links : Lacking with_one_more (one_of d.dirent.number)
    more_links =
        reshaped tree with_one_more none_lacks (one_of d.dirent.number) d.dirent.number d.node
        (linked ctx.moment d.node) (put_change tree d.dirent.number (Some d.node)
        (linked ctx.moment d.node) file_there)
        (of_sound tree good) (record {
          itself = linked_sound;
          entries_are = refl;
          directory = refl;
          parent = refl;
          stamp = refl;
          links = λ dir. let never : true ≡ false = sym dir ∙ d.no_directory in cc;
          whole = λ dir. let never : true ≡ false = sym dir ∙ d.no_directory in cc;
          names = λ other. let one = one_of_itself d.dirent.number in omega (arith, one);
          named = λ other. omega arith;
          others = λ q apart. one_of_other d.dirent.number q apart;
        })

    pub link_sound : Sound next
    link_sound =
        let slot = least_is_free d.directory.body d.dirent.slot d.slot in
        let put = put_change tree d.dirent.number (Some d.node) (linked ctx.moment d.node) file_there in
        let change : Node → Node = entered ctx.moment d.name d.dirent d.node.body in
        let none : parent_links d.node.body ≡ 0 = ap (λ b. cond b 1 0) d.no_directory in
        let small = (good.files d.at d.directory d.stands).itself.nlink in
        let to = with_node with_one_more d.at (change d.directory) in
        let result : Lacking to none_lacks =
        enter with_one_more (one_of d.dirent.number) none_lacks more_links d.at d.directory
        (put.there d.at not_at ∙ d.stands) d.placed.directory_is d.name d.dirent
        (no_dirent tree good d.at d.directory d.stands d.name d.absent) (linked ctx.moment d.node) put.here
        (sound_name d.directory d.name d.placed (d.name_bounds f)) slot.1 slot.0 ctx.moment now.moment
        (omega (arith, none, small)) (λ dir. let never : true ≡ false = sym dir ∙ d.no_directory in cc)
        (λ q. omega arith) in
        let entered_first = put_change tree d.at (Some d.directory) (change d.directory) d.stands in
        let leads : next ≡ to =
        d.leads ∙ ap (λ t. changed_at t d.number (linked ctx.moment))
        (changed_is tree d.at change d.directory d.stands)
        ∙ ap (λ n. changed_at (with_node tree d.at (change d.directory)) n (linked ctx.moment))
        (sym d.number_is)
        ∙ changed_is (with_node tree d.at (change d.directory)) d.dirent.number (linked ctx.moment) d.node
        (entered_first.there d.dirent.number (λ same. not_at (sym same)) ∙ file_there)
        ∙ with_two tree d.at d.dirent.number (change d.directory) (linked ctx.moment d.node) not_at in
        subst Sound (sym leads)
        (to_sound to result (space_after tree to good.has_space (subst (λ t. lacks_space tree t
        ≡ false) leads d.has_space)))

  -- What is removed.

  module _ (d : Removes tree ctx fits next) where
    pub remove_sound : Sound next
    remove_sound =
        let base = of_sound tree good in
        let named = named_is tree d.directory d.name d.file d.found in
        let number = named.dirent.number in
        let file = d.file.1 in
        let there : node_at tree number ≡ Some file = ap (node_at tree) named.number_is ∙ named.stands in
        let change : Node → Node = departed ctx.moment d.name file.body in
        let left = with_node tree d.at (change d.directory) in
        let put = put_change tree d.at (Some d.directory) (change d.directory) d.stands in
        let lacking : Lacking left (one_less none_lacks number) =
        depart tree none_lacks base d.at d.directory d.stands d.name named.dirent named.dirent_is file there refl
        ctx.moment now.moment in
        let apart = not_in_itself tree none_lacks base d.at d.directory d.stands d.name named.dirent
        named.dirent_is file
        there refl in
        let one = one_of_itself number in
        let result =
        unname left (one_less none_lacks number) none_lacks lacking number file (put.there number apart ∙ there)
        (omega (arith, one)) refl
        (λ q other. let none = one_of_other number q other in omega (arith, none)) d.empty
        (λ q node is dir other lacks_one. let none = one_of_other number q other in
        absurd (omega (arith, none, lacks_one))) ctx.moment now.moment in
        let same = same_cost d.name d.directory.body in
        let sum = put.sums (λ dirent. cost dirent.1.body) in
        let less = result.has_space in
        let has_space = good.has_space in
        let leads : next ≡ unnamed left ctx.moment number file =
        d.leads
        ∙ ap (λ t. unnamed t ctx.moment d.file.0 file) (changed_is tree d.at change d.directory d.stands)
        ∙ ap (λ n. unnamed left ctx.moment n file) (sym named.number_is) in
        let to = unnamed left ctx.moment number file in
        let blocks : to.geometry.data_blocks ≡ tree.geometry.data_blocks =
        ap (λ g. g.data_blocks) (same_geometry left ctx.moment number file) in
        subst Sound (sym leads) (to_sound to result.tree_is (omega (arith, same, sum, less, has_space, blocks)))
