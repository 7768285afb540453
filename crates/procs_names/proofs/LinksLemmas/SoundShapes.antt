-- What a sound tree says of the attributes that its files come to have.
use Rattle.std.proofs.Common.{◌≡◌, ℕ, ◌<◌, ◌≤◌, sym, ap, subst, ◌∙◌, refl, true, false}
use Rattle.std.proofs.Common.{List, Some, arith, inl, inr}
use Rattle.base.specs.declared.TheConstants.{ROOT}
use Rattle.nfs_types.specs.declared.ctx.Moment.{Moment}
use Rattle.nfs_spec.specs.Model.Names.{is_directory, parent_of}
use Rattle.nfs_spec.specs.Model.Node.{Node}
use Rattle.nfs_spec.specs.Model.Sound.{Sound, SoundTime}
use Rattle.nfs_spec.specs.Model.Tree.{Tree, node_at, with_node}
use Rattle.nfs_spec.proofs.ProceduresLemmas.TreeChanges.{NamedBy, named_is}
use Rattle.nfs_spec.proofs.ProceduresLemmas.Lacking.{Lacking, LackingAt, equal_or_not, none_lacks, of_sound, put_change}
use Rattle.nfs_spec.proofs.ProceduresLemmas.Naming.{depart, not_in_itself}
use Rattle.nfs_spec.proofs.ProceduresLemmas.Tests.{neither, not_within, yes_or_no}
use Rattle.nfs_spec.specs.Procedures.Changes.{departed}
use Rattle.nfs_spec.specs.Procedures.Places.{named_file}
use Rattle.procs_names.specs.Links.Shapes.{CanLose, CanTake, IsShaped}

-- each file of a tree that is sound but for names
pub shape_of : (tree : Tree) (lacks : ℕ → ℕ) → Lacking tree lacks → (number : ℕ) (node : Node)
    → node_at tree number ≡ Some node → IsShaped tree.geometry.inodes node
shape_of tree lacks good number node there =
    let at : LackingAt tree lacks number node = good.files number node there in
    let own = at.itself in
    record {
      mode = own.mode;
      uid = own.uid;
      gid = own.gid;
      linked = elim (yes_or_no (is_directory node.body)) [
        | inl dir ↦ let counted = (at.directory dir).counted in omega (arith, counted)
        | inr other ↦ (at.links other).named
      ];
      nlink = own.nlink;
      atime = own.atime;
      mtime = own.mtime;
      ctime = own.ctime;
      stamp = own.stamp;
      verifier = own.verifier;
      directory = λ dir.
          let counted = (at.directory dir).counted in
          let two : 2 ≤ node.nlink = omega (arith, counted) in
          let parent : (0 < parent_of node.body) × (parent_of node.body < tree.geometry.inodes) =
          elim (equal_or_not number ROOT) [
            | inl same ↦
                let is = ((at.directory dir).root same).parent in
                let root = good.files ROOT good.root good.root_is in (
                  subst (λ p. 0 < p) (sym is) root.least,
                  subst (λ p. p < tree.geometry.inodes) (sym is) root.most,
                )
            | inr other ↦
                let child = (at.directory dir).child other in
                let above = good.files (parent_of node.body) child.parent child.parent_is in
                (above.least, above.most)
          ] in
          (two, parent.0, parent.1);
    }

pub sound_shape : (tree : Tree) → Sound tree → (number : ℕ) (node : Node) → node_at tree number ≡ Some node
    → IsShaped tree.geometry.inodes node
sound_shape tree good number node there = shape_of tree none_lacks (of_sound tree good) number node there

-- a file that has another name left
pub can_lose : (tree : Tree) (moment : Moment) (node : Node) → SoundTime moment
    → IsShaped tree.geometry.inodes node → CanLose tree moment node
can_lose tree moment node now shaped more =
    let parts = neither _ _ more in
    let many = not_within node.nlink 1 parts.1 in
    let most = shaped.nlink in
    record {
      mode = shaped.mode;
      uid = shaped.uid;
      gid = shaped.gid;
      linked = omega (arith, many);
      nlink = omega (arith, most);
      atime = shaped.atime;
      mtime = shaped.mtime;
      ctime = now;
      stamp = shaped.stamp;
      verifier = shaped.verifier;
      directory = λ dir. let never : true ≡ false = sym dir ∙ parts.0 in cc;
    }

-- the name of a file that a directory has
pub can_take : (tree : Tree) → Sound tree → (at : ℕ) (directory : Node) → node_at tree at ≡ Some directory
    → (name : List ℕ) (number : ℕ) (file : Node) → named_file tree directory name ≡ Some (number, file)
    → (moment : Moment) → SoundTime moment → CanTake tree moment at name number file
can_take tree good at directory stands name number file found moment now =
    let base = of_sound tree good in
    let named : NamedBy tree directory.body name (number, file) =
    named_is tree directory name (number, file) found in
    let there : node_at tree named.dirent.number ≡ Some file = ap (node_at tree) named.number_is ∙ named.stands in
    let left = depart tree none_lacks base at directory stands name named.dirent named.dirent_is file there refl
    moment now in
    let less = departed moment name file.body directory in
    record {
      departs = λ node is.
          let one : Some directory ≡ Some node = sym stands ∙ is in
          let same : directory ≡ node = cc in
          subst (λ n. IsShaped tree.geometry.inodes (departed moment name file.body n)) same
          (shape_of (with_node tree at less) _ left at less
          (put_change tree at (Some directory) less stands).here);
      apart = λ same.
          not_in_itself tree none_lacks base at directory stands name named.dirent named.dirent_is file there refl
          (named.number_is ∙ same);
      loses = can_lose tree moment file now (sound_shape tree good number file named.stands);
    }
