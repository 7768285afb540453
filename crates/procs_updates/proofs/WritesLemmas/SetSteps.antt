-- SETATTR over any files is a step.
use Rattle.std.proofs.Common.{◌≡◌, ℕ, sym, ap, subst, ◌∙◌, refl, false, not, ◌||◌, ◌&&◌, nat_lt, List, [], ◌∷◌}
use Rattle.std.proofs.Common.{is_some, Option, Some, None, Result, Ok}
use Rattle.base.specs.declared.TheConstants.{LARGEST_FILE}
use Rattle.nfs_types.specs.Fits.{NewAttributesFit}
use Rattle.nfs_types.specs.declared.attributes.NewAttributes.{NewAttributes}
use Rattle.nfs_types.specs.declared.attributes.WeakCacheData.{WeakCacheData}
use Rattle.nfs_types.specs.declared.ctx.Ctx.{Ctx}
use Rattle.nfs_types.specs.declared.ctx.Moment.{Moment}
use Rattle.nfs_types.specs.declared.status.Status.{Status}
use Rattle.nfs_types.specs.declared.status.Status.TheVariants as status
use Rattle.nfs_spec.specs.Model.Attributes.{attributes_of, before_change, change_of}
use Rattle.nfs_spec.specs.Model.Find.{find_file}
use Rattle.nfs_spec.specs.Model.Node.{Node, Body}
use Rattle.nfs_spec.specs.Model.SetAttr.{SetAttrStep, SetFound, SetOrLeft, fails_guard, first_of_tests, given, is_no_access}
use Rattle.nfs_spec.specs.Model.SetAttr.{is_no_time, is_not_permitted, refusal, with_attributes, with_length, is_invalid}
use Rattle.nfs_spec.specs.Model.Sound.{Sound, SoundCtx}
use Rattle.nfs_spec.specs.Model.Tree.{Tree, node_at, with_node}
use Rattle.nfs_spec.proofs.ProceduresLemmas.TreeChanges.{passed}
use Rattle.nfs_spec.proofs.ProceduresLemmas.Soundness.{set_sound}
use Rattle.nfs_spec.specs.Procedures.FirstTests.{unless}
use Rattle.nfs_spec.specs.Procedures.StepForms.{Effect, answer_of, tree_after}
use Rattle.procs_files.specs.declared.inode_attributes.InodeAttributes.{InodeAttributes}
use Rattle.procs_files.specs.Writable.{SoundInodeAttributes, headed}
use Rattle.procs_files.specs.Heads.{IsBodyOf, IsFileIn, bare, node_of}
use Rattle.procs_files.proofs.KindsAgree.{regular_agrees}
use Rattle.procs_updates.specs.Writes.Acting.{IsActed, set_inode_attributes, setting}
use Rattle.procs_updates.proofs.WritesLemmas.Acted.{put_acted, unless_none}
use Rattle.procs_updates.proofs.WritesLemmas.SoundHeads.{sound_inode_attributes, sound_headed}
use Rattle.procs_updates.proofs.WritesLemmas.Touched.{headed_fits, length_alike, put_there}

-- the tests look at the file's kind alone
pub refusal_agrees : (ctx : Ctx) (wanted : NewAttributes) (guard : Option Moment) (tree : Tree) (inode_attributes : InodeAttributes)
    (body : Body) → IsFileIn tree inode_attributes body
    → refusal ctx wanted guard (bare inode_attributes) ≡ refusal ctx wanted guard (node_of inode_attributes body)
refusal_agrees ctx wanted guard tree inode_attributes body at =
    ap (λ b. first_of_tests ((fails_guard guard (bare inode_attributes), status.NotSync)
    ∷ (is_no_time wanted.atime || is_no_time wanted.mtime || is_some wanted.size && not b, status.Inval)
    ∷ (is_not_permitted ctx.credential wanted (bare inode_attributes), status.Perm)
    ∷ (is_no_access ctx.credential wanted (bare inode_attributes), status.Acces)
    ∷ (given wanted.size (λ size. nat_lt LARGEST_FILE size), status.FBig)
    ∷ [])) (sym (regular_agrees inode_attributes body at.fits.kind))

-- a size that isn't refused is none past the largest
pub small_size : (ctx : Ctx) (wanted : NewAttributes) (guard : Option Moment) (node : Node)
    → refusal ctx wanted guard node ≡ None → given wanted.size (λ size. nat_lt LARGEST_FILE size) ≡ false
small_size ctx wanted guard node is =
    let guarded = passed (fails_guard guard node) _ _ is in
    let valid = passed (is_invalid wanted node) _ _ guarded.1 in
    let permitted = passed (is_not_permitted ctx.credential wanted node) _ _ valid.1 in
    let may = passed (is_no_access ctx.credential wanted node) _ _ permitted.1 in
    (passed (given wanted.size (λ size. nat_lt LARGEST_FILE size)) _ _ may.1).0

module _ (tree : Tree) (ctx : Ctx) (wanted : NewAttributes) (guard : Option Moment) (file : InodeAttributes) (body : Body)
    (at : IsFileIn tree file body) where
  abbrev node : Node
  node = node_of file body

  abbrev new : Body
  new = with_length wanted.size body

  -- the tree that it leads to is sound
  pub set_leads : Sound tree → SoundCtx ctx → NewAttributesFit wanted
      → Sound (tree_after tree (setting tree ctx wanted guard file.number node))
  set_leads good now fits = by (refusal ctx wanted guard node) refl
    where
      by : (test : Option Status) → refusal ctx wanted guard node ≡ test
          → Sound (tree_after tree (unless test (Ok (record {
            answer = tt {0};
            next = with_node tree file.number (with_attributes ctx.moment wanted node);
          }))))
      by None is = set_sound tree ctx (Unit {0}) _ good now tt (record {
        number = file.number;
        node = node;
        wanted = wanted;
        guard = guard;
        stands = at.there;
        tested = is;
        leads = refl;
        bounds = λ _. fits;
      })
      by (Some why) is = good

  -- the head of the file then
  pub inode_attributes_sound : refusal ctx wanted guard node ≡ None
      → Sound (tree_after tree (setting tree ctx wanted guard file.number node))
      → SoundInodeAttributes tree.geometry.inodes (set_inode_attributes ctx.moment wanted file)
  inode_attributes_sound is good =
      let next = with_node tree file.number (with_attributes ctx.moment wanted node) in
      let sound : Sound next = subst (λ e. Sound (tree_after tree e)) (unless_none (refusal ctx wanted guard node) _ is) good in
      sound_headed tree.geometry.inodes (set_inode_attributes ctx.moment wanted file) new
      (sound_inode_attributes next (headed (set_inode_attributes ctx.moment wanted file) new) new sound
      (put_there tree file.number (with_attributes ctx.moment wanted node))
      new_fits)
    where
      new_fits : IsBodyOf (headed (set_inode_attributes ctx.moment wanted file) new) new
      new_fits = headed_fits (set_inode_attributes ctx.moment wanted file) body new (record {
        kind = at.fits.kind;
        size = at.fits.size;
        used = at.fits.used;
        parent = at.fits.parent;
      }) (length_alike wanted.size body)

  pub set_fits : IsBodyOf (headed (set_inode_attributes ctx.moment wanted file) new) new
  set_fits = headed_fits (set_inode_attributes ctx.moment wanted file) body new (record {
    kind = at.fits.kind;
    size = at.fits.size;
    used = at.fits.used;
    parent = at.fits.parent;
  }) (length_alike wanted.size body)

  pub set_acted : (stands : Tree → Type 0) (last : InodeAttributes) → refusal ctx wanted guard node ≡ None
      → last ≡ headed (set_inode_attributes ctx.moment wanted file) new
      → stands (with_node tree file.number (with_attributes ctx.moment wanted node))
      → IsActed stands tree file.number (setting tree ctx wanted guard file.number node) (Ok tt) last
  set_acted stands last is same stand =
      put_acted stands tree file.number _ (Ok tt) last (set_inode_attributes ctx.moment wanted file) new tt
      (unless_none (refusal ctx wanted guard node) _ is) same refl set_fits refl stand

  -- what it does where this test says so
  abbrev effect : Option Status → Result (Effect (Unit {0})) Status
  effect test = unless test (Ok (record {
    answer = tt;
    next = with_node tree file.number (with_attributes ctx.moment wanted node);
  }))

  -- what was done is a step
  pub set_step : (stands : Tree → Type 0) (handle : List ℕ) (outcome : Result (Unit {0}) Status) (last : InodeAttributes)
      (file_attributes : WeakCacheData) → find_file tree handle ≡ Ok (file.number, node)
      → IsActed stands tree file.number (setting tree ctx wanted guard file.number node) outcome last
      → ((body after : Body) → IsBodyOf file body → IsBodyOf last after → file_attributes ≡ record {
        before = Some (before_change (node_of file body));
        after = Some (attributes_of last.number (node_of last after));
      })
      → (next : Tree) × SetAttrStep tree ctx handle wanted guard outcome file_attributes next × stands next
  set_step stands handle outcome last file_attributes is done tells = (
    tree_after tree (setting tree ctx wanted guard file.number node),
    subst (λ f. SetFound tree ctx wanted guard f outcome file_attributes
        (tree_after tree (setting tree ctx wanted guard file.number node))) (sym is)
        (by (refusal ctx wanted guard node) done.answered (done.there.there)),
    done.leads,
  )
    where
      parts : (after : Node) → node_of last done.body ≡ after → file_attributes ≡ change_of file.number node after
      parts after same =
          tells body done.body at.fits done.there.fits
          ∙ (λ i. record {
            before = Some (before_change node);
            after = Some (attributes_of (done.number_is i) (same i));
          })

      one : (t : Tree) (after : Node) → node_at t last.number ≡ Some (node_of last done.body)
          → node_at t file.number ≡ Some after → node_of last done.body ≡ after
      one t after here there =
          let same : Some (node_of last done.body) ≡ Some after =
          sym here ∙ ap (node_at t) done.number_is ∙ there in cc

      by : (test : Option Status) → outcome ≡ answer_of (effect test)
          → node_at (tree_after tree (effect test)) last.number ≡ Some (node_of last done.body)
          → SetOrLeft tree file.number node (with_attributes ctx.moment wanted node) test outcome file_attributes
          (tree_after tree (effect test))
      by None answered here = record {
        done = answered;
        parts = parts (with_attributes ctx.moment wanted node)
            (one (with_node tree file.number (with_attributes ctx.moment wanted node)) _ here
            (put_there tree file.number (with_attributes ctx.moment wanted node)));
        changed = refl;
      }
      by (Some why) answered here = record {
        refused = answered;
        parts = parts node (one tree node here at.there);
        unchanged = refl;
      }
