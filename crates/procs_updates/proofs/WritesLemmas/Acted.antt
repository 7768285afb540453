-- What is done with the file that a handle names is a step, and keeps a sound tree sound.
use Rattle.std.proofs.Common.{◌≡◌, ℕ, sym, ap, subst, ◌∙◌, refl, List, Option, Some, None, Result, Ok, Err}
use Rattle.std.specs.Option.{option_map}
use Rattle.nfs_types.specs.Fits.{CallFits}
use Rattle.nfs_types.specs.declared.attributes.WeakCacheData.{WeakCacheData}
use Rattle.nfs_types.specs.declared.call.Call.{Call}
use Rattle.nfs_types.specs.declared.ctx.Ctx.{Ctx}
use Rattle.nfs_types.specs.declared.reply.Reply.{Reply}
use Rattle.nfs_types.specs.declared.status.Status.{Status}
use Rattle.nfs_spec.specs.Model.Attributes.{attributes_of, before_change, untold}
use Rattle.nfs_spec.specs.Model.Find.{find_file}
use Rattle.nfs_spec.specs.Model.Node.{Node, Body}
use Rattle.nfs_spec.specs.Model.Sound.{Sound, SoundCtx}
use Rattle.nfs_spec.specs.Model.Tree.{Tree, node_at, with_node}
use Rattle.nfs_spec.proofs.ProceduresLemmas.SoundSteps.{step_sound}
use Rattle.nfs_spec.specs.Procedures.FirstTests.{found_then, unless}
use Rattle.nfs_spec.specs.Procedures.Fresh.{IsNewNumber}
use Rattle.nfs_spec.specs.Procedures.Step.{numbered_step}
use Rattle.nfs_spec.specs.Procedures.StepForms.{Acts, Effect, answer_of, change_between, tree_after}
use Rattle.procs_files.specs.declared.inode_attributes.InodeAttributes.{InodeAttributes}
use Rattle.procs_files.specs.Writable.{headed}
use Rattle.procs_files.specs.Heads.{IsBodyOf, IsFileIn, node_of}
use Rattle.procs_updates.specs.Writes.Acting.{IsActed}
use Rattle.procs_updates.proofs.WritesLemmas.Touched.{put_there}

-- a refused handle
pub not_found : {A : Type 0} (tree : Tree) (handle : List ℕ) (act : ℕ → Node → Result (Effect A) Status)
    (status : Status) (outcome : Result A Status) (file_attributes : WeakCacheData) → find_file tree handle ≡ Err status
    → outcome ≡ Err status → file_attributes ≡ untold → Acts tree handle act outcome file_attributes tree
not_found tree handle act status outcome file_attributes is answered parts = record {
  answered = answered ∙ ap (λ f. answer_of (found_then f act)) (sym is);
  leads = ap (λ f. tree_after tree (found_then f act)) (sym is);
  parts = parts ∙ ap (change_between tree) (sym is);
}

-- what the act itself answers and leads to is a step
acts_so : {A : Type 0} (tree : Tree) (handle : List ℕ) (act : ℕ → Node → Result (Effect A) Status)
    → Acts tree handle act (answer_of (found_then (find_file tree handle) act))
    (change_between (tree_after tree (found_then (find_file tree handle) act)) (find_file tree handle))
    (tree_after tree (found_then (find_file tree handle) act))
acts_so tree handle act = record { answered = refl; leads = refl; parts = refl }

module _ {A : Type 0} (tree : Tree) (handle : List ℕ) (act : ℕ → Node → Result (Effect A) Status) (inode_attributes : InodeAttributes)
    (body : Body) (is : find_file tree handle ≡ Ok (inode_attributes.number, node_of inode_attributes body)) where
  abbrev next : Tree
  next = tree_after tree (act inode_attributes.number (node_of inode_attributes body))

  -- its tree is sound
  pub next_sound : (ctx : Ctx) (asked : Call) (new : Option ℕ) (reply : Result A Status → WeakCacheData → Reply)
      → Sound tree → SoundCtx ctx → CallFits asked → IsNewNumber tree new
      → ((outcome : Result A Status) (file_attributes : WeakCacheData) (after : Tree) → Acts tree handle act outcome file_attributes after
      → numbered_step tree ctx new asked (reply outcome file_attributes) after)
      → Sound next
  next_sound ctx asked new reply good now fits is_new steps =
      subst (λ f. Sound (tree_after tree (found_then f act))) is
      (step_sound tree _ ctx asked (reply _ _) good now fits (record {
        new = new;
        is_new = is_new;
        leads = steps _ _ _ (acts_so tree handle act);
      }))

  -- it is what was done
  pub acted : (stands : Tree → Type 0) (outcome : Result A Status) (last : InodeAttributes) (file_attributes : WeakCacheData)
      → IsBodyOf inode_attributes body
      → IsActed stands tree inode_attributes.number (act inode_attributes.number (node_of inode_attributes body)) outcome last
      → ((body after : Body) → IsBodyOf inode_attributes body → IsBodyOf last after → file_attributes ≡ record {
        before = Some (before_change (node_of inode_attributes body));
        after = Some (attributes_of last.number (node_of last after));
      })
      → (next : Tree) × Acts tree handle act outcome file_attributes next × stands next
  acted stands outcome last file_attributes fits done tells = (
    next,
    record {
      answered = done.answered ∙ ap (λ f. answer_of (found_then f act)) (sym is);
      leads = ap (λ f. tree_after tree (found_then f act)) (sym is);
      parts = tells body done.body fits done.there.fits
          ∙ (λ i. record {
            before = Some (before_change (node_of inode_attributes body));
            after = there i;
          })
          ∙ ap (change_between next) (sym is);
    },
    done.leads,
  )
    where
      there : Some (attributes_of last.number (node_of last done.body))
          ≡ option_map (attributes_of inode_attributes.number) (node_at next inode_attributes.number)
      there = ap (λ n. Some (attributes_of n (node_of last done.body))) done.number_is
          ∙ ap (option_map (attributes_of inode_attributes.number)) (sym done.there.there
          ∙ ap (node_at next) done.number_is)

-- a file was put under its number
pub put_acted : {A : Type 0} (stands : Tree → Type 0) (tree : Tree) (number : ℕ)
    (effect : Result (Effect A) Status) (outcome : Result A Status) (last inode_attributes : InodeAttributes) (new : Body) (answer : A)
    → effect ≡ Ok (record { answer = answer; next = with_node tree inode_attributes.number (node_of inode_attributes new) })
    → last ≡ headed inode_attributes new → inode_attributes.number ≡ number → IsBodyOf (headed inode_attributes new) new → outcome ≡ Ok answer
    → stands (with_node tree inode_attributes.number (node_of inode_attributes new)) → IsActed stands tree number effect outcome last
put_acted stands tree number effect outcome last inode_attributes new answer is same number_is fits proven stand = record {
  answered = proven ∙ ap answer_of (sym is);
  leads = subst (λ e. stands (tree_after tree e)) (sym is) stand;
  number_is = ap (λ (h : InodeAttributes). h.number) same ∙ number_is;
  body = new;
  there = subst (λ t. IsFileIn t last new) (ap (tree_after tree) (sym is))
      (subst (λ h. IsFileIn (with_node tree inode_attributes.number (node_of inode_attributes new)) h new) (sym same) (record {
        there = put_there tree inode_attributes.number (node_of inode_attributes new);
        fits = fits;
      }));
}

-- nothing was done
pub left_acted : {A : Type 0} (stands : Tree → Type 0) (tree : Tree) (effect : Result (Effect A) Status)
    (outcome : Result A Status) (last inode_attributes : InodeAttributes) (body : Body) (why : Status) → IsFileIn tree inode_attributes body
    → stands tree → effect ≡ Err why → outcome ≡ Err why → last ≡ inode_attributes
    → IsActed stands tree inode_attributes.number effect outcome last
left_acted stands tree effect outcome last inode_attributes body why at stand is proven same = record {
  answered = proven ∙ ap answer_of (sym is);
  leads = subst (λ e. stands (tree_after tree e)) (sym is) stand;
  number_is = ap (λ (h : InodeAttributes). h.number) same;
  body = body;
  there = subst (λ t. IsFileIn t last body) (ap (tree_after tree) (sym is))
      (subst (λ h. IsFileIn tree h body) (sym same) at);
}

-- a test that refuses nothing
pub unless_none : {A : Type 0} (test : Option Status) (r : Result A Status) → test ≡ None → unless test r ≡ r
unless_none test r is = ap (λ t. unless t r) is
