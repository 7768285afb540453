-- What a call does that acts on a directory that its handle names.
use Rattle.std.proofs.Common.{◌≡◌, ℕ, sym, ap, subst, ◌∙◌, refl, Bool, true, false, cond, List, [], ◌∷◌, ◌++◌}
use Rattle.std.proofs.Common.{Option, Some, None, Result, Ok, Err}
use Rattle.nfs_types.specs.declared.attributes.WeakCacheData.{WeakCacheData}
use Rattle.nfs_types.specs.declared.status.Status.{Status}
use Rattle.nfs_spec.specs.Model.Attributes.{before_change, untold}
use Rattle.nfs_spec.specs.Model.Find.{find_file}
use Rattle.nfs_spec.specs.Model.Node.{Node}
use Rattle.nfs_spec.specs.Model.SetAttr.{first_of_tests}
use Rattle.nfs_spec.specs.Model.Tree.{Tree}
use Rattle.nfs_spec.specs.Procedures.FirstTests.{found_then, unless}
use Rattle.nfs_spec.specs.Procedures.StepForms.{Acts, Effect, answer_of, attributes_at, change_between, tree_after}
use Rattle.procs_files.specs.Heads.{IsDone, IsNamed, node_of}
use Rattle.procs_files.specs.declared.inode_attributes.InodeAttributes.{InodeAttributes}

-- ---- tests in two parts

behind_one : (b : Bool) (s : Status) (one both other : Option Status) → cond b (Some s) one ≡ None
    → (one ≡ None → both ≡ other) → cond b (Some s) both ≡ other
behind_one true s one both other none then = cc
behind_one false s one both other none then = then none

pub behind : (first rest : List (Bool × Status)) → first_of_tests first ≡ None
    → first_of_tests (first ++ rest) ≡ first_of_tests rest
behind [] rest none = refl
behind (test ∷ tests) rest none =
    behind_one test.0 test.1 (first_of_tests tests) (first_of_tests (tests ++ rest)) (first_of_tests rest) none
    (behind tests rest)

stopped_one : (b : Bool) (s why : Status) (one both : Option Status) → cond b (Some s) one ≡ Some why
    → (one ≡ Some why → both ≡ Some why) → cond b (Some s) both ≡ Some why
stopped_one true s why one both is then = is
stopped_one false s why one both is then = then is

pub stopped : (first rest : List (Bool × Status)) (why : Status) → first_of_tests first ≡ Some why
    → first_of_tests (first ++ rest) ≡ Some why
stopped [] rest why is = cc
stopped (test ∷ tests) rest why is =
    stopped_one test.0 test.1 why (first_of_tests tests) (first_of_tests (tests ++ rest)) is
    (stopped tests rest why)

-- ---- what is done

module _ {A : Type 0} (stands : Tree → Type 0) (tree : Tree) (effect : Result (Effect A) Status) where
  pub done_not : (why : Status) → effect ≡ Err why → stands tree → IsDone stands tree effect (Err why)
  done_not why is at = record {
    answered = ap answer_of (sym is);
    leads = subst (λ e. stands (tree_after tree e)) (sym is) at;
  }

  pub done_so : (done : Effect A) → effect ≡ Ok done → stands done.next
      → IsDone stands tree effect (Ok done.answer)
  done_so done is at = record {
    answered = ap answer_of (sym is);
    leads = subst (λ e. stands (tree_after tree e)) (sym is) at;
  }

pub unless_stopped : {A : Type 0} (refusal : Option Status) (why : Status) (act : Result A Status)
    → refusal ≡ Some why → unless refusal act ≡ Err why
unless_stopped refusal why act is = ap (λ r. unless r act) is

pub unless_passed : {A : Type 0} (refusal : Option Status) (act : Result A Status) → refusal ≡ None
    → unless refusal act ≡ act
unless_passed refusal act is = ap (λ r. unless r act) is

-- ---- the whole call

module _ {A : Type 0} (tree : Tree) (handle : List ℕ) (act : ℕ → Node → Result (Effect A) Status)
    (stands : Tree → Type 0) (outcome : Result A Status) (file_attributes : WeakCacheData) where
  pub acted : (inode_attributes : InodeAttributes) (named : IsNamed tree (find_file tree handle) (Ok inode_attributes))
      → IsDone stands tree (act inode_attributes.number (node_of inode_attributes named.0)) outcome
      → ((next : Tree) → stands next → file_attributes ≡ record {
        before = Some (before_change (node_of inode_attributes named.0));
        after = attributes_at next inode_attributes.number;
      })
      → (next : Tree) × Acts tree handle act outcome file_attributes next × stands next
  acted inode_attributes named done tell =
      let node = node_of inode_attributes named.0 in
      let next = tree_after tree (act inode_attributes.number node) in (
        next,
        record {
          answered = done.answered ∙ ap (λ f. answer_of (found_then f act)) (sym named.1);
          leads = ap (λ f. tree_after tree (found_then f act)) (sym named.1);
          parts = tell next done.leads ∙ ap (change_between next) (sym named.1);
        },
        done.leads,
      )

  pub not_acted : (why : Status) → IsNamed tree (find_file tree handle) (Err why) → outcome ≡ Err why
      → file_attributes ≡ untold → stands tree
      → (next : Tree) × Acts tree handle act outcome file_attributes next × stands next
  not_acted why named is none at = (
    tree,
    record {
      answered = is ∙ ap (λ f. answer_of (found_then f act)) (sym named);
      leads = ap (λ f. tree_after tree (found_then f act)) (sym named);
      parts = none ∙ ap (change_between tree) (sym named);
    },
    at,
  )
