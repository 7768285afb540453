-- New files by the tests of their places, and what is known where these are passed.
use Rattle.std.proofs.Common.{◌≡◌, ℕ, sym, ap, subst, ◌∙◌, refl, Bool, false, not, is_some}
use Rattle.std.proofs.Common.{lit<, nat_eq, nat_lt, T, List, [], ◌++◌, length, Option, Some, None, Result, Err, arith}
use Rattle.std.proofs.lemmas.Bool.Decides.{nat_tests}
use Rattle.std.specs.Cmp.Lexicographic.{slice_cmp}
use Rattle.std.specs.FinMap as map
use Rattle.std.specs.FinSet as set
use Rattle.std.specs.Ordering.{nat_cmp}
use Rattle.base.specs.declared.TheConstants.{TARGET_BYTES}
use Rattle.nfs_types.specs.Fits.{AreBytes, NewAttributesFit}
use Rattle.nfs_types.specs.declared.attributes.NewAttributes.{NewAttributes}
use Rattle.nfs_types.specs.declared.reply.Created.{Created}
use Rattle.nfs_types.specs.declared.status.Status.{Status}
use Rattle.nfs_spec.specs.Model.Names.{is_directory}
use Rattle.nfs_spec.specs.Model.Node.{Node, DirentValue}
use Rattle.nfs_spec.specs.Model.SetAttr.{first_of_tests}
use Rattle.nfs_spec.specs.Model.Sound.{SoundBytes, SoundEntries, SoundTarget}
use Rattle.nfs_spec.specs.Model.Tree.{Tree}
use Rattle.nfs_spec.proofs.ProceduresLemmas.TreeChanges.{Placed, passed}
use Rattle.nfs_spec.proofs.ProceduresLemmas.Numbers.{new_number}
use Rattle.nfs_spec.proofs.ProceduresLemmas.Tests.{passes}
use Rattle.nfs_spec.specs.Procedures.FirstTests.{is_long, is_no_name, dentry_tests, unless}
use Rattle.nfs_spec.specs.Procedures.Fresh.{without_size}
use Rattle.nfs_spec.specs.Procedures.Places.{is_own_name}
use Rattle.nfs_spec.specs.Procedures.StepForms.{Effect, answer_of, tree_after}
use Rattle.procs_names.proofs.LinksLemmas.Doing.{behind, done_not, stopped, unless_passed, unless_stopped}
use Rattle.procs_updates.specs.Creates.Making.{IsMade}

-- ---- tests of the place, and those behind them

module _ (stands : Tree → Type 0) (tree : Tree) (first rest : List (Bool × Status))
    (act : Option ℕ → Result (Effect Created) Status) where
  abbrev effect : Option ℕ → Result (Effect Created) Status
  effect new = unless (first_of_tests (first ++ rest)) (act new)

  refused_by : (why : Status) → first_of_tests (first ++ rest) ≡ Some why → stands tree
      → IsMade stands tree effect (Err why)
  refused_by why is still =
      let number = new_number tree in
      record {
        new = number.new;
        is_new = number.is;
        done = done_not stands tree (effect number.new) why
            (unless_stopped (first_of_tests (first ++ rest)) why (act number.new) is) still;
      }

  pub refused_first : (why : Status) → first_of_tests first ≡ Some why → stands tree
      → IsMade stands tree effect (Err why)
  refused_first why is still = refused_by why (stopped first rest why is) still

  pub refused_then : (why : Status) → first_of_tests first ≡ None → first_of_tests rest ≡ Some why → stands tree
      → IsMade stands tree effect (Err why)
  refused_then why none is still = refused_by why (behind first rest none ∙ is) still

  pub not_refused : (outcome : Result Created Status) → first_of_tests first ≡ None → first_of_tests rest ≡ None
      → IsMade stands tree act outcome → IsMade stands tree effect outcome
  not_refused outcome none also made =
      let same = unless_passed (first_of_tests (first ++ rest)) (act made.new) (behind first rest none ∙ also) in
      record {
        new = made.new;
        is_new = made.is_new;
        done = record {
          answered = made.done.answered ∙ ap (λ e. answer_of e) (sym same);
          leads = subst (λ e. stands (tree_after tree e)) (sym same) made.done.leads;
        };
      }

-- the place of a name that passed its tests
pub is_placed : (allowed : Bool) (directory : Node) (name : List ℕ)
    → first_of_tests (dentry_tests allowed directory name) ≡ None → is_own_name name ≡ false
    → Placed directory name
is_placed allowed directory name none own =
    let kind = passed (not (is_directory directory.body)) _ _ none in
    let lawful = passed (is_no_name name) _ _ kind.1 in
    let short = passed (is_long name) _ _ lawful.1 in
    record {
      directory_is = passes _ kind.0;
      lawful = lawful.0;
      short = short.0;
      not_own = own;
    }

pub none_there : (file : Option (ℕ × Node)) → is_some file ≡ false → file ≡ None
none_there None e = refl
none_there (Some file) e = cc

-- ---- what is in new files

no_name : (name : List ℕ) (dirent : DirentValue)
    → map.get (map.empty {X = DirentValue} {R = slice_cmp nat_cmp}) name ≡ Some dirent → ⊥
no_name name dirent is = let none = sym (map.get-empty (slice_cmp nat_cmp) name) ∙ is in cc

pub no_names_sound : SoundEntries map.empty 0
no_names_sound = record {
  blocks = omega arith;
  names = λ name dirent is. absurd (no_name name dirent is);
  slots = λ name dirent is. absurd (no_name name dirent is);
  distinct = λ one other a b is too same. absurd (no_name one a is);
}

pub no_bytes_sound : SoundBytes [] set.empty
no_bytes_sound = record {
  each = λ index. lit< tt;
  size = omega arith;
  indexes = λ index is. absurd (subst T (sym is ∙ set.contains-empty nat_cmp index) tt);
  zeros = λ offset free. refl;
}

pub target_sound : (target : List ℕ) → AreBytes target → nat_eq (length target) 0 ≡ false
    → nat_lt TARGET_BYTES (length target) ≡ false → SoundTarget target
target_sound target bytes some short = record {
  bytes = bytes;
  some = grind (arith, nat_tests, some);
  short = grind (arith, nat_tests, short);
}

pub unsized : (wanted : NewAttributes) → NewAttributesFit wanted → NewAttributesFit (without_size wanted)
unsized wanted fits = record {
  mode = fits.mode;
  uid = fits.uid;
  gid = fits.gid;
  size = tt;
  atime = fits.atime;
  mtime = fits.mtime;
}
