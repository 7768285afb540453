-- NOTSUPP, IO and SERVERFAULT are no statuses of a SETATTR.
use Rattle.std.proofs.Common.{◌≡◌, ◌≢◌, ℕ, sym, subst, Bool, true, false, cond, ◌&&◌, nat_eq, nat_lt, List}
use Rattle.std.proofs.Common.{[], ◌∷◌}
use Rattle.std.proofs.Common.{length, Option, Some, None, Result, Ok, Err}
use Rattle.base.specs.declared.TheConstants.{HANDLE_BYTES, LARGEST_FILE}
use Rattle.nfs_types.specs.declared.attributes.NewAttributes.{NewAttributes}
use Rattle.nfs_types.specs.declared.attributes.WeakCacheData.{WeakCacheData}
use Rattle.nfs_types.specs.declared.ctx.Ctx.{Ctx}
use Rattle.nfs_types.specs.declared.ctx.Moment.{Moment}
use Rattle.nfs_types.specs.declared.handle.Stamp.{Stamp}
use Rattle.nfs_types.specs.declared.status.Status.{Status}
use Rattle.nfs_types.specs.declared.status.Status.TheVariants as status
use Rattle.nfs_spec.specs.Model.Node.{Node}
use Rattle.nfs_spec.specs.Model.Tree.{Tree, node_at}
use Rattle.nfs_spec.specs.Model.Find.{find_file, stamped, same_stamp, is_number, number_in, stamp_in}
use Rattle.nfs_spec.specs.Model.SetAttr.{SetAttrStep, SetFound, SetOrLeft, with_attributes, refusal, first_of_tests}
use Rattle.nfs_spec.specs.Model.SetAttr.{fails_guard}
use Rattle.nfs_spec.specs.Model.SetAttr.{is_invalid, is_not_permitted, is_no_access, given}

-- a status that no test answers
pub record IsUntested (s : Status) : Type 0 where
  bad_handle : status.BadHandle ≢ s
  stale : status.Stale ≢ s
  not_sync : status.NotSync ≢ s
  inval : status.Inval ≢ s
  perm : status.Perm ≢ s
  acces : status.Acces ≢ s
  fbig : status.FBig ≢ s

pub unsupported_is : IsUntested status.NotSupp
unsupported_is = record {
  bad_handle = λ e. cc;
  stale = λ e. cc;
  not_sync = λ e. cc;
  inval = λ e. cc;
  perm = λ e. cc;
  acces = λ e. cc;
  fbig = λ e. cc;
}

pub io_is : IsUntested status.Io
io_is = record {
  bad_handle = λ e. cc;
  stale = λ e. cc;
  not_sync = λ e. cc;
  inval = λ e. cc;
  perm = λ e. cc;
  acces = λ e. cc;
  fbig = λ e. cc;
}

pub server_fault_is : IsUntested status.ServerFault
server_fault_is = record {
  bad_handle = λ e. cc;
  stale = λ e. cc;
  not_sync = λ e. cc;
  inval = λ e. cc;
  perm = λ e. cc;
  acces = λ e. cc;
  fbig = λ e. cc;
}

-- a result that was refused for one status was refused for no other
abbrev failed : {A : Type 0} → Status → Result A Status
failed s = Err s

failed_is : {A : Type 0} (s t : Status) → failed {A = A} s ≡ failed t → s ≡ t
failed_is s t e = cc

abbrev some : Status → Option Status
some s = Some s

some_is : (s t : Status) → some s ≡ some t → s ≡ t
some_is s t e = cc

module _ (s : Status) (other : IsUntested s) where
  chosen-not : (b : Bool) (x : Result (ℕ × Node) Status) (t : Status) → x ≢ Err s → t ≢ s
      → cond b x (Err t) ≢ Err s
  chosen-not true x t one two e = one e
  chosen-not false x t one two e = two (failed_is t s e)

  stamped-not : (number : ℕ) (stamp : Stamp) (at : Option Node) → stamped number stamp at ≢ Err s
  stamped-not number stamp None e = other.stale (failed_is status.Stale s e)
  stamped-not number stamp (Some node) e =
      chosen-not (same_stamp stamp node.stamp) (Ok (number, node)) status.Stale (λ no. cc) other.stale e

  found-not : (tree : Tree) (handle : List ℕ) → find_file tree handle ≢ Err s
  found-not tree handle e =
      chosen-not (nat_eq (length handle) HANDLE_BYTES && is_number tree (number_in handle))
      (stamped (number_in handle) (stamp_in handle) (node_at tree (number_in handle))) status.BadHandle
      (stamped-not (number_in handle) (stamp_in handle) (node_at tree (number_in handle))) other.bad_handle e

  -- a list of tests without it
  test-not : (b : Bool) (t : Status) (rest : Option Status) → t ≢ s → rest ≢ Some s
      → cond b (Some t) rest ≢ Some s
  test-not true t rest one two e = one (some_is t s e)
  test-not false t rest one two e = two e

  tests-not : (a b c d f : Bool)
      → first_of_tests ((a, status.NotSync) ∷ (b, status.Inval) ∷ (c, status.Perm) ∷ (d, status.Acces)
      ∷ (f, status.FBig) ∷ []) ≢ Some s
  tests-not a b c d f =
      test-not a status.NotSync _ other.not_sync
      (test-not b status.Inval _ other.inval
      (test-not c status.Perm _ other.perm
      (test-not d status.Acces _ other.acces (test-not f status.FBig None other.fbig (λ no. cc)))))

  refusal-not : (ctx : Ctx) (wanted : NewAttributes) (guard : Option Moment) (node : Node)
      → refusal ctx wanted guard node ≢ Some s
  refusal-not ctx wanted guard node =
      tests-not (fails_guard guard node) (is_invalid wanted node)
      (is_not_permitted ctx.credential wanted node) (is_no_access ctx.credential wanted node)
      (given wanted.size (λ size. nat_lt LARGEST_FILE size))

  left-not : (tree next : Tree) (number : ℕ) (node new : Node) (file_attributes : WeakCacheData) (test : Option Status)
      → test ≢ Some s → SetOrLeft tree number node new test (Err s) file_attributes next → ⊥
  left-not tree next number node new file_attributes None not set = let no = set.done in cc
  left-not tree next number node new file_attributes (Some t) not left =
      let same : s ≡ t = failed_is s t left.refused in
      not (λ i. Some (sym same i))

  set-not : (tree next : Tree) (ctx : Ctx) (wanted : NewAttributes) (guard : Option Moment)
      (file_attributes : WeakCacheData) (found : Result (ℕ × Node) Status) → found ≢ Err s
      → SetFound tree ctx wanted guard found (Err s) file_attributes next → ⊥
  set-not tree next ctx wanted guard file_attributes (Ok found) not set =
      left-not tree next found.0 found.1 (with_attributes ctx.moment wanted found.1) file_attributes
      (refusal ctx wanted guard found.1) (refusal-not ctx wanted guard found.1) set
  set-not tree next ctx wanted guard file_attributes (Err t) not refused =
      let same : s ≡ t = failed_is s t refused.refused in
      not (λ i. Err (sym same i))

  pub no_answer : (tree next : Tree) (ctx : Ctx) (handle : List ℕ) (wanted : NewAttributes)
      (guard : Option Moment) (outcome : Result (Unit {0}) Status) (file_attributes : WeakCacheData)
      → SetAttrStep tree ctx handle wanted guard outcome file_attributes next → outcome ≢ Err s
  no_answer tree next ctx handle wanted guard outcome file_attributes step is =
      set-not tree next ctx wanted guard file_attributes (find_file tree handle) (found-not tree handle)
      (subst (λ o. SetAttrStep tree ctx handle wanted guard o file_attributes next) is step)
