-- What a handle is found to name whose number and stamp are known.
use Rattle.std.proofs.Common.{rules, ◌≡◌, ◌≢◌, ℕ, ◌^◌, ◌<◌, ap, ◌∙◌, refl, Bool, true, false, cond, ◌&&◌}
use Rattle.std.proofs.Common.{List, length, nat_eq, nat_lt, Some, Ok, Err}
use Rattle.base.specs.declared.TheConstants.{HANDLE_BYTES}
use Rattle.nfs_types.specs.Handle.{handle_bytes}
use Rattle.nfs_types.specs.declared.handle.Stamp.{Stamp}
use Rattle.nfs_types.specs.declared.status.Status.TheVariants as status
use Rattle.nfs_spec.specs.Model.Node.{Node}
use Rattle.nfs_spec.specs.Model.Tree.{Tree, node_at}
use Rattle.nfs_spec.specs.Model.Find.{find_file, stamped, number_in, stamp_in, is_number}

number_read : (number : ℕ) (stamp : Stamp) → number < 2 ^ 32 → number_in (handle_bytes number stamp) ≡ number
number_read number stamp small = search rules

boot_read : (number : ℕ) (stamp : Stamp) → stamp.boot < 2 ^ 64
    → (stamp_in (handle_bytes number stamp)).boot ≡ stamp.boot
boot_read number stamp small = search rules

transaction_read : (number : ℕ) (stamp : Stamp) → stamp.transaction < 2 ^ 64
    → (stamp_in (handle_bytes number stamp)).transaction ≡ stamp.transaction
transaction_read number stamp small = search rules

long_enough : (number : ℕ) (stamp : Stamp) → length (handle_bytes number stamp) ≡ HANDLE_BYTES
long_enough number stamp = search rules

nat_lt-is : (a b : ℕ) → a < b → nat_lt a b ≡ true
nat_lt-is a b h = search rules

nat_eq-is : (a b : ℕ) → a ≡ b → nat_eq a b ≡ true
nat_eq-is a b h = search rules

chosen : {A : Type 0} (a b : Bool) (x y : A) → a ≡ true → b ≡ true → cond (a && b) x y ≡ x
chosen true true x y p q = refl
chosen true false x y p q = cc
chosen false b x y p q = cc

both : (a b : Bool) → a ≡ true → b ≡ true → (a && b) ≡ true
both true b p q = q
both false b p q = p

pub handled : (tree : Tree) (bytes : List ℕ) (number : ℕ) (stamp : Stamp) → bytes ≡ handle_bytes number stamp
    → number < 2 ^ 32 → stamp.boot < 2 ^ 64 → stamp.transaction < 2 ^ 64
    → 0 < number → number < tree.geometry.inodes
    → find_file tree bytes ≡ stamped number stamp (node_at tree number)
handled tree bytes number stamp is n b t least most =
    let number_is : number_in (handle_bytes number stamp) ≡ number = number_read number stamp n in
    let boot_is = boot_read number stamp b in
    let transaction_is = transaction_read number stamp t in
    let stamp_is : stamp_in (handle_bytes number stamp) ≡ stamp =
    λ i. record { boot = boot_is i; transaction = transaction_is i } in
    ap (find_file tree) is
    ∙ chosen (nat_eq (length (handle_bytes number stamp)) HANDLE_BYTES)
    (is_number tree (number_in (handle_bytes number stamp))) _ _ (nat_eq-is _ _ (long_enough number stamp))
    (ap (is_number tree) number_is
    ∙ both (nat_lt 0 number) (nat_lt number tree.geometry.inodes) (nat_lt-is 0 number least)
    (nat_lt-is number tree.geometry.inodes most))
    ∙ (λ i. stamped (number_is i) (stamp_is i) (node_at tree (number_is i)))

-- the stamp of the file
pub stamped_ok : (number : ℕ) (stamp : Stamp) (node : Node) → stamp.boot ≡ node.stamp.boot
    → stamp.transaction ≡ node.stamp.transaction → stamped number stamp (Some node) ≡ Ok (number, node)
stamped_ok number stamp node b t =
    chosen (nat_eq stamp.boot node.stamp.boot) (nat_eq stamp.transaction node.stamp.transaction)
    (Ok (number, node)) (Err status.Stale) (nat_eq-is _ _ b) (nat_eq-is _ _ t)

nat_eq-not : (a b : ℕ) → a ≢ b → nat_eq a b ≡ false
nat_eq-not a b h = search rules

not_first : {A : Type 0} (a b : Bool) (x y : A) → a ≡ false → cond (a && b) x y ≡ y
not_first true b x y p = cc
not_first false b x y p = refl

not_second : {A : Type 0} (a b : Bool) (x y : A) → b ≡ false → cond (a && b) x y ≡ y
not_second true b x y p = ap (λ v. cond v x y) p
not_second false b x y p = refl

-- another boot
pub stale_boot : (number : ℕ) (stamp : Stamp) (node : Node) → stamp.boot ≢ node.stamp.boot
    → stamped number stamp (Some node) ≡ Err status.Stale
stale_boot number stamp node b =
    not_first (nat_eq stamp.boot node.stamp.boot) (nat_eq stamp.transaction node.stamp.transaction)
    (Ok (number, node)) (Err status.Stale) (nat_eq-not _ _ b)

-- another transaction
pub stale_transaction : (number : ℕ) (stamp : Stamp) (node : Node)
    → stamp.transaction ≢ node.stamp.transaction → stamped number stamp (Some node) ≡ Err status.Stale
stale_transaction number stamp node t =
    not_second (nat_eq stamp.boot node.stamp.boot) (nat_eq stamp.transaction node.stamp.transaction)
    (Ok (number, node)) (Err status.Stale) (nat_eq-not _ _ t)
