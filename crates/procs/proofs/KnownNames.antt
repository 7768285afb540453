-- What is known of the names of a call, wherever they lie and however much more is read.
use Rattle.std.proofs.Common.{◌≡◌, ℕ, Bool, true, false, if◌then◌else◌, ◌++◌, ◌∷◌, [], List, Option, Some, None}
use Rattle.std.proofs.Common.{ap, ◌∙◌, sym, subst}
use Rattle.std.proofs.lemmas.List.{append-nil}
use Rattle.nfs_types.specs.declared.call.Call.{Call}
use Rattle.objects.specs.declared.addr.Addr.{Addr}
use Rattle.txn.specs.Object.{ObjectBytes}
use Rattle.inode.specs.Snap.{is_seen, with_read}
use Rattle.inode.specs.declared.snap.Snap.{Snap}
use Rattle.dir.specs.declared.search.call_names.Names.{Names}
use Rattle.dir.specs.Search.Known.{IsKnown, IsOfCall}
use Rattle.dir.proofs.SearchLemmas.Stays.{stays}
use Rattle.procs.specs.Planning.{AreOf, IsKnownBy}

same_names : (a b : Names) → ◌≡◌ {A = Option Names} (Some a) (Some b) → a ≡ b
same_names a b same = ap (λ (o : Option Names). elim o [ None ↦ a | Some one ↦ one ]) same

no_names : (one : Names) → ◌≡◌ {A = Option Names} None (Some one) → ⊥
no_names one same = cc

pub none_known : (snap : Snap) → IsKnownBy snap None
none_known snap = record { known = λ one same. absurd (no_names one same) }

pub known_of : (snap : Snap) (names : Names) → IsKnown snap names → IsKnownBy snap (Some names)
known_of snap names is = record { known = λ one same. subst (IsKnown snap) (same_names names one same) is }

pub none_of : (call : Call) → AreOf call None
none_of call = record { of_call = λ one same. absurd (no_names one same) }

pub names_are_of : (call : Call) (names : Names) → IsOfCall call names → AreOf call (Some names)
names_are_of call names is = record { of_call = λ one same. subst (IsOfCall call) (same_names names one same) is }

pub stays_by : (snap later : Snap) (more : List ObjectBytes) (names : Option Names)
    → later.geometry ≡ snap.geometry → later.objects.items ≡ snap.objects.items ++ more → IsKnownBy snap names
    → IsKnownBy later names
stays_by snap later more names same objects is = record {
  known = λ one at. stays snap later more same objects one (is.known one at);
}

-- an object more was read, or one that was read before
pub read_by : (snap later : Snap) (addr : Addr) (bytes : List ℕ) (names : Option Names)
    → later.geometry ≡ snap.geometry → later.objects.items ≡ with_read addr bytes snap.objects.items
    → IsKnownBy snap names → IsKnownBy later names
read_by snap later addr bytes names same objects is = by (is_seen addr snap.objects.items) objects
  where
    one : ObjectBytes
    one = record { addr = addr; bytes = bytes }

    by : (seen : Bool)
        → later.objects.items ≡ (if seen then snap.objects.items else snap.objects.items ++ one ∷ [])
        → IsKnownBy later names
    by true objects = stays_by snap later [] names same (objects ∙ sym (append-nil snap.objects.items)) is
    by false objects = stays_by snap later (one ∷ []) names same objects is

pub same_by : (snap later : Snap) (names : Option Names) → later.geometry ≡ snap.geometry
    → later.objects.items ≡ snap.objects.items → IsKnownBy snap names → IsKnownBy later names
same_by snap later names same objects is =
    stays_by snap later [] names same (objects ∙ sym (append-nil snap.objects.items)) is
