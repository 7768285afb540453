-- What was read shows that the layout doesn't refuse the file of a handle.
use Rattle.std.proofs.Common.{rules, ◌≡◌, ℕ, ◌^◌, ◌<◌, inl, inr, sym, ap, ◌∙◌, subst, true, false}
use Rattle.std.proofs.Common.{◌&&◌, nat_eq, not, refl, List, [], Option, Some, None, Result, Ok, Err, arith}
use Rattle.std.proofs.lemmas.Bool.{eq-eqb}
use Rattle.base.specs.declared.TheConstants.{BLOCK_BYTES}
use Rattle.disk.specs.Crash.{Image}
use Rattle.nfs_types.specs.Handle.{handle_bytes}
use Rattle.nfs_types.specs.declared.handle.Stamp.{Stamp}
use Rattle.nfs_types.specs.declared.call.Call.{Call}
use Rattle.nfs_types.specs.declared.status.Status.TheVariants as status
use Rattle.nfs_spec.specs.Model.Find.{number_in, stamp_in}
use Rattle.nfs_spec.specs.Model.Refused.{refused}
use Rattle.layout.specs.declared.fault.LayoutFault.{LayoutFault}
use Rattle.layout.specs.declared.fault.LayoutFault.TheVariants.{Range}
use Rattle.layout.specs.declared.geometry.Geometry.{Geometry}
use Rattle.layout.specs.declared.inode.Inode.{Inode}
use Rattle.layout.specs.Decode.{inode_at}
use Rattle.procs.specs.declared.next.Plan.{Plan}
use Rattle.procs.specs.declared.next.Plan.TheVariants as plan
use Rattle.inode.specs.declared.snap.Snap.{Snap}
use Rattle.procs.specs.Outcome.{Outcome}
use Rattle.procs.specs.Refused.{IsDoneWith, IsIoWhereRefused, IsRefusedBy, IsRefusedFile, NamesNoData}
use Rattle.procs.specs.Refused.{NoneRead, NoneRefused, NoneRefusedIn, first_handle}
use Rattle.procs.proofs.FewAsked.{some_same}
use Rattle.procs.proofs.AskedFor.{indirect_data}
use Rattle.objects.specs.declared.addr.Addr.{Addr}
use Rattle.nfs_types.specs.declared.handle.Handle.{Handle}
use Rattle.layout.specs.Places.{is_data}
use Rattle.inode.specs.Read.{WasRead, WasReadInode}
use Rattle.procs_inspection.specs.Refused.{IsRefused, refused_block, refused_indirect, refused_numbers}
use Rattle.procs_inspection.proofs.Seen.{seen_of}

pub number_read : (number : ℕ) (stamp : Stamp) → number < 2 ^ 32
    → number_in (handle_bytes number stamp) ≡ number
number_read number stamp small = search rules

stamp_read : (number : ℕ) (stamp : Stamp) → stamp.boot < 2 ^ 64 → stamp.transaction < 2 ^ 64
    → stamp_in (handle_bytes number stamp) ≡ stamp
stamp_read number stamp boot transaction =
    let boot_is : (stamp_in (handle_bytes number stamp)).boot ≡ stamp.boot = search rules in
    let transaction_is : (stamp_in (handle_bytes number stamp)).transaction ≡ stamp.transaction =
    search rules in
    λ i. record { boot = boot_is i; transaction = transaction_is i }

abbrev Read : Type 0
Read = Result (Option Inode) LayoutFault

err_ok : (found : Option Inode) → ◌≡◌ {A = Read} (Err Range) (Ok found) → ⊥
err_ok found same = cc

some_none : (inode : Inode) → ◌≡◌ {A = Read} (Ok (Some inode)) (Ok None) → ⊥
some_none inode same = cc

never : true ≡ false → ⊥
never same = cc

module _ (g : Geometry) (blocks : Image) (handle : List ℕ) (number : ℕ) (stamp : Stamp)
    (is : handle ≡ handle_bytes number stamp) (small : number < 2 ^ 32) (boot : stamp.boot < 2 ^ 64)
    (transaction : stamp.transaction < 2 ^ 64) (refused : IsRefusedFile g blocks handle) where
  number_is : number_in handle ≡ number
  number_is = ap number_in is ∙ number_read number stamp small

  stamp_is : stamp_in handle ≡ stamp
  stamp_is = ap stamp_in is ∙ stamp_read number stamp boot transaction

  pub inside : (0 < number) × (number < g.inodes)
  inside =
      let some = refused.some in
      let less = refused.within in
      let same = number_is in
      (omega (arith, some, same), omega (arith, less, same))

  at_is : (found : Read) → inode_at g blocks number ≡ found → inode_at g blocks (number_in handle) ≡ found
  at_is found read = ap (inode_at g blocks) number_is ∙ read

  pub not_free : inode_at g blocks number ≡ Ok None → ⊥
  not_free read = elim refused.why [
    | inl fault ↦ err_ok None (sym fault ∙ at_is (Ok None) read)
    | inr some ↦ some_none some.0 (sym some.1 ∙ at_is (Ok None) read)
  ]

  module _ (inode : Inode) (read : inode_at g blocks number ≡ Ok (Some inode)) where
    pub not_stale : (inode.stamp ≡ stamp → ⊥) → ⊥
    not_stale differs = elim refused.why [
      | inl fault ↦ err_ok (Some inode) (sym fault ∙ at_is (Ok (Some inode)) read)
      | inr some ↦ differs
          (ap (λ (i : Inode). i.stamp) (some_same inode some.0 (sym (at_is (Ok (Some inode)) read) ∙ some.1))
          ∙ some.2 ∙ stamp_is)
    ]

    pub names_no_data : (NamesNoData g blocks inode → ⊥) → ⊥
    names_no_data none = elim refused.why [
      | inl fault ↦ err_ok (Some inode) (sym fault ∙ at_is (Ok (Some inode)) read)
      | inr some ↦
          none
          (subst (NamesNoData g blocks) (some_same some.0 inode (sym some.1 ∙ at_is (Ok (Some inode)) read)) some.3)
    ]

-- an indirect block that names no data, with its inode, was read and is refused
pub indirect_refused : (snap : Snap) (blocks : Image) (number : ℕ) (inode : Inode) (addr : Addr) (bytes : List ℕ)
    → number < snap.geometry.inodes → WasReadInode snap.geometry snap.objects.items number inode
    → inode_at snap.geometry blocks number ≡ Ok (Some inode) → is_data snap.geometry inode.indirect ≡ true
    → addr.block.0 ≡ inode.indirect → addr.offset ≡ 0 → addr.len ≡ BLOCK_BYTES
    → WasRead snap.objects.items addr bytes → NamesNoData snap.geometry blocks inode → IsRefused snap blocks
indirect_refused snap blocks number inode addr bytes less inode_read is lies block offset len indirect_read names = record {
  number = number;
  addr = inode_read.addr;
  at =
      record { less = less; block = inode_read.at.block; offset = inode_read.at.offset; len = inode_read.at.len };
  read =
      seen_of inode_read.addr inode_read.read.object snap.objects.items inode_read.read.there inode_read.read.at;
  file = refused_block inode is (refused_numbers (refused_indirect (record {
    read = record {
      lies = lies;
      addr = addr;
      block = block;
      offset = offset;
      len = len;
      read = seen_of addr indirect_read.object snap.objects.items indirect_read.there indirect_read.at;
      whole = names.whole;
    };
    names = names.refused;
  })));
}

-- an inode that was read and has an indirect block has a data block there
pub no_data_none : (snap : Snap) (blocks : Image) (number : ℕ) (inode : Inode)
    → WasReadInode snap.geometry snap.objects.items number inode → is_data snap.geometry inode.indirect ≡ false
    → NamesNoData snap.geometry blocks inode → ⊥
no_data_none snap blocks number inode read not names =
    never (sym (indirect_data snap number inode read names.some) ∙ not)

pub none_in : (asked : Call) (snap : Snap) (handle : Handle) → first_handle asked ≡ Some handle
    → NoneRefused snap handle.bytes → NoneRefusedIn snap asked
none_in asked snap handle is none = λ blocks saw refused.
    none blocks saw (subst (IsRefusedBy snap.geometry blocks) is refused)

pub none_without : (asked : Call) (snap : Snap) → first_handle asked ≡ None → NoneRefusedIn snap asked
none_without asked snap is = λ blocks saw refused. subst (IsRefusedBy snap.geometry blocks) is refused

-- ---- the test of stamps

pub stamps_differ : (a b : Stamp) → not (nat_eq a.boot b.boot && nat_eq a.transaction b.transaction) ≡ true
    → a ≡ b → ⊥
stamps_differ a b e is =
    let clash : false ≡ true =
    sym (ap (λ (s : Stamp). not (nat_eq s.boot b.boot && nat_eq s.transaction b.transaction)) is
    ∙ (λ i. not (eq-eqb b.boot b.boot refl i && eq-eqb b.transaction b.transaction refl i))) ∙ e in cc

-- ---- plans

pub io_by_none : (asked : Call) (snap : Snap) (next : Plan) → NoneRefusedIn snap asked × NoneRead snap
    → IsIoWhereRefused asked snap next
io_by_none asked snap (plan.Done done) none = λ blocks saw refused. elim refused [
  | inl first ↦ absurd (none.0 blocks saw first)
  | inr read ↦ absurd (none.1 blocks saw read)
]
io_by_none asked snap (plan.Need addr mode) none = tt
io_by_none asked snap (plan.Claim block) none = tt
io_by_none asked snap (plan.NoMemory error) none = tt

pub io_by_reply : (asked : Call) (snap : Snap) (next : Plan) (outcome : Outcome) → IsDoneWith outcome next
    → outcome.reply ≡ refused status.Io asked → outcome.written ≡ [] → IsIoWhereRefused asked snap next
io_by_reply asked snap (plan.Done done) outcome is reply written = λ blocks saw refused. (
  ap (λ (o : Outcome). o.reply) is ∙ reply,
  ap (λ (o : Outcome). o.written) is ∙ written,
)
io_by_reply asked snap (plan.Need addr mode) outcome is reply written = tt
io_by_reply asked snap (plan.Claim block) outcome is reply written = tt
io_by_reply asked snap (plan.NoMemory error) outcome is reply written = tt
