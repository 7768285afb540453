-- A slot that has a name is what the directory's entries have under it.
use Rattle.std.proofs.Common.{◌≡◌, ℕ, zero, suc, ◌+◌, ◌*◌, ◌≤◌, inl, inr, sym, ap, ◌∙◌, refl, Bool, true, false}
use Rattle.std.proofs.Common.{cond, List, Option, Some, None, Result, Ok, Err, arith}
use Rattle.std.proofs.lemmas.Bool.{cases_lt}
use Rattle.std.specs.Cmp.Lexicographic.{nat_list_cmp_total, slice_cmp}
use Rattle.std.specs.FinMap.{IsAntisymmetric, find, get, get-from_entries, nat_cmp-IsAntisymmetric}
use Rattle.std.specs.FinMap.{slice_cmp-IsAntisymmetric}
use Rattle.std.specs.List.{cons_option, filter_map, range_with_len}
use Rattle.std.specs.Option.{option_map}
use Rattle.std.specs.Ordering.{is_eq, nat_cmp}
use Rattle.base.specs.declared.TheConstants.{SLOTS_PER_BLOCK}
use Rattle.disk.specs.Crash.{Image}
use Rattle.layout.specs.declared.fault.LayoutFault.{LayoutFault}
use Rattle.layout.specs.declared.geometry.Geometry.{Geometry}
use Rattle.layout.specs.declared.inode.Inode.{Inode}
use Rattle.layout.specs.declared.slot.Slot.{Slot}
use Rattle.layout.specs.Decode.{IsDirectory, entries_in, dirent_in, named_in, span_of}
use Rattle.layout.specs.SlotForm.{number_under}
use Rattle.nfs_spec.specs.Model.Node.{DirentValue}
use Rattle.procs_files.specs.declared.dirent.SlotDirent.{SlotDirent}
use Rattle.dir.specs.Slots.{IsFound, Lying, NoneHas, slot_at}
use Rattle.procs_files.specs.Heads.{dirent_of}
use Rattle.dir.proofs.Distinct.{Once, found_once, tied}
use Rattle.dir.proofs.Members.{in_range, same}

abbrev Read : Type 0
Read = Result (Option Slot) LayoutFault

abbrev pub entries : Lying → ℕ → ℕ → List (List ℕ × DirentValue)
entries lies a n = filter_map (λ index. dirent_in index (lies index)) (range_with_len a n)

abbrev seek : List ℕ → List (List ℕ × DirentValue) → Option DirentValue
seek name es = find (slice_cmp nat_cmp) name es

pub exact : IsAntisymmetric (slice_cmp nat_cmp)
exact = slice_cmp-IsAntisymmetric nat_cmp-IsAntisymmetric

-- ---- one slot

abbrev Under : Type 0
Under = Result (Option ℕ) LayoutFault

ok_of : (a b : Option ℕ) → ◌≡◌ {A = Under} (Ok a) (Ok b) → a ≡ b
ok_of a b e = ap (λ (r : Under). elim r [ Ok v ↦ v | Err f ↦ a ]) e

not_under : (test : Bool) (number : ℕ)
    → ((other : ℕ) → ◌≡◌ {A = Under} (Ok (cond test (Some number) None)) (Ok (Some other)) → ⊥) → test ≡ false
not_under true number none = absurd (none number refl)
not_under false number none = refl

is_under : (test : Bool) (number wanted : ℕ) → ◌≡◌ {A = Option ℕ} (cond test (Some number) None) (Some wanted)
    → (test ≡ true) × (number ≡ wanted)
is_under true number wanted e = (refl, same number wanted e)
is_under false number wanted e = cc

skipped : (name : List ℕ) (slot : ℕ) (read : Read) (es : List (List ℕ × DirentValue))
    → ((number : ℕ) → number_under name read ≡ Ok (Some number) → ⊥)
    → seek name (cons_option (dirent_in slot read) es) ≡ seek name es
skipped name slot (Ok None) es none = refl
skipped name slot (Ok (Some one)) es none =
    ap (λ b. cond b (Some (record { number = one.number; slot = slot })) (seek name es))
    (not_under (is_eq (slice_cmp nat_cmp name one.name)) one.number none)
skipped name slot (Err fault) es none = refl

taken : (name : List ℕ) (slot wanted : ℕ) (read : Read) → number_under name read ≡ Ok (Some wanted)
    → dirent_in slot read ≡ Some (name, record { number = wanted; slot = slot })
taken name slot wanted (Ok None) e = cc
taken name slot wanted (Ok (Some one)) e =
    let both = is_under (is_eq (slice_cmp nat_cmp name one.name)) one.number wanted (ok_of _ (Some wanted) e) in
    let other = sym (tied exact name one.name both.0) in
    λ i. Some (other i, record { number = both.1 i; slot = slot })
taken name slot wanted (Err fault) e = cc

-- ---- all slots

module _ (lies : Lying) (name : List ℕ) where
  pub none_found : (a n : ℕ) → NoneHas lies name a (a + n) → seek name (entries lies a n) ≡ None
  none_found a zero none = refl
  none_found a (suc n) none =
      skipped name a (lies a) (entries lies (a + 1) n) (λ number. none a number (omega arith) (omega arith))
      ∙ none_found (a + 1) n (λ slot number low less. none slot number (omega (arith, low)) (omega (arith, less)))

  -- where no name stands twice
  pub found : (n : ℕ) → Once {R = slice_cmp nat_cmp} nat_list_cmp_total exact (entries lies 0 n)
      → (search_hit : Option SlotDirent) → IsFound lies name 0 n search_hit
      → option_map dirent_of search_hit ≡ seek name (entries lies 0 n)
  found n once None is =
      sym (none_found 0 n (λ slot number low less. is slot number low (omega (arith, less))))
  found n once (Some search_hit) is =
      let less = is.1 in
      sym (found_once nat_list_cmp_total exact (entries lies 0 n) once name (dirent_of search_hit)
      (in_range (λ index. dirent_in index (lies index)) 0 n search_hit.slot (name, dirent_of search_hit) (omega arith)
      (omega (arith, less)) (taken name search_hit.slot search_hit.number (lies search_hit.slot) is.2)))

pub is_found : (g : Geometry) (content : Image) (inode : Inode) (name : List ℕ) (search_hit : Option SlotDirent)
    → IsDirectory g content inode
    → IsFound (slot_at g.inodes content inode) name 0 (SLOTS_PER_BLOCK * span_of inode) search_hit
    → option_map dirent_of search_hit ≡ get (entries_in g.inodes content inode) name
unfolding named_in
is_found g content inode name search_hit directory is =
    found (slot_at g.inodes content inode) name (SLOTS_PER_BLOCK * span_of inode) directory.once search_hit is
    ∙ sym (get-from_entries nat_list_cmp_total
    (entries (slot_at g.inodes content inode) 0 (SLOTS_PER_BLOCK * span_of inode)) name)

-- ---- slot by slot, and block by block

pub one_more : (lies : Lying) (name : List ℕ) (from last : ℕ) → NoneHas lies name from last
    → ((number : ℕ) → number_under name (lies last) ≡ Ok (Some number) → ⊥) → NoneHas lies name from (last + 1)
one_more lies name from last before here slot number low less is =
    elim (cases_lt slot last) [
      | inl early ↦ before slot number low early is
      | inr late ↦ (let same : last ≡ slot = omega (arith, less, late) in
          here number (ap (λ k. number_under name (lies k)) same ∙ is))
    ]

pub no_number : (number : ℕ) → ◌≡◌ {A = Under} (Ok None) (Ok (Some number)) → ⊥
no_number number same = cc

module _ (lies : Lying) (name : List ℕ) (before end : ℕ) where
  pub none_more : NoneHas lies name 0 before → NoneHas lies name before end → NoneHas lies name 0 end
  none_more first rest slot number low less is =
      elim (cases_lt slot before) [ inl early ↦ first slot number low early is | inr late ↦ rest slot number late less is ]

  pub found_within : (all : ℕ) (search_hit : SlotDirent) → end ≤ all → IsFound lies name before end (Some search_hit)
      → IsFound lies name 0 all (Some search_hit)
  found_within all search_hit fits is = let less = is.1 in (omega arith, omega (arith, less, fits), is.2)
