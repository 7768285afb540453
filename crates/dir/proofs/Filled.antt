-- Whether names lie in a directory, and in which slots, by what its slots are.
use Rattle.std.proofs.Common.{◌≡◌, ℕ, zero, suc, ◌+◌, ◌*◌, ◌<◌, sym, ap, ◌∙◌, refl, true, false}
use Rattle.std.proofs.Common.{not, List, [], ◌∷◌, length, Some, None, nat_lt, arith}
use Rattle.std.proofs.lemmas.Bool.{lt-ltb}
use Rattle.std.specs.FinMap as map
use Rattle.std.specs.List.{cons_option}
use Rattle.base.specs.declared.TheConstants.{SLOTS_PER_BLOCK}
use Rattle.disk.specs.Crash.{Image}
use Rattle.layout.specs.declared.geometry.Geometry.{Geometry}
use Rattle.layout.specs.declared.inode.Inode.{Inode}
use Rattle.layout.specs.Decode.{IsDirectory, directory_in, entries_in, dirent_in, named_in, span_of}
use Rattle.nfs_spec.specs.Procedures.RmDir.{has_names}
use Rattle.procs_files.specs.declared.dirent.SlotName.{SlotName}
use Rattle.dir.specs.Slots.{AreFree, IsNext, Lying, slot_at}
use Rattle.dir.proofs.FoundIn.{entries}
use Rattle.dir.proofs.Members.{In, in_range}

none_lie : (lies : Lying) (a n : ℕ) → AreFree lies a (a + n) → entries lies a n ≡ []
none_lie lies a zero free = refl
none_lie lies a (suc n) free =
    ap (λ read. cons_option (dirent_in a read) (entries lies (a + 1) n)) (free a (omega arith) (omega arith))
    ∙ none_lie lies (a + 1) n (λ slot low less. free slot (omega (arith, low)) (omega (arith, less)))

some_in : {A : Type 0} (x : A) (xs : List A) → In x xs → 0 < length xs
some_in x [] is = absurd is
some_in x (y ∷ ys) is = omega arith

module _ (g : Geometry) (content : Image) (inode : Inode) (is_directory : IsDirectory g content inode) where
  abbrev lies : Lying
  lies = slot_at g.inodes content inode

  abbrev all : ℕ
  all = SLOTS_PER_BLOCK * span_of inode

  as_many : length (map.entries (entries_in g.inodes content inode)) ≡ length (entries lies 0 all)
  unfolding named_in
  as_many = sym (map.len-entries (entries_in g.inodes content inode)) ∙ is_directory.once

  pub no_names : IsNext lies 0 all None → true ≡ not (has_names (directory_in g.inodes content inode))
  no_names free = sym (ap (λ n. not (nat_lt 0 n)) (as_many ∙ ap length (none_lie lies 0 all (λ slot low less.
      free slot low (omega (arith, less))))))

  pub some_names : (named : SlotName) → IsNext lies 0 all (Some named)
      → false ≡ not (has_names (directory_in g.inodes content inode))
  some_names named next =
      let less = next.1 in
      let some = some_in _ _ (in_range (λ index. dirent_in index (lies index)) 0 all named.slot
      (named.name, record { number = named.number; slot = named.slot }) next.0 (omega (arith, less))
      (ap (dirent_in named.slot) next.2)) in
      let count = as_many in
      sym (ap not (lt-ltb 0 (length (map.entries (entries_in g.inodes content inode))) (omega (arith, some, count))))
