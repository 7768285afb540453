-- A search for the last block that is written to a home.
use Rattle.std.proofs.Common.{◌≡◌, ℕ, ◌+◌, ◌<◌, ◌≤◌, List, length, drop, get_or, Some, None, ap, ◌∙◌, refl, arith}
use Rattle.std.proofs.Common.{nat_eq, true, false, if◌then◌else◌}
use Rattle.std.proofs.lemmas.List.{drop-map, drop_all, drop_more}
use Rattle.disk.specs.Device.{Content}
use Rattle.disk.specs.declared.block.BlockNo.{BlockNo}
use Rattle.circ.specs.declared.log.change.LogChange.{LogChange}
use Rattle.circ.specs.Log.Effects.{newest_in}
use Rattle.circ.specs.Log.Log.{changes_of, newest_of, or_else}
use Rattle.circ.proofs.LogLemmas.Newest.{newest_of-later}

-- none is found past the end
pub none_past : (xs : List (BlockNo × Content)) (end block : ℕ) → length xs ≤ end
    → newest_in (drop end xs) block ≡ None
none_past xs end block past = ap (λ ys. newest_in ys block) (drop_all end xs past)

-- one more, at the front
one_more : (xs : List (BlockNo × Content)) (k : ℕ) (x : BlockNo × Content) (block : ℕ) → k < length xs
    → x ≡ get_or xs k x
    → newest_in (drop k xs) block ≡ or_else (newest_in (drop (k + 1) xs) block) (if nat_eq x.0.0 block
    then Some x.1 else None)
one_more xs k x block less is = rw (drop_more xs k x less, ← is) refl

-- a search that comes from the end meets another block
pub other_block : (xs : List (BlockNo × Content)) (i k : ℕ) (x : BlockNo × Content) (block : ℕ) → k < length xs
    → i ≡ k + 1 → x ≡ get_or xs k x → nat_eq x.0.0 block ≡ false → newest_in (drop i xs) block ≡ None
    → newest_in (drop k xs) block ≡ None
other_block xs i k x block less more is other none =
    let rest : newest_in (drop (k + 1) xs) block ≡ None = rw (← more) none in
    one_more xs k x block less is ∙ rw (rest, other) refl

-- and the block itself: what it finds is the newest of all
pub same_block : (xs : List (BlockNo × Content)) (i k : ℕ) (x : BlockNo × Content) (block : ℕ) → k < length xs
    → i ≡ k + 1 → x ≡ get_or xs k x → nat_eq x.0.0 block ≡ true → newest_in (drop i xs) block ≡ None
    → newest_in xs block ≡ Some x.1
same_block xs i k x block less more is same none =
    let rest : newest_in (drop (k + 1) xs) block ≡ None = rw (← more) none in
    let here : newest_in (drop k xs) block ≡ Some x.1 = one_more xs k x block less is ∙ rw (rest, same) refl in
    newest_of-later (changes_of 0 xs) 0 k block x.1 (omega arith)
    (ap (λ ys. newest_of ys block) (drop-map change k xs) ∙ here)
  where
    change : BlockNo × Content → LogChange
    change one = record { place = 0; block = one.0; content = one.1 }
