-- What is found in one file more.
use Rattle.std.proofs.Common.{◌≡◌, ℕ, suc, ◌+◌, inl, inr, ◌⊎◌, sym, ap, ◌∙◌, refl, subst, Bool, true, false}
use Rattle.std.proofs.Common.{List, [], ◌∷◌, ◌++◌, get_or, Option, Some, None, Ok, arith}
use Rattle.std.specs.List.{flat_map, range_with_len}
use Rattle.std.proofs.lemmas.Bool.{cases_lt}
use Rattle.std.proofs.lemmas.List.{append-nil}
use Rattle.std.proofs.lemmas.List.Concat.{flat_map-append}
use Rattle.disk.specs.Crash.{Image}
use Rattle.layout.specs.declared.geometry.Geometry.{Geometry}
use Rattle.layout.specs.declared.inode.Inode.{Inode}
use Rattle.layout.specs.Owners.{owned_by}
use Rattle.image_read.specs.ImageCounts.Tally.{AreCounts, IsOwned, Owned}
use Rattle.image_read.specs.declared.counts.links.Links.{Links}
use Rattle.image_read.proofs.FilesLemmas.SlotBlocks.{range_more}
use Rattle.image_read.specs.Counts.Adds.{AreNamed, for_directories, named_children}
use Rattle.image_contents.specs.declared.bodies.found.Found.{Found}
use Rattle.image_contents.specs.Bodies.Bodies.{HasBlocks, IsAdded, IsFound, IsScanned, IsClean, all_owned}
use Rattle.image_contents.specs.Bodies.Bodies.{first_unclean, names_at}

flat_more : (f : ℕ → List ℕ) (n : ℕ)
    → flat_map f (range_with_len 0 (n + 1)) ≡ flat_map f (range_with_len 0 n) ++ f n
flat_more f n =
    let one : n + 1 ≡ suc n = omega arith in
    let same : 0 + n ≡ n = omega arith in
    ap (λ k. flat_map f (range_with_len 0 k)) one ∙ ap (flat_map f) (range_more 0 n)
    ∙ flat_map-append f (range_with_len 0 n) ((0 + n) ∷ [])
    ∙ ap (λ k. flat_map f (range_with_len 0 n) ++ (f k ++ [])) same
    ∙ ap (λ l. flat_map f (range_with_len 0 n) ++ l) (append-nil (f n))

-- the same counts of the same lists
relisted : (a b c x y z : List ℕ) (links : Links) → a ≡ x → b ≡ y → c ≡ z → AreNamed a b c links → AreNamed x y z links
relisted a b c x y z links one two three named = record {
  names = subst (λ l. AreCounts l links.names) one named.names;
  by_parent = subst (λ l. AreCounts l links.by_parent) two named.by_parent;
  children = subst (λ l. AreCounts l links.children) three named.children;
}

module _ (g : Geometry) (content : Image) (table : List (Option Inode)) where
  -- nothing is added where no names are
  pub none_named : (number : ℕ) (all met naming : List ℕ) (links : Links) → AreNamed all met naming links
      → AreNamed (all ++ []) (met ++ []) (naming ++ []) links
  none_named number all met naming links named =
      relisted all met naming (all ++ []) (met ++ []) (naming ++ []) links (sym (append-nil all)) (sym (append-nil met))
      (sym (append-nil naming)) named

  -- a free inode adds nothing
  pub none_added : (number : ℕ) (found : Found) → IsAdded g content table number None found found
  none_added number found = record {
    owned = λ met owned. subst (λ l. IsOwned l found.owners) (sym (append-nil met)) owned;
    named = λ all met naming named. none_named number all met naming found.links named;
    is_clean = λ is. (is, tt);
    unclean = λ first some. inl some;
  }

  -- a file adds what was met and counted
  pub file_added : (number : ℕ) (inode : Inode) (old : Found) (owners : Owned) (links : Links)
      (is_clean : Bool) (unclean : Option ℕ)
      → ((met : List ℕ) → IsOwned met old.owners → IsOwned (met ++ owned_by content (Ok (Some inode))) owners)
      → IsScanned g content table number inode.kind inode old.links links is_clean
      → unclean ≡ first_unclean old.unclean number is_clean
      → IsAdded g content table number (Some inode) old
      (record { owners = owners; links = links; unclean = unclean })
  file_added number inode old owners links is_clean unclean owned scanned is = record {
    owned = owned;
    named = scanned.named;
    is_clean = λ none. let both = still_clean old.unclean is_clean (sym is ∙ none) in (both.0, scanned.yes both.1);
    unclean = λ first some. elim (then_unclean old.unclean is_clean first (sym is ∙ some)) [
      | inl earlier ↦ inl earlier
      | inr here ↦ inr (here.0, here.1, scanned.no here.2)
    ];
  }
    where
      still_clean : (old : Option ℕ) (b : Bool) → first_unclean old number b ≡ None → (old ≡ None) × (b ≡ true)
      still_clean None true e = (refl, refl)
      still_clean None false e = cc
      still_clean (Some n) b e = cc

      number_in : Option ℕ → ℕ
      number_in (Some n) = n
      number_in None = number

      then_unclean : (old : Option ℕ) (b : Bool) (first : ℕ) → first_unclean old number b ≡ Some first
          → (old ≡ Some first) ⊎ ((number ≡ first) × (old ≡ None) × (b ≡ false))
      then_unclean None true first e = cc
      then_unclean None false first e = inr (ap number_in e, refl, refl)
      then_unclean (Some n) b first e = inl e

  pub none_found : (found : Found) → IsOwned [] found.owners → AreNamed [] [] [] found.links → found.unclean ≡ None
      → IsFound g content table 0 found
  none_found found owned named is_clean = record {
    blocks = λ number less. absurd (omega (arith, less));
    owned = owned;
    named = named;
    is_clean = λ is number less. absurd (omega (arith, less));
    unclean = λ number some. absurd (let clash : ◌≡◌ {A = Option ℕ} None (Some number) = sym is_clean ∙ some in cc);
  }

  pub one_found : (count : ℕ) (old new : Found) → IsFound g content table count old
      → HasBlocks g content (get_or table count None) → IsAdded g content table count (get_or table count None) old new
      → IsFound g content table (count + 1) new
  one_found count old new before blocks added =
      let names : ℕ → List ℕ = names_at g.inodes content table in
      let met : ℕ → List ℕ = λ n. named_children table n (names n) in
      let naming : ℕ → List ℕ = λ n. for_directories table n (names n) in
      record {
        blocks = λ number less. elim (cases_lt number count) [
          | inl sooner ↦ before.blocks number sooner
          | inr past ↦
              let at : count ≡ number = omega (arith, less, past) in
              subst (λ n. HasBlocks g content (get_or table n None)) at blocks
        ];
        owned = subst (λ l. IsOwned l new.owners)
            (sym (flat_more (λ n. owned_by content (Ok (get_or table n None))) count))
            (added.owned (all_owned content table count) before.owned);
        named = relisted _ _ _ _ _ _ new.links (sym (flat_more names count)) (sym (flat_more met count))
            (sym (flat_more naming count))
            (added.named (flat_map names (range_with_len 0 count)) (flat_map met (range_with_len 0 count))
            (flat_map naming (range_with_len 0 count)) before.named);
        is_clean = λ is number less. elim (cases_lt number count) [
          | inl sooner ↦ before.is_clean (added.is_clean is).0 number sooner
          | inr past ↦
              let at : count ≡ number = omega (arith, less, past) in
              subst (λ n. IsClean g content (get_or table n None)) at (added.is_clean is).1
        ];
        unclean = λ number some. elim (added.unclean number some) [
          | inl earlier ↦
              let is = before.unclean number earlier in
              record { within = omega (arith, is.within); is = is.is; first = is.first }
          | inr here ↦ record {
            within = omega (arith, here.0);
            is = subst (λ n. IsClean g content (get_or table n None) → ⊥) here.0 here.2;
            first = λ lower less. before.is_clean here.1 lower (omega (arith, less, here.0));
          }
        ];
      }
