-- What is listed, by the tests that look at no entry and by the entries that were gathered.
use Rattle.std.proofs.Common.{◌≡◌, ℕ, sym, ap, ◌∙◌, refl, arith, suc, Bool, true, false, cond, not, ◌&&◌, ◌||◌, nat_eq, nat_lt}
use Rattle.std.proofs.Common.{List, [], ◌∷◌, length, map, Option, Some, None, Result, Ok, Err}
use Rattle.std.proofs.Math.Dec.{eqb-suc-zero, eqb-zero-suc}
use Rattle.std.proofs.lemmas.Bool.Decides.{nat_tests}
use Rattle.base.specs.declared.TheConstants.{LISTED_ITEM_BYTES, LISTED_ITEM_PLUS_BYTES, LISTING_FRAME}
use Rattle.nfs_types.specs.declared.ctx.Credential.{Credential}
use Rattle.nfs_types.specs.declared.entries.ListedItem.{ListedItem}
use Rattle.nfs_types.specs.declared.status.Status.{Status}
use Rattle.nfs_types.specs.declared.status.Status.TheVariants as status
use Rattle.nfs_types.specs.declared.verifier.Verifier.{Verifier}
use Rattle.nfs_spec.specs.Model.Attributes.{kind_of}
use Rattle.nfs_spec.specs.Model.Names.{is_directory}
use Rattle.nfs_spec.specs.Model.Node.{Body}
use Rattle.nfs_spec.specs.Model.SetAttr.{first_of_tests}
use Rattle.nfs_spec.specs.Model.Tree.{Tree}
use Rattle.nfs_spec.specs.Procedures.FirstTests.{may_list, unless}
use Rattle.nfs_spec.specs.Procedures.Listing.{asked_bytes, listed_bytes, listing_budget, fitting, is_bad_cookie, is_end}
use Rattle.nfs_spec.specs.Procedures.Listing.{listed_behind, listing_verifier}
use Rattle.nfs_spec.specs.Procedures.ReadDir.{list, listing_refusal}
use Rattle.nfs_spec.specs.Procedures.ReadDirPlus.{fitting_both, list_plus, plus}
use Rattle.procs_files.specs.declared.inode_attributes.InodeAttributes.{InodeAttributes}
use Rattle.procs_files.specs.Heads.{bare, node_of}
use Rattle.procs_files.proofs.KindsAgree.{kinds_agree}
use Rattle.procs_queries.specs.Listings.Gathered.{Gathered, nothing, with_all}
use Rattle.procs_queries.specs.Listings.Plus.{listed_plus_of}
use Rattle.procs_queries.specs.Listings.Tests.{early_tests, has_no_first, listed_of}
use Rattle.procs_queries.proofs.ListingsLemmas.Gathers.{fills, fits_again, gives}

-- the first tests, or else the last one
abbrev first_or_last : Option Status → Bool → Status → Option Status
first_or_last (Some status) last why = Some status
first_or_last None last why = cond last (Some why) None

split : (a b c d e : Bool) (one two three four : Status)
    → first_of_tests ((a, one) ∷ (b, two) ∷ (c, three) ∷ (d || e, four) ∷ [])
    ≡ first_or_last (first_of_tests ((a, one) ∷ (b, two) ∷ (c, three) ∷ (d, four) ∷ [])) e four
split true b c d e one two three four = refl
split false true c d e one two three four = refl
split false false true d e one two three four = refl
split false false false true e one two three four = refl
split false false false false e one two three four = refl

positive : (n : ℕ) → nat_lt 0 (suc n) ≡ true
positive n = grind (arith, nat_tests)

and_none : (b : Bool) → (b && false) ≡ false
and_none true = refl
and_none false = refl

not_not : (b : Bool) → not (not b) ≡ b
not_not true = refl
not_not false = refl

unless_then : {A : Type 0} (test : Bool) (why : Status) (answer : Result A Status)
    → cond test (Err why) answer ≡ unless (cond test (Some why) None) answer
unless_then true why answer = refl
unless_then false why answer = refl

-- an entry is left and none is given where it is full and none is given
no_first : (full : Bool) (left given : List ListedItem) → full ≡ not (is_end left given)
    → (nat_lt 0 (length left) && nat_eq (length given) 0) ≡ (full && nat_eq (length given) 0)
no_first full [] [] is = sym (ap (λ f. f && true) is)
no_first full (one ∷ left) [] is =
    ap (λ b. b && true) (positive (length left))
    ∙ sym (ap (λ f. f && true) (is ∙ ap not (eqb-zero-suc (length left))))
no_first full left (one ∷ given) is =
    ap (λ b. nat_lt 0 (length left) && b) (eqb-suc-zero (length given)) ∙ and_none (nat_lt 0 (length left))
    ∙ sym (ap (λ b. full && b) (eqb-suc-zero (length given)) ∙ and_none full)

answered : {A : Type 0} (answer : Bool → List ListedItem → A) (gathered : Gathered)
    (left given : List ListedItem) → gathered.given ≡ given → gathered.is_full ≡ not (is_end left given)
    → cond (has_no_first gathered) (Err status.TooSmall) (Ok (answer (not gathered.is_full) gathered.given))
    ≡ unless (cond (nat_lt 0 (length left) && nat_eq (length given) 0) (Some status.TooSmall) None)
    (Ok (answer (is_end left given) given))
answered answer gathered left given given_is full_is =
    ap (λ es. cond (gathered.is_full && nat_eq (length es) 0) (Err status.TooSmall)
    (Ok (answer (not gathered.is_full) es))) given_is
    ∙ ap (λ b. cond b (Err status.TooSmall) (Ok (answer (not gathered.is_full) given)))
    (sym (no_first gathered.is_full left given full_is))
    ∙ ap (λ e. cond (nat_lt 0 (length left) && nat_eq (length given) 0) (Err status.TooSmall) (Ok (answer e given)))
    (ap not full_is ∙ not_not (is_end left given))
    ∙ unless_then (nat_lt 0 (length left) && nat_eq (length given) 0) status.TooSmall
    (Ok (answer (is_end left given) given))

module _ (caller : Credential) (cookie : ℕ) (verifier : Verifier) (count : ℕ) (inode_attributes : InodeAttributes) (body : Body)
    (kind : kind_of body ≡ inode_attributes.kind) (early : Option Status)
    (early_is : early ≡ first_of_tests (early_tests caller cookie verifier count (bare inode_attributes))) where
  abbrev left : List ListedItem
  left = listed_behind cookie inode_attributes.number body

  early_here : early ≡ first_of_tests (early_tests caller cookie verifier count (node_of inode_attributes body))
  early_here = early_is
      ∙ ap (λ b. first_of_tests ((not b, status.NotDir)
      ∷ (not (may_list caller (bare inode_attributes)), status.Acces)
      ∷ (is_bad_cookie cookie verifier, status.BadCookie)
      ∷ (nat_lt (asked_bytes count) LISTING_FRAME, status.TooSmall)
      ∷ [])) (sym (kinds_agree inode_attributes body kind))

  refusal_is : (given : List ListedItem)
      → listing_refusal caller cookie verifier count (node_of inode_attributes body) left given
      ≡ first_or_last early (nat_lt 0 (length left) && nat_eq (length given) 0) status.TooSmall
  refusal_is given =
      split (not (is_directory body)) (not (may_list caller (node_of inode_attributes body))) (is_bad_cookie cookie verifier)
      (nat_lt (asked_bytes count) LISTING_FRAME) (nat_lt 0 (length left) && nat_eq (length given) 0)
      status.NotDir status.Acces status.BadCookie status.TooSmall
      ∙ ap (λ t. first_or_last t (nat_lt 0 (length left) && nat_eq (length given) 0) status.TooSmall)
      (sym early_here)

  module _ (why : Status) (is : early ≡ Some why) where
    pub not_listed : Err why ≡ list caller cookie verifier count inode_attributes.number (node_of inode_attributes body)
    not_listed = sym (ap (λ t. unless t (Ok (record {
      verifier = listing_verifier;
      entries = fitting listed_bytes (listing_budget count) left;
      eof = is_end left (fitting listed_bytes (listing_budget count) left);
    }))) (refusal_is (fitting listed_bytes (listing_budget count) left)
        ∙ ap (λ t. first_or_last t (nat_lt 0 (length left)
        && nat_eq (length (fitting listed_bytes (listing_budget count) left)) 0) status.TooSmall) is))

    pub not_listed_plus : (tree : Tree) (names_count : ℕ)
        → Err why ≡ list_plus tree caller cookie verifier names_count count inode_attributes.number (node_of inode_attributes body)
    not_listed_plus tree names_count =
        let given = fitting_both names_count (listing_budget count) left in
        sym (ap (λ t. unless t (Ok (record {
          verifier = listing_verifier;
          entries = map (plus tree) given;
          eof = is_end left given;
        }))) (refusal_is given
        ∙ ap (λ t. first_or_last t (nat_lt 0 (length left) && nat_eq (length given) 0) status.TooSmall) is))

  module _ (passed : early ≡ None) (gathered : Gathered) where
    pub listed : gathered ≡ with_all LISTED_ITEM_BYTES (nothing (listing_budget count) (listing_budget count)) left
        → listed_of gathered ≡ list caller cookie verifier count inode_attributes.number (node_of inode_attributes body)
    listed is =
        let budget = listing_budget count in
        let given = fitting listed_bytes budget left in
        answered (λ eof entries. record { verifier = listing_verifier; entries = entries; eof = eof })
        gathered left given
        (ap (λ (g : Gathered). g.given) is ∙ gives LISTED_ITEM_BYTES (nothing budget budget) left refl
        ∙ fits_again listed_bytes budget left)
        (ap (λ (g : Gathered). g.is_full) is ∙ fills LISTED_ITEM_BYTES (nothing budget budget) left refl
        ∙ ap (λ es. not (is_end left es)) (fits_again listed_bytes budget left))
        ∙ sym (ap (λ t. unless t (Ok (record {
          verifier = listing_verifier;
          entries = given;
          eof = is_end left given;
        }))) (refusal_is given
        ∙ ap (λ t. first_or_last t (nat_lt 0 (length left) && nat_eq (length given) 0) status.TooSmall)
        passed))

    pub listed_plus : (tree : Tree) (names_count : ℕ)
        → gathered ≡ with_all LISTED_ITEM_PLUS_BYTES (nothing names_count (listing_budget count)) left
        → listed_plus_of tree gathered
        ≡ list_plus tree caller cookie verifier names_count count inode_attributes.number (node_of inode_attributes body)
    listed_plus tree names_count is =
        let budget = listing_budget count in
        let given = fitting_both names_count budget left in
        answered (λ eof entries. record {
          verifier = listing_verifier;
          entries = map (plus tree) entries;
          eof = eof;
        })
        gathered left given
        (ap (λ (g : Gathered). g.given) is ∙ gives LISTED_ITEM_PLUS_BYTES (nothing names_count budget) left refl)
        (ap (λ (g : Gathered). g.is_full) is ∙ fills LISTED_ITEM_PLUS_BYTES (nothing names_count budget) left refl)
        ∙ sym (ap (λ t. unless t (Ok (record {
          verifier = listing_verifier;
          entries = map (plus tree) given;
          eof = is_end left given;
        }))) (refusal_is given
        ∙ ap (λ t. first_or_last t (nat_lt 0 (length left) && nat_eq (length given) 0) status.TooSmall)
        passed))
