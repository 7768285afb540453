-- Chains of commits with their entries: one more, and the first of them apart.
use Rattle.std.proofs.Common.{ℕ, zero, suc, ◌+◌, ◌≤◌, sym, refl, subst, arith}
use Rattle.std.proofs.Common.{List, [], ◌∷◌, ◌++◌, length, take, drop}
use Rattle.std.proofs.Math.Seq.{take-add}
use Rattle.disk.specs.Crash.{Image}
use Rattle.nfs_types.specs.declared.call.Call.{Call}
use Rattle.nfs_types.specs.declared.ctx.Ctx.{Ctx}
use Rattle.nfs_types.specs.declared.reply.Reply.{Reply}
use Rattle.nfs_spec.specs.Model.Entry.{Entry}
use Rattle.nfs_spec.specs.Procedures.After.{after}
use Rattle.nfs_spec.specs.Model.Sound.{IsMadeBy}
use Rattle.nfs_spec.specs.Procedures.Step.{step}
use Rattle.nfs_spec.specs.Model.Tree.{Tree}
use Rattle.nfs_spec.proofs.ProceduresLemmas.Joined.{join}
use Rattle.layout.specs.declared.geometry.Geometry.{Geometry}
use Rattle.layout.specs.Stands.{Stands}
use Rattle.txn_law.specs.Window.{Footprint, after_commits, with_objects}
use Rattle.store_promise.specs.OpenStore.{IsChain}

pub after_both : (tree middle last : Tree) (n m : ℕ) (entries : List Entry) → after tree (take n entries) middle
    → after middle (take m (drop n entries)) last → after tree (take (n + m) entries) last
after_both tree middle last n m entries transition more =
    subst (λ (es : List Entry). after tree es last) (sym (take-add n m entries))
    (join tree middle last (take n entries) (take m (drop n entries)) transition more)

-- ---- a chain ends with the blocks after all its commits

pub chain_end : (g : Geometry) (blocks : Image) (tree : Tree) (commits : List Footprint) (entries : List Entry)
    (last : Tree) → IsChain g blocks tree commits entries last → Stands g (after_commits blocks commits) last
chain_end g blocks tree [] [] last chain = subst (λ t. Stands g blocks t) (sym chain.1) chain.0
chain_end g blocks tree (commit ∷ commits) (entry ∷ entries) last chain =
    chain_end g (with_objects blocks commit.written) chain.1 commits entries last chain.3
chain_end g blocks tree [] (entry ∷ entries) last chain = absurd chain
chain_end g blocks tree (commit ∷ commits) [] last chain = absurd chain

pub chain_leads : (g : Geometry) (blocks : Image) (tree : Tree) (commits : List Footprint)
    (entries : List Entry) (last : Tree) → IsChain g blocks tree commits entries last → after tree entries last
chain_leads g blocks tree [] [] last chain = chain.1
chain_leads g blocks tree (commit ∷ commits) (entry ∷ entries) last chain =
    (chain.1, chain.2, chain_leads g (with_objects blocks commit.written) chain.1 commits entries last chain.3)
chain_leads g blocks tree [] (entry ∷ entries) last chain = absurd chain
chain_leads g blocks tree (commit ∷ commits) [] last chain = absurd chain

-- ---- one more commit

pub chain_more : (g : Geometry) (blocks : Image) (tree : Tree) (commits : List Footprint) (entries : List Entry)
    (last next : Tree) (commit : Footprint) (entry : Entry) → IsChain g blocks tree commits entries last
    → step last entry.ctx entry.call entry.reply next
    → Stands g (with_objects (after_commits blocks commits) commit.written) next
    → IsChain g blocks tree (commits ++ commit ∷ []) (entries ++ entry ∷ []) next
chain_more g blocks tree [] [] last next commit entry chain stepped stands =
    (chain.0, next, subst (λ t. step t entry.ctx entry.call entry.reply next) chain.1 stepped, (stands, refl))
chain_more g blocks tree (c ∷ commits) (e ∷ entries) last next commit entry chain stepped stands = (
  chain.0,
  chain.1,
  chain.2,
  chain_more g (with_objects blocks c.written) chain.1 commits entries last next commit entry chain.3 stepped
      stands,
)
chain_more g blocks tree [] (e ∷ entries) last next commit entry chain stepped stands = absurd chain
chain_more g blocks tree (c ∷ commits) [] last next commit entry chain stepped stands = absurd chain

-- ---- without the first commits

pub chain_past : (g : Geometry) (blocks : Image) (tree : Tree) (commits : List Footprint) (entries : List Entry)
    (last : Tree) (n : ℕ) → IsChain g blocks tree commits entries last → n ≤ length commits
    → (left : Tree) × after tree (take n entries) left
    × IsChain g (after_commits blocks (take n commits)) left (drop n commits) (drop n entries) last
chain_past g blocks tree commits entries last zero chain fits = (tree, refl, chain)
chain_past g blocks tree [] entries last (suc n) chain fits = absurd (omega (arith, fits))
chain_past g blocks tree (c ∷ commits) (e ∷ entries) last (suc n) chain fits =
    let rest = chain_past g (with_objects blocks c.written) chain.1 commits entries last n chain.3
    (omega (arith, fits)) in (rest.0, (chain.1, chain.2, rest.1), rest.2)
chain_past g blocks tree (c ∷ commits) [] last (suc n) chain fits = absurd chain

-- ---- stamps, where no step makes a later one

module _ (boot : ℕ) (makes_none : (tree next : Tree) (ctx : Ctx) (asked : Call) (reply : Reply)
    → IsMadeBy boot tree
    → ctx.boot ≤ boot → step tree ctx asked reply next → IsMadeBy boot next) where
  -- one more entry
  pub stamps_more : (entries : List Entry) (tree : Tree) (entry : Entry) → entry.ctx.boot ≤ boot
      → ((count : ℕ) (left : Tree) → after tree (take count entries) left → IsMadeBy boot left)
      → (count : ℕ) (left : Tree) → after tree (take count (entries ++ entry ∷ [])) left → IsMadeBy boot left
  stamps_more entries tree entry early all zero left transition = all zero left transition
  stamps_more [] tree entry early all (suc zero) left transition =
      makes_none tree left entry.ctx entry.call entry.reply (all zero tree refl) early
      (subst (λ t. step tree entry.ctx entry.call entry.reply t) (sym transition.2) transition.1)
  stamps_more [] tree entry early all (suc (suc count)) left transition =
      makes_none tree left entry.ctx entry.call entry.reply (all zero tree refl) early
      (subst (λ t. step tree entry.ctx entry.call entry.reply t) (sym transition.2) transition.1)
  stamps_more (e ∷ entries) tree entry early all (suc count) left transition =
      stamps_more entries transition.0 entry early (λ n last more. all (suc n) last (transition.0, transition.1, more))
      count left transition.2

-- without the first entries
pub stamps_past : (boot : ℕ) (entries : List Entry) (tree middle : Tree) (n : ℕ)
    → ((count : ℕ) (left : Tree) → after tree (take count entries) left → IsMadeBy boot left)
    → after tree (take n entries) middle
    → (count : ℕ) (left : Tree) → after middle (take count (drop n entries)) left → IsMadeBy boot left
stamps_past boot entries tree middle n all transition count left more =
    all (n + count) left (after_both tree middle left n count entries transition more)
