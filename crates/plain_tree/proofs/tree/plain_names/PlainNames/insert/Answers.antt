use Rattle.std.proofs.Common.{subst, sym, ap, ◌∙◌, T, Result, Ok, Err, OnOk, OnErr}
use Rattle.std.specs.FinMap as finmap
use Rattle.nfs_spec.specs.Model.Node.{DirentValue}
use Rattle.plain_tree.specs.Tree.Named.{are_sorted}
use Rattle.plain_tree.proofs.TreeLemmas.Placed.{named_put, sorted_put}
use Rattle.plain_tree.proofs.tree.plain_names.PlainNames.insert.Goals as goal

either : {A E : Type 0} (r : Result A E) (P Q R : Type 0) → OnOk r P → OnErr r Q → (P → R) → (Q → R) → R
either (Ok x) P Q R ok err then else = then ok
either (Err e) P Q R ok err then else = else err

with_ok : {A E : Type 0} (r : Result A E) (P Q : Type 0) → OnOk r P → (P → Q) → OnOk r Q
with_ok (Ok x) P Q ok then = then ok
with_ok (Err e) P Q ok then = tt

pub invariant_of-self : goal.invariant_of-self
invariant_of-self c =
    either c.put_dirent.result _ _ _ c.put_dirent.ensures.ok c.put_dirent.ensures.err
    (λ put. sorted_put c.self.inside.entries.items c.put_dirent.new.entries.items c.args.name _
    c.self.invariant put)
    (λ is_preserved. subst (λ es. T (are_sorted es)) (sym is_preserved) c.self.invariant)

pub returns-clause-ok : goal.returns-clause-ok
returns-clause-ok c =
    let inserted_slot : DirentValue = record { number = c.args.number; slot = c.args.slot } in
    with_ok c.put_dirent.result _ _ c.put_dirent.ensures.ok
    (λ put. named_put c.self.inside.entries.items c.put_dirent.new.entries.items c.args.name inserted_slot
    c.self.invariant put
    ∙ ap (λ m. finmap.insert m c.args.name inserted_slot) c.self.view_is)
