use Rattle.std.proofs.Common.{◌≡◌, ◌≤◌, ◌*◌, ap, sym, ◌∙◌, subst, arith}
use Rattle.std.proofs.lemmas.Result.{IfOk-weaker}
use Rattle.base.specs.declared.TheConstants.{SLOTS_PER_BLOCK}
use Rattle.layout.specs.Decode.{span_of}
use Rattle.nfs_spec.specs.Model.Tree.{free}
use Rattle.nfs_spec.specs.Procedures.Changes.{with_dirent}
use Rattle.procs_files.specs.Writable.{CanEnter, adds}
use Rattle.dir_writes.specs.NameInsertion.{dirent_in, with_name}
use Rattle.dir_writes.specs.Growing.{HoldsWith}
use Rattle.dir_writes.proofs.insertion.enter_in.Goals as goal

pub returns-then-name-gt-NAME_BYTES-clause-ok : goal.returns-then-name-gt-NAME_BYTES-clause-ok
returns-then-name-gt-NAME_BYTES-clause-ok c = λ blocks tree node write_set was is can has_space.
    let short = can.lawful.short in
    let long = c.if-name-gt-NAME_BYTES.true in
    absurd (omega (arith, short, long))

pub returns-in-Ok-clause-ok : goal.returns-in-Ok-clause-ok
returns-in-Ok-clause-ok c = λ blocks tree node write_set was is can has_space.
    c.in-Ok.ensures.ok blocks tree c.args.number node write_set was is
    (c.is_spanned.ensures.within c.if-is_spanned.true) can

pub returns-in-Some-clause-ok : goal.returns-in-Some-clause-ok
returns-in-Some-clause-ok c =
    IfOk-weaker c.enter_behind.result _ _ (λ made proven blocks tree node write_set was is can has_space.
    let name = c.args.name.now in
    let number = c.args.dirent_number in
    let at = c.in-Some.ensures.some in
    let slot_is : c.args.slot ≡ SLOTS_PER_BLOCK * span_of c.args.inode.now =
    at.1 ∙ ap (λ k. SLOTS_PER_BLOCK * k) at.0 in
    subst (λ s. HoldsWith c.enter_behind.new.write_set blocks tree c.args.number (with_name name number s node) made)
    (sym slot_is)
    (proven blocks tree node write_set (record {
      is = is;
      was = was;
      can = subst (λ s. CanEnter tree node.body name (dirent_in number s)) slot_is can;
    }) at.0
    (subst (λ s. adds (with_dirent name (dirent_in number s) node.body) node.body ≤ free tree) slot_is has_space)))
    c.enter_behind.ensures.ok
