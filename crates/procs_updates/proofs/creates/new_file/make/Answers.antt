use Rattle.std.proofs.Common.{ap, rules, sym, ◌∙◌, None}
use Rattle.nfs_spec.specs.Model.Cost.{cost}
use Rattle.procs_files.specs.Heads.{bare}
use Rattle.procs_updates.proofs.WritesLemmas.SetSteps.{small_size}
use Rattle.procs_updates.proofs.CreatesLemmas.Made.{can_enter, can_make_in, inode_attributes_fit, make_cramped, make_done, make_refused}
use Rattle.procs_updates.proofs.CreatesLemmas.Made.{make_unnumbered}
use Rattle.procs_updates.proofs.CreatesLemmas.Stops.{stopped_so}
use Rattle.procs_updates.proofs.creates.new_file.make.Goals as goal

pub returns-in-Some-clause-ok : goal.returns-in-Some-clause-ok
returns-in-Some-clause-ok g c = λ world tree inside mode verifier body stands here good now is can.
    make_refused tree good c.args.ctx.now now c.args.directory.now inside here c.args.name.now c.args.wanted.now
    c.args.blank.now c.args.target.now mode verifier body is can (g.F.Files.stands c.args.files.now world)
    c.in-Some.status (sym c.set_refusal.ensures ∙ c.in-Some.is) stands

pub returns-in_default-2-clause-ok : goal.returns-in_default-2-clause-ok
returns-in_default-2-clause-ok g c = λ world tree inside mode verifier body stands here good now is can.
    make_unnumbered tree good c.args.ctx.now now c.args.directory.now inside here c.args.name.now c.args.wanted.now
    c.args.blank.now c.args.target.now mode verifier body is can (sym c.set_refusal.ensures ∙ c.in_default.is)
    (g.F.Files.stands c.args.files.now world)
    ((rw c.in_default-2.is at c.in_ok-number.ensures.ok) world tree stands) stands

pub returns-in_default-3-clause-ok : goal.returns-in_default-3-clause-ok
returns-in_default-3-clause-ok g c = λ world tree inside mode verifier body stands here good now is can.
    make_cramped tree good c.args.ctx.now now c.args.directory.now inside here c.args.name.now c.args.wanted.now
    c.args.blank.now c.args.target.now mode verifier body is can (sym c.set_refusal.ensures ∙ c.in_default.is)
    c.in-Some-2.number ((rw c.in-Some-2.is at c.in_ok-number.ensures.ok) world tree stands) c.first_blocks.result
    (c.first_blocks.ensures.is c.args.target.now ∙ ap cost is.first)
    (g.F.Files.stands c.args.files.now world)
    ((rw c.in_default-3.is at c.in_ok-slot.ensures.ok) world tree inside stands here) stands

pub add-requires : goal.add-requires
add-requires g c =
    small_size c.args.ctx.now c.args.wanted.now None (bare c.args.blank.now)
    (sym c.set_refusal.ensures ∙ c.in_default.is)

pub returns-in_err-last-clause-resumable : goal.returns-in_err-last-clause-resumable
returns-in_err-last-clause-resumable g c =
    stopped_so c.from_residual-in_err-last.result c.in_err-last.field-0.0 _ (search rules)
    (λ world tree inside mode verifier body stands here good now is can.
    let tested = sym c.set_refusal.ensures ∙ c.in_default.is in
    let unused = (rw c.in-Some-2.is at c.in_ok-number.ensures.ok) world tree stands in
    let costs = c.first_blocks.ensures.is c.args.target.now ∙ ap cost is.first in
    let roomy = (rw c.in-Some-3.is at c.in_ok-slot.ensures.ok) world tree inside stands here in
    (rw c.set_inode_attributes-inode_attributes.ensures at c.in_err-last.ensures.resumable) world tree body stands
    (inode_attributes_fit tree good c.args.ctx.now now c.args.directory.now inside here c.args.name.now c.args.wanted.now
    c.args.blank.now c.args.target.now mode verifier body is can tested c.in-Some-2.number unused
    c.first_blocks.result costs c.in-Some-3.slot roomy) is.first
    (can_enter tree good c.args.ctx.now now c.args.directory.now inside here c.args.name.now c.args.wanted.now
    c.args.blank.now c.args.target.now mode verifier body is can tested c.in-Some-2.number unused
    c.first_blocks.result costs c.in-Some-3.slot roomy)
    (can_make_in tree good c.args.ctx.now now c.args.directory.now inside here c.args.name.now c.args.wanted.now
    c.args.blank.now c.args.target.now mode verifier body is can tested c.in-Some-2.number unused
    c.first_blocks.result costs c.in-Some-3.slot roomy))

pub returns-clause-ok : goal.returns-clause-ok
returns-clause-ok g c = λ world tree inside mode verifier body stands here good now is can.
    let tested = sym c.set_refusal.ensures ∙ c.in_default.is in
    let unused = (rw c.in-Some-2.is at c.in_ok-number.ensures.ok) world tree stands in
    let costs = c.first_blocks.ensures.is c.args.target.now ∙ ap cost is.first in
    let roomy = (rw c.in-Some-3.is at c.in_ok-slot.ensures.ok) world tree inside stands here in
    let added = (rw c.set_inode_attributes-inode_attributes.ensures at c.in_ok-last.ensures.ok) world tree body stands
    (inode_attributes_fit tree good c.args.ctx.now now c.args.directory.now inside here c.args.name.now c.args.wanted.now
    c.args.blank.now c.args.target.now mode verifier body is can tested c.in-Some-2.number unused
    c.first_blocks.result costs c.in-Some-3.slot roomy) is.first
    (can_enter tree good c.args.ctx.now now c.args.directory.now inside here c.args.name.now c.args.wanted.now
    c.args.blank.now c.args.target.now mode verifier body is can tested c.in-Some-2.number unused
    c.first_blocks.result costs c.in-Some-3.slot roomy)
    (can_make_in tree good c.args.ctx.now now c.args.directory.now inside here c.args.name.now c.args.wanted.now
    c.args.blank.now c.args.target.now mode verifier body is can tested c.in-Some-2.number unused
    c.first_blocks.result costs c.in-Some-3.slot roomy) in
    make_done tree good c.args.ctx.now now c.args.directory.now inside here c.args.name.now c.args.wanted.now
    c.args.blank.now c.args.target.now mode verifier body is can tested c.in-Some-2.number unused
    c.first_blocks.result costs c.in-Some-3.slot roomy (g.F.Files.stands c.add.new.files world) c.in_ok-last.last
    c.in_ok-created.field-0 added.0 c.in_ok-created.ensures added.1
