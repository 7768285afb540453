use Rattle.std.proofs.Common.{◌≡◌, sym, subst, ◌∙◌, arith, true, false, length, nat_eq, Ok}
use Rattle.std.proofs.lemmas.Bool.Decides.{nat_tests}
use Rattle.nfs_spec.specs.Procedures.Write.{write}
use Rattle.procs_files.specs.Heads.{node_of}
use Rattle.procs_updates.specs.Writes.Acting.{IsActed}
use Rattle.procs_updates.proofs.WritesLemmas.WriteSteps.{no_space_acted, nothing_acted, text_acted, write_agrees}
use Rattle.procs_updates.proofs.writes.data_writes.write_in.Goals as goal

pub returns-then-text-eq0-clause-ok : goal.returns-then-text-eq0-clause-ok
returns-then-text-eq0-clause-ok g c = λ world tree body stands at sound.
    let passes = sym (write_agrees c.args.ctx.now.credential c.args.offset c.args.count c.args.text.now tree
    c.args.file.now body at) ∙ sym c.write_refusal.ensures ∙ c.in_default.is in
    let empty : nat_eq (length c.args.text.now) 0 ≡ true = grind (arith, nat_tests, c.if-text-eq0.true) in
    subst (λ reply. IsActed (g.F.Files.stands c.args.files.now world) tree c.args.file.now.number
    (write tree c.args.ctx.now c.args.offset c.args.count c.args.stability c.args.text.now c.args.file.now.number
    (node_of c.args.file.now body)) (Ok reply) c.args.file.now) (sym c.written_reply-reply.ensures)
    (nothing_acted tree c.args.ctx.now c.args.offset c.args.count c.args.stability c.args.text.now
    c.args.file.now body at (g.F.Files.stands c.args.files.now world) passes empty stands)

pub returns-in-Some-2-clause-ok : goal.returns-in-Some-2-clause-ok
returns-in-Some-2-clause-ok g c = λ world tree body stands at sound.
    let passes = sym (write_agrees c.args.ctx.now.credential c.args.offset c.args.count c.args.text.now tree
    c.args.file.now body at) ∙ sym c.write_refusal.ensures ∙ c.in_default.is in
    let some : nat_eq (length c.args.text.now) 0 ≡ false = grind (arith, nat_tests, c.if-text-eq0.false) in
    let wrote = (rw c.in-Some-2.is at c.in_ok-inode_attributes.ensures.ok) world tree body stands at sound in
    subst (λ reply. IsActed (g.F.Files.stands c.write_text.new.files world) tree c.args.file.now.number
    (write tree c.args.ctx.now c.args.offset c.args.count c.args.stability c.args.text.now c.args.file.now.number
    (node_of c.args.file.now body)) (Ok reply) c.in-Some-2.inode_attributes) (sym c.written_reply-reply.ensures)
    (text_acted tree c.args.ctx.now c.args.offset c.args.count c.args.stability c.args.text.now
    c.args.file.now body at (g.F.Files.stands c.write_text.new.files world) c.in-Some-2.inode_attributes passes some wrote.0
    wrote.1 wrote.2)

pub returns-in-None-clause-ok : goal.returns-in-None-clause-ok
returns-in-None-clause-ok g c = λ world tree body stands at sound.
    let passes = sym (write_agrees c.args.ctx.now.credential c.args.offset c.args.count c.args.text.now tree
    c.args.file.now body at) ∙ sym c.write_refusal.ensures ∙ c.in_default.is in
    let some : nat_eq (length c.args.text.now) 0 ≡ false = grind (arith, nat_tests, c.if-text-eq0.false) in
    let none = (rw c.in-None.is at c.in_ok-inode_attributes.ensures.ok) world tree body stands at sound in
    no_space_acted tree c.args.ctx.now c.args.offset c.args.count c.args.stability c.args.text.now
    c.args.file.now body at (g.F.Files.stands c.write_text.new.files world) c.refused-in-None.result.outcome
    c.refused-in-None.result.inode_attributes passes some none.0 c.refused-in-None.ensures.outcome
    c.refused-in-None.ensures.inode_attributes none.1
