use Rattle.std.proofs.Common.{rules, sym, subst, ◌∙◌, ◌≡◌, Err, IfErr, None}
use Rattle.nfs_types.specs.Fits.{AreBytes}
use Rattle.nfs_spec.specs.Model.Node.{Body}
use Rattle.nfs_spec.specs.Model.SetAttr.{first_of_tests}
use Rattle.nfs_spec.specs.Model.Sound.{Sound, SoundCtx}
use Rattle.nfs_spec.specs.Model.Tree.{Tree}
use Rattle.nfs_spec.specs.Procedures.Places.{named_file}
use Rattle.procs_files.specs.Heads.{IsFileIn, node_of}
use Rattle.procs_names.proofs.NamesLemmas.Linked.{can_be_entered, can_be_linked, link_cramped, link_done, link_refused}
use Rattle.procs_names.proofs.NamesLemmas.Linked.{link_stopped}
use Rattle.nfs_spec.specs.Procedures.Link.{link_tests}
use Rattle.procs_names.proofs.name_procedures.hard_links.link_in.Goals as goal

pub returns-in-Err-clause-ok : goal.returns-in-Err-clause-ok
returns-in-Err-clause-ok g c = λ world tree body inside stands is at good now bytes.
    link_stopped (g.F.Files.stands c.args.files.now world) tree good c.args.ctx.now now c.args.name.now bytes
    c.args.file.now body is c.args.directory.now inside at c.in-Err.status
    ((rw c.in-Err.is at c.in_ok-status.ensures.ok) world tree inside stands at) stands

pub returns-in-Some-clause-ok : goal.returns-in-Some-clause-ok
returns-in-Some-clause-ok g c = λ world tree body inside stands is at good now bytes.
    let first = (rw c.in-Ok.is at c.in_ok-status.ensures.ok) world tree inside stands at in
    link_refused (g.F.Files.stands c.args.files.now world) tree good c.args.ctx.now now c.args.name.now bytes
    c.args.file.now body is c.args.directory.now inside at c.in-Ok.found first c.in-Some.status
    (sym (c.link_refusal.ensures tree _ body first.1 is.fits) ∙ c.in-Some.is) stands

pub returns-in_err-add_link-in-Some-2-clause-resumable : goal.returns-in_err-add_link-in-Some-2-clause-resumable
returns-in_err-add_link-in-Some-2-clause-resumable g c =
    let same : c.from_residual-in_err-add_link-in-Some-2.result ≡ Err c.in_err-add_link-in-Some-2.field-0.0 =
    search rules in
    let rest : (world : g.F.Files.World) (tree : Tree) (body inside : Body)
    → g.F.Files.stands c.args.files.now world tree → IsFileIn tree c.args.file.now body
    → IsFileIn tree c.args.directory.now inside → Sound tree → SoundCtx c.args.ctx.now
    → AreBytes c.args.name.now → g.F.Files.is_resumable c.in_err-add_link-in-Some-2.field-0.0 =
    λ world tree body inside stands is at good now bytes.
    let first = (rw c.in-Ok.is at c.in_ok-status.ensures.ok) world tree inside stands at in
    let second : first_of_tests (link_tests c.args.name.now (node_of c.args.file.now body)
    (named_file tree (node_of c.args.directory.now inside) c.args.name.now)) ≡ None =
    sym (c.link_refusal.ensures tree _ body first.1 is.fits) ∙ c.in_default.is in
    let roomy = (rw c.in-Some-2.is at c.in_ok-slot_with_blocks.ensures.ok) world tree inside stands at in
    c.in_err-add_link-in-Some-2.ensures.resumable world tree body stands is.fits
    (can_be_entered (g.F.Files.stands c.args.files.now world) tree good c.args.ctx.now now c.args.name.now bytes
    c.args.file.now body is c.args.directory.now inside at c.in-Ok.found first second c.in-Some-2.slot roomy) in
    subst (λ r. IfErr r (λ suspend. (world : g.F.Files.World) (tree : Tree) (body inside : Body)
    → g.F.Files.stands c.args.files.now world tree → IsFileIn tree c.args.file.now body
    → IsFileIn tree c.args.directory.now inside → Sound tree → SoundCtx c.args.ctx.now
    → AreBytes c.args.name.now → g.F.Files.is_resumable suspend)) (sym same) rest

pub returns-in-None-clause-ok : goal.returns-in-None-clause-ok
returns-in-None-clause-ok g c = λ world tree body inside stands is at good now bytes.
    let first = (rw c.in-Ok.is at c.in_ok-status.ensures.ok) world tree inside stands at in
    let second : first_of_tests (link_tests c.args.name.now (node_of c.args.file.now body)
    (named_file tree (node_of c.args.directory.now inside) c.args.name.now)) ≡ None =
    sym (c.link_refusal.ensures tree _ body first.1 is.fits) ∙ c.in_default.is in
    let cramped = (rw c.in-None.is at c.in_ok-slot_with_blocks.ensures.ok) world tree inside stands at in
    link_cramped (g.F.Files.stands c.args.files.now world) tree good c.args.ctx.now now c.args.name.now bytes
    c.args.file.now body is c.args.directory.now inside at c.in-Ok.found first second cramped stands

pub returns-in_ok-add_link-in-Some-2-clause-ok : goal.returns-in_ok-add_link-in-Some-2-clause-ok
returns-in_ok-add_link-in-Some-2-clause-ok g c = λ world tree body inside stands is at good now bytes.
    let first = (rw c.in-Ok.is at c.in_ok-status.ensures.ok) world tree inside stands at in
    let second : first_of_tests (link_tests c.args.name.now (node_of c.args.file.now body)
    (named_file tree (node_of c.args.directory.now inside) c.args.name.now)) ≡ None =
    sym (c.link_refusal.ensures tree _ body first.1 is.fits) ∙ c.in_default.is in
    let roomy = (rw c.in-Some-2.is at c.in_ok-slot_with_blocks.ensures.ok) world tree inside stands at in
    let new = g.F.Files.stands c.add_link.new.files world in
    link_done new tree good c.args.ctx.now now c.args.name.now bytes
    c.args.file.now body is c.args.directory.now inside at c.in-Ok.found first second c.in-Some-2.slot roomy
    (c.in_ok-add_link-in-Some-2.ensures.ok world tree body stands is.fits
    (can_be_entered new tree good c.args.ctx.now now c.args.name.now bytes
    c.args.file.now body is c.args.directory.now inside at c.in-Ok.found first second c.in-Some-2.slot roomy)
    (can_be_linked new tree good c.args.ctx.now now c.args.name.now bytes
    c.args.file.now body is c.args.directory.now inside at c.in-Ok.found first second c.in-Some-2.slot roomy))
