use Rattle.std.proofs.Common.{◌≡◌, refl, rules}
use Rattle.nfsd_words.specs.declared.Args.TheVariants.{Check, Format, Once, Serve, Show, Sim}
use Rattle.nfsd.proofs.Obeyed.{checks_command, formats_command, listens_command, runs_command, serves_command}
use Rattle.nfsd.proofs.Obeyed.{shows_command}
use Rattle.nfsd.proofs.answer.command.Goals as goal

pub returns-in-Format : goal.returns-in-Format
returns-in-Format g c =
    let is : c.args.args ≡ Format c.in-Format.image c.in-Format.blocks c.in-Format.inodes c.in-Format.time =
    search rules in
    rw is (formats_command _ c.in-Format.image _ _ _ _ _ _ _ refl c.format_image.ensures)

pub returns-in-Once : goal.returns-in-Once
returns-in-Once g c =
    let is : c.args.args ≡ Once c.in-Once.image c.in-Once.time = search rules in
    rw is (serves_command _ c.in-Once.image _ _ _ _ _ c.serve_image_once.ensures)

pub returns-in-Serve : goal.returns-in-Serve
returns-in-Serve g c =
    let is : c.args.args ≡ Serve c.in-Serve.image c.in-Serve.listen c.in-Serve.workers c.in-Serve.connections =
    search rules in
    rw is (listens_command _ c.in-Serve.image c.in-Serve.listen c.in-Serve.workers c.in-Serve.connections _ _ _ _ refl
    c.serve_image.ensures)

pub returns-in-Check : goal.returns-in-Check
returns-in-Check g c =
    let is : c.args.args ≡ Check c.in-Check.image = search rules in
    rw is (checks_command _ c.in-Check.image _ _ _ _ refl c.check_image.ensures)

pub returns-in-Show : goal.returns-in-Show
returns-in-Show g c =
    let is : c.args.args ≡ Show c.in-Show.image = search rules in
    rw is (shows_command _ c.in-Show.image _ _ _ _ refl c.show_image.ensures)

pub returns-in-Sim : goal.returns-in-Sim
returns-in-Sim g c =
    let is : c.args.args ≡ Sim c.in-Sim.script c.in-Sim.stops = search rules in
    rw is (runs_command c.args.first c.in-Sim.script c.in-Sim.stops _ _ _ _ refl refl c.run_script.ensures)
