use Rattle.std.proofs.Common.{◌≡◌, rules, sym, subst, Err, IfErr}
use Rattle.std.proofs.lemmas.Result.{IfOk-weaker, MatchResult-weaker}
use Rattle.nfs_spec.specs.Model.Node.{Body}
use Rattle.nfs_spec.specs.Model.SetAttr.{with_length}
use Rattle.nfs_spec.specs.Model.Tree.{Tree, with_node}
use Rattle.nfs_spec.specs.Procedures.Changes.{changed_at, entered}
use Rattle.procs_files.specs.Writable.{first_body}
use Rattle.procs_files.specs.Heads.{IsBodyOf, IsFileIn, node_of}
use Rattle.procs_names.specs.Links.Shapes.{CanEnterAt}
use Rattle.procs_updates.proofs.WritesLemmas.Touched.{put_there}
use Rattle.procs_updates.proofs.CreatesLemmas.Added.{made_there, put_again}
use Rattle.procs_updates.specs.Creates.Making.{CanMakeIn}
use Rattle.procs_updates.proofs.creates.new_names.add.Goals as goal

pub returns-in_err-make-clause-resumable : goal.returns-in_err-make-clause-resumable
returns-in_err-make-clause-resumable g c =
    let same : c.from_residual-in_err-make.result ≡ Err c.in_err-make.field-0.0 = search rules in
    let rest : (world : g.F.Files.World) (tree : Tree) (body : Body) → g.F.Files.stands c.args.files.now world tree
    → IsBodyOf c.args.inode_attributes.now body → first_body c.args.inode_attributes.now c.args.target.now ≡ body
    → CanEnterAt tree c.args.moment c.args.directory c.args.name.now
    (record { number = c.args.inode_attributes.now.number; slot = c.args.slot }) body
    → CanMakeIn (changed_at tree c.args.directory (entered c.args.moment c.args.name.now
    (record { number = c.args.inode_attributes.now.number; slot = c.args.slot }) body)) c.args.inode_attributes.now body
    → g.F.Files.is_resumable c.in_err-make.field-0.0 =
    λ world tree body stands fits first enters makes.
    c.in_err-make.ensures.resumable world _ (c.in_ok-enter_name.ensures.ok world tree body stands fits enters) in
    subst (λ r. IfErr r (λ suspend. (world : g.F.Files.World) (tree : Tree) (body : Body)
    → g.F.Files.stands c.args.files.now world tree
    → IsBodyOf c.args.inode_attributes.now body → first_body c.args.inode_attributes.now c.args.target.now ≡ body
    → CanEnterAt tree c.args.moment c.args.directory c.args.name.now
    (record { number = c.args.inode_attributes.now.number; slot = c.args.slot }) body
    → CanMakeIn (changed_at tree c.args.directory (entered c.args.moment c.args.name.now
    (record { number = c.args.inode_attributes.now.number; slot = c.args.slot }) body)) c.args.inode_attributes.now body
    → g.F.Files.is_resumable suspend)) (sym same) rest

pub returns-clause-resumable : goal.returns-clause-resumable
returns-clause-resumable g c =
    MatchResult-weaker c.set_size.result c.set_size.ensures.resumable (λ x t. t)
    (λ suspend then world tree body stands fits first enters makes.
    let middle = changed_at tree c.args.directory (entered c.args.moment c.args.name.now
    (record { number = c.args.inode_attributes.now.number; slot = c.args.slot }) body) in
    then world _ (made_there (g.F.Files.stands c.make.new.self world) middle c.args.inode_attributes.now c.args.target.now body
    first fits makes (c.in_ok-make.ensures.ok world middle
    (c.in_ok-enter_name.ensures.ok world tree body stands fits enters))))

pub returns-clause-ok : goal.returns-clause-ok
returns-clause-ok g c =
    IfOk-weaker c.set_size.result _ _ (λ last then world tree body stands fits first enters makes.
    let inode_attributes = c.args.inode_attributes.now in
    let middle = changed_at tree c.args.directory (entered c.args.moment c.args.name.now
    (record { number = c.args.inode_attributes.now.number; slot = c.args.slot }) body) in
    let put = with_node middle inode_attributes.number (node_of inode_attributes body) in
    let there = made_there (g.F.Files.stands c.make.new.self world) middle inode_attributes c.args.target.now body
    first fits makes (c.in_ok-make.ensures.ok world middle
    (c.in_ok-enter_name.ensures.ok world tree body stands fits enters)) in
    let at : IsFileIn put inode_attributes body = record {
      there = put_there middle inode_attributes.number (node_of inode_attributes body);
      fits = fits;
    } in
    let done = then world put body there at makes.sound in (
      done.0,
      subst (g.F.Files.stands c.set_size.new.files world)
          (put_again middle inode_attributes.number (node_of inode_attributes body) (node_of inode_attributes (with_length c.args.size body))) done.1,
    ))
    c.set_size.ensures.ok
