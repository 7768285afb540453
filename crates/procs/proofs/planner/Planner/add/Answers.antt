use Rattle.std.proofs.Common.{subst, sym, List}
use Rattle.objects.specs.declared.addr.Addr.{Addr}
use Rattle.inode.specs.Snap.{AreSeen, with_mode}
use Rattle.inode.proofs.HadExclusive.{seen_with}
use Rattle.procs.proofs.KnownNames.{read_by}
use Rattle.procs.proofs.planner.Planner.add.Goals as goal

pub invariant_of-self : goal.invariant_of-self
invariant_of-self c =
    let old = c.args.self.now in record {
      known = read_by old.snap c.add.new.self c.args.addr _ old.names c.add.ensures.geometry c.add.ensures.objects old.known;
      exclusives = subst (λ (xs : List Addr). AreSeen xs c.add.new.self.objects.items) (sym c.add.ensures.exclusives)
          (subst (AreSeen (with_mode c.args.addr c.args.mode old.snap.exclusives.items)) (sym c.add.ensures.objects)
          (seen_with c.args.addr c.args.mode _ old.snap.exclusives.items old.snap.objects.items old.exclusives));
    }
