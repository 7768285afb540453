use Rattle.std.proofs.Common.{◌≡◌, ℕ, Ok, Some, subst, sym, arith}
use Rattle.layout.specs.Decode.{inode_at}
use Rattle.dir.proofs.search.call_names.Names.compared.Goals as goal

pub returns : goal.returns
returns c = λ snap call dentry known of one none long blocks inode saw there.
    let counted = c.args.self.now.counted in
    let within = known.first.within blocks inode saw
    (subst (λ (number : ℕ). inode_at snap.geometry blocks number ≡ Ok (Some inode))
    (sym (of.first.directory dentry one long)) there) in
    let rest = of.second.none none in
    omega (arith, counted, within, rest)
