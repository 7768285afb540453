use Rattle.std.proofs.Common.{rules, ◌≡◌, ℕ, Ok, Some, subst}
use Rattle.layout.specs.Decode.{inode_at}
use Rattle.dir.proofs.cursor.SearchCursor.valid_count.Goals as goal

pub returns-then-self-number : goal.returns-then-self-number
returns-then-self-number c = λ snap blocks inode index is saw at less.
    let same : c.args.number ≡ c.args.self.now.directory = (let h = c.if-self-number.true in search rules) in
    is.valid_blocks blocks inode index saw
    (subst (λ (number : ℕ). inode_at snap.geometry blocks number ≡ Ok (Some inode)) same at) less
