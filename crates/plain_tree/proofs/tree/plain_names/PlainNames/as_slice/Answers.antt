use Rattle.std.proofs.Common.{sym, ap, ◌∙◌, map}
use Rattle.std.specs.FinMap as finmap
use Rattle.plain_tree.specs.Tree.Named.{plain_dirent_of}
use Rattle.plain_tree.proofs.TreeLemmas.Placed.{entries_named}
use Rattle.plain_tree.proofs.tree.plain_names.PlainNames.as_slice.Goals as goal

pub returns : goal.returns
returns c =
    ap (map plain_dirent_of) c.deref.ensures.value
    ∙ sym (entries_named c.self.inside.entries.items c.self.invariant)
    ∙ ap finmap.entries c.self.view_is
