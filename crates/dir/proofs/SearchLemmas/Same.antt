-- A name that is looked for further is the same name.
use Rattle.std.proofs.Common.{◌≡◌, ap, ◌∙◌, Option}
use Rattle.nfs_types.specs.declared.call.DirectoryName.{DirectoryName}
use Rattle.dir.specs.declared.cursor.SearchCursor.{SearchCursor}
use Rattle.dir.specs.Search.Known.{IsOfDentry}

pub same_dentry : (dentry : Option DirectoryName) (old new : SearchCursor) → new.directory ≡ old.directory
    → new.name ≡ old.name → (old.directory ≡ 0 → new ≡ old) → IsOfDentry dentry old → IsOfDentry dentry new
same_dentry dentry old new directory name none is = record {
  name = λ one same. name ∙ is.name one same;
  directory = λ one same long. directory ∙ is.directory one same long;
  nowhere = λ same. directory ∙ is.nowhere same;
  none = λ same. ap (λ (s : SearchCursor). s.blocks) (none (is.nowhere same)) ∙ is.none same;
}
