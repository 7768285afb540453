-- What is known of the names of a call stays so however much more is read.
use Rattle.std.proofs.Common.{◌≡◌, ◌++◌, subst, sym, List, Contains}
use Rattle.std.proofs.lemmas.List.Elements.{Contains-append_left}
use Rattle.disk.specs.Crash.{Image}
use Rattle.objects.specs.Object.{ObjectBytes}
use Rattle.inode.specs.declared.snap.Snap.{Snap}
use Rattle.inode.specs.Read.{Saw}
use Rattle.dir.proofs.Grown.{grown}
use Rattle.dir.specs.declared.search.call_names.Names.{Names}
use Rattle.dir.specs.Search.Known.{IsKnown}

module _ (snap later : Snap) (more : List ObjectBytes) (same : later.geometry ≡ snap.geometry)
    (objects : later.objects.items ≡ snap.objects.items ++ more) where
  saw : (blocks : Image) → Saw blocks later → Saw blocks snap
  saw blocks seen object has =
      seen object (subst (λ (l : List ObjectBytes). Contains l object) (sym objects)
      (Contains-append_left snap.objects.items more object has))

  pub stays : (names : Names) → IsKnown snap names → IsKnown later names
  stays names is = record {
    first = grown snap later same saw names.first is.first;
    second = grown snap later same saw names.second is.second;
  }
