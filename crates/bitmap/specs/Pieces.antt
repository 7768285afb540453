-- What is asked for of a bitmap.
use Rattle.layout.specs.declared.geometry.Geometry.{Geometry}
use Rattle.layout.specs.Objects.{IsObject}
use Rattle.inode.specs.declared.suspend.Suspend.{Suspend}
use Rattle.inode.specs.declared.suspend.Suspend.TheVariants as suspend

-- what is asked for is an object of the image
abbrev pub IsAskedObject : Geometry → Suspend → Type 0
IsAskedObject g (suspend.Need addr mode) = IsObject g addr
IsAskedObject g (suspend.Claim block) = ⊥
IsAskedObject g suspend.Io = Unit {0}
IsAskedObject g (suspend.NoMemory error) = Unit {0}
