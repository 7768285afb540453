-- The numbers of statuses (RFC 1813, section 2.6).
use Rattle.std.specs.Prelude.{ℕ, List, [], ◌∷◌}
use Rattle.nfs_types.specs.declared.status.Status.{Status}
use Rattle.nfs_types.specs.declared.status.Status.TheVariants as statuses

-- the number of each status but OK, which is 0 (`nfsstat3`)
abbrev pub status_number : Status → ℕ
status_number statuses.Perm = 1
status_number statuses.NoEnt = 2
status_number statuses.Io = 5
status_number statuses.Acces = 13
status_number statuses.Exist = 17
status_number statuses.NotDir = 20
status_number statuses.IsDir = 21
status_number statuses.Inval = 22
status_number statuses.FBig = 27
status_number statuses.NoSpc = 28
status_number statuses.MLink = 31
status_number statuses.NameTooLong = 63
status_number statuses.NotEmpty = 66
status_number statuses.Stale = 70
status_number statuses.BadHandle = 10001
status_number statuses.NotSync = 10002
status_number statuses.BadCookie = 10003
status_number statuses.NotSupp = 10004
status_number statuses.TooSmall = 10005
status_number statuses.ServerFault = 10006

-- all of them
abbrev pub refusals : List Status
refusals =
    statuses.Perm ∷ statuses.NoEnt ∷ statuses.Io ∷ statuses.Acces ∷ statuses.Exist ∷ statuses.NotDir
    ∷ statuses.IsDir ∷ statuses.Inval ∷ statuses.FBig ∷ statuses.NoSpc ∷ statuses.MLink
    ∷ statuses.NameTooLong ∷ statuses.NotEmpty ∷ statuses.Stale ∷ statuses.BadHandle ∷ statuses.NotSync
    ∷ statuses.BadCookie ∷ statuses.NotSupp ∷ statuses.TooSmall ∷ statuses.ServerFault ∷ []
