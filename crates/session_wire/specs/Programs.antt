-- The two programs, by their numbers (RFC 1813, sections 2.2 and 5.2).
use Rattle.std.specs.Prelude.{ℕ, [], ◌∷◌, Option, ◌==◌}
use Rattle.std.specs.List.{find}
use Rattle.nfs_types.specs.declared.program.Program.{Program}
use Rattle.nfs_types.specs.declared.program.Program.TheVariants.{Nfs, Mount}
use Rattle.nfs_types.specs.declared.program.ProgramProcedure.{ProgramProcedure}
use Rattle.nfs_types.specs.declared.program.ProgramProcedure.TheVariants as procedures
use Rattle.rpc.specs.declared.constants.TheConstants.{NFS_PROGRAM, MOUNT_PROGRAM}

abbrev pub program_number : Program → ℕ
program_number Nfs = NFS_PROGRAM
program_number Mount = MOUNT_PROGRAM

-- the program of a number
abbrev pub program_of : ℕ → Option Program
program_of n = find (λ program. n == program_number program) (Nfs ∷ Mount ∷ [])

-- the program of a procedure
abbrev pub program_with : ProgramProcedure → Program
program_with (procedures.Nfs procedure) = Nfs
program_with (procedures.Mount procedure) = Mount
