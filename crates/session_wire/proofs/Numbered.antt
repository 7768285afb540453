-- Programs and procedures have their numbers, and the numbers their procedures.
use Rattle.std.proofs.Common.{◌≡◌, ℕ, ◌<◌, ◌^◌, Bool, true, false, cond, List, [], ◌∷◌, Option, Some, None}
use Rattle.std.proofs.Common.{refl, sym, ap, subst, ◌∙◌, arith}
use Rattle.std.specs.Prelude.{◌==◌, option_map}
use Rattle.std.specs.List.{find}
use Rattle.std.proofs.lemmas.Bool.{eqb-true}
use Rattle.nfs_types.specs.declared.program.MountProcedure.{MountProcedure}
use Rattle.nfs_types.specs.declared.program.MountProcedure.TheVariants as mount
use Rattle.nfs_types.specs.declared.program.Procedure.{Procedure}
use Rattle.nfs_types.specs.declared.program.Procedure.TheVariants as nfs
use Rattle.nfs_types.specs.declared.program.Program.{Program}
use Rattle.nfs_types.specs.declared.program.Program.TheVariants.{Nfs, Mount}
use Rattle.nfs_types.specs.declared.program.ProgramProcedure.{ProgramProcedure}
use Rattle.nfs_types.specs.declared.program.ProgramProcedure.TheVariants as procedures
use Rattle.nfs_codec.specs.Procedures.{nfs_number, nfs_procedures, nfs_procedure, mount_number}
use Rattle.nfs_codec.specs.Procedures.{mount_procedures, mount_procedure, procedure_number, procedure_of}
use Rattle.session_wire.specs.Programs.{program_number, program_of, program_with}

abbrev some : {A : Type 0} → A → Option A
some x = Some x

some_is : {A : Type 0} (x y : A) → some x ≡ some y → x ≡ y
some_is x y e = cc

-- what is found passes the test
passes_by : {A : Type 0} (test : A → Bool) (x : A) (xs : List A) (b : Bool) → test x ≡ b
    → ((y : A) → find test xs ≡ Some y → test y ≡ true) → (y : A) → cond b (Some x) (find test xs) ≡ Some y
    → test y ≡ true
passes_by test x xs true is others y e = ap test (sym (some_is x y e)) ∙ is
passes_by test x xs false is others y e = others y e

passes : {A : Type 0} (test : A → Bool) (xs : List A) (y : A) → find test xs ≡ Some y → test y ≡ true
passes test [] y e = absurd cc
passes test (x ∷ xs) y e = passes_by test x xs (test x) refl (passes test xs) y e

-- what a mapped value comes from
record IsMapped {A B : Type 0} (f : A → B) (o : Option A) (y : B) : Type 0 where
  from : A
  found : o ≡ Some from
  is : f from ≡ y

mapped : {A B : Type 0} (f : A → B) (o : Option A) (y : B) → option_map f o ≡ Some y → IsMapped f o y
mapped f (Some x) y e = record { from = x; found = refl; is = some_is (f x) y e }
mapped f None y e = absurd cc

-- ---- programs

pub program_again : (p : Program) → program_of (program_number p) ≡ Some p
program_again Nfs = refl
program_again Mount = refl

pub program_takes : (n : ℕ) (p : Program) → program_of n ≡ Some p → n ≡ program_number p
program_takes n p e = eqb-true n (program_number p) (passes (λ p. n == program_number p) (Nfs ∷ Mount ∷ []) p e)

pub program_fits : (p : Program) → program_number p < 2 ^ 32
program_fits Nfs = omega arith
program_fits Mount = omega arith

-- ---- procedures

pub procedure_again : (p : ProgramProcedure) → procedure_of (program_with p) (procedure_number p) ≡ Some p
procedure_again (procedures.Nfs nfs.Null) = refl
procedure_again (procedures.Nfs nfs.GetAttr) = refl
procedure_again (procedures.Nfs nfs.SetAttr) = refl
procedure_again (procedures.Nfs nfs.Lookup) = refl
procedure_again (procedures.Nfs nfs.Access) = refl
procedure_again (procedures.Nfs nfs.ReadLink) = refl
procedure_again (procedures.Nfs nfs.Read) = refl
procedure_again (procedures.Nfs nfs.Write) = refl
procedure_again (procedures.Nfs nfs.Create) = refl
procedure_again (procedures.Nfs nfs.MkDir) = refl
procedure_again (procedures.Nfs nfs.SymLink) = refl
procedure_again (procedures.Nfs nfs.MkNod) = refl
procedure_again (procedures.Nfs nfs.Remove) = refl
procedure_again (procedures.Nfs nfs.RmDir) = refl
procedure_again (procedures.Nfs nfs.Rename) = refl
procedure_again (procedures.Nfs nfs.Link) = refl
procedure_again (procedures.Nfs nfs.ReadDir) = refl
procedure_again (procedures.Nfs nfs.ReadDirPlus) = refl
procedure_again (procedures.Nfs nfs.FsStat) = refl
procedure_again (procedures.Nfs nfs.FsInfo) = refl
procedure_again (procedures.Nfs nfs.PathConf) = refl
procedure_again (procedures.Nfs nfs.Commit) = refl
procedure_again (procedures.Mount mount.Null) = refl
procedure_again (procedures.Mount mount.Mount) = refl
procedure_again (procedures.Mount mount.Unmount) = refl

-- the procedure of a number, in its program
pub record IsNumbered (program : Program) (n : ℕ) (p : ProgramProcedure) : Type 0 where
  pub program_is : program ≡ program_with p
  pub number_is : n ≡ procedure_number p

pub procedure_takes : (program : Program) (n : ℕ) (p : ProgramProcedure) → procedure_of program n ≡ Some p
    → IsNumbered program n p
procedure_takes Nfs n p e =
    let m = mapped procedures.Nfs (nfs_procedure n) p e in
    subst (λ (q : ProgramProcedure). IsNumbered Nfs n q) m.is (record {
      program_is = refl;
      number_is = eqb-true n (nfs_number m.from)
          (passes (λ (q : Procedure). n == nfs_number q) nfs_procedures m.from m.found);
    })
procedure_takes Mount n p e =
    let m = mapped procedures.Mount (mount_procedure n) p e in
    subst (λ (q : ProgramProcedure). IsNumbered Mount n q) m.is (record {
      program_is = refl;
      number_is = eqb-true n (mount_number m.from)
          (passes (λ (q : MountProcedure). n == mount_number q) mount_procedures m.from m.found);
    })

pub number_fits : (p : ProgramProcedure) → procedure_number p < 2 ^ 32
number_fits (procedures.Nfs nfs.Null) = omega arith
number_fits (procedures.Nfs nfs.GetAttr) = omega arith
number_fits (procedures.Nfs nfs.SetAttr) = omega arith
number_fits (procedures.Nfs nfs.Lookup) = omega arith
number_fits (procedures.Nfs nfs.Access) = omega arith
number_fits (procedures.Nfs nfs.ReadLink) = omega arith
number_fits (procedures.Nfs nfs.Read) = omega arith
number_fits (procedures.Nfs nfs.Write) = omega arith
number_fits (procedures.Nfs nfs.Create) = omega arith
number_fits (procedures.Nfs nfs.MkDir) = omega arith
number_fits (procedures.Nfs nfs.SymLink) = omega arith
number_fits (procedures.Nfs nfs.MkNod) = omega arith
number_fits (procedures.Nfs nfs.Remove) = omega arith
number_fits (procedures.Nfs nfs.RmDir) = omega arith
number_fits (procedures.Nfs nfs.Rename) = omega arith
number_fits (procedures.Nfs nfs.Link) = omega arith
number_fits (procedures.Nfs nfs.ReadDir) = omega arith
number_fits (procedures.Nfs nfs.ReadDirPlus) = omega arith
number_fits (procedures.Nfs nfs.FsStat) = omega arith
number_fits (procedures.Nfs nfs.FsInfo) = omega arith
number_fits (procedures.Nfs nfs.PathConf) = omega arith
number_fits (procedures.Nfs nfs.Commit) = omega arith
number_fits (procedures.Mount mount.Null) = omega arith
number_fits (procedures.Mount mount.Mount) = omega arith
number_fits (procedures.Mount mount.Unmount) = omega arith
