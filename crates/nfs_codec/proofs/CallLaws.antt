-- The calls of each procedure are read as they are spelled: a row for each.
use Rattle.std.proofs.Common.{◌≡◌, ℕ, ◌≤◌, List, ◌++◌, length, Result, Ok, Err, refl, sym, ap, subst, ◌∙◌}
use Rattle.std.proofs.Common.{arith}
use Rattle.nfs_types.specs.declared.call.Call.TheVariants as calls
use Rattle.nfs_types.specs.declared.mount.MountCall.TheVariants as mount_calls
use Rattle.nfs_types.specs.declared.mount.TheConstants.{PATH_BYTES}
use Rattle.nfs_types.specs.declared.program.MountProcedure.TheVariants as mount
use Rattle.nfs_types.specs.declared.program.Procedure.TheVariants as nfs
use Rattle.nfs_types.specs.declared.program.ProgramCall.{ProgramCall}
use Rattle.nfs_types.specs.declared.program.ProgramCall.TheVariants as program_calls
use Rattle.nfs_types.specs.declared.program.ProgramProcedure.{ProgramProcedure}
use Rattle.nfs_types.specs.declared.program.ProgramProcedure.TheVariants as procedures
use Rattle.nfs_types.specs.Fits.{ProgramCallFits}
use Rattle.xdr.specs.declared.fault.XdrFault.{XdrFault}
use Rattle.xdr.specs.Codes.{Code, made_of, nothing}
use Rattle.xdr.specs.Reading.{◌>>=◌}
use Rattle.xdr.proofs.Coded.{IsBytes, Takes}
use Rattle.xdr.proofs.Never.{Never}
use Rattle.xdr.proofs.Never as never
use Rattle.xdr.proofs.Refusing.{made_err}
use Rattle.xdr.proofs.Lawful.{IsCode, map_ok, words, doubles, opaques, nothings, thens, fittings, whole_takes}
use Rattle.xdr.proofs.Lawful.{whole_again, whole_never}
use Rattle.nfs_codec.specs.Arguments.{get_attr, set_attr, lookup, access, read_link, read, write, create}
use Rattle.nfs_codec.specs.Arguments.{mk_dir}
use Rattle.nfs_codec.specs.Arguments.{sym_link, mk_nod, remove, rm_dir, rename, link, read_dir, read_dir_plus}
use Rattle.nfs_codec.specs.Arguments.{fs_stat, fs_info, path_conf, commit, path, arguments, call_at, calls_of}
use Rattle.nfs_codec.specs.Arguments.{call_refuses, call_of}
use Rattle.nfs_codec.specs.Items.{handle, text, directory_name, moment, verifier, guard, new_attributes}
use Rattle.nfs_codec.specs.Items.{create_how, stability, special_file}
use Rattle.nfs_codec.specs.Procedures.{called}
use Rattle.nfs_codec.proofs.ItemLaws.{handles, texts, directory_names, verifiers, guards, new_attributes_is}
use Rattle.nfs_codec.proofs.ItemLaws.{create_hows, stabilities, special_files}

paths : IsCode path
unfolding path
paths = fittings _ _ (λ t f. record { short = f.0; each = f.1 }) (λ t f. (f.short, f.each))
    (opaques PATH_BYTES (omega arith))

set_attr_is : IsCode set_attr
set_attr_is = thens _ _ handles (thens _ _ new_attributes_is guards)

access_is : IsCode access
access_is = thens _ _ handles words

read_is : IsCode read
read_is = thens _ _ handles (thens _ _ doubles words)

write_is : IsCode write
write_is = thens _ _ handles (thens _ _ doubles (thens _ _ words (thens _ _ stabilities texts)))

create_is : IsCode create
create_is = thens _ _ directory_names create_hows

mk_dir_is : IsCode mk_dir
mk_dir_is = thens _ _ directory_names new_attributes_is

sym_link_is : IsCode sym_link
sym_link_is = thens _ _ directory_names (thens _ _ new_attributes_is texts)

mk_nod_is : IsCode mk_nod
mk_nod_is = thens _ _ directory_names special_files

rename_is : IsCode rename
rename_is = thens _ _ directory_names directory_names

link_is : IsCode link
link_is = thens _ _ handles directory_names

read_dir_is : IsCode read_dir
read_dir_is = thens _ _ handles (thens _ _ doubles (thens _ _ verifiers words))

read_dir_plus_is : IsCode read_dir_plus
read_dir_plus_is = thens _ _ handles (thens _ _ doubles (thens _ _ verifiers (thens _ _ words words)))

commit_is : IsCode commit
commit_is = thens _ _ handles (thens _ _ doubles words)

-- a call that is made of what a code reads
record Makes {A : Type 0} (p : ProgramProcedure) (F : Code A) (make : A → ProgramCall) (x : A) : Type 0 where
  spelled : arguments (make x) ≡ F.spell x
  called : called (make x) ≡ p
  fits : F.Fits x → ProgramCallFits (make x)

-- a lawful code whose values make the calls of a procedure
record Row (p : ProgramProcedure) : Type 1 where
  Parts : Type 0
  code : Code Parts
  lawful : IsCode code
  make : Parts → ProgramCall
  makes : (x : Parts) → Makes p code make x
  reads : (bytes : List ℕ) → call_at p bytes ≡ (code.read bytes >>= made_of make)
  refuses : (bytes : List ℕ) (e : XdrFault) → code.Refuses bytes e → call_refuses p bytes e
  refused : (bytes : List ℕ) (e : XdrFault) → call_refuses p bytes e → code.Refuses bytes e

twice : {A B C : Type 0} (r : Result (A × List ℕ) XdrFault) (f : A → B) (g : B → C)
    → (r >>= made_of f >>= made_of g) ≡ (r >>= made_of (λ x. g (f x)))
twice (Ok x) f g = refl
twice (Err e) f g = refl

row : (p : ProgramProcedure) → Row p
unfolding handle text directory_name moment verifier guard new_attributes create_how stability special_file path
row (procedures.Nfs nfs.Null) = record {
  Parts = _;
  code = nothing;
  lawful = nothings;
  make = λ x. program_calls.Nfs calls.Null;
  makes = λ x. record { spelled = refl; called = refl; fits = λ f. tt };
  reads = λ bytes. twice (nothing.read bytes) (λ x. calls.Null) program_calls.Nfs;
  refuses = λ bytes e r. r;
  refused = λ bytes e r. r;
}
row (procedures.Nfs nfs.GetAttr) = record {
  Parts = _;
  code = get_attr;
  lawful = handles;
  make = λ x. program_calls.Nfs (calls.GetAttr x);
  makes = λ x. record { spelled = refl; called = refl; fits = λ f. f };
  reads = λ bytes. twice (get_attr.read bytes) (λ x. calls.GetAttr x) program_calls.Nfs;
  refuses = λ bytes e r. r;
  refused = λ bytes e r. r;
}
row (procedures.Nfs nfs.SetAttr) = record {
  Parts = _;
  code = set_attr;
  lawful = set_attr_is;
  make = λ x. program_calls.Nfs (calls.SetAttr x.0 x.1.0 x.1.1);
  makes = λ x. record { spelled = refl; called = refl; fits = λ f. (f.0, f.1.0, f.1.1) };
  reads = λ bytes. twice (set_attr.read bytes) (λ x. calls.SetAttr x.0 x.1.0 x.1.1) program_calls.Nfs;
  refuses = λ bytes e r. r;
  refused = λ bytes e r. r;
}
row (procedures.Nfs nfs.Lookup) = record {
  Parts = _;
  code = lookup;
  lawful = directory_names;
  make = λ x. program_calls.Nfs (calls.Lookup x);
  makes = λ x. record { spelled = refl; called = refl; fits = λ f. f };
  reads = λ bytes. twice (lookup.read bytes) (λ x. calls.Lookup x) program_calls.Nfs;
  refuses = λ bytes e r. r;
  refused = λ bytes e r. r;
}
row (procedures.Nfs nfs.Access) = record {
  Parts = _;
  code = access;
  lawful = access_is;
  make = λ x. program_calls.Nfs (calls.Access x.0 x.1);
  makes = λ x. record { spelled = refl; called = refl; fits = λ f. (f.0, f.1) };
  reads = λ bytes. twice (access.read bytes) (λ x. calls.Access x.0 x.1) program_calls.Nfs;
  refuses = λ bytes e r. r;
  refused = λ bytes e r. r;
}
row (procedures.Nfs nfs.ReadLink) = record {
  Parts = _;
  code = read_link;
  lawful = handles;
  make = λ x. program_calls.Nfs (calls.ReadLink x);
  makes = λ x. record { spelled = refl; called = refl; fits = λ f. f };
  reads = λ bytes. twice (read_link.read bytes) (λ x. calls.ReadLink x) program_calls.Nfs;
  refuses = λ bytes e r. r;
  refused = λ bytes e r. r;
}
row (procedures.Nfs nfs.Read) = record {
  Parts = _;
  code = read;
  lawful = read_is;
  make = λ x. program_calls.Nfs (calls.Read x.0 x.1.0 x.1.1);
  makes = λ x. record { spelled = refl; called = refl; fits = λ f. (f.0, f.1.0, f.1.1) };
  reads = λ bytes. twice (read.read bytes) (λ x. calls.Read x.0 x.1.0 x.1.1) program_calls.Nfs;
  refuses = λ bytes e r. r;
  refused = λ bytes e r. r;
}
row (procedures.Nfs nfs.Write) = record {
  Parts = _;
  code = write;
  lawful = write_is;
  make = λ x. program_calls.Nfs (calls.Write x.0 x.1.0 x.1.1.0 x.1.1.1.0 x.1.1.1.1);
  makes = λ x. record { spelled = refl; called = refl; fits = λ f. (f.0, f.1.0, f.1.1.0, f.1.1.1.1) };
  reads = λ bytes. twice (write.read bytes) (λ x. calls.Write x.0 x.1.0 x.1.1.0 x.1.1.1.0 x.1.1.1.1)
      program_calls.Nfs;
  refuses = λ bytes e r. r;
  refused = λ bytes e r. r;
}
row (procedures.Nfs nfs.Create) = record {
  Parts = _;
  code = create;
  lawful = create_is;
  make = λ x. program_calls.Nfs (calls.Create x.0 x.1);
  makes = λ x. record { spelled = refl; called = refl; fits = λ f. (f.0, f.1) };
  reads = λ bytes. twice (create.read bytes) (λ x. calls.Create x.0 x.1) program_calls.Nfs;
  refuses = λ bytes e r. r;
  refused = λ bytes e r. r;
}
row (procedures.Nfs nfs.MkDir) = record {
  Parts = _;
  code = mk_dir;
  lawful = mk_dir_is;
  make = λ x. program_calls.Nfs (calls.MkDir x.0 x.1);
  makes = λ x. record { spelled = refl; called = refl; fits = λ f. (f.0, f.1) };
  reads = λ bytes. twice (mk_dir.read bytes) (λ x. calls.MkDir x.0 x.1) program_calls.Nfs;
  refuses = λ bytes e r. r;
  refused = λ bytes e r. r;
}
row (procedures.Nfs nfs.SymLink) = record {
  Parts = _;
  code = sym_link;
  lawful = sym_link_is;
  make = λ x. program_calls.Nfs (calls.SymLink x.0 x.1.0 x.1.1);
  makes = λ x. record { spelled = refl; called = refl; fits = λ f. (f.0, f.1.0, f.1.1) };
  reads = λ bytes. twice (sym_link.read bytes) (λ x. calls.SymLink x.0 x.1.0 x.1.1) program_calls.Nfs;
  refuses = λ bytes e r. r;
  refused = λ bytes e r. r;
}
row (procedures.Nfs nfs.MkNod) = record {
  Parts = _;
  code = mk_nod;
  lawful = mk_nod_is;
  make = λ x. program_calls.Nfs (calls.MkNod x.0 x.1);
  makes = λ x. record { spelled = refl; called = refl; fits = λ f. (f.0, f.1) };
  reads = λ bytes. twice (mk_nod.read bytes) (λ x. calls.MkNod x.0 x.1) program_calls.Nfs;
  refuses = λ bytes e r. r;
  refused = λ bytes e r. r;
}
row (procedures.Nfs nfs.Remove) = record {
  Parts = _;
  code = remove;
  lawful = directory_names;
  make = λ x. program_calls.Nfs (calls.Remove x);
  makes = λ x. record { spelled = refl; called = refl; fits = λ f. f };
  reads = λ bytes. twice (remove.read bytes) (λ x. calls.Remove x) program_calls.Nfs;
  refuses = λ bytes e r. r;
  refused = λ bytes e r. r;
}
row (procedures.Nfs nfs.RmDir) = record {
  Parts = _;
  code = rm_dir;
  lawful = directory_names;
  make = λ x. program_calls.Nfs (calls.RmDir x);
  makes = λ x. record { spelled = refl; called = refl; fits = λ f. f };
  reads = λ bytes. twice (rm_dir.read bytes) (λ x. calls.RmDir x) program_calls.Nfs;
  refuses = λ bytes e r. r;
  refused = λ bytes e r. r;
}
row (procedures.Nfs nfs.Rename) = record {
  Parts = _;
  code = rename;
  lawful = rename_is;
  make = λ x. program_calls.Nfs (calls.Rename x.0 x.1);
  makes = λ x. record { spelled = refl; called = refl; fits = λ f. (f.0, f.1) };
  reads = λ bytes. twice (rename.read bytes) (λ x. calls.Rename x.0 x.1) program_calls.Nfs;
  refuses = λ bytes e r. r;
  refused = λ bytes e r. r;
}
row (procedures.Nfs nfs.Link) = record {
  Parts = _;
  code = link;
  lawful = link_is;
  make = λ x. program_calls.Nfs (calls.Link x.0 x.1);
  makes = λ x. record { spelled = refl; called = refl; fits = λ f. (f.0, f.1) };
  reads = λ bytes. twice (link.read bytes) (λ x. calls.Link x.0 x.1) program_calls.Nfs;
  refuses = λ bytes e r. r;
  refused = λ bytes e r. r;
}
row (procedures.Nfs nfs.ReadDir) = record {
  Parts = _;
  code = read_dir;
  lawful = read_dir_is;
  make = λ x. program_calls.Nfs (calls.ReadDir x.0 x.1.0 x.1.1.0 x.1.1.1);
  makes = λ x. record { spelled = refl; called = refl; fits = λ f. (f.0, f.1.0, f.1.1.0, f.1.1.1) };
  reads = λ bytes. twice (read_dir.read bytes) (λ x. calls.ReadDir x.0 x.1.0 x.1.1.0 x.1.1.1) program_calls.Nfs;
  refuses = λ bytes e r. r;
  refused = λ bytes e r. r;
}
row (procedures.Nfs nfs.ReadDirPlus) = record {
  Parts = _;
  code = read_dir_plus;
  lawful = read_dir_plus_is;
  make = λ x. program_calls.Nfs (calls.ReadDirPlus x.0 x.1.0 x.1.1.0 x.1.1.1.0 x.1.1.1.1);
  makes = λ x. record {
    spelled = refl;
    called = refl;
    fits = λ f. (f.0, f.1.0, f.1.1.0, f.1.1.1.0, f.1.1.1.1);
  };
  reads = λ bytes. twice (read_dir_plus.read bytes)
      (λ x. calls.ReadDirPlus x.0 x.1.0 x.1.1.0 x.1.1.1.0 x.1.1.1.1) program_calls.Nfs;
  refuses = λ bytes e r. r;
  refused = λ bytes e r. r;
}
row (procedures.Nfs nfs.FsStat) = record {
  Parts = _;
  code = fs_stat;
  lawful = handles;
  make = λ x. program_calls.Nfs (calls.FsStat x);
  makes = λ x. record { spelled = refl; called = refl; fits = λ f. f };
  reads = λ bytes. twice (fs_stat.read bytes) (λ x. calls.FsStat x) program_calls.Nfs;
  refuses = λ bytes e r. r;
  refused = λ bytes e r. r;
}
row (procedures.Nfs nfs.FsInfo) = record {
  Parts = _;
  code = fs_info;
  lawful = handles;
  make = λ x. program_calls.Nfs (calls.FsInfo x);
  makes = λ x. record { spelled = refl; called = refl; fits = λ f. f };
  reads = λ bytes. twice (fs_info.read bytes) (λ x. calls.FsInfo x) program_calls.Nfs;
  refuses = λ bytes e r. r;
  refused = λ bytes e r. r;
}
row (procedures.Nfs nfs.PathConf) = record {
  Parts = _;
  code = path_conf;
  lawful = handles;
  make = λ x. program_calls.Nfs (calls.PathConf x);
  makes = λ x. record { spelled = refl; called = refl; fits = λ f. f };
  reads = λ bytes. twice (path_conf.read bytes) (λ x. calls.PathConf x) program_calls.Nfs;
  refuses = λ bytes e r. r;
  refused = λ bytes e r. r;
}
row (procedures.Nfs nfs.Commit) = record {
  Parts = _;
  code = commit;
  lawful = commit_is;
  make = λ x. program_calls.Nfs (calls.Commit x.0 x.1.0 x.1.1);
  makes = λ x. record { spelled = refl; called = refl; fits = λ f. (f.0, f.1.0, f.1.1) };
  reads = λ bytes. twice (commit.read bytes) (λ x. calls.Commit x.0 x.1.0 x.1.1) program_calls.Nfs;
  refuses = λ bytes e r. r;
  refused = λ bytes e r. r;
}
row (procedures.Mount mount.Null) = record {
  Parts = _;
  code = nothing;
  lawful = nothings;
  make = λ x. program_calls.Mount mount_calls.Null;
  makes = λ x. record { spelled = refl; called = refl; fits = λ f. tt };
  reads = λ bytes. twice (nothing.read bytes) (λ x. mount_calls.Null) program_calls.Mount;
  refuses = λ bytes e r. r;
  refused = λ bytes e r. r;
}
row (procedures.Mount mount.Mount) = record {
  Parts = _;
  code = path;
  lawful = paths;
  make = λ x. program_calls.Mount (mount_calls.Mount x);
  makes = λ x. record { spelled = refl; called = refl; fits = λ f. f };
  reads = λ bytes. twice (path.read bytes) (λ x. mount_calls.Mount x) program_calls.Mount;
  refuses = λ bytes e r. r;
  refused = λ bytes e r. r;
}
row (procedures.Mount mount.Unmount) = record {
  Parts = _;
  code = path;
  lawful = paths;
  make = λ x. program_calls.Mount (mount_calls.Unmount x);
  makes = λ x. record { spelled = refl; called = refl; fits = λ f. f };
  reads = λ bytes. twice (path.read bytes) (λ x. mount_calls.Unmount x) program_calls.Mount;
  refuses = λ bytes e r. r;
  refused = λ bytes e r. r;
}

record TakesCall (p : ProgramProcedure) (bytes : List ℕ) (c : ProgramCall) (rest : List ℕ) : Type 0 where
  takes : Takes bytes (arguments c) rest
  called : called c ≡ p
  fits : ProgramCallFits c

call_takes : (p : ProgramProcedure) (r : Row p) (bytes : List ℕ) (c : ProgramCall) (rest : List ℕ)
    → IsBytes bytes
    → call_at p bytes ≡ Ok (c, rest) → TakesCall p bytes c rest
call_takes p r bytes c rest fits e =
    let m = map_ok (r.code.read bytes) r.make c rest (sym (r.reads bytes) ∙ e) in
    let t = r.lawful.takes bytes m.0 rest fits m.1 in
    let x = r.makes m.0 in
    subst (λ (c : ProgramCall). TakesCall p bytes c rest) m.2
    (record {
      takes = subst (λ (s : List ℕ). Takes bytes s rest) (sym x.spelled) t.0;
      called = x.called;
      fits = x.fits t.1;
    })

call_shrinks : (p : ProgramProcedure) (r : Row p) (bytes : List ℕ) (c : ProgramCall) (rest : List ℕ)
    → call_at p bytes ≡ Ok (c, rest) → length rest ≤ length bytes
call_shrinks p r bytes c rest e =
    let m = map_ok (r.code.read bytes) r.make c rest (sym (r.reads bytes) ∙ e) in
    r.lawful.shrinks bytes m.0 rest m.1

call_never : (p : ProgramProcedure) (r : Row p) (bytes : List ℕ) → Never (call_at p bytes)
call_never p r bytes = rw (r.reads bytes)
    (never.bind (r.code.read bytes) (made_of r.make) (r.lawful.never bytes) (λ x. never.ok_never _))

call_again : (c : ProgramCall) (rest : List ℕ) → ProgramCallFits c
    → call_at (called c) (arguments c ++ rest) ≡ Ok (c, rest)
unfolding handle text directory_name moment verifier guard new_attributes create_how stability special_file path
call_again (program_calls.Nfs calls.Null) rest fits = refl
call_again (program_calls.Nfs (calls.GetAttr a)) rest fits = rw (handles.again a rest fits) refl
call_again (program_calls.Nfs (calls.SetAttr a b c)) rest fits =
    rw (set_attr_is.again (a, (b, c)) rest (fits.0, (fits.1, fits.2))) refl
call_again (program_calls.Nfs (calls.Lookup a)) rest fits = rw (directory_names.again a rest fits) refl
call_again (program_calls.Nfs (calls.Access a b)) rest fits =
    rw (access_is.again (a, b) rest (fits.0, fits.1)) refl
call_again (program_calls.Nfs (calls.ReadLink a)) rest fits = rw (handles.again a rest fits) refl
call_again (program_calls.Nfs (calls.Read a b c)) rest fits =
    rw (read_is.again (a, (b, c)) rest (fits.0, (fits.1, fits.2))) refl
call_again (program_calls.Nfs (calls.Write a b c d e)) rest fits =
    rw (write_is.again (a, (b, (c, (d, e)))) rest (fits.0, (fits.1, (fits.2, (tt, fits.3))))) refl
call_again (program_calls.Nfs (calls.Create a b)) rest fits =
    rw (create_is.again (a, b) rest (fits.0, fits.1)) refl
call_again (program_calls.Nfs (calls.MkDir a b)) rest fits =
    rw (mk_dir_is.again (a, b) rest (fits.0, fits.1)) refl
call_again (program_calls.Nfs (calls.SymLink a b c)) rest fits =
    rw (sym_link_is.again (a, (b, c)) rest (fits.0, (fits.1, fits.2))) refl
call_again (program_calls.Nfs (calls.MkNod a b)) rest fits =
    rw (mk_nod_is.again (a, b) rest (fits.0, fits.1)) refl
call_again (program_calls.Nfs (calls.Remove a)) rest fits = rw (directory_names.again a rest fits) refl
call_again (program_calls.Nfs (calls.RmDir a)) rest fits = rw (directory_names.again a rest fits) refl
call_again (program_calls.Nfs (calls.Rename a b)) rest fits =
    rw (rename_is.again (a, b) rest (fits.0, fits.1)) refl
call_again (program_calls.Nfs (calls.Link a b)) rest fits = rw (link_is.again (a, b) rest (fits.0, fits.1)) refl
call_again (program_calls.Nfs (calls.ReadDir a b c d)) rest fits =
    rw (read_dir_is.again (a, (b, (c, d))) rest (fits.0, (fits.1, (fits.2, fits.3)))) refl
call_again (program_calls.Nfs (calls.ReadDirPlus a b c d e)) rest fits =
    rw (read_dir_plus_is.again (a, (b, (c, (d, e)))) rest (fits.0, (fits.1, (fits.2, (fits.3, fits.4))))) refl
call_again (program_calls.Nfs (calls.FsStat a)) rest fits = rw (handles.again a rest fits) refl
call_again (program_calls.Nfs (calls.FsInfo a)) rest fits = rw (handles.again a rest fits) refl
call_again (program_calls.Nfs (calls.PathConf a)) rest fits = rw (handles.again a rest fits) refl
call_again (program_calls.Nfs (calls.Commit a b c)) rest fits =
    rw (commit_is.again (a, (b, c)) rest (fits.0, (fits.1, fits.2))) refl
call_again (program_calls.Mount mount_calls.Null) rest fits = refl
call_again (program_calls.Mount (mount_calls.Mount a)) rest fits = rw (paths.again a rest fits) refl
call_again (program_calls.Mount (mount_calls.Unmount a)) rest fits = rw (paths.again a rest fits) refl

pub calls_are : (p : ProgramProcedure) → IsCode (calls_of p)
calls_are p = record {
  takes = λ bytes c rest fits e.
      let t = call_takes p (row p) bytes c rest fits e in
      (t.takes, (t.called, t.fits));
  again = λ c rest fits.
      subst (λ (q : ProgramProcedure). call_at q (arguments c ++ rest) ≡ Ok (c, rest)) fits.0
      (call_again c rest fits.1);
  shrinks = λ bytes c rest e. call_shrinks p (row p) bytes c rest e;
  never = λ bytes. call_never p (row p) bytes;
  refuses = λ bytes e fits h.
      let r = row p in
      r.refuses bytes e (r.lawful.refuses bytes e fits
      (made_err (r.code.read bytes) r.make e (sym (r.reads bytes) ∙ h)));
  refused = λ bytes e h.
      let r = row p in
      r.reads bytes ∙ rw (r.lawful.refused bytes e (r.refused bytes e h)) refl;
}

pub taken_whole : (p : ProgramProcedure) (bytes : List ℕ) (c : ProgramCall) → IsBytes bytes
    → call_of p bytes ≡ Ok c
    → (called c ≡ p) × ProgramCallFits c × (bytes ≡ arguments c)
taken_whole p bytes c fits e =
    let t = whole_takes (calls_of p) (calls_are p) bytes c fits e in
    (t.0.0, t.0.1, t.1)

pub read_again : (p : ProgramProcedure) (bytes : List ℕ) (c : ProgramCall) → called c ≡ p → ProgramCallFits c
    → bytes ≡ arguments c → call_of p bytes ≡ Ok c
read_again p bytes c is fits spelled =
    ap (call_of p) spelled ∙ whole_again (calls_of p) (calls_are p) c (is, fits)

pub never_memory : (p : ProgramProcedure) (bytes : List ℕ) → Never (call_of p bytes)
never_memory p bytes = whole_never (calls_of p) (calls_are p) bytes
