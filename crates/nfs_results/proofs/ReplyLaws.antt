-- The replies to each procedure are read as they are spelled: a term for each result, and a row for each
-- procedure.
use Rattle.std.proofs.Common.{◌≡◌, ◌⊎◌, inl, inr, ℕ, ◌≤◌, List, ◌++◌, length, Result, Ok, Err, refl, sym, ap}
use Rattle.std.proofs.Common.{subst, ◌∙◌}
use Rattle.std.proofs.Common.{arith}
use Rattle.nfs_types.specs.declared.mount.MountReply.TheVariants as mount_replies
use Rattle.nfs_types.specs.declared.program.MountProcedure.TheVariants as mount
use Rattle.nfs_types.specs.declared.program.Procedure.TheVariants as nfs
use Rattle.nfs_types.specs.declared.program.ProgramProcedure.{ProgramProcedure}
use Rattle.nfs_types.specs.declared.program.ProgramProcedure.TheVariants as procedures
use Rattle.nfs_types.specs.declared.program.ProgramReply.{ProgramReply}
use Rattle.nfs_types.specs.declared.program.ProgramReply.TheVariants as program_replies
use Rattle.nfs_types.specs.declared.reply.Reply.TheVariants as replies
use Rattle.nfs_types.specs.declared.status.Status.{Status}
use Rattle.nfs_types.specs.declared.status.Status.TheVariants as statuses
use Rattle.xdr.specs.declared.fault.XdrFault.{XdrFault}
use Rattle.xdr.specs.Codes.{Code, made_of, nothing, ◌then◌}
use Rattle.xdr.specs.Reading.{◌>>=◌}
use Rattle.xdr.proofs.Coded.{IsBytes, Takes}
use Rattle.xdr.proofs.Never.{Never}
use Rattle.xdr.proofs.Never as never
use Rattle.xdr.proofs.Refusing.{made_err}
use Rattle.xdr.proofs.Lawful.{IsCode, map_ok, words, doubles, flags, nothings, thens, vieweds, chains, counteds}
use Rattle.xdr.proofs.Lawful.{or_is, HasNumbers, arms_are, unions, whole_takes, whole_again}
use Rattle.nfs_results.specs.Results.{by_status, default_void_made, default_void_parts, default_void}
use Rattle.nfs_results.specs.Results.{behind_made, behind_parts, behind, before_made, before_parts, before}
use Rattle.nfs_results.specs.Results.{lookup_result, read_bytes, written, created, entry, entries, listed, entry_plus}
use Rattle.nfs_results.specs.Results.{entries_plus, listed_plus, space, info, limits, flavors, mounted}
use Rattle.nfs_results.specs.Results.{get_attr, set_attr, lookup, access, read_link, read, write, create}
use Rattle.nfs_results.specs.Results.{remove}
use Rattle.nfs_results.specs.Results.{rename, link, read_dir, read_dir_plus, fs_stat, fs_info, path_conf}
use Rattle.nfs_results.specs.Results.{commit}
use Rattle.nfs_results.specs.Results.{reply_refuses, mount_root, result_bytes, ReplyFits, reply_at}
use Rattle.nfs_results.specs.Results.{replies_to, reply_of}
use Rattle.nfs_codec.specs.Procedures.{replied_to}
use Rattle.nfs_codec.specs.Statuses.{status_number, refusals}
use Rattle.nfs_codec.proofs.ItemLaws.{handles, texts, moments, verifiers, stabilities, attributes_is}
use Rattle.nfs_codec.proofs.ItemLaws.{optional_attributes_is, weak_caches, optional_handles}

-- ---- statuses and outcomes

status_numbers : (s : Status) → HasNumbers status_number refusals s
status_numbers statuses.Perm = record { found = refl; small = omega arith }
status_numbers statuses.NoEnt = record { found = refl; small = omega arith }
status_numbers statuses.Io = record { found = refl; small = omega arith }
status_numbers statuses.Acces = record { found = refl; small = omega arith }
status_numbers statuses.Exist = record { found = refl; small = omega arith }
status_numbers statuses.NotDir = record { found = refl; small = omega arith }
status_numbers statuses.IsDir = record { found = refl; small = omega arith }
status_numbers statuses.Inval = record { found = refl; small = omega arith }
status_numbers statuses.FBig = record { found = refl; small = omega arith }
status_numbers statuses.NoSpc = record { found = refl; small = omega arith }
status_numbers statuses.MLink = record { found = refl; small = omega arith }
status_numbers statuses.NameTooLong = record { found = refl; small = omega arith }
status_numbers statuses.NotEmpty = record { found = refl; small = omega arith }
status_numbers statuses.Stale = record { found = refl; small = omega arith }
status_numbers statuses.BadHandle = record { found = refl; small = omega arith }
status_numbers statuses.NotSync = record { found = refl; small = omega arith }
status_numbers statuses.BadCookie = record { found = refl; small = omega arith }
status_numbers statuses.NotSupp = record { found = refl; small = omega arith }
status_numbers statuses.TooSmall = record { found = refl; small = omega arith }
status_numbers statuses.ServerFault = record { found = refl; small = omega arith }

statuses_are : {A B : Type 0} (F : Code A) (G : Code B) → IsCode F → IsCode G → IsCode (by_status F G)
statuses_are F G f g = unions _ (or_is _ _ _ (omega arith) refl f (arms_are _ _ _ status_numbers g))

default_void_back : {A : Type 0} (x : A ⊎ (Status × Unit {0})) → default_void_parts (default_void_made x) ≡ x
default_void_back (inl x) = refl
default_void_back (inr x) = refl

default_void_forth : {A : Type 0} (o : Result A Status) → default_void_made (default_void_parts o) ≡ o
default_void_forth (Ok x) = refl
default_void_forth (Err s) = refl

default_voids : {A : Type 0} (F : Code A) → IsCode F → IsCode (default_void F)
default_voids F f = vieweds _ _ _ default_void_back default_void_forth (statuses_are F nothing f nothings)

behind_back : {A B : Type 0} (x : (B × A) ⊎ (Status × B)) → behind_parts (behind_made x).0 (behind_made x).1 ≡ x
behind_back (inl x) = refl
behind_back (inr x) = refl

behind_forth : {A B : Type 0} (o : Result A Status) (both : B) → behind_made (behind_parts o both) ≡ (o, both)
behind_forth (Ok x) both = refl
behind_forth (Err s) both = refl

behinds : {A B : Type 0} (F : Code B) (G : Code A) → IsCode F → IsCode G → IsCode (behind F G)
behinds F G f g =
    vieweds _ _ _ behind_back (λ r. behind_forth r.0 r.1) (statuses_are (F then G) F (thens F G f g) f)

before_back : {A B : Type 0} (x : (A × B) ⊎ (Status × B)) → before_parts (before_made x).0 (before_made x).1 ≡ x
before_back (inl x) = refl
before_back (inr x) = refl

before_forth : {A B : Type 0} (o : Result A Status) (both : B) → before_made (before_parts o both) ≡ (o, both)
before_forth (Ok x) both = refl
before_forth (Err s) both = refl

befores : {A B : Type 0} (F : Code A) (G : Code B) → IsCode F → IsCode G → IsCode (before F G)
befores F G f g =
    vieweds _ _ _ before_back (λ r. before_forth r.0 r.1) (statuses_are (F then G) G (thens F G f g) g)

-- ---- what comes after OK

lookup_result_is : IsCode lookup_result
unfolding lookup_result
lookup_result_is = vieweds _ _ _ (λ b. refl) (λ a. refl) (thens _ _ handles optional_attributes_is)

read_bytes_is : IsCode read_bytes
unfolding read_bytes
read_bytes_is = vieweds _ _ _ (λ b. refl) (λ a. refl) (thens _ _ words (thens _ _ flags texts))

written_is : IsCode written
unfolding written
written_is = vieweds _ _ _ (λ b. refl) (λ a. refl) (thens _ _ words (thens _ _ stabilities verifiers))

created_is : IsCode created
unfolding created
created_is = vieweds _ _ _ (λ b. refl) (λ a. refl) (thens _ _ optional_handles optional_attributes_is)

pub entry_is : IsCode entry
unfolding entry
entry_is = vieweds _ _ _ (λ b. refl) (λ a. refl) (thens _ _ doubles (thens _ _ texts doubles))

entries_are : IsCode entries
unfolding entries
entries_are = chains _ entry_is

listed_is : IsCode listed
unfolding listed
listed_is = vieweds _ _ _ (λ b. refl) (λ a. refl) (thens _ _ verifiers (thens _ _ entries_are flags))

pub entry_plus_is : IsCode entry_plus
unfolding entry_plus
entry_plus_is = vieweds _ _ _ (λ b. refl) (λ a. refl)
    (thens _ _ doubles (thens _ _ texts (thens _ _ doubles
    (thens _ _ optional_attributes_is optional_handles))))

entries_plus_are : IsCode entries_plus
unfolding entries_plus
entries_plus_are = chains _ entry_plus_is

listed_plus_is : IsCode listed_plus
unfolding listed_plus
listed_plus_is = vieweds _ _ _ (λ b. refl) (λ a. refl) (thens _ _ verifiers (thens _ _ entries_plus_are flags))

space_is : IsCode space
unfolding space
space_is = vieweds _ _ _ (λ b. refl) (λ a. refl)
    (thens _ _ doubles (thens _ _ doubles (thens _ _ doubles
    (thens _ _ doubles (thens _ _ doubles (thens _ _ doubles words))))))

info_is : IsCode info
unfolding info
info_is = vieweds _ _ _ (λ b. refl) (λ a. refl)
    (thens _ _ words (thens _ _ words (thens _ _ words
    (thens _ _ words (thens _ _ words (thens _ _ words
    (thens _ _ words (thens _ _ doubles (thens _ _ moments words)))))))))

limits_are : IsCode limits
unfolding limits
limits_are = vieweds _ _ _ (λ b. refl) (λ a. refl)
    (thens _ _ words (thens _ _ words (thens _ _ flags (thens _ _ flags (thens _ _ flags flags)))))

flavors_are : IsCode flavors
unfolding flavors
flavors_are = counteds _ _ (omega arith) words

mounted_is : IsCode mounted
unfolding mounted
mounted_is = vieweds _ _ _ (λ b. refl) (λ a. refl) (thens _ _ handles flavors_are)

-- ---- results

get_attrs : IsCode get_attr
unfolding get_attr
get_attrs = default_voids _ attributes_is

set_attrs : IsCode set_attr
unfolding set_attr
set_attrs = behinds _ _ weak_caches nothings

lookups : IsCode lookup
unfolding lookup
lookups = befores _ _ lookup_result_is optional_attributes_is

accesses : IsCode access
unfolding access
accesses = behinds _ _ optional_attributes_is words

read_links : IsCode read_link
unfolding read_link
read_links = behinds _ _ optional_attributes_is texts

reads : IsCode read
unfolding read
reads = behinds _ _ optional_attributes_is read_bytes_is

writes : IsCode write
unfolding write
writes = behinds _ _ weak_caches written_is

creates : IsCode create
unfolding create
creates = befores _ _ created_is weak_caches

removes : IsCode remove
unfolding remove
removes = behinds _ _ weak_caches nothings

renames : IsCode rename
unfolding rename
renames = behinds _ _ (thens _ _ weak_caches weak_caches) nothings

links : IsCode link
unfolding link
links = behinds _ _ (thens _ _ optional_attributes_is weak_caches) nothings

read_dirs : IsCode read_dir
unfolding read_dir
read_dirs = behinds _ _ optional_attributes_is listed_is

read_dirs_plus : IsCode read_dir_plus
unfolding read_dir_plus
read_dirs_plus = behinds _ _ optional_attributes_is listed_plus_is

fs_stats : IsCode fs_stat
unfolding fs_stat
fs_stats = behinds _ _ optional_attributes_is space_is

fs_infos : IsCode fs_info
unfolding fs_info
fs_infos = behinds _ _ optional_attributes_is info_is

path_confs : IsCode path_conf
unfolding path_conf
path_confs = behinds _ _ optional_attributes_is limits_are

commits : IsCode commit
unfolding commit
commits = behinds _ _ weak_caches verifiers

mount_roots : IsCode mount_root
unfolding mount_root
mount_roots = default_voids _ mounted_is

-- ---- replies

-- a reply that is made of what a code reads
record Makes {A : Type 0} (p : ProgramProcedure) (F : Code A) (make : A → ProgramReply) (x : A) : Type 0 where
  spelled : result_bytes (make x) ≡ F.spell x
  replied : replied_to (make x) ≡ p
  fits : F.Fits x → ReplyFits (make x)

-- a lawful code whose values make the replies to a procedure
record Row (p : ProgramProcedure) : Type 1 where
  Parts : Type 0
  code : Code Parts
  lawful : IsCode code
  make : Parts → ProgramReply
  makes : (x : Parts) → Makes p code make x
  reads : (bytes : List ℕ) → reply_at p bytes ≡ (code.read bytes >>= made_of make)
  refuses : (bytes : List ℕ) (e : XdrFault) → code.Refuses bytes e → reply_refuses p bytes e
  refused : (bytes : List ℕ) (e : XdrFault) → reply_refuses p bytes e → code.Refuses bytes e

twice : {A B C : Type 0} (r : Result (A × List ℕ) XdrFault) (f : A → B) (g : B → C)
    → (r >>= made_of f >>= made_of g) ≡ (r >>= made_of (λ x. g (f x)))
twice (Ok x) f g = refl
twice (Err e) f g = refl

row : (p : ProgramProcedure) → Row p
row (procedures.Nfs nfs.Null) = record {
  Parts = _;
  code = nothing;
  lawful = nothings;
  make = λ x. program_replies.Nfs replies.Null;
  makes = λ x. record { spelled = refl; replied = refl; fits = λ f. tt };
  reads = λ bytes. twice (nothing.read bytes) (λ x. replies.Null) program_replies.Nfs;
  refuses = λ bytes e r. r;
  refused = λ bytes e r. r;
}
row (procedures.Nfs nfs.GetAttr) = record {
  Parts = _;
  code = get_attr;
  lawful = get_attrs;
  make = λ x. program_replies.Nfs (replies.GetAttr x);
  makes = λ x. record { spelled = refl; replied = refl; fits = λ f. f };
  reads = λ bytes. twice (get_attr.read bytes) (λ x. replies.GetAttr x) program_replies.Nfs;
  refuses = λ bytes e r. r;
  refused = λ bytes e r. r;
}
row (procedures.Nfs nfs.SetAttr) = record {
  Parts = _;
  code = set_attr;
  lawful = set_attrs;
  make = λ x. program_replies.Nfs (replies.SetAttr x.0 x.1);
  makes = λ x. record { spelled = refl; replied = refl; fits = λ f. f };
  reads = λ bytes. twice (set_attr.read bytes) (λ x. replies.SetAttr x.0 x.1) program_replies.Nfs;
  refuses = λ bytes e r. r;
  refused = λ bytes e r. r;
}
row (procedures.Nfs nfs.Lookup) = record {
  Parts = _;
  code = lookup;
  lawful = lookups;
  make = λ x. program_replies.Nfs (replies.Lookup x.0 x.1);
  makes = λ x. record { spelled = refl; replied = refl; fits = λ f. f };
  reads = λ bytes. twice (lookup.read bytes) (λ x. replies.Lookup x.0 x.1) program_replies.Nfs;
  refuses = λ bytes e r. r;
  refused = λ bytes e r. r;
}
row (procedures.Nfs nfs.Access) = record {
  Parts = _;
  code = access;
  lawful = accesses;
  make = λ x. program_replies.Nfs (replies.Access x.0 x.1);
  makes = λ x. record { spelled = refl; replied = refl; fits = λ f. f };
  reads = λ bytes. twice (access.read bytes) (λ x. replies.Access x.0 x.1) program_replies.Nfs;
  refuses = λ bytes e r. r;
  refused = λ bytes e r. r;
}
row (procedures.Nfs nfs.ReadLink) = record {
  Parts = _;
  code = read_link;
  lawful = read_links;
  make = λ x. program_replies.Nfs (replies.ReadLink x.0 x.1);
  makes = λ x. record { spelled = refl; replied = refl; fits = λ f. f };
  reads = λ bytes. twice (read_link.read bytes) (λ x. replies.ReadLink x.0 x.1) program_replies.Nfs;
  refuses = λ bytes e r. r;
  refused = λ bytes e r. r;
}
row (procedures.Nfs nfs.Read) = record {
  Parts = _;
  code = read;
  lawful = reads;
  make = λ x. program_replies.Nfs (replies.Read x.0 x.1);
  makes = λ x. record { spelled = refl; replied = refl; fits = λ f. f };
  reads = λ bytes. twice (read.read bytes) (λ x. replies.Read x.0 x.1) program_replies.Nfs;
  refuses = λ bytes e r. r;
  refused = λ bytes e r. r;
}
row (procedures.Nfs nfs.Write) = record {
  Parts = _;
  code = write;
  lawful = writes;
  make = λ x. program_replies.Nfs (replies.Write x.0 x.1);
  makes = λ x. record { spelled = refl; replied = refl; fits = λ f. f };
  reads = λ bytes. twice (write.read bytes) (λ x. replies.Write x.0 x.1) program_replies.Nfs;
  refuses = λ bytes e r. r;
  refused = λ bytes e r. r;
}
row (procedures.Nfs nfs.Create) = record {
  Parts = _;
  code = create;
  lawful = creates;
  make = λ x. program_replies.Nfs (replies.Create x.0 x.1);
  makes = λ x. record { spelled = refl; replied = refl; fits = λ f. f };
  reads = λ bytes. twice (create.read bytes) (λ x. replies.Create x.0 x.1) program_replies.Nfs;
  refuses = λ bytes e r. r;
  refused = λ bytes e r. r;
}
row (procedures.Nfs nfs.MkDir) = record {
  Parts = _;
  code = create;
  lawful = creates;
  make = λ x. program_replies.Nfs (replies.MkDir x.0 x.1);
  makes = λ x. record { spelled = refl; replied = refl; fits = λ f. f };
  reads = λ bytes. twice (create.read bytes) (λ x. replies.MkDir x.0 x.1) program_replies.Nfs;
  refuses = λ bytes e r. r;
  refused = λ bytes e r. r;
}
row (procedures.Nfs nfs.SymLink) = record {
  Parts = _;
  code = create;
  lawful = creates;
  make = λ x. program_replies.Nfs (replies.SymLink x.0 x.1);
  makes = λ x. record { spelled = refl; replied = refl; fits = λ f. f };
  reads = λ bytes. twice (create.read bytes) (λ x. replies.SymLink x.0 x.1) program_replies.Nfs;
  refuses = λ bytes e r. r;
  refused = λ bytes e r. r;
}
row (procedures.Nfs nfs.MkNod) = record {
  Parts = _;
  code = create;
  lawful = creates;
  make = λ x. program_replies.Nfs (replies.MkNod x.0 x.1);
  makes = λ x. record { spelled = refl; replied = refl; fits = λ f. f };
  reads = λ bytes. twice (create.read bytes) (λ x. replies.MkNod x.0 x.1) program_replies.Nfs;
  refuses = λ bytes e r. r;
  refused = λ bytes e r. r;
}
row (procedures.Nfs nfs.Remove) = record {
  Parts = _;
  code = remove;
  lawful = removes;
  make = λ x. program_replies.Nfs (replies.Remove x.0 x.1);
  makes = λ x. record { spelled = refl; replied = refl; fits = λ f. f };
  reads = λ bytes. twice (remove.read bytes) (λ x. replies.Remove x.0 x.1) program_replies.Nfs;
  refuses = λ bytes e r. r;
  refused = λ bytes e r. r;
}
row (procedures.Nfs nfs.RmDir) = record {
  Parts = _;
  code = remove;
  lawful = removes;
  make = λ x. program_replies.Nfs (replies.RmDir x.0 x.1);
  makes = λ x. record { spelled = refl; replied = refl; fits = λ f. f };
  reads = λ bytes. twice (remove.read bytes) (λ x. replies.RmDir x.0 x.1) program_replies.Nfs;
  refuses = λ bytes e r. r;
  refused = λ bytes e r. r;
}
row (procedures.Nfs nfs.Rename) = record {
  Parts = _;
  code = rename;
  lawful = renames;
  make = λ x. program_replies.Nfs (replies.Rename x.0 x.1.0 x.1.1);
  makes = λ x. record { spelled = refl; replied = refl; fits = λ f. f };
  reads = λ bytes. twice (rename.read bytes) (λ x. replies.Rename x.0 x.1.0 x.1.1) program_replies.Nfs;
  refuses = λ bytes e r. r;
  refused = λ bytes e r. r;
}
row (procedures.Nfs nfs.Link) = record {
  Parts = _;
  code = link;
  lawful = links;
  make = λ x. program_replies.Nfs (replies.Link x.0 x.1.0 x.1.1);
  makes = λ x. record { spelled = refl; replied = refl; fits = λ f. f };
  reads = λ bytes. twice (link.read bytes) (λ x. replies.Link x.0 x.1.0 x.1.1) program_replies.Nfs;
  refuses = λ bytes e r. r;
  refused = λ bytes e r. r;
}
row (procedures.Nfs nfs.ReadDir) = record {
  Parts = _;
  code = read_dir;
  lawful = read_dirs;
  make = λ x. program_replies.Nfs (replies.ReadDir x.0 x.1);
  makes = λ x. record { spelled = refl; replied = refl; fits = λ f. f };
  reads = λ bytes. twice (read_dir.read bytes) (λ x. replies.ReadDir x.0 x.1) program_replies.Nfs;
  refuses = λ bytes e r. r;
  refused = λ bytes e r. r;
}
row (procedures.Nfs nfs.ReadDirPlus) = record {
  Parts = _;
  code = read_dir_plus;
  lawful = read_dirs_plus;
  make = λ x. program_replies.Nfs (replies.ReadDirPlus x.0 x.1);
  makes = λ x. record { spelled = refl; replied = refl; fits = λ f. f };
  reads = λ bytes. twice (read_dir_plus.read bytes) (λ x. replies.ReadDirPlus x.0 x.1) program_replies.Nfs;
  refuses = λ bytes e r. r;
  refused = λ bytes e r. r;
}
row (procedures.Nfs nfs.FsStat) = record {
  Parts = _;
  code = fs_stat;
  lawful = fs_stats;
  make = λ x. program_replies.Nfs (replies.FsStat x.0 x.1);
  makes = λ x. record { spelled = refl; replied = refl; fits = λ f. f };
  reads = λ bytes. twice (fs_stat.read bytes) (λ x. replies.FsStat x.0 x.1) program_replies.Nfs;
  refuses = λ bytes e r. r;
  refused = λ bytes e r. r;
}
row (procedures.Nfs nfs.FsInfo) = record {
  Parts = _;
  code = fs_info;
  lawful = fs_infos;
  make = λ x. program_replies.Nfs (replies.FsInfo x.0 x.1);
  makes = λ x. record { spelled = refl; replied = refl; fits = λ f. f };
  reads = λ bytes. twice (fs_info.read bytes) (λ x. replies.FsInfo x.0 x.1) program_replies.Nfs;
  refuses = λ bytes e r. r;
  refused = λ bytes e r. r;
}
row (procedures.Nfs nfs.PathConf) = record {
  Parts = _;
  code = path_conf;
  lawful = path_confs;
  make = λ x. program_replies.Nfs (replies.PathConf x.0 x.1);
  makes = λ x. record { spelled = refl; replied = refl; fits = λ f. f };
  reads = λ bytes. twice (path_conf.read bytes) (λ x. replies.PathConf x.0 x.1) program_replies.Nfs;
  refuses = λ bytes e r. r;
  refused = λ bytes e r. r;
}
row (procedures.Nfs nfs.Commit) = record {
  Parts = _;
  code = commit;
  lawful = commits;
  make = λ x. program_replies.Nfs (replies.Commit x.0 x.1);
  makes = λ x. record { spelled = refl; replied = refl; fits = λ f. f };
  reads = λ bytes. twice (commit.read bytes) (λ x. replies.Commit x.0 x.1) program_replies.Nfs;
  refuses = λ bytes e r. r;
  refused = λ bytes e r. r;
}
row (procedures.Mount mount.Null) = record {
  Parts = _;
  code = nothing;
  lawful = nothings;
  make = λ x. program_replies.Mount mount_replies.Null;
  makes = λ x. record { spelled = refl; replied = refl; fits = λ f. tt };
  reads = λ bytes. twice (nothing.read bytes) (λ x. mount_replies.Null) program_replies.Mount;
  refuses = λ bytes e r. r;
  refused = λ bytes e r. r;
}
row (procedures.Mount mount.Mount) = record {
  Parts = _;
  code = mount_root;
  lawful = mount_roots;
  make = λ x. program_replies.Mount (mount_replies.Mount x);
  makes = λ x. record { spelled = refl; replied = refl; fits = λ f. f };
  reads = λ bytes. twice (mount_root.read bytes) (λ x. mount_replies.Mount x) program_replies.Mount;
  refuses = λ bytes e r. r;
  refused = λ bytes e r. r;
}
row (procedures.Mount mount.Unmount) = record {
  Parts = _;
  code = nothing;
  lawful = nothings;
  make = λ x. program_replies.Mount mount_replies.Unmount;
  makes = λ x. record { spelled = refl; replied = refl; fits = λ f. tt };
  reads = λ bytes. twice (nothing.read bytes) (λ x. mount_replies.Unmount) program_replies.Mount;
  refuses = λ bytes e r. r;
  refused = λ bytes e r. r;
}

record TakesReply (p : ProgramProcedure) (bytes : List ℕ) (r : ProgramReply) (rest : List ℕ) : Type 0 where
  takes : Takes bytes (result_bytes r) rest
  replied : replied_to r ≡ p
  fits : ReplyFits r

reply_takes : (p : ProgramProcedure) (r : Row p) (bytes : List ℕ) (c : ProgramReply) (rest : List ℕ)
    → IsBytes bytes → reply_at p bytes ≡ Ok (c, rest) → TakesReply p bytes c rest
reply_takes p r bytes c rest fits e =
    let m = map_ok (r.code.read bytes) r.make c rest (sym (r.reads bytes) ∙ e) in
    let t = r.lawful.takes bytes m.0 rest fits m.1 in
    let x = r.makes m.0 in
    subst (λ (c : ProgramReply). TakesReply p bytes c rest) m.2
    (record {
      takes = subst (λ (s : List ℕ). Takes bytes s rest) (sym x.spelled) t.0;
      replied = x.replied;
      fits = x.fits t.1;
    })

reply_shrinks : (p : ProgramProcedure) (r : Row p) (bytes : List ℕ) (c : ProgramReply) (rest : List ℕ)
    → reply_at p bytes ≡ Ok (c, rest) → length rest ≤ length bytes
reply_shrinks p r bytes c rest e =
    let m = map_ok (r.code.read bytes) r.make c rest (sym (r.reads bytes) ∙ e) in
    r.lawful.shrinks bytes m.0 rest m.1

reply_never : (p : ProgramProcedure) (r : Row p) (bytes : List ℕ) → Never (reply_at p bytes)
reply_never p r bytes = rw (r.reads bytes)
    (never.bind (r.code.read bytes) (made_of r.make) (r.lawful.never bytes) (λ x. never.ok_never _))

reply_again : (c : ProgramReply) (rest : List ℕ) → ReplyFits c
    → reply_at (replied_to c) (result_bytes c ++ rest) ≡ Ok (c, rest)
reply_again (program_replies.Nfs replies.Null) rest fits = refl
reply_again (program_replies.Nfs (replies.GetAttr a)) rest fits = rw (get_attrs.again a rest fits) refl
reply_again (program_replies.Nfs (replies.SetAttr a b)) rest fits = rw (set_attrs.again (a, b) rest fits) refl
reply_again (program_replies.Nfs (replies.Lookup a b)) rest fits = rw (lookups.again (a, b) rest fits) refl
reply_again (program_replies.Nfs (replies.Access a b)) rest fits = rw (accesses.again (a, b) rest fits) refl
reply_again (program_replies.Nfs (replies.ReadLink a b)) rest fits = rw (read_links.again (a, b) rest fits) refl
reply_again (program_replies.Nfs (replies.Read a b)) rest fits = rw (reads.again (a, b) rest fits) refl
reply_again (program_replies.Nfs (replies.Write a b)) rest fits = rw (writes.again (a, b) rest fits) refl
reply_again (program_replies.Nfs (replies.Create a b)) rest fits = rw (creates.again (a, b) rest fits) refl
reply_again (program_replies.Nfs (replies.MkDir a b)) rest fits = rw (creates.again (a, b) rest fits) refl
reply_again (program_replies.Nfs (replies.SymLink a b)) rest fits = rw (creates.again (a, b) rest fits) refl
reply_again (program_replies.Nfs (replies.MkNod a b)) rest fits = rw (creates.again (a, b) rest fits) refl
reply_again (program_replies.Nfs (replies.Remove a b)) rest fits = rw (removes.again (a, b) rest fits) refl
reply_again (program_replies.Nfs (replies.RmDir a b)) rest fits = rw (removes.again (a, b) rest fits) refl
reply_again (program_replies.Nfs (replies.Rename a b d)) rest fits =
    rw (renames.again (a, (b, d)) rest fits) refl
reply_again (program_replies.Nfs (replies.Link a b d)) rest fits = rw (links.again (a, (b, d)) rest fits) refl
reply_again (program_replies.Nfs (replies.ReadDir a b)) rest fits = rw (read_dirs.again (a, b) rest fits) refl
reply_again (program_replies.Nfs (replies.ReadDirPlus a b)) rest fits =
    rw (read_dirs_plus.again (a, b) rest fits) refl
reply_again (program_replies.Nfs (replies.FsStat a b)) rest fits = rw (fs_stats.again (a, b) rest fits) refl
reply_again (program_replies.Nfs (replies.FsInfo a b)) rest fits = rw (fs_infos.again (a, b) rest fits) refl
reply_again (program_replies.Nfs (replies.PathConf a b)) rest fits = rw (path_confs.again (a, b) rest fits) refl
reply_again (program_replies.Nfs (replies.Commit a b)) rest fits = rw (commits.again (a, b) rest fits) refl
reply_again (program_replies.Mount mount_replies.Null) rest fits = refl
reply_again (program_replies.Mount (mount_replies.Mount a)) rest fits = rw (mount_roots.again a rest fits) refl
reply_again (program_replies.Mount mount_replies.Unmount) rest fits = refl

pub replies_are : (p : ProgramProcedure) → IsCode (replies_to p)
replies_are p = record {
  takes = λ bytes c rest fits e.
      let t = reply_takes p (row p) bytes c rest fits e in
      (t.takes, (t.replied, t.fits));
  again = λ c rest fits.
      subst (λ (q : ProgramProcedure). reply_at q (result_bytes c ++ rest) ≡ Ok (c, rest)) fits.0
      (reply_again c rest fits.1);
  shrinks = λ bytes c rest e. reply_shrinks p (row p) bytes c rest e;
  never = λ bytes. reply_never p (row p) bytes;
  refuses = λ bytes e fits h.
      let r = row p in
      r.refuses bytes e (r.lawful.refuses bytes e fits
      (made_err (r.code.read bytes) r.make e (sym (r.reads bytes) ∙ h)));
  refused = λ bytes e h.
      let r = row p in
      r.reads bytes ∙ rw (r.lawful.refused bytes e (r.refused bytes e h)) refl;
}

pub taken_whole : (p : ProgramProcedure) (bytes : List ℕ) (r : ProgramReply) → IsBytes bytes
    → reply_of p bytes ≡ Ok r → (replied_to r ≡ p) × ReplyFits r × (bytes ≡ result_bytes r)
taken_whole p bytes r fits e =
    let t = whole_takes (replies_to p) (replies_are p) bytes r fits e in
    (t.0.0, t.0.1, t.1)

pub read_again : (p : ProgramProcedure) (bytes : List ℕ) (r : ProgramReply) → replied_to r ≡ p → ReplyFits r
    → bytes ≡ result_bytes r → reply_of p bytes ≡ Ok r
read_again p bytes r is fits spelled =
    ap (reply_of p) spelled ∙ whole_again (replies_to p) (replies_are p) r (is, fits)
