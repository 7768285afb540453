-- The results of procedures (RFC 1813, sections 3.3 and 5.2): how each is spelled, and the reply that it
-- makes. A result begins with its status; NULL's has none.
use Rattle.std.specs.Prelude.{◌≡◌, ◌⊎◌, ℕ, Bool, List, [], ◌++◌, length, replicate, Option, Result, Ok, Err, false}
use Rattle.std.proofs.Common.{inl, inr}
use Rattle.base.specs.declared.TheConstants.{RECORD_BYTES}
use Rattle.nfs_types.specs.declared.attributes.Attributes.{Attributes}
use Rattle.nfs_types.specs.declared.attributes.WeakCacheData.{WeakCacheData}
use Rattle.nfs_types.specs.declared.entries.ListedItem.{ListedItem}
use Rattle.nfs_types.specs.declared.entries.ListedItemPlus.{ListedItemPlus}
use Rattle.nfs_types.specs.declared.mount.Mounted.{Mounted}
use Rattle.nfs_types.specs.declared.mount.MountReply.{MountReply}
use Rattle.nfs_types.specs.declared.mount.MountReply.TheVariants as mount_replies
use Rattle.nfs_types.specs.declared.program.MountProcedure.{MountProcedure}
use Rattle.nfs_types.specs.declared.program.MountProcedure.TheVariants as mount
use Rattle.nfs_types.specs.declared.program.Procedure.{Procedure}
use Rattle.nfs_types.specs.declared.program.Procedure.TheVariants as nfs
use Rattle.nfs_types.specs.declared.program.ProgramProcedure.{ProgramProcedure}
use Rattle.nfs_types.specs.declared.program.ProgramProcedure.TheVariants as procedures
use Rattle.nfs_types.specs.declared.program.ProgramReply.{ProgramReply}
use Rattle.nfs_types.specs.declared.program.ProgramReply.TheVariants as program_replies
use Rattle.nfs_types.specs.declared.reply.Created.{Created}
use Rattle.nfs_types.specs.declared.reply.FileSystemInfo.{FileSystemInfo}
use Rattle.nfs_types.specs.declared.reply.FileSystemSpace.{FileSystemSpace}
use Rattle.nfs_types.specs.declared.reply.Listed.{Listed}
use Rattle.nfs_types.specs.declared.reply.ListedPlus.{ListedPlus}
use Rattle.nfs_types.specs.declared.reply.LookupResult.{LookupResult}
use Rattle.nfs_types.specs.declared.reply.PathLimits.{PathLimits}
use Rattle.nfs_types.specs.declared.reply.ReadBytes.{ReadBytes}
use Rattle.nfs_types.specs.declared.reply.Reply.{Reply}
use Rattle.nfs_types.specs.declared.reply.Reply.TheVariants as replies
use Rattle.nfs_types.specs.declared.reply.Written.{Written}
use Rattle.nfs_types.specs.declared.status.Status.{Status}
use Rattle.nfs_types.specs.declared.verifier.Verifier.{Verifier}
use Rattle.xdr.specs.declared.fault.XdrFault.{XdrFault}
use Rattle.xdr.specs.Items as items
use Rattle.xdr.specs.Items.{padding}
use Rattle.xdr.specs.Codes.{Code, word, double, flag, nothing, ◌then◌, viewed, chain, counted, arm_or, arms}
use Rattle.xdr.specs.Codes.{union}
use Rattle.xdr.specs.Codes.{made_of, whole}
use Rattle.xdr.specs.Reading.{◌>>=◌}
use Rattle.nfs_codec.specs.Items.{handle, text, verifier, moment, stability, attributes, optional_attributes}
use Rattle.nfs_codec.specs.Items.{weak_cache, optional_handle}
use Rattle.nfs_codec.specs.Procedures.{replied_to}
use Rattle.nfs_codec.specs.Statuses.{status_number, refusals}

-- ---- statuses

-- a status, and what follows OK or another one
abbrev pub by_status : {A B : Type 0} → Code A → Code B → Code (A ⊎ (Status × B))
by_status done refused = union (arm_or 0 done (arms status_number refusals refused))

-- ---- outcomes, and what comes with a refusal too

abbrev pub default_void_made : {A : Type 0} → A ⊎ (Status × Unit {0}) → Result A Status
default_void_made (inl x) = Ok x
default_void_made (inr s) = Err s.0

abbrev pub default_void_parts : {A : Type 0} → Result A Status → A ⊎ (Status × Unit {0})
default_void_parts (Ok x) = inl x
default_void_parts (Err s) = inr (s, tt)

-- nothing comes with a refusal
abbrev pub default_void : {A : Type 0} → Code A → Code (Result A Status)
default_void done = viewed default_void_made default_void_parts (by_status done nothing)

abbrev pub behind_made : {A B : Type 0} → (B × A) ⊎ (Status × B) → Result A Status × B
behind_made (inl x) = (Ok x.1, x.0)
behind_made (inr x) = (Err x.0, x.1)

abbrev pub behind_parts : {A B : Type 0} → Result A Status → B → (B × A) ⊎ (Status × B)
behind_parts (Ok x) both = inl (both, x)
behind_parts (Err s) both = inr (s, both)

-- what comes either way, and behind it what comes after OK alone
abbrev pub behind : {A B : Type 0} → Code B → Code A → Code (Result A Status × B)
behind both done = viewed behind_made (λ r. behind_parts r.0 r.1) (by_status (both then done) both)

abbrev pub before_made : {A B : Type 0} → (A × B) ⊎ (Status × B) → Result A Status × B
before_made (inl x) = (Ok x.0, x.1)
before_made (inr x) = (Err x.0, x.1)

abbrev pub before_parts : {A B : Type 0} → Result A Status → B → (A × B) ⊎ (Status × B)
before_parts (Ok x) both = inl (x, both)
before_parts (Err s) both = inr (s, both)

-- what comes after OK alone, and behind it what comes either way
abbrev pub before : {A B : Type 0} → Code A → Code B → Code (Result A Status × B)
before done both = viewed before_made (λ r. before_parts r.0 r.1) (by_status (done then both) both)

-- ---- what comes after OK

unfoldable pub lookup_result : Code LookupResult
lookup_result = viewed (λ x. record { object = x.0; attributes = x.1 }) (λ l. (l.object, l.attributes))
    (handle then optional_attributes)

-- the count of the bytes, whether the file ends behind them, and the bytes
unfoldable pub read_bytes : Code ReadBytes
read_bytes = viewed (λ x. record { count = x.0; eof = x.1.0; bytes = x.1.1 }) (λ r. (r.count, (r.eof, r.bytes)))
    (word then flag then text)

unfoldable pub written : Code Written
written = viewed (λ x. record { count = x.0; committed = x.1.0; verifier = x.1.1 })
    (λ w. (w.count, (w.committed, w.verifier))) (word then stability then verifier)

unfoldable pub created : Code Created
created = viewed (λ x. record { object = x.0; attributes = x.1 }) (λ c. (c.object, c.attributes))
    (optional_handle then optional_attributes)

-- `entry3`
unfoldable pub entry : Code ListedItem
entry = viewed (λ x. record { number = x.0; name = x.1.0; cookie = x.1.1 })
    (λ e. (e.number, (e.name, e.cookie))) (double then text then double)

unfoldable pub entries : Code (List ListedItem)
entries = chain entry

unfoldable pub listed : Code Listed
listed = viewed (λ x. record { verifier = x.0; entries = x.1.0; eof = x.1.1 })
    (λ l. (l.verifier, (l.entries, l.eof))) (verifier then entries then flag)

-- `entryplus3`
unfoldable pub entry_plus : Code ListedItemPlus
entry_plus = viewed
    (λ x. record {
      number = x.0;
      name = x.1.0;
      cookie = x.1.1.0;
      attributes = x.1.1.1.0;
      handle = x.1.1.1.1;
    })
    (λ e. (e.number, (e.name, (e.cookie, (e.attributes, e.handle)))))
    (double then text then double then optional_attributes then optional_handle)

unfoldable pub entries_plus : Code (List ListedItemPlus)
entries_plus = chain entry_plus

unfoldable pub listed_plus : Code ListedPlus
listed_plus = viewed (λ x. record { verifier = x.0; entries = x.1.0; eof = x.1.1 })
    (λ l. (l.verifier, (l.entries, l.eof))) (verifier then entries_plus then flag)

unfoldable pub space : Code FileSystemSpace
space = viewed
    (λ x. record {
      total_bytes = x.0;
      free_bytes = x.1.0;
      available_bytes = x.1.1.0;
      total_files = x.1.1.1.0;
      free_files = x.1.1.1.1.0;
      available_files = x.1.1.1.1.1.0;
      unchanged_seconds = x.1.1.1.1.1.1;
    })
    (λ s. (
      s.total_bytes,
      (
        s.free_bytes,
        (
          s.available_bytes,
          (
            s.total_files,
            (
              s.free_files,
              (
                s.available_files,
                s.unchanged_seconds,
              ),
            ),
          ),
        ),
      ),
    ))
    (double then double then double then double then double then double then word)

unfoldable pub info : Code FileSystemInfo
info = viewed
    (λ x. record {
      read_max = x.0;
      read_preferred = x.1.0;
      read_multiple = x.1.1.0;
      write_max = x.1.1.1.0;
      write_preferred = x.1.1.1.1.0;
      write_multiple = x.1.1.1.1.1.0;
      directory_preferred = x.1.1.1.1.1.1.0;
      largest_file = x.1.1.1.1.1.1.1.0;
      time_delta = x.1.1.1.1.1.1.1.1.0;
      properties = x.1.1.1.1.1.1.1.1.1;
    })
    (λ i. (
      i.read_max,
      (
        i.read_preferred,
        (
          i.read_multiple,
          (
            i.write_max,
            (
              i.write_preferred,
              (
                i.write_multiple,
                (i.directory_preferred, (i.largest_file, (i.time_delta, i.properties))),
              ),
            ),
          ),
        ),
      ),
    ))
    (word then word then word then word then word then word then word then double then moment then word)

unfoldable pub limits : Code PathLimits
limits = viewed
    (λ x. record {
      links = x.0;
      name_bytes = x.1.0;
      no_truncation = x.1.1.0;
      chown_restricted = x.1.1.1.0;
      case_insensitive = x.1.1.1.1.0;
      case_preserving = x.1.1.1.1.1;
    })
    (λ l. (
      l.links,
      (
        l.name_bytes,
        (
          l.no_truncation,
          (l.chown_restricted, (l.case_insensitive, l.case_preserving)),
        ),
      ),
    ))
    (word then word then flag then flag then flag then flag)

-- the flavors of credentials that are taken
unfoldable pub flavors : Code (List ℕ)
flavors = counted RECORD_BYTES word

-- the root, and those flavors (`mountres3_ok`)
unfoldable pub mounted : Code Mounted
mounted = viewed (λ x. record { root = x.0; flavors = x.1 }) (λ m. (m.root, m.flavors))
    (handle then flavors)

-- ---- a code for each procedure

unfoldable pub get_attr : Code (Result Attributes Status)
get_attr = default_void attributes

unfoldable pub set_attr : Code (Result (Unit {0}) Status × WeakCacheData)
set_attr = behind weak_cache nothing

unfoldable pub lookup : Code (Result LookupResult Status × Option Attributes)
lookup = before lookup_result optional_attributes

unfoldable pub access : Code (Result ℕ Status × Option Attributes)
access = behind optional_attributes word

unfoldable pub read_link : Code (Result (List ℕ) Status × Option Attributes)
read_link = behind optional_attributes text

unfoldable pub read : Code (Result ReadBytes Status × Option Attributes)
read = behind optional_attributes read_bytes

unfoldable pub write : Code (Result Written Status × WeakCacheData)
write = behind weak_cache written

-- CREATE, MKDIR, SYMLINK and MKNOD
unfoldable pub create : Code (Result Created Status × WeakCacheData)
create = before created weak_cache

-- REMOVE and RMDIR
unfoldable pub remove : Code (Result (Unit {0}) Status × WeakCacheData)
remove = behind weak_cache nothing

unfoldable pub rename : Code (Result (Unit {0}) Status × (WeakCacheData × WeakCacheData))
rename = behind (weak_cache then weak_cache) nothing

unfoldable pub link : Code (Result (Unit {0}) Status × (Option Attributes × WeakCacheData))
link = behind (optional_attributes then weak_cache) nothing

unfoldable pub read_dir : Code (Result Listed Status × Option Attributes)
read_dir = behind optional_attributes listed

unfoldable pub read_dir_plus : Code (Result ListedPlus Status × Option Attributes)
read_dir_plus = behind optional_attributes listed_plus

unfoldable pub fs_stat : Code (Result FileSystemSpace Status × Option Attributes)
fs_stat = behind optional_attributes space

unfoldable pub fs_info : Code (Result FileSystemInfo Status × Option Attributes)
fs_info = behind optional_attributes info

unfoldable pub path_conf : Code (Result PathLimits Status × Option Attributes)
path_conf = behind optional_attributes limits

unfoldable pub commit : Code (Result Verifier Status × WeakCacheData)
commit = behind weak_cache verifier

-- MNT
unfoldable pub mount_root : Code (Result Mounted Status)
mount_root = default_void mounted

-- ---- the result that a reply bears

abbrev pub nfs_result_bytes : Reply → List ℕ
nfs_result_bytes replies.Null = []
nfs_result_bytes (replies.GetAttr outcome) = get_attr.spell outcome
nfs_result_bytes (replies.SetAttr outcome object) = set_attr.spell (outcome, object)
nfs_result_bytes (replies.Lookup outcome directory) = lookup.spell (outcome, directory)
nfs_result_bytes (replies.Access outcome object) = access.spell (outcome, object)
nfs_result_bytes (replies.ReadLink outcome object) = read_link.spell (outcome, object)
nfs_result_bytes (replies.Read outcome file) = read.spell (outcome, file)
nfs_result_bytes (replies.Write outcome file) = write.spell (outcome, file)
nfs_result_bytes (replies.Create outcome directory) = create.spell (outcome, directory)
nfs_result_bytes (replies.MkDir outcome directory) = create.spell (outcome, directory)
nfs_result_bytes (replies.SymLink outcome directory) = create.spell (outcome, directory)
nfs_result_bytes (replies.MkNod outcome directory) = create.spell (outcome, directory)
nfs_result_bytes (replies.Remove outcome directory) = remove.spell (outcome, directory)
nfs_result_bytes (replies.RmDir outcome directory) = remove.spell (outcome, directory)
nfs_result_bytes (replies.Rename outcome source target) = rename.spell (outcome, (source, target))
nfs_result_bytes (replies.Link outcome file directory) = link.spell (outcome, (file, directory))
nfs_result_bytes (replies.ReadDir outcome directory) = read_dir.spell (outcome, directory)
nfs_result_bytes (replies.ReadDirPlus outcome directory) = read_dir_plus.spell (outcome, directory)
nfs_result_bytes (replies.FsStat outcome object) = fs_stat.spell (outcome, object)
nfs_result_bytes (replies.FsInfo outcome object) = fs_info.spell (outcome, object)
nfs_result_bytes (replies.PathConf outcome object) = path_conf.spell (outcome, object)
nfs_result_bytes (replies.Commit outcome file) = commit.spell (outcome, file)

abbrev pub mount_result_bytes : MountReply → List ℕ
mount_result_bytes mount_replies.Null = []
mount_result_bytes (mount_replies.Mount outcome) = mount_root.spell outcome
mount_result_bytes mount_replies.Unmount = []

abbrev pub result_bytes : ProgramReply → List ℕ
result_bytes (program_replies.Nfs reply) = nfs_result_bytes reply
result_bytes (program_replies.Mount reply) = mount_result_bytes reply

-- ---- the data of a READ, the last item of its result, and what is in front of it

-- all but the data and its padding
abbrev pub read_result_header : Result ReadBytes Status → Option Attributes → List ℕ
read_result_header (Ok done) file = items.word 0 ++ optional_attributes.spell file
    ++ items.word done.count ++ items.flag done.eof ++ items.word (length done.bytes)
read_result_header (Err status) file = read.spell (Err status, file)

-- bytes, and zeros up to a multiple of four
abbrev pub padded : List ℕ → List ℕ
padded bytes = bytes ++ replicate (padding (length bytes)) 0

abbrev pub read_data : Result ReadBytes Status → List ℕ
read_data (Ok done) = padded done.bytes
read_data (Err status) = []

-- all of a result but the data of a READ
abbrev pub nfs_result_header : Reply → List ℕ
nfs_result_header (replies.Read outcome file) = read_result_header outcome file
nfs_result_header reply = nfs_result_bytes reply

-- the data of a READ, padded; nothing of another reply
abbrev pub nfs_data : Reply → List ℕ
nfs_data (replies.Read outcome file) = read_data outcome
nfs_data reply = []

-- ---- whether a length in a reply is past what four bytes can tell

abbrev pub nfs_too_long : Reply → Bool
nfs_too_long replies.Null = false
nfs_too_long (replies.GetAttr outcome) = get_attr.too_long outcome
nfs_too_long (replies.SetAttr outcome object) = set_attr.too_long (outcome, object)
nfs_too_long (replies.Lookup outcome directory) = lookup.too_long (outcome, directory)
nfs_too_long (replies.Access outcome object) = access.too_long (outcome, object)
nfs_too_long (replies.ReadLink outcome object) = read_link.too_long (outcome, object)
nfs_too_long (replies.Read outcome file) = read.too_long (outcome, file)
nfs_too_long (replies.Write outcome file) = write.too_long (outcome, file)
nfs_too_long (replies.Create outcome directory) = create.too_long (outcome, directory)
nfs_too_long (replies.MkDir outcome directory) = create.too_long (outcome, directory)
nfs_too_long (replies.SymLink outcome directory) = create.too_long (outcome, directory)
nfs_too_long (replies.MkNod outcome directory) = create.too_long (outcome, directory)
nfs_too_long (replies.Remove outcome directory) = remove.too_long (outcome, directory)
nfs_too_long (replies.RmDir outcome directory) = remove.too_long (outcome, directory)
nfs_too_long (replies.Rename outcome source target) = rename.too_long (outcome, (source, target))
nfs_too_long (replies.Link outcome file directory) = link.too_long (outcome, (file, directory))
nfs_too_long (replies.ReadDir outcome directory) = read_dir.too_long (outcome, directory)
nfs_too_long (replies.ReadDirPlus outcome directory) = read_dir_plus.too_long (outcome, directory)
nfs_too_long (replies.FsStat outcome object) = fs_stat.too_long (outcome, object)
nfs_too_long (replies.FsInfo outcome object) = fs_info.too_long (outcome, object)
nfs_too_long (replies.PathConf outcome object) = path_conf.too_long (outcome, object)
nfs_too_long (replies.Commit outcome file) = commit.too_long (outcome, file)

abbrev pub mount_too_long : MountReply → Bool
mount_too_long mount_replies.Null = false
mount_too_long (mount_replies.Mount outcome) = mount_root.too_long outcome
mount_too_long mount_replies.Unmount = false

abbrev pub too_long : ProgramReply → Bool
too_long (program_replies.Nfs reply) = nfs_too_long reply
too_long (program_replies.Mount reply) = mount_too_long reply

-- ---- which replies have a spelling

abbrev pub NfsReplyFits : Reply → Type 0
NfsReplyFits replies.Null = Unit {0}
NfsReplyFits (replies.GetAttr outcome) = get_attr.Fits outcome
NfsReplyFits (replies.SetAttr outcome object) = set_attr.Fits (outcome, object)
NfsReplyFits (replies.Lookup outcome directory) = lookup.Fits (outcome, directory)
NfsReplyFits (replies.Access outcome object) = access.Fits (outcome, object)
NfsReplyFits (replies.ReadLink outcome object) = read_link.Fits (outcome, object)
NfsReplyFits (replies.Read outcome file) = read.Fits (outcome, file)
NfsReplyFits (replies.Write outcome file) = write.Fits (outcome, file)
NfsReplyFits (replies.Create outcome directory) = create.Fits (outcome, directory)
NfsReplyFits (replies.MkDir outcome directory) = create.Fits (outcome, directory)
NfsReplyFits (replies.SymLink outcome directory) = create.Fits (outcome, directory)
NfsReplyFits (replies.MkNod outcome directory) = create.Fits (outcome, directory)
NfsReplyFits (replies.Remove outcome directory) = remove.Fits (outcome, directory)
NfsReplyFits (replies.RmDir outcome directory) = remove.Fits (outcome, directory)
NfsReplyFits (replies.Rename outcome source target) = rename.Fits (outcome, (source, target))
NfsReplyFits (replies.Link outcome file directory) = link.Fits (outcome, (file, directory))
NfsReplyFits (replies.ReadDir outcome directory) = read_dir.Fits (outcome, directory)
NfsReplyFits (replies.ReadDirPlus outcome directory) = read_dir_plus.Fits (outcome, directory)
NfsReplyFits (replies.FsStat outcome object) = fs_stat.Fits (outcome, object)
NfsReplyFits (replies.FsInfo outcome object) = fs_info.Fits (outcome, object)
NfsReplyFits (replies.PathConf outcome object) = path_conf.Fits (outcome, object)
NfsReplyFits (replies.Commit outcome file) = commit.Fits (outcome, file)

abbrev pub MountReplyFits : MountReply → Type 0
MountReplyFits mount_replies.Null = Unit {0}
MountReplyFits (mount_replies.Mount outcome) = mount_root.Fits outcome
MountReplyFits mount_replies.Unmount = Unit {0}

abbrev pub ReplyFits : ProgramReply → Type 0
ReplyFits (program_replies.Nfs reply) = NfsReplyFits reply
ReplyFits (program_replies.Mount reply) = MountReplyFits reply

-- ---- the reply that stands in front of bytes

abbrev pub nfs_reply_at : Procedure → List ℕ → Result (Reply × List ℕ) XdrFault
nfs_reply_at nfs.Null bytes = nothing.read bytes >>= made_of (λ x. replies.Null)
nfs_reply_at nfs.GetAttr bytes = get_attr.read bytes >>= made_of replies.GetAttr
nfs_reply_at nfs.SetAttr bytes = set_attr.read bytes >>= made_of (λ x. replies.SetAttr x.0 x.1)
nfs_reply_at nfs.Lookup bytes = lookup.read bytes >>= made_of (λ x. replies.Lookup x.0 x.1)
nfs_reply_at nfs.Access bytes = access.read bytes >>= made_of (λ x. replies.Access x.0 x.1)
nfs_reply_at nfs.ReadLink bytes = read_link.read bytes >>= made_of (λ x. replies.ReadLink x.0 x.1)
nfs_reply_at nfs.Read bytes = read.read bytes >>= made_of (λ x. replies.Read x.0 x.1)
nfs_reply_at nfs.Write bytes = write.read bytes >>= made_of (λ x. replies.Write x.0 x.1)
nfs_reply_at nfs.Create bytes = create.read bytes >>= made_of (λ x. replies.Create x.0 x.1)
nfs_reply_at nfs.MkDir bytes = create.read bytes >>= made_of (λ x. replies.MkDir x.0 x.1)
nfs_reply_at nfs.SymLink bytes = create.read bytes >>= made_of (λ x. replies.SymLink x.0 x.1)
nfs_reply_at nfs.MkNod bytes = create.read bytes >>= made_of (λ x. replies.MkNod x.0 x.1)
nfs_reply_at nfs.Remove bytes = remove.read bytes >>= made_of (λ x. replies.Remove x.0 x.1)
nfs_reply_at nfs.RmDir bytes = remove.read bytes >>= made_of (λ x. replies.RmDir x.0 x.1)
nfs_reply_at nfs.Rename bytes = rename.read bytes >>= made_of (λ x. replies.Rename x.0 x.1.0 x.1.1)
nfs_reply_at nfs.Link bytes = link.read bytes >>= made_of (λ x. replies.Link x.0 x.1.0 x.1.1)
nfs_reply_at nfs.ReadDir bytes = read_dir.read bytes >>= made_of (λ x. replies.ReadDir x.0 x.1)
nfs_reply_at nfs.ReadDirPlus bytes = read_dir_plus.read bytes >>= made_of (λ x. replies.ReadDirPlus x.0 x.1)
nfs_reply_at nfs.FsStat bytes = fs_stat.read bytes >>= made_of (λ x. replies.FsStat x.0 x.1)
nfs_reply_at nfs.FsInfo bytes = fs_info.read bytes >>= made_of (λ x. replies.FsInfo x.0 x.1)
nfs_reply_at nfs.PathConf bytes = path_conf.read bytes >>= made_of (λ x. replies.PathConf x.0 x.1)
nfs_reply_at nfs.Commit bytes = commit.read bytes >>= made_of (λ x. replies.Commit x.0 x.1)

abbrev pub mount_reply_at : MountProcedure → List ℕ → Result (MountReply × List ℕ) XdrFault
mount_reply_at mount.Null bytes = nothing.read bytes >>= made_of (λ x. mount_replies.Null)
mount_reply_at mount.Mount bytes = mount_root.read bytes >>= made_of mount_replies.Mount
mount_reply_at mount.Unmount bytes = nothing.read bytes >>= made_of (λ x. mount_replies.Unmount)

abbrev pub reply_at : ProgramProcedure → List ℕ → Result (ProgramReply × List ℕ) XdrFault
reply_at (procedures.Nfs p) bytes = nfs_reply_at p bytes >>= made_of program_replies.Nfs
reply_at (procedures.Mount p) bytes = mount_reply_at p bytes >>= made_of program_replies.Mount

-- ---- why bytes have no reply in front

abbrev pub nfs_reply_refuses : Procedure → List ℕ → XdrFault → Type 0
nfs_reply_refuses nfs.Null = nothing.Refuses
nfs_reply_refuses nfs.GetAttr = get_attr.Refuses
nfs_reply_refuses nfs.SetAttr = set_attr.Refuses
nfs_reply_refuses nfs.Lookup = lookup.Refuses
nfs_reply_refuses nfs.Access = access.Refuses
nfs_reply_refuses nfs.ReadLink = read_link.Refuses
nfs_reply_refuses nfs.Read = read.Refuses
nfs_reply_refuses nfs.Write = write.Refuses
nfs_reply_refuses nfs.Create = create.Refuses
nfs_reply_refuses nfs.MkDir = create.Refuses
nfs_reply_refuses nfs.SymLink = create.Refuses
nfs_reply_refuses nfs.MkNod = create.Refuses
nfs_reply_refuses nfs.Remove = remove.Refuses
nfs_reply_refuses nfs.RmDir = remove.Refuses
nfs_reply_refuses nfs.Rename = rename.Refuses
nfs_reply_refuses nfs.Link = link.Refuses
nfs_reply_refuses nfs.ReadDir = read_dir.Refuses
nfs_reply_refuses nfs.ReadDirPlus = read_dir_plus.Refuses
nfs_reply_refuses nfs.FsStat = fs_stat.Refuses
nfs_reply_refuses nfs.FsInfo = fs_info.Refuses
nfs_reply_refuses nfs.PathConf = path_conf.Refuses
nfs_reply_refuses nfs.Commit = commit.Refuses

abbrev pub mount_reply_refuses : MountProcedure → List ℕ → XdrFault → Type 0
mount_reply_refuses mount.Null = nothing.Refuses
mount_reply_refuses mount.Mount = mount_root.Refuses
mount_reply_refuses mount.Unmount = nothing.Refuses

abbrev pub reply_refuses : ProgramProcedure → List ℕ → XdrFault → Type 0
reply_refuses (procedures.Nfs p) = nfs_reply_refuses p
reply_refuses (procedures.Mount p) = mount_reply_refuses p

-- the replies to a procedure
abbrev pub replies_to : ProgramProcedure → Code ProgramReply
replies_to p = record {
  spell = result_bytes;
  Fits = λ r. (replied_to r ≡ p) × ReplyFits r;
  read = reply_at p;
  too_long = too_long;
  Refuses = reply_refuses p;
}

-- the reply whose result all of the bytes spell
abbrev pub reply_of : ProgramProcedure → List ℕ → Result ProgramReply XdrFault
reply_of p bytes = whole (reply_at p bytes)
