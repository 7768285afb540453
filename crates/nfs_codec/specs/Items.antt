-- The items of arguments and results (RFC 1813, sections 2.4 to 2.6). Which values fit is said in `nfs_types`
-- where a call has them.
use Rattle.std.specs.Prelude.{◌⊎◌, ℕ, ◌∷◌, [], List, Option}
use Rattle.std.proofs.Common.{inl, inr}
use Rattle.base.specs.declared.TheConstants.{MOST_HANDLE_BYTES, RECORD_BYTES}
use Rattle.nfs_types.specs.declared.attributes.Attributes.{Attributes}
use Rattle.nfs_types.specs.declared.attributes.DeviceNumber.{DeviceNumber}
use Rattle.nfs_types.specs.declared.attributes.FileKind.{FileKind}
use Rattle.nfs_types.specs.declared.attributes.FileKind.TheVariants as kinds
use Rattle.nfs_types.specs.declared.attributes.NewAttributes.{NewAttributes}
use Rattle.nfs_types.specs.declared.attributes.SetTime.{SetTime}
use Rattle.nfs_types.specs.declared.attributes.SetTime.TheVariants.{Unchanged, Server, Client}
use Rattle.nfs_types.specs.declared.attributes.WeakCacheAttributes.{WeakCacheAttributes}
use Rattle.nfs_types.specs.declared.attributes.WeakCacheData.{WeakCacheData}
use Rattle.nfs_types.specs.declared.call.CreateHow.{CreateHow}
use Rattle.nfs_types.specs.declared.call.CreateHow.TheVariants.{Unchecked, Guarded, Exclusive}
use Rattle.nfs_types.specs.declared.call.DirectoryName.{DirectoryName}
use Rattle.nfs_types.specs.declared.call.SpecialFile.{SpecialFile}
use Rattle.nfs_types.specs.declared.call.SpecialFile.TheVariants as specials
use Rattle.nfs_types.specs.declared.call.Stability.{Stability}
use Rattle.nfs_types.specs.declared.call.Stability.TheVariants.{Unstable, DataSync, FileSync}
use Rattle.nfs_types.specs.declared.ctx.Moment.{Moment}
use Rattle.nfs_types.specs.declared.handle.Handle.{Handle}
use Rattle.nfs_types.specs.declared.verifier.Verifier.{Verifier}
use Rattle.nfs_types.specs.Fits.{HandleFits, TextFits, DirectoryNameFits, MomentFits, SetTimeFits}
use Rattle.nfs_types.specs.Fits.{NewAttributesFit, VerifierFits, CreateHowFits, DeviceNumberFits}
use Rattle.nfs_types.specs.Fits.{SpecialFileFits}
use Rattle.xdr.specs.Codes.{Code, word, double, opaque, eight, nothing, ◌then◌, viewed, fitting, optional}
use Rattle.xdr.specs.Codes.{arm, arm_or, union, one_of}

-- ---- handles, names, times

-- a handle (`nfs_fh3`)
unfoldable pub handle : Code Handle
handle = fitting HandleFits (viewed (λ x. record { bytes = x }) (λ h. h.bytes) (opaque MOST_HANDLE_BYTES))

-- a name, a target or data: no bound but the record's
unfoldable pub text : Code (List ℕ)
text = fitting TextFits (opaque RECORD_BYTES)

-- a name in a directory (`diropargs3`)
unfoldable pub directory_name : Code DirectoryName
directory_name = fitting DirectoryNameFits
    (viewed (λ x. record { directory = x.0; name = x.1 }) (λ n. (n.directory, n.name)) (handle then text))

-- a time (`nfstime3`)
unfoldable pub moment : Code Moment
moment = fitting MomentFits
    (viewed (λ x. record { seconds = x.0; nanoseconds = x.1 }) (λ t. (t.seconds, t.nanoseconds))
    (word then word))

-- eight bytes as they came (`cookieverf3`, `createverf3`, `writeverf3`)
unfoldable pub verifier : Code Verifier
verifier = fitting VerifierFits (viewed (λ x. record { bytes = x }) (λ v. v.bytes) eight)

-- ---- attributes that a call sets

abbrev pub set_time_made : Unit {0} ⊎ (Unit {0} ⊎ Moment) → SetTime
set_time_made (inl x) = Unchanged
set_time_made (inr (inl x)) = Server
set_time_made (inr (inr t)) = Client t

abbrev pub set_time_parts : SetTime → Unit {0} ⊎ (Unit {0} ⊎ Moment)
set_time_parts Unchanged = inl tt
set_time_parts Server = inr (inl tt)
set_time_parts (Client t) = inr (inr t)

-- 0 leaves a time, 1 takes the server's, 2 the one that follows (`set_atime`, `set_mtime`)
unfoldable pub set_time : Code SetTime
set_time = fitting SetTimeFits
    (viewed set_time_made set_time_parts (union (arm_or 0 nothing (arm_or 1 nothing (arm 2 moment)))))

unfoldable pub optional_word : Code (Option ℕ)
optional_word = optional word

unfoldable pub optional_double : Code (Option ℕ)
optional_double = optional double

-- the time that a file must have for it to be changed (`sattrguard3`)
unfoldable pub guard : Code (Option Moment)
guard = optional moment

-- mode, owner, group, size, and the times of access and of modification (`sattr3`)
unfoldable pub new_attributes : Code NewAttributes
new_attributes = fitting NewAttributesFit (viewed
    (λ x. record {
      mode = x.0;
      uid = x.1.0;
      gid = x.1.1.0;
      size = x.1.1.1.0;
      atime = x.1.1.1.1.0;
      mtime = x.1.1.1.1.1;
    })
    (λ a. (a.mode, (a.uid, (a.gid, (a.size, (a.atime, a.mtime))))))
    (optional_word then optional_word then optional_word then optional_double then set_time then set_time))

-- ---- how files are made and written

abbrev pub create_how_made : NewAttributes ⊎ (NewAttributes ⊎ Verifier) → CreateHow
create_how_made (inl a) = Unchecked a
create_how_made (inr (inl a)) = Guarded a
create_how_made (inr (inr v)) = Exclusive v

abbrev pub create_how_parts : CreateHow → NewAttributes ⊎ (NewAttributes ⊎ Verifier)
create_how_parts (Unchecked a) = inl a
create_how_parts (Guarded a) = inr (inl a)
create_how_parts (Exclusive v) = inr (inr v)

-- `createhow3`
unfoldable pub create_how : Code CreateHow
create_how = fitting CreateHowFits (viewed create_how_made create_how_parts
    (union (arm_or 0 new_attributes (arm_or 1 new_attributes (arm 2 verifier)))))

abbrev pub stability_number : Stability → ℕ
stability_number Unstable = 0
stability_number DataSync = 1
stability_number FileSync = 2

-- `stable_how`
unfoldable pub stability : Code Stability
stability = one_of stability_number (Unstable ∷ DataSync ∷ FileSync ∷ [])

-- the two numbers of a device (`specdata3`)
unfoldable pub device : Code DeviceNumber
device = fitting DeviceNumberFits
    (viewed (λ x. record { major = x.0; minor = x.1 }) (λ d. (d.major, d.minor)) (word then word))

-- the kinds that carry nothing, then those that carry attributes, and those with the numbers of a device too
abbrev pub SpecialParts : Type 0
SpecialParts = Unit {0} ⊎ (Unit {0} ⊎ ((NewAttributes × DeviceNumber) ⊎ ((NewAttributes × DeviceNumber)
    ⊎ (Unit {0} ⊎ (NewAttributes ⊎ NewAttributes)))))

abbrev pub special_made : SpecialParts → SpecialFile
special_made (inl x) = specials.Regular
special_made (inr (inl x)) = specials.Directory
special_made (inr (inr (inl x))) = specials.BlockDevice x.0 x.1
special_made (inr (inr (inr (inl x)))) = specials.CharacterDevice x.0 x.1
special_made (inr (inr (inr (inr (inl x))))) = specials.Link
special_made (inr (inr (inr (inr (inr (inl a)))))) = specials.Socket a
special_made (inr (inr (inr (inr (inr (inr a)))))) = specials.Fifo a

abbrev pub special_parts : SpecialFile → SpecialParts
special_parts specials.Regular = inl tt
special_parts specials.Directory = inr (inl tt)
special_parts (specials.BlockDevice a d) = inr (inr (inl (a, d)))
special_parts (specials.CharacterDevice a d) = inr (inr (inr (inl (a, d))))
special_parts specials.Link = inr (inr (inr (inr (inl tt))))
special_parts (specials.Socket a) = inr (inr (inr (inr (inr (inl a)))))
special_parts (specials.Fifo a) = inr (inr (inr (inr (inr (inr a)))))

-- what MKNOD is to make, behind its type (`mknoddata3`)
unfoldable pub special_file : Code SpecialFile
special_file = fitting SpecialFileFits (viewed special_made special_parts
    (union (arm_or 1 nothing (arm_or 2 nothing (arm_or 3 (new_attributes then device)
    (arm_or 4 (new_attributes then device)
    (arm_or 5 nothing (arm_or 6 new_attributes (arm 7 new_attributes)))))))))

-- ---- attributes that a reply tells

-- the number of each kind of file (`ftype3`)
abbrev pub kind_number : FileKind → ℕ
kind_number kinds.Regular = 1
kind_number kinds.Directory = 2
kind_number kinds.BlockDevice = 3
kind_number kinds.CharacterDevice = 4
kind_number kinds.Link = 5
kind_number kinds.Socket = 6
kind_number kinds.Fifo = 7

unfoldable pub kind : Code FileKind
kind = one_of kind_number
    (kinds.Regular ∷ kinds.Directory ∷ kinds.BlockDevice ∷ kinds.CharacterDevice ∷ kinds.Link ∷ kinds.Socket
    ∷ kinds.Fifo ∷ [])

-- all attributes of a file, in 84 bytes (`fattr3`)
unfoldable pub attributes : Code Attributes
attributes = viewed
    (λ x. record {
      kind = x.0;
      mode = x.1.0;
      nlink = x.1.1.0;
      uid = x.1.1.1.0;
      gid = x.1.1.1.1.0;
      size = x.1.1.1.1.1.0;
      used = x.1.1.1.1.1.1.0;
      device = x.1.1.1.1.1.1.1.0;
      file_system = x.1.1.1.1.1.1.1.1.0;
      number = x.1.1.1.1.1.1.1.1.1.0;
      atime = x.1.1.1.1.1.1.1.1.1.1.0;
      mtime = x.1.1.1.1.1.1.1.1.1.1.1.0;
      ctime = x.1.1.1.1.1.1.1.1.1.1.1.1;
    })
    (λ a. (
      a.kind,
      (
        a.mode,
        (
          a.nlink,
          (
            a.uid,
            (
              a.gid,
              (
                a.size,
                (
                  a.used,
                  (
                    a.device,
                    (
                      a.file_system,
                      (
                        a.number,
                        (a.atime, (a.mtime, a.ctime)),
                      ),
                    ),
                  ),
                ),
              ),
            ),
          ),
        ),
      ),
    ))
    (kind then word then word then word then word then double then double then device then double then double
    then moment then moment then moment)

-- attributes after an operation, if they are told (`post_op_attr`)
unfoldable pub optional_attributes : Code (Option Attributes)
optional_attributes = optional attributes

-- what is told of a file before its change (`wcc_attr`)
unfoldable pub weak_cache_attributes : Code WeakCacheAttributes
weak_cache_attributes = viewed (λ x. record { size = x.0; mtime = x.1.0; ctime = x.1.1 })
    (λ w. (w.size, (w.mtime, w.ctime))) (double then moment then moment)

-- the same, if it is told (`pre_op_attr`)
unfoldable pub before_attributes : Code (Option WeakCacheAttributes)
before_attributes = optional weak_cache_attributes

-- a file before and after a change (`wcc_data`)
unfoldable pub weak_cache : Code WeakCacheData
weak_cache = viewed (λ x. record { before = x.0; after = x.1 }) (λ w. (w.before, w.after))
    (before_attributes then optional_attributes)

-- a handle, if it is told (`post_op_fh3`)
unfoldable pub optional_handle : Code (Option Handle)
optional_handle = optional handle
