-- Each item is read as it is spelled: a term for each code.
use Rattle.std.proofs.Common.{◌≡◌, ◌⊎◌, [], ◌∷◌, refl, arith, inl, inr}
use Rattle.base.specs.declared.TheConstants.{MOST_HANDLE_BYTES, RECORD_BYTES}
use Rattle.nfs_types.specs.declared.attributes.DeviceNumber.{DeviceNumber}
use Rattle.nfs_types.specs.declared.attributes.FileKind.{FileKind}
use Rattle.nfs_types.specs.declared.attributes.FileKind.TheVariants as kinds
use Rattle.nfs_types.specs.declared.attributes.NewAttributes.{NewAttributes}
use Rattle.nfs_types.specs.declared.attributes.SetTime.{SetTime}
use Rattle.nfs_types.specs.declared.attributes.SetTime.TheVariants.{Unchanged, Server, Client}
use Rattle.nfs_types.specs.declared.call.CreateHow.{CreateHow}
use Rattle.nfs_types.specs.declared.call.CreateHow.TheVariants.{Unchecked, Guarded, Exclusive}
use Rattle.nfs_types.specs.declared.call.SpecialFile.{SpecialFile}
use Rattle.nfs_types.specs.declared.call.SpecialFile.TheVariants as specials
use Rattle.nfs_types.specs.declared.call.Stability.{Stability}
use Rattle.nfs_types.specs.declared.call.Stability.TheVariants.{Unstable, DataSync, FileSync}
use Rattle.nfs_types.specs.Fits.{CreateHowFits, SetTimeFits, SpecialFileFits}
use Rattle.xdr.specs.Codes.{Code, Arms, viewed, union, arm_or, arm, nothing, ◌then◌}
use Rattle.xdr.proofs.Lawful.{IsCode, words, doubles, opaques, eights, nothings, thens, vieweds, fittings}
use Rattle.xdr.proofs.Lawful.{optionals, AreArms, arm_is, or_is, HasNumbers, unions, one_ofs}
use Rattle.nfs_codec.specs.Items.{handle, text, directory_name, moment, verifier, set_time_made, set_time_parts}
use Rattle.nfs_codec.specs.Items.{set_time, optional_word, optional_double, guard, new_attributes}
use Rattle.nfs_codec.specs.Items.{create_how_made, create_how_parts, create_how, stability_number, stability}
use Rattle.nfs_codec.specs.Items.{device, SpecialParts, special_made, special_parts, special_file, kind_number}
use Rattle.nfs_codec.specs.Items.{kind, attributes, optional_attributes, weak_cache_attributes}
use Rattle.nfs_codec.specs.Items.{before_attributes, weak_cache, optional_handle}

pub handles : IsCode handle
unfolding handle
handles = fittings _ _ (λ h f. record { short = f.0; each = f.1 }) (λ h f. (f.short, f.each))
    (vieweds _ _ _ (λ b. refl) (λ a. refl) (opaques MOST_HANDLE_BYTES (omega arith)))

pub texts : IsCode text
unfolding text
texts = fittings _ _ (λ t f. record { short = f.0; each = f.1 }) (λ t f. (f.short, f.each))
    (opaques RECORD_BYTES (omega arith))

pub directory_names : IsCode directory_name
unfolding directory_name handle text
directory_names = fittings _ _ (λ n f. record { directory = f.0; name = f.1 }) (λ n f. (f.directory, f.name))
    (vieweds _ _ _ (λ b. refl) (λ a. refl) (thens _ _ handles texts))

pub moments : IsCode moment
unfolding moment
moments = fittings _ _ (λ t f. record { seconds = f.0; nanoseconds = f.1 }) (λ t f. (f.seconds, f.nanoseconds))
    (vieweds _ _ _ (λ b. refl) (λ a. refl) (thens _ _ words words))

pub verifiers : IsCode verifier
unfolding verifier
verifiers = fittings _ _ (λ v f. record { count = f.0; each = f.1 }) (λ v f. (f.count, f.each))
    (vieweds _ _ _ (λ b. refl) (λ a. refl) eights)

-- ---- attributes that a call sets

set_time_back : (x : _) → set_time_parts (set_time_made x) ≡ x
set_time_back (inl x) = refl
set_time_back (inr (inl x)) = refl
set_time_back (inr (inr t)) = refl

set_time_forth : (t : _) → set_time_made (set_time_parts t) ≡ t
set_time_forth Unchanged = refl
set_time_forth Server = refl
set_time_forth (Client t) = refl

abbrev set_time_code : Code SetTime
set_time_code = viewed set_time_made set_time_parts (union (arm_or 0 nothing (arm_or 1 nothing (arm 2 moment))))

set_time_fits : (t : SetTime) → set_time_code.Fits t → SetTimeFits t
unfolding moment
set_time_fits Unchanged f = f
set_time_fits Server f = f
set_time_fits (Client t) f = f

set_time_fitted : (t : SetTime) → SetTimeFits t → set_time_code.Fits t
unfolding moment
set_time_fitted Unchanged f = f
set_time_fitted Server f = f
set_time_fitted (Client t) f = f

pub set_times : IsCode set_time
unfolding set_time
set_times = fittings _ _ set_time_fits set_time_fitted (vieweds _ _ _ set_time_back set_time_forth
    (unions _ (or_is _ _ _ (omega arith) refl nothings (or_is _ _ _ (omega arith) refl nothings
    (arm_is _ _ (omega arith) moments)))))

pub optional_words : IsCode optional_word
unfolding optional_word
optional_words = optionals _ words

pub optional_doubles : IsCode optional_double
unfolding optional_double
optional_doubles = optionals _ doubles

pub guards : IsCode guard
unfolding guard
guards = optionals _ moments

pub new_attributes_is : IsCode new_attributes
unfolding new_attributes optional_word optional_double set_time
new_attributes_is = fittings _ _
    (λ a f. record {
      mode = f.0;
      uid = f.1.0;
      gid = f.1.1.0;
      size = f.1.1.1.0;
      atime = f.1.1.1.1.0;
      mtime = f.1.1.1.1.1;
    })
    (λ a f. (f.mode, (f.uid, (f.gid, (f.size, (f.atime, f.mtime))))))
    (vieweds _ _ _ (λ b. refl) (λ a. refl) (thens _ _ optional_words (thens _ _ optional_words
    (thens _ _ optional_words (thens _ _ optional_doubles (thens _ _ set_times set_times))))))

-- ---- how files are made and written

create_how_back : (x : _) → create_how_parts (create_how_made x) ≡ x
create_how_back (inl x) = refl
create_how_back (inr (inl x)) = refl
create_how_back (inr (inr t)) = refl

create_how_forth : (h : _) → create_how_made (create_how_parts h) ≡ h
create_how_forth (Unchecked a) = refl
create_how_forth (Guarded a) = refl
create_how_forth (Exclusive v) = refl

abbrev create_how_code : Code CreateHow
create_how_code = viewed create_how_made create_how_parts
    (union (arm_or 0 new_attributes (arm_or 1 new_attributes (arm 2 verifier))))

create_how_fits : (h : CreateHow) → create_how_code.Fits h → CreateHowFits h
unfolding new_attributes verifier
create_how_fits (Unchecked a) f = f
create_how_fits (Guarded a) f = f
create_how_fits (Exclusive v) f = f

create_how_fitted : (h : CreateHow) → CreateHowFits h → create_how_code.Fits h
unfolding new_attributes verifier
create_how_fitted (Unchecked a) f = f
create_how_fitted (Guarded a) f = f
create_how_fitted (Exclusive v) f = f

pub create_hows : IsCode create_how
unfolding create_how
create_hows = fittings _ _ create_how_fits create_how_fitted (vieweds _ _ _ create_how_back create_how_forth
    (unions _ (or_is _ _ _ (omega arith) refl new_attributes_is
    (or_is _ _ _ (omega arith) refl new_attributes_is
    (arm_is _ _ (omega arith) verifiers)))))

stability_numbers : (s : Stability) → HasNumbers stability_number (Unstable ∷ DataSync ∷ FileSync ∷ []) s
stability_numbers Unstable = record { found = refl; small = omega arith }
stability_numbers DataSync = record { found = refl; small = omega arith }
stability_numbers FileSync = record { found = refl; small = omega arith }

pub stabilities : IsCode stability
unfolding stability
stabilities = one_ofs _ _ stability_numbers

pub devices : IsCode device
unfolding device
devices = fittings _ _ (λ d f. record { major = f.0; minor = f.1 }) (λ d f. (f.major, f.minor))
    (vieweds _ _ _ (λ b. refl) (λ a. refl) (thens _ _ words words))

special_back : (x : SpecialParts) → special_parts (special_made x) ≡ x
special_back (inl x) = refl
special_back (inr (inl x)) = refl
special_back (inr (inr (inl x))) = refl
special_back (inr (inr (inr (inl x)))) = refl
special_back (inr (inr (inr (inr (inl x))))) = refl
special_back (inr (inr (inr (inr (inr (inl a)))))) = refl
special_back (inr (inr (inr (inr (inr (inr a)))))) = refl

special_forth : (s : SpecialFile) → special_made (special_parts s) ≡ s
special_forth specials.Regular = refl
special_forth specials.Directory = refl
special_forth (specials.BlockDevice a d) = refl
special_forth (specials.CharacterDevice a d) = refl
special_forth specials.Link = refl
special_forth (specials.Socket a) = refl
special_forth (specials.Fifo a) = refl

abbrev special_code : Code SpecialFile
special_code = viewed special_made special_parts
    (union (arm_or 1 nothing (arm_or 2 nothing (arm_or 3 (new_attributes then device)
    (arm_or 4 (new_attributes then device)
    (arm_or 5 nothing (arm_or 6 new_attributes (arm 7 new_attributes))))))))

special_fits : (s : SpecialFile) → special_code.Fits s → SpecialFileFits s
unfolding new_attributes device
special_fits specials.Regular f = f
special_fits specials.Directory f = f
special_fits (specials.BlockDevice a d) f = f
special_fits (specials.CharacterDevice a d) f = f
special_fits specials.Link f = f
special_fits (specials.Socket a) f = f
special_fits (specials.Fifo a) f = f

special_fitted : (s : SpecialFile) → SpecialFileFits s → special_code.Fits s
unfolding new_attributes device
special_fitted specials.Regular f = f
special_fitted specials.Directory f = f
special_fitted (specials.BlockDevice a d) f = f
special_fitted (specials.CharacterDevice a d) f = f
special_fitted specials.Link f = f
special_fitted (specials.Socket a) f = f
special_fitted (specials.Fifo a) f = f

abbrev special_ends : Arms (NewAttributes ⊎ NewAttributes)
special_ends = arm_or 6 new_attributes (arm 7 new_attributes)

special_ends_are : AreArms special_ends
special_ends_are = or_is 6 new_attributes (arm 7 new_attributes) (omega arith) refl new_attributes_is
    (arm_is 7 new_attributes (omega arith) new_attributes_is)

abbrev special_links : Arms (Unit {0} ⊎ (NewAttributes ⊎ NewAttributes))
special_links = arm_or 5 nothing special_ends

special_links_are : AreArms special_links
special_links_are = or_is 5 nothing special_ends (omega arith) refl nothings special_ends_are

abbrev special_device : Code (NewAttributes × DeviceNumber)
special_device = new_attributes then device

special_devices_are : IsCode special_device
special_devices_are = thens new_attributes device new_attributes_is devices

abbrev special_devices : Arms ((NewAttributes × DeviceNumber) ⊎ ((NewAttributes × DeviceNumber)
    ⊎ (Unit {0} ⊎ (NewAttributes ⊎ NewAttributes))))
special_devices = arm_or 3 special_device (arm_or 4 special_device special_links)

special_devices_arms_are : AreArms special_devices
special_devices_arms_are = or_is 3 special_device (arm_or 4 special_device special_links) (omega arith) refl
    special_devices_are (or_is 4 special_device special_links (omega arith) refl special_devices_are
    special_links_are)

abbrev special_arms : Arms SpecialParts
special_arms = arm_or 1 nothing (arm_or 2 nothing special_devices)

special_arms_are : AreArms special_arms
special_arms_are = or_is 1 nothing (arm_or 2 nothing special_devices) (omega arith) refl nothings
    (or_is 2 nothing special_devices (omega arith) refl nothings special_devices_arms_are)

pub special_files : IsCode special_file
unfolding special_file
special_files = fittings SpecialFileFits special_code special_fits special_fitted
    (vieweds special_made special_parts (union special_arms) special_back special_forth
    (unions special_arms special_arms_are))

-- ---- attributes that a reply tells

kind_numbers : (k : FileKind) → HasNumbers kind_number (kinds.Regular ∷ kinds.Directory ∷ kinds.BlockDevice
    ∷ kinds.CharacterDevice ∷ kinds.Link ∷ kinds.Socket ∷ kinds.Fifo ∷ []) k
kind_numbers kinds.Regular = record { found = refl; small = omega arith }
kind_numbers kinds.Directory = record { found = refl; small = omega arith }
kind_numbers kinds.BlockDevice = record { found = refl; small = omega arith }
kind_numbers kinds.CharacterDevice = record { found = refl; small = omega arith }
kind_numbers kinds.Link = record { found = refl; small = omega arith }
kind_numbers kinds.Socket = record { found = refl; small = omega arith }
kind_numbers kinds.Fifo = record { found = refl; small = omega arith }

pub kind_is : IsCode kind
unfolding kind
kind_is = one_ofs _ _ kind_numbers

pub attributes_is : IsCode attributes
unfolding attributes
attributes_is = vieweds _ _ _ (λ b. refl) (λ a. refl) (thens _ _ kind_is (thens _ _ words (thens _ _ words
    (thens _ _ words (thens _ _ words (thens _ _ doubles
    (thens _ _ doubles (thens _ _ devices (thens _ _ doubles
    (thens _ _ doubles (thens _ _ moments (thens _ _ moments moments))))))))))))

pub optional_attributes_is : IsCode optional_attributes
unfolding optional_attributes
optional_attributes_is = optionals _ attributes_is

weak_cache_attributes_is : IsCode weak_cache_attributes
unfolding weak_cache_attributes
weak_cache_attributes_is =
    vieweds _ _ _ (λ b. refl) (λ a. refl) (thens _ _ doubles (thens _ _ moments moments))

before_attributes_is : IsCode before_attributes
unfolding before_attributes
before_attributes_is = optionals _ weak_cache_attributes_is

pub weak_caches : IsCode weak_cache
unfolding weak_cache
weak_caches = vieweds _ _ _ (λ b. refl) (λ a. refl) (thens _ _ before_attributes_is optional_attributes_is)

pub optional_handles : IsCode optional_handle
unfolding optional_handle
optional_handles = optionals _ handles
