-- A reply that fits has no length that four bytes can't tell: a law for each way to make a code, and one for
-- each result.
use Rattle.std.proofs.Common.{◌≡◌, ◌⊎◌, inl, inr, ℕ, ◌^◌, ◌<◌, ◌≤◌, Bool, true, false, List, [], ◌∷◌, length}
use Rattle.std.proofs.Common.{Option, Some, None, refl, arith}
use Rattle.std.specs.Prelude.{◌||◌, ◌↔◌}
use Rattle.std.proofs.lemmas.Bool.{le-ltb}
use Rattle.base.specs.declared.TheConstants.{MOST_HANDLE_BYTES, RECORD_BYTES}
use Rattle.nfs_types.specs.declared.mount.MountReply.TheVariants as mount_replies
use Rattle.nfs_types.specs.declared.program.ProgramReply.{ProgramReply}
use Rattle.nfs_types.specs.declared.program.ProgramReply.TheVariants as program_replies
use Rattle.nfs_types.specs.declared.reply.Reply.TheVariants as replies
use Rattle.nfs_types.specs.declared.status.Status.{Status}
use Rattle.xdr.specs.Items.{is_uncounted}
use Rattle.xdr.specs.Codes.{Code, word, double, flag, opaque, nothing, ◌then◌, viewed, fitting, optional}
use Rattle.xdr.specs.Codes.{in_some}
use Rattle.xdr.specs.Codes.{some_too_long, chain, counted}
use Rattle.nfs_codec.specs.Items.{handle, text, moment, verifier, device, kind, stability, attributes}
use Rattle.nfs_codec.specs.Items.{optional_attributes, weak_cache_attributes, before_attributes, weak_cache}
use Rattle.nfs_codec.specs.Items.{optional_handle}
use Rattle.nfs_results.specs.Results.{by_status, default_void_parts, default_void_made, default_void, behind_made, behind_parts}
use Rattle.nfs_results.specs.Results.{behind}
use Rattle.nfs_results.specs.Results.{before_made, before_parts, before, lookup_result, read_bytes, written, created}
use Rattle.nfs_results.specs.Results.{entry}
use Rattle.nfs_results.specs.Results.{entries, listed, entry_plus, entries_plus, listed_plus, space, info}
use Rattle.nfs_results.specs.Results.{limits}
use Rattle.nfs_results.specs.Results.{flavors, mounted, get_attr, set_attr, lookup, access, read_link, read}
use Rattle.nfs_results.specs.Results.{write}
use Rattle.nfs_results.specs.Results.{create, remove, rename, link, read_dir, read_dir_plus, fs_stat, fs_info}
use Rattle.nfs_results.specs.Results.{path_conf}
use Rattle.nfs_results.specs.Results.{commit, mount_root, too_long, ReplyFits}
use Rattle.session_wire.specs.declared.message.ReplyBody.{ReplyBody}
use Rattle.session_wire.specs.declared.message.ReplyBody.TheVariants as bodies
use Rattle.session_wire.specs.Replies.{BodyFits, IsTooLong, reply_bytes}

-- ---- a law for each way to make a code

record IsCounted {A : Type 0} (F : Code A) : Type 0 where
  counts : (x : A) → F.Fits x → F.too_long x ≡ false

or_false : (a b : Bool) → a ≡ false → b ≡ false → (a || b) ≡ false
or_false true b e f = e
or_false false b e f = f

counts_so : {A : Type 0} (xs : List A) (bound : ℕ) → bound < 2 ^ 32 → length xs ≤ bound
    → is_uncounted xs ≡ false
counts_so xs bound small le = le-ltb 4294967295 (length xs) (omega (arith, small, le))

opaques : (bound : ℕ) → bound < 2 ^ 32 → IsCounted (opaque bound)
opaques bound small = record { counts = λ bytes fits. counts_so bytes bound small fits.0 }

thens : {A B : Type 0} (F : Code A) (G : Code B) → IsCounted F → IsCounted G → IsCounted (F then G)
thens F G f g = record {
  counts = λ x fits. or_false (F.too_long x.0) (G.too_long x.1) (f.counts x.0 fits.0) (g.counts x.1 fits.1);
}

vieweds : {A B : Type 0} (make : B → A) (parts : A → B) (F : Code B) → IsCounted F
    → IsCounted (viewed make parts F)
vieweds make parts F f = record { counts = λ a fits. f.counts (parts a) fits }

fittings : {A : Type 0} (Fits : A → Type 0) (F : Code A) → ((x : A) → Fits x → F.Fits x) → IsCounted F
    → IsCounted (fitting Fits F)
fittings Fits F to f = record { counts = λ x fits. f.counts x (to x fits) }

some_counts : {A : Type 0} (F : Code A) → IsCounted F → (o : Option A) → (optional F).Fits o
    → in_some F.too_long o ≡ false
some_counts F f None fits = refl
some_counts F f (Some x) fits = f.counts x fits

optionals : {A : Type 0} (F : Code A) → IsCounted F → IsCounted (optional F)
optionals F f = record { counts = some_counts F f }

each_counts : {A : Type 0} (F : Code A) → IsCounted F → (xs : List A) → (chain F).Fits xs
    → some_too_long F xs ≡ false
each_counts F f [] fits = refl
each_counts F f (x ∷ xs) fits =
    or_false (F.too_long x) (some_too_long F xs) (f.counts x fits.0) (each_counts F f xs fits.1)

chains : {A : Type 0} (F : Code A) → IsCounted F → IsCounted (chain F)
chains F f = record { counts = each_counts F f }

counteds : {A : Type 0} (bound : ℕ) (F : Code A) → bound < 2 ^ 32 → IsCounted F → IsCounted (counted bound F)
counteds bound F small f = record {
  counts = λ xs fits.
      or_false (is_uncounted xs) (some_too_long F xs) (counts_so xs bound small fits.0)
      (each_counts F f xs fits.1);
}

-- ---- items

words : IsCounted word
words = record { counts = λ x fits. refl }

doubles : IsCounted double
doubles = record { counts = λ x fits. refl }

flags : IsCounted flag
flags = record { counts = λ x fits. refl }

nothings : IsCounted nothing
nothings = record { counts = λ x fits. refl }

handles : IsCounted handle
unfolding handle
handles = fittings _ _ (λ h f. (f.short, f.each)) (vieweds _ _ _ (opaques MOST_HANDLE_BYTES (omega arith)))

texts : IsCounted text
unfolding text
texts = fittings _ _ (λ t f. (f.short, f.each)) (opaques RECORD_BYTES (omega arith))

moments : IsCounted moment
unfolding moment
moments = record { counts = λ x fits. refl }

verifiers : IsCounted verifier
unfolding verifier
verifiers = record { counts = λ x fits. refl }

stabilities : IsCounted stability
unfolding stability
stabilities = record { counts = λ x fits. refl }

attributes_are : IsCounted attributes
unfolding attributes kind device moment
attributes_are = record { counts = λ x fits. refl }

optional_attributes_are : IsCounted optional_attributes
unfolding optional_attributes
optional_attributes_are = optionals attributes attributes_are

before_are : IsCounted before_attributes
unfolding before_attributes weak_cache_attributes moment
before_are = optionals weak_cache_attributes (record { counts = λ x fits. refl })

weak_caches : IsCounted weak_cache
unfolding weak_cache
weak_caches = vieweds _ _ _ (thens before_attributes optional_attributes before_are optional_attributes_are)

optional_handles : IsCounted optional_handle
unfolding optional_handle
optional_handles = optionals handle handles

-- ---- outcomes

either_counts : {A B : Type 0} (F : Code A) (G : Code B) → IsCounted F → IsCounted G → (x : A ⊎ (Status × B))
    → (by_status F G).Fits x → (by_status F G).too_long x ≡ false
either_counts F G f g (inl x) fits = f.counts x fits
either_counts F G f g (inr x) fits = g.counts x.1 fits

statuses_are : {A B : Type 0} (F : Code A) (G : Code B) → IsCounted F → IsCounted G → IsCounted (by_status F G)
statuses_are F G f g = record { counts = either_counts F G f g }

default_voids : {A : Type 0} (F : Code A) → IsCounted F → IsCounted (default_void F)
default_voids F f = vieweds default_void_made default_void_parts (by_status F nothing) (statuses_are F nothing f nothings)

behinds : {A B : Type 0} (F : Code B) (G : Code A) → IsCounted F → IsCounted G → IsCounted (behind F G)
behinds F G f g =
    vieweds behind_made (λ r. behind_parts r.0 r.1) (by_status (F then G) F)
    (statuses_are (F then G) F (thens F G f g) f)

befores : {A B : Type 0} (F : Code A) (G : Code B) → IsCounted F → IsCounted G → IsCounted (before F G)
befores F G f g =
    vieweds before_made (λ r. before_parts r.0 r.1) (by_status (F then G) G)
    (statuses_are (F then G) G (thens F G f g) g)

-- ---- what comes after OK

lookup_result_is : IsCounted lookup_result
unfolding lookup_result
lookup_result_is = vieweds _ _ _ (thens handle optional_attributes handles optional_attributes_are)

read_bytes_are : IsCounted read_bytes
unfolding read_bytes
read_bytes_are = vieweds _ _ _ (thens word (flag then text) words (thens flag text flags texts))

written_is : IsCounted written
unfolding written
written_is = vieweds _ _ _ (thens word (stability then verifier) words
    (thens stability verifier stabilities verifiers))

created_is : IsCounted created
unfolding created
created_is = vieweds _ _ _ (thens optional_handle optional_attributes optional_handles optional_attributes_are)

entry_is : IsCounted entry
unfolding entry
entry_is = vieweds _ _ _ (thens double (text then double) doubles (thens text double texts doubles))

entries_are : IsCounted entries
unfolding entries
entries_are = chains entry entry_is

listed_is : IsCounted listed
unfolding listed
listed_is = vieweds _ _ _ (thens verifier (entries then flag) verifiers (thens entries flag entries_are flags))

entry_plus_is : IsCounted entry_plus
unfolding entry_plus
entry_plus_is = vieweds _ _ _ (thens _ _ doubles (thens _ _ texts (thens _ _ doubles
    (thens _ _ optional_attributes_are optional_handles))))

entries_plus_are : IsCounted entries_plus
unfolding entries_plus
entries_plus_are = chains entry_plus entry_plus_is

listed_plus_is : IsCounted listed_plus
unfolding listed_plus
listed_plus_is = vieweds _ _ _ (thens verifier (entries_plus then flag) verifiers
    (thens entries_plus flag entries_plus_are flags))

space_is : IsCounted space
unfolding space
space_is = record { counts = λ x fits. refl }

info_is : IsCounted info
unfolding info moment
info_is = record { counts = λ x fits. refl }

limits_are : IsCounted limits
unfolding limits
limits_are = record { counts = λ x fits. refl }

flavors_are : IsCounted flavors
unfolding flavors
flavors_are = counteds RECORD_BYTES word (omega arith) words

mounted_is : IsCounted mounted
unfolding mounted
mounted_is = vieweds _ _ _ (thens handle flavors handles flavors_are)

-- ---- results

get_attrs : IsCounted get_attr
unfolding get_attr
get_attrs = default_voids attributes attributes_are

set_attrs : IsCounted set_attr
unfolding set_attr
set_attrs = behinds weak_cache nothing weak_caches nothings

lookups : IsCounted lookup
unfolding lookup
lookups = befores lookup_result optional_attributes lookup_result_is optional_attributes_are

accesses : IsCounted access
unfolding access
accesses = behinds optional_attributes word optional_attributes_are words

read_links : IsCounted read_link
unfolding read_link
read_links = behinds optional_attributes text optional_attributes_are texts

reads : IsCounted read
unfolding read
reads = behinds optional_attributes read_bytes optional_attributes_are read_bytes_are

writes : IsCounted write
unfolding write
writes = behinds weak_cache written weak_caches written_is

creates : IsCounted create
unfolding create
creates = befores created weak_cache created_is weak_caches

removes : IsCounted remove
unfolding remove
removes = behinds weak_cache nothing weak_caches nothings

renames : IsCounted rename
unfolding rename
renames = behinds (weak_cache then weak_cache) nothing
    (thens weak_cache weak_cache weak_caches weak_caches) nothings

links : IsCounted link
unfolding link
links = behinds (optional_attributes then weak_cache) nothing
    (thens optional_attributes weak_cache optional_attributes_are weak_caches) nothings

read_dirs : IsCounted read_dir
unfolding read_dir
read_dirs = behinds optional_attributes listed optional_attributes_are listed_is

read_dirs_plus : IsCounted read_dir_plus
unfolding read_dir_plus
read_dirs_plus = behinds optional_attributes listed_plus optional_attributes_are listed_plus_is

fs_stats : IsCounted fs_stat
unfolding fs_stat
fs_stats = behinds optional_attributes space optional_attributes_are space_is

fs_infos : IsCounted fs_info
unfolding fs_info
fs_infos = behinds optional_attributes info optional_attributes_are info_is

path_confs : IsCounted path_conf
unfolding path_conf
path_confs = behinds optional_attributes limits optional_attributes_are limits_are

commits : IsCounted commit
unfolding commit
commits = behinds weak_cache verifier weak_caches verifiers

mount_roots : IsCounted mount_root
unfolding mount_root
mount_roots = default_voids mounted mounted_is

-- ---- replies

counted_so : (reply : ProgramReply) → ReplyFits reply → too_long reply ≡ false
counted_so (program_replies.Nfs replies.Null) fits = refl
counted_so (program_replies.Nfs (replies.GetAttr outcome)) fits = get_attrs.counts outcome fits
counted_so (program_replies.Nfs (replies.SetAttr outcome object)) fits = set_attrs.counts (outcome, object) fits
counted_so (program_replies.Nfs (replies.Lookup outcome directory)) fits =
    lookups.counts (outcome, directory) fits
counted_so (program_replies.Nfs (replies.Access outcome object)) fits = accesses.counts (outcome, object) fits
counted_so (program_replies.Nfs (replies.ReadLink outcome object)) fits =
    read_links.counts (outcome, object) fits
counted_so (program_replies.Nfs (replies.Read outcome file)) fits = reads.counts (outcome, file) fits
counted_so (program_replies.Nfs (replies.Write outcome file)) fits = writes.counts (outcome, file) fits
counted_so (program_replies.Nfs (replies.Create outcome directory)) fits =
    creates.counts (outcome, directory) fits
counted_so (program_replies.Nfs (replies.MkDir outcome directory)) fits =
    creates.counts (outcome, directory) fits
counted_so (program_replies.Nfs (replies.SymLink outcome directory)) fits =
    creates.counts (outcome, directory) fits
counted_so (program_replies.Nfs (replies.MkNod outcome directory)) fits =
    creates.counts (outcome, directory) fits
counted_so (program_replies.Nfs (replies.Remove outcome directory)) fits =
    removes.counts (outcome, directory) fits
counted_so (program_replies.Nfs (replies.RmDir outcome directory)) fits =
    removes.counts (outcome, directory) fits
counted_so (program_replies.Nfs (replies.Rename outcome source target)) fits =
    renames.counts (outcome, (source, target)) fits
counted_so (program_replies.Nfs (replies.Link outcome file directory)) fits =
    links.counts (outcome, (file, directory)) fits
counted_so (program_replies.Nfs (replies.ReadDir outcome directory)) fits =
    read_dirs.counts (outcome, directory) fits
counted_so (program_replies.Nfs (replies.ReadDirPlus outcome directory)) fits =
    read_dirs_plus.counts (outcome, directory) fits
counted_so (program_replies.Nfs (replies.FsStat outcome object)) fits = fs_stats.counts (outcome, object) fits
counted_so (program_replies.Nfs (replies.FsInfo outcome object)) fits = fs_infos.counts (outcome, object) fits
counted_so (program_replies.Nfs (replies.PathConf outcome object)) fits =
    path_confs.counts (outcome, object) fits
counted_so (program_replies.Nfs (replies.Commit outcome file)) fits = commits.counts (outcome, file) fits
counted_so (program_replies.Mount mount_replies.Null) fits = refl
counted_so (program_replies.Mount (mount_replies.Mount outcome)) fits = mount_roots.counts outcome fits
counted_so (program_replies.Mount mount_replies.Unmount) fits = refl

-- ---- bodies

not_both : {P : Type 0} (b : Bool) → b ≡ false → b ≡ true → P
not_both b is_false is_true = absurd cc

many_bytes : (xid : ℕ) (body : ReplyBody) → BodyFits body → IsTooLong xid body
    → 2 ^ 31 ≤ length (reply_bytes xid body)
many_bytes xid (bodies.Done reply) fits (inl long) = not_both (too_long reply) (counted_so reply fits) long
many_bytes xid (bodies.Done reply) fits (inr many) = many
many_bytes xid (bodies.Refused refusal) fits (inl long) = not_both false refl long
many_bytes xid (bodies.Refused refusal) fits (inr many) = many

pub long_by_bytes : (xid : ℕ) (body : ReplyBody) → BodyFits body
    → (IsTooLong xid body ↔ (2 ^ 31 ≤ length (reply_bytes xid body)))
long_by_bytes xid body fits = (many_bytes xid body fits, λ many. inr many)
