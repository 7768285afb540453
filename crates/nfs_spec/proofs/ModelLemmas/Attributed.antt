-- What the setting of attributes makes of a sound file.
use Rattle.std.proofs.Common.{◌≡◌, ℕ, ◌-◌, ◌*◌, ◌/◌, ◌^◌, ◌<◌, ◌≤◌, sym, ◌∙◌, refl, Bool, true, false, cond}
use Rattle.std.proofs.Common.{not, ◌&&◌, ◌||◌, List, [], ◌∷◌, length, get_or, take, replicate, nat_le, nat_lt}
use Rattle.std.proofs.Common.{is_some, unwrap_or, Option, Some, None, IfSome, length-append, arith, rules}
use Rattle.std.proofs.Common.{lit<, inl, inr}
use Rattle.std.proofs.lemmas.List.{get_or_append_left, get_or-append_right, get_or-take, get_or-replicate}
use Rattle.std.proofs.lemmas.List.{get_or_past, length-take, length-replicate}
use Rattle.std.proofs.lemmas.Nat.{and_le_r}
use Rattle.std.proofs.lemmas.Bool.{cases_lt}
use Rattle.std.proofs.lemmas.Bool.Decides.{nat_tests}
use Rattle.std.specs.Ordering.{nat_cmp}
use Rattle.std.specs.FinSet.{FinSet, contains, retain, contains-items}
use Rattle.base.specs.declared.TheConstants.{BLOCK_BYTES, LARGEST_FILE, MODE_BITS}
use Rattle.base.specs.declared.TheConstants.{NANOSECONDS}
use Rattle.nfs_types.specs.declared.attributes.NewAttributes.{NewAttributes}
use Rattle.nfs_types.specs.declared.attributes.SetTime.{SetTime}
use Rattle.nfs_types.specs.declared.attributes.SetTime.TheVariants.{Unchanged, Server, Client}
use Rattle.nfs_types.specs.declared.ctx.Ctx.{Ctx}
use Rattle.nfs_types.specs.declared.ctx.Moment.{Moment}
use Rattle.nfs_types.specs.declared.status.Status.{Status}
use Rattle.nfs_types.specs.declared.status.Status.TheVariants as status
use Rattle.nfs_types.specs.declared.verifier.Verifier.{Verifier}
use Rattle.nfs_types.specs.Fits.{AreBytes, SetTimeFits}
use Rattle.nfs_spec.specs.Model.Node.{Node, Body, Regular, Directory, Link}
use Rattle.nfs_spec.specs.Model.Cost.{cost, file_cost}
use Rattle.nfs_spec.specs.Model.Names.{entries_of, is_directory, parent_of}
use Rattle.nfs_spec.specs.Model.SetAttr.{given, is_no_time, is_regular, fails_guard, is_invalid, is_not_permitted}
use Rattle.nfs_spec.specs.Model.SetAttr.{is_no_access, first_of_tests, refusal, set_time, with_size, resized}
use Rattle.nfs_spec.specs.Model.SetAttr.{mapped_of_size, with_length, mode_of, with_attributes}
use Rattle.nfs_spec.specs.Model.Sound.{SoundNode, SoundBody, SoundBytes, SoundTime, SoundVerifier}
use Rattle.nfs_spec.proofs.ModelLemmas.Replaced.{SameShape}
use Rattle.nfs_spec.proofs.ModelLemmas.Costs.{more_cost}
use Rattle.nfs_spec.proofs.ModelLemmas.Sets.{contains_retain, len-retain}

nat_lt-is : (a b : ℕ) → a < b → nat_lt a b ≡ true
nat_lt-is a b h = search rules

not-above : (a b : ℕ) → nat_lt a b ≡ false → b ≤ a
not-above a b e = grind (arith, nat_tests)

not-reached : (a b : ℕ) → nat_le a b ≡ false → b < a
not-reached a b e = grind (arith, nat_tests)

-- The shape of a file stays.

and-left : (a b : Bool) → (a && b) ≡ true → a ≡ true
and-left true b e = refl
and-left false b e = e

retained-cost : (mapped : FinSet nat_cmp) (p : ℕ → Bool) → file_cost (retain mapped p) ≤ file_cost mapped
retained-cost mapped p =
    more_cost (retain mapped p) mapped
    (λ q e. sym (contains-items mapped q)
    ∙ and-left (contains mapped q) (p q) (sym (contains_retain mapped p q)
    ∙ contains-items (retain mapped p) q ∙ e)) (len-retain mapped p)

mapped-cost : (cut : Bool) (mapped : FinSet nat_cmp) (p : ℕ → Bool)
    → file_cost (cond cut (retain mapped p) mapped) ≤ file_cost mapped
mapped-cost true mapped p = retained-cost mapped p
mapped-cost false mapped p = omega arith

record SameBody (old new : Body) : Type 0 where
  entries_are : entries_of new ≡ entries_of old
  directory : is_directory new ≡ is_directory old
  parent : parent_of new ≡ parent_of old
  cost_is : cost new ≤ cost old

same_body : (size : Option ℕ) (body : Body) → SameBody body (with_length size body)
same_body None body = record { entries_are = refl; directory = refl; parent = refl; cost_is = omega arith }
same_body (Some size) (Regular bytes mapped) =
    record {
      entries_are = refl;
      directory = refl;
      parent = refl;
      cost_is = mapped-cost (nat_lt size (length bytes)) mapped (λ index. nat_lt (index * BLOCK_BYTES) size);
    }
same_body (Some size) (Directory entries span parent) = record {
  entries_are = refl;
  directory = refl;
  parent = refl;
  cost_is = omega arith;
}
same_body (Some size) (Link target) = record {
  entries_are = refl;
  directory = refl;
  parent = refl;
  cost_is = omega arith;
}

pub shape : (moment : Moment) (wanted : NewAttributes) (node : Node)
    → SameShape node (with_attributes moment wanted node)
shape moment wanted node =
    let body = same_body wanted.size node.body in
    record {
      nlink = refl;
      stamp = refl;
      entries_are = body.entries_are;
      directory = body.directory;
      parent = body.parent;
      cost_is = body.cost_is;
    }

-- The bytes stay sound.

length-resized : (size : ℕ) (bytes : List ℕ) → length (resized size bytes) ≡ size
length-resized size bytes =
    let filled : length (replicate {A = ℕ} (size - length bytes) 0) ≡ size - length bytes =
    length-replicate (size - length bytes) 0 in
    omega (
      arith,
      filled,
      length-append (take size bytes) (replicate (size - length bytes) 0),
      length-take size bytes,
    )

zeros : (n offset : ℕ) → get_or {A = ℕ} (replicate n 0) offset 0 ≡ 0
zeros n offset =
    elim (cases_lt offset n) [
      | inl h ↦ get_or-replicate n offset 0 0 h
      | inr h ↦ let long : length (replicate {A = ℕ} n 0) ≡ n = length-replicate n 0 in
          get_or_past (replicate n 0) offset 0 (omega arith)
    ]

-- below the new end the bytes are as they were
below : (size offset : ℕ) (bytes : List ℕ) → offset < size
    → get_or (resized size bytes) offset 0 ≡ get_or bytes offset 0
below size offset bytes h =
    elim (cases_lt offset (length bytes)) [
      | inl inside ↦
          get_or_append_left (take size bytes) (replicate (size - length bytes) 0) 0 offset
          (omega (arith, length-take size bytes))
          ∙ get_or-take size bytes offset 0 h
      | inr outside ↦
          get_or-append_right (take size bytes) (replicate (size - length bytes) 0) (length bytes) offset 0
          (omega (arith, length-take size bytes)) outside
          ∙ zeros (size - length bytes) (offset - length bytes) ∙ sym (get_or_past bytes offset 0 outside)
    ]

-- past the new end there are none
past : (size offset : ℕ) (bytes : List ℕ) → size ≤ offset → get_or (resized size bytes) offset 0 ≡ 0
past size offset bytes h =
    get_or_past (resized size bytes) offset 0 (omega (arith, length-resized size bytes))

small : (b : ℕ) {c : ℕ} → c ≡ b → b < 256 → c < 256
small b e h = omega arith

resized-bytes : (size : ℕ) (bytes : List ℕ) → AreBytes bytes → AreBytes (resized size bytes)
resized-bytes size bytes each offset =
    elim (cases_lt offset size) [
      | inl h ↦ small (get_or bytes offset 0) (below size offset bytes h) (each offset)
      | inr h ↦ small 0 (past size offset bytes h) (lit< tt)
    ]

still-in : (cut : Bool) (mapped : FinSet nat_cmp) (p : ℕ → Bool) (q : ℕ)
    → contains (cond cut (retain mapped p) mapped) q ≡ true → contains mapped q ≡ true
still-in true mapped p q e = and-left (contains mapped q) (p q) (sym (contains_retain mapped p q) ∙ e)
still-in false mapped p q e = e

and-passed : (a b : Bool) → b ≡ true → (a && b) ≡ false → a ≡ false
and-passed true b passed e = let no : true ≡ false = sym passed ∙ e in cc
and-passed false b passed e = refl

-- an index that isn't mapped now and whose block begins before the new end wasn't mapped before
not-before : (cut : Bool) (mapped : FinSet nat_cmp) (p : ℕ → Bool) (q : ℕ) → p q ≡ true
    → contains (cond cut (retain mapped p) mapped) q ≡ false → contains mapped q ≡ false
not-before true mapped p q passed e =
    and-passed (contains mapped q) (p q) passed (sym (contains_retain mapped p q) ∙ e)
not-before false mapped p q passed e = e

begins-before : (offset size : ℕ) → offset < size → nat_lt ((offset / BLOCK_BYTES) * BLOCK_BYTES) size ≡ true
begins-before offset size h = nat_lt-is ((offset / BLOCK_BYTES) * BLOCK_BYTES) size (omega arith)

resized-sound : (size : ℕ) (bytes : List ℕ) (mapped : FinSet nat_cmp) → size ≤ LARGEST_FILE
    → SoundBytes bytes mapped → SoundBytes (resized size bytes) (mapped_of_size size bytes mapped)
resized-sound size bytes mapped fits good = record {
  each = resized-bytes size bytes good.each;
  size = omega (arith, length-resized size bytes);
  indexes = λ index is. good.indexes index
      (still-in (nat_lt size (length bytes)) mapped (λ i. nat_lt (i * BLOCK_BYTES) size) index is);
  zeros = λ offset free.
      elim (cases_lt offset size) [
        | inl h ↦ below size offset bytes h
            ∙ good.zeros offset
            (not-before (nat_lt size (length bytes)) mapped (λ i. nat_lt (i * BLOCK_BYTES) size)
            (offset / BLOCK_BYTES) (begins-before offset size h) free)
        | inr h ↦ past size offset bytes h
      ];
}

sound-body : (size : Option ℕ) (body : Body) → IfSome size (λ n. n ≤ LARGEST_FILE) → SoundBody body
    → SoundBody (with_length size body)
sound-body None body fits good = good
sound-body (Some size) (Regular bytes mapped) fits good = resized-sound size bytes mapped fits good
sound-body (Some size) (Directory entries span parent) fits good = good
sound-body (Some size) (Link target) fits good = good

-- What the tests rule out.

or-none : (a b : Bool) → (a || b) ≡ false → (a ≡ false) × (b ≡ false)
or-none true b e = cc
or-none false b e = (refl, e)

record Allowed (wanted : NewAttributes) : Type 0 where
  atime_is : is_no_time wanted.atime ≡ false
  mtime_is : is_no_time wanted.mtime ≡ false
  size_is : given wanted.size (λ size. nat_lt LARGEST_FILE size) ≡ false

passed : (a b c d e : Bool) (s t u v w : Status)
    → first_of_tests ((a, s) ∷ (b, t) ∷ (c, u) ∷ (d, v) ∷ (e, w) ∷ []) ≡ None → (b ≡ false) × (e ≡ false)
passed true b c d e s t u v w none = cc
passed false true c d e s t u v w none = cc
passed false false true d e s t u v w none = cc
passed false false false true e s t u v w none = cc
passed false false false false true s t u v w none = cc
passed false false false false false s t u v w none = (refl, refl)

allowed : (ctx : Ctx) (wanted : NewAttributes) (guard : Option Moment) (node : Node)
    → refusal ctx wanted guard node ≡ None → Allowed wanted
allowed ctx wanted guard node e =
    let ok = passed (fails_guard guard node) (is_invalid wanted node)
    (is_not_permitted ctx.credential wanted node) (is_no_access ctx.credential wanted node)
    (given wanted.size (λ size. nat_lt LARGEST_FILE size)) status.NotSync status.Inval status.Perm
    status.Acces status.FBig e in
    let times = or-none (is_no_time wanted.atime || is_no_time wanted.mtime) (is_some wanted.size
    && not (is_regular node.body)) ok.0 in
    let both = or-none (is_no_time wanted.atime) (is_no_time wanted.mtime) times.0 in
    record { atime_is = both.0; mtime_is = both.1; size_is = ok.1 }

fitting : (size : Option ℕ) → given size (λ n. nat_lt LARGEST_FILE n) ≡ false
    → IfSome size (λ n. n ≤ LARGEST_FILE)
fitting None e = tt
fitting (Some size) e = not-above LARGEST_FILE size e

-- Times, users and groups stay in range.

sound-time : (moment : Moment) (time : SetTime) (old : Moment) → SoundTime moment → SoundTime old
    → SetTimeFits time → is_no_time time ≡ false → SoundTime (set_time moment time old)
sound-time moment Unchanged old now before fits real = before
sound-time moment Server old now before fits real = now
sound-time moment (Client time) old now before fits real = record {
  seconds = fits.seconds;
  nanoseconds = not-reached NANOSECONDS time.nanoseconds real;
}

fits-with_size : (size : Option ℕ) (time : SetTime) → SetTimeFits time → SetTimeFits (with_size size time)
fits-with_size None time fits = fits
fits-with_size (Some size) Unchanged fits = tt
fits-with_size (Some size) Server fits = tt
fits-with_size (Some size) (Client time) fits = fits

real-with_size : (size : Option ℕ) (time : SetTime) → is_no_time time ≡ false
    → is_no_time (with_size size time) ≡ false
real-with_size None time real = real
real-with_size (Some size) Unchanged real = refl
real-with_size (Some size) Server real = refl
real-with_size (Some size) (Client time) real = real

sound-mode : (mode : Option ℕ) (old : ℕ) → old ≤ MODE_BITS → mode_of mode old ≤ MODE_BITS
sound-mode None old h = h
sound-mode (Some mode) old h = and_le_r mode MODE_BITS

sound-owner : (owner : Option ℕ) (old : ℕ) → IfSome owner (λ n. n < 2 ^ 32) → old < 2 ^ 32
    → unwrap_or owner old < 2 ^ 32
sound-owner None old fits h = h
sound-owner (Some owner) old fits h = fits

sound-verifier : (size : Option ℕ) (body : Body) (verifier : Option Verifier) → SoundVerifier body verifier
    → SoundVerifier (with_length size body) verifier
sound-verifier None body verifier good = good
sound-verifier (Some size) (Regular bytes mapped) verifier good = good
sound-verifier (Some size) (Directory entries span parent) verifier good = good
sound-verifier (Some size) (Link target) verifier good = good

-- A sound file stays sound where no test refuses the attributes.
pub sound_node : (ctx : Ctx) (wanted : NewAttributes) (guard : Option Moment) (node : Node)
    → refusal ctx wanted guard node ≡ None → SoundTime ctx.moment
    → IfSome wanted.uid (λ n. n < 2 ^ 32) → IfSome wanted.gid (λ n. n < 2 ^ 32)
    → SetTimeFits wanted.atime → SetTimeFits wanted.mtime → SoundNode node
    → SoundNode (with_attributes ctx.moment wanted node)
sound_node ctx wanted guard node tested now uid gid atime mtime good =
    let ok = allowed ctx wanted guard node tested in
    record {
      mode = sound-mode wanted.mode node.mode good.mode;
      uid = sound-owner wanted.uid node.uid uid good.uid;
      gid = sound-owner wanted.gid node.gid gid good.gid;
      nlink = good.nlink;
      atime = sound-time ctx.moment wanted.atime node.atime now good.atime atime ok.atime_is;
      mtime = sound-time ctx.moment (with_size wanted.size wanted.mtime) node.mtime now good.mtime
          (fits-with_size wanted.size wanted.mtime mtime)
          (real-with_size wanted.size wanted.mtime ok.mtime_is);
      ctime = now;
      stamp = good.stamp;
      verifier = sound-verifier wanted.size node.body node.verifier good.verifier;
      body = sound-body wanted.size node.body (fitting wanted.size ok.size_is) good.body;
    }
