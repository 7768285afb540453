-- A device at rest holds a fresh image.
use Rattle.std.proofs.Common.{◌≡◌, ◌∙◌, sym, subst, refl, ℕ, zero, suc, ◌+◌, ◌<◌, arith}
use Rattle.std.proofs.Common.{List, [], ◌∷◌, length}
use Rattle.std.specs.List.{Contains}
use Rattle.nfs_types.specs.Fits.{AreBytes}
use Rattle.base.specs.declared.TheConstants.{BLOCK_BYTES, FIRST_HOME_BLOCK, LOG_HEADER_BLOCK}
use Rattle.base.specs.declared.TheConstants.{START_BLOCK, SUPER_BLOCK}
use Rattle.disk.specs.Crash.{Image, IsAtRest, IsCrashImage}
use Rattle.disk.specs.Device.{Content}
use Rattle.layout.specs.declared.geometry.Geometry.{Geometry}
use Rattle.layout.specs.declared.version.FormatVersion.TheVariants as version
use Rattle.layout.specs.Fresh.{HasFreshHomes, IsFresh}
use Rattle.layout.specs.Geometry.{IsLawful, inode_bitmap_at, table_at}
use Rattle.layout.specs.Stands.{geometry_of}
use Rattle.store_law.specs.Lives.Still.{still}
use Rattle.nfs_spec.specs.Model.Format.{format_tree}
use Rattle.nfs_spec.specs.Model.Sound.{SoundTime}
use Rattle.nfs_types.specs.declared.ctx.Moment.{Moment}
use Rattle.store_promise.specs.GoodImage.{IsGoodImage}
use Rattle.store_promise.specs.Headline.{MayRun}
use Rattle.store_promise.specs.Schedule.{Schedule, SoundEvents}

rests : (size : ℕ) (image : Image) → IsAtRest (still size image)
rests size image = record { one = λ block inside. refl; certain = λ block. refl }

-- whatever a crash leaves of it has its blocks
one_left : (xs : List Content) (x y : Content) → xs ≡ x ∷ [] → Contains xs y → y ≡ x
one_left [] x y same has = let first = has.1 in absurd (omega (arith, first))
one_left (z ∷ []) x y same (zero, less, is) = let one : z ≡ x = cc in sym is ∙ one
one_left (z ∷ []) x y same (suc k, less, is) = absurd (omega (arith, less))
one_left (z ∷ w ∷ xs) x y same has = cc

has_its_blocks : (size : ℕ) (image left : Image) → IsCrashImage (still size image) 0 left → (block : ℕ)
    → block < size → left block ≡ image block
has_its_blocks size image left is block inside =
    one_left (image block ∷ []) (image block) (left block) refl (is block inside)

module _ (g : Geometry) (moment : Moment) (image left : Image) (lawful : IsLawful g.blocks g.inodes)
    (same : (block : ℕ) → block < g.blocks → left block ≡ image block) where
  homes_too : HasFreshHomes g moment image → HasFreshHomes g moment left
  homes_too homes =
      let has_space = lawful.1.3 in
      let least = lawful.0.0 in
      let some = lawful.1.0 in
      record {
        bytes = λ number from to. subst (λ c. (length c ≡ BLOCK_BYTES) × AreBytes c) (sym (same number to))
            (homes.bytes number from to);
        blocks = λ k less. same (FIRST_HOME_BLOCK + k) (omega (arith, has_space, less)) ∙ homes.blocks k less;
        inodes = λ k less. same (inode_bitmap_at g.blocks + k) (omega (arith, has_space, less)) ∙ homes.inodes k less;
        root = same (table_at g.blocks g.inodes) (omega (arith, has_space)) ∙ homes.root;
        free = λ k some less. same (table_at g.blocks g.inodes + k) (omega (arith, has_space, less))
            ∙ homes.free k some less;
      }

  fresh_too : IsFresh g moment image → IsFresh g moment left
  fresh_too is =
      let least = lawful.0.0 in record {
        super = same SUPER_BLOCK (omega (arith, least)) ∙ is.super;
        header = same LOG_HEADER_BLOCK (omega (arith, least)) ∙ is.header;
        start = same START_BLOCK (omega (arith, least)) ∙ is.start;
        homes = homes_too is.homes;
      }

-- where a fresh image is good, a device at rest with it may be run on
pub may_run : (g : Geometry) (moment : Moment) (image : Image) (events : Schedule) → IsLawful g.blocks g.inodes
    → IsFresh g moment image → SoundEvents events
    → ((left : Image) → IsFresh g moment left → IsGoodImage g.blocks left (format_tree (geometry_of g) moment) 0)
    → MayRun (Unit {0}) (still g.blocks image) (format_tree (geometry_of g) moment) 0 events
may_run g moment image events lawful is sound good = record {
  model = tt;
  rest = rests g.blocks image;
  good = λ left crash. good left (fresh_too g moment image left lawful (has_its_blocks g.blocks image left crash) is);
  sound = sound;
}

-- the least image there is
pub least_lawful : IsLawful 1024 32
least_lawful = ((omega arith, omega arith), (omega arith, omega arith, refl, omega arith))

abbrev pub least : Geometry
least = record { version = version.First; blocks = 1024; inodes = 32; lawful = least_lawful }

abbrev pub start : Moment
start = record { seconds = 0; nanoseconds = 0 }

pub at_first : SoundTime start
at_first = record { seconds = omega arith; nanoseconds = omega arith }

pub no_events : SoundEvents []
no_events index event is = cc
