-- What a step of the core leaves: what each transaction has taken, which fetches are pending, and what is in
-- memory. It tells no order of lists. A block that nobody needs may stay in memory, or go.
use Rattle.std.specs.Prelude.{◌≡◌, ℕ, Bool, true, not, ◌&&◌, ◌||◌, if◌then◌else◌, Option, Some, None}
use Rattle.std.specs.Prelude.{nat_eq}
use Rattle.disk.specs.Device.{Content}
use Rattle.disk.specs.declared.block.BlockNo.{BlockNo}
use Rattle.objects.specs.declared.addr.Addr.{Addr}
use Rattle.txn_law.specs.Core.{CoreState}
use Rattle.txn_law.specs.Holds.{hold_of, is_hold_of, is_taken, joined}
use Rattle.objects.specs.Present.{present_of, content_in, is_pending}
use Rattle.txn_law.specs.Records.{is_read_by_uninstalled}
use Rattle.txn_law.specs.declared.hold.Hold.{Hold}

-- what a transaction has taken of an address
abbrev pub taken_by : CoreState → ℕ → Addr → Option Hold
taken_by core tx addr = hold_of core.holds tx addr

-- whether a fetch of the block is pending
abbrev pub is_fetching : CoreState → BlockNo → Bool
is_fetching core block = is_pending (present_of core.present block)

-- the block's content in memory, besides the log's
abbrev pub in_memory : CoreState → BlockNo → Option Content
in_memory core block = content_in (present_of core.present block)

-- somebody has taken a part of the block, or a commit that isn't installed read one
abbrev pub IsNeeded : CoreState → BlockNo → Type 0
IsNeeded core block = (is_taken core.holds block || is_read_by_uninstalled core.records block) ≡ true

-- Just this is taken, and just these fetches are pending. In memory is no more than this, and what is needed of
-- it.
pub record Leaves (core : CoreState) (taken : ℕ → Addr → Option Hold) (fetching : BlockNo → Bool)
    (there : BlockNo → Option Content) : Type 0 where
  pub holds : (tx : ℕ) (addr : Addr) → taken_by core tx addr ≡ taken tx addr
  pub fetches : (block : BlockNo) → is_fetching core block ≡ fetching block
  pub comes : (block : BlockNo) (content : Content) → in_memory core block ≡ Some content
      → there block ≡ Some content
  pub stays : (block : BlockNo) (content : Content) → there block ≡ Some content → IsNeeded core block
      → in_memory core block ≡ Some content

-- what is taken once a hold is added, or joined with the one that there was
abbrev pub with_taken : Hold → (ℕ → Addr → Option Hold) → ℕ → Addr → Option Hold
with_taken hold taken tx addr = if is_hold_of tx addr hold then Some (joined (taken tx addr) hold)
    else taken tx addr

-- what is taken by the others
abbrev pub but_by : ℕ → (ℕ → Addr → Option Hold) → ℕ → Addr → Option Hold
but_by tx taken other addr = if nat_eq other tx then None else taken other addr

-- the fetches that are pending with one of this block, and without
abbrev pub with_fetch : BlockNo → (BlockNo → Bool) → BlockNo → Bool
with_fetch block fetching other = nat_eq other.0 block.0 || fetching other

abbrev pub without_fetch : BlockNo → (BlockNo → Bool) → BlockNo → Bool
without_fetch block fetching other = not (nat_eq other.0 block.0) && fetching other

-- what is in memory once this block is there with this content
abbrev pub with_content : BlockNo → Content → (BlockNo → Option Content) → BlockNo → Option Content
with_content block content there other = if nat_eq other.0 block.0 then Some content else there other

-- A fetch was given back with this content: it is pending no more, and where it was, the content is in memory.
abbrev pub HasFetched : CoreState → BlockNo → Content → CoreState → Type 0
HasFetched old block content new = Leaves new (taken_by old) (without_fetch block (is_fetching old))
    (if is_fetching old block then with_content block content (in_memory old) else in_memory old)
