-- The blocks that are in memory besides the log's.
use Rattle.std.specs.Prelude.{◌≡◌, ℕ, Bool, false, not, ◌||◌, Option, Some, None, List, [], ◌∷◌, ◌++◌}
use Rattle.std.specs.Prelude.{if◌then◌else◌, is_none, is_some, map, nat_eq, option_map}
use Rattle.std.specs.List.{find, filter}
use Rattle.disk.specs.Device.{Content}
use Rattle.objects.specs.Spliced.{extracted}
use Rattle.disk.specs.declared.block.BlockNo.{BlockNo}
use Rattle.objects.specs.declared.present.Present.{Present}

-- the block's resident
abbrev pub present_of : List Present → BlockNo → Option Present
present_of present block = find (λ resident. nat_eq resident.block.0 block.0) present

-- its content, if it is there and its fetch isn't pending
abbrev pub content_in : Option Present → Option Content
content_in None = None
content_in (Some resident) = resident.content

-- so many of its bytes from an offset on, if it is there
abbrev pub bytes_in : Option Content → ℕ → ℕ → Option (List ℕ)
bytes_in content offset len = option_map (λ bytes. extracted bytes offset len) content

-- whether its fetch is pending
abbrev pub is_pending : Option Present → Bool
is_pending None = false
is_pending (Some resident) = is_none resident.content

-- a block has one resident
abbrev pub IsOnce : List Present → Type 0
IsOnce [] = Unit {0}
IsOnce (resident ∷ later) = (present_of later resident.block ≡ None) × IsOnce later

-- the blocks in memory once a block is there too
abbrev pub with_block : List Present → BlockNo → Option Content → List Present
with_block present block content = if is_some (present_of present block) then present else present
    ++ record { block = block; content = content } ∷ []

-- what is there, or else this content
abbrev pub filled_in : Option Content → Content → Option Content
filled_in (Some there) content = Some there
filled_in None content = Some content

-- the blocks in memory once the content of one that was pending is there
abbrev pub filled : List Present → BlockNo → Content → List Present
filled [] block content = []
filled (resident ∷ later) block content =
    if nat_eq resident.block.0 block.0
    then record { block = resident.block; content = filled_in resident.content content } ∷ later
    else resident ∷ filled later block content

-- the blocks in memory without this one, where it was pending
abbrev pub without_pending : List Present → BlockNo → List Present
without_pending present block =
    filter (λ (resident : Present). not (nat_eq resident.block.0 block.0) || is_some resident.content) present

-- the blocks in memory without this one, where it wasn't pending
abbrev pub without_clean : List Present → BlockNo → List Present
without_clean present block =
    filter (λ (resident : Present). not (nat_eq resident.block.0 block.0) || is_none resident.content) present

-- the blocks in memory without this one
abbrev pub without_block : List Present → BlockNo → List Present
without_block present block = filter (λ (resident : Present). not (nat_eq resident.block.0 block.0)) present

-- a content that is there, made another
abbrev pub renewed_content : Option Content → Content → Option Content
renewed_content None content = None
renewed_content (Some there) content = Some content

abbrev pub renewed_resident : BlockNo → Content → Present → Present
renewed_resident block content resident = record {
  block = resident.block;
  content = if nat_eq resident.block.0 block.0 then renewed_content resident.content content else resident.content;
}

-- the blocks in memory once the content of one is another, where it is there
abbrev pub renewed : List Present → BlockNo → Content → List Present
renewed present block content = map (renewed_resident block content) present
