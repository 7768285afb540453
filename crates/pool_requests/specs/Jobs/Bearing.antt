-- What a connection that is put in bears, and what is at a key.
use Rattle.std.specs.Prelude.{◌≡◌, ℕ, ◌+◌, ◌-◌, ◌^◌, Some, min}
use Rattle.slab.specs.Slab.{Slab, get}
use Rattle.pool_requests.specs.declared.jobs.connections.Bearer.{Bearer}

-- the key that is free next
abbrev pub key_next : {T : Type 0} → Slab T → ℕ
key_next slots = slots.vacant_key

-- the number behind so many, up to the last one of 64 bits
abbrev pub number_next : ℕ → ℕ
number_next accepted = min (accepted + 1) (2 ^ 64 - 1)

-- this peer is open under this key, and bears this number
abbrev pub IsOpenAt : {T : Type 0} → Slab (Bearer T) → ℕ → ℕ → T → Type 0
IsOpenAt slots key number peer = get slots key ≡ Some (record { number = number; peer = peer })
