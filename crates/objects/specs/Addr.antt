-- When two objects share bytes.
use Rattle.std.specs.Prelude.{◌≡◌, ◌+◌, ◌<◌}
use Rattle.objects.specs.declared.addr.Addr.{Addr}

-- a byte lies in both
abbrev pub Overlap : Addr → Addr → Type 0
Overlap a b = (a.block ≡ b.block) × (a.offset < b.offset + b.len) × (b.offset < a.offset + a.len)
