-- Lemmas on the blocks in memory once each is what the log has.
use Rattle.std.proofs.Common.{◌≡◌, Bool, true, false, cond, nat_eq, List, [], ◌∷◌, Some, refl, ap, option_map, ◌∙◌}
use Rattle.disk.specs.declared.block.BlockNo.{BlockNo}
use Rattle.objects.specs.Present.{present_of, IsOnce}
use Rattle.objects.specs.declared.present.Present.{Present}
use Rattle.circ.specs.Log.Log.{Log}
use Rattle.txn_law.specs.Commit.{refreshed_resident, refreshed}

-- what is made of the entries of a block
pub present_of-refreshed : (log : Log) (xs : List Present) (block : BlockNo)
    → present_of (refreshed log xs) block ≡ option_map (refreshed_resident log) (present_of xs block)
present_of-refreshed log [] block = refl
present_of-refreshed log (x ∷ xs) block = go (present_of-refreshed log xs block) (nat_eq x.block.0 block.0)
  where
    go : present_of (refreshed log xs) block ≡ option_map (refreshed_resident log) (present_of xs block)
        → (t : Bool) → cond t (Some (refreshed_resident log x)) (present_of (refreshed log xs) block)
        ≡ option_map (refreshed_resident log) (cond t (Some x) (present_of xs block))
    go rest true = refl
    go rest false = rest

pub once_refreshed : (log : Log) (xs : List Present) → IsOnce xs → IsOnce (refreshed log xs)
once_refreshed log [] h = tt
once_refreshed log (x ∷ xs) h = (
  present_of-refreshed log xs x.block ∙ ap (option_map (refreshed_resident log)) h.0,
  once_refreshed log xs h.1,
)
