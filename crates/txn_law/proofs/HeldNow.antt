-- Lemmas: what is held is current.
use Rattle.std.proofs.Common.{◌≡◌, ℕ, List, sym, ap, ◌∙◌}
use Rattle.std.proofs.lemmas.List.Elements.{All-contains}
use Rattle.disk.specs.Device.{Content}
use Rattle.disk.specs.Crash.{Image}
use Rattle.objects.specs.declared.addr.Addr.{Addr}
use Rattle.objects.specs.declared.mode.Mode.{Mode}
use Rattle.txn_law.specs.Commit.{IsReadBy}
use Rattle.txn_law.specs.Core.{CoreState}
use Rattle.txn_law.specs.CoreWindow.{held_of, IsHomeOf}
use Rattle.objects.specs.Object.{ObjectBytes}
use Rattle.txn_law.specs.Window.{IsAsRead, IsCurrent, now_of, object_at, part}
use Rattle.txn_law.specs.LockAnswers.{IsHeld}
use Rattle.txn_law.proofs.CoreCommits.{found_in}
use Rattle.txn_law.proofs.LockAnswers.{current_is_now}

pub held_is_current : (base : Image) (old new : CoreState) (tx : ℕ) (addr : Addr) (mode : Mode) (bytes : List ℕ)
    → IsHomeOf base old → IsHeld old tx addr mode bytes new
    → bytes ≡ object_at (now_of base old.log old.records) addr
held_is_current base old new tx addr mode bytes home held =
    held.bytes_there
    ∙ ap (λ (c : Content). part c addr) (current_is_now base old addr.block held.content home.window
    held.current)

pub read_now : (base : Image) (core : CoreState) (tx : ℕ) (object : ObjectBytes) → IsHomeOf base core
    → IsReadBy core tx object → IsAsRead (now_of base core.log core.records) object
read_now base core tx object home h =
    ap (λ (c : Content). part c object.addr) (sym now) ∙ h.current.same
  where
    now : h.current.content ≡ now_of base core.log core.records object.addr.block.0
    now = All-contains (IsCurrent (now_of base core.log core.records)) (held_of core.present)
        (object.addr.block.0, h.current.content) home.window.memory
        (found_in core.present object.addr.block h.current.content h.current.there)
