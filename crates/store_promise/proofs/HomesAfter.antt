-- Blocks that have at home what the first commits lead to have the homes of those.
use Rattle.std.proofs.Common.{◌≡◌, ℕ, ◌-◌, ap, sym, ◌∙◌, subst, refl, arith}
use Rattle.std.proofs.Common.{Bool, true, false, cond, List, None, length, take, drop, replicate, All}
use Rattle.base.specs.declared.TheConstants.{BLOCK_BYTES}
use Rattle.disk.specs.Crash.{Image}
use Rattle.layout.specs.Homes.{homes_of, is_home}
use Rattle.circ.specs.declared.log.change.LogChange.{LogChange}
use Rattle.circ.specs.Log.Law.{IsOutside}
use Rattle.circ.specs.Log.Log.{IsLawful, installed_place, newest_of}
use Rattle.txn_law.specs.Core.{CoreState}
use Rattle.txn_law.specs.CoreWindow.{IsHomeOf}
use Rattle.txn_law.specs.Window.{AreInLog, after_commits, at_first, opening}
use Rattle.store_promise.proofs.Stopped.{after_same, commits_aside, no_change, not_home, outside_of, take_len}

module _ (base : Image) (core : CoreState) (lawful : IsLawful core.log) (home : IsHomeOf base core) where
  abbrev pub size : ℕ
  size = core.log.blocks

  abbrev pub from : Image
  from = opening base core.log

  writes : All (AreInLog core.log.changes) core.records
  writes =
      let none : installed_place core.log - installed_place core.log ≡ 0 = omega arith in
      subst (λ n. All (AreInLog core.log.changes) (drop n core.records)) none
      (home.window.written 0 (at_first refl))

  no_newest : (number : ℕ) → is_home size number ≡ false → newest_of core.log.changes number ≡ None
  no_newest number is =
      subst (λ (changes : List LogChange). newest_of changes number ≡ None) (take_len core.log.changes)
      (no_change size number (not_home size number is) core.log.changes (length core.log.changes) lawful.homes)

  module _ (k : ℕ) (image : Image) (there : (block : ℕ) → IsOutside size block
      → image block ≡ after_commits from (take k core.records) block) where
    at_home : (number : ℕ) (home : Bool) → is_home size number ≡ home
        → cond home (image number) (replicate BLOCK_BYTES 0)
        ≡ after_commits (homes_of size from) (take k core.records) number
    at_home number true is =
        there number (outside_of size number is)
        ∙ after_same (take k core.records) from (homes_of size from) number
        (sym (ap (λ b. cond b (from number) (replicate BLOCK_BYTES 0)) is))
    at_home number false is =
        sym (ap (λ b. cond b (from number) (replicate BLOCK_BYTES 0)) is)
        ∙ sym (commits_aside core.log.changes number (no_newest number is) core.records k (homes_of size from)
        writes)

    pub homes_after : homes_of size image ≡ after_commits (homes_of size from) (take k core.records)
    homes_after = λ i number. at_home number (is_home size number) refl i
