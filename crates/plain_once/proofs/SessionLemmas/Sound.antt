-- The files of a session are sound.
use Rattle.std.proofs.Common.{◌≡◌, ℕ, ◌+◌, ◌-◌, ◌<◌, ◌^◌, Bool, true, false, List, Some, min, subst, sym, ap, refl}
use Rattle.std.proofs.Common.{arith}
use Rattle.std.proofs.Math.Nat.{min-le_right}
use Rattle.nfs_types.specs.declared.call.Call.{Call}
use Rattle.nfs_types.specs.declared.ctx.Credential.{Credential}
use Rattle.nfs_types.specs.declared.program.ProgramCall.{ProgramCall}
use Rattle.nfs_types.specs.declared.program.ProgramCall.TheVariants as programs
use Rattle.nfs_types.specs.declared.program.ProgramReply.{ProgramReply}
use Rattle.nfs_types.specs.declared.program.ProgramReply.TheVariants as replied
use Rattle.nfs_types.specs.declared.reply.Reply.{Reply}
use Rattle.nfs_spec.proofs.ModelLemmas.Formatted as formatted
use Rattle.nfs_spec.proofs.ProceduresLemmas.SoundSteps.{step_sound}
use Rattle.session_wire.specs.Judging.{judged}
use Rattle.session_wire.specs.declared.message.Judged.{Judged}
use Rattle.session_wire.specs.declared.message.Judged.TheVariants as verdict
use Rattle.plain_steps.specs.Computed.{is_null}
use Rattle.plain_once.specs.Session.Answering.{Files, IsCallAnswered, IsNfsReply, IsReply, IsStep, IsUndone, Done}
use Rattle.plain_once.specs.Session.Answering.{IsVerdictAnswered, SoundFiles, Undone, Unread, at_second, context, next_files}
use Rattle.plain_once.specs.Session.Counts.{HasData}
use Rattle.plain_once.specs.declared.session.answers.FakeClock.{FakeClock}
use Rattle.plain_once.specs.Session.Serving.{AreAnswered, More, None, fresh_files}

-- where they stay the same, and where a call only took its number
stays : (before after : Files) → after ≡ before → SoundFiles before → SoundFiles after
stays before after same sound = subst SoundFiles (sym same) sound

-- a pace rises no further than seconds can be told
rises : (before : Files) → min (before.fake_clock.second + before.fake_clock.rise) (2 ^ 32 - 1) < 2 ^ 32
rises before = let most = min-le_right (before.fake_clock.second + before.fake_clock.rise) (2 ^ 32 - 1) in omega (arith, most)

counted : (before after : Files) → after ≡ next_files before before.tree → SoundFiles before → SoundFiles after
counted before after same sound =
    subst SoundFiles (sym same) (record { tree = sound.tree; second = rises before })

-- behind a step
stepped : (before after : Files) (caller : Credential) (call : Call) (response : Reply)
    → IsStep before caller call response after → SoundFiles before → SoundFiles after
stepped before after caller call response is sound =
    let tree = step_sound before.tree after.tree (context before caller) call response sound.tree
    (record {
      uid = is.uid;
      gid = is.gid;
      moment = record { seconds = sound.second; nanoseconds = omega arith };
      stamp = record {
        boot = omega arith;
        transaction = omega (arith, min-le_right (before.transactions + 1) (2 ^ 64 - 1));
      };
    }) is.fits (is.leads sound) in
    record {
      tree = tree;
      second =
          subst (λ (n : ℕ). n < 2 ^ 32) (sym (ap (λ (files : Files). files.fake_clock.second) is.counted)) (rises before);
    }

nfs_replied : (before after : Files) (caller : Credential) (call : Call) (response : Reply) (b : Bool)
    → is_null call ≡ b → IsNfsReply before caller call response after → SoundFiles before → SoundFiles after
nfs_replied before after caller call response true null is sound = stays before after (is.null null).1 sound
nfs_replied before after caller call response false other is sound =
    stepped before after caller call response (is.other other) sound

replied_to : (before after : Files) (caller : Credential) (call : ProgramCall) (response : ProgramReply)
    → IsReply before caller call response after → SoundFiles before → SoundFiles after
replied_to before after caller (programs.Nfs call) (replied.Nfs response) is sound =
    nfs_replied before after caller call response (is_null call) refl is sound
replied_to before after caller (programs.Nfs call) (replied.Mount response) is sound = absurd is
replied_to before after caller (programs.Mount call) response is sound = stays before after is.1 sound

undone : (before after : Files) (call : ProgramCall) → IsUndone before call after → SoundFiles before
    → SoundFiles after
undone before after (programs.Nfs call) is sound = counted before after is.1 sound
undone before after (programs.Mount call) is sound = stays before after is sound

called : (before after : Files) (xid : ℕ) (caller : Credential) (call : ProgramCall) (bytes : List ℕ)
    → IsCallAnswered before xid caller call bytes after → SoundFiles before → SoundFiles after
called before after xid caller call bytes (Done response is spelled) sound =
    replied_to before after caller call response is sound
called before after xid caller call bytes (Undone is spelled) sound = undone before after call is sound
called before after xid caller call bytes (Unread is spelled) sound = stays before after is sound

judged_so : (before after : Files) (j : Judged) (bytes : List ℕ) → IsVerdictAnswered before j bytes after
    → SoundFiles before → SoundFiles after
judged_so before after verdict.Closed bytes is sound = absurd is
judged_so before after (verdict.Refused xid why) bytes is sound = stays before after is.1 sound
judged_so before after (verdict.Call xid caller call) bytes is sound =
    called before after xid caller call bytes is sound

-- behind any records that are answered
pub is_preserved : (before : Files) (bytes first written left : List ℕ) (after : Files)
    → AreAnswered before bytes first written left after → SoundFiles before → SoundFiles after
is_preserved before bytes first written left after None sound = sound
is_preserved before bytes first written left after (More {middle = middle} so_far begins) sound =
    judged_so middle after (judged begins.message) _ begins.answered
    (is_preserved before bytes first _ _ middle so_far sound)

-- at first
pub fresh : (blocks inodes data_blocks made : ℕ) (fake_clock : FakeClock) → HasData blocks inodes (Some data_blocks)
    → made < 2 ^ 32 → fake_clock.second < 2 ^ 32 → SoundFiles (fresh_files data_blocks inodes made fake_clock)
fresh blocks inodes data_blocks made fake_clock has made_small time_small =
    let lawful = has.0 in
    let blocks_are = has.1 in
    let has_space = lawful.has_space in
    let most = lawful.most_blocks in
    record {
      tree = formatted.sound (record { data_blocks = data_blocks; inodes = inodes }) (at_second made)
          (record {
            blocks = omega arith;
            most_blocks = omega arith;
            inodes = lawful.least_inodes;
            most_inodes = lawful.most_inodes;
            whole_blocks = lawful.whole;
          })
          (record { seconds = made_small; nanoseconds = omega arith });
      second = time_small;
    }
