-- What follows from what the program did.
use Rattle.std.proofs.Common.{◌≡◌, ◌∙◌, ℕ, ◌-◌, ◌⊎◌, ap, inl, inr, List, Option, Ok, Err, arith, refl, subst, subst₂}
use Rattle.std.proofs.Common.{Bool, Bor, None, Result, Some, false, sym, true}
use Rattle.std.specs.Prelude.{IfErr, IfOk, OnOk}
use Rattle.std.specs.Io.KnownBytes.{Appends}
use Rattle.clap.specs.Words.{Text}
use Rattle.disk_file.specs.declared.file.FirstContents.{FirstContents}
use Rattle.disk.specs.Device.{Device}
use Rattle.nfsd_words.specs.declared.Args.{Args}
use Rattle.nfsd_words.specs.declared.Args.TheVariants.{Check, Format, Once, Serve, Show, Sim}
use Rattle.nfsd_words.specs.Words.{HasMeaning, WordsAsk}
use Rattle.layout.specs.Geometry.{data_at}
use Rattle.store_images.specs.Formatting.{HasFormatted}
use Rattle.nfs_types.specs.declared.ctx.Moment.{Moment}
use Rattle.session.specs.Serving.{Client, HasServed, client_of}
use Rattle.session.specs.declared.stream.SessionFault.{SessionFault}
use Rattle.store_images.specs.Opening.{HasOpened, Opened}
use Rattle.pool.specs.declared.shutdown.Ended.{Ended}
use Rattle.server.specs.declared.threads.ServeFault.{ServeFault}
use Rattle.server.specs.declared.threads.ServeFault.TheVariants as server
use Rattle.nfsd.specs.declared.fault.Fault.{Fault}
use Rattle.nfsd.specs.declared.fault.Fault.TheVariants as fault
use Rattle.nfsd.specs.Done.{Answers, DoesCommand, FormatsDevice, FormatsImage, IsWithoutMemory, Obeys, Outcome}
use Rattle.nfsd.specs.Done.{ServesClients, ServesDevice, ServesImage, ServesImageOnce, TellsOutcome, FaultReports}
use Rattle.nfsd.specs.Done.{formatted_line, left_of_server, moment_at, outcome_of_server}
use Rattle.nfsd.specs.Faults.{status_of_outcome}
use Rattle.nfsd.specs.Left.{Left, nothing_left}
use Rattle.nfsd.specs.Lines.{IsAnnouncedBy}
use Rattle.nfsd.specs.ImageScans.{ChecksImage, ShowsImage}
use Rattle.nfsd.specs.Scripts.{RunsScript}

-- the command that was asked for was done, so the arguments were obeyed
pub obeys_command : (first : FirstContents) (words : List Text) (args : Args) (client : Client)
    (outcome : Outcome) (device : Left) (later : Client) → WordsAsk words args
    → DoesCommand first args client outcome device later → Obeys first words client outcome device later
obeys_command first words (Format image blocks inodes time) client (Err fault.NotText) device later asks does =
    absurd does.1.4
obeys_command first words (Once image time) client (Err fault.NotText) device later asks does = absurd does.3
obeys_command first words (Format image blocks inodes time) client (Err fault.Memory) device later asks does =
    absurd does.1.4
obeys_command first words (Once image time) client (Err fault.Memory) device later asks does = absurd does.3
obeys_command first words (Format image blocks inodes time) client (Err (fault.Words e)) device later asks
    does = absurd does.1.4
obeys_command first words (Once image time) client (Err (fault.Words e)) device later asks does =
    absurd does.3
obeys_command first words (Serve image listen workers connections) client (Err fault.NotText) device later asks
    does = absurd does.1.1
obeys_command first words (Serve image listen workers connections) client (Err fault.Memory) device later asks
    does = absurd does.1.1
obeys_command first words (Serve image listen workers connections) client (Err (fault.Words e)) device later asks
    does = absurd does.1.1
obeys_command first words (Check image) client (Err fault.NotText) device later asks does = absurd does.1.5
obeys_command first words (Check image) client (Err fault.Memory) device later asks does = absurd does.1.5
obeys_command first words (Check image) client (Err (fault.Words e)) device later asks does = absurd does.1.5
obeys_command first words (Show image) client (Err fault.NotText) device later asks does = absurd does.1.5
obeys_command first words (Show image) client (Err fault.Memory) device later asks does = absurd does.1.5
obeys_command first words (Show image) client (Err (fault.Words e)) device later asks does = absurd does.1.5
obeys_command first words (Sim script true) client (Err fault.NotText) device later asks does = absurd does.2.1
obeys_command first words (Sim script true) client (Err fault.Memory) device later asks does = absurd does.2.1
obeys_command first words (Sim script true) client (Err (fault.Words e)) device later asks does = absurd does.2.1
obeys_command first words (Sim script false) client (Err fault.NotText) device later asks does = absurd does.2.1
obeys_command first words (Sim script false) client (Err fault.Memory) device later asks does = absurd does.2.1
obeys_command first words (Sim script false) client (Err (fault.Words e)) device later asks does = absurd does.2.1
obeys_command first words args client outcome device later asks does = (args, asks, does)

same_client : (client later : Client) → later.unread ≡ client.unread → later.written ≡ client.written → later ≡ client
same_client client later unread written = λ i. record { unread = unread i; written = written i }

-- a device was made an image, and the line of its counts was printed or wasn't
pub prints : (old new : Device) (inodes time count : ℕ) (written written' : Option (List ℕ)) (outcome : Outcome)
    → HasFormatted old inodes (moment_at time) (Ok count) new
    → OnOk outcome (Appends written written' (formatted_line new.size inodes))
    → IfErr outcome (λ why. why ≡ fault.Print)
    → FormatsDevice old inodes time written outcome new written'
prints old new inodes time count written written' outcome formatted printed print = go outcome printed print
  where
    whole : HasFormatted old inodes (moment_at time) (Ok (old.size - data_at old.size inodes)) new
    whole = subst (λ (n : ℕ). HasFormatted old inodes (moment_at time) (Ok n) new) formatted.3 formatted

    go : (outcome : Outcome) → OnOk outcome (Appends written written' (formatted_line new.size inodes))
        → IfErr outcome (λ why. why ≡ fault.Print) → FormatsDevice old inodes time written outcome new written'
    go (Ok done) line print =
        (whole, subst (λ (n : ℕ). Appends written written' (formatted_line n inodes)) formatted.4 line)
    go (Err why) line print =
        subst (λ (f : Fault). FormatsDevice old inodes time written (Err f) new written') (sym print) whole

-- what comes of a device by what came of serving
abbrev pub outcome_of : Result ℕ SessionFault → Outcome
outcome_of (Ok count) = Ok tt
outcome_of (Err why) = Err (fault.Session why)

-- a store was opened, and what came of serving the client from it is what comes of the device
pub serves : (old new : Device) (time : ℕ) (client later : Client) (opened store : Opened) (moment : Moment)
    (result : Result ℕ SessionFault) (outcome : Outcome)
    → HasOpened old (Ok opened) → moment ≡ moment_at time → HasServed opened client moment result store later
    → store.device ≡ new → outcome ≡ outcome_of result → ServesDevice old time client outcome new later
serves old new time client later opened store moment result outcome opens at served left is =
    subst (λ (o : Outcome). ServesDevice old time client o new later) (sym is)
    (go result (subst (λ m. HasServed opened client m result store later) at served))
  where
    go : (result : Result ℕ SessionFault) → HasServed opened client (moment_at time) result store later
        → ServesDevice old time client (outcome_of result) new later
    go (Ok count) served = (opened, store, count, opens, served, left)
    go (Err why) served = (opened, store, opens, served, left)

-- a device was opened, and what comes of it is what came of its server, which printed where it listens as that tells
pub listens : (old : Device) (written written' : Option (List ℕ)) (opened : Opened) (address : List ℕ)
    (ended : Result Ended ServeFault) (outcome : Outcome) (left : Left)
    → HasOpened old (Ok opened) → IsAnnouncedBy written address ended written'
    → IfOk ended (λ core. core.core.boot ≡ opened.core.boot)
    → outcome ≡ outcome_of_server ended → left ≡ left_of_server ended → ServesClients old written outcome left written'
listens old written written' opened address ended outcome left opens printed boot is left_is =
    subst₂ (λ (o : Outcome) (l : Left). ServesClients old written o l written') (sym is) (sym left_is)
    (go ended printed boot)
  where
    go : (ended : Result Ended ServeFault) → IsAnnouncedBy written address ended written'
        → IfOk ended (λ core. core.core.boot ≡ opened.core.boot)
        → ServesClients old written (outcome_of_server ended) (left_of_server ended) written'
    go (Ok core) line boot = (
      opened,
      opens,
      address,
      line,
      core.core,
      refl,
      record { boot_is = boot; settled = core.settled; sound = core.sound },
    )
    go (Err server.Memory) same boot = (opened, opens, same)
    go (Err server.Output) whatever boot = (opened, opens)
    go (Err server.Device) line boot = (opened, opens, address, line)

-- an image's file was formatted, so the command was done
pub formats_command : (first : FirstContents) (image : Bor Text) (blocks : Option ℕ) (inodes time : ℕ) (client : Client)
    (outcome : Outcome) (device : Left) (later : Client) → later.unread ≡ client.unread
    → FormatsImage first image.now blocks inodes time client.written outcome device later.written
    → DoesCommand first (Format image blocks inodes time) client outcome device later
formats_command first image blocks inodes time client (Err (fault.File io_report)) device later unread formats =
    (same_client client later unread formats.0, formats.1, inl formats.2)
formats_command first image blocks inodes time client outcome device later unread formats = (unread, formats)

-- an image's file was served from, so the command was done
pub serves_command : (first : FirstContents) (image : Bor Text) (time : ℕ) (client : Client) (outcome : Outcome)
    (device : Left) (later : Client) → ServesImageOnce first image.now time client outcome device later
    → DoesCommand first (Once image time) client outcome device later
serves_command first image time client (Err (fault.File io_report)) device later serves =
    (serves.0, serves.1, inl serves.2)
serves_command first image time client outcome device later serves = serves

pub listens_command : (first : FirstContents) (image listen : Bor Text) (workers connections : ℕ) (client : Client)
    (outcome : Outcome) (device : Left) (later : Client) → later.unread ≡ client.unread
    → ServesImage first image.now listen.now client.written outcome device later.written
    → DoesCommand first (Serve image listen workers connections) client outcome device later
listens_command first image listen workers connections client (Err (fault.File io_report)) device later unread serves =
    (same_client client later unread serves.0, serves.1, inl serves.2)
listens_command first image listen workers connections client outcome device later unread serves = (unread, serves)

-- an image's file was looked at, so the command was done
pub checks_command : (first : FirstContents) (image : Bor Text) (client : Client) (outcome : Outcome) (device : Left)
    (later : Client) → later.unread ≡ client.unread
    → ChecksImage first image.now client.written outcome device later.written
    → DoesCommand first (Check image) client outcome device later
checks_command first image client (Err (fault.File io_report)) device later unread checks =
    (same_client client later unread checks.0, checks.1, inl checks.2)
checks_command first image client outcome device later unread checks = (unread, checks)

pub shows_command : (first : FirstContents) (image : Bor Text) (client : Client) (outcome : Outcome) (device : Left)
    (later : Client) → later.unread ≡ client.unread
    → ShowsImage first image.now client.written outcome device later.written
    → DoesCommand first (Show image) client outcome device later
shows_command first image client (Err (fault.File io_report)) device later unread shows =
    (same_client client later unread shows.0, shows.1, inl shows.2)
shows_command first image client outcome device later unread shows = (unread, shows)

-- a script was run, so the command was done
pub runs_command : (first : FirstContents) (script : Bor Text) (stops : Bool) (client : Client) (outcome : Outcome) (device : Left)
    (later : Client) → device ≡ nothing_left → later.unread ≡ client.unread
    → RunsScript stops script.now client.written outcome later.written
    → DoesCommand first (Sim script stops) client outcome device later
runs_command first script stops client (Err (fault.File io_report)) device later none unread runs =
    (same_client client later unread runs.0, none, inl runs.1)
runs_command first script stops client outcome device later none unread runs = (none, unread, runs)

-- with status 2 the arguments have no meaning
obeys_two : (first : FirstContents) (words : List Text) (client : Client) (outcome : Outcome)
    (device : Left) (later : Client) → Obeys first words client outcome device later
    → status_of_outcome outcome ≡ 2 → ¬ HasMeaning words
obeys_two first words client (Err fault.NotText) device later obeys status = absurd obeys
obeys_two first words client (Err (fault.Words e)) device later obeys status = obeys.0
obeys_two first words client outcome device later obeys status = absurd (omega arith)

-- arguments without a meaning end with status 2, or there was no memory to read them
obeys_none : (first : FirstContents) (words : List Text) (client : Client) (outcome : Outcome)
    (device : Left) (later : Client) → Obeys first words client outcome device later
    → ¬ HasMeaning words → (status_of_outcome outcome ≡ 2) ⊎ (outcome ≡ Err fault.Memory)
obeys_none first words client (Err fault.NotText) device later obeys none = absurd obeys
obeys_none first words client (Err fault.Memory) device later obeys none = inr refl
obeys_none first words client (Err (fault.Words e)) device later obeys none = inl refl
obeys_none first words client outcome device later obeys none = absurd (none (obeys.0, obeys.1))

module _ {first : FirstContents} {words : List Text} {client : Client} {reports : FaultReports}
    {written : Option (List ℕ)} {status : ℕ} {device : Left} {later : Client} {reports' : FaultReports}
    {written' : Option (List ℕ)} where
  pub refused : Answers first words client reports written status device later reports' written' → status ≡ 2
      → ¬ HasMeaning words
  refused answers two =
      obeys_two first words client answers.outcome device later answers.obeys (sym answers.ends ∙ two)

  pub refuses : Answers first words client reports written status device later reports' written' → ¬ HasMeaning words
      → (status ≡ 2) ⊎ IsWithoutMemory reports written status reports' written'
  refuses answers none = elim (obeys_none first words client answers.outcome device later answers.obeys none) [
    | inl two ↦ inl (answers.ends ∙ two)
    | inr memory ↦ inr (record {
      ends = answers.ends ∙ ap status_of_outcome memory;
      tells = subst (λ (o : Outcome). TellsOutcome reports written o reports' written') memory answers.tells;
    })
  ]
