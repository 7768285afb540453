-- What was done to the device of an image's file was done to the image.
use Rattle.std.proofs.Common.{ℕ, List, Option, Result, Some, Err, refl}
use Rattle.clap.specs.Words.{Text}
use Rattle.disk_file.specs.declared.file.FirstContents.{FirstContents}
use Rattle.disk.specs.Device.{Device}
use Rattle.nfsd.specs.declared.fault.Fault.{Fault}
use Rattle.nfsd.specs.declared.fault.Fault.TheVariants as fault
use Rattle.session.specs.Serving.{Client}
use Rattle.nfsd.specs.Done.{AreAsked, FormatsDevice, FormatsImage, Outcome, ServesClients, ServesDevice, ServesImage}
use Rattle.nfsd.specs.Done.{ServesImageOnce, device_of}
use Rattle.nfsd.specs.Left.{Left, with_device}
use Rattle.nfsd.specs.ImageScans.{ChecksDevice, ChecksImage, IsDoneTo, ShowsDevice, ShowsImage}

module _ (first : FirstContents) (image : Text) (written later : Option (List ℕ)) where
  pub checked : (outcome : Result (Unit {0}) Fault) (device : Left)
      → IsDoneTo first (λ keeps_model old new. ChecksDevice keeps_model old written outcome new later) device
      → ChecksImage first image written outcome device later
  checked (Err (fault.File io_report)) device done = absurd done.5
  checked outcome device done = done

  pub shown : (outcome : Result (Unit {0}) Fault) (device : Left)
      → IsDoneTo first (λ keeps_model old new. ShowsDevice keeps_model old written outcome new later) device
      → ShowsImage first image written outcome device later
  shown (Err (fault.File io_report)) device done = absurd done.5
  shown outcome device done = done

  pub formatted : (blocks : Option ℕ) (inodes time size : ℕ) (new : Device) (outcome : Outcome) → AreAsked blocks size
      → FormatsDevice (device_of first size) inodes time written outcome new later
      → FormatsImage first image blocks inodes time written outcome (with_device new) later
  formatted blocks inodes time size new (Err (fault.File io_report)) asked formats = absurd formats
  formatted blocks inodes time size new outcome asked formats = (size, new, asked, refl, formats)

  pub served : (listen : Text) (size : ℕ) (outcome : Outcome) (device : Left)
      → ServesClients (device_of first size) written outcome device later
      → ServesImage first image listen written outcome device later
  served listen size (Err (fault.File io_report)) device serves = absurd serves
  served listen size (Err (fault.Address io_report)) device serves = absurd serves
  served listen size outcome device serves = (size, serves)

pub served_once : (first : FirstContents) (image : Text) (time size : ℕ) (client later : Client) (new : Device)
    (outcome : Outcome) → ServesDevice (device_of first size) time client outcome new later
    → ServesImageOnce first image time client outcome (with_device new) later
served_once first image time size client later new (Err (fault.File io_report)) serves = absurd serves
served_once first image time size client later new outcome serves = (size, new, refl, serves)
