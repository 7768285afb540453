-- What a step or a making was, by what came of it.
use Rattle.std.proofs.Common.{◌≡◌, ◌⊎◌, ap, inl, inr, refl, subst, sym, Bool, false, Option, Some, None}
use Rattle.disk.specs.Device.{Device}
use Rattle.txn_law.specs.Core.{CoreState}
use Rattle.circ.specs.Log.Io.{Io}
use Rattle.circ.specs.Log.Log.{Log}
use Rattle.circ.specs.declared.log.calls.IoCall.{IoCall}
use Rattle.wal_calls.specs.Callers.Making.{CallIsMade, IsMadeOn, IsTried}
use Rattle.wal_calls.specs.Callers.Steps.{ComesBack, GoesOut, HasStepped}
use Rattle.wal_calls.specs.declared.callers.stepped.Stepped.TheVariants.{Next, Done}

module _ (may : Log → Bool) (Goes : GoesOut) (Comes : ComesBack) (old new : CoreState) where
  -- it took a call
  pub record Took (out next : Option Io) (later : Option Bool) (call : IoCall) : Type 0 where
    pub io : Io
    pub none : out ≡ None
    pub some : next ≡ Some io
    pub unmade : later ≡ None
    pub call_is : io.call ≡ call
    pub goes : Goes old io new

  -- it gave one back
  pub record Gave (out : Option Io) (made : Option Bool) (next : Option Io) (ok : Bool) : Type 0 where
    pub io : Io
    pub some : out ≡ Some io
    pub was_made : made ≡ Some ok
    pub none : next ≡ None
    pub back : Comes old io ok new

  -- it did nothing: there was none to take, or one is out that wasn't made
  pub record HasWaited (out : Option Io) (made : Option Bool) (next : Option Io) (later : Option Bool) : Type 0 where
    pub same : new ≡ old
    pub next_is : next ≡ out
    pub later_is : later ≡ made
    pub why : ((out ≡ None) × (may old.log ≡ false)) ⊎ ((io : Io) × (out ≡ Some io) × (made ≡ None))

  pub took : (out : Option Io) (made : Option Bool) (next : Option Io) (later : Option Bool) (call : IoCall)
      → HasStepped may Goes Comes old out made (Some (Next call)) new next later → Took out next later call
  took None made (Some io) later call is =
      record { io = io; none = refl; some = refl; unmade = is.2; call_is = is.1; goes = is.0 }
  took None made None later call is = absurd is
  took (Some io) (Some ok) next later call is = absurd is
  took (Some io) None next later call is = absurd is

  pub gave : (out : Option Io) (made : Option Bool) (next : Option Io) (later : Option Bool) (ok : Bool)
      → HasStepped may Goes Comes old out made (Some (Done ok)) new next later → Gave out made next ok
  gave None made next later ok is = absurd is
  gave (Some io) (Some was) next later ok is = record {
    io = io;
    some = refl;
    was_made = ap (λ (b : Bool). Some b) (sym is.1);
    none = is.2;
    back = subst (λ (b : Bool). Comes old io b new) (sym is.1) is.0;
  }
  gave (Some io) None next later ok is = absurd is

  pub waited : (out : Option Io) (made : Option Bool) (next : Option Io) (later : Option Bool)
      → HasStepped may Goes Comes old out made None new next later → HasWaited out made next later
  waited None made next later is =
      record { same = is.0; next_is = is.1; later_is = is.2; why = inl (refl, is.3) }
  waited (Some io) (Some ok) next later is = absurd is
  waited (Some io) None next later is =
      record { same = is.0; next_is = is.1; later_is = is.2; why = inr (io, refl, refl) }

module _ (IsMade : CallIsMade) (before after : Device) where
  -- a call was made
  pub record Tried (out : Option Io) (made : Option Bool) (ok : Bool) (later : Option Bool) : Type 0 where
    pub io : Io
    pub some : out ≡ Some io
    pub unmade : made ≡ None
    pub later_is : later ≡ Some ok
    pub on : IsMadeOn IsMade before io ok after

  -- none was: none is out, or it was made before
  pub record NotTried (out : Option Io) (made later : Option Bool) : Type 0 where
    pub same : after ≡ before
    pub later_is : later ≡ made
    pub why : (out ≡ None) ⊎ ((io : Io) × (ok : Bool) × (out ≡ Some io) × (made ≡ Some ok))

  pub tried : (out : Option Io) (made : Option Bool) (ok : Bool) (later : Option Bool)
      → IsTried IsMade before out made (Some ok) after later → Tried out made ok later
  tried (Some io) None ok later is =
      record { io = io; some = refl; unmade = refl; later_is = is.1; on = is.0 }
  tried (Some io) (Some was) ok later is = absurd (let no = is.0 in cc)
  tried None made ok later is = absurd (let no = is.0 in cc)

  pub not_tried : (out : Option Io) (made later : Option Bool)
      → IsTried IsMade before out made None after later → NotTried out made later
  not_tried (Some io) None later is = absurd is
  not_tried (Some io) (Some ok) later is =
      record { same = is.1; later_is = is.2; why = inr (io, ok, refl, refl) }
  not_tried None made later is = record { same = is.1; later_is = is.2; why = inl refl }
