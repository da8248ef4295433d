-- What is left of a file after some of it was taken.
use Rattle.std.proofs.Common.{◌≡◌, ◌⊎◌, ℕ, ◌≤◌, List, [], ◌++◌, length, drop, Option, Some, None, Result, Ok, Err, OnErr, IfOk, Vec, refl, sym, ap, ◌∙◌, inl, inr, subst, arith, append-nil, ◌+◌, take, min, length-append}
use Rattle.std.proofs.lemmas.List.{drop_at, drop_all, length-take}
use Rattle.std.proofs.KnownBytes.{Consumes-trans}
use Rattle.std.specs.declared.alloc.Global.{Global}
use Rattle.std.specs.Io.KnownBytes.{Consumes, IsAtEnd}
use Rattle.cf_outside.specs.Causes.{HasOpenCause}
use Rattle.cf_outside.specs.Files.{File, Opens}
use Rattle.cf_outside.specs.declared.shelf.OpenFault.{OpenFault}
use Rattle.cf_outside.specs.declared.shelf.OpenFault.TheVariants as open_faults
use Rattle.cf_intake.specs.Causes.{HasHaltCause, HasReadCause}
use Rattle.cf_intake.specs.Refusals.{unopened, unread}
use Rattle.cf_intake.specs.Files.{HasFile, HasLeft, IsStopped}
use Rattle.cf_intake.specs.Devices.{TakesUpTo, TakesAtMost, IsFileRead, ReadsFile}
use Rattle.cf_intake.specs.declared.devices.ReadError.{ReadError}
use Rattle.cf_intake.specs.declared.devices.ReadError.TheVariants as errors

-- where it is told, what is left is as before
pub left_same : (told : Option (List File)) (now : Option (List ℕ)) → HasLeft told now now
left_same None now = tt
left_same (Some files) now = refl

-- up to the limit or to the end
pub left_after : (limit : ℕ) (bytes rest : List ℕ) → length bytes ≤ limit → (rest ≡ []) ⊎ (length bytes ≡ limit) → rest ≡ drop limit (bytes ++ rest)
left_after limit bytes rest most whole = elim whole [
  | inl end ↦ end ∙ sym (drop_all limit bytes most) ∙ ap (drop limit) (sym (ap (λ xs. bytes ++ xs) end ∙ append-nil bytes))
  | inr full ↦ sym (drop_at bytes rest limit full)
]

pub stopped_read : (told : Option (List File)) (name : List ℕ) (limit : ℕ) (before now : Option (List ℕ)) (bytes : List ℕ)
    → IsFileRead told name limit now bytes → IsStopped told name limit before now
stopped_read told name limit before now bytes read =
    inr (
      bytes ++ read.rest,
      read.file_is,
      record {
        count = length bytes;
        most = read.most;
        left = subst (λ (xs : List ℕ). HasLeft told now (Some xs)) (sym (drop_at bytes read.rest (length bytes) refl)) read.left;
      },
    )

-- the bytes that were taken stand at the front of the file
consumed : (file : List ℕ) (now : Option (List ℕ)) (bytes : List ℕ) → Consumes (Some file) now bytes → (rest : List ℕ) × (now ≡ Some rest)
    × (file ≡ bytes ++ rest)
consumed file None bytes h = absurd h
consumed file (Some rest) bytes h = (rest, refl, h)

ended : (now : Option (List ℕ)) (rest : List ℕ) → now ≡ Some rest → IsAtEnd now → rest ≡ []
ended None rest is end = cc
ended (Some xs) rest is end = let same : xs ≡ rest = cc in sym same ∙ end

pub file_read : (told : Option (List File)) (name : List ℕ) (limit : ℕ) (before mid now : Option (List ℕ)) (bytes : List ℕ)
    → Opens told name before mid (Ok tt) → TakesUpTo mid now limit bytes → IsFileRead told name limit now bytes
file_read None name limit before mid now bytes opened takes = record { rest = []; file_is = tt; left = tt; most = takes.most; whole = inl refl }
file_read (Some files) name limit before mid now bytes opened takes =
    let took : Consumes (Some opened.0) now bytes = rw opened.2 at takes.taken in
    let parts = consumed opened.0 now bytes took in
    record {
      rest = parts.0;
      file_is = opened.1 ∙ ap (λ xs. Some xs) parts.2;
      left = parts.1;
      most = takes.most;
      whole = elim takes.whole [ inl end ↦ inl (ended now parts.0 parts.1 end) | inr full ↦ inr full ];
    }

pub file_stopped : (told : Option (List File)) (name : List ℕ) (limit : ℕ) (before mid now : Option (List ℕ)) → Opens told name before mid (Ok tt)
    → TakesAtMost mid now limit → IsStopped told name limit before now
file_stopped None name limit before mid now opened takes = inl tt
file_stopped (Some files) name limit before mid now opened takes =
    let took : Consumes (Some opened.0) now takes.bytes = rw opened.2 at takes.taken in
    let parts = consumed opened.0 now takes.bytes took in
    inr (
      opened.0,
      opened.1,
      record {
        count = length takes.bytes;
        most = takes.most;
        left = parts.1
            ∙ ap (λ xs. Some xs) (sym (drop_at takes.bytes parts.0 (length takes.bytes) refl) ∙ ap (drop (length takes.bytes)) (sym parts.2));
      },
    )

pub reads_opened : (told : Option (List File)) (name : List ℕ) (limit : ℕ) (before mid now : Option (List ℕ)) (result : Result (Vec ℕ Global) ReadError)
    → Opens told name before mid (Ok tt)
    → IfOk result (λ bytes. TakesUpTo mid now limit bytes.items) → OnErr result (TakesAtMost mid now limit) → (result ≡ Err errors.Missing → ⊥)
    → ReadsFile told name limit before now result
reads_opened told name limit before mid now (Ok bytes) opened taken stopped present = file_read told name limit before mid now bytes.items opened taken
reads_opened told name limit before mid now (Err errors.Missing) opened taken stopped present = absurd (present refl)
reads_opened told name limit before mid now (Err errors.Failed) opened taken stopped present = file_stopped told name limit before mid now opened stopped
reads_opened told name limit before mid now (Err errors.Memory) opened taken stopped present = file_stopped told name limit before mid now opened stopped

-- a file that is not opened
pub unopened_missing : (told : Option (List File)) (name : List ℕ) (before now : Option (List ℕ)) → Opens told name before now (Err open_faults.Missing)
    → HasFile told name None × HasLeft told now before
unopened_missing None name before now opens = (tt, tt)
unopened_missing (Some files) name before now opens = opens

pub unopened_failed : (told : Option (List File)) (name : List ℕ) (limit : ℕ) (before now : Option (List ℕ))
    → Opens told name before now (Err open_faults.Failed) → IsStopped told name limit before now
unopened_failed None name limit before now opens = inl tt
unopened_failed (Some files) name limit before now opens = inl opens

pub unopened_memory : (told : Option (List File)) (name : List ℕ) (limit : ℕ) (before now : Option (List ℕ))
    → Opens told name before now (Err open_faults.Memory) → IsStopped told name limit before now
unopened_memory None name limit before now opens = inl tt
unopened_memory (Some files) name limit before now opens = inl opens

pub unopened_reads : (told : Option (List File)) (name : List ℕ) (limit : ℕ) (before now : Option (List ℕ)) (fault : OpenFault)
    → Opens told name before now (Err fault) → ReadsFile told name limit before now (Err (unopened fault))
unopened_reads told name limit before now open_faults.Missing opens = unopened_missing told name before now opens
unopened_reads told name limit before now open_faults.Failed opens = unopened_failed told name limit before now opens
unopened_reads told name limit before now open_faults.Memory opens = unopened_memory told name limit before now opens

-- A fault of the device is told as one.

pub unopened_cause : {T : Type 0} (before now : ℕ) (fault : OpenFault) → HasOpenCause before now (Err fault)
    → HasReadCause {T = T} before now (Err (unopened fault))
unopened_cause {T} before now open_faults.Missing cause = record { later = cause.later; failed = λ e. absurd (cc e) }
unopened_cause {T} before now open_faults.Failed cause = record { later = cause.later; failed = λ e. cause.failed refl }
unopened_cause {T} before now open_faults.Memory cause = record { later = cause.later; failed = λ e. absurd (cc e) }

pub unread_cause : {T : Type 0} (before now : ℕ) (error : ReadError) → HasReadCause {T = T} before now (Err error)
    → HasHaltCause {T = T} before now (Err (unread error))
unread_cause {T} before now errors.Missing cause = record { later = cause.later; failed = λ e. absurd (cc e) }
unread_cause {T} before now errors.Failed cause = record { later = cause.later; failed = λ e. cause.failed refl }
unread_cause {T} before now errors.Memory cause = record { later = cause.later; failed = λ e. absurd (cc e) }

-- a read more
pub takes_more : (before mid now : Option (List ℕ)) (bytes buf : List ℕ) (n limit : ℕ) → Consumes before mid bytes → Consumes mid now (take n buf)
    → n + length bytes ≤ limit → TakesAtMost before now limit
takes_more before mid now bytes buf n limit old new most =
    let len : length (bytes ++ take n buf) ≡ length bytes + length (take n buf) = length-append bytes (take n buf) in
    let short : length (take n buf) ≡ min n (length buf) = length-take n buf in
    record { bytes = bytes ++ take n buf; taken = Consumes-trans before mid now bytes (take n buf) old new; most = omega (arith, len, short, most) }
