-- The results of `create` and `open`, derived from the results of their parts.
use Rattle.std.proofs.Common.{◌≡◌, ◌≢◌, ◌⊎◌, inl, inr, ⊎_elim, refl, sym, ◌∙◌, ap, subst, Result, Ok, Err, IsErrOf}
use Rattle.mcs_disk.specs.Disk.{CountsFault, DiskState, part, bytes_of, size_of}
use Rattle.mcs_disk.specs.Stretches.{AddsNoImage}
use Rattle.mcs_disk.proofs.StretchComposition.{counts_fault_of_equivalent_failure}
use Rattle.mcs_journal.specs.StoreCalls.{IsCreateFault, IsOpenFault, CreateErrorImplies, OpenErrorImplies, HoldsNoContents}
use Rattle.mcs_journal.specs.File.{IsBlank}
use Rattle.mcs_journal.specs.declared.format.TheConstants.{FILE_SIZE, NAME}
use Rattle.mcs_journal.specs.declared.fault.StoreFault.{StoreFault}
use Rattle.mcs_journal.specs.declared.fault.StoreFault.TheVariants as store_fault

pub counts_no_fault_if_ok : {T E : Type 0} (old new : DiskState) (result : Result T E) (device : E) (x : T) → result ≡ Ok x → CountsFault old new (IsErrOf result device) → CountsFault old new ⊥
counts_no_fault_if_ok old new result device x is counts = counts_fault_of_equivalent_failure old new (IsErrOf result device) ⊥ (λ failed. cc) (λ none. absurd none) counts

pub counts_fault_if_device_error : {T E : Type 0} (old new : DiskState) (result : Result T E) (device fault : E) → result ≡ Err fault → CountsFault old new (IsErrOf result device) → CountsFault old new (fault ≡ device)
counts_fault_if_device_error old new result device fault is counts = counts_fault_of_equivalent_failure old new (IsErrOf result device) (fault ≡ device) (λ failed. cc) (λ same. is ∙ ap Err same) counts

-- holds if `check_blank`, the check of the header, can return this error
abbrev pub IsHeaderFault : StoreFault → Type 0
IsHeaderFault fault = (fault ≡ store_fault.NotBlank) ⊎ (fault ≡ store_fault.Device)

pub header_fault_is_create_fault : (fault : StoreFault) → IsHeaderFault fault → IsCreateFault fault
header_fault_is_create_fault fault (inl is) = subst IsCreateFault (sym is) tt
header_fault_is_create_fault fault (inr is) = subst IsCreateFault (sym is) tt

pub header_fault_is_not_no_memory : (fault : StoreFault) → IsHeaderFault fault → fault ≡ store_fault.NoMemory → ⊥
header_fault_is_not_no_memory fault (inl is) none = cc
header_fault_is_not_no_memory fault (inr is) none = cc

pub create_error_of_header_fault : (fault : StoreFault) (old new : DiskState) → IsHeaderFault fault → AddsNoImage old new → (fault ≡ store_fault.NotBlank → IsBlank old → ⊥) → CreateErrorImplies fault old new
create_error_of_header_fault fault old new (inl is) adds_no_image not_blank = subst (λ (f : StoreFault). CreateErrorImplies f old new) (sym is) (not_blank is, adds_no_image)
create_error_of_header_fault fault old new (inr is) adds_no_image not_blank = subst (λ (f : StoreFault). CreateErrorImplies f old new) (sym is) adds_no_image.later

pub open_fault_if_not_not_blank : (fault : StoreFault) → (fault ≡ store_fault.NotBlank → ⊥) → IsOpenFault fault
open_fault_if_not_not_blank store_fault.NotASession not_blank = tt
open_fault_if_not_not_blank store_fault.Damaged not_blank = tt
open_fault_if_not_not_blank store_fault.Device not_blank = tt
open_fault_if_not_not_blank store_fault.NoMemory not_blank = tt
open_fault_if_not_not_blank store_fault.NotBlank not_blank = not_blank refl

pub open_error_implies_disk_condition : (fault : StoreFault) (disk : DiskState) → (fault ≡ store_fault.NotBlank → ⊥) → size_of disk ≡ FILE_SIZE → (fault ≡ store_fault.NotASession → part 0 8 (bytes_of disk) ≢ NAME)
    → (fault ≡ store_fault.Damaged → part 0 8 (bytes_of disk) ≡ NAME) → (fault ≡ store_fault.Damaged → HoldsNoContents disk) → OpenErrorImplies fault disk
open_error_implies_disk_condition store_fault.NotASession disk not_blank sized unnamed named none = inr (unnamed refl)
open_error_implies_disk_condition store_fault.Damaged disk not_blank sized unnamed named none = (⊎_elim (λ other. other sized) (λ other. other (named refl)), none refl)
open_error_implies_disk_condition store_fault.Device disk not_blank sized unnamed named none = tt
open_error_implies_disk_condition store_fault.NoMemory disk not_blank sized unnamed named none = tt
open_error_implies_disk_condition store_fault.NotBlank disk not_blank sized unnamed named none = not_blank refl
