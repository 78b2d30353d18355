-- The reasons why a file is not opened, for each error that the host can return.
use Rattle.std.specs.Prelude.{◌≡◌, ◌≢◌, ◌⊎◌, ℤ, pos, Option, Some, None}
use Rattle.std.specs.declared.fs.attrs.FileType.{FileType}
use Rattle.std.specs.declared.io.Error.{Error}
use Rattle.std.specs.declared.io.ErrorKind.{ErrorKind}
use Rattle.std.specs.declared.io.ErrorKind.TheVariants.{FileTooLarge, InvalidFilename, IsADirectory, NotADirectory, NotFound, NotSeekable, OutOfMemory, PermissionDenied, QuotaExceeded, ReadOnlyFilesystem, StorageFull}
use Rattle.std.specs.IoError.{error_kind, raw_os_error}
use Rattle.mcs_host.specs.declared.file_fault.FileFault.{FileFault}
use Rattle.mcs_host.specs.declared.file_fault.FileFault.TheVariants.{Denied, Device, Folder, FolderUnsynced, NameTooLong, NoMemory, NoSpace, NotAFile, FileMissing, TooManyFiles}

-- the `FileFault` for an error of this kind, or `None` if it has no variant for the kind
abbrev pub fault_of_kind : ErrorKind → Option FileFault
fault_of_kind NotFound = Some FileMissing
fault_of_kind NotADirectory = Some FileMissing
fault_of_kind PermissionDenied = Some Denied
fault_of_kind ReadOnlyFilesystem = Some Denied
fault_of_kind IsADirectory = Some Folder
fault_of_kind NotSeekable = Some NotAFile
fault_of_kind InvalidFilename = Some NameTooLong
fault_of_kind StorageFull = Some NoSpace
fault_of_kind QuotaExceeded = Some NoSpace
fault_of_kind FileTooLarge = Some NoSpace
fault_of_kind _ = None

-- holds if `fault` is the `FileFault` for an error whose kind has no variant, given its error
-- number; 23 and 24 are ENFILE and EMFILE (too many open files)
pub record IsFaultOfNumber (number : Option ℤ) (fault : FileFault) : Type 0 where
  pub full : (number ≡ Some (pos 23)) ⊎ (number ≡ Some (pos 24)) → fault ≡ TooManyFiles
  pub other : number ≢ Some (pos 23) → number ≢ Some (pos 24) → fault ≡ Device

-- holds if `fault` is the `FileFault` for this error of the host
pub record IsHostFault (error : Error) (fault : FileFault) : Type 0 where
  pub named : (f : FileFault) → fault_of_kind (error_kind error) ≡ Some f → fault ≡ f
  pub unnamed : fault_of_kind (error_kind error) ≡ None → IsFaultOfNumber (raw_os_error error) fault

-- holds if `fault` is the `FileFault` for an error of a call that resolves symbolic links; such a
-- call allocates memory
pub record IsNameFault (error : Error) (fault : FileFault) : Type 0 where
  pub memory : error_kind error ≡ OutOfMemory → fault ≡ NoMemory
  pub other : error_kind error ≢ OutOfMemory → IsHostFault error fault

-- Holds if `fault` is the `FileFault` for an error of `check_removable`. For `InvalidFilename` (for
-- example, if the target of a link is not valid UTF-8), this is `FolderUnsynced`.
pub record IsLinkFault (error : Error) (fault : FileFault) : Type 0 where
  pub no_text : error_kind error ≡ InvalidFilename → fault ≡ FolderUnsynced
  pub other : error_kind error ≢ InvalidFilename → IsNameFault error fault

-- The two kinds of errors of a lookup by name: no file has the name (`IsAbsent`), or any other
-- error (`IsOtherNameError`).
abbrev pub IsAbsent : Error → Type 0
IsAbsent error = (error_kind error ≡ NotFound) ⊎ (error_kind error ≡ NotADirectory)

abbrev pub IsOtherNameError : Error → Type 0
IsOtherNameError error = (error_kind error ≢ NotFound) × (error_kind error ≢ NotADirectory)

-- holds if a file is neither a regular file nor a folder
abbrev pub IsOtherFile : FileType → Type 0
IsOtherFile t = (t.bits ≢ 0o100000) × (t.bits ≢ 0o040000)
