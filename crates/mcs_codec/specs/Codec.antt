-- The bytes that encode a command, and those that encode a state, in version 2 and in version 1.
-- (Defined by Fethsaim, not by Intel.)
use Rattle.std.specs.Prelude.{◌≡◌, ◌⊎◌, ℕ, Bool, true, ◌==◌, ◌||◌, List, [], ◌∷◌, take, drop, Option, Some, None, if◌then◌else◌}
use Rattle.mcs_model.specs.BenchState.{BenchState}
use Rattle.mcs_model.specs.Validity.{IsValid}
use Rattle.mcs_model.specs.declared.command.Command.{Command}
use Rattle.mcs_version1.specs.Command.{is_command_of_version_1}
use Rattle.mcs_version1.specs.BenchState.{BenchState1}
use Rattle.mcs_version1.specs.Lift.{lift}
use Rattle.mcs_version1.specs.Validity.{IsValid1}
use Rattle.mcs_codec.specs.CommandBytes.{command_bytes, IsCommandInRange}
use Rattle.mcs_codec.specs.StateBytes.{state_bytes, state_bytes_1}
use Rattle.mcs_codec.specs.declared.versions.Version.{Version}
use Rattle.mcs_codec.specs.declared.versions.Version.TheVariants.{One, Two}

-- holds if these bytes encode this command, and each part of the command is in its range
pub record Encodes (bytes : List ℕ) (c : Command) : Type 0 where
  pub is : bytes ≡ command_bytes c
  pub in_range : IsCommandInRange c

-- true if the version has this command
abbrev pub version_has_command : Version → Command → Bool
version_has_command One c = is_command_of_version_1 c
version_has_command Two c = true

-- holds if these bytes encode this command in a session of this version
abbrev pub EncodesCommandBy : Version → List ℕ → Command → Type 0
EncodesCommandBy version bytes c = Encodes bytes c × (version_has_command version c ≡ true)

-- holds if these bytes begin with the tag of a load
abbrev pub BeginsAsLoad : List ℕ → Type 0
BeginsAsLoad bytes = take 1 bytes ≡ 2 ∷ []

-- holds if these bytes encode this valid state in version 2
pub record EncodesState (bytes : List ℕ) (s : BenchState) : Type 0 where
  pub is : bytes ≡ state_bytes s
  pub valid : IsValid s

-- holds if these bytes encode this valid state of version 1
pub record EncodesState1 (bytes : List ℕ) (s : BenchState1) : Type 0 where
  pub is : bytes ≡ state_bytes_1 s
  pub valid : IsValid1 s

-- holds if these bytes encode a state of version 1 that is converted (`lift`) to this state
pub record EncodesLifted (bytes : List ℕ) (s : BenchState) : Type 0 where
  pub version_1 : BenchState1
  pub spells : EncodesState1 bytes version_1
  pub lifted : s ≡ lift version_1

-- Holds if these bytes encode this state in this version. In version 1, they encode a state that is
-- converted to this state.
abbrev pub EncodesStateBy : Version → List ℕ → BenchState → Type 0
EncodesStateBy One bytes s = EncodesLifted bytes s
EncodesStateBy Two bytes s = EncodesState bytes s

-- holds if these bytes encode this state in one of the two versions
abbrev pub EncodesInSomeVersion : List ℕ → BenchState → Type 0
EncodesInSomeVersion bytes s = EncodesState bytes s ⊎ EncodesLifted bytes s

-- the number of a version, 1 or 2
abbrev pub version_number : Version → ℕ
version_number One = 1
version_number Two = 2

-- The version that the first of these bytes determines, or `None`: version 1 for a port character
-- (`i`, `0`, `1` or `-`), and version 2 for 02. In the encoding of a state, these bytes follow
-- the count of commands (`version_of`).
abbrev pub version_at_start : List ℕ → Option Version
version_at_start [] = None
version_at_start (b ∷ bytes) =
    if b == 105 || b == 48 || b == 49 || b == 45 then Some One
    else if b == 2 then Some Two
    else None

-- the version of the encoding of a state, which the fifth byte determines, or `None`
abbrev pub version_of : List ℕ → Option Version
version_of bytes = version_at_start (drop 4 bytes)
