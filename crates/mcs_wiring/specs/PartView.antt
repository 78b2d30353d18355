-- Converts the `Part` of the source code to the `Part` of the specification. Only the contracts of
-- private functions cite this module.
use Rattle.std.specs.Option.{option_copied}
use Rattle.mcs_wiring.specs.declared.fault.WiringFault.{WiringFault}
use Rattle.mcs_wiring.specs.declared.fault.WiringFault.TheVariants.{DoubleChip, NoSuchLine, WrongDirection}
use Rattle.mcs_wiring.specs.declared.flawed_part.Part as code
use Rattle.mcs_wiring.specs.Parts.{Part}

abbrev pub part_view : code.Part → Part
part_view p = record { section = p.section; number = p.number; key = option_copied p.key }

-- Holds for the errors `DoubleChip`, `NoSuchLine` and `WrongDirection`, which can involve several
-- tables.
abbrev pub IsPartsError : WiringFault → Type 0
IsPartsError DoubleChip = Unit {0}
IsPartsError NoSuchLine = Unit {0}
IsPartsError WrongDirection = Unit {0}
IsPartsError fault = ⊥
