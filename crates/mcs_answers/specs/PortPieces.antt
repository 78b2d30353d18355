-- The text of the output port of a RAM chip. Only contracts of private functions cite this module.
use Rattle.std.specs.Prelude.{ℕ, List, codes}
use Rattle.mcs_model.specs.Bus.{BusState}
use Rattle.mcs_model.specs.QueryText.{ram_port_text}

-- the line of a RAM chip's output port in the answer to `ram`
abbrev pub port_line : BusState → ℕ → ℕ → List ℕ
port_line s bank chip = ram_port_text (codes " out ") s bank chip

-- the item of a RAM chip's output port in the answer to `state`
abbrev pub ram_item : BusState → ℕ → ℕ → List ℕ
ram_item s bank chip = ram_port_text (codes ".") s bank chip
