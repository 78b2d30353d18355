-- The values of probes, as text.
use Rattle.std.specs.Prelude.{ℕ, ◌+◌, ◌*◌, List, ◌++◌, codes, map, nat_lt, slice_index, if◌then◌else◌}
use Rattle.std.specs.List.{flat_map}
use Rattle.mcs_model.specs.Running.{Machine}
use Rattle.mcs_model.specs.declared.board.Line.{Line}
use Rattle.mcs_model.specs.declared.board.Line.TheVariants as line
use Rattle.mcs_model.specs.Boards.{chain_count, is_on_board}
use Rattle.mcs_model.specs.Bus.{BusState, ram_index, status_index}
use Rattle.mcs_model.specs.Levels.{level}
use Rattle.mcs_model.specs.QueryText.{address_text, chain_item, digit_text, two_hex_digits, lamp_mark, comma_list, or_dash}
use Rattle.mcs_probe.specs.declared.probe.Probe.{Probe}
use Rattle.mcs_probe.specs.declared.probe.Probe.TheVariants.{Acc, Cy, Pc, Register, Dcl, Rom, Ram, Status, Level, RomPort, RamPort, Chain, Src, Lamps, ReturnAddresses}

-- the level of a line, or 0 if the line is not on the board
abbrev pub level_if_on_board : BusState → Line → ℕ
level_if_on_board s line = if is_on_board s.board line then level s line else 0

-- the levels of the four lines of a port, as a number with line `k` at bit `k`
abbrev pub levels_of_four_lines : BusState → (ℕ → Line) → ℕ
levels_of_four_lines s line =
    level_if_on_board s (line 0) + 2 * level_if_on_board s (line 1) + 4 * level_if_on_board s (line 2) + 8 * level_if_on_board s (line 3)

-- the bits of a chain, bit 0 first, or a dash if the board does not have the chain
abbrev pub bits_text : BusState → ℕ → List ℕ
bits_text s n = if nat_lt n (chain_count s.board) then chain_item s n else codes "-"

-- the value of a probe, as one word
abbrev pub probe_text : Machine → Probe → List ℕ
probe_text t Acc = digit_text t.0.acc
probe_text t Cy = digit_text t.0.cy
probe_text t Pc = address_text t.0.pc
probe_text t (Register k) = digit_text (slice_index t.0.r k)
probe_text t Dcl = digit_text t.0.dcl
probe_text t (Rom at) = two_hex_digits (slice_index t.1.rom at)
probe_text t (Ram bank src) = digit_text (slice_index t.1.ram (ram_index bank src))
probe_text t (Status bank high k) = digit_text (slice_index t.1.status (status_index bank high k))
probe_text t (Level line) = digit_text (level_if_on_board t.1 line)
probe_text t (RomPort chip) = digit_text (levels_of_four_lines t.1 (line.Rom chip))
probe_text t (RamPort bank chip) = digit_text (levels_of_four_lines t.1 (line.Ram bank chip))
probe_text t (Chain n) = bits_text t.1 n
probe_text t Src = two_hex_digits t.1.rom_src
probe_text t Lamps = or_dash (map (λ line. lamp_mark (level t.1 line)) t.1.board.lamps.items)
probe_text t ReturnAddresses = comma_list (map address_text t.0.ret)

-- a row of a trace: the value of each probe in order, each after a space
abbrev pub row : List Probe → Machine → List ℕ
row probes t = flat_map (λ p. codes " " ++ probe_text t p) probes
