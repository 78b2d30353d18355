-- Conditions under which an instruction leaves the value of a probe or a row unchanged.
use Rattle.std.specs.Prelude.{◌≡◌, ◌⊎◌, Bool, false, List, Option, Some, None}
use Rattle.mcs_model.specs.declared.op.Op.{Op}
use Rattle.mcs_model.specs.declared.op.Op.TheVariants.{Src, Jms, Bbl, Wrm, Wmp, Wrr, Wr0, Wr1, Wr2, Wr3}
use Rattle.mcs_model.specs.declared.regs.Regs.{Regs}
use Rattle.mcs_model.specs.Bus.{BusState}
use Rattle.mcs_model.specs.Effect.{bus_after, effect}
use Rattle.mcs_probe.specs.declared.probe.Probe.{Probe}
use Rattle.mcs_probe.specs.Probes.{probe_text, row}
use Rattle.mcs_answers.specs.declared.traces.ProbeKinds.{ProbeKinds}

-- holds if an instruction writes a port: WMP (a RAM chip's port) or WRR (a ROM's port)
abbrev pub WritesPort : Op → Type 0
WritesPort op = (op ≡ Wmp) ⊎ (op ≡ Wrr)

-- holds if an instruction writes a status character: WR0 to WR3
abbrev pub WritesStatus : Op → Type 0
WritesStatus op = (op ≡ Wr0) ⊎ ((op ≡ Wr1) ⊎ ((op ≡ Wr2) ⊎ (op ≡ Wr3)))

-- Holds if an instruction leaves the text of a probe unchanged, whatever the state of the bus.
-- `before` and `after` are the registers before and after the instruction.
abbrev pub StaysSame : Op → Regs → Regs → Probe → Type 0
StaysSame op before after probe =
    (m : BusState) → probe_text (after, bus_after op before m) probe ≡ probe_text (before, m) probe

-- Holds if an instruction leaves the text of a row unchanged, whatever the state of the bus.
-- `before` and `after` are the registers before and after the instruction. Never holds if no
-- instruction was begun.
abbrev pub RowStaysSame : Option Op → Regs → Regs → List Probe → Type 0
RowStaysSame None before after probes = ⊥
RowStaysSame (Some op) before after probes =
    (m : BusState) → row probes (after, bus_after op before m) ≡ row probes (before, m)

-- holds if an instruction leaves the text of a probe unchanged, for any state of the registers and
-- the bus
abbrev pub AlwaysStaysSame : Op → Probe → Type 0
AlwaysStaysSame op probe =
    (regs : Regs) (m : BusState) → probe_text (effect op regs m) probe ≡ probe_text (regs, m) probe

-- Holds if an instruction leaves the text of a row unchanged, for any state of the registers and
-- the bus. Never holds if no instruction was begun.
abbrev pub RowAlwaysStaysSame : Option Op → List Probe → Type 0
RowAlwaysStaysSame None probes = ⊥
RowAlwaysStaysSame (Some op) probes =
    (regs : Regs) (m : BusState) → row probes (effect op regs m) ≡ row probes (regs, m)

-- ---- the kinds of probes in a row

-- True if an instruction can change the return addresses or a location outside the registers, and
-- the row has a probe of that kind.
abbrev pub touches : ProbeKinds → Op → Bool
touches probe_kinds Wmp = probe_kinds.ports
touches probe_kinds Wrr = probe_kinds.ports
touches probe_kinds Wrm = probe_kinds.ram
touches probe_kinds Wr0 = probe_kinds.status
touches probe_kinds Wr1 = probe_kinds.status
touches probe_kinds Wr2 = probe_kinds.status
touches probe_kinds Wr3 = probe_kinds.status
touches probe_kinds (Src pair) = probe_kinds.src
touches probe_kinds (Jms high low) = probe_kinds.return_addresses
touches probe_kinds (Bbl digit) = probe_kinds.return_addresses
touches probe_kinds op = false

-- holds if the kinds in `more` include the kind of a probe and all kinds in `probe_kinds`
pub record IncludesProbeKind (probe_kinds more : ProbeKinds) (probe : Probe) : Type 0 where
  pub registers : more.registers ≡ false → probe_kinds.registers ≡ false
  pub earlier_kinds : (op : Op) → touches more op ≡ false → touches probe_kinds op ≡ false
  pub probe_kind : more.registers ≡ false → (op : Op) → touches more op ≡ false → AlwaysStaysSame op probe

-- Holds if an instruction that touches no kind in `probe_kinds` leaves the row unchanged. If the
-- kinds include registers other than the return addresses, the condition always holds.
abbrev pub CoversProbes : ProbeKinds → List Probe → Type 0
CoversProbes probe_kinds probes =
    probe_kinds.registers ≡ false → (op : Op) → touches probe_kinds op ≡ false → (regs : Regs) (m : BusState)
    → row probes (effect op regs m) ≡ row probes (regs, m)
