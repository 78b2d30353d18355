use Rattle.std.proofs.Common.{ap}
use Rattle.std.proofs.lemmas.Bool.{both_ways}
use Rattle.mcs_drive.specs.TrackedMachine.{TrackedMachine}
use Rattle.mcs_check.specs.Memory.{is_memory_list}
use Rattle.mcs_check.proofs.Keeping.{keeps-same, with_ram-keeps, with_status-keeps, with_ram_latch-keeps, with_rom_latch-keeps, with_ram_src-keeps}
use Rattle.mcs_check.proofs.Memory.{memory-same, with_ram_latch-memory, with_rom_latch-memory, with_ram_src-memory}
use Rattle.mcs_check.proofs.replica.SearchMachine.set.Goals as goal

pub returns-in-RamNibbles-clause-keeps : goal.returns-in-RamNibbles-clause-keeps
returns-in-RamNibbles-clause-keeps c = keeps-same c.self.inside.rig c.args.self.now.1 c.set_ram.new.self _ (ap (λ (m : TrackedMachine). m.1) c.self.view_is) c.set_ram.ensures (with_ram-keeps _ _ _ _)

pub returns-in-RamNibbles-clause-memory : goal.returns-in-RamNibbles-clause-memory
returns-in-RamNibbles-clause-memory c = λ outside. absurd (both_ways (is_memory_list c.args.cell.list) outside (ap is_memory_list c.in-RamNibbles.is))

pub returns-in-StatusCharacters-clause-keeps : goal.returns-in-StatusCharacters-clause-keeps
returns-in-StatusCharacters-clause-keeps c = keeps-same c.self.inside.rig c.args.self.now.1 c.set_status.new.self _ (ap (λ (m : TrackedMachine). m.1) c.self.view_is) c.set_status.ensures (with_status-keeps _ _ _ _ _)

pub returns-in-StatusCharacters-clause-memory : goal.returns-in-StatusCharacters-clause-memory
returns-in-StatusCharacters-clause-memory c = λ outside. absurd (both_ways (is_memory_list c.args.cell.list) outside (ap is_memory_list c.in-StatusCharacters.is))

pub returns-in-RamPorts-clause-keeps : goal.returns-in-RamPorts-clause-keeps
returns-in-RamPorts-clause-keeps c = keeps-same c.self.inside.rig c.args.self.now.1 c.set_ram_latch.new.self _ (ap (λ (m : TrackedMachine). m.1) c.self.view_is) c.set_ram_latch.ensures (with_ram_latch-keeps _ _ _ _)

pub returns-in-RamPorts-clause-memory : goal.returns-in-RamPorts-clause-memory
returns-in-RamPorts-clause-memory c = λ _. memory-same c.self.inside.rig c.args.self.now.1 c.set_ram_latch.new.self _ (ap (λ (m : TrackedMachine). m.1) c.self.view_is) c.set_ram_latch.ensures (with_ram_latch-memory _ _ _ _)

pub returns-in-RomPorts-clause-keeps : goal.returns-in-RomPorts-clause-keeps
returns-in-RomPorts-clause-keeps c = keeps-same c.self.inside.rig c.args.self.now.1 c.set_rom_latch.new.self _ (ap (λ (m : TrackedMachine). m.1) c.self.view_is) c.set_rom_latch.ensures (with_rom_latch-keeps _ _ _)

pub returns-in-RomPorts-clause-memory : goal.returns-in-RomPorts-clause-memory
returns-in-RomPorts-clause-memory c = λ _. memory-same c.self.inside.rig c.args.self.now.1 c.set_rom_latch.new.self _ (ap (λ (m : TrackedMachine). m.1) c.self.view_is) c.set_rom_latch.ensures (with_rom_latch-memory _ _ _)

pub returns-in-BankSrcBytes-clause-keeps : goal.returns-in-BankSrcBytes-clause-keeps
returns-in-BankSrcBytes-clause-keeps c = keeps-same c.self.inside.rig c.args.self.now.1 c.set_ram_src.new.self _ (ap (λ (m : TrackedMachine). m.1) c.self.view_is) c.set_ram_src.ensures (with_ram_src-keeps _ _ _)

pub returns-in-BankSrcBytes-clause-memory : goal.returns-in-BankSrcBytes-clause-memory
returns-in-BankSrcBytes-clause-memory c = λ _. memory-same c.self.inside.rig c.args.self.now.1 c.set_ram_src.new.self _ (ap (λ (m : TrackedMachine). m.1) c.self.view_is) c.set_ram_src.ensures (with_ram_src-memory _ _ _)
