-- The contents of a rig, as a record of its fields. `state_of_rig` converts this record to a flat
-- state.
use Rattle.std.specs.Prelude.{ℕ}
use Rattle.mcs_board.specs.declared.rig.Rig.TheInside.{Inside}
use Rattle.mcs_board.specs.RigState.{RigParts}

abbrev pub rig_parts : {ROMS BANKS CHAINS MAX : ℕ} → Inside ROMS BANKS CHAINS MAX → RigParts
rig_parts i = record {
  board = i.key_pad.board;
  roms = i.roms.items;
  program = i.program.items;
  banks = i.banks.items;
  chains = i.chains.items;
  keys = i.key_pad.down;
  rom_src = i.rom_src;
  test = i.test;
}
