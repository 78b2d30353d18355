use Rattle.mcs_sets.proofs.Excluded.{no-mistake-if-checks-pass}
use Rattle.mcs_sets.proofs.excluding.makes_no_mistake.Goals as goal

pub returns : goal.returns
returns c = λ h.
    no-mistake-if-checks-pass c.args.board.now c.args.entry.now c.args.op.now c.args.mistakes.now (record {
      calls = c.calls_allow.ensures c.if-not-calls_allow.false;
      ram = c.avoids_absent_ram.ensures c.if-not-avoids_absent_ram.false;
      own_rom = c.avoids_absent_rom.ensures.own_rom c.if-not-avoids_absent_rom.false;
      next_rom = c.avoids_absent_rom.ensures.next_rom c.if-not-avoids_absent_rom.false;
      inputs = c.avoids_missing_inputs.ensures c.if-not-avoids_missing_inputs.false;
      outputs = c.avoids_missing_outputs.ensures h;
    })
