use Rattle.std.proofs.Common.{◌≡◌, ◌∙◌, sym, ap, arith, refl, length, replicate}
use Rattle.std.proofs.lemmas.Bool.{eqb-true}
use Rattle.mcs_model.specs.declared.board.BoardParts.{BoardParts}
use Rattle.mcs_model.specs.Boards.{key_count}
use Rattle.mcs_model.specs.ChipWrites.{after_board_change}
use Rattle.mcs_keypad.specs.Keys.{KeyState}
use Rattle.mcs_board.specs.RigState.{RigParts, state_of_rig}
use Rattle.mcs_board.specs.RigFields.{rig_parts}
use Rattle.mcs_board.proofs.LifecycleLemmas.{IsRewired, each_socket-after_wiring, state-after_wiring, matches_board-after_wiring}
use Rattle.mcs_board.proofs.rig.Rig.wire.Goals as goal

-- A new key pad for a copy of board `b` equals a new key pad for `b`: all keys are up.
key_state-of_copied_board : (b copy : BoardParts) (k : KeyState) → k ≡ record { board = copy; down = replicate (key_count copy) 0 } → copy ≡ b → k ≡ record { board = b; down = replicate (key_count b) 0 }
key_state-of_copied_board b copy k new same = new ∙ ap (λ (x : BoardParts). let key_pad : KeyState = record { board = x; down = replicate (key_count x) 0 } in key_pad) same

pub returns-then-is_empty : goal.returns-then-is_empty
returns-then-is_empty g c =
    let i = c.self.inside in
    let v = c.self.invariant in
    let b = c.args.board.now in
    let fits = c.requires in
    let none : length i.chains.items ≡ 0 = ap length (sym c.as_slice.ensures.value) ∙ eqb-true (length c.as_slice.result.now) 0 (sym c.is_empty.ensures ∙ c.if-is_empty.true) in
    let new : RigParts = record (rig_parts i) { board = b; roms = c.rewire_roms.new.roms.items; program = c.clear_absent_roms.new.program.items; banks = c.rewire_banks.new.banks.items; keys = replicate (key_count b) 0; rom_src = 0 } in
    let is : IsRewired (rig_parts i) new = record {
      roms = each_socket-after_wiring b i.roms.items c.rewire_roms.new.roms.items c.rewire_roms.ensures.count c.rewire_roms.ensures.roms (λ k h. fits.roms k (let l = v.roms_len in omega arith));
      program = c.clear_absent_roms.ensures;
      banks = record { at = λ k h. c.rewire_banks.ensures.banks k (let n = c.rewire_banks.ensures.count in omega arith) };
      fit = omega (arith, fits.chains, v.chains_len);
      chains = λ k h. absurd (omega (arith, fits.chains, v.chains_len));
      keys_up = refl;
      src = refl;
      test = refl;
    } in
    ap (λ (k : KeyState). state_of_rig (record new { board = k.board; keys = k.down })) (key_state-of_copied_board b c.copy.result c.of-self-inside.result c.of-self-inside.ensures c.copy.ensures)
    ∙ state-after_wiring (rig_parts i) new is
    ∙ ap (λ s. after_board_change s b) c.self.view_is

pub invariant_of-self : goal.invariant_of-self
invariant_of-self g c =
    let i = c.self.inside in
    let v = c.self.invariant in
    let b = c.args.board.now in
    let fits = c.requires in
    let none : length i.chains.items ≡ 0 = ap length (sym c.as_slice.ensures.value) ∙ eqb-true (length c.as_slice.result.now) 0 (sym c.is_empty.ensures ∙ c.if-is_empty.true) in
    let new : RigParts = record (rig_parts i) { board = b; roms = c.rewire_roms.new.roms.items; program = c.clear_absent_roms.new.program.items; banks = c.rewire_banks.new.banks.items; keys = replicate (key_count b) 0; rom_src = 0 } in
    let is : IsRewired (rig_parts i) new = record {
      roms = each_socket-after_wiring b i.roms.items c.rewire_roms.new.roms.items c.rewire_roms.ensures.count c.rewire_roms.ensures.roms (λ k h. fits.roms k (let l = v.roms_len in omega arith));
      program = c.clear_absent_roms.ensures;
      banks = record { at = λ k h. c.rewire_banks.ensures.banks k (let n = c.rewire_banks.ensures.count in omega arith) };
      fit = omega (arith, fits.chains, v.chains_len);
      chains = λ k h. absurd (omega (arith, fits.chains, v.chains_len));
      keys_up = refl;
      src = refl;
      test = refl;
    } in
    rw (key_state-of_copied_board b c.copy.result c.of-self-inside.result c.of-self-inside.ensures c.copy.ensures)
    (matches_board-after_wiring (rig_parts i) new g.row.ROMS g.row.BANKS g.row.CHAINS g.row.MAX fits (c.rewire_roms.ensures.count ∙ v.roms_len) (c.rewire_banks.ensures.count ∙ v.banks_len) v.chains_len is)

pub invariant_of-self-2 : goal.invariant_of-self-2
invariant_of-self-2 g c =
    let i = c.self.inside in
    let v = c.self.invariant in
    let b = c.args.board.now in
    let fits = c.requires in
    let new : RigParts = record { board = b; roms = c.rewire_roms.new.roms.items; program = c.clear_absent_roms.new.program.items; banks = c.rewire_banks.new.banks.items; chains = c.rewire_chains.new.chains.items; keys = replicate (key_count b) 0; rom_src = 0; test = i.test } in
    let is : IsRewired (rig_parts i) new = record {
      roms = each_socket-after_wiring b i.roms.items c.rewire_roms.new.roms.items c.rewire_roms.ensures.count c.rewire_roms.ensures.roms (λ k h. fits.roms k (let l = v.roms_len in omega arith));
      program = c.clear_absent_roms.ensures;
      banks = record { at = λ k h. c.rewire_banks.ensures.banks k (let n = c.rewire_banks.ensures.count in omega arith) };
      fit = omega (arith, fits.chains, v.chains_len, c.rewire_chains.ensures.count);
      chains = λ k h. c.rewire_chains.ensures.rows k (omega (arith, fits.chains, v.chains_len));
      keys_up = refl;
      src = refl;
      test = refl;
    } in
    rw (key_state-of_copied_board b c.copy.result c.of-self-inside.result c.of-self-inside.ensures c.copy.ensures)
    (matches_board-after_wiring (rig_parts i) new g.row.ROMS g.row.BANKS g.row.CHAINS g.row.MAX fits (c.rewire_roms.ensures.count ∙ v.roms_len) (c.rewire_banks.ensures.count ∙ v.banks_len) (c.rewire_chains.ensures.count ∙ v.chains_len) is)

pub returns : goal.returns
returns g c =
    let i = c.self.inside in
    let v = c.self.invariant in
    let b = c.args.board.now in
    let fits = c.requires in
    let new : RigParts = record { board = b; roms = c.rewire_roms.new.roms.items; program = c.clear_absent_roms.new.program.items; banks = c.rewire_banks.new.banks.items; chains = c.rewire_chains.new.chains.items; keys = replicate (key_count b) 0; rom_src = 0; test = i.test } in
    let is : IsRewired (rig_parts i) new = record {
      roms = each_socket-after_wiring b i.roms.items c.rewire_roms.new.roms.items c.rewire_roms.ensures.count c.rewire_roms.ensures.roms (λ k h. fits.roms k (let l = v.roms_len in omega arith));
      program = c.clear_absent_roms.ensures;
      banks = record { at = λ k h. c.rewire_banks.ensures.banks k (let n = c.rewire_banks.ensures.count in omega arith) };
      fit = omega (arith, fits.chains, v.chains_len, c.rewire_chains.ensures.count);
      chains = λ k h. c.rewire_chains.ensures.rows k (omega (arith, fits.chains, v.chains_len));
      keys_up = refl;
      src = refl;
      test = refl;
    } in
    ap (λ (k : KeyState). state_of_rig (record new { board = k.board; keys = k.down })) (key_state-of_copied_board b c.copy.result c.of-self-inside.result c.of-self-inside.ensures c.copy.ensures)
    ∙ state-after_wiring (rig_parts i) new is
    ∙ ap (λ s. after_board_change s b) c.self.view_is

pub clear_absent_roms-requires : goal.clear_absent_roms-requires
clear_absent_roms-requires g c = c.self.invariant.program_len
