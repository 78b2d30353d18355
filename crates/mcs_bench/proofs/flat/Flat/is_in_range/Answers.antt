use Rattle.std.proofs.Common.{◌≡◌, ◌∙◌, ◌<◌, ℕ, List, [], sym, subst, arith, get_or, length}
use Rattle.arrayvec.specs.ArrayVec.{ArrayVec}
use Rattle.mcs_model.specs.Boards.{chain_count, chain_bits, key_count}
use Rattle.mcs_model.specs.Validity.{AreBelow}
use Rattle.mcs_bench.specs.States.{bits_of_chains}
use Rattle.mcs_bench.proofs.ChainBits.{bits_of_chains-length}
use Rattle.mcs_bench.proofs.PartTests.{decided_by_last_part}
use Rattle.mcs_bench.proofs.flat.Flat.is_in_range.Goals as goal

pub returns : goal.returns
returns c =
    let f = c.args.self.now in
    let cells = c.has_valid_chip_values.ensures.0 c.if-not-has_valid_chip_values.false in
    let chains = c.chains_fit_board.ensures.0 c.if-not-chains_fit_board.false in
    let keys = c.as_slice-2.ensures.value in
    decided_by_last_part c.are_below.result c.are_below.ensures
    (λ p. record {
      rom = cells.0;
      ram = cells.1;
      status = cells.2;
      ram_ports = cells.3;
      rom_ports = cells.4;
      rom_src = omega arith;
      ram_src = c.show_bytes_are_in_range.ensures;
      chains = bits_of_chains-length f.chains.items ∙ subst (λ (rows : List (ArrayVec ℕ)). length rows ≡ chain_count f.board) c.as_slice.ensures.value chains.0;
      chain_bits = subst (λ (rows : List (ArrayVec ℕ)). (i : ℕ) → i < chain_count f.board → AreBelow (chain_bits f.board i) 2 (get_or (bits_of_chains rows) i [])) c.as_slice.ensures.value chains.1;
      keys = subst (λ n. AreBelow n 2 f.keys.items) c.key_count.ensures.count (subst (λ (xs : List ℕ). AreBelow c.key_count.result 2 xs) keys p);
      test = omega arith;
    })
    (λ v. subst (λ n. AreBelow n 2 c.as_slice-2.result.now) (sym c.key_count.ensures.count) (subst (λ (xs : List ℕ). AreBelow (key_count f.board) 2 xs) (sym keys) v.keys))
