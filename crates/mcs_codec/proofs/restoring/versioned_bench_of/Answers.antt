use Rattle.std.proofs.Common.{sym, subst, rules, arith}
use Rattle.mcs_bench.specs.States.{state_of}
use Rattle.mcs_codec.specs.Codec.{EncodesStateBy}
use Rattle.mcs_codec.proofs.StateCodec.{no_state_encoded_if_none_read, no_state_encoded_if_read_is_invalid, read_state_is_encoded}
use Rattle.mcs_codec.proofs.StateParts.{new_bench_lengths}
use Rattle.mcs_codec.proofs.restoring.versioned_bench_of.Goals as goal

pub returns-in_default-clause-none : goal.returns-in_default-clause-none
returns-in_default-clause-none c = no_state_encoded_if_none_read c.args.bytes.now c.in_default.ensures

pub returns-then-not-check-clause-none : goal.returns-then-not-check-clause-none
returns-then-not-check-clause-none c = no_state_encoded_if_read_is_invalid c.args.bytes.now _ (state_of c.read_whole_state.new.flat) c.in-Some.ensures (λ valid. search (rules, c.check.ensures, c.if-not-check.true))

pub returns-clause-some : goal.returns-clause-some
returns-clause-some c =
    let bytes = c.args.bytes.now in
    let read = read_state_is_encoded _ bytes (state_of c.read_whole_state.new.flat) (λ i. omega (arith, c.type_inv.bytes i)) c.in-Some.ensures (search (rules, c.check.ensures, c.if-not-check.false)) in
    subst (EncodesStateBy _ bytes) (sym c.in_ok-bench.ensures) read

pub read_whole_state-requires : goal.read_whole_state-requires
read_whole_state-requires c = new_bench_lengths (state_of c.in_ok-flat.flat) c.in_ok-flat.ensures
