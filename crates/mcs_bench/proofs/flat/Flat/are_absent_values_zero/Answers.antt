use Rattle.std.proofs.Common.{ℕ, List, sym, subst, slice_index}
use Rattle.mcs_model.specs.Boards.{rom_masks}
use Rattle.mcs_bench.specs.declared.chip_list.ChipList.TheVariants.{RomBytes, RamNibbles, StatusCharacters, RamPorts, BankSrcBytes}
use Rattle.mcs_bench.specs.States.{state_of}
use Rattle.mcs_bench.proofs.ChipListLemmas.{zero-where-absent-if-valid, absent-parts-zero-if-lists-zero, zero-where-absent-in-each-list, latch_can_hold}
use Rattle.mcs_bench.proofs.PartTests.{decided_by_failed_part, decided_by_last_part}
use Rattle.mcs_bench.proofs.flat.Flat.are_absent_values_zero.Goals as goal

pub returns-then-not-is_list_zero_where_absent : goal.returns-then-not-is_list_zero_where_absent
returns-then-not-is_list_zero_where_absent c = decided_by_failed_part c.is_list_zero_where_absent.result c.if-not-is_list_zero_where_absent.true c.is_list_zero_where_absent.ensures (λ v. zero-where-absent-if-valid (state_of c.args.self.now).bus v RomBytes)

pub returns-then-not-is_list_zero_where_absent-2 : goal.returns-then-not-is_list_zero_where_absent-2
returns-then-not-is_list_zero_where_absent-2 c = decided_by_failed_part c.is_list_zero_where_absent-2.result c.if-not-is_list_zero_where_absent-2.true c.is_list_zero_where_absent-2.ensures (λ v. zero-where-absent-if-valid (state_of c.args.self.now).bus v RamNibbles)

pub returns-then-not-is_list_zero_where_absent-3 : goal.returns-then-not-is_list_zero_where_absent-3
returns-then-not-is_list_zero_where_absent-3 c = decided_by_failed_part c.is_list_zero_where_absent-3.result c.if-not-is_list_zero_where_absent-3.true c.is_list_zero_where_absent-3.ensures (λ v. zero-where-absent-if-valid (state_of c.args.self.now).bus v StatusCharacters)

pub returns-then-not-is_list_zero_where_absent-4 : goal.returns-then-not-is_list_zero_where_absent-4
returns-then-not-is_list_zero_where_absent-4 c = decided_by_failed_part c.is_list_zero_where_absent-4.result c.if-not-is_list_zero_where_absent-4.true c.is_list_zero_where_absent-4.ensures (λ v. zero-where-absent-if-valid (state_of c.args.self.now).bus v RamPorts)

pub returns-then-not-is_list_zero_where_absent-5 : goal.returns-then-not-is_list_zero_where_absent-5
returns-then-not-is_list_zero_where_absent-5 c = decided_by_failed_part c.is_list_zero_where_absent-5.result c.if-not-is_list_zero_where_absent-5.true c.is_list_zero_where_absent-5.ensures (λ v. zero-where-absent-if-valid (state_of c.args.self.now).bus v BankSrcBytes)

pub returns : goal.returns
returns c =
    let s = (state_of c.args.self.now).bus in
    let zero = zero-where-absent-in-each-list s (c.is_list_zero_where_absent.ensures.0 c.if-not-is_list_zero_where_absent.false) (c.is_list_zero_where_absent-2.ensures.0 c.if-not-is_list_zero_where_absent-2.false) (c.is_list_zero_where_absent-3.ensures.0 c.if-not-is_list_zero_where_absent-3.false) (c.is_list_zero_where_absent-4.ensures.0 c.if-not-is_list_zero_where_absent-4.false) (c.is_list_zero_where_absent-5.ensures.0 c.if-not-is_list_zero_where_absent-5.false) in
    decided_by_last_part c.latches_can_hold.result c.latches_can_hold.ensures (λ ports. absent-parts-zero-if-lists-zero s c.requires zero (subst (λ (xs : List ℕ). (chip : ℕ) → latch_can_hold (rom_masks s.board chip) (slice_index xs chip)) c.bytes.ensures ports)) (λ v. subst (λ (xs : List ℕ). (chip : ℕ) → latch_can_hold (rom_masks s.board chip) (slice_index xs chip)) (sym c.bytes.ensures) v.rom_ports)
