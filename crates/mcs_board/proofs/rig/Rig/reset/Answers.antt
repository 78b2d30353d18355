use Rattle.std.proofs.Common.{◌≡◌, ◌∙◌, refl, sym, ap, arith, length, ℕ}
use Rattle.std.proofs.lemmas.Bool.{eqb-true}
use Rattle.mcs_model.specs.ChipWrites.{after_reset}
use Rattle.std.proofs.Common.{replicate}
use Rattle.mcs_board.specs.RigState.{absent_bank}
use Rattle.std.proofs.Common.{get_or}
use Rattle.mcs_board.specs.RigFields.{rig_parts}
use Rattle.mcs_board.proofs.LifecycleLemmas.{AllBlank, each_socket-after_reset, state-after_reset, matches_board-after_reset}
use Rattle.mcs_board.proofs.rig.Rig.reset.Goals as goal

pub returns-then-is_empty : goal.returns-then-is_empty
returns-then-is_empty g c =
    let i = c.self.inside in
    let v = c.self.invariant in
    let none : length i.chains.items ≡ 0 = ap length (sym c.as_slice.ensures.value) ∙ eqb-true (length c.as_slice.result.now) 0 (sym c.is_empty.ensures ∙ c.if-is_empty.true) in
    let every = each_socket-after_reset i.roms.items c.clear_ports.new.roms.items c.clear_ports.ensures.count c.clear_ports.ensures.roms in
    let blank : AllBlank c.clear_banks.new.banks.items (λ k. (get_or i.banks.items k absent_bank).chip_count) = record { at = λ k h. c.clear_banks.ensures.banks k (let n = c.clear_banks.ensures.count in omega arith) } in
    state-after_reset (rig_parts i) c.clear_ports.new.roms.items c.clear_banks.new.banks.items i.chains.items (λ k. (get_or i.banks.items k absent_bank).chip_count) every blank (omega (arith, v.chains_fit, v.chains_len)) (λ k h. absurd (omega (arith, v.chains_fit, v.chains_len)))
    ∙ ap after_reset c.self.view_is

pub returns : goal.returns
returns g c =
    let i = c.self.inside in
    let v = c.self.invariant in
    let every = each_socket-after_reset i.roms.items c.clear_ports.new.roms.items c.clear_ports.ensures.count c.clear_ports.ensures.roms in
    let blank : AllBlank c.clear_banks.new.banks.items (λ k. (get_or i.banks.items k absent_bank).chip_count) = record { at = λ k h. c.clear_banks.ensures.banks k (let n = c.clear_banks.ensures.count in omega arith) } in
    state-after_reset (rig_parts i) c.clear_ports.new.roms.items c.clear_banks.new.banks.items c.clear_chains.new.chains.items (λ k. (get_or i.banks.items k absent_bank).chip_count) every blank (omega (arith, v.chains_fit, v.chains_len, c.clear_chains.ensures.count)) (λ k h. c.clear_chains.ensures.rows k (omega (arith, v.chains_fit, v.chains_len)) ∙ ap (λ (n : ℕ). replicate n 0) (v.bits k h))
    ∙ ap after_reset c.self.view_is

pub invariant_of-self : goal.invariant_of-self
invariant_of-self g c =
    let i = c.self.inside in
    let v = c.self.invariant in
    let none : length i.chains.items ≡ 0 = ap length (sym c.as_slice.ensures.value) ∙ eqb-true (length c.as_slice.result.now) 0 (sym c.is_empty.ensures ∙ c.if-is_empty.true) in
    let every = each_socket-after_reset i.roms.items c.clear_ports.new.roms.items c.clear_ports.ensures.count c.clear_ports.ensures.roms in
    let blank : AllBlank c.clear_banks.new.banks.items (λ k. (get_or i.banks.items k absent_bank).chip_count) = record { at = λ k h. c.clear_banks.ensures.banks k (let n = c.clear_banks.ensures.count in omega arith) } in
    matches_board-after_reset (rig_parts i) c.clear_ports.new.roms.items c.clear_banks.new.banks.items i.chains.items g.row.ROMS g.row.BANKS g.row.CHAINS v c.clear_ports.ensures.count c.clear_banks.ensures.count refl every blank (λ k h. absurd (omega (arith, v.chains_fit, v.chains_len)))

pub invariant_of-self-2 : goal.invariant_of-self-2
invariant_of-self-2 g c =
    let i = c.self.inside in
    let v = c.self.invariant in
    let every = each_socket-after_reset i.roms.items c.clear_ports.new.roms.items c.clear_ports.ensures.count c.clear_ports.ensures.roms in
    let blank : AllBlank c.clear_banks.new.banks.items (λ k. (get_or i.banks.items k absent_bank).chip_count) = record { at = λ k h. c.clear_banks.ensures.banks k (let n = c.clear_banks.ensures.count in omega arith) } in
    matches_board-after_reset (rig_parts i) c.clear_ports.new.roms.items c.clear_banks.new.banks.items c.clear_chains.new.chains.items g.row.ROMS g.row.BANKS g.row.CHAINS v c.clear_ports.ensures.count c.clear_banks.ensures.count c.clear_chains.ensures.count every blank (λ k h. c.clear_chains.ensures.rows k (omega (arith, v.chains_fit, v.chains_len)) ∙ ap (λ (n : ℕ). replicate n 0) (v.bits k h))
