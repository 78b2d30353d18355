use Rattle.std.proofs.Common.{Some, unwrap_or, ◌≡◌, ◌∙◌, ◌+◌, ◌*◌, ◌/◌, ◌<◌, false, eqb, nat_lt, inl, inr, refl, sym, ap, slice_index, length, arith}
use Rattle.std.proofs.lemmas.Bool.{eqb-true}
use Rattle.mcs_model.specs.declared.regs.Regs.{Regs}
use Rattle.mcs_model.specs.declared.board.BoardParts.{BoardParts}
use Rattle.mcs_model.specs.Listed.{is_listed}
use Rattle.mcs_model.specs.Bus.{fetch_of, has_chip, src_of}
use Rattle.mcs_model.specs.declared.op.Op.{Op}
use Rattle.mcs_model.specs.declared.op.Op.TheVariants.{Wrm}
use Rattle.mcs_model.specs.Effect.{instruction_at}
use Rattle.mcs_model.specs.Running.{Machine}
use Rattle.mcs_bench.specs.Runs.{selected_index}
use Rattle.mcs_bench.proofs.Runs.{predicts-change-if-value-differs, predicts-no-change-if-value-equal}
use Rattle.mcs_bench.proofs.running.op_changes_watch.Goals as goal

some-is-injective : {a b : Op} → Some a ≡ Some b → a ≡ b
some-is-injective {a} {b} e = ap (λ o. unwrap_or o a) e

pub returns-then-not-is_wrm : goal.returns-then-not-is_wrm
returns-then-not-is_wrm c = inl (inr (λ e. let on = c.is_wrm.ensures.1 (some-is-injective (sym c.requires ∙ e)) in let off = c.if-not-is_wrm.true in cc), refl)

pub returns-then-eq : goal.returns-then-eq
unfolding fetch_of
returns-then-eq c =
    let t : Machine = (record c.args.cpu.now { pc = c.args.at }, c.args.rig.now) in
    let writes : instruction_at t.0 t.1 ≡ Some Wrm = c.requires ∙ ap Some (c.is_wrm.ensures.0 c.if-not-is_wrm.false) in
    let dcl : c.regs-regs.result.dcl ≡ c.args.cpu.now.dcl = ap (λ (r : Regs). r.dcl) c.regs-regs.ensures.same in
    let acc : c.regs-regs.result.acc ≡ c.args.cpu.now.acc = ap (λ (r : Regs). r.acc) c.regs-regs.ensures.same in
    let src : c.ram_src-src.result ≡ slice_index c.args.rig.now.ram_src c.args.cpu.now.dcl = c.ram_src-src.ensures ∙ ap (slice_index c.args.rig.now.ram_src) dcl in
    let place : c.regs-regs.result.dcl * 256 + c.ram_src-src.result ≡ selected_index t = cc (dcl, src) in
    let same : c.ram.result ≡ c.regs-regs.result.acc = eqb-true c.ram.result c.regs-regs.result.acc (sym c.eq.ensures ∙ c.if-eq.true) in
    predicts-no-change-if-value-equal c.args.watches.now t writes
    (ap (slice_index c.args.rig.now.ram) (sym place) ∙ sym c.ram.ensures ∙ same ∙ acc)

pub returns : goal.returns
unfolding fetch_of
returns c =
    let t : Machine = (record c.args.cpu.now { pc = c.args.at }, c.args.rig.now) in
    let writes : instruction_at t.0 t.1 ≡ Some Wrm = c.requires ∙ ap Some (c.is_wrm.ensures.0 c.if-not-is_wrm.false) in
    let dcl : c.regs-regs.result.dcl ≡ c.args.cpu.now.dcl = ap (λ (r : Regs). r.dcl) c.regs-regs.ensures.same in
    let acc : c.regs-regs.result.acc ≡ c.args.cpu.now.acc = ap (λ (r : Regs). r.acc) c.regs-regs.ensures.same in
    let src : c.ram_src-src.result ≡ slice_index c.args.rig.now.ram_src c.args.cpu.now.dcl = c.ram_src-src.ensures ∙ ap (slice_index c.args.rig.now.ram_src) dcl in
    let place : c.regs-regs.result.dcl * 256 + c.ram_src-src.result ≡ selected_index t = cc (dcl, src) in
    let new : eqb (slice_index c.args.rig.now.ram (selected_index t)) c.args.cpu.now.acc ≡ false = ap (λ p. eqb (slice_index c.args.rig.now.ram p) c.args.cpu.now.acc) (sym place) ∙ ap (λ n. eqb n c.args.cpu.now.acc) (sym c.ram.ensures) ∙ ap (eqb c.ram.result) (sym acc) ∙ sym c.eq.ensures ∙ c.if-eq.false in
    let count = c.show_state_is_valid.ensures.in_range.ram.has_count in
    let few = c.regs-regs.ensures.dcl in
    let byte = c.ram_src-src.type_inv in
    let inside : selected_index t < length c.args.rig.now.ram = omega (arith, place, count, few, byte) in
    let chips : c.bank_chips.result ≡ slice_index c.args.rig.now.board.banks c.args.cpu.now.dcl = c.bank_chips.ensures ∙ ap (λ (b : BoardParts). slice_index b.banks c.regs-regs.result.dcl) c.board.ensures ∙ ap (slice_index c.args.rig.now.board.banks) dcl in
    let there : has_chip c.args.rig.now c.args.cpu.now.dcl (src_of c.args.rig.now c.args.cpu.now.dcl) ≡ nat_lt (c.ram_src-src.result / 64) c.bank_chips.result = ap (λ n. nat_lt (n / 64) (slice_index c.args.rig.now.board.banks c.args.cpu.now.dcl)) (sym src) ∙ ap (nat_lt (c.ram_src-src.result / 64)) (sym chips) in
    predicts-change-if-value-differs c.args.watches.now t _ writes
    (ap (is_listed c.args.watches.now) (sym place) ∙ sym c.contains.ensures ∙ c.if-not-contains.false) new inside there
