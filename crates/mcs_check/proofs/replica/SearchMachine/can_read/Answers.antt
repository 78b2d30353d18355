use Rattle.std.proofs.Common.{◌∙◌, ◌&&◌, ◌-◌, nat_le, ap, sym, subst, eqb}
use Rattle.std.proofs.lemmas.Bool.{or_parts, eqb-false, leb-false}
use Rattle.mcs_model.specs.Levels.{port_of}
use Rattle.mcs_check.specs.ReadPoints.{Reads, is_bit_subset, set_bits}
use Rattle.mcs_check.proofs.ValuesRead.{cannot_read-without_input, jcn_cannot_read-above_limit, rdr_cannot_read-impossible_bits}
use Rattle.mcs_check.proofs.replica.SearchMachine.can_read.Goals as goal

pub returns-in-NoInput : goal.returns-in-NoInput
returns-in-NoInput c = λ no.
    let s = c.args.self.now in
    let parts = or_parts (eqb c.args.value 0) (eqb s.0.owed 1) (sym c.may_try_without_read.ensures ∙ no) in
    cannot_read-without_input c.args.limits.now c.args.value s (subst (Reads s) c.in-NoInput.is c.requires.reads) parts.1 (eqb-false c.args.value 0 parts.0)

pub returns-in-Test : goal.returns-in-Test
returns-in-Test c = λ no.
    let s = c.args.self.now in
    jcn_cannot_read-above_limit c.args.limits.now c.args.value s (subst (Reads s) c.in-Test.is c.requires.reads) (leb-false c.args.value c.args.limits.now.test (sym c.allow_test_level.ensures ∙ no))

pub returns-in-Port : goal.returns-in-Port
returns-in-Port c = λ no.
    let s = c.args.self.now in
    let v = c.args.value in
    let together = c.args.limits.now.together in
    let same = sym (ap (λ n. (is_bit_subset n v && is_bit_subset v (port_of s.1)) && nat_le (set_bits v - set_bits n) together) c.requires.least)
    ∙ sym (ap (λ n. (is_bit_subset c.args.least v && is_bit_subset v n) && nat_le (set_bits v - set_bits c.args.least) together) c.requires.most)
    ∙ sym (ap (λ n. (is_bit_subset c.args.least v && is_bit_subset v c.args.most) && nat_le (set_bits v - set_bits c.args.least) n) c.together.ensures) in
    rdr_cannot_read-impossible_bits c.args.limits.now v s (subst (Reads s) c.in-Port.is c.requires.reads) c.requires.fit c.requires.keys (same ∙ sym c.is_readable.ensures ∙ no)
