use Rattle.std.proofs.Common.{◌∙◌, ap}
use Rattle.mcs_source.specs.Assembly.{is_defined}
use Rattle.mcs_asm.specs.Passes.{FirstPassState}
use Rattle.mcs_asm.proofs.NameLists.{agrees_after_push}
use Rattle.mcs_asm.proofs.names.Names.define.Goals as goal

pub invariant_of-self-2 : goal.invariant_of-self-2
invariant_of-self-2 c =
    let unknown = ap (λ (b : FirstPassState). is_defined c.args.name.now b.names) c.self.view_is ∙ c.requires.unknown in
    (c.self.invariant.0, agrees_after_push c.args.name c.args.value c.self.inside.values c.insert.new.self c.self.inside.names.items c.push.new.self.items c.push.ensures.items unknown c.in_ok-insert.ensures.updates c.self.invariant.1)
