use Rattle.std.proofs.Common.{◌∙◌, ap}
use Rattle.mcs_source.specs.Assembly.{is_defined}
use Rattle.mcs_asm.specs.Passes.{FirstPassState}
use Rattle.mcs_asm.proofs.NameLists.{is_defined_in_view}
use Rattle.mcs_asm.proofs.names.Names.is_defined.Goals as goal

pub returns : goal.returns
returns c =
    let h = rw (c.deref.ensures.0) at c.contains_name.ensures in
    h ∙ (is_defined_in_view c.args.name.now c.self.inside.names.items ∙ ap (λ (b : FirstPassState). is_defined c.args.name.now b.names) c.self.view_is)
