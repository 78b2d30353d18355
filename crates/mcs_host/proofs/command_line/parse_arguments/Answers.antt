use Rattle.std.proofs.Common.{rules, ap, ap₂, refl, codes, true, map, ◌≡◌, ◌∙◌}
use Rattle.std.proofs.lemmas.Result.{IfErr-weaker, IfOk-weaker}
use Rattle.clap.specs.Words.{App, app_of, is_simple, rule_of, subcommand_of, takes, with_rule, with_subcommand}
use Rattle.clap.proofs.OnLiterals.{clap_on_literals}
use Rattle.mcs_host.specs.CommandLine.{file_rule, accepts_arguments, subcommand_with_file, program}
use Rattle.mcs_host.proofs.command_line.parse_arguments.Goals as goal

is_simple_program : is_simple program ≡ true
unfolding clap_on_literals
is_simple_program = refl

pub returns : goal.returns
unfolding accepts_arguments
returns g c =
    let new_file_is : rule_of c.required-new_file.result ≡ file_rule = search rules in
    let open_file_is : rule_of c.required-open_file.result ≡ file_rule = search rules in
    let new_command_is : app_of c.in_ok-new_command.new_command ≡ subcommand_with_file (codes "new") = c.in_ok-new_command.ensures.shape (search rules)
    ∙ ap₂ with_rule c.new-2.ensures.app new_file_is in
    let open_command_is : app_of c.in_ok-open_command.open_command ≡ subcommand_with_file (codes "open") = c.in_ok-open_command.ensures.shape (search rules)
    ∙ ap₂ with_rule c.new-4.ensures.app open_file_is in
    let program_is : app_of c.in_ok-app_with_both.app_with_both ≡ program = c.in_ok-app_with_both.ensures.shape (search rules)
    ∙ ap₂ with_subcommand (c.in_ok-app_with_new.ensures.shape (search rules) ∙ ap₂ with_subcommand c.new-app.ensures.app (ap (λ (a : App). a.top) new_command_is)) (ap (λ (a : App). a.top) open_command_is) in
    let arguments = map g.S.AsStr.text c.args.arguments.now in
    let parse = c.try_get_matches_from in
    record {
      ok = IfOk-weaker parse.result _ _ (λ m h. (h (ap is_simple program_is ∙ is_simple_program)).1 ∙ ap (λ (a : App). subcommand_of a arguments) program_is) parse.ensures.matches;
      err = IfErr-weaker parse.result _ _ (λ e h taken. h (ap (λ (a : App). takes a arguments) program_is ∙ taken)) parse.ensures.passes;
    }
