use Rattle.std.proofs.Common.{rules, ◌≡◌, ◌∙◌, sym, ap, map, codes, List, ℕ, Some, false, refl}
use Rattle.std.specs.Str.{bytes_eq}
use Rattle.clap.specs.Words.{found_of, rows_of}
use Rattle.mcs_host.specs.CommandLine.{subcommand_and_file}
use Rattle.mcs_host.proofs.ArgumentsGiven.{choice_of_subcommand, no_choice_without_subcommand, new_subcommand_with_file, open_subcommand_with_file, no_subcommand_without_file}
use Rattle.mcs_host.proofs.command_line.choice.Goals as goal

pub returns-in_default-clause-usage : goal.returns-in_default-clause-usage
returns-in_default-clause-usage g c u t = no_choice_without_subcommand (map g.S.AsStr.text c.args.arguments.now) c.in-Ok.matches c.in-Ok.ensures.ok (sym c.in_default.ensures.name)

pub returns-in_default-get_str-clause-usage : goal.returns-in_default-get_str-clause-usage
returns-in_default-get_str-clause-usage g c u t =
    choice_of_subcommand (map g.S.AsStr.text c.args.arguments.now) c.in-Ok.matches c.in-Some.inner.now c.in-Some.name.now c.in-Ok.ensures.ok (sym c.in-Some.ensures.name) (sym c.in-Some.ensures.rows)
    ∙ no_subcommand_without_file c.in-Some.inner.now c.in-Some.name.now (sym c.in_default-get_str.ensures)

pub returns-in-new-clause-selected : goal.returns-in-new-clause-selected
returns-in-new-clause-selected g c =
    let name : c.in-Some.name.now ≡ codes "new" = search rules in
    let file : c.in-Some-get_str.file.now ≡ c.new-file.result = search rules in
    choice_of_subcommand (map g.S.AsStr.text c.args.arguments.now) c.in-Ok.matches c.in-Some.inner.now c.in-Some.name.now c.in-Ok.ensures.ok (sym c.in-Some.ensures.name) (sym c.in-Some.ensures.rows)
    ∙ ap (λ (n : List ℕ). subcommand_and_file (n, rows_of (found_of c.in-Some.inner.now))) name
    ∙ new_subcommand_with_file c.in-Some.inner.now c.in-Some-get_str.file.now (sym c.in-Some-get_str.ensures)
    ∙ ap (λ (f : List ℕ). Some (codes "new", f)) file

pub returns-in-open-clause-selected : goal.returns-in-open-clause-selected
returns-in-open-clause-selected g c =
    let name : c.in-Some.name.now ≡ codes "open" = search rules in
    let file : c.in-Some-get_str.file.now ≡ c.new-file.result = search rules in
    choice_of_subcommand (map g.S.AsStr.text c.args.arguments.now) c.in-Ok.matches c.in-Some.inner.now c.in-Some.name.now c.in-Ok.ensures.ok (sym c.in-Some.ensures.name) (sym c.in-Some.ensures.rows)
    ∙ ap (λ (n : List ℕ). subcommand_and_file (n, rows_of (found_of c.in-Some.inner.now))) name
    ∙ open_subcommand_with_file c.in-Some.inner.now c.in-Some-get_str.file.now (sym c.in-Some-get_str.ensures)
    ∙ ap (λ (f : List ℕ). Some (codes "open", f)) file

pub returns-clause-usage : goal.returns-clause-usage
returns-clause-usage g c u t =
    let not_new : bytes_eq c.in-Some.name.now (codes "new") ≡ false = search rules in
    let not_open : bytes_eq c.in-Some.name.now (codes "open") ≡ false = search rules in
    choice_of_subcommand (map g.S.AsStr.text c.args.arguments.now) c.in-Ok.matches c.in-Some.inner.now c.in-Some.name.now c.in-Ok.ensures.ok (sym c.in-Some.ensures.name) (sym c.in-Some.ensures.rows)
    ∙ rw (not_new, not_open) refl
