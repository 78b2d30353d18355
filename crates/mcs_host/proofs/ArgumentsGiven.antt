-- The result of parsing the arguments: the subcommand, if there is one, and its FILE.
use Rattle.std.proofs.Common.{◌≡◌, ◌∙◌, sym, ap, refl, List, Bool, true, false, ◌||◌, if◌then◌else◌, Option, Some, None, codes, option_map}
use Rattle.std.specs.Prelude.{option_and_then, Box}
use Rattle.std.specs.Box.{box_value}
use Rattle.std.specs.Str.{bytes_eq}
use Rattle.clap.specs.Words.{Row, Text, first_of, first_value, found_of, rows_of, subcommand_name_of, subcommand_of, subcommand_rows, subcommand_rows_of}
use Rattle.clap.specs.declared.parser.matches.ArgMatches.{ArgMatches}
use Rattle.clap.specs.declared.parser.matches.ArgMatches.TheViews.{out-ArgMatches, out-SubCommand}
use Rattle.clap.specs.declared.parser.matches.SubCommand.{SubCommand}
use Rattle.clap.proofs.WalkLemmas.{first_value-rows}
use Rattle.mcs_host.specs.CommandLine.{choice_in, subcommand_and_file, program}

-- if an optional pair has this name and these rows, it is `Some (name, rows)`
pair_of_name_and_rows : (entered : Option (Text × List Row)) (name : Text) (rows : List Row) → option_map (λ p. p.0) entered ≡ Some name → option_map (λ p. p.1) entered ≡ Some rows → entered ≡ Some (name, rows)
pair_of_name_and_rows None name rows named rowed = absurd (cc)
pair_of_name_and_rows (Some p) name rows named rowed =
    let same_name : p.0 ≡ name = cc in
    let same_rows : p.1 ≡ rows = cc in
    ap (λ n. Some (n, p.1)) same_name ∙ ap (λ r. Some (name, r)) same_rows

-- the name of the subcommand is the same in the matches and in `subcommand_rows`
name_of_subcommand_rows : {Z : Type 0} (sub : Option (Box SubCommand Z)) → option_map (λ p. p.0) (subcommand_rows sub) ≡ option_map (λ b. (out-SubCommand (box_value b)).name.now) sub
name_of_subcommand_rows None = refl
name_of_subcommand_rows (Some b) = refl

no_rows_without_subcommand_name : {Z : Type 0} (sub : Option (Box SubCommand Z)) → option_map (λ b. (out-SubCommand (box_value b)).name.now) sub ≡ None → subcommand_rows sub ≡ None
no_rows_without_subcommand_name None unnamed = refl
no_rows_without_subcommand_name (Some b) unnamed = absurd (cc)

-- if the matches have the subcommand `name`, the choice is `name` with its FILE
pub choice_of_subcommand : (arguments : List Text) (m sub : ArgMatches) (name : Text) → subcommand_rows_of m ≡ subcommand_of program arguments
    → subcommand_name_of m ≡ Some name
    → option_map (λ p. p.1) (subcommand_rows (out-ArgMatches m).subcommand) ≡ Some (rows_of (found_of sub))
    → choice_in arguments ≡ subcommand_and_file (name, rows_of (found_of sub))
unfolding choice_in
choice_of_subcommand arguments m sub name parsed named rowed = ap (option_and_then subcommand_and_file)
    (sym parsed ∙ pair_of_name_and_rows (subcommand_rows_of m) name (rows_of (found_of sub)) (name_of_subcommand_rows (out-ArgMatches m).subcommand ∙ named) rowed)

-- if the matches have no subcommand, there is no choice
pub no_choice_without_subcommand : (arguments : List Text) (m : ArgMatches) → subcommand_rows_of m ≡ subcommand_of program arguments → subcommand_name_of m ≡ None → choice_in arguments ≡ None
unfolding choice_in
no_choice_without_subcommand arguments m parsed unnamed = ap (option_and_then subcommand_and_file) (sym parsed ∙ no_rows_without_subcommand_name (out-ArgMatches m).subcommand unnamed)

pub new_subcommand_with_file : (sub : ArgMatches) (file : Text) → first_value (found_of sub) (codes "FILE") ≡ Some file → subcommand_and_file (codes "new", rows_of (found_of sub)) ≡ Some (codes "new", file)
new_subcommand_with_file sub file found = ap (option_map (λ f. (codes "new", f))) (sym (first_value-rows (found_of sub) (codes "FILE")) ∙ found)

pub open_subcommand_with_file : (sub : ArgMatches) (file : Text) → first_value (found_of sub) (codes "FILE") ≡ Some file → subcommand_and_file (codes "open", rows_of (found_of sub)) ≡ Some (codes "open", file)
open_subcommand_with_file sub file found = ap (option_map (λ f. (codes "open", f))) (sym (first_value-rows (found_of sub) (codes "FILE")) ∙ found)

if_with_equal_branches : (v : Bool) (x : Option (Text × Text)) → (if v then x else x) ≡ x
if_with_equal_branches true x = refl
if_with_equal_branches false x = refl

pub no_subcommand_without_file : (sub : ArgMatches) (name : Text) → first_value (found_of sub) (codes "FILE") ≡ None → subcommand_and_file (name, rows_of (found_of sub)) ≡ None
no_subcommand_without_file sub name missing =
    let none : first_of (codes "FILE") (rows_of (found_of sub)) ≡ None = sym (first_value-rows (found_of sub) (codes "FILE")) ∙ missing in
    ap (λ r. if bytes_eq name (codes "new") || bytes_eq name (codes "open") then option_map (λ f. (name, f)) r else None) none
    ∙ if_with_equal_branches (bytes_eq name (codes "new") || bytes_eq name (codes "open")) None
