-- The program's command line, and the meaning of its arguments by clap's specification.
use Rattle.std.specs.Prelude.{List, Bool, true, codes, Option, None, ◌||◌, if◌then◌else◌, option_map, option_and_then}
use Rattle.std.specs.Str.{bytes_eq}
use Rattle.clap.specs.Words.{App, Row, Rule, Text, first_of, new_app, new_rule, subcommand_of, takes, with_rule, with_subcommand}
use Rattle.mcs_host.specs.declared.arguments.Choice.{Choice}
use Rattle.mcs_host.specs.declared.arguments.Choice.TheVariants.{New, Open}

-- the rule for the argument FILE, which is required
abbrev pub file_rule : Rule
file_rule = record (new_rule (codes "FILE")) { required = true }

-- a subcommand with this name, which takes the argument FILE
abbrev pub subcommand_with_file : Text → App
subcommand_with_file name = with_rule (new_app name) file_rule

-- the command line of the program: `mcs4 new FILE` and `mcs4 open FILE`
abbrev pub program : App
program =
    with_subcommand (with_subcommand (new_app (codes "mcs4")) (subcommand_with_file (codes "new")).top)
    (subcommand_with_file (codes "open")).top

-- true if these arguments are valid for `program`, by clap's specification; the first argument is
-- the program's name
unfoldable pub accepts_arguments : List Text → Bool
accepts_arguments arguments = takes program arguments

-- the subcommand `new` or `open` with its FILE; `None` if the arguments have another subcommand or
-- no FILE
abbrev pub subcommand_and_file : Text × List Row → Option (Text × Text)
subcommand_and_file entered =
    if bytes_eq entered.0 (codes "new") || bytes_eq entered.0 (codes "open")
    then option_map (λ file. (entered.0, file)) (first_of (codes "FILE") entered.1) else None

-- the subcommand (`new` or `open`) and the FILE that these arguments select, or `None` if they
-- select none
unfoldable pub choice_in : List Text → Option (Text × Text)
choice_in arguments = option_and_then subcommand_and_file (subcommand_of program arguments)

-- the subcommand and the FILE that select this choice
abbrev pub arguments_of_choice : Choice → Text × Text
arguments_of_choice (New file) = (codes "new", file)
arguments_of_choice (Open file) = (codes "open", file)
