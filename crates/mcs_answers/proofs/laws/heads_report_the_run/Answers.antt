use Rattle.std.proofs.Common.{ℕ, List, ◌++◌, ◌∙◌, codes, length, ap, append_assoc}
use Rattle.std.specs.Fmt.{decimal}
use Rattle.mcs_model.specs.Command.{machine_of, stops_of}
use Rattle.mcs_model.specs.Running.{run_length, run_stop_reason}
use Rattle.mcs_answers.specs.AnswerTexts.{stop_name}
use Rattle.mcs_answers.proofs.laws.heads_report_the_run.Goals as goal

pub returns : goal.returns
returns c = λ word b n lines.
    let cycles = decimal (run_length (stops_of b) n (machine_of b)) in
    let stop = stop_name (run_stop_reason (stops_of b) n (machine_of b)) in
    ap (λ (v : List ℕ). v ++ codes " lines " ++ decimal (length lines))
    (append_assoc (word ++ codes " ran " ++ cycles) (codes " ") stop
    ∙ append_assoc (word ++ codes " ran ") cycles (codes " " ++ stop)
    ∙ append_assoc word (codes " ran ") (cycles ++ (codes " " ++ stop)))
