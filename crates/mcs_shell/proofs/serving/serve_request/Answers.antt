use Rattle.mcs_shell.proofs.MayAnswer.{may_write_answer_to_input}
use Rattle.mcs_shell.proofs.AnsweredInputs.{serves_one_input}
use Rattle.mcs_shell.proofs.serving.serve_request.Goals as goal

pub returns-clause-served : goal.returns-clause-served
returns-clause-served g c = serves_one_input _ _ _ _ _ _ c.answer_request-outcome.ensures c.deliver.ensures.wrote

pub deliver-requires : goal.deliver-requires
deliver-requires g c = may_write_answer_to_input _ c.args.session.now _ _ _ _ c.answer_request-outcome.ensures c.bench-before.ensures.represents c.bench-bench.ensures.represents
