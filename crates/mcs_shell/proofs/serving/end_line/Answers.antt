use Rattle.std.proofs.Common.{rules, sym, ◌∙◌, ap}
use Rattle.mcs_shell.specs.Inputs.{kind_of_begun_text}
use Rattle.mcs_shell.proofs.LineFeeds.{no_text_begun}
use Rattle.mcs_shell.proofs.Exchanges.{serves_feed_after_text_begins, serves_feed_after_command, serves_feed_after_text_line, serves_feed_after_dot_line}
use Rattle.mcs_shell.proofs.serving.end_line.Goals as goal

pub returns-in-Begin-clause-fed : goal.returns-in-Begin-clause-fed
returns-in-Begin-clause-fed g c =
    serves_feed_after_text_begins _ _ _ c.without_carriage_return-line.result.now c.in-Begin.kind c.requires c.in-None.ensures (search rules) (sym c.parse_request.ensures ∙ c.in-Begin.is) c.open.ensures

pub returns-in-Ok-clause-fed : goal.returns-in-Ok-clause-fed
returns-in-Ok-clause-fed g c =
    serves_feed_after_command _ _ _ _ c.without_carriage_return-line.result.now _ c.requires c.in-None.ensures (search rules)
    (ap kind_of_begun_text (sym c.parse_request.ensures) ∙ no_text_begun _ c.in_default.not-Begin) (λ go. c.clear.ensures) (rw c.parse_request.ensures at c.in-Ok.ensures.served)

pub returns-in-Err-clause-fed : goal.returns-in-Err-clause-fed
returns-in-Err-clause-fed g c =
    serves_feed_after_command _ _ _ _ c.without_carriage_return-line.result.now _ c.requires c.in-None.ensures (search rules)
    (ap kind_of_begun_text (sym c.parse_request.ensures) ∙ no_text_begun _ c.in_default.not-Begin) (λ go. absurd (cc go)) (rw c.parse_request.ensures at c.in-Err.ensures.served)

pub returns-in-Ok-serve_text-clause-fed : goal.returns-in-Ok-serve_text-clause-fed
returns-in-Ok-serve_text-clause-fed g c =
    serves_feed_after_dot_line _ _ _ _ c.without_carriage_return-line.result.now c.in-Some.kind c.in-Some.text.now _ c.requires (search rules) (search rules)
    (sym c.ends_text.ensures ∙ c.if-ends_text.true) (λ go. c.clear-in-Ok-serve_text.ensures) c.in-Ok-serve_text.ensures.served

pub returns-in-Err-serve_text-clause-fed : goal.returns-in-Err-serve_text-clause-fed
returns-in-Err-serve_text-clause-fed g c =
    serves_feed_after_dot_line _ _ _ _ c.without_carriage_return-line.result.now c.in-Some.kind c.in-Some.text.now _ c.requires (search rules) (search rules)
    (sym c.ends_text.ensures ∙ c.if-ends_text.true) (λ go. absurd (cc go)) c.in-Err-serve_text.ensures.served

pub returns-else-ends_text-clause-fed : goal.returns-else-ends_text-clause-fed
returns-else-ends_text-clause-fed g c =
    serves_feed_after_text_line _ _ _ c.without_carriage_return-line.result.now c.in-Some.kind c.in-Some.text.now c.requires (search rules) (search rules)
    (sym c.ends_text.ensures ∙ c.if-ends_text.false) c.end_line.ensures
