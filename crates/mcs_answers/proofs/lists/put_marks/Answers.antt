use Rattle.std.proofs.Common.{◌≡◌, ◌++◌, ◌∷◌, [], arith, ap, subst, ◌∙◌, get_or, length, ◌<◌}
use Rattle.std.specs.Option.{unwrap_or, option_map}
use Rattle.std.proofs.lemmas.Option.{slice_get-get_or}
use Rattle.mcs_model.specs.declared.board.BoardParts.{BoardParts}
use Rattle.mcs_model.specs.declared.board.Line.TheVariants.{Rom}
use Rattle.mcs_model.specs.Levels.{level}
use Rattle.mcs_model.specs.QueryText.{lamp_mark}
use Rattle.mcs_answers.proofs.AppendedTexts.{append_mapped}
use Rattle.mcs_answers.proofs.lists.put_marks.Goals as goal

pub loop-i-preserved : goal.loop-i-preserved
loop-i-preserved c =
    let bus = c.args.bench.now.bus in
    let lines = bus.board.lamps.items in
    let same : c.parts.result.now ≡ bus.board = c.parts.ensures.same ∙ c.board.ensures in
    let inside : c.loop-i.i < length lines =
    subst (λ (b : BoardParts). c.loop-i.i < length b.lamps.items) same (omega (arith, c.loop-i-test.true, c.len-lamps.ensures.value)) in
    let level_is : c.unwrap_or-level.result ≡ level bus (get_or lines c.loop-i.i (Rom 0 0)) =
    c.unwrap_or-level.ensures
    ∙ ap (λ o. unwrap_or o 0) (c.lamp.ensures ∙ ap (option_map (level bus)) (slice_get-get_or lines c.loop-i.i (Rom 0 0) inside)) in
    record {
      text = append_mapped (λ line. lamp_mark (level bus line)) lines c.loop-i.i (Rom 0 0) _ _ _ inside c.loop-i.invariant.text
          (c.push.ensures.items ∙ ap (λ v. c.loop-i.answer.items ++ v ∷ []) (c.lamp_mark.ensures ∙ ap lamp_mark level_is));
      count = omega arith;
    }
