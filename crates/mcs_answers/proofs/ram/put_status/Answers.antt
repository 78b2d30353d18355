use Rattle.std.proofs.Common.{◌≡◌, ◌+◌, ◌*◌, ◌++◌, ◌∷◌, [], get_or, arith, ap, ◌∙◌}
use Rattle.mcs_model.specs.QueryText.{hex_digit}
use Rattle.mcs_model.specs.Bus.{status_index}
use Rattle.mcs_answers.proofs.AppendedTexts.{append_in_sublist}
use Rattle.mcs_answers.proofs.ram.put_status.Goals as goal

pub loop-k-preserved : goal.loop-k-preserved
loop-k-preserved c =
    let status = c.args.bench.now.bus.status in
    let at : status_index c.args.bank c.low_of-high.result c.loop-k.k ≡ (c.args.bank * 64 + c.args.chip * 16 + c.args.r * 4) + c.loop-k.k = omega (arith, c.low_of-high.ensures) in
    record {
      text = append_in_sublist hex_digit status (c.args.bank * 64 + c.args.chip * 16 + c.args.r * 4) c.loop-k.k _ _ _ (omega (arith, c.show_ram_sizes.ensures.status)) c.loop-k.invariant.text
          (c.push.ensures.items
          ∙ ap (λ v. c.loop-k.answer.items ++ v ∷ []) (c.hex_digit.ensures ∙ ap hex_digit (c.get.ensures.value ∙ c.status-character.ensures ∙ ap (λ v. get_or status v 0) at)));
      count = omega arith;
    }
