use Rattle.std.proofs.Common.{◌≡◌, ◌+◌, ◌*◌, ◌++◌, ◌∷◌, [], get_or, arith, ap, ◌∙◌}
use Rattle.mcs_model.specs.QueryText.{hex_digit}
use Rattle.mcs_answers.proofs.AppendedTexts.{append_in_sublist}
use Rattle.mcs_answers.proofs.ram.put_ram_nibbles.Goals as goal

pub loop-k-preserved : goal.loop-k-preserved
loop-k-preserved c =
    let ram = c.args.bench.now.bus.ram in
    let at : c.args.bank * 256 + (c.args.chip * 64 + c.args.r * 16 + c.loop-k.k) ≡ (c.args.bank * 256 + c.args.chip * 64 + c.args.r * 16) + c.loop-k.k = omega arith in
    record {
      text = append_in_sublist hex_digit ram (c.args.bank * 256 + c.args.chip * 64 + c.args.r * 16) c.loop-k.k _ _ _ (omega (arith, c.show_ram_sizes.ensures.ram)) c.loop-k.invariant.text
          (c.push.ensures.items
          ∙ ap (λ v. c.loop-k.answer.items ++ v ∷ []) (c.hex_digit.ensures ∙ ap hex_digit (c.get.ensures.value ∙ c.ram-character.ensures ∙ ap (λ v. get_or ram v 0) at)));
      count = omega arith;
    }
