use Rattle.std.proofs.Common.{◌≡◌, ℕ, List, ◌++◌, codes, map, ap, ◌∙◌, arith}
use Rattle.std.specs.Fmt.{decimal}
use Rattle.mcs_model.specs.declared.regs.Regs.{Regs}
use Rattle.mcs_model.specs.QueryText.{address_text, two_hex_digits, comma_list, watch_text}
use Rattle.mcs_answers.proofs.StateText.{state_text_from_parts}
use Rattle.mcs_answers.proofs.state.put_state.Goals as goal

pub returns : goal.returns
returns c =
    let s = c.args.bench.now in
    let count : c.from.result ≡ s.seq = omega arith in
    state_text_from_parts s _ _ _ _ _ _ _ _ _ _ _ _ _ _ _
    (c.put_word_and_number.ensures.text
    ∙ ap (λ (v : List ℕ). v ++ (codes "state seq " ++ decimal c.from.result)) c.requires
    ∙ ap (λ (n : ℕ). codes "state seq " ++ decimal n) count)
    c.put.ensures.text
    c.put_registers.ensures.text
    (c.put_address_list.ensures.text
    ∙ ap (λ (r : Regs). c.put_registers.new.answer.items ++ codes " ret " ++ comma_list (map address_text r.ret)) c.regs.ensures.same)
    (c.put_byte.ensures.text ∙ ap (λ (n : ℕ). c.put_address_list.new.answer.items ++ codes " src " ++ two_hex_digits n) c.rom_src.ensures)
    c.put_bank_list.ensures.text
    c.put_rom_list.ensures.text
    c.put_ram_list.ensures.text
    c.put_chain_list.ensures.text
    c.put_key_list.ensures.text
    c.put-2.ensures.text
    c.put_lamps_without_line_feed.ensures.text
    (c.put_address_list-2.ensures.text
    ∙ ap (λ (v : List ℕ). c.put_lamps_without_line_feed.new.answer.items ++ codes " breaks " ++ comma_list (map address_text v)) c.breaks.ensures.same)
    (c.put_watch_list.ensures.text
    ∙ ap (λ (v : List ℕ). c.put_address_list-2.new.answer.items ++ codes " watches " ++ comma_list (map watch_text v)) c.watches.ensures.same)
    c.put-3.ensures.text
